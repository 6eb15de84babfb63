-- A large value planned and staged: what the code shows at each return.
-- Assumes nothing.
use mathlib.Core.Path.{◌≡◌, refl, sym, ◌∙◌, ap}
use mathlib.Core.Bool.{Bool, true, false}
use mathlib.Core.List.{List, [], ◌∷◌, ◌++◌}
use Prim.Native.Nat.{ℕ, ◌+◌, ◌/◌, ◌%◌, ◌^◌, ◌≤◌, ◌<◌, min}
use native.Mathlib.Omega.{arith}
use lib.Dec.{eqb, leb}
use lib.ListN.{length, get_or, length-append}
use borrow.Author.Tests.{le-leb, ne_eqb}
use Rattle.spec.specs.Basics.{pick, both}
use Rattle.spec.specs.Words.{words_of, packed}
use Rattle.spec.specs.Places.{chunk_units, chunks_in, first_unit, unit_chunk, unit_in, directory_word}
use Rattle.spec.specs.Log.{Entry}
use Rattle.spec.specs.Blocks.{block_limit, block_size}
use Rattle.spec.specs.Plans.{Staging, Begin, entry, InData, InFree, slot_for, stage_large}
use Rattle.spec.specs.Plans as K
use Rattle.spec.specs.Actions.{lines_for, take_of, block_of}
use Rattle.session.specs.declared.Setup.{Setup}
use Rattle.session.specs.Numbers.{block_setup}
use Rattle.words.proofs.Values.{length-packed}
use Rattle.theory_log.specs.Batch.{block, Right}
use Rattle.spec.specs.declared.Size.{Size}
use Rattle.spec.specs.declared.Size.TheVariants as T
use Rattle.places.specs.Sizes.{power_of, power-low, power-high}
use Rattle.theory_base.proofs.Places.{units-least, units-most, unit-at}
use Rattle.theory_base.proofs.Sizes as Z
use Rattle.codec.specs.declared.Unit.{Unit as UnitNumber}
use Rattle.codec.specs.Units.{unit_at}
use Rattle.codec.proofs.Units as U
use Rattle.session.specs.State.{buffer_part}
use Rattle.buffer.specs.Areas.{batch_start, second_start, filter_place}
use Rattle.session.proofs.Part.{part-agree}
use Rattle.batch.specs.Added.{Added}
use Rattle.placing.specs.declared.blocks.Slot.{Slot}
use Rattle.placing.specs.declared.blocks.Slot.TheVariants as S
use Rattle.placing.specs.Blocks.{Says, unit, slot_by, SlotFound}
use Rattle.session.specs.State.{size_in, power_in, most_bytes, chunk_in, held_count, held_words, unit_of, block_actions}
use Rattle.actions.specs.Staging.{Kept}
use Rattle.actions.proofs.Bounds.{held-few}
use Rattle.actions.proofs.Filling.{length-block}
use Rattle.std.specs.Prelude.{Option, Some, None}
use Rattle.staging.specs.Large.{actions_at, stores_for, count_for, plan_for, LargePlanned, placed_at, BlockBegun}

-- THE VALUE HELD stays where the words from the second area up to the filter do
same-held : (k : Setup) (b d : List ℕ) → ((i : ℕ) → second_start ≤ i → i < filter_place → get_or d i 0 ≡ get_or b i 0) → held_words k d ≡ held_words k b
unfolding held_words
same-held k b d h =
    let e : get_or d second_start 0 ≡ get_or b second_start 0 = h second_start (omega arith) (omega arith) in
    let f : held_count k d ≡ held_count k b = ap (λ (x : ℕ). 1 + (min x (most_bytes k) + 7) / 8) e in
    ap (buffer_part d second_start) f ∙ part-agree d b second_start (held_count k b) (λ j l u. let few = held-few (size_in k) (get_or b second_start 0) in h j l (omega arith))

-- THE BLOCK BEGUN
pub begun : (z : Size) (before mid after : List ℕ) (k : Setup) (words version key : ℕ) (v : List ℕ) (u old size end ch pl : ℕ) (placed : Setup) → z ≡ size_in k → Kept z before mid v
    → Added mid after words end (entry 1 1 version u key []) → ch ≡ unit_chunk (power_of z) u → pl ≡ unit_in (power_of z) u → placed ≡ block_setup k ch old pl size
    → BlockBegun before after k words version key v u old size (record { setup = placed; words = end })
begun z before mid after k words version key v u old size end ch pl placed is kept a ec ep es =
    let h : Kept (size_in k) before mid v = rw is at kept in
    let ch' : ch ≡ unit_chunk (power_in k) u = rw is at ec in
    let pl' : pl ≡ unit_in (power_in k) u = rw is at ep in
    record {
      setup = es ∙ rw (ch', pl');
      long = a.long ∙ h.long;
      bits = λ i. a.bits (size_in k) i ∙ h.bits i;
      behind = λ i l. a.behind i l ∙ h.above i (omega arith);
      held = λ x e l. same-held x mid after a.above ∙ h.held x e l;
      words' = λ l. a.count l;
      written = λ l r s items w. a.written l r s items (part-agree mid before batch_start words (λ j x y. h.below j (omega arith)) ∙ w);
      marked = λ l items w m. a.marked l items (part-agree mid before batch_start words (λ j x y. h.below j (omega arith)) ∙ w) (rw (h.above filter_place (omega arith)) m);
    }

-- the parts of the setup that say nothing of the block stay
pub placed_same : (k' k : Setup) (u old size : ℕ) → k' ≡ placed_at k u old size → (k'.image ≡ k.image) × (k'.table ≡ k.table) × (k'.first ≡ k.first) × (k'.least ≡ k.least) × (k'.power ≡ k.power)
placed_same k' k u old size e = (ap (λ (x : Setup). x.image) e, ap (λ (x : Setup). x.table) e, ap (λ (x : Setup). x.first) e, ap (λ (x : Setup). x.least) e, ap (λ (x : Setup). x.power) e)

pub block-right : (version u k : ℕ) → 1 ≤ version → version < 1048576 → Right (entry 1 1 version u k [])
block-right version u k l h = record { kind = block; low = l; high = h; words = refl; fill = refl }

-- THE ACTIONS, counted by the value's length
stores : (p : ℕ) (v : List ℕ) → length v ≤ block_limit p → length (length v ∷ packed v) ≡ stores_for p (length v)
stores p v l = let q = length-packed v in omega arith

counted : (p : ℕ) (t : Bool) (c old s u : ℕ) (v : List ℕ) → length v ≤ block_limit p
    → length (pick t [] (take_of c old s) ++ block_of u (length v ∷ packed v)) ≡ pick t (stores_for p (length v) + lines_for (stores_for p (length v))) (2 + stores_for p (length v) + lines_for (stores_for p (length v)))
counted p true c old s u v l = length-block u (length v ∷ packed v) ∙ ap (λ (x : ℕ). x + lines_for x) (stores p v l)
counted p false c old s u v l =
    let q = length-append (take_of c old s) (block_of u (length v ∷ packed v)) in
    let b : length (block_of u (length v ∷ packed v)) ≡ stores_for p (length v) + lines_for (stores_for p (length v)) = length-block u (length v ∷ packed v) ∙ ap (λ (x : ℕ). x + lines_for x) (stores p v l) in
    omega arith

pub actions-counted : (p u old size : ℕ) (v : List ℕ) → length v ≤ block_limit p → length (actions_at p u old size v) ≡ count_for p (length v) size
actions-counted p u old size v l = counted p (eqb size 0) (unit_chunk p u) old size u v l

-- a unit by its chunk and its place there
unit-again : (size : Size) (u c : ℕ) → c ≡ unit_chunk (power_of size) u → first_unit (power_of size) c + unit_in (power_of size) (unit_in (power_of size) u) ≡ u
unfolding unit_chunk unit_in first_unit chunk_units
unit-again T.Small u c e = omega arith
unit-again T.Large u c e = omega arith

-- the record's actions: as many for any memory, and the same where the unit is one of the image
module _ (k : Setup) (after v : List ℕ) (u old size : ℕ) (held : held_words (placed_at k u old size) after ≡ length v ∷ packed v) where
  pub placed-count : length v ≤ most_bytes k → length (block_actions (placed_at k u old size) after) ≡ count_for (power_in k) (length v) size
  unfolding block_actions
  placed-count l =
      let k' = placed_at k u old size in
      rw held (counted (power_in k) (eqb size 0) (chunk_in k') old (size % 2 ^ 56) (unit_of k') v l)

  pub placed-actions : unit_chunk (power_in k) u < 504 → size ≤ 256 → block_actions (placed_at k u old size) after ≡ actions_at (power_in k) u old size v
  unfolding block_actions unit_of
  placed-actions low few =
      let c : chunk_in (placed_at k u old size) ≡ unit_chunk (power_in k) u = omega arith in
      let e : unit_of (placed_at k u old size) ≡ u = unit-again (size_in k) u (chunk_in (placed_at k u old size)) c in
      let s : size % 2 ^ 56 ≡ size = omega arith in
      rw (e, c, s, held)

-- THE SLOT, as the definitions have it
slot-data : (q : K.Slot) (u : UnitNumber) → Some (S.Data u) ≡ slot_by q → q ≡ InData u.0
slot-data (InData v) u h = let e : u ≡ unit v = cc in ap InData (sym (ap (λ (x : UnitNumber). x.0) e))
slot-data (InFree c) u h = absurd (let z : ◌≡◌ {A = ℕ} 0 1 = cc in omega arith)
slot-data K.Nowhere u h = absurd (let z : ◌≡◌ {A = ℕ} 0 1 = cc in omega arith)

slot-free : (q : K.Slot) (c : ℕ) → Some (S.Free c) ≡ slot_by q → q ≡ InFree c
slot-free (InData v) c h = absurd (let z : ◌≡◌ {A = ℕ} 0 1 = cc in omega arith)
slot-free (InFree d) c h = cc
slot-free K.Nowhere c h = absurd (let z : ◌≡◌ {A = ℕ} 0 1 = cc in omega arith)

slot-nowhere : (q : K.Slot) → None ≡ slot_by q → q ≡ K.Nowhere
slot-nowhere (InData v) h = absurd (let z : ◌≡◌ {A = ℕ} 0 1 = cc in omega arith)
slot-nowhere (InFree d) h = absurd (let z : ◌≡◌ {A = ℕ} 0 1 = cc in omega arith)
slot-nowhere K.Nowhere h = refl

size_is : (p bytes size : ℕ) → size ≡ pick (both (leb 257 bytes) (leb bytes (block_limit p))) (block_size p bytes) 0 → 257 ≤ bytes → bytes ≤ block_limit p → size ≡ block_size p bytes
size_is p bytes size e l h = e ∙ rw (le-leb 257 bytes l, le-leb bytes (block_limit p) h)

size-some : (size : Size) (bytes : ℕ) → 257 ≤ bytes → bytes ≤ block_limit (power_of size) → (1 ≤ block_size (power_of size) bytes) × (block_size (power_of size) bytes ≤ 256)
size-some size bytes l h =
    let p = power_of size in
    let a = Z.size_is p (block_size p bytes) (Z.block_size_lem p bytes l h).0 in
    let b = a.0 in
    let d = a.1 in
    let m = units-most p (power-low size) (power-high size) in
    (omega arith, omega arith)

first-unit : (size : Size) (c u : ℕ) → u ≡ unit_at (power_of size) c 0 → c < 504 → (u ≡ first_unit (power_of size) c) × (unit_chunk (power_of size) u ≡ c)
first-unit size c u e h =
    let p = power_of size in
    let lo = power-low size in
    let hi = power-high size in
    let some = units-least p lo hi in
    let q : u ≡ first_unit p c + 0 = e ∙ U.unit-at p c 0 (omega arith) (omega arith) in
    (omega arith, ap (unit_chunk p) q ∙ (unit-at p lo hi c 0 (omega arith)).0)

-- a unit of the image fits into the field of an item
pub unit-small : (size : Size) (u : ℕ) → unit_chunk (power_of size) u < 504 → u < 2 ^ 40
unfolding unit_chunk chunk_units
unit-small T.Small u h = let a : u / 16 < 504 = h in omega arith
unit-small T.Large u h = let a : u / 256 < 504 = h in omega arith

-- THE PLAN, by the size that the record says
module _ (z : Size) (image before : List ℕ) (k : Setup) (words bytes size chunks : ℕ) (slot : Option Slot) (is : z ≡ size_in k) (count : chunks ≡ chunks_in (power_of z) k.image)
    (size-told : size ≡ pick (both (leb 257 bytes) (leb bytes (block_limit (power_of z)))) (block_size (power_of z) bytes) 0) (slot-told : SlotFound z image chunks size before words slot) where
  abbrev n : ℕ
  n = chunks_in (power_in k) k.image

  abbrev ws : List ℕ
  ws = words_of image

  abbrev s : ℕ
  s = block_size (power_in k) bytes

  sized : size ≡ pick (both (leb 257 bytes) (leb bytes (most_bytes k))) (block_size (power_in k) bytes) 0
  sized = rw is at size-told

  found : SlotFound (size_in k) image n size before words slot
  found = rw is at (rw count at slot-told)

  -- what the search says, with the definitions' numbers
  slot_is : n ≤ chunks_in (power_in k) (length image) → 257 ≤ bytes → bytes ≤ most_bytes k → (es items : List Entry) → Says (size_in k) before words es items → slot ≡ slot_by (slot_for (power_in k) n ws es items s)
  slot_is h l m es items g =
      let e = size_is (power_in k) bytes size sized l m in
      found.exact h es items g ∙ ap (λ (x : ℕ). slot_by (slot_for (power_in k) n ws es items x)) e

  -- the definitions' plan by the slot
  plan-at : (es items : List Entry) (q : K.Slot) → slot_for (power_in k) n ws es items s ≡ q → (version key : ℕ) (v : List ℕ) → length v ≡ bytes
      → plan_for image k es items version key v ≡ stage_large (power_in k) ws items version key v q
  plan-at es items q e version key v h =
      ap (λ (x : ℕ). stage_large (power_in k) ws items version key v (slot_for (power_in k) n ws es items (block_size (power_in k) x))) h ∙ ap (stage_large (power_in k) ws items version key v) e

  pub shows-data : (u : UnitNumber) (actions : ℕ) → slot ≡ Some (S.Data u) → actions ≡ count_for (power_of z) bytes 0 → LargePlanned image before k words bytes (Some (record { unit = u; old = 0; units = 0; actions = actions }))
  shows-data u actions e en = (
    rw is at en,
    λ h most l m es items g.
        let q = slot-data (slot_for (power_in k) n ws es items s) u (sym e ∙ slot_is h l m es items g) in
        let i : unit_chunk (power_in k) u.0 < n = (found.data' u e).high in
        record { low = omega arith; few = omega arith; plan = plan-at es items (InData u.0) q },
  )

  pub shows-free : (c old actions : ℕ) (u : UnitNumber) → slot ≡ Some (S.Free c) → u.0 ≡ unit_at (power_of z) c 0 → old ≡ get_or ws (directory_word c) 0 → actions ≡ count_for (power_of z) bytes size → LargePlanned image before k words bytes (Some (record { unit = u; old = old; units = size; actions = actions }))
  shows-free c old actions u e eu eo en = (
    rw is at en,
    λ h most l m es items g.
        let q = slot-free (slot_for (power_in k) n ws es items s) c (sym e ∙ slot_is h l m es items g) in
        let below : c < n = (found.free c e).1 in
        let x = first-unit (size_in k) c u.0 (rw is at eu) (omega arith) in
        let y = size-some (size_in k) bytes l m in
        let z = size_is (power_in k) bytes size sized l m in
        record {
          low = rw x.1 (omega arith);
          few = rw z y.1;
          plan = λ version key v lv. plan-at es items (InFree c) q version key v lv ∙ taken c old u eo x.0 x.1 (block_size (power_in k) (length v)) (z ∙ ap (block_size (power_in k)) (sym lv)) (ne_eqb size 0 (λ o. let a = y.0 in omega arith)) items version key v;
        },
  )
    where
      -- the actions that take a free chunk, in the plan's numbers
      taken : (c old : ℕ) (u : UnitNumber) → old ≡ get_or ws (directory_word c) 0 → u.0 ≡ first_unit (power_in k) c → unit_chunk (power_in k) u.0 ≡ c → (s' : ℕ) → size ≡ s' → eqb size 0 ≡ false
          → (items : List Entry) (version key : ℕ) (v : List ℕ)
          → Begin (items ++ (entry 1 1 version (first_unit (power_in k) c) key [] ∷ [])) Staging (take_of c (get_or ws (directory_word c) 0) s' ++ block_of (first_unit (power_in k) c) (length v ∷ packed v))
          ≡ Begin (items ++ (entry 1 1 version u.0 key [] ∷ [])) Staging (actions_at (power_in k) u.0 old size v)
      taken c old u eo eu ec s' es some items version key v =
          let value = length v ∷ packed v in
          let at : ℕ → List Entry = λ w. items ++ (entry 1 1 version w key [] ∷ []) in
          ap (λ (w : ℕ). Begin (at w) Staging (take_of c (get_or ws (directory_word c) 0) s' ++ block_of w value)) (sym eu)
          ∙ ap (λ (w : ℕ). Begin (at u.0) Staging (take_of w (get_or ws (directory_word c) 0) s' ++ block_of u.0 value)) (sym ec)
          ∙ ap (λ (w : ℕ). Begin (at u.0) Staging (take_of (unit_chunk (power_in k) u.0) w s' ++ block_of u.0 value)) (sym eo)
          ∙ ap (λ (w : ℕ). Begin (at u.0) Staging (take_of (unit_chunk (power_in k) u.0) old w ++ block_of u.0 value)) (sym es)
          ∙ ap (λ (t : Bool). Begin (at u.0) Staging (pick t [] (take_of (unit_chunk (power_in k) u.0) old size) ++ block_of u.0 value)) (sym some)

  pub shows-nowhere : slot ≡ None → LargePlanned image before k words bytes None
  shows-nowhere e = λ h most l m es items g. plan-at es items K.Nowhere (slot-nowhere (slot_for (power_in k) n ws es items s) (sym e ∙ slot_is h l m es items g))
