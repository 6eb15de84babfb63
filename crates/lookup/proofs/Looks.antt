-- What the code shows of a look-up: the part of the entry that the table names is the definition's answer.
-- Assumes nothing.
use mathlib.Core.Path.{◌≡◌, refl, sym, ◌∙◌, ap, subst}
use mathlib.Core.Logic.{inl, inr, by_cases}
use mathlib.Core.Bool.{Bool, true, false}
use mathlib.Core.Option.{none, some}
use mathlib.Core.List.{List, []}
use Prim.Native.Nat.{ℕ, ◌+◌, ◌-◌, ◌*◌, ◌/◌, ◌%◌, ◌^◌, ◌≤◌, ◌<◌, min}
use native.Mathlib.Decide.{ℕ_discrete}
use native.Mathlib.Omega.{arith}
use lib.Dec.{eqb, leb}
use lib.ListN.{length, get_or, take, drop}
use borrow.Author.Tests.{le-leb, lt-leb, leb-true, eqb-true, ne_eqb}
use Rattle.spec.specs.Basics.{pick, both}
use Rattle.spec.specs.Words.{words_of}
use Rattle.spec.specs.Places.{unit_chunk, unit_word, chunks_in}
use Rattle.spec.specs.Directory.{size_of}
use Rattle.spec.specs.Log.{Entry, Entries, words_for, image_entries}
use Rattle.spec.specs.Blocks.{pointed}
use Rattle.spec.specs.Contents.{chosen}
use Rattle.spec.specs.Reports.{is_refused, number}
use Rattle.spec.specs.Medium.{Action}
use Rattle.spec.specs.Plans.{Staging, Committing, Cleaning, Olds, max_version, part_or, look_up}
use Rattle.spec.specs.Machine.{LookUp, State, Closed, Rest, Busy, Formatting, state_power, read_gate, read_words, answer, next}
use Rattle.spec.specs.Contract.{Changed, Anyway, Outcome}
use Rattle.session.specs.declared.Control.{Control}
use Rattle.session.specs.declared.Setup.{Setup}
use Rattle.session.specs.declared.Session.{Session}
use Rattle.spec.specs.declared.Size.{Size}
use Rattle.spec.specs.declared.Size.TheVariants as S
use Rattle.spec.specs.declared.Refusal.{Refusal}
use Rattle.spec.specs.declared.Refusal.TheVariants as N
use Rattle.spec.specs.declared.Report.TheVariants as R
use Rattle.places.specs.Sizes.{power_of, power-low, power-high}
use Rattle.words.specs.Image.{length-words_of}
use Rattle.theory_base.proofs.Lists.{pick-e, pick_same}
use Rattle.theory_base.proofs.Places.{base-apart, unit-place, units-words}
use Rattle.theory_base.proofs.PutBack.{Past, past-flip}
use Rattle.theory_log.specs.Batch.{Kind, put, block, delete}
use Rattle.theory_log.proofs.Contents.{chosen_is}
use Rattle.theory_log.proofs.Tops.{chosen-top}
use Rattle.theory_crash.proofs.Far.{entry-far, block-far}
use Rattle.theory_log.proofs.Stands.{head_first}
use Rattle.theory_crash.specs.Accepted.{Ok as Accepted}
use Rattle.theory_crash.proofs.Opening.{opens_at}
use Rattle.theory_crash.proofs.Blocks as Blocks
use Rattle.logs.specs.Stands.{StandsIn}
use Rattle.logs.proofs.Stands.{take-drop, image-stands}
use Rattle.packing.specs.declared.Info.{Info}
use Rattle.packing.specs.Packed.{unpack_of, unpack-few}
use Rattle.index.specs.Index.{get}
use Rattle.volatile.specs.Known.{extent_of, Bounded, Indexed}
use Rattle.volatile.proofs.Image.{image_bounded}
use Rattle.volatile.proofs.Grow.{found_none, found-chosen}
use Rattle.session.specs.State.{size_in, power_in, state_at, state_of}
use Rattle.session.specs.Fits.{Fits}
use Rattle.std.specs.Prelude.{Result, Ok, Err, MatchResult}
use Rattle.lookup.specs.declared.Part.{Part}
use Rattle.lookup.specs.declared.Value.{Value}
use Rattle.session.specs.Asks.{gate_of, ReadAsking}
use Rattle.lookup.specs.Look.{Located, part, report_of, within, block_part, part_by, first_word, part_at, PartIn, InImage, Looking, session_of, Locating, LookedUp, Shows, Showing, ShowingValue}
use Rattle.session.proofs.Gates.{read-refused, read_at_lem}
use Rattle.session.specs.Promise.{Does, memory}
use Rattle.session.specs.Fits.{Proper}

-- ## Any memory: 11, or a part of the image

within_in : (vn bytes a n : ℕ) → vn ≤ max_version → PartIn bytes (within vn bytes a n)
within_in vn bytes a n most = go (leb (a + n) bytes) (leb-true (a + n) bytes)
  where
    go : (t : Bool) → (t ≡ true → a + n ≤ bytes) → PartIn bytes (pick t (part a n vn) (Err N.KeyAbsent))
    go true h = (h refl, most)
    go false h = refl

pick-in : (bytes : ℕ) (t : Bool) (x y : Located) → PartIn bytes x → PartIn bytes y → PartIn bytes (pick t x y)
pick-in bytes true x y p q = p
pick-in bytes false x y p q = q

part_in : (vn bytes : ℕ) (ws : List ℕ) (place w : ℕ) → vn ≤ max_version → PartIn bytes (part_by vn bytes ws place w)
part_in vn bytes ws place w most =
    pick-in bytes (eqb (w % 16) 1) _ _ (within_in vn bytes (8 * (place + 2)) (w / 16777216) most)
    (pick-in bytes (eqb (w % 16) 5) _ (Err N.KeyAbsent) (within_in vn bytes (8 * (unit_word (w / 16777216) + 1)) (get_or ws (unit_word (w / 16777216)) 0) most) refl)

in_image : (bytes : ℕ) (r : Located) → PartIn bytes r → InImage bytes r
in_image bytes (Ok x) h = h.0
in_image bytes (Err n) h = tt

-- ## An accepted image: the part of its chosen entry

-- the entry's own words say where its value is, in the log or in a block
kind-part : (vn bytes : ℕ) (ws : List ℕ) (place w op pl x : ℕ) → Kind op pl x → w % 16 ≡ op + 4 * pl → w / 16777216 ≡ x
    → part_by vn bytes ws place w ≡ pick (eqb op 1) (pick (eqb pl 1) (block_part vn bytes ws x) (within vn bytes (8 * (place + 2)) x)) (Err N.KeyAbsent)
kind-part vn bytes ws place w op pl x (put l) a b = rw (a, b)
kind-part vn bytes ws place w op pl x block a b = rw (a, b)
kind-part vn bytes ws place w op pl x delete a b = rw a

entry-part : (bytes : ℕ) (ws : List ℕ) (e : Entry) → StandsIn ws e → 8 * (e.at + 2) ≤ bytes
    → (pointed e ≡ true → 8 * (unit_word e.field + 1) + get_or ws (unit_word e.field) 0 ≤ bytes)
    → (eqb e.op 1 ≡ true → eqb e.placement 1 ≡ false → 8 * (e.at + 2) + e.field ≤ bytes)
    → report_of (part_at e.version bytes ws e.at) ≡ part_or ws (some e)
entry-part bytes ws e stands has blocks logs =
    let w = get_or ws e.at 0 in
    let h = head_first w e.op e.placement e.version e.field stands.first in
    let k = kind-small e.op e.placement e.field stands.right.kind in
    let v = stands.right.high in
    let a : w % 16 ≡ e.op + 4 * e.placement = omega arith in
    let b : w / 16777216 ≡ e.field = omega arith in
    let f : first_word bytes ws e.at ≡ w = rw (le-leb _ _ has) in
    ap (λ x. report_of (part_by e.version bytes ws e.at x)) f ∙ ap report_of (kind-part e.version bytes ws e.at w e.op e.placement e.field stands.right.kind a b) ∙ go (eqb e.op 1) (eqb e.placement 1) blocks logs
  where
    kind-small : (op pl x : ℕ) → Kind op pl x → op + 4 * pl < 16
    kind-small op pl x (put l) = omega arith
    kind-small op pl x block = omega arith
    kind-small op pl x delete = omega arith

    go : (b1 b2 : Bool) → (both b1 b2 ≡ true → 8 * (unit_word e.field + 1) + get_or ws (unit_word e.field) 0 ≤ bytes) → (b1 ≡ true → b2 ≡ false → 8 * (e.at + 2) + e.field ≤ bytes)
        → report_of (pick b1 (pick b2 (within e.version bytes (8 * (unit_word e.field + 1)) (get_or ws (unit_word e.field) 0)) (within e.version bytes (8 * (e.at + 2)) e.field)) (Err N.KeyAbsent))
        ≡ pick b1 (pick (both b1 b2) (R.Part (8 * (unit_word e.field + 1)) (get_or ws (unit_word e.field) 0) e.version) (R.Part (8 * (e.at + 2)) e.field e.version)) (R.Refused N.KeyAbsent)
    go false b2 x y = refl
    go true true x y = rw (le-leb _ _ (x refl))
    go true false x y = rw (le-leb _ _ (y refl refl))

-- an extent is that of a put with its value in the log, of more than one byte
extent-kind : (size : Size) (op pl x : ℕ) → Kind op pl x → 0 < extent_of size pl x → (eqb op 1 ≡ true) × (eqb pl 1 ≡ false) × (extent_of size pl x + 1 ≡ x)
extent-kind S.Small op pl x (put l) m = (refl, refl, omega arith)
extent-kind S.Small op pl x block m = absurd (omega arith)
extent-kind S.Small op pl x delete m = absurd (omega arith)
extent-kind S.Large op pl x kind m = absurd (omega arith)

log-words : (op pl x : ℕ) → Kind op pl x → eqb pl 1 ≡ false → x ≤ 8 * words_for pl x
log-words op pl x (put l) h = omega arith
log-words op pl x block h = absurd (let z : ◌≡◌ {A = ℕ} 0 1 = cc in omega arith)
log-words op pl x delete h = omega arith

-- the first word says that a block has the value
kind-block : (op pl x : ℕ) → Kind op pl x → op + 4 * pl ≡ 5 → both (eqb op 1) (eqb pl 1) ≡ true
kind-block op pl x (put l) h = absurd (omega arith)
kind-block op pl x block h = refl
kind-block op pl x delete h = absurd (omega arith)

kind-low : (op pl x : ℕ) → Kind op pl x → op + 4 * pl < 16
kind-low op pl x (put l) = omega arith
kind-low op pl x block = omega arith
kind-low op pl x delete = omega arith

-- the block's length word is looked at alone
part-moves : (vn bytes : ℕ) (ws vs : List ℕ) (place w : ℕ) → (w % 16 ≡ 5 → get_or ws (unit_word (w / 16777216)) 0 ≡ get_or vs (unit_word (w / 16777216)) 0) → part_by vn bytes ws place w ≡ part_by vn bytes vs place w
part-moves vn bytes ws vs place w h = go (eqb (w % 16) 5) (eqb-true (w % 16) 5)
  where
    go : (b : Bool) → (b ≡ true → w % 16 ≡ 5)
        → pick (eqb (w % 16) 1) (within vn bytes (8 * (place + 2)) (w / 16777216)) (pick b (block_part vn bytes ws (w / 16777216)) (Err N.KeyAbsent))
        ≡ pick (eqb (w % 16) 1) (within vn bytes (8 * (place + 2)) (w / 16777216)) (pick b (block_part vn bytes vs (w / 16777216)) (Err N.KeyAbsent))
    go true f = ap (λ (x : ℕ). pick (eqb (w % 16) 1) (within vn bytes (8 * (place + 2)) (w / 16777216)) (within vn bytes (8 * (unit_word (w / 16777216) + 1)) x)) (h (f refl))
    go false f = refl

module _ (size : Size) (n : ℕ) (bytes ws : List ℕ) (es : List Entry) (ok : Accepted (power_of size) n ws es) (sees : Past (words_of bytes) ws) where
  small : Bounded size es
  small = image_bounded size n ws es ok.parsed ok.most

  -- the words of the image lie in its bytes
  long : 8 * length ws ≤ length bytes
  long = let l = length-words_of bytes in let q = sees.long in omega arith

  module _ (k : ℕ) (e : Entry) (h : chosen k es ≡ some e) where
    stands : StandsIn ws e
    stands = image-stands (power_of size) (power-low size) (power-high size) n ws es ok.parsed e (chosen_is k es e h).in_list

    in-log : eqb e.op 1 ≡ true → eqb e.placement 1 ≡ false → 8 * (e.at + 2) + e.field ≤ length bytes
    in-log o l =
        let a = log-words e.op e.placement e.field stands.right.kind l in
        let b = stands.fits in
        let c = long in
        omega arith

    -- the part of a value whose extent the table holds
    chosen-extent : 0 < extent_of size e.placement e.field → report_of (within e.version (length bytes) (8 * (e.at + 2)) (extent_of size e.placement e.field + 1)) ≡ look_up ws es k
    unfolding look_up
    chosen-extent m =
        let q = extent-kind size e.op e.placement e.field stands.right.kind m in
        rw (h, q.2, q.0, q.1, le-leb _ _ (in-log q.0 q.1))

  -- the bytes say the same of a chosen entry
  part-seen : (k : ℕ) (e : Entry) → chosen k es ≡ some e → part_at e.version (length bytes) (words_of bytes) e.at ≡ part_at e.version (length bytes) ws e.at
  part-seen k e h =
      let far = entry-far (power_of size) (power-low size) (power-high size) n ws es ok e (chosen_is k es e h).in_list in
      let f : first_word (length bytes) (words_of bytes) e.at ≡ first_word (length bytes) ws e.at = ap (λ (x : ℕ). pick (leb (8 * (e.at + 2)) (length bytes)) x 0) (sees.same e.at far) in
      ap (part_by e.version (length bytes) (words_of bytes) e.at) f ∙ part-moves e.version (length bytes) (words_of bytes) ws e.at (first_word (length bytes) ws e.at) in_block
    where
      first-is : first_word (length bytes) ws e.at ≡ get_or ws e.at 0
      first-is = rw (le-leb _ _ (let f = (stands k e h).fits in let l = long in let has : 8 * (e.at + 2) ≤ length bytes = omega arith in has))

      in_block : first_word (length bytes) ws e.at % 16 ≡ 5
          → get_or (words_of bytes) (unit_word (first_word (length bytes) ws e.at / 16777216)) 0 ≡ get_or ws (unit_word (first_word (length bytes) ws e.at / 16777216)) 0
      in_block five =
          let w = get_or ws e.at 0 in
          let v = head_first w e.op e.placement e.version e.field (stands k e h).first in
          let s = kind-low e.op e.placement e.field (stands k e h).right.kind in
          let t = (stands k e h).right.high in
          let a : w % 16 ≡ e.op + 4 * e.placement = omega arith in
          let b : first_word (length bytes) ws e.at / 16777216 ≡ e.field = ap (λ (x : ℕ). x / 16777216) first-is ∙ omega arith in
          let p : pointed e ≡ true = kind-block e.op e.placement e.field (stands k e h).right.kind (sym a ∙ sym (ap (λ (x : ℕ). x % 16) first-is) ∙ five) in
          rw b (sees.same (unit_word e.field) (block-far (power_of size) (power-low size) (power-high size) n ws es ok e (chosen-top k es e h) p))

  chosen-part : (k : ℕ) (e : Entry) → chosen k es ≡ some e → report_of (part_at e.version (length bytes) ws e.at) ≡ look_up ws es k
  unfolding look_up
  chosen-part k e h = rw h (entry-part (length bytes) ws e (stands k e h) (let f = (stands k e h).fits in let l = long in omega arith) in_block (in-log k e h))
    where
      in_block : pointed e ≡ true → 8 * (unit_word e.field + 1) + get_or ws (unit_word e.field) 0 ≤ length bytes
      in_block q =
          let f = Blocks.block-fits (power_of size) n e.field (size_of (power_of size) ws (unit_chunk (power_of size) e.field)) (get_or ws (unit_word e.field) 0) _ (pick-e (pointed e) _ (ok.blocks e (chosen-top k es e h)) q) in
          let a = f.ends in
          let r = f.room in
          let u = unit-place (power_of size) (power-low size) (power-high size) e.field in
          let b = base-apart (power_of size) (power-low size) (power-high size) (unit_chunk (power_of size) e.field) n f.high in
          let w = units-words (power_of size) (power-low size) (power-high size) in
          let l = ok.long in
          let c = long in
          omega arith

-- ## What the code shows

module _ (vn bytes a n : ℕ) where
  pub within-yes : a ≤ bytes → n ≤ bytes - a → part a n vn ≡ within vn bytes a n
  within-yes h l = sym (rw (le-leb (a + n) bytes (omega arith)))

  pub within-no : bytes < a + n → Err N.KeyAbsent ≡ within vn bytes a n
  within-no h = sym (rw (lt-leb (a + n) bytes h))

  pub within_all : a + n ≤ bytes → part a n vn ≡ within vn bytes a n
  within_all h = sym (rw (le-leb (a + n) bytes h))

-- the block at unit u, from its first byte and its first word
module _ (vn bytes : ℕ) (ws : List ℕ) (u start w : ℕ) (small : u < 2 ^ 40) (es : start ≡ min (256 * u) (2 ^ 64 - 1)) (ew : w ≡ min (unit_word u) (2 ^ 61 - 1)) where
  pub block-any : (r : Located) (v : ℕ) → v ≡ get_or ws w 0 → r ≡ within vn bytes (start + 8) v → r ≡ block_part vn bytes ws u
  block-any r v ev h =
      let a : start + 8 ≡ 8 * (unit_word u + 1) = omega arith in
      let e : w ≡ unit_word u = omega arith in
      h ∙ ap (λ (x : ℕ). within vn bytes x v) a ∙ ap (within vn bytes (8 * (unit_word u + 1))) (ev ∙ ap (λ (x : ℕ). get_or ws x 0) e)

  module _ (n : ℕ) (has : start + 16 ≤ bytes) (en : n ≡ first_word bytes ws w) where
    read : n ≡ get_or ws w 0
    read = en ∙ rw (le-leb (8 * (w + 2)) bytes (omega arith))

    pub block-yes : n ≤ bytes - (start + 8) → part (start + 8) n vn ≡ block_part vn bytes ws u
    block-yes h = block-any (part (start + 8) n vn) n read (within-yes vn bytes (start + 8) n (omega arith) h)

    pub block_no : bytes - (start + 8) < n → Err N.KeyAbsent ≡ block_part vn bytes ws u
    block_no h = block-any (Err N.KeyAbsent) n read (within-no vn bytes (start + 8) n (omega arith))

module _ (vn bytes : ℕ) (ws : List ℕ) (place word : ℕ) (is_word : word ≡ first_word bytes ws place) where
  pub part_log : (r : Located) → word % 16 ≡ 1 → r ≡ within vn bytes (8 * (place + 2)) (word / 16777216) → r ≡ part_at vn bytes ws place
  part_log r k h = h ∙ rw (← is_word, k)

  pub part-block : (r : Located) → word % 16 ≡ 5 → r ≡ block_part vn bytes ws (word / 16777216) → r ≡ part_at vn bytes ws place
  part-block r k h = h ∙ rw (← is_word, k)

  pub part_none : (word % 16 ≡ 1 → ⊥) → (word % 16 ≡ 5 → ⊥) → Err N.KeyAbsent ≡ part_at vn bytes ws place
  part_none a b = rw (← is_word, ne_eqb (word % 16) 1 a, ne_eqb (word % 16) 5 b)

-- an empty word has no extent and no place
empty-extent : (size : Size) → (unpack_of size 0).extent ≡ 0
empty-extent S.Small = refl
empty-extent S.Large = refl

empty-place : (size : Size) → (unpack_of size 0).place ≡ 0
empty-place S.Small = refl
empty-place S.Large = refl

module _ (size : Size) (key : ℕ) (bytes table : List ℕ) (word : ℕ) (is : word ≡ get table key) where
  module _ (info : Info) (i : info ≡ unpack_of size word) where
    -- no entry stands at word 0
    pub looking-none : info.place ≡ 0 → Looking size key bytes table (Err N.KeyAbsent)
    unfolding look_up
    looking-none z = record { inside = refl; exact = λ n keys vs es ok sees ix. sym (rw (found_none size table keys es ix (small size n bytes vs es ok sees) key word is (empty n keys vs es ok sees ix))) }
      where
        empty : (n keys : ℕ) (vs : List ℕ) (es : List Entry) → Accepted (power_of size) n vs es → Past (words_of bytes) vs → Indexed size table keys es → word ≡ 0
        empty n keys vs es ok sees ix =
            by_cases (ℕ_discrete word 0) (λ e. e)
            (λ nz.
            let b = small size n bytes vs es ok sees in
            let f = found-chosen size table keys es ix b key word is nz in
            let place : info.place ≡ f.0.at = ap (λ (j : Info). j.place) (i ∙ f.2) in
            absurd (omega (arith, (b.each f.0 (chosen_is key es f.0 f.1).in_list).place-low)))

    narrow : info.version ≤ max_version
    narrow = let f = unpack-few size word in rw i (omega (arith, f.1))

    -- the entry itself is read
    pub looking-part : (r : Located) → (info.place ≡ 0 → ⊥) → r ≡ part_at info.version (length bytes) (words_of bytes) info.place → Looking size key bytes table r
    looking-part r stands e = record {
      inside = rw e (part_in info.version (length bytes) (words_of bytes) info.place (first_word (length bytes) (words_of bytes) info.place) narrow);
      exact = λ n keys vs es ok sees ix.
          let f = found-chosen size table keys es ix (small size n bytes vs es ok sees) key word is (λ z. stands (ap (λ (j : Info). j.place) (i ∙ ap (unpack_of size) z) ∙ empty-place size)) in
          let place : info.place ≡ f.0.at = ap (λ (j : Info). j.place) (i ∙ f.2) in
          let version : info.version ≡ f.0.version = ap (λ (j : Info). j.version) (i ∙ f.2) in
          ap report_of (e ∙ ap (λ (x : ℕ). part_at x (length bytes) (words_of bytes) info.place) version ∙ ap (part_at f.0.version (length bytes) (words_of bytes)) place ∙ part-seen size n bytes vs es ok sees key f.0 f.1) ∙ chosen-part size n bytes vs es ok sees key f.0 f.1;
    }

    -- the table's word says enough
    pub looking-extent : (r : Located) → 0 < info.extent → r ≡ within info.version (length bytes) (8 * (info.place + 2)) (info.extent + 1) → Looking size key bytes table r
    looking-extent r more e = record {
      inside = rw e (within_in info.version (length bytes) (8 * (info.place + 2)) (info.extent + 1) narrow);
      exact = λ n keys vs es ok sees ix.
          let f = found-chosen size table keys es ix (small size n bytes vs es ok sees) key word is some_word in
          let place : info.place ≡ f.0.at = ap (λ (j : Info). j.place) (i ∙ f.2) in
          let version : info.version ≡ f.0.version = ap (λ (j : Info). j.version) (i ∙ f.2) in
          let extent : info.extent ≡ extent_of size f.0.placement f.0.field = ap (λ (j : Info). j.extent) (i ∙ f.2) in
          ap report_of (e ∙ ap (λ (x : ℕ). within x (length bytes) (8 * (info.place + 2)) (info.extent + 1)) version ∙ ap (λ (x : ℕ). within f.0.version (length bytes) (8 * (x + 2)) (info.extent + 1)) place ∙ ap (λ (x : ℕ). within f.0.version (length bytes) (8 * (f.0.at + 2)) (x + 1)) extent)
          ∙ chosen-extent size n bytes vs es ok sees key f.0 f.1 (rw extent at more);
    }
      where
        some_word : word ≡ 0 → ⊥
        some_word z = let x : info.extent ≡ 0 = ap (λ (j : Info). j.extent) (i ∙ ap (unpack_of size) z) ∙ empty-extent size in omega arith

-- ## The call

-- behind the gate the state has the record's chunk power
pub read-power : (s : Session) (bytes words : ℕ) → read_gate (state_of s) bytes words ≡ none → state_power (state_of s) ≡ power_in s.setup
unfolding state_at
read-power s bytes words = go (eqb phase 1) (eqb phase 2) (eqb phase 3) (eqb phase 4) (eqb phase 5) (eqb phase 6) _ _ _ _ _ _ _ _ _
  where
    phase : ℕ
    phase = s.control.phase

    k : Setup
    k = s.setup

    unfinished : (b : Bool) → pick b (some N.Unfinished) (some N.ImageLength) ≡ none → ⊥
    unfinished true h = let z : ◌≡◌ {A = ℕ} 0 1 = cc in omega arith
    unfinished false h = let z : ◌≡◌ {A = ℕ} 0 1 = cc in omega arith

    go : (b1 b2 b3 b4 b5 b6 : Bool) (items : List Entry) (m : ℕ) (o3 o6 : Olds) (a2 a3 a4 a5 a6 : List Action)
        → read_gate (pick b1 (Rest (power_in k) k.image k.table items) (pick b2 (Busy (power_in k) k.image k.table items Staging a2) (pick b3 (Busy (power_in k) k.image k.table items (Committing o3) a3)
        (pick b4 (Formatting false k.image k.table a4) (pick b5 (Formatting true k.image k.table a5) (pick b6 (Busy (power_in k) k.image k.table [] (Cleaning m o6) a6) Closed)))))) bytes words ≡ none
        → state_power (pick b1 (Rest (power_in k) k.image k.table items) (pick b2 (Busy (power_in k) k.image k.table items Staging a2) (pick b3 (Busy (power_in k) k.image k.table items (Committing o3) a3)
        (pick b4 (Formatting false k.image k.table a4) (pick b5 (Formatting true k.image k.table a5) (pick b6 (Busy (power_in k) k.image k.table [] (Cleaning m o6) a6) Closed)))))) ≡ power_in k
    go true b2 b3 b4 b5 b6 items m o3 o6 a2 a3 a4 a5 a6 q = refl
    go false true b3 b4 b5 b6 items m o3 o6 a2 a3 a4 a5 a6 q = refl
    go false false true b4 b5 b6 items m o3 o6 a2 a3 a4 a5 a6 q = refl
    go false false false true b5 b6 items m o3 o6 a2 a3 a4 a5 a6 q = absurd (let z : ◌≡◌ {A = ℕ} 0 1 = cc in omega arith)
    go false false false false true b6 items m o3 o6 a2 a3 a4 a5 a6 q = absurd (unfinished (both (eqb k.image bytes) (eqb k.table words)) q)
    go false false false false false true items m o3 o6 a2 a3 a4 a5 a6 q = refl
    go false false false false false false items m o3 o6 a2 a3 a4 a5 a6 q = absurd (let z : ◌≡◌ {A = ℕ} 0 1 = cc in omega arith)

-- a look-up leaves the state as it was
next-same : (σ : State) (key : ℕ) (ws : List ℕ) (bytes words : ℕ) → σ ≡ next (LookUp key) σ ws bytes words
unfolding next
next-same σ key ws bytes words = sym (pick_same (both (is_refused (answer (LookUp key) σ ws bytes words)) true) σ)

module _ (s : Session) (key : ℕ) (bytes table : List ℕ) where
  outcome : (r : Located) → PartIn (length bytes) r → Outcome Proper state_of Fits (LookUp key) s s table table (report_of r)
  outcome (Ok x) h = (refl, refl)
  outcome (Err n) h = (inr (inr (inr (inl h))), (refl, refl))

  anyway : (r : Located) → PartIn (length bytes) r → Anyway (LookUp key) (state_of s) (state_of s) (words_of bytes) (length bytes) (length table) (report_of r)
  anyway (Ok x) h = inr (x.start, (x.length, (x.version, (refl, h))))
  anyway (Err n) h = inl (n, refl)

  unchanged : (r : Located) → Changed (report_of r) bytes bytes
  unchanged (Ok x) = refl
  unchanged (Err n) = refl

  looked : (r : Located) → read_gate (state_of s) (length bytes) (length table) ≡ none → Looking (size_in s.setup) key bytes table r → Does (LookUp key) (memory s bytes table) (memory s bytes table) (report_of r)
  looked r g l = record {
    exact = λ f. record { answered = exact f; became = next-same (state_of s) key (words_of bytes) (length bytes) (length table); fits = f };
    first = λ r' h. absurd (let q : none ≡ some r' = rw g at h in let z : ◌≡◌ {A = ℕ} 0 1 = cc in omega arith);
    image = unchanged r;
    sized = refl;
    outcome = outcome r l.inside;
    anyway = anyway r l.inside;
  }
    where
      exact : Fits s (words_of bytes) table → report_of r ≡ answer (LookUp key) (state_of s) (words_of bytes) (length bytes) (length table)
      exact f =
          let a = read_at_lem s (length bytes) (length table) (words_of bytes) table g f in
          let vs : List ℕ = read_words (state_of s) (words_of bytes) in
          let v = a.past in
          let k : Setup = s.setup in
          let o = opens_at (power_in k) k.image k.table vs a.entries a.accepted.power (v.long ∙ a.long) a.accepted.accepts in
          let n : chunks_in (power_in k) k.image ≡ chunks_in (power_in k) (length bytes) = ap (chunks_in (power_in k)) a.same_bytes in
          let p : image_entries (power_in k) (chunks_in (power_in k) (length bytes)) vs ≡ Entries a.entries = rw n at o.0.parsed in
          rw (g, read-power s (length bytes) (length table) g, p) (l.exact (chunks_in (power_in k) k.image) s.control.keys vs a.entries o.0 (past-flip vs (words_of bytes) v) a.built.indexed)

module _ (c : Control) (k : Setup) (key : ℕ) (bytes table : List ℕ) (g : Result (Unit {0}) Refusal) (asks : ReadAsking c k (length bytes) (length table) g) where
  pub locate-refused : (n : Refusal) → g ≡ Err n → Locating c k key bytes table (Err n)
  locate-refused n e = record { called = λ b. read-refused (session_of c k b) bytes table n (asks.asked b ∙ ap gate_of e) key; inside = tt }

  pub locate-open : (r : Located) → g ≡ Ok tt → Looking (size_in k) key bytes table r → Locating c k key bytes table r
  locate-open r e l = record { called = λ b. looked (session_of c k b) key bytes table r (asks.asked b ∙ ap gate_of e) l; inside = in_image (length bytes) r l.inside }

-- the value itself
module _ (c : Control) (k : Setup) (key : ℕ) (bytes table : List ℕ) (r : Located) (found : Locating c k key bytes table r) where
  pub part-inside : (x : Part) → r ≡ Ok x → x.start + x.length ≤ length bytes
  part-inside x e = rw e at found.inside

  pub show-part : (x : Part) (v : Value) → r ≡ Ok x → v.bytes.now ≡ take (x.start + x.length - x.start) (drop x.start bytes) → v.version ≡ x.version → ShowingValue c k key bytes table (Ok v)
  show-part x v e b n =
      let d : x.start + x.length - x.start ≡ x.length = omega arith in
      record { located = Ok x; called = rw e at found.called; inside = rw e at found.inside; shows = (b ∙ rw d (take-drop x.start x.length bytes), n) }

  pub show-refused : (n : Refusal) → r ≡ Err n → ShowingValue c k key bytes table (Err n)
  show-refused n e = record { located = Err n; called = rw e at found.called; inside = tt; shows = refl }

-- the part and the numbers, from the value or its refusal
abbrev number_in : Result Value Refusal → ℕ
number_in (Ok v) = 0
number_in (Err n) = number n

module _ (c : Control) (k : Setup) (key : ℕ) (bytes table : List ℕ) where
  hands : (r : Result Value Refusal) → ShowingValue c k key bytes table r
      → MatchResult r (λ v. Showing c k key bytes table v.bytes.now 0 v.version) (λ n. Showing c k key bytes table [] (number n) 0)
  hands (Ok v) s = go s.located s.called s.inside s.shows
    where
      go : (l : Located) → LookedUp c k key bytes table (report_of l) → InImage (length bytes) l → Shows bytes l (Ok v) → Showing c k key bytes table v.bytes.now 0 v.version
      go (Ok x) d i h = record { located = Ok x; called = d; inside = i; is-part = h.0; is_number = refl; is-version = h.1 }
      go (Err n) d i h = absurd (subst (λ (q : Result Value Refusal). MatchResult q (λ v. Unit {0}) (λ n. ⊥)) h tt)
  hands (Err m) s = go s.located s.called s.inside s.shows
    where
      go : (l : Located) → LookedUp c k key bytes table (report_of l) → InImage (length bytes) l → Shows bytes l (Err m) → Showing c k key bytes table [] (number m) 0
      go (Ok x) d i h = absurd h
      go (Err n) d i h = record { located = Err n; called = d; inside = i; is-part = refl; is_number = ap number_in h; is-version = refl }

module _ (c : Control) (k : Setup) (key : ℕ) (bytes table : List ℕ) (r : Result Value Refusal) (shown : ShowingValue c k key bytes table r) where
  pub hands-part : (v : Value) → r ≡ Ok v → Showing c k key bytes table v.bytes.now 0 v.version
  hands-part v e = hands c k key bytes table (Ok v) (subst (ShowingValue c k key bytes table) e shown)

  pub hands-refusal : (n : Refusal) (a : ℕ) → r ≡ Err n → a ≡ number n → Showing c k key bytes table [] a 0
  hands-refusal n a e is =
      subst (λ (x : ℕ). Showing c k key bytes table [] x 0) (sym is) (hands c k key bytes table (Err n) (subst (ShowingValue c k key bytes table) e shown))
