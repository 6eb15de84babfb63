-- What the key table's word and the entry at its place say of a key is what the register has of it.
-- Assumes nothing.
use mathlib.Core.Path.{◌≡◌, refl, sym, ◌∙◌, ap}
use mathlib.Core.Logic.{by_cases}
use mathlib.Core.Bool.{Bool, true, false}
use mathlib.Core.Option.{Option, none, some}
use mathlib.Core.List.{List}
use Prim.Native.Nat.{ℕ, ◌+◌, ◌*◌, ◌/◌, ◌%◌, ◌<◌, ◌≤◌}
use native.Mathlib.Decide.{ℕ_discrete, dec_lt}
use native.Mathlib.Omega.{arith}
use lib.Dec.{eqb, ltb}
use lib.ListN.{get_or}
use borrow.Author.Tests.{eq-eqb, ne_eqb, lt-ltb, le-ltb}
use Rattle.spec.specs.Basics.{pick, both}
use Rattle.spec.specs.Places.{unit_word}
use Rattle.spec.specs.Log.{Entry}
use Rattle.spec.specs.Blocks.{pointed, block_bytes}
use Rattle.spec.specs.Words.{value_bytes}
use Rattle.spec.specs.Contents.{Absent, Value, chosen, meaning, held}
use Rattle.spec.specs.Plans.{look_up, part_or}
use Rattle.spec.specs.declared.Report.TheVariants as R
use Rattle.spec.specs.declared.Size.{Size}
use Rattle.spec.specs.declared.Size.TheVariants as S
use Rattle.spec.specs.declared.Refusal.TheVariants as N
use Rattle.theory_log.specs.Batch.{Kind, put, block, delete}
use Rattle.theory_log.proofs.Contents.{chosen_is}
use Rattle.theory_base.proofs.PutBack.{Past}
use Rattle.theory_log.proofs.Stands.{head_first}
use Rattle.theory_log.proofs.Tops.{chosen-top}
use Rattle.theory_crash.specs.Accepted.{Ok}
use Rattle.theory_crash.proofs.Far.{entry-far, block-far}
use Rattle.logs.proofs.Stands.{image-stands}
use Rattle.places.specs.Sizes.{power_of, power-low, power-high}
use Rattle.packing.specs.declared.Info.{Info}
use Rattle.packing.specs.Packed.{unpack_of}
use Rattle.index.specs.Index.{get}
use Rattle.volatile.specs.Known.{extent_of, Bounded, Indexed}
use Rattle.volatile.proofs.Image.{image_bounded}
use Rattle.volatile.proofs.Grow.{found_none, found-chosen}
use Rattle.std.specs.Prelude.{Err}
use Rattle.lookup.specs.declared.Listing.{Listing}
use Rattle.lookup.specs.Listing.{Listed, present_key, is_value, present, value_length, listed_or, listed_of, by_entry, by_parts, by_word, is_present}

-- ## An entry

-- the entry's own words say what is listed; vs and ws have the same length word of a block
kind-listed : (size : Size) (ws vs : List ℕ) (w op pl v x : ℕ) → Kind op pl x → w % 16 ≡ op + 4 * pl → w / 16777216 ≡ x → (both (eqb op 1) (eqb pl 1) ≡ true → get_or ws (unit_word x) 0 ≡ get_or vs (unit_word x) 0)
    → pick (ltb 0 (extent_of size pl x)) (present_key v (extent_of size pl x + 1) false) (by_entry ws v w)
    ≡ pick (eqb op 1) (present_key v (pick (both (eqb op 1) (eqb pl 1)) (get_or vs (unit_word x) 0) x) (both (eqb op 1) (eqb pl 1))) (Err N.KeyAbsent)
kind-listed S.Small ws vs w op pl v x (put l) a b same =
    by_cases (dec_lt 1 x)
    (λ m. rw (lt-ltb 0 (extent_of S.Small 0 x) (omega arith)) (let e : extent_of S.Small 0 x + 1 ≡ x = omega arith in rw e))
    (λ m. rw (le-ltb 0 (extent_of S.Small 0 x) (omega arith), a, b))
kind-listed S.Small ws vs w op pl v x block a b same = rw (a, b, same refl)
kind-listed S.Small ws vs w op pl v x delete a b same = rw a
kind-listed S.Large ws vs w op pl v x (put l) a b same = rw (a, b)
kind-listed S.Large ws vs w op pl v x block a b same = rw (a, b, same refl)
kind-listed S.Large ws vs w op pl v x delete a b same = rw a

-- by the words ws, which are vs past the directory
entry_listed : (size : Size) (n : ℕ) (ws vs : List ℕ) (es : List Entry) → Ok (power_of size) n vs es → Past ws vs → (k : ℕ) (e : Entry) → chosen k es ≡ some e
    → by_parts ws (extent_of size e.placement e.field) e.at e.version ≡ listed_or vs (some e)
entry_listed size n ws vs es ok sees k e c =
    let i = (chosen_is k es e c).in_list in
    let stands = image-stands (power_of size) (power-low size) (power-high size) n vs es ok.parsed e i in
    let w = get_or vs e.at 0 in
    let h = head_first w e.op e.placement e.version e.field stands.first in
    let l = kind-small e.op e.placement e.field stands.right.kind in
    let v = stands.right.high in
    let a : w % 16 ≡ e.op + 4 * e.placement = omega arith in
    let b : w / 16777216 ≡ e.field = omega arith in
    let same : get_or ws e.at 0 ≡ w = sees.same e.at (entry-far (power_of size) (power-low size) (power-high size) n vs es ok e i) in
    ap (λ (x : ℕ). pick (ltb 0 (extent_of size e.placement e.field)) (present_key e.version (extent_of size e.placement e.field + 1) false) (by_entry ws e.version x)) same
    ∙ kind-listed size ws vs w e.op e.placement e.version e.field stands.right.kind a b
    (λ g. sees.same (unit_word e.field) (block-far (power_of size) (power-low size) (power-high size) n vs es ok e (chosen-top k es e c) g))
  where
    kind-small : (op pl x : ℕ) → Kind op pl x → op + 4 * pl < 16
    kind-small op pl x (put l) = omega arith
    kind-small op pl x block = omega arith
    kind-small op pl x delete = omega arith

-- what the code shows at its returns
module _ (ws : List ℕ) (version word : ℕ) where
  pub by-log : word % 16 ≡ 1 → present_key version (word / 16777216) false ≡ by_entry ws version word
  by-log k = sym (rw k)

  pub by-block : (at n : ℕ) → word % 16 ≡ 5 → at ≡ unit_word (word / 16777216) → n ≡ get_or ws at 0 → present_key version n true ≡ by_entry ws version word
  by-block at n k u e = sym (rw (k, ← u) (ap (λ x. present_key version x true) (sym e)))

  pub by-none : (word % 16 ≡ 1 → ⊥) → (word % 16 ≡ 5 → ⊥) → Err N.KeyAbsent ≡ by_entry ws version word
  by-none a b = sym (rw (ne_eqb (word % 16) 1 a, ne_eqb (word % 16) 5 b))

module _ (size : Size) (ws : List ℕ) (word : ℕ) where
  pub by-empty : word ≡ 0 → Err N.KeyAbsent ≡ by_word size ws word
  unfolding by_word
  by-empty z = sym (rw (eq-eqb word 0 z))

  module _ (info : Info) (nz : word ≡ 0 → ⊥) (is : info ≡ unpack_of size word) where
    parts : by_word size ws word ≡ by_parts ws info.extent info.place info.version
    unfolding by_word
    parts = rw (ne_eqb word 0 nz, is)

    pub by-extent : 0 < info.extent → present_key info.version (info.extent + 1) false ≡ by_word size ws word
    by-extent l = sym (parts ∙ rw (lt-ltb 0 info.extent l))

    pub by_place : (r : Listed) (w : ℕ) → info.extent ≤ 0 → w ≡ get_or ws info.place 0 → r ≡ by_entry ws info.version w → r ≡ by_word size ws word
    by_place r w l e h = h ∙ sym (parts ∙ rw (le-ltb 0 info.extent l, ← e))

-- ## The table's word

-- the table of an accepted image with the words vs, which ws are past the directory
module _ (size : Size) (n : ℕ) (ws vs : List ℕ) (es : List Entry) (ok : Ok (power_of size) n vs es) (sees : Past ws vs) (table : List ℕ) (keys : ℕ) (inv : Indexed size table keys es) where
  small : Bounded size es
  small = image_bounded size n vs es ok.parsed ok.most

  pub word-listed : (k : ℕ) → by_word size ws (get table k) ≡ listed_of vs es k
  unfolding by_word listed_of
  word-listed k =
      by_cases (ℕ_discrete (get table k) 0)
      (λ z. rw (eq-eqb (get table k) 0 z, found_none size table keys es inv small k (get table k) refl z))
      (λ nz.
      let f = found-chosen size table keys es inv small k (get table k) refl nz in
      let e = f.0 in
      let x : (unpack_of size (get table k)).extent ≡ extent_of size e.placement e.field = ap (λ (j : Info). j.extent) f.2 in
      let p : (unpack_of size (get table k)).place ≡ e.at = ap (λ (j : Info). j.place) f.2 in
      let v : (unpack_of size (get table k)).version ≡ e.version = ap (λ (j : Info). j.version) f.2 in
      rw (ne_eqb (get table k) 0 nz, x, p, v, f.1) (entry_listed size n ws vs es ok sees k e f.1))

-- ## The register

-- a key is listed exactly if the register holds a value for it
pub listed-present : (ws : List ℕ) (es : List Entry) (k : ℕ) → is_present (listed_of ws es k) ≡ present ws es k
unfolding listed_of
listed-present ws es k = by (chosen k es)
  where
    go : (b1 b2 : Bool) (xs ys : List ℕ) (v n : ℕ)
        → is_present (pick b1 (present_key v n (both b1 b2)) (Err N.KeyAbsent)) ≡ is_value (pick (both b1 b2) (Value xs) (pick b1 (Value ys) Absent))
    go true true xs ys v n = refl
    go true false xs ys v n = refl
    go false b2 xs ys v n = refl

    by : (o : Option Entry) → is_present (listed_or ws o) ≡ is_value (held (meaning ws) o)
    by none = refl
    by (some e) = go (eqb e.op 1) (eqb e.placement 1) (block_bytes ws e.field) (value_bytes e.field e.value) e.version (value_length ws e)

-- the same listing has the same version and length
listing-same : (v n v' n' : ℕ) (b b' : Bool) → present_key v n b ≡ present_key v' n' b' → (v ≡ v') × (n ≡ n')
listing-same v n v' n' b b' h =
    let e : ◌≡◌ {A = Listing} (record { version = v; length = n; block = b }) (record { version = v'; length = n'; block = b' }) = cc in
    (ap (λ (x : Listing). x.version) e, ap (λ (x : Listing). x.length) e)

-- length and version are those that look-up answers
pub listed-part : (ws : List ℕ) (es : List Entry) (k version n : ℕ) (in_block : Bool) → listed_of ws es k ≡ present_key version n in_block → (start : ℕ) × (look_up ws es k ≡ R.Part start n version)
unfolding listed_of look_up
listed-part ws es k version n in_block h = by (chosen k es) h
  where
    by : (o : Option Entry) → listed_or ws o ≡ present_key version n in_block → (start : ℕ) × (part_or ws o ≡ R.Part start n version)
    by none q = absurd (let z : ◌≡◌ {A = ℕ} 0 1 = cc in omega arith)
    by (some e) q = go (eqb e.op 1) (pointed e) q
      where
        go : (b1 b2 : Bool) → pick b1 (present_key e.version (pick b2 (get_or ws (unit_word e.field) 0) e.field) b2) (Err N.KeyAbsent) ≡ present_key version n in_block
            → (start : ℕ) × (pick b1 (pick b2 (R.Part (8 * (unit_word e.field + 1)) (get_or ws (unit_word e.field) 0) e.version) (R.Part (8 * (e.at + 2)) e.field e.version)) (R.Refused N.KeyAbsent) ≡ R.Part start n version)
        go true true r =
            let s = listing-same e.version (get_or ws (unit_word e.field) 0) version n true in_block r in
            (8 * (unit_word e.field + 1), rw (s.1, s.0))
        go true false r =
            let s = listing-same e.version e.field version n false in_block r in
            (8 * (e.at + 2), rw (s.1, s.0))
        go false b2 r = absurd (let z : ◌≡◌ {A = ℕ} 0 1 = cc in omega arith)
