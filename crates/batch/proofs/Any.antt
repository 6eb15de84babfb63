-- Whether the staged words say an item, found in one pass over them: what each step of the pass shows.
-- Assumes nothing.
use mathlib.Core.Path.{◌≡◌, refl, sym, ◌∙◌, ap}
use mathlib.Core.Bool.{Bool, true, false}
use mathlib.Core.List.{List, [], ◌∷◌}
use Prim.Native.Nat.{ℕ, zero, suc, ◌+◌, ◌≤◌, ◌<◌, min}
use native.Mathlib.Omega.{arith}
use lib.ListN.{length, get_or, take, length-take, drop_of_length-le}
use lib.Seq.{slice}
use Rattle.spec.specs.Basics.{negate, is_empty}
use Rattle.spec.specs.Log.{Entry, Parsed, Wrong, Entries, cons, parse, step_of}
use Rattle.spec.specs.Contents.{listed}
use Rattle.spec.specs.declared.LogStep.TheVariants as S
use Rattle.theory_log.proofs.Walk.{slice-head, slice-more, parse-end, parse-wrong, parse-padding, parse-next}
use Rattle.buffer.specs.Areas.{batch_room}
use Rattle.session.specs.State.{buffer_part}
use Rattle.batch.specs.Items.{any_item}

-- the buffer's words one by one are a part of it
pub part_slice : (b : List ℕ) (i n end : ℕ) → end ≡ i + n → end ≤ length b → buffer_part b i n ≡ slice i end b
part_slice b i zero end e l = let k : length (take end b) ≤ i = rw length-take (omega arith) in sym (drop_of_length-le (take end b) k)
part_slice b i (suc n) end e l =
    let h : i < end = omega arith in
    let m : i < length b = omega arith in
    ap (λ (ws : List ℕ). get_or b i 0 ∷ ws) (part_slice b (suc i) n end (omega arith) l) ∙ sym (slice-head i end b h m)

-- whether an item was passed, or one is to come
abbrev pub any_in : Bool → Parsed → Bool
any_in seen Wrong = false
any_in seen (Entries []) = seen
any_in seen (Entries (e ∷ es)) = true

any_none : (q : Parsed) → negate (is_empty (listed q)) ≡ any_in false q
any_none Wrong = refl
any_none (Entries []) = refl
any_none (Entries (e ∷ es)) = refl

any-cons : (seen : Bool) (e : Entry) (q : Parsed) → any_in seen (cons e q) ≡ any_in true q
any-cons seen e Wrong = refl
any-cons seen e (Entries []) = refl
any-cons seen e (Entries (x ∷ es)) = refl

pub any-start : (b : List ℕ) (words end : ℕ) → end ≡ min words batch_room → batch_room ≤ length b → any_item b words ≡ any_in false (parse (slice 0 end b) 0 0)
unfolding any_item
any-start b words end e l =
    let p : buffer_part b 0 (min words batch_room) ≡ slice 0 end b = part_slice b 0 (min words batch_room) end (omega arith) (omega arith) in
    ap (λ (ws : List ℕ). negate (is_empty (listed (parse ws 0 0)))) p ∙ any_none (parse (slice 0 end b) 0 0)

-- the steps, at a place
module _ (b : List ℕ) (words at end : ℕ) (seen : Bool) (so_far : any_item b words ≡ any_in seen (parse (slice at end b) 0 at)) where
  pub any-end : step_of (slice at end b) ≡ S.End → seen ≡ any_item b words
  any-end q = sym (so_far ∙ ap (any_in seen) (parse-end (slice at end b) at q))

  pub any-wrong : step_of (slice at end b) ≡ S.Wrong → false ≡ any_item b words
  any-wrong q = sym (so_far ∙ ap (any_in seen) (parse-wrong (slice at end b) at q))

  pub any-padding : step_of (slice at end b) ≡ S.Padding → any_item b words ≡ any_in seen (parse (slice (at + 1) end b) 0 (at + 1))
  any-padding q = so_far ∙ rw ((parse-padding (slice at end b) at q).1, slice-more at 1 end b)

  pub any_entry : (op pl v x k n : ℕ) → step_of (slice at end b) ≡ S.Entry op pl v x k n → any_item b words ≡ any_in true (parse (slice (at + (2 + n)) end b) 0 (at + (2 + n)))
  any_entry op pl v x k n q = so_far ∙ rw ((parse-next (slice at end b) at op pl v x k n q).1, any-cons, slice-more at (2 + n) end b)
