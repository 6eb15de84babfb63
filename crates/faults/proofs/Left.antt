-- The laws of a reading: what each step does to what is left, and that an opening parses the same.
-- Assumes nothing.
use mathlib.Core.Path.{◌≡◌, refl, sym, ◌∙◌, ap}
use mathlib.Core.Bool.{Bool, true, false, not, cond}
use mathlib.Core.List.{List, [], ◌∷◌}
use Rattle.std.specs.List.{position, position_or_len}
use borrow.Author.Tests.{ltb-false}
use Rattle.std.proofs.lemmas.List.Recursion.{is_position_or_len}
use Rattle.faults.specs.Faults.{failing}
use Prim.Native.Nat.{ℕ, zero, suc, ◌+◌, ◌-◌, ◌*◌, ◌≤◌, ◌<◌}
use native.Mathlib.Nat.{add-zero, add-suc, suc-add, le_of_suc-le-suc}
use native.Mathlib.Omega.{arith}
use lib.ListN.{length, drop}
use lib.Seq.{slice}
use Rattle.spec.specs.declared.Size.{Size}
use Rattle.spec.specs.declared.Size.TheVariants as Z
use Rattle.places.specs.Sizes.{power_of}
use Rattle.spec.specs.Places.{base, chunk_words}
use Rattle.spec.specs.Directory.{lines_of}
use Rattle.spec.specs.declared.LogStep.{LogStep}
use Rattle.spec.specs.declared.LogStep.TheVariants as S
use Rattle.spec.specs.Log.{Entry, Parsed, cons, prepend, join, step_of, after, parse, all_from, image_entries}
use Rattle.theory_log.proofs.Parse.{found}
use Rattle.theory_log.proofs.Walk.{slice-more, entry_at}
use Rattle.faults.specs.declared.Stop.{Stop}
use Rattle.std.specs.Prelude.{Option, Some, None, unwrap_or, nat_lt}
use Rattle.faults.specs.Reading.{Reading, Whole, Upto, before, all_before, behind, read_words, read_chunk, and_then, read_from, read_image, stop_by, parsed_of}

-- ## One step, at the head of some words

read-drop : (ws : List ℕ) (n at : ℕ) → n ≤ length ws → read_words ws n at ≡ read_words (drop n ws) 0 (at + n)
read-drop [] zero at h = refl
read-drop [] (suc n) at h = refl
read-drop (w ∷ ws) zero at h = rw add-zero
read-drop (w ∷ ws) (suc n) at h = rw (add-suc, ← suc-add) (read-drop ws n (suc at) (le_of_suc-le-suc h))

read-end : (l : List ℕ) (at : ℕ) → step_of l ≡ S.End → read_words l 0 at ≡ Whole []
read-end [] at e = refl
read-end (w ∷ ws) at e = rw e

read-wrong : (l : List ℕ) (at : ℕ) → step_of l ≡ S.Wrong → read_words l 0 at ≡ Upto [] at
unfolding step_of
read-wrong [] at e = absurd (let z : ◌≡◌ {A = ℕ} 0 1 = cc in omega arith)
read-wrong (w ∷ ws) at e = rw e

read-padding : (l : List ℕ) (at : ℕ) → step_of l ≡ S.Padding → read_words l 0 at ≡ read_words (drop 1 l) 0 (at + 1)
unfolding step_of
read-padding [] at e = absurd (let z : ◌≡◌ {A = ℕ} 0 1 = cc in omega arith)
read-padding (w ∷ ws) at e = rw e (let q : suc at ≡ at + 1 = omega arith in rw q)

read_next : (l : List ℕ) (at op pl v x k n : ℕ) → step_of l ≡ S.Entry op pl v x k n
    → read_words l 0 at ≡ before (entry_at op pl v x k n l at) (read_words (drop (2 + n) l) 0 (at + (2 + n)))
unfolding step_of
read_next [] at op pl v x k n e = absurd (let z : ◌≡◌ {A = ℕ} 0 1 = cc in omega arith)
read_next (w ∷ ws) at op pl v x k n e =
    let f = found op pl v x k n w ws e in
    let m : suc n ≤ length ws = f.fits in
    let q : suc at + suc n ≡ at + (2 + n) = omega arith in
    let d : 2 + n ≡ suc (suc n) = omega arith in
    rw (e, read-drop ws (suc n) (suc at) m, q, d)

then-before : (e : Entry) (q r : Reading) → and_then (before e q) r ≡ before e (and_then q r)
then-before e (Whole es) r = refl
then-before e (Upto es w) r = refl

abbrev pub stop_at : ℕ → ℕ → Stop
stop_at w k = record { word = w; before = k }

stop-before : (k : ℕ) (e : Entry) (r : Reading) → stop_by k (before e r) ≡ stop_by (k + 1) r
stop-before k e (Whole es) = refl
stop-before k e (Upto es w) = let q : k + suc (length es) ≡ k + 1 + length es = omega arith in ap (λ (x : ℕ). Some (stop_at w x)) q

-- where a chunk begins at most
pub base-most : (size : Size) (c : ℕ) → base (power_of size) c ≤ 8192 * c
unfolding base chunk_words
base-most Z.Small c = omega arith
base-most Z.Large c = omega arith

-- ## What is left from a place of a chunk on

abbrev pub left_from : ℕ → ℕ → List ℕ → (chunk at end : ℕ) → Reading
left_from p n ws chunk at end = and_then (read_words (slice at end ws) 0 at) (read_from p (n - suc chunk) (suc chunk) ws)

module _ (p n : ℕ) (ws : List ℕ) (k chunk at end : ℕ) where
  abbrev now : Option Stop
  now = stop_by k (left_from p n ws chunk at end)

  pub stops-not : step_of (slice at end ws) ≡ S.End → n ≤ chunk + 1 → now ≡ None
  stops-not q h = let z : n - suc chunk ≡ 0 = omega arith in rw (read-end (slice at end ws) at q, z)

  pub stops-here : step_of (slice at end ws) ≡ S.Wrong → now ≡ Some (stop_at at k)
  stops-here q = let z : k + 0 ≡ k = omega arith in rw (read-wrong (slice at end ws) at q, z)

  pub goes-padding : step_of (slice at end ws) ≡ S.Padding → now ≡ stop_by k (left_from p n ws chunk (at + 1) end)
  goes-padding q = rw (read-padding (slice at end ws) at q, slice-more at 1 end ws)

  pub goes-entry : (op pl v x key m : ℕ) → step_of (slice at end ws) ≡ S.Entry op pl v x key m → now ≡ stop_by (k + 1) (left_from p n ws chunk (at + (2 + m)) end)
  goes-entry op pl v x key m q =
      rw (read_next (slice at end ws) at op pl v x key m q, then-before, slice-more at (2 + m) end ws) (stop-before k (entry_at op pl v x key m (slice at end ws) at) (left_from p n ws chunk (at + (2 + m)) end))

  pub goes-chunk : (lines : ℕ) → step_of (slice at end ws) ≡ S.End → suc chunk < n → lines ≡ lines_of p ws (chunk + 1)
      → now ≡ stop_by k (left_from p n ws (chunk + 1) (base p (chunk + 1)) (base p (chunk + 1) + 8 * lines))
  goes-chunk lines q h e =
      let s : chunk + 1 ≡ suc chunk = omega arith in
      let z : n - suc chunk ≡ suc (n - suc (suc chunk)) = omega arith in
      rw (read-end (slice at end ws) at q, z, e, s)

-- ## What an opening parses

parsed-before : (e : Entry) (r : Reading) → parsed_of (before e r) ≡ cons e (parsed_of r)
parsed-before e (Whole es) = refl
parsed-before e (Upto es w) = refl

parsed-all : (es : List Entry) (r : Reading) → parsed_of (all_before es r) ≡ prepend es (parsed_of r)
parsed-all [] r = refl
parsed-all (e ∷ es) r = parsed-before e (all_before es r) ∙ ap (cons e) (parsed-all es r)

parsed-then : (q r : Reading) → parsed_of (and_then q r) ≡ join (parsed_of q) (parsed_of r)
parsed-then (Whole es) r = parsed-all es r
parsed-then (Upto es w) r = refl

parsed-step : (s : LogStep) (l : List ℕ) (at : ℕ) (f : ℕ → Reading) (g : ℕ → Parsed) → ((n : ℕ) → parsed_of (f n) ≡ g n) → parsed_of (behind s l at f) ≡ after s l at g
parsed-step S.End l at f g h = refl
parsed-step S.Padding l at f g h = h 0
parsed-step S.Wrong l at f g h = refl
parsed-step (S.Entry op pl v x k n) l at f g h = parsed-before (entry_at op pl v x k n l at) (f (suc n)) ∙ ap (cons (entry_at op pl v x k n l at)) (h (suc n))

parsed-words : (l : List ℕ) (skip at : ℕ) → parsed_of (read_words l skip at) ≡ parse l skip at
parsed-words [] skip at = refl
parsed-words (w ∷ ws) zero at = parsed-step (step_of (w ∷ ws)) (w ∷ ws) at (λ n. read_words ws n (suc at)) (λ n. parse ws n (suc at)) (λ n. parsed-words ws n (suc at))
parsed-words (w ∷ ws) (suc n) at = parsed-words ws n (suc at)

parsed-from : (p i c : ℕ) (ws : List ℕ) → parsed_of (read_from p i c ws) ≡ all_from p i c ws
parsed-from p zero c ws = refl
parsed-from p (suc i) c ws =
    parsed-then (read_chunk p ws c) (read_from p i (suc c) ws)
    ∙ rw (parsed-words (slice (base p c) (base p c + 8 * lines_of p ws c) ws) 0 (base p c), parsed-from p i (suc c) ws)

pub parsed-image : (p n : ℕ) (ws : List ℕ) → parsed_of (read_image p n ws) ≡ image_entries p n ws
parsed-image p n ws = parsed-from p (n - 1) 1 ws

-- ## The first test that fails

pub failing-first : (xs : List Bool) → failing xs ≡ position_or_len not xs
failing-first xs = is_position_or_len failing not refl step xs
  where
    step : (b : Bool) (bs : List Bool) → failing (b ∷ bs) ≡ cond (not b) 0 (1 + failing bs)
    step true bs = omega arith
    step false bs = refl

failing-most : (xs : List Bool) → failing xs ≤ length xs
failing-most [] = omega arith
failing-most (true ∷ xs) = let l = failing-most xs in omega arith
failing-most (false ∷ xs) = omega arith

-- a search for it, which finds none where none fails
pub position-failing : (xs : List Bool) (r : Option ℕ) → r ≡ position not xs → unwrap_or r (length xs) ≡ failing xs
position-failing xs r e = rw e (go (nat_lt (position_or_len not xs) (length xs)) refl)
  where
    go : (b : Bool) → nat_lt (position_or_len not xs) (length xs) ≡ b → unwrap_or (cond b (Some (position_or_len not xs)) None) (length xs) ≡ failing xs
    go true q = sym (failing-first xs)
    go false q =
        let first = failing-first xs in
        let most = failing-most xs in
        let l : length xs ≤ position_or_len not xs = ltb-false (position_or_len not xs) (length xs) q in
        omega arith
