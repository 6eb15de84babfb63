-- Words saved one behind the other are the stores of a run, where each is the next action of the call that is begun.
-- Assumes nothing.
use mathlib.Core.Path.{◌≡◌, refl, ◌∙◌, ap, subst}
use mathlib.Core.List.{List}
use Prim.Native.Nat.{ℕ, zero, suc, ◌+◌, ◌-◌, ◌≤◌, ◌<◌}
use native.Mathlib.Omega.{arith}
use lib.ListN.{length, get_or}
use Rattle.spec.specs.Machine.{Step}
use Rattle.session.specs.declared.Control.{Control}
use Rattle.session.specs.declared.Setup.{Setup}
use Rattle.session.specs.declared.Session.{Session}
use Rattle.spec.specs.declared.Report.{Report}
use Rattle.spec.specs.declared.Report.TheVariants as R
use Rattle.words.specs.Image.{Saved}
use Rattle.running.specs.Run.{Runs}
use Rattle.buffer.specs.Areas.{second_start}
use Rattle.running.specs.Stores.{area_word, Filled, Before}
use Rattle.running.proofs.Run.{stored-first}
use Rattle.session.specs.Promise.{Does, memory}

-- THE LOOP: what is saved so far, with whatever is saved behind it, is one row
module _ (value : ℕ → ℕ) (start : ℕ) where
  abbrev pub SoFar : (from i : ℕ) (bytes bytes₁ : List ℕ) → Type 0
  SoFar from i bytes bytes₁ = (from ≤ i) × ((m : ℕ) (bytes' : List ℕ) → Filled value start i m bytes₁ bytes' → Filled value start from (i - from + m) bytes bytes')

  pub none-saved : (from : ℕ) (bytes : List ℕ) → SoFar from from bytes bytes
  none-saved from bytes = (omega arith, λ m bytes' f. let e : m ≡ from - from + m = omega arith in subst (λ (x : ℕ). Filled value start from x bytes bytes') e f)

  pub one-saved : (from i : ℕ) (bytes bytes₁ bytes₂ : List ℕ) (v : ℕ) → SoFar from i bytes bytes₁ → v ≡ value i → Saved bytes₁ bytes₂ (start + i) v → SoFar from (i + 1) bytes bytes₂
  one-saved from i bytes bytes₁ bytes₂ v s e saved = (
    (let l = s.0 in omega arith),
    λ m bytes' f.
        let l = s.0 in
        let a : i - from + suc m ≡ i + 1 - from + m = omega arith in
        let d : i + 1 ≡ suc i = omega arith in
        subst (λ (x : ℕ). Filled value start from x bytes bytes') a
        (s.1 (suc m) bytes' (bytes₂, (subst (Saved bytes₁ bytes₂ (start + i)) e saved, subst (λ (x : ℕ). Filled value start x m bytes₂ bytes') d f))),
  )

  pub two-saved : (from i : ℕ) (bytes bytes₁ bytes₂ bytes₃ : List ℕ) (v w : ℕ) → SoFar from i bytes bytes₁ → v ≡ value i → Saved bytes₁ bytes₂ (start + i) v → w ≡ value (i + 1)
      → Saved bytes₂ bytes₃ (start + (i + 1)) w → SoFar from (i + 2) bytes bytes₃
  two-saved from i bytes bytes₁ bytes₂ bytes₃ v w s e saved d more =
      let q : i + 1 + 1 ≡ i + 2 = omega arith in
      subst (λ (x : ℕ). SoFar from x bytes bytes₃) q (one-saved from (i + 1) bytes bytes₂ bytes₃ w (one-saved from i bytes bytes₁ bytes₂ v s e saved) d more)

  pub all_saved : (from i end : ℕ) (bytes bytes₁ : List ℕ) → SoFar from i bytes bytes₁ → i ≡ end → Filled value start from (end - from) bytes bytes₁
  all_saved from i end bytes bytes₁ s h =
      let l = s.0 in
      let a : i - from + zero ≡ end - from = omega arith in
      subst (λ (x : ℕ). Filled value start from x bytes bytes₁) a (s.1 zero bytes₁ refl)

  -- it leaves the length
  pub filled-length : (m i : ℕ) (bytes bytes' : List ℕ) → Filled value start i m bytes bytes' → length bytes' ≡ length bytes
  filled-length zero i bytes bytes' e = ap length e
  filled-length (suc m) i bytes bytes' (bytes₁, (saved, more)) = filled-length m (suc i) bytes₁ bytes' more ∙ saved.size

  pub so-far-length : (from i : ℕ) (bytes bytes₁ : List ℕ) → SoFar from i bytes bytes₁ → length bytes₁ ≡ length bytes
  so-far-length from i bytes bytes₁ s = filled-length (i - from + zero) from bytes bytes₁ (s.1 zero bytes₁ refl)

-- the word behind word i of the second area
pub next_word : (b : List ℕ) (i : ℕ) → get_or b (513 + i) 0 ≡ area_word b (i + 1)
next_word b i = let e : second_start + 1 + i ≡ second_start + (i + 1) = omega arith in ap (λ (j : ℕ). get_or b j 0) e

-- THE RUN
module _ (c : ℕ → Control) (k : Setup) (b table : List ℕ) (value : ℕ → ℕ) (start size : ℕ) where
  abbrev at : ℕ → Session
  at i = record { control = c i; setup = k; buffer = b }

  -- the store of word number i is a step
  abbrev pub Steps : ℕ → Type 0
  Steps i = (bytes bytes' : List ℕ) → length bytes ≡ size → Saved bytes bytes' (start + i) (value i) → Does Step (memory (at i) bytes table) (memory (at (suc i)) bytes' table) (R.Store (start + i) (value i))

  pub filled_runs : (m i n : ℕ) (bytes bytes' : List ℕ) → Filled value start i m bytes bytes' → n ≡ i + m → ((j : ℕ) → i ≤ j → j < n → Steps j) → length bytes ≡ size
      → (s' : Session) (bytes'' table'' : List ℕ) (r : Report) → Runs (memory (at n) bytes' table) (memory s' bytes'' table'') r → Runs (memory (at i) bytes table) (memory s' bytes'' table'') r
  filled_runs zero i n bytes bytes' f e steps l s' bytes'' table'' r q =
      let z : n ≡ i = omega arith in
      subst (λ (x : List ℕ). Runs (memory (at i) x table) (memory s' bytes'' table'') r) f (subst (λ (x : ℕ). Runs (memory (at x) bytes' table) (memory s' bytes'' table'') r) z q)
  filled_runs (suc m) i n bytes bytes' (bytes₁, (saved, more)) e steps l s' bytes'' table'' r q =
      stored-first (steps i (omega arith) (omega arith) bytes bytes₁ l saved)
      (filled_runs m (suc i) n bytes₁ bytes' more (omega arith) (λ j a d. steps j (omega arith) d) (saved.size ∙ l) s' bytes'' table'' r q)

-- SEVERAL IN A ROW
module _ (Here : Control → Setup → (bytes words : ℕ) → Type 0) (c : Control) (k : Setup) (b bytes : List ℕ) where
  pub before-none : Before Here c k b bytes bytes c.next
  before-none = record { sized = refl; run = λ table h s' bytes'' table'' r q. q }
