-- Padding that the first pass skips: nothing of the log is lost by it.
-- Assumes nothing.
use mathlib.Core.Path.{◌≡◌, refl, ◌∙◌}
use Prim.Native.Nat.{ℕ, ◌+◌, ◌<◌}
use native.Mathlib.Omega.{arith}
use mathlib.Core.List.{List}
use lib.ListN.{length, get_or}
use Rattle.logs.proofs.Walk.{next-padding, left-padding}
use Rattle.consistency.proofs.Passed.{padding-stands}
use Rattle.opening.specs.Pass.{Skipped}

module _ (ws : List ℕ) (end at : ℕ) where
  pub skip-start : Skipped ws end at at
  skip-start = record { nearer = λ n c. omega arith; same = λ p n c. refl }

  pub skip-more : (at' : ℕ) → Skipped ws end at at' → at' < end → at' < length ws → 0 ≡ get_or ws at' 0 → Skipped ws end at (at' + 1)
  skip-more at' so_far h l z =
      let q = padding-stands ws at' end h l z in
      record {
        nearer = λ n c. let f = left-padding 0 n ws c at' end q in let g = so_far.nearer n c in omega arith;
        same = λ p n c. so_far.same p n c ∙ next-padding p n ws c at' end q;
      }
