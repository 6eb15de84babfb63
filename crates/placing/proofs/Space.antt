-- When a chunk has space, by its committed lines: a log chunk has at least one.
-- Assumes nothing.
use mathlib.Core.Path.{◌≡◌}
use mathlib.Core.Bool.{false}
use mathlib.Core.List.{List}
use Prim.Native.Nat.{ℕ, ◌+◌, ◌≤◌}
use native.Mathlib.Omega.{arith}
use lib.Dec.{leb}
use borrow.Author.Tests.{le-leb, ne_eqb}
use Rattle.spec.specs.Places.{chunk_lines}
use Rattle.spec.specs.Directory.{lines_of}
use Rattle.spec.specs.Plans.{has_space}
use Rattle.directory.proofs.Roles.{log-lines}

-- what the code shows
module _ (p : ℕ) (ws : List ℕ) (b c : ℕ) where
  pub no_lines : lines_of p ws c ≡ 0 → has_space p ws b 0 c ≡ false
  no_lines h = rw (log-lines p ws c, h)

  pub space-left : (n : ℕ) → n ≡ lines_of p ws c → 1 ≤ n → 1 ≤ c → has_space p ws b 0 c ≡ leb (n + b) (chunk_lines p)
  space-left n h l u = rw (log-lines p ws c, ← h, le-leb 1 n l, ne_eqb c 0 (λ e. omega arith))
