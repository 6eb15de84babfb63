-- What a search for a chunk answers: the definition's option, as the code has it.
-- Assumes nothing.
use Rattle.std.specs.Prelude.{◌≡◌, Bool, true, false, List, ℕ, ◌≤◌, ◌<◌, Option, Some, None}
use Rattle.std.proofs.Math.Option as maybe
use Rattle.std.proofs.Math.Option.{none, some}
use Rattle.spec.specs.Directory.{role_at, is_free}
use Rattle.spec.specs.Plans.{free_chunk}

abbrev pub found_of : maybe.Option ℕ → Option ℕ
found_of none = None
found_of (some c) = Some c

-- a search from `from` on and below `count` stopped at r: the test takes nothing before r, and takes r, unless that is
-- not below the count
pub record Stops (test : ℕ → Bool) (from count r : ℕ) : Type 0 where
  pub behind : from ≤ r
  pub before : (c : ℕ) → from ≤ c → c < r → test c ≡ false
  pub here : r < count → test r ≡ true

-- a search for free chunks, where no chunk below `from` is free
abbrev pub FreeFound : (p : ℕ) (ws : List ℕ) (from count needed : ℕ) → Option ℕ → Type 0
FreeFound p ws from count needed r = ((c : ℕ) → 1 ≤ c → c < from → is_free (role_at p ws c) ≡ false) → r ≡ found_of (free_chunk p count ws needed)
