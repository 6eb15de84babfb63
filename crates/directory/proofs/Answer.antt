-- What the answer of a search says of what was looked for.
-- Assumes nothing.
use mathlib.Core.Path.{◌≡◌, refl}
use mathlib.Core.Option.{Option, none, some}
use Prim.Native.Nat.{ℕ}
use native.Mathlib.Omega.{arith}
use Rattle.std.specs.Prelude.{Some, None}
use Rattle.directory.specs.Found.{found_of}

pub found_at : (q : Option ℕ) (c : ℕ) → found_of q ≡ Some c → q ≡ some c
found_at none c h = absurd (let z : ◌≡◌ {A = ℕ} 0 1 = cc in omega arith)
found_at (some d) c h = cc

pub found_nothing : (q : Option ℕ) → found_of q ≡ None → q ≡ none
found_nothing none h = refl
found_nothing (some d) h = absurd (let z : ◌≡◌ {A = ℕ} 0 1 = cc in omega arith)
