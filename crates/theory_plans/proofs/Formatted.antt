-- A formatting to its end, begun on any medium, leaves an empty register between calls.
-- Assumes nothing.
use mathlib.Core.Path.{◌≡◌}
use mathlib.Core.Bool.{true}
use mathlib.Core.List.{[]}
use Prim.Native.Nat.{ℕ, ◌*◌, ◌/◌, ◌≤◌}
use native.Mathlib.Omega.{arith}
use lib.ListN.{length}
use Rattle.spec.specs.Places.{base, chunks_in, length_allowed}
use Rattle.spec.specs.Medium.{Medium}
use Rattle.spec.specs.Actions.{format_of}
use Rattle.spec.specs.Book.{nothing}
use Rattle.spec.specs.Basics.{Given}
use Rattle.theory_base.proofs.Places.{length-allowed}
use Rattle.theory_base.proofs.Through.{Through, through-map}
use Rattle.theory_crash.specs.Rest.{Rests, FormatCuts, empty}
use Rattle.theory_crash.proofs.Format.{format-through}
use Rattle.theory_plans.specs.Standing.{Standing}
use Rattle.theory_plans.specs.Laws.{Anything}
use Rattle.theory_plans.proofs.Between.{rests-stand}

-- an empty register, with any table
empty_stands : (p n table : ℕ) (m : Medium) → Rests p n 0 empty m → Standing p n table nothing [] [] m
empty_stands p n table m ((ws, es, r, few, h), fl) = rests-stand p n table nothing m ((ws, es, r, omega arith, h), fl)

module _ (p : ℕ) (lo : 12 ≤ p) (hi : p ≤ 16) where
  pub format-stands : (bytes table : ℕ) (m : Medium) (station centre : Given) → length_allowed p bytes ≡ true → length m ≡ bytes / 8
      → Through Anything (Standing p (chunks_in p bytes) table nothing [] []) (format_of p (chunks_in p bytes) station centre) m × (bytes ≡ 8 * base p (chunks_in p bytes))
  format-stands bytes table m station centre allowed size =
      let n = chunks_in p bytes in
      let u = length-allowed p lo hi bytes allowed in
      let b = u.2 in
      let long : length m ≡ base p n = omega arith in (
        through-map (FormatCuts p n m) Anything (Rests p n 0 empty) (Standing p n table nothing [] []) (format_of p n station centre) m (λ m' t. tt)
            (empty_stands p n table _) (format-through p lo hi n u.0 u.1 station centre m long),
        b,
      )
