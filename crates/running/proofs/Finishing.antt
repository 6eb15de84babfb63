-- What the code of the fast path shows at a commit's last action and at its end is what its contract says.
-- Assumes nothing.
use mathlib.Core.Path.{◌≡◌, refl}
use mathlib.Core.List.{List}
use Prim.Native.Nat.{ℕ, ◌+◌, ◌*◌, ◌≤◌, ◌<◌}
use lib.ListN.{length}
use Rattle.spec.specs.Places.{base}
use Rattle.spec.specs.declared.Size.{Size}
use Rattle.spec.specs.Words.{words_of}
use Rattle.session.specs.declared.Control.{Control}
use Rattle.session.specs.declared.Setup.{Setup}
use Rattle.spec.specs.declared.Report.{Report}
use Rattle.spec.specs.declared.Report.TheVariants as R
use Rattle.actions.specs.Nth.{commit_count}
use Rattle.apply.specs.Joining.{Joining}
use Rattle.session.specs.State.{size_in, power_in, chunk_in, lines_in}
use Rattle.session.specs.Numbers.{ended_empty}
use Rattle.session.specs.Promise.{memory_of}
use Rattle.stepping.proofs.Keeping.{acted}
use Rattle.stepping.proofs.Shows.{commit-fences, commit-ends}
use Rattle.running.specs.Run.{StepsOn}
use Rattle.running.specs.Fast.{Finishing}

module _ (c : Control) (k : Setup) (b bytes table : List ℕ) (h : Finishing c k (length bytes) (length table)) where
  -- the end
  pub finish-ends : (c' : Control) (r : Report) → commit_count c.words ≤ c.next → c' ≡ ended_empty c → r ≡ R.End 0
      → StepsOn (memory_of c k b bytes table) (memory_of c' k b bytes table) r
  finish-ends c' r l ec er = rw (ec, er) (commit-ends c k b bytes table h.1.0 h.1.1.0 h.0 l, refl)

  -- the last action, with its batch joined
  pub finish-joins : (c' : Control) (r : Report) (b' table' : List ℕ) (size : Size) (keys place : ℕ) → size ≡ size_in k → place ≡ base (power_in k) (chunk_in k) + 8 * lines_in k → c.next < commit_count c.words
      → Joining size place c.words c.keys b b' (words_of bytes) table table' keys → c' ≡ acted c keys 0 → r ≡ R.Fence
      → StepsOn (memory_of c k b bytes table) (memory_of c' k b' bytes table') r
  finish-joins c' r b' table' size keys place z is-place l j ec er =
      rw (ec, er) (commit-fences c k b bytes table h.1.0 h.1.1.0 h.0 b' table' keys place is-place l h.1.1.1 (rw z at j), refl)
