-- Chunks without committed words that a walk passes: nothing of the log is lost by it.
-- Assumes nothing.
use mathlib.Core.Path.{◌≡◌, refl, ◌∙◌}
use mathlib.Core.List.{List}
use Prim.Native.Nat.{ℕ, suc, ◌+◌, ◌≤◌, ◌<◌}
use native.Mathlib.Omega.{arith}
use lib.Seq.{slice}
use Rattle.spec.specs.declared.LogStep.TheVariants as S
use Rattle.spec.specs.Log.{step_of}
use Rattle.theory_log.proofs.Walk.{step_end}
use Rattle.logs.specs.declared.Cursor.{Cursor}
use Rattle.logs.specs.Cursor.{cursor_at, remaining, left, Opened}
use Rattle.logs.proofs.Walk.{next-chunk, left-chunk}
use Rattle.consistency.specs.Passing.{Onward}

module _ (p n : ℕ) (ws : List ℕ) (c : ℕ) (r : Cursor) where
  pub onward-start : Opened p ws c r → Onward p n ws c r
  onward-start o = record { first = r; opened = o; nearer = omega arith; same = refl }

  pub onward-more : Onward p n ws c r → r.end ≤ r.at → suc r.chunk < n → (d : Cursor) → Opened p ws (r.chunk + 1) d → Onward p n ws c d
  onward-more so_far none h d o =
      let q = step_end r.at r.end ws (omega arith) in
      let f = left-chunk p n ws r.chunk r.at r.end d h o in
      let g = so_far.nearer in
      record { first = so_far.first; opened = so_far.opened; nearer = omega arith; same = so_far.same ∙ next-chunk p n ws r.chunk r.at r.end d q h o }

-- from the end of a chunk's words on
module _ (p n : ℕ) (ws : List ℕ) (chunk at end : ℕ) (h : suc chunk < n) (r : Cursor) (told : Onward p n ws (chunk + 1) r) where
  pub onward-same : step_of (slice at end ws) ≡ S.End → remaining p n ws (cursor_at chunk at end) ≡ remaining p n ws r
  onward-same q = next-chunk p n ws chunk at end told.first q h told.opened ∙ told.same

  pub onward-nearer : left n ws r < left n ws (cursor_at chunk at end)
  onward-nearer = let f = left-chunk p n ws chunk at end told.first h told.opened in let g = told.nearer in omega arith
