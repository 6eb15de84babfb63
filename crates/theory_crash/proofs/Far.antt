-- Entries and live blocks of an accepted image stand past the directory.
-- Assumes nothing.
use mathlib.Core.Path.{◌≡◌}
use mathlib.Core.Bool.{true}
use mathlib.Core.List.{List}
use Prim.Native.Nat.{ℕ, ◌+◌, ◌-◌, ◌≤◌}
use native.Mathlib.Omega.{arith}
use Rattle.spec.specs.Places.{base, unit_chunk, unit_word, max_chunks}
use Rattle.spec.specs.Log.{Entry}
use Rattle.spec.specs.Blocks.{pointed}
use Rattle.theory_base.proofs.Places.{base-low, past-directory}
use Rattle.theory_log.specs.Contents.{Mem, Top}
use Rattle.theory_log.proofs.Places.{rising-in, all_sound}
use Rattle.theory_crash.specs.Accepted.{Ok}
use Rattle.theory_crash.proofs.Blocks.{fits_in}
use Rattle.theory_crash.proofs.Frame.{live-fits}

module _ (p : ℕ) (lo : 12 ≤ p) (hi : p ≤ 16) (n : ℕ) (ws : List ℕ) (es : List Entry) (ok : Ok p n ws es) (e : Entry) where
  pub entry-far : Mem e es → max_chunks + 8 ≤ e.at
  entry-far i =
      let a = (rising-in (base p 1) (base p (1 + (n - 1))) es e (all_sound p lo hi (n - 1) 1 ws es ok.parsed).rising i).0 in
      let q = base-low p lo hi 1 (omega arith) in
      omega arith

  pub block-far : Top es e → pointed e ≡ true → max_chunks + 8 ≤ unit_word e.field
  block-far t g =
      let fits = live-fits p lo hi n ws es ok e t g in
      let i = (fits_in p lo hi n e.field _ _ (unit_word e.field) fits (omega arith) (omega arith)).0 in
      let q = past-directory p lo hi (unit_chunk p e.field) (unit_word e.field) fits.low i in
      omega arith
