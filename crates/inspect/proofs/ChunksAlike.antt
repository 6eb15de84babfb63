-- What is asked of a chunk is answered alike at two stations with the same state and image: a station reopened tells of
-- its chunks as one that was never closed.
-- Assumes nothing.
use Rattle.std.proofs.Common.{◌≡◌, ℕ, List, ◌∙◌}
use Rattle.spec.specs.Reports.{number}
use Rattle.spec.specs.Machine.{state_power, gate}
use Rattle.spec.specs.Reopening.{Same}
use Rattle.spec.specs.declared.Refusal.{Refusal}
use Rattle.spec.specs.declared.Report.{Report}
use Rattle.spec.specs.declared.Report.TheVariants as R
use Rattle.session.specs.declared.Session.{Session}
use Rattle.session.specs.State.{state_of}
use Rattle.session.specs.Fits.{Proper, Fits}
use Rattle.lookup.proofs.Alike.{gated-alike}
use Rattle.inspect.specs.declared.ChunkRow.{ChunkRow}
use Rattle.inspect.specs.Rows.{plain_row}
use Rattle.inspect.specs.Contract.{row_in, empty_in, Described, Emptied}

module _ (s t : Session) (image other table beside : List ℕ) (w : Same Proper state_of Fits s t image other table beside) where
  pub chunk-alike : (chunk : ℕ) (r q : ChunkRow) → Described s chunk image table r → Described t chunk other beside q → r ≡ q
  chunk-alike chunk r q x y =
      gated-alike gate s t image other table beside w (λ (n : Refusal). plain_row (number n) 0) (row_in (state_power (state_of s)) image chunk) r q x.gated (λ e. x.exact e w.fits) y.gated
      (λ e. y.exact e w.also ∙ rw (w.state, w.bytes))

  pub empty-chunk-alike : (from : ℕ) (r q : Report) → Emptied s from image table r → Emptied t from other beside q → r ≡ q
  empty-chunk-alike from r q x y =
      gated-alike gate s t image other table beside w R.Refused (empty_in (state_power (state_of s)) image from) r q x.gated (λ e. x.exact e w.fits) y.gated (λ e. y.exact e w.also ∙ rw (w.state, w.bytes))
