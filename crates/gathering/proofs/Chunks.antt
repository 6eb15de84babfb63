-- What is gathered of a whole chunk is what a cleaning of it keeps.
-- Assumes nothing.
use Rattle.std.proofs.Common.{◌≡◌, ℕ, ◌+◌, ◌*◌, ◌%◌, ◌<◌, ◌≤◌, List, length}
use Rattle.spec.specs.declared.Size.{Size}
use Rattle.places.specs.Sizes.{power_of, power-low, power-high}
use Rattle.spec.specs.Places.{base}
use Rattle.spec.specs.Directory.{lines_of}
use Rattle.spec.specs.Log.{Entry, encode_all}
use Rattle.spec.specs.Contents.{kept_in}
use Rattle.theory_log.proofs.Kept.{Parts, parts}
use Rattle.theory_crash.specs.Accepted.{Ok}
use Rattle.buffer.specs.Areas.{second_start}
use Rattle.volatile.specs.Known.{Indexed}
use Rattle.session.specs.State.{buffer_part}
use Rattle.gathering.specs.declared.measure.Tally.{Tally}
use Rattle.gathering.proofs.Sizes.{gathered-kept, gatherable}
use Rattle.gathering.specs.Gathering.{Gathered}

-- chunk s, whose committed words are those from `at` to `end`
module _ (size : Size) (n s at end keys : ℕ) (ws table : List ℕ) (es : List Entry) (ok : Ok (power_of size) n ws es) (indexed : Indexed size table keys es) (low : 1 ≤ s) (high : s < n) (ea : at ≡ base (power_of size) (s % 512)) (ee : end ≡ at + 8 * lines_of (power_of size) ws s) where
  pub chunk-gathered : (b b' : List ℕ) (t : Tally) → Gathered size ws table b b' at end t → (buffer_part b' second_start t.words ≡ encode_all (kept_in (power_of size) s es)) × (t.entries ≡ length (kept_in (power_of size) s es))
  chunk-gathered b b' t g = go (parts (power_of size) (power-low size) (power-high size) n s ws es low high ok.parsed)
    where
      go : (xs : List Entry) × (mid : List Entry) × (ys : List Entry) × Parts (power_of size) (power-low size) (power-high size) n s ws es xs mid ys → (buffer_part b' second_start t.words ≡ encode_all (kept_in (power_of size) s es)) × (t.entries ≡ length (kept_in (power_of size) s es))
      go (xs, mid, ys, p) = rw (gathered-kept size (power-low size) (power-high size) n s ws es xs mid ys p) at (g.gathers keys xs mid ys (gatherable size n s at end keys ws table es ok indexed low high ea ee xs mid ys p))
