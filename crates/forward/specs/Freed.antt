-- A cleaning whose actions are done: the image at its begin, and the image now.
-- Assumes nothing.
use Rattle.std.specs.Prelude.{◌≡◌, List, ◌++◌, ℕ, ◌+◌, ◌*◌, ◌≤◌, ◌<◌, get_or, replicate}
use Rattle.std.proofs.Math.Seq.{slice}
use Rattle.spec.specs.declared.Size.{Size}
use Rattle.places.specs.Sizes.{power_of}
use Rattle.spec.specs.Places.{base}
use Rattle.spec.specs.Directory.{lines_of}
use Rattle.spec.specs.Log.{Entry, encode_all}
use Rattle.theory_log.proofs.Kept.{Parts}
use Rattle.theory_crash.specs.Accepted.{Ok}
use Rattle.session.specs.Cleaned.{kept_of, after}

-- chunk s of n is cleaned; what it keeps stands from word `at` on in b lines; `old` are the words at the begin
pub record Freed (sz : Size) (lo : 12 ≤ (power_of sz)) (hi : (power_of sz) ≤ 16) (n s at b z : ℕ) (old ws : List ℕ) (es xs mid ys as' bs : List Entry) : Type 0 where
  pub low : 1 ≤ s
  pub high : s < n
  pub ok-old : Ok (power_of sz) n old es
  pub parts : Parts (power_of sz) lo hi n s old es xs mid ys
  pub ok : Ok (power_of sz) n ws (after xs mid ys as' bs at)
  pub rest : as' ++ bs ≡ xs ++ ys
  pub free : lines_of (power_of sz) ws s ≡ 0
  pub same : (k : ℕ) → base (power_of sz) s ≤ k → k < base (power_of sz) s + 8 * lines_of (power_of sz) old s → get_or ws k 0 ≡ get_or old k 0
  pub written : slice at (at + 8 * b) ws ≡ encode_all (kept_of xs mid ys) ++ replicate z 0
