-- A cleaning, looking forward from words at rest: `ws` are the words at its begin, `vs` those with all its actions
-- done.
-- Assumes nothing.
use Rattle.std.specs.Prelude.{◌≡◌, List, ℕ, ◌≤◌, ◌<◌, length, get_or}
use Rattle.spec.specs.declared.Size.{Size}
use Rattle.places.specs.Sizes.{power_of}
use Rattle.session.specs.Fits.{Opens}
use Rattle.spec.specs.Places.{directory_word, chunks_in}
use Rattle.spec.specs.Log.{Entry}
use Rattle.spec.specs.Contents.{kept_in}
use Rattle.session.specs.Cleaned.{kept_of, after}
use Rattle.forward.specs.Freed.{Freed}

-- chunk s is cleaned; what it keeps stands from word `at` on in b lines, of which the last z words are padding; below
-- chunk d, but for chunk s, the directory is as it was
pub record Ahead (sz : Size) (lo : 12 ≤ (power_of sz)) (hi : (power_of sz) ≤ 16) (bytes table s at b z d : ℕ) (ws vs : List ℕ) (es : List Entry) : Type 0 where
  pub xs : List Entry
  pub mid : List Entry
  pub ys : List Entry
  pub as' : List Entry
  pub bs : List Entry
  pub freed : Freed sz lo hi (chunks_in (power_of sz) bytes) s at b z ws vs es xs mid ys as' bs
  pub accepted : Opens (power_of sz) bytes vs table (after xs mid ys as' bs at)
  pub kept : kept_of xs mid ys ≡ kept_in (power_of sz) s es
  pub long : length vs ≡ length ws
  pub chunks : (c : ℕ) → 1 ≤ c → c < d → (c ≡ s → ⊥) → get_or vs (directory_word c) 0 ≡ get_or ws (directory_word c) 0
  pub empty : get_or vs (directory_word s) 0 ≡ 0
