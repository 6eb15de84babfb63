-- What a search for space answers, and the place that it gives.
-- Assumes nothing.
use Rattle.std.specs.Prelude.{◌≡◌, ◌⊎◌, Bool, true, List, ℕ, ◌%◌, ◌≤◌, ◌<◌, max, get_or, Option, Some, None, unwrap_or}
use Rattle.std.proofs.Math.Option as maybe
use Rattle.std.proofs.Math.Option.{none, some}
use Rattle.spec.specs.Places.{directory_word}
use Rattle.spec.specs.Directory.{lines_of}
use Rattle.spec.specs.Plans.{has_space, log_place}
use Rattle.session.specs.Fits.{NoneAbove, sole_mark, Hint}
use Rattle.directory.specs.Found.{Stops}
use Rattle.placing.specs.declared.lines.Place.{Place}
use Rattle.placing.specs.declared.lines.Placed.{Placed}
use Rattle.placing.specs.declared.lines.Start.{Start}

-- a chunk, its committed lines and its directory word
abbrev pub place_in : ℕ → List ℕ → ℕ → Place
place_in p ws c = record { chunk = c; committed = lines_of p ws c; old = get_or ws (directory_word c) 0 }

-- the chunk found, if one was
abbrev pub place_of : ℕ → List ℕ → maybe.Option ℕ → Option Place
place_of p ws none = None
place_of p ws (some c) = Some (place_in p ws c)

-- the first number from `from` on and below `count` that a test takes; a search that finds none stops at the first that
-- is neither
pub record Sought (test : ℕ → Bool) (from count : ℕ) (r : Option ℕ) : Type 0 where
  pub stops : Stops test from count (unwrap_or r (max from count))
  pub inside : (c : ℕ) → r ≡ Some c → c < count

-- a search for a log chunk with space; where `sole` is told, there is none behind `from`
pub record Near (p : ℕ) (ws : List ℕ) (from count lines : ℕ) (sole : Bool) (r : ℕ) : Type 0 where
  pub behind : from ≤ r
  pub stops : (sole ≡ true → NoneAbove p count ws from lines) → Stops (has_space p ws lines 0) from count r

-- the start of a search by a hint: a hint holds for no fewer lines than it speaks of; chunk 0 is no log chunk
pub record Started (first least lines : ℕ) (r : Start) : Type 0 where
  pub low : 1 ≤ r.from
  pub at : (r.from ≡ 1) ⊎ ((least ≤ lines) × (r.from ≡ first % sole_mark))
  pub sole : r.sole ≡ true → (least ≤ lines) × (sole_mark ≤ first) × (r.from ≡ first % sole_mark)

pub record FreeStart (start : Start) (count r : ℕ) : Type 0 where
  pub low : 1 ≤ r
  pub at : (r ≡ 1) ⊎ ((start.sole ≡ true) × (r ≡ start.from) × (r < count))

-- the number of a hint, of a chunk or of one below it; of that chunk alone, if so told
pub record Hinted (chunk : ℕ) (sole : Bool) (r : ℕ) : Type 0 where
  pub under : r % sole_mark ≤ chunk
  pub marked : sole_mark ≤ r → (sole ≡ true) × (r % sole_mark ≡ chunk)

-- the place is the definition's, and the next hint holds of the image, and also once lines were added to the place
pub record Searched (p : ℕ) (ws : List ℕ) (count lines needed : ℕ) (r : Placed) : Type 0 where
  pub place : r.place ≡ place_of p ws (log_place p count ws lines 0 needed)
  pub hint : Hint p count ws r.first r.least
  pub low : (q : Place) → r.place ≡ Some q → r.first % sole_mark ≤ q.chunk
  pub sole : (q : Place) → r.place ≡ Some q → sole_mark ≤ r.first → q.chunk ≡ r.first % sole_mark

-- so it is where the hint given holds
abbrev pub Searching : (p : ℕ) (ws : List ℕ) (count lines needed first least : ℕ) → Placed → Type 0
Searching p ws count lines needed first least r = Hint p count ws first least → Searched p ws count lines needed r
