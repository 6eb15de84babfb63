-- What a place says of what was looked for.
-- Assumes nothing.
use mathlib.Core.Path.{◌≡◌, refl, sym}
use mathlib.Core.Option as maybe
use mathlib.Core.Option.{none, some}
use mathlib.Core.List.{List}
use Prim.Native.Nat.{ℕ}
use lib.ListN.{get_or}
use Rattle.std.specs.Prelude.{Some, None}
use Rattle.std.proofs.lemmas.Option.{none-some, same_Some}
use Rattle.spec.specs.Places.{directory_word}
use Rattle.spec.specs.Directory.{lines_of}
use Rattle.placing.specs.declared.lines.Place.{Place}
use Rattle.placing.specs.Found.{place_in, place_of}

-- a place that was found
pub record PlacedAt (p : ℕ) (ws : List ℕ) (q : maybe.Option ℕ) (r : Place) : Type 0 where
  pub chunk : q ≡ some r.chunk
  pub committed : r.committed ≡ lines_of p ws r.chunk
  pub old : r.old ≡ get_or ws (directory_word r.chunk) 0

pub placed_at : (p : ℕ) (ws : List ℕ) (q : maybe.Option ℕ) (r : Place) → Some r ≡ place_of p ws q → PlacedAt p ws q r
placed_at p ws none r e = absurd (none-some r (sym e))
placed_at p ws (some c) r e =
    let s : r ≡ place_in p ws c = same_Some r (place_in p ws c) e in
    rw s (record { chunk = refl; committed = refl; old = refl })

pub placed-nowhere : (p : ℕ) (ws : List ℕ) (q : maybe.Option ℕ) → None ≡ place_of p ws q → q ≡ none
placed-nowhere p ws none e = refl
placed-nowhere p ws (some c) e = absurd (none-some (place_in p ws c) e)
