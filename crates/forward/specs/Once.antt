-- Entries of which no two are of one key.
-- Assumes nothing.
use Rattle.std.specs.Prelude.{◌≡◌, List, [], ◌∷◌}
use Rattle.spec.specs.Log.{Entry}
use Rattle.theory_log.specs.Contents.{Mem}

-- no two entries are of one key
abbrev pub OneEach : List Entry → Type 0
OneEach [] = Unit {0}
OneEach (c ∷ cs) = ((d : Entry) → Mem d cs → d.key ≡ c.key → ⊥) × OneEach cs
