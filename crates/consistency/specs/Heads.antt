-- An entry by its parts, the comparison of words of an image, and the puts whose values are in blocks.
-- Assumes nothing.
use Rattle.std.specs.Prelude.{Bool, true, List, ℕ, zero, suc, eqb, get_or}
use Rattle.spec.specs.Basics.{both}
use Rattle.spec.specs.Log.{Entry}
use Rattle.logs.specs.Stands.{entry_in}
use Rattle.logs.specs.declared.Entry as H

-- the entry with these parts, but with so many words behind its key
abbrev pub entry_of : List ℕ → H.Entry → ℕ → Entry
entry_of ws h words = entry_in ws h.op h.placement h.version h.field h.key words h.place

-- n words from word a are those from word b
abbrev pub same_from : List ℕ → ℕ → ℕ → ℕ → Bool
same_from ws a b zero = true
same_from ws a b (suc n) = both (eqb (get_or ws a 0) (get_or ws b 0)) (same_from ws (suc a) (suc b) n)

-- a put whose value is in a block
abbrev pub points : (op placement : ℕ) → Bool
points op placement = both (eqb op 1) (eqb placement 1)
