-- What the cores of the calls read off the record and the arguments.
-- Assumes nothing.
use Rattle.std.specs.Prelude.{Bool, true, false, ℕ, eqb, leb}
use Rattle.spec.specs.Basics.{pick, both}
use Rattle.spec.specs.Basics.{Given}
use Rattle.std.specs.declared.option.Option.TheVariants as G

-- a number told with a mark whether it is given
abbrev pub given : Bool → ℕ → Given
given true x = G.Some x
given false x = G.None

-- the number given, 0 where none is
abbrev pub number_in : Given → ℕ
number_in (G.Some x) = x
number_in G.None = 0

-- by the record's phase: whether a call is unfinished, and the phase of a formatting that is begun where none is
abbrev pub unfinished_at : ℕ → Bool
unfinished_at phase = both (leb 2 phase) (leb phase 6)

abbrev pub formatting_at : ℕ → ℕ
formatting_at phase = pick (eqb phase 1) 5 4
