-- `faults::header_fault` meets its contract.
-- Assumes nothing.
use mathlib.Core.Path.{◌∙◌}
use mathlib.Core.Bool.{Bool}
use mathlib.Core.List.{List, [], ◌∷◌}
use lib.Dec.{eqb}
use Rattle.faults.specs.Faults.{header_fault}
use Rattle.faults.proofs.Left.{position-failing}
use Rattle.faults.proofs.header_fault.Goals as goal

pub returns : goal.returns
unfolding header_fault
returns c =
    let tests : List Bool =
    c.is_map.result ∷ eqb c.load.result c.args.count ∷ c.field_right.result ∷ c.field_right-2.result ∷ c.field_right-3.result
    ∷ eqb c.load-5.result 0 ∷ eqb c.load-6.result 0 ∷ [] in
    let first = position-failing tests c.first_failing.result c.first_failing.ensures in
    c.unwrap_or.ensures ∙ first ∙ rw (
      c.is_map.ensures,
      c.field_right.ensures,
      c.field_right-2.ensures,
      c.field_right-3.ensures,
      c.field_count-fields.ensures,
      c.load-map.ensures,
      c.load.ensures,
      c.load-2.ensures,
      c.load-3.ensures,
      c.load-4.ensures,
      c.load-5.ensures,
      c.load-6.ensures,
    )
