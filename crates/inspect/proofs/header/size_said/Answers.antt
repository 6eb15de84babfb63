-- `inspect::header::size_said` meets its contract.
-- Assumes nothing.
use Rattle.std.proofs.Common.{ap, ◌∙◌}
use Rattle.places.specs.Sizes.{size_by}
use Rattle.inspect.proofs.header.size_said.Goals as goal

pub returns : goal.returns
returns c = c.size_by.ensures ∙ ap size_by c.power_said.ensures
