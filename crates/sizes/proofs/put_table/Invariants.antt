-- The loop of `sizes::put_table`: the lines so far stand in the text.
use Rattle.std.proofs.Common.{[]}
use Rattle.text.specs.Text.{Writes}
use Rattle.sizes.specs.Table.{lines_text, text_bytes}
use Rattle.sizes.proofs.put_table.Given as goal

abbrev pub invariant-loop-units : goal.invariant-loop-units
invariant-loop-units l = Writes text_bytes [] l.out (lines_text l.units)
