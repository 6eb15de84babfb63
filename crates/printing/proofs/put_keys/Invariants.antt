-- The loop of `printing::put_keys`: the lines of the keys so far stand in the text.
use Rattle.printing.proofs.Prints.{Lining}
use Rattle.printing.proofs.put_keys.Given as goal

abbrev pub invariant-loop-row : goal.invariant-loop-row
invariant-loop-row g l = Lining g.row.N l.register.control l.register.setup l.register.image.now l.register.table.now l.keys l.layout l.initial.out l.out l.row
