-- `packing::pack_by` meets its contract: no part of the word is too large.
-- Assumes nothing.
use Rattle.std.proofs.Common.{arith}
use Rattle.packing.specs.Packed.{widths}
use Rattle.packing.proofs.Widths.{versions-fit, places-fit, word-fits}
use Rattle.packing.proofs.pack_by.Goals as goal

pub overflow_mul-result-2 : goal.overflow_mul-result-2
overflow_mul-result-2 g c = omega (arith, versions-fit (widths g.row.EXTENT g.row.PLACE g.row.VERSION g.row.ENTRIES) c.args.info c.requires)

pub overflow_add-result-2 : goal.overflow_add-result-2
overflow_add-result-2 g c = omega (arith, versions-fit (widths g.row.EXTENT g.row.PLACE g.row.VERSION g.row.ENTRIES) c.args.info c.requires)

pub overflow_mul-result-3 : goal.overflow_mul-result-3
overflow_mul-result-3 g c = omega (arith, places-fit (widths g.row.EXTENT g.row.PLACE g.row.VERSION g.row.ENTRIES) c.args.info c.requires)

pub overflow_add-result-3 : goal.overflow_add-result-3
overflow_add-result-3 g c = omega (arith, places-fit (widths g.row.EXTENT g.row.PLACE g.row.VERSION g.row.ENTRIES) c.args.info c.requires)

pub overflow_mul-result-4 : goal.overflow_mul-result-4
overflow_mul-result-4 g c = omega (arith, word-fits (widths g.row.EXTENT g.row.PLACE g.row.VERSION g.row.ENTRIES) c.args.info c.requires)

pub overflow_add-result-4 : goal.overflow_add-result-4
overflow_add-result-4 g c = omega (arith, word-fits (widths g.row.EXTENT g.row.PLACE g.row.VERSION g.row.ENTRIES) c.args.info c.requires)
