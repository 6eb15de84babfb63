-- `player::main` is safe: the array has its length, and what was read of it is a prefix. Assumes nothing.
use Rattle.std.proofs.Common.{ℕ}
use mathlib.Core.Path.{sym}
use lib.ListN.{length-replicate}
use Rattle.player.proofs.main.Goals as goal

pub slice_bounds-read_full-end : goal.slice_bounds-read_full-end
slice_bounds-read_full-end c = sym (length-replicate {A = ℕ} 524288 0)

pub slice_bounds-text-end : goal.slice_bounds-text-end
slice_bounds-text-end c = c.read_full-n.ensures.prefix_len.0

pub slice_bounds-play-end : goal.slice_bounds-play-end
slice_bounds-play-end c = c.read_full-n.ensures.prefix_len.1
