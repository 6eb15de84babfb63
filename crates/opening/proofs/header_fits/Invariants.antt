-- The loop of `opening::header_fits`. Its invariant: the words so far are those of the image.
use Rattle.std.proofs.Common.{◌≡◌, ℕ, ◌<◌, length, get_or}
use Rattle.spec.specs.Words.{words_of}
use Rattle.opening.proofs.header_fits.Given as goal

abbrev pub invariant-loop-i : goal.invariant-loop-i
invariant-loop-i l = (length l.words ≡ 8) × ((k : ℕ) → k < l.i → get_or l.words k 0 ≡ get_or (words_of l.image) k 0)
