-- The loop of `opening::fill::skip_padding`. Its invariant: only padding stands before `place`.
use Rattle.std.proofs.Common.{◌≤◌, max}
use Rattle.spec.specs.Words.{words_of}
use Rattle.opening.specs.Pass.{Skipped}
use Rattle.opening.proofs.fill.skip_padding.Given as goal

abbrev pub invariant-loop-place : goal.invariant-loop-place
invariant-loop-place l = (l.place ≤ max l.stop l.at) × Skipped (words_of l.image) l.end l.at l.place
