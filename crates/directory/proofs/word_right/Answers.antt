-- `directory::word_right` meets its contract.
-- Assumes nothing.
use Rattle.std.proofs.Common.{sym}
use Rattle.directory.proofs.Tests.{word-inside, word-past, word-zero}
use Rattle.places.specs.Sizes.{power_of}
use Rattle.directory.proofs.word_right.Goals as goal
use Rattle.directory.proofs.word_right.Goals.{else-c-ge1-via-then-c-ge1+else-c-count, else-c-ge1-via-else-c-ge1}

pub returns-then-c-count : goal.returns-then-c-count
returns-then-c-count c = let i = word-inside (power_of c.args.size) c.args.count _ c.directory_word-word.result c.if-c-ge1.true c.if-c-count.true in cc

pub returns-else-c-ge1 : goal.returns-else-c-ge1
returns-else-c-ge1 c =
    let p = power_of c.args.size in
    rw c.directory_word-word.ensures (sym (elim c.else-c-ge1.branch [ else-c-ge1-via-then-c-ge1+else-c-count i ↦ word-past p _ _ _ i.if-c-count.false | else-c-ge1-via-else-c-ge1 i ↦ word-zero p _ _ _ i.if-c-ge1.false ]))
