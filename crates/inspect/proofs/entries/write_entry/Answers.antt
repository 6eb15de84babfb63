-- `inspect::entries::write_entry` meets its contract: there is no room, or the words are stored.
-- Assumes nothing.
use Rattle.std.proofs.Common.{◌*◌, ◌/◌, length, arith, le-leb}
use borrow.Author.Tests.{lt-leb}
use Rattle.inspect.specs.KeyEntries.{entry_words}
use Rattle.inspect.proofs.Filled.{stored}
use Rattle.inspect.proofs.entries.write_entry.Goals as goal

pub returns-then-out-index : goal.returns-then-out-index
returns-then-out-index c = let a = c.args in rw (le-leb (length a.out.now / entry_words) a.index (omega arith))

pub returns : goal.returns
returns c =
    let a = c.args in
    rw (lt-leb (length a.out.now / entry_words) a.index (omega arith))
    (stored a.out.now (entry_words * a.index) _ c.copy_from_slice.new.self _ c.copy_from_slice.ensures.after (omega arith) (omega arith))
