-- Word i of the padded words: one of them, or a zero behind them.
-- Assumes nothing.
use mathlib.Core.Path.{refl}
use Prim.Native.Nat.{◌+◌}
use native.Mathlib.Omega.{arith}
use Rattle.actions.proofs.Appending.{word-inside, word-behind}
use Rattle.actions.proofs.append.append_word.Goals as goal

pub returns-then-i-words : goal.returns-then-i-words
returns-then-i-words c = let a = c.args in word-inside a.buffer.now a.from a.words a.i (a.from + a.i) (omega arith) refl

pub returns-else-i-words : goal.returns-else-i-words
returns-else-i-words c = let a = c.args in word-behind a.buffer.now a.from a.words a.i (omega arith)
