-- `running::stage::take_count` meets its contract.
-- Assumes nothing.
use mathlib.Core.Path.{sym}
use native.Mathlib.Omega.{arith}
use Rattle.running.proofs.Staging.{take_none, take-two}
use Rattle.running.proofs.stage.take_count.Goals as goal

pub returns-then-setup-eq0 : goal.returns-then-setup-eq0
returns-then-setup-eq0 c = (sym (take_none c.args.setup c.if-setup-eq0.true), omega arith)

pub returns : goal.returns
returns c = (sym (take-two c.args.setup c.if-setup-eq0.false), omega arith)
