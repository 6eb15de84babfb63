-- `text::digits` meets its contract.
-- Assumes nothing.
use Rattle.std.proofs.Common.{rules, ◌-◌, arith}
use Rattle.text.proofs.Decimals.{spelling-start, spelled-all, spelling-on}
use Rattle.text.proofs.digits.Goals as goal

pub loop-from-init : goal.loop-from-init
loop-from-init c = spelling-start _ _ (search rules) (omega arith)

pub returns-then-rest-eq0 : goal.returns-then-rest-eq0
returns-then-rest-eq0 c = spelled-all c.args.out.now c.args.number c.loop-from.out c.loop-from.from (c.loop-from.from - 1) c.loop-from.rest (omega (arith, c.loop-from.invariant.some)) c.loop-from.invariant c.if-rest-eq0.true

pub loop-from-preserved : goal.loop-from-preserved
loop-from-preserved c = spelling-on c.args.out.now c.args.number c.loop-from.out c.loop-from.from (c.loop-from.from - 1) c.loop-from.rest (omega (arith, c.loop-from.invariant.some)) c.loop-from.invariant c.if-rest-eq0.false
