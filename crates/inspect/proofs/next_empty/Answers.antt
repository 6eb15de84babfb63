-- `inspect::next_empty` meets its contract.
-- Assumes nothing.
use Rattle.std.proofs.Common.{◌≡◌, sym, ◌∙◌, arith}
use Rattle.spec.specs.Words.{words_of}
use Rattle.directory.proofs.Search.{before_more}
use Rattle.inspect.specs.ByTable.{empty_by}
use Rattle.inspect.proofs.next_empty.Goals as goal

pub loop-c-init : goal.loop-c-init
loop-c-init c = λ d l u. absurd (omega arith)

pub returns-then-is_empty : goal.returns-then-is_empty
returns-then-is_empty c = record {
  stops = record { behind = omega arith; before = c.loop-c.invariant; here = λ h. sym c.is_empty.ensures ∙ c.if-is_empty.true };
  inside = λ d q. let e : c.loop-c.c ≡ d = cc in omega arith;
}

pub loop-c-preserved : goal.loop-c-preserved
loop-c-preserved c = before_more (empty_by c.args.size (words_of c.args.image.now) c.args.table.now c.args.count c.args.from) 1 c.loop-c.c c.loop-c.invariant (sym c.is_empty.ensures ∙ c.if-is_empty.false)

pub returns : goal.returns
returns c = record {
  stops = record { behind = omega arith; before = λ d l u. c.loop-c.invariant d l (omega arith); here = λ h. absurd (omega arith) };
  inside = λ d q. cc;
}
