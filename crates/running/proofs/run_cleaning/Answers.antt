-- `running::run_cleaning` meets its contract.
-- Assumes nothing.
use mathlib.Core.Path.{refl, sym, ◌∙◌}
use native.Mathlib.Omega.{arith}
use Rattle.running.proofs.Runs.{none-stored, one-stored, run_ends, never-all}
use Rattle.running.proofs.run_cleaning.Goals as goal

pub loop-at-init : goal.loop-at-init
loop-at-init c = λ x e. rw (← e) (none-stored x _ _ _)

pub loop-at-preserved : goal.loop-at-preserved
loop-at-preserved c =
    λ x e.
    one-stored x _ _ _ _ _ (c.loop-at.invariant x e) (omega arith) _ _ c.clean_action-action.ensures
    c.perform.ensures (sym c.is_store.ensures ∙ c.if-not-is_store.false)

pub shape_of-image-then-not-is_store : goal.shape_of-image-then-not-is_store
shape_of-image-then-not-is_store c =
    (run_ends c.args.control _ _ _ _ _ (c.loop-at.invariant _ refl) (omega arith) _ _
    c.clean_action-action.ensures c.perform.ensures
    (sym c.is_store.ensures ∙ c.if-not-is_store.true)).sized

pub returns-then-not-is_store : goal.returns-then-not-is_store
returns-then-not-is_store c =
    run_ends c.args.control _ _ _ _ _ (c.loop-at.invariant _ refl) (omega arith) _ _
    c.clean_action-action.ensures c.perform.ensures
    (sym c.is_store.ensures ∙ c.if-not-is_store.true)

pub shape_of-image : goal.shape_of-image
shape_of-image c =
    (c.loop-at.invariant c.args.control refl).sized

pub returns : goal.returns
returns c =
    never-all c.args.control _ _ _ _ _ _ (c.loop-at.invariant _ refl) (omega arith)
