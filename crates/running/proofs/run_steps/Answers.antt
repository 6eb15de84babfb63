-- `running::run_steps` meets its contract.
-- Assumes nothing.
use mathlib.Core.Path.{sym, ◌∙◌}
use native.Mathlib.Omega.{arith}
use Rattle.running.proofs.Runs.{none_made, long, wide, one-made, fewer, made}
use Rattle.running.proofs.run_steps.Goals as goal

pub loop-setup-init : goal.loop-setup-init
loop-setup-init c = none_made _ _ _

pub loop-setup-smaller : goal.loop-setup-smaller
loop-setup-smaller c =
    let q = fewer _ _ _ _ _ _ _ _ _ _ c.loop-setup.invariant c.step_core-step.ensures
    (sym c.is_store.ensures ∙ c.if-not-is_store.false) in
    omega arith

pub loop-setup-preserved : goal.loop-setup-preserved
loop-setup-preserved c =
    one-made _ _ _ _ _ _ _ _ _ _ c.loop-setup.invariant c.step_core-step.ensures
    (sym c.is_store.ensures ∙ c.if-not-is_store.false)

pub shape_of-image-then-not-is_store : goal.shape_of-image-then-not-is_store
shape_of-image-then-not-is_store c =
    long _ _ _ _ _ _ _ _ _ _ c.loop-setup.invariant c.step_core-step.ensures

pub shape_of-table-then-not-is_store : goal.shape_of-table-then-not-is_store
shape_of-table-then-not-is_store c =
    wide _ _ _ _ _ _ _ _ _ _ c.loop-setup.invariant c.step_core-step.ensures

pub returns-then-not-is_store : goal.returns-then-not-is_store
returns-then-not-is_store c =
    made _ _ _ _ _ _ _ _ _ _ c.loop-setup.invariant c.step_core-step.ensures
    (sym c.is_store.ensures ∙ c.if-not-is_store.true)
