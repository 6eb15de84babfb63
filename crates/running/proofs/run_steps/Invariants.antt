-- The loops of `running::run_steps`. The loop's invariant: the steps so far each stored a word; each step leaves one
-- fewer.
use Rattle.spec.specs.Machine.{steps_left}
use Rattle.session.specs.State.{state_of}
use Rattle.running.proofs.Runs.{Stored}
use Rattle.running.proofs.run_steps.Given as goal

abbrev pub invariant-loop-setup : goal.invariant-loop-setup
invariant-loop-setup l =
    Stored (record { control = l.initial.so_far; setup = l.setup; buffer = l.initial.buffer }) (record { control = l.so_far; setup = l.setup; buffer = l.buffer }) l.initial.image l.image l.initial.table l.table

abbrev pub decreases-loop-setup : goal.decreases-loop-setup
decreases-loop-setup l = steps_left (state_of (record { control = l.so_far; setup = l.setup; buffer = l.buffer }))
