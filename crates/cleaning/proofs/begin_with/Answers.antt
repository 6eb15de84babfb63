-- `cleaning::begin_with` meets its contract.
-- Assumes nothing.
use native.Mathlib.Omega.{arith}
use Rattle.session.specs.State.{size_in}
use Rattle.theory_base.proofs.Places.{words-most}
use Rattle.places.specs.Sizes.{power_of, power-low, power-high}
use Rattle.cleaning.proofs.BeginShows.{turned, set}
use Rattle.cleaning.proofs.begin_with.Goals as goal

pub plan_clean-requires : goal.plan_clean-requires
plan_clean-requires c =
    c.requires

pub store_kept-requires : goal.store_kept-requires
store_kept-requires c =
    let p = c.requires in
    let w = words-most (power_of (size_in c.args.setup)) (power-low (size_in c.args.setup))
    (power-high (size_in c.args.setup)) in
    omega arith

pub returns-in-Err : goal.returns-in-Err
returns-in-Err c =
    turned c.args.control c.args.setup c.args.buffer.now c.args.image.now
    c.args.table.now _ c.args.number c.plan_clean.result
    c.plan_clean.ensures _ c.in-Err.is

pub returns : goal.returns
returns c =
    rw (c.in_phase-begun.ensures, c.append_setup-target.ensures)
    (set c.args.control c.args.setup c.args.buffer.now c.args.image.now
    c.args.table.now _ c.args.number c.plan_clean.result
    c.plan_clean.ensures _ c.in-Ok.is _ c.store_kept.ensures)
