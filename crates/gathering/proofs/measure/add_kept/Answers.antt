-- `gathering::measure::add_kept` meets its contract.
-- Assumes nothing.
use Rattle.std.proofs.Common.{arith}
use Rattle.places.specs.Sizes.{power_of, power-low, power-high}
use Rattle.theory_base.proofs.Places.{words-most}
use Rattle.gathering.proofs.Measures.{weigh-kept, weigh-full, weigh-not}
use Rattle.gathering.proofs.measure.add_kept.Goals as goal
use Rattle.gathering.proofs.measure.add_kept.Goals.{else-kept-via-then-kept+else-has_room, else-kept-via-else-kept}

pub overflow_add-result : goal.overflow_add-result
overflow_add-result c = let f = c.has_room.ensures.fits c.if-has_room.true in let x = f.0 in let y = f.1 in let z = f.2 in let w = words-most (power_of c.args.size) (power-low c.args.size) (power-high c.args.size) in omega arith

pub overflow_add-result-then-has_room : goal.overflow_add-result-then-has_room
overflow_add-result-then-has_room c = let f = c.has_room.ensures.fits c.if-has_room.true in let x = f.0 in let y = f.1 in let z = f.2 in let w = words-most (power_of c.args.size) (power-low c.args.size) (power-high c.args.size) in omega arith

pub overflow_add-result-then-has_room-2 : goal.overflow_add-result-then-has_room-2
overflow_add-result-then-has_room-2 c = let f = c.has_room.ensures.fits c.if-has_room.true in let x = f.0 in let y = f.1 in let z = f.2 in let w = words-most (power_of c.args.size) (power-low c.args.size) (power-high c.args.size) in omega arith

pub returns-then-has_room : goal.returns-then-has_room
returns-then-has_room c = rw c.if-kept.true (weigh-kept _ _ _ _ (rw c.if-has_room.true at c.has_room.ensures))

pub returns-else-kept : goal.returns-else-kept
returns-else-kept c =
    elim c.else-kept.branch [
      | else-kept-via-then-kept+else-has_room w ↦ rw w.if-kept.true (weigh-full _ _ _ _ (rw w.if-has_room.false at w.has_room.ensures))
      | else-kept-via-else-kept w ↦ rw w.if-kept.false (weigh-not _ _ _ _)
    ]
