-- `gathering::take` meets its contract.
-- Assumes nothing.
use Rattle.std.proofs.Common.{arith}
use Rattle.places.specs.Sizes.{power_of, power-low, power-high}
use Rattle.theory_base.proofs.Places.{words-most}
use Rattle.gathering.proofs.Words.{take-kept, take-full, take-not}
use Rattle.gathering.proofs.take.Goals as goal
use Rattle.gathering.proofs.take.Goals.{else-is-via-then-is+else-has_room, else-is-via-else-is}

pub overflow_add-value : goal.overflow_add-value
overflow_add-value c =
    let f = c.has_room.ensures.fits c.if-has_room.true in
    let x = f.0 in
    let y = f.1 in
    let z = f.2 in
    let w = words-most (power_of c.args.size) (power-low c.args.size)
    (power-high c.args.size) in
    omega arith

pub copy_words-requires : goal.copy_words-requires
copy_words-requires c =
    let f = c.has_room.ensures.fits c.if-has_room.true in
    let x = f.0 in
    let y = f.1 in
    let z = f.2 in
    let w = words-most (power_of c.args.size) (power-low c.args.size)
    (power-high c.args.size) in
    let p = c.requires in (omega arith, omega arith)

pub overflow_add-result : goal.overflow_add-result
overflow_add-result c =
    let f = c.has_room.ensures.fits c.if-has_room.true in
    let x = f.0 in
    let y = f.1 in
    let z = f.2 in
    let w = words-most (power_of c.args.size) (power-low c.args.size)
    (power-high c.args.size) in
    omega arith

pub overflow_add-result-then-has_room : goal.overflow_add-result-then-has_room
overflow_add-result-then-has_room c =
    let f = c.has_room.ensures.fits c.if-has_room.true in
    let x = f.0 in
    let y = f.1 in
    let z = f.2 in
    let w = words-most (power_of c.args.size) (power-low c.args.size)
    (power-high c.args.size) in
    omega arith

pub overflow_add-result-then-has_room-2 : goal.overflow_add-result-then-has_room-2
overflow_add-result-then-has_room-2 c =
    let f = c.has_room.ensures.fits c.if-has_room.true in
    let x = f.0 in
    let y = f.1 in
    let z = f.2 in
    let w = words-most (power_of c.args.size) (power-low c.args.size)
    (power-high c.args.size) in
    omega arith

pub returns-then-has_room : goal.returns-then-has_room
returns-then-has_room c =
    rw c.if-is.true (take-kept _ _ _ _ _ _ c.requires (rw c.if-has_room.true at c.has_room.ensures) _ c.copy_words.ensures)

pub returns-else-is : goal.returns-else-is
returns-else-is c =
    elim c.else-is.branch [
      | else-is-via-then-is+else-has_room w ↦ rw w.if-is.true (take-full _ _ _ _ _ _ c.requires (rw w.if-has_room.false at w.has_room.ensures))
      | else-is-via-else-is w ↦ rw w.if-is.false (take-not _ _ _ _ _ _ c.requires)
    ]
