-- `gathering::read_chunk` meets its contract.
-- Assumes nothing.
use Rattle.std.proofs.Common.{◌+◌, ◌*◌, ◌≤◌, length, min, refl, ap, ◌∙◌, arith}
use Rattle.places.specs.Sizes.{power_of, power-low, power-high}
use Rattle.theory_base.proofs.Places.{bytes-words}
use Rattle.gathering.proofs.Passes.{reads-start, reads-next, read_none, read_all}
use Rattle.gathering.proofs.read_chunk.Goals as goal
use Rattle.gathering.proofs.read_chunk.Goals.{After-min-words}

-- so many bytes go into the copy, and the image has them
room : (c : After-min-words) → (8 * c.min-words.result ≤ length c.args.copy.now) × (8 * c.args.at + 8 * c.min-words.result ≤ length c.args.image.now)
room c =
    let e = c.min-stop.ensures in
    let f = c.min-words.ensures in
    let s = c.if-stop-at.false in
    let w = c.words.ensures.0 in
    let b = bytes-words (power_of c.args.size) (power-low c.args.size) (power-high c.args.size) in
    let p = c.requires in
    (omega arith, omega arith)

pub returns-then-stop-at : goal.returns-then-stop-at
returns-then-stop-at c = read_none _ _ _ _ _ _ c.requires c.min-stop.ensures c.if-stop-at.true

pub loop-i-init : goal.loop-i-init
loop-i-init c = reads-start _ _ _

pub bounds-image-from : goal.bounds-image-from
bounds-image-from c = let q = (room (goal.at.bounds-image-from c).After-min-words).1 in omega arith

pub bounds-copy-i : goal.bounds-copy-i
bounds-copy-i c =
    let r = (room (goal.at.bounds-copy-i c).After-min-words).0 in
    let l = c.loop-i.invariant.long in
    omega arith

pub loop-i-preserved : goal.loop-i-preserved
loop-i-preserved c =
    let r = (room (goal.at.loop-i-preserved c).After-min-words).0 in
    reads-next _ _ _ _ _ _ c.loop-i.invariant (omega arith) refl

pub returns : goal.returns
returns c =
    let r = c.loop-i.invariant in
    read_all c.args.size _ _ _ _ _ _ c.min-stop.ensures c.if-stop-at.false (c.min-words.ensures ∙ ap (min _) c.words.ensures.0) (r.long ∙ c.requires)
    (λ j l. r.bytes j (omega arith))
