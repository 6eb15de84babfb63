-- `cleaning::plan_log` meets its contract.
-- Assumes nothing.
use mathlib.Core.Path.{refl, sym, ◌∙◌}
use Prim.Native.Nat.{◌%◌}
use native.Mathlib.Omega.{arith}
use Rattle.actions.proofs.Bounds.{base-few}
use Rattle.theory_base.proofs.Places.{words-most}
use Rattle.places.specs.Sizes.{power_of, power-low, power-high}
use Rattle.spec.specs.Words.{words_of}
use Rattle.cleaning.proofs.PlanShows.{log-bare, log-copies, log-full}
use Rattle.cleaning.proofs.plan_log.Goals as goal

pub first_word-at-requires : goal.first_word-at-requires
first_word-at-requires c =
    let f = base-few c.args.size (c.args.chunk % 512) (omega arith) in omega arith

pub overflow_add-end : goal.overflow_add-end
overflow_add-end c =
    let f = base-few c.args.size (c.args.chunk % 512) (omega arith) in
    let w = c.first_word-at.ensures in let l = c.lines_of-lines.ensures.1 in omega arith

pub gather-tally-requires : goal.gather-tally-requires
gather-tally-requires c =
    let f = base-few c.args.size (c.args.chunk % 512) (omega arith) in
    let w = c.first_word-at.ensures in (omega arith, c.requires)

pub returns-then-words-eq0 : goal.returns-then-words-eq0
returns-then-words-eq0 c =
    log-bare c.args.size (words_of c.args.image.now) c.args.table.now
    c.args.count c.args.chunk c.args.first c.directory_word-old.result
    c.lines_of-lines.result c.first_word-at.result _ c.gather-tally.result
    c.directory_word-old.ensures c.lines_of-lines.ensures.0
    c.first_word-at.ensures refl c.lines_of-lines.ensures.1 _
    c.gather-tally.ensures c.if-words-eq0.true

pub overflow_add-words : goal.overflow_add-words
overflow_add-words c =
    let b = c.gather-tally.ensures.bound in
    let w = words-most (power_of c.args.size) (power-low c.args.size)
    (power-high c.args.size) in
    omega arith

pub returns : goal.returns
returns c =
    log-copies c.args.size (words_of c.args.image.now) c.args.table.now
    c.args.count c.args.chunk c.args.first c.directory_word-old.result
    c.lines_of-lines.result c.first_word-at.result _ c.gather-tally.result
    c.directory_word-old.ensures c.lines_of-lines.ensures.0
    c.first_word-at.ensures refl c.lines_of-lines.ensures.1 _ c.gather-tally.ensures
    c.if-words-eq0.false _ refl _ (sym c.in-Some.is ∙ c.copy_place.ensures) _ _ c.clean_count.ensures c.min.ensures

pub returns-in_default : goal.returns-in_default
returns-in_default c =
    log-full c.args.size (words_of c.args.image.now) c.args.table.now
    c.args.count c.args.chunk c.args.first c.directory_word-old.result
    c.lines_of-lines.result c.first_word-at.result _ c.gather-tally.result
    c.directory_word-old.ensures c.lines_of-lines.ensures.0
    c.first_word-at.ensures refl c.lines_of-lines.ensures.1 _ c.gather-tally.ensures
    c.if-words-eq0.false _ refl (sym c.in_default.is ∙ c.copy_place.ensures)
