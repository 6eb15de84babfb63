-- `directory::lines_used` meets its contract: the lines of fewer than 2 ^ 52 chunks fit a number.
-- Assumes nothing.
use Rattle.std.proofs.Common.{rules, refl, ◌-◌, ap, ◌∙◌}
use Rattle.std.specs.Prelude.{sum_by}
use Rattle.std.proofs.lemmas.Iterator.{YieldsList-from_range, YieldsList-from_map}
use Rattle.std.proofs.lemmas.Iterator.Consumers.{sum_by_from_yields_List, fits_by_from_yields_list}
use Rattle.places.specs.Sizes.{power_of}
use Rattle.spec.specs.Words.{words_of}
use Rattle.spec.specs.Directory.{lines_of}
use Rattle.directory.specs.Counts.{lines_used}
use Rattle.directory.proofs.Ranges.{up_from-range}
use Rattle.directory.proofs.Roles.{lines-fit}
use Rattle.directory.proofs.lines_used.Goals as goal

pub sum-requires-clause-fits : goal.sum-requires-clause-fits
sum-requires-clause-fits c =
    let a = c.args in
    let lines = λ (k : _). lines_of (power_of a.size) (words_of a.image.now) k in
    fits_by_from_yields_list lines _ _ _ (YieldsList-from_map _ lines (YieldsList-from_range 1 c.chunks_in-count.result _ (cc) refl) c.map.ensures.closure (λ x r q k. search rules)) (lines-fit a.size (words_of a.image.now) c.chunks_in-count.result c.chunks_in-count.ensures.1)

pub returns : goal.returns
returns c =
    let a = c.args in
    let lines = λ (k : _). lines_of (power_of a.size) (words_of a.image.now) k in
    sum_by_from_yields_List lines _ _ _ c.sum.ensures.ran (YieldsList-from_map _ lines (YieldsList-from_range 1 c.chunks_in-count.result _ (cc) refl) c.map.ensures.closure (λ x r q k. search rules))
    ∙ ap (sum_by lines) (up_from-range 1 (c.chunks_in-count.result - 1)) ∙ ap (λ (n : _). lines_used (power_of a.size) n (words_of a.image.now)) c.chunks_in-count.ensures.0
