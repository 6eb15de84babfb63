-- `directory::free_chunks` meets its contract: the sum of a 1 for each free chunk fits a number, and is how many there
-- are.
-- Assumes nothing.
use Rattle.std.proofs.Common.{rules, tests, refl, sym, arith, ℕ, ◌-◌, ap, ◌∙◌, cond, length}
use Rattle.std.proofs.lemmas.Iterator.{YieldsList-from_range, YieldsList-from_map}
use Rattle.std.proofs.lemmas.Iterator.Consumers.{sum_by_from_yields_List, fits_by_from_yields_list}
use Rattle.std.proofs.lemmas.List.Sums.{length-filter, count_by-le-length}
use Rattle.std.proofs.lemmas.List.FromFn.{length-range_with_len}
use Rattle.std.specs.List.{range_with_len}
use Rattle.places.specs.Sizes.{power_of}
use Rattle.spec.specs.Words.{words_of}
use Rattle.spec.specs.Directory.{role_at, is_free, free_chunks}
use Rattle.directory.proofs.Ranges.{filter_up}
use Rattle.directory.proofs.free_chunks.Goals as goal

pub sum-requires-clause-fits : goal.sum-requires-clause-fits
sum-requires-clause-fits c =
    let a = c.args in
    let free = λ (k : _). is_free (role_at (power_of a.size) (words_of a.image.now) k) in
    let one : ℕ → ℕ = λ k. cond (free k) 1 0 in
    let n = c.chunks_in-count.result in
    let cs = range_with_len 1 (n - 1) in
    fits_by_from_yields_list one _ _ _ (YieldsList-from_map _ one (YieldsList-from_range 1 n _ (cc) refl) c.map.ensures.closure (λ x r q k. search (rules, tests)))
    (omega (arith, count_by-le-length free cs, length-range_with_len 1 (n - 1), c.chunks_in-count.ensures.1))

pub returns : goal.returns
returns c =
    let a = c.args in
    let free = λ (k : _). is_free (role_at (power_of a.size) (words_of a.image.now) k) in
    let one : ℕ → ℕ = λ k. cond (free k) 1 0 in
    let n = c.chunks_in-count.result in
    sum_by_from_yields_List one _ _ _ c.sum.ensures.ran (YieldsList-from_map _ one (YieldsList-from_range 1 n _ (cc) refl) c.map.ensures.closure (λ x r q k. search (rules, tests)))
    ∙ sym (length-filter free (range_with_len 1 (n - 1))) ∙ ap length (filter_up free 1 (n - 1)) ∙ ap (λ (m : _). length (free_chunks (power_of a.size) m (words_of a.image.now))) c.chunks_in-count.ensures.0
