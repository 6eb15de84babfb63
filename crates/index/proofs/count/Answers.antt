-- `count` meets its contract: the sum of a 1 for each slot with a key fits a number, and is how many there are.
-- Assumes nothing.
use Rattle.std.proofs.Common.{◌≡◌, ℕ, rules, tests, sym, arith, cond, ◌/◌, ◌∙◌, length}
use Rattle.std.proofs.lemmas.Iterator.{YieldsList-from_range, YieldsList-from_map}
use Rattle.std.proofs.lemmas.Iterator.Consumers.{sum_by_from_yields_List, fits_by_from_yields_list}
use Rattle.std.proofs.lemmas.List.Sums.{length-filter, count_by-le-length}
use Rattle.std.proofs.lemmas.List.FromFn.{length-range_with_len}
use Rattle.std.specs.List.{range_with_len}
use Rattle.index.specs.Index.{used, used_to}
use Rattle.index.proofs.Used.{used_at, used-counted}
use Rattle.index.proofs.count.Goals as goal

pub sum-requires-clause-fits : goal.sum-requires-clause-fits
sum-requires-clause-fits c =
    let t = c.args.table.now in
    let one : ℕ → ℕ = λ k. cond (used_at t k) 1 0 in
    let n = length t / 2 in
    fits_by_from_yields_list one _ _ _ (YieldsList-from_map _ one (YieldsList-from_range 0 n n (cc) (omega arith)) c.map.ensures.closure (λ x r q k. search (rules, tests)))
    (omega (arith, count_by-le-length (used_at t) (range_with_len 0 n), length-range_with_len 0 n))

pub returns : goal.returns
unfolding used
returns c =
    let t = c.args.table.now in
    let one : ℕ → ℕ = λ k. cond (used_at t k) 1 0 in
    let n = length t / 2 in
    let e : c.sum.result ≡ used_to t n =
    sum_by_from_yields_List one _ _ _ c.sum.ensures.ran (YieldsList-from_map _ one (YieldsList-from_range 0 n n (cc) (omega arith)) c.map.ensures.closure (λ x r q k. search (rules, tests)))
    ∙ sym (length-filter (used_at t) (range_with_len 0 n)) ∙ used-counted t n in
    omega (arith, e)
