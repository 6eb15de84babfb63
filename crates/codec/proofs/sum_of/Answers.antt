-- `codec::sum_of` meets its contract: a wrapping sum is the sum modulo 2^64.
-- Assumes nothing.
use Rattle.std.proofs.Common.{◌≡◌, ℕ, ◌+◌, ◌%◌, ◌^◌, List, refl, arith, ◌∙◌}
use Rattle.std.specs.Prelude.{sum}
use Rattle.std.specs.List.{fold}
use Rattle.std.proofs.lemmas.Grind.{common_steps}
use Rattle.std.proofs.lemmas.List.Folds.{fold_along}
use Rattle.spec.specs.Header.{word_values}
use Rattle.codec.proofs.sum_of.Goals as goal

wraps : (words : List ℕ) → fold (λ all word. (all + word) % 2 ^ 64) 0 words ≡ sum words % word_values
wraps words =
    fold_along (λ all word. (all + word) % 2 ^ 64) (λ all word. all + word) (λ a b. a ≡ b % 2 ^ 64) (λ a b x h. omega arith) 0 0 words refl

pub returns : goal.returns
returns c =
    let e : c.fold.result ≡ fold (λ all word. (all + word) % 2 ^ 64) 0 c.args.words = grind (arith, common_steps) in
    e ∙ wraps c.args.words
