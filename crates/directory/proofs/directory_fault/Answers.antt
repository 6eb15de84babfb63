-- `directory::directory_fault` meets its contract.
-- Assumes nothing.
use Rattle.std.proofs.Common.{rules, tests, refl, not}
use Rattle.std.proofs.lemmas.Iterator.{YieldsList-from_range}
use Rattle.std.proofs.lemmas.Iterator.Search.{find_from_yields_List}
use Rattle.places.specs.Sizes.{power_of}
use Rattle.spec.specs.Words.{words_of}
use Rattle.directory.specs.Tests.{word_right}
use Rattle.directory.proofs.Tests.{fault-found}
use Rattle.directory.proofs.directory_fault.Goals as goal

pub returns : goal.returns
returns c =
    let a = c.args in
    fault-found (power_of a.size) a.count (words_of a.image.now) _
    (find_from_yields_List (λ k. not (word_right (power_of a.size) a.count (words_of a.image.now) k)) _ _ _ c.find.ensures.ran (YieldsList-from_range 0 504 504 refl refl) (λ x b q k. search (rules, tests)))
