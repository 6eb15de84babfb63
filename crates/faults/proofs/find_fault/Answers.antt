-- `faults::find_fault` meets its contract.
-- Assumes nothing.
use mathlib.Core.Path.{◌∙◌, ap}
use Rattle.spec.specs.declared.Size.{Size}
use Rattle.places.specs.Sizes.{size_by}
use Rattle.faults.specs.Faults.{place_at, numbers_by}
use Rattle.faults.proofs.find_fault.Goals as goal

pub returns-in-Some : goal.returns-in-Some
returns-in-Some c = record {
  fault = _;
  located = c.in-Some.ensures;
  told = c.numbers_of.ensures ∙ ap (λ (s : Size). numbers_by s c.in-Some.fault) (c.size_by-size.ensures ∙ ap size_by c.power_said.ensures);
}

pub returns-in-None : goal.returns-in-None
returns-in-None c = record {
  fault = _;
  located = c.in-None.ensures;
  told = c.place_at.ensures ∙ ap (λ (s : Size). place_at s 0 0 0) (c.size_by-size.ensures ∙ ap size_by c.power_said.ensures);
}
