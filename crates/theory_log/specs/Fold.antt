-- A pass over entries, in order: none where an entry is wrong.
-- Assumes nothing.
use Rattle.std.proofs.Math.Option.{Option, none, some}
use Rattle.std.specs.Prelude.{List, [], ◌∷◌}
use Rattle.spec.specs.Log.{Entry, Parsed, Wrong, Entries}

module _ {S : Type 0} (f : S → Entry → S) where
  abbrev pub fold_e : S → List Entry → S
  fold_e s [] = s
  fold_e s (e ∷ es) = fold_e (f s e) es

  abbrev pub fold_p : S → Parsed → Option S
  fold_p s Wrong = none
  fold_p s (Entries es) = some (fold_e s es)
