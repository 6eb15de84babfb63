-- The chosen top entry of a key, gathered in one pass over the log.
-- Assumes nothing.
use Rattle.std.proofs.Math.Option.{Option, none, some}
use Rattle.std.specs.Prelude.{List, ℕ, eqb, ltb}
use Rattle.spec.specs.Basics.{pick}
use Rattle.spec.specs.Log.{Entry, image_entries}
use Rattle.theory_log.specs.Fold.{fold_p}
use Rattle.logs.specs.declared.Best.{Best}

abbrev pub nothing : Best
nothing = record { version = 0; place = 0 }

-- the better of b and an entry behind it, if that is of the key
abbrev pub raise : ℕ → Best → ℕ → ℕ → ℕ → Best
raise key b k version place = pick (eqb k key) (pick (ltb b.version version) (record { version = version; place = place }) b) b

abbrev pub pass : ℕ → Best → Entry → Best
pass key b e = raise key b e.key e.version e.at

abbrev pub or_nothing : Option Best → Best
or_nothing none = nothing
or_nothing (some b) = b

unfoldable pub best_in : ℕ → ℕ → List ℕ → ℕ → Best
best_in p n ws key = or_nothing (fold_p (pass key) nothing (image_entries p n ws))

-- what an entry, or none, is to the pass
abbrev pub best_of : Option Entry → Best
best_of none = nothing
best_of (some e) = record { version = e.version; place = e.at }
