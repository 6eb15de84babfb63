-- The walk over the words of one chunk: what is left from a cursor on, and one step.
-- Assumes nothing.
use mathlib.Core.Path.{◌≡◌, refl, sym, ◌∙◌}
use mathlib.Core.List.{List, [], ◌∷◌, append-nil}
use Prim.Native.Nat.{ℕ}
use native.Mathlib.Omega.{arith}
use lib.Seq.{slice}
use Rattle.std.specs.Prelude.{Option, Some, None, Result, Ok, Err}
use Rattle.spec.specs.declared.Size.{Size}
use Rattle.places.specs.Sizes.{power_of}
use Rattle.spec.specs.Log.{Entry, Parsed, Wrong, Entries, join, parse}
use Rattle.theory_log.proofs.Parse.{cons_inv, prepend-entries}
use Rattle.logs.specs.declared.Cursor.{Cursor}
use Rattle.logs.specs.declared.Entry as F
use Rattle.logs.specs.declared.WrongEntry.{WrongEntry}
use Rattle.logs.specs.Cursor.{cursor_at, remaining, with_value, Handed, Advanced}

-- what remains, in a walk that goes to no other chunk
join-none : (q : Parsed) → join q (Entries []) ≡ q
join-none Wrong = refl
join-none (Entries es) = prepend-entries es [] ∙ rw append-nil

pub from-here : (sz : Size) → (ws : List ℕ) (at end : ℕ) → remaining (power_of sz) 0 ws (cursor_at 0 at end) ≡ parse (slice at end ws) 0 at
unfolding remaining
from-here sz ws at end = join-none (parse (slice at end ws) 0 at)

abbrev pub Left : (sz : Size) → List ℕ → Cursor → List Entry → Type 0
Left sz ws c todo = remaining (power_of sz) 0 ws c ≡ Entries todo

-- one step
module _ (sz : Size) (ws : List ℕ) (c : Cursor) (todo : List Entry) (is : Left sz ws c todo) where
  pub none_left : remaining (power_of sz) 0 ws c ≡ Entries [] → todo ≡ []
  none_left told = let v = is in cc

  pub not-wrong : remaining (power_of sz) 0 ws c ≡ Wrong → ⊥
  not-wrong told = let v = is in let z : ◌≡◌ {A = ℕ} 0 1 = cc in omega arith

  pub one_left : (e : F.Entry) → Handed (power_of sz) 0 ws c e → (es : List Entry) × Left sz ws e.behind es × (todo ≡ with_value ws e ∷ es)
  one_left e told = cons_inv (with_value ws e) (remaining (power_of sz) 0 ws e.behind) todo (sym told.whole ∙ is)

-- a step that found no entry says that none is left, where any are
abbrev pub Ended : (sz : Size) → List ℕ → Cursor → Type 0
Ended sz ws c = (todo : List Entry) → Left sz ws c todo → todo ≡ []

pub ended : (sz : Size) (ws : List ℕ) (c : Cursor) (r : Result (Option F.Entry) WrongEntry) → Advanced (power_of sz) 0 ws c r → ((e : F.Entry) → r ≡ Ok (Some e) → ⊥) → Ended sz ws c
ended sz ws c (Ok None) told other todo is = none_left sz ws c todo is told
ended sz ws c (Ok (Some e)) told other todo is = absurd (other e refl)
ended sz ws c (Err wrong) told other todo is = absurd (not-wrong sz ws c todo is told)
