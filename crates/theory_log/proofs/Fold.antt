-- One law for every pass: what a step of the walk does to it, and what the next chunk does.
-- Assumes nothing.
use mathlib.Core.Path.{◌≡◌, refl, ◌∙◌}
use mathlib.Core.Option.{Option, none, some}
use mathlib.Core.List.{List, [], ◌∷◌}
use Prim.Native.Nat.{ℕ, ◌+◌}
use lib.Seq.{slice}
use Rattle.spec.specs.declared.LogStep.TheVariants as S
use Rattle.spec.specs.Log.{Entry, Parsed, Wrong, Entries, cons, prepend, step_of, parse, join}
use Rattle.theory_log.specs.Fold.{fold_e, fold_p}
use Rattle.theory_log.proofs.Walk.{parse-end, parse-wrong, parse-padding, parse-next, slice-more, entry_at}

abbrev pub bind : {St : Type 0} → Option St → (St → Option St) → Option St
bind none g = none
bind (some s) g = g s

module _ {St : Type 0} (f : St → Entry → St) where
  pub fold-cons : (s : St) (e : Entry) (p : Parsed) → fold_p f s (cons e p) ≡ fold_p f (f s e) p
  fold-cons s e Wrong = refl
  fold-cons s e (Entries es) = refl

  pub fold-prepend : (s : St) (es : List Entry) (q : Parsed) → fold_p f s (prepend es q) ≡ fold_p f (fold_e f s es) q
  fold-prepend s [] q = refl
  fold-prepend s (e ∷ es) q = fold-cons s e (prepend es q) ∙ fold-prepend (f s e) es q

  pub fold-join : (s : St) (p q : Parsed) → fold_p f s (join p q) ≡ bind (fold_p f s p) (λ t. fold_p f t q)
  fold-join s Wrong q = refl
  fold-join s (Entries es) q = fold-prepend s es q

  -- at a place
  module _ (ws : List ℕ) (at end : ℕ) (s : St) where
    pub at-end : step_of (slice at end ws) ≡ S.End → fold_p f s (parse (slice at end ws) 0 at) ≡ some s
    at-end q = rw (parse-end (slice at end ws) at q)

    pub at-wrong : step_of (slice at end ws) ≡ S.Wrong → fold_p f s (parse (slice at end ws) 0 at) ≡ none
    at-wrong q = rw (parse-wrong (slice at end ws) at q)

    pub at-padding : step_of (slice at end ws) ≡ S.Padding → fold_p f s (parse (slice at end ws) 0 at) ≡ fold_p f s (parse (slice (at + 1) end ws) 0 (at + 1))
    at-padding q = rw ((parse-padding (slice at end ws) at q).1, slice-more)

    pub at_entry : (op pl v x k n : ℕ) → step_of (slice at end ws) ≡ S.Entry op pl v x k n
        → fold_p f s (parse (slice at end ws) 0 at) ≡ fold_p f (f s (entry_at op pl v x k n (slice at end ws) at)) (parse (slice (at + (2 + n)) end ws) 0 (at + (2 + n)))
    at_entry op pl v x k n q = rw ((parse-next (slice at end ws) at op pl v x k n q).1, fold-cons, slice-more at (2 + n) end ws)
