-- Directory words put back into words: what stands then, and what is the same as before.
-- Assumes nothing.
use mathlib.Core.Path.{◌≡◌, refl, sym, ◌∙◌, ap}
use mathlib.Core.Logic.{◌⊎◌, inl, inr, ⊎_elim}
use mathlib.Core.List.{List, [], ◌∷◌}
use Prim.Native.Nat.{ℕ, ◌+◌, ◌≤◌, ◌<◌}
use native.Mathlib.Omega.{arith}
use native.Mathlib.Decide.{ℕ_discrete}
use lib.ListN.{length, get_or, set, length-set}
use lib.Seq.{get_or-set_other, set-get_or, set-set, set_comm}
use Rattle.spec.specs.Places.{directory_word, max_chunks}
use Rattle.spec.specs.Plans.{Olds, put_back}

-- the word at an address is one of those that are put back
abbrev pub Hit : ℕ → Olds → Type 0
Hit a [] = ⊥
Hit a ((c, w) ∷ olds) = (a ≡ directory_word c) ⊎ Hit a olds

hit? : (a : ℕ) (olds : Olds) → Dec (Hit a olds)
hit? a [] = no (λ h. h)
hit? a ((c, w) ∷ olds) = go (ℕ_discrete a (directory_word c)) (hit? a olds)
  where
    go : Dec (a ≡ directory_word c) → Dec (Hit a olds) → Dec (Hit a ((c, w) ∷ olds))
    go (yes e) d = yes (inl e)
    go (no e) (yes h) = yes (inr h)
    go (no e) (no h) = no (λ x. ⊎_elim e h x)

-- a store elsewhere stays
pub back-other : (olds : Olds) (a v : ℕ) (vs : List ℕ) → (Hit a olds → ⊥) → put_back olds (set vs a v) ≡ set (put_back olds vs) a v
back-other [] a v vs out = refl
back-other ((c, w) ∷ olds) a v vs out =
    ap (λ (l : List ℕ). set l (directory_word c) w) (back-other olds a v vs (λ h. out (inr h)))
    ∙ set_comm (put_back olds vs) a (directory_word c) v w (λ e. out (inl e))

-- a store to one of them is undone
pub back-hit : (olds : Olds) (a v : ℕ) (vs : List ℕ) → Hit a olds → put_back olds (set vs a v) ≡ put_back olds vs
back-hit [] a v vs h = absurd h
back-hit ((c, w) ∷ olds) a v vs h = go h (hit? a olds) (back-hit olds a v vs)
  where
    go : (a ≡ directory_word c) ⊎ Hit a olds → Dec (Hit a olds) → (Hit a olds → put_back olds (set vs a v) ≡ put_back olds vs) → put_back ((c, w) ∷ olds) (set vs a v) ≡ put_back ((c, w) ∷ olds) vs
    go x (yes i) rec = ap (λ (l : List ℕ). set l (directory_word c) w) (rec i)
    go (inr i) (no o) rec = absurd (o i)
    go (inl e) (no o) rec =
        ap (λ (l : List ℕ). set l (directory_word c) w) (back-other olds a v vs o ∙ ap (λ (x : ℕ). set (put_back olds vs) x v) e)
        ∙ set-set (put_back olds vs) (directory_word c) v w

-- words of ws, put back into it
abbrev pub AreOf : List ℕ → Olds → Type 0
AreOf ws [] = Unit {0}
AreOf ws ((c, w) ∷ olds) = (w ≡ get_or ws (directory_word c) 0) × AreOf ws olds

pub back_start : (olds : Olds) (ws : List ℕ) → AreOf ws olds → put_back olds ws ≡ ws
back_start [] ws e = refl
back_start ((c, w) ∷ olds) ws (e, es) =
    ap (λ (l : List ℕ). set l (directory_word c) w) (back_start olds ws es) ∙ ap (set ws (directory_word c)) e ∙ set-get_or ws (directory_word c) 0

-- of chunks that the directory has
abbrev pub AreLow : Olds → Type 0
AreLow [] = Unit {0}
AreLow ((c, w) ∷ olds) = (c < max_chunks) × AreLow olds

pub hit-low : (olds : Olds) (a : ℕ) → AreLow olds → Hit a olds → a < max_chunks + 8
hit-low [] a low h = absurd h
hit-low ((c, w) ∷ olds) a (l, low) (inl e) = omega arith
hit-low ((c, w) ∷ olds) a (l, low) (inr h) = hit-low olds a low h

-- a word past the directory is as it stands
pub back-far : (olds : Olds) (vs : List ℕ) (k : ℕ) → AreLow olds → max_chunks + 8 ≤ k → get_or (put_back olds vs) k 0 ≡ get_or vs k 0
back-far [] vs k low far = refl
back-far ((c, w) ∷ olds) vs k (l, low) far =
    get_or-set_other (put_back olds vs) (directory_word c) k w 0 (λ e. omega arith) ∙ back-far olds vs k low far

pub length_back : (olds : Olds) (vs : List ℕ) → length (put_back olds vs) ≡ length vs
length_back [] vs = refl
length_back ((c, w) ∷ olds) vs = length-set (put_back olds vs) (directory_word c) w ∙ length_back olds vs

-- THE SAME WORDS PAST THE DIRECTORY, and as many
pub record Past (vs ws : List ℕ) : Type 0 where
  pub long : length vs ≡ length ws
  pub same : (k : ℕ) → max_chunks + 8 ≤ k → get_or vs k 0 ≡ get_or ws k 0

pub past-own : (ws : List ℕ) → Past ws ws
past-own ws = record { long = refl; same = λ k far. refl }

pub past-flip : (vs ws : List ℕ) → Past vs ws → Past ws vs
past-flip vs ws s = record { long = sym s.long; same = λ k far. sym (s.same k far) }

pub past_back : (olds : Olds) (ws : List ℕ) → AreLow olds → Past (put_back olds ws) ws
past_back olds ws low = record { long = length_back olds ws; same = λ k far. back-far olds ws k low far }
