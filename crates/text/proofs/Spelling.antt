-- What a text spells: the digits at its front, one after the other.
-- Assumes nothing.
use Rattle.std.proofs.Common.{◌≡◌, ℕ, suc, ◌+◌, Bool, true, false, eqb, Some, List, [], ◌∷◌, take, drop, length, sym, refl, ap, ◌∙◌, arith}
use mathlib.Core.Bool.{false≢true}
use Rattle.std.specs.List.{fold, prefix_len}
use Rattle.text.specs.Spelled.{is_digit, with_digit, spelled, number_of, behind_digits}

one-more : (n : ℕ) → 1 + n ≡ suc n
one-more n = omega arith

-- the text behind the digits
pub behind-drop : (xs : List ℕ) → drop (prefix_len is_digit xs) xs ≡ behind_digits xs
behind-drop [] = refl
behind-drop (x ∷ xs) = go (is_digit x) refl (behind-drop xs)
  where
    go : (b : Bool) → is_digit x ≡ b → drop (prefix_len is_digit xs) xs ≡ behind_digits xs → drop (prefix_len is_digit (x ∷ xs)) (x ∷ xs) ≡ behind_digits (x ∷ xs)
    go true e h = rw (e, one-more (prefix_len is_digit xs)) h
    go false e h = rw e

-- the digits, folded
spelled-fold : (xs : List ℕ) (v : ℕ) → fold with_digit v (take (prefix_len is_digit xs) xs) ≡ spelled xs v
spelled-fold [] v = refl
spelled-fold (x ∷ xs) v = go (is_digit x) refl (spelled-fold xs (with_digit v x))
  where
    go : (b : Bool) → is_digit x ≡ b → fold with_digit (with_digit v x) (take (prefix_len is_digit xs) xs) ≡ spelled xs (with_digit v x) → fold with_digit v (take (prefix_len is_digit (x ∷ xs)) (x ∷ xs)) ≡ spelled (x ∷ xs) v
    go true e h = rw (e, one-more (prefix_len is_digit xs)) h
    go false e h = rw e

-- the number, where there are digits
pub number-some : (xs : List ℕ) → eqb (length (take (prefix_len is_digit xs) xs)) 0 ≡ false → Some (fold with_digit 0 (take (prefix_len is_digit xs) xs)) ≡ number_of xs
number-some [] n = absurd (false≢true (sym n))
number-some (x ∷ xs) n = go (is_digit x) refl (spelled-fold (x ∷ xs) 0)
  where
    go : (b : Bool) → is_digit x ≡ b → fold with_digit 0 (take (prefix_len is_digit (x ∷ xs)) (x ∷ xs)) ≡ spelled (x ∷ xs) 0 → Some (fold with_digit 0 (take (prefix_len is_digit (x ∷ xs)) (x ∷ xs))) ≡ number_of (x ∷ xs)
    go true e h = ap Some h ∙ sym (rw e)
    go false e h = absurd (false≢true (sym (rw e at n)))
