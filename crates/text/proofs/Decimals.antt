-- The decimal digits of a number: one after the other, from the last, and read back.
-- Assumes nothing.
use Rattle.std.proofs.Common.{◌≡◌, ℕ, zero, suc, ◌+◌, ◌-◌, ◌*◌, ◌/◌, ◌%◌, ◌^◌, ◌<◌, ◌≤◌, Bool, true, false, eqb, List, [], ◌∷◌, ◌++◌, length, take, drop, set, sym, refl, ap, ◌∙◌, append_assoc, mod-eq_of_lt, pow-suc, arith, length-append, length-drop, length-set, drop-cons, get_or-set_same, take-take, drop-set-lt, eq-eqb, ne_eqb, eqb-true, le-leb}
use mathlib.Core.Logic.{by_cases}
use native.Mathlib.Decide.{ℕ_discrete}
use lib.Seq.{take-set-le}
use Rattle.spec.specs.Basics.{pick}
use Rattle.text.specs.Spelled.{is_digit, with_digit, spelled}
use Rattle.text.specs.Text.{last_digits, most_digits, decimal, Digits}

-- ## One digit after the other

-- the digits from place `from` on are written, and those of `rest` are to come; out₀ is the bytes at the begin
pub record Spelling (out₀ : List ℕ) (number : ℕ) (out : List ℕ) (from rest : ℕ) : Type 0 where
  pub sized : length out ≡ most_digits
  pub start : from ≤ most_digits
  pub some : 1 ≤ from
  pub small : rest < 10 ^ from
  pub spells : last_digits from rest ++ drop from out ≡ decimal number
  pub before : take from out ≡ take from out₀

pub spelling-start : (number : ℕ) (out : List ℕ) → length out ≡ most_digits → number < 0x1_0000_0000_0000_0000 → Spelling out number out most_digits number
unfolding decimal
spelling-start number out l b = record {
  sized = l;
  start = omega arith;
  some = omega arith;
  small = omega arith;
  spells = ap (λ (d : List ℕ). last_digits most_digits number ++ d) (none out l) ∙ nothing (last_digits most_digits number);
  before = refl;
}
  where
    nothing : (xs : List ℕ) → xs ++ [] ≡ xs
    nothing [] = refl
    nothing (x ∷ xs) = ap (λ (l : List ℕ). x ∷ l) (nothing xs)

    empty : (xs : List ℕ) → length xs ≡ 0 → xs ≡ []
    empty [] e = refl
    empty (x ∷ xs) e = absurd (omega arith)

    none : (xs : List ℕ) → length xs ≡ most_digits → drop most_digits xs ≡ []
    none xs e = empty (drop most_digits xs) (let d = length-drop most_digits xs in omega arith)

module _ (out₀ : List ℕ) (number : ℕ) (out : List ℕ) (from f rest : ℕ) (e : from ≡ suc f) (h₀ : Spelling out₀ number out from rest) where
  h : Spelling out₀ number out (suc f) rest
  h = rw e at h₀

  abbrev next : List ℕ
  next = set out f (48 + rest % 10)

  put-digit : drop f next ≡ (48 + rest % 10) ∷ drop (suc f) out
  put-digit =
      let l : f < length out = omega (arith, h.sized, h.start) in
      let e = length-set out f (48 + rest % 10) in
      drop-cons next f 0 (omega arith) ∙ rw (get_or-set_same out f (48 + rest % 10) 0 l, drop-set-lt (suc f) out f (48 + rest % 10) (omega arith))

  front : (xs : List ℕ) → pick (eqb (rest / 10) 0) [] (last_digits f (rest / 10)) ≡ xs → xs ++ drop f next ≡ decimal number
  front xs e =
      ap (λ (l : List ℕ). xs ++ l) put-digit ∙ sym (append_assoc xs ((48 + rest % 10) ∷ []) (drop (suc f) out))
      ∙ ap (λ (l : List ℕ). l ++ ((48 + rest % 10) ∷ []) ++ drop (suc f) out) (sym e) ∙ h.spells

  stays : take f next ≡ take f out₀
  stays = take-set-le f out f (48 + rest % 10) (omega arith) ∙ sym (take-take f (suc f) out (omega arith)) ∙ ap (take f) h.before ∙ take-take f (suc f) out₀ (omega arith)

  pub spelled-all : rest / 10 ≡ 0 → Digits out₀ next number f
  spelled-all z = record {
    sized = length-set out f (48 + rest % 10) ∙ h.sized;
    start = omega (arith, h.start);
    spelled = front [] (rw (eq-eqb (rest / 10) 0 z));
    before = stays;
  }

  tenth : rest / 10 < 10 ^ f
  tenth = let s : rest < 10 ^ f * 10 = rw pow-suc at h.small in omega arith

  pub spelling-on : (rest / 10 ≡ 0 → ⊥) → Spelling out₀ number next f (rest / 10)
  spelling-on n = record {
    sized = length-set out f (48 + rest % 10) ∙ h.sized;
    start = omega (arith, h.start);
    some = more f tenth;
    small = tenth;
    spells = front (last_digits f (rest / 10)) (rw (ne_eqb (rest / 10) 0 n));
    before = stays;
  }
    where
      more : (d : ℕ) → rest / 10 < 10 ^ d → 1 ≤ d
      more zero l = absurd (n (omega arith))
      more (suc d) l = omega arith

-- ## Read back

digit-is : (d : ℕ) → d < 10 → is_digit (48 + d) ≡ true
digit-is d l = rw (le-leb 48 (48 + d) (omega arith), le-leb (48 + d) 57 (omega arith))

-- a text of digits, with one digit more
abbrev AllDigits : List ℕ → Type 0
AllDigits [] = Unit {0}
AllDigits (b ∷ bs) = (is_digit b ≡ true) × AllDigits bs

digits_more : (xs : List ℕ) (d : ℕ) → AllDigits xs → d < 10 → AllDigits (xs ++ ((48 + d) ∷ []))
digits_more [] d h l = (digit-is d l, tt)
digits_more (x ∷ xs) d h l = (h.0, digits_more xs d h.1 l)

spelled-more : (xs : List ℕ) (d v : ℕ) → AllDigits xs → d < 10 → spelled (xs ++ ((48 + d) ∷ [])) v ≡ with_digit (spelled xs v) (48 + d)
spelled-more [] d v h l = rw (digit-is d l)
spelled-more (x ∷ xs) d v h l = rw h.0 (spelled-more xs d (with_digit v x) h.1 l)

last_digits_lem : (d n : ℕ) → AllDigits (last_digits d n)
last_digits_lem zero n = tt
last_digits_lem (suc d) n = digits_more (pick (eqb (n / 10) 0) [] (last_digits d (n / 10))) (n % 10) (go (eqb (n / 10) 0) (last_digits_lem d (n / 10))) (omega arith)
  where
    go : (b : Bool) → AllDigits (last_digits d (n / 10)) → AllDigits (pick b [] (last_digits d (n / 10)))
    go true h = tt
    go false h = h

last-read : (d n : ℕ) → n < 10 ^ d → n < 2 ^ 64 → spelled (last_digits d n) 0 ≡ n
last-read zero n l b = omega arith
last-read (suc d) n l b =
    let s : n < 10 ^ d * 10 = rw pow-suc at l in
    let h : spelled (pick (eqb (n / 10) 0) [] (last_digits d (n / 10))) 0 ≡ n / 10 = go (eqb (n / 10) 0) (eqb-true (n / 10) 0) (last-read d (n / 10) (omega arith) (omega arith)) in
    spelled-more (pick (eqb (n / 10) 0) [] (last_digits d (n / 10))) (n % 10) 0 (all (eqb (n / 10) 0) (last_digits_lem d (n / 10))) (omega arith)
    ∙ rw h (let e : 10 * (n / 10) + (48 + n % 10 - 48) ≡ n = omega arith in rw e (mod-eq_of_lt b))
  where
    go : (t : Bool) → (t ≡ true → n / 10 ≡ 0) → spelled (last_digits d (n / 10)) 0 ≡ n / 10 → spelled (pick t [] (last_digits d (n / 10))) 0 ≡ n / 10
    go true e h = sym (e refl)
    go false e h = h

    all : (t : Bool) → AllDigits (last_digits d (n / 10)) → AllDigits (pick t [] (last_digits d (n / 10)))
    all true h = tt
    all false h = h

-- THE LAW: what the digits spell is the number
pub decimal-read : (n : ℕ) → n < 2 ^ 64 → spelled (decimal n) 0 ≡ n
unfolding decimal
decimal-read n b = last-read most_digits n (omega arith) b

-- ## How many

last-length : (d n : ℕ) → length (last_digits d n) ≤ d
last-length zero n = omega arith
last-length (suc d) n =
    let a = length-append (pick (eqb (n / 10) 0) [] (last_digits d (n / 10))) ((48 + n % 10) ∷ []) in
    let g = go (eqb (n / 10) 0) (last-length d (n / 10)) in
    omega arith
  where
    go : (b : Bool) → length (last_digits d (n / 10)) ≤ d → length (pick b [] (last_digits d (n / 10))) ≤ d
    go true h = omega arith
    go false h = h

pub decimal-length : (n : ℕ) → length (decimal n) ≤ most_digits
unfolding decimal
decimal-length n = last-length most_digits n

-- a number below a power of ten has no more digits than that
last-short : (d m n : ℕ) → n < 10 ^ suc m → length (last_digits d n) ≤ suc m
last-short zero m n l = omega arith
last-short (suc d) m n l = by_cases (ℕ_discrete (n / 10) 0) (λ z. rw (eq-eqb (n / 10) 0 z) (omega arith)) (λ z. more m z l (λ i. last-short d i (n / 10)))
  where
    more : (m : ℕ) → (n / 10 ≡ 0 → ⊥) → n < 10 ^ suc m → ((i : ℕ) → n / 10 < 10 ^ suc i → length (last_digits d (n / 10)) ≤ suc i) → length (last_digits (suc d) n) ≤ suc m
    more zero z q h = absurd (z (omega arith))
    more (suc i) z q h =
        let s : n < 10 ^ suc i * 10 = rw pow-suc at q in
        let r = h i (omega arith) in
        let a = length-append (last_digits d (n / 10)) ((48 + n % 10) ∷ []) in
        rw (ne_eqb (n / 10) 0 z) (omega arith)

pub decimal-short : (m n : ℕ) → n < 10 ^ suc m → length (decimal n) ≤ suc m
unfolding decimal
decimal-short m n l = last-short most_digits m n l
