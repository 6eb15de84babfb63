-- Bytes behind a text: in lent bytes, in the memory that holds it, and as a text that goes on.
-- Assumes nothing.
use Rattle.std.proofs.Common.{◌≡◌, ℕ, ◌+◌, ◌-◌, ◌<◌, ◌≤◌, List, [], ◌++◌, length, take, drop, sym, refl, ap, ◌∙◌, append_assoc, append-nil, arith, length-append, length-take-le, take_at, le-leb}
use mathlib.Core.Logic.{by_cases}
use native.Mathlib.Decide.{dec_lt}
use borrow.Author.Tests.{lt-leb}
use borrow.Rule.Slice.PartMut.{put_mid, Post-is}
use Rattle.text.specs.Text.{with_bytes_at, behind, with_bytes, Writes}

-- ## In lent bytes: the text is the first `at` of t

pub lent-fits : (t xs : List ℕ) (at : ℕ) (ys : List ℕ) → at + length xs ≤ length t → ys ≡ xs → (at + length xs ≡ behind t at xs) × (put_mid at (at + length xs - at) t ys ≡ with_bytes_at t at xs)
unfolding with_bytes_at behind
lent-fits t xs at ys fits e =
    rw (le-leb (at + length xs) (length t) fits, e)
    (refl, ap (λ (l : List ℕ). take at t ++ (xs ++ l)) (Post-is at (at + length xs) t (omega arith)) ∙ sym (append_assoc (take at t) xs (drop (at + length xs) t)))

pub lent-not : (t xs : List ℕ) (at : ℕ) → length t < at + length xs → (at ≡ behind t at xs) × (t ≡ with_bytes_at t at xs)
unfolding with_bytes_at behind
lent-not t xs at more = rw (lt-leb (at + length xs) (length t) more) (refl, refl)

-- ## In memory of n bytes: the text is the first l of them

module _ (n l : ℕ) (bytes t xs : List ℕ) (held : take l bytes ≡ t) (within : l ≤ n) (long : length bytes ≡ n) where
  text-length : length t ≡ l
  text-length = ap length (sym held) ∙ length-take-le l bytes (omega arith)

  pub lent-within : behind bytes l xs ≤ n
  unfolding behind
  lent-within =
      by_cases (dec_lt (length bytes) (l + length xs))
      (λ more. rw (lt-leb (l + length xs) (length bytes) more) within)
      (λ less. rw (le-leb (l + length xs) (length bytes) (omega arith)) (omega arith))

  pub lent-text : take (behind bytes l xs) (with_bytes_at bytes l xs) ≡ with_bytes n t xs
  unfolding with_bytes with_bytes_at behind
  lent-text =
      let m = text-length in
      by_cases (dec_lt (length bytes) (l + length xs))
      (λ more. rw (lt-leb (l + length xs) (length bytes) more, lt-leb (length t + length xs) n (omega arith)) held)
      (λ less.
      rw (le-leb (l + length xs) (length bytes) (omega arith), le-leb (length t + length xs) n (omega arith))
      (take_at (take l bytes ++ xs) (drop (l + length xs) bytes) (l + length xs) (length-append (take l bytes) xs ∙ ap (λ (z : List ℕ). length z + length xs) held ∙ ap (λ (k : ℕ). k + length xs) m)
      ∙ ap (λ (z : List ℕ). z ++ xs) held))

-- ## A text that goes on

-- what is put behind a text is written
pub put-writes : (n : ℕ) (t u xs : List ℕ) → u ≡ with_bytes n t xs → Writes n t u xs
unfolding with_bytes
put-writes n t u xs e = record { writes = λ fits. rw (le-leb (length t + length xs) n fits) at e }

pub writes-none : (n : ℕ) (t : List ℕ) → Writes n t t []
writes-none n t = record { writes = λ fits. sym (append-nil t) }

-- and then more
pub writes-on : (n : ℕ) (t u v xs ys : List ℕ) → Writes n t u xs → Writes n u v ys → Writes n t v (xs ++ ys)
writes-on n t u v xs ys a b = record {
  writes = λ fits.
      let l = length-append xs ys in
      let p = a.writes (omega arith) in
      let m = ap length p ∙ length-append t xs in
      b.writes (omega arith) ∙ ap (λ (z : List ℕ). z ++ ys) p ∙ append_assoc t xs ys;
}
