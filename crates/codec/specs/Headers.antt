-- The header line: its given fields one by one, the check word, and that what a formatting writes is right.
-- Assumes nothing.
use Rattle.std.specs.Prelude.{◌≡◌, ℕ, zero, suc, ◌+◌, ◌%◌, ◌<◌, Bool, true, false, [], ◌∷◌, ◌==◌, ◌≢◌, slice_index, refl}
use Rattle.std.proofs.Common.{arith}
use Rattle.std.proofs.lemmas.Bool.Decides.{nat_tests}
use Rattle.spec.specs.Header.{word_values, fields_test, header_test, sum, power_field, header_map, fields_of, check_word, header_tail, header_words}
use Rattle.spec.specs.Basics.{Given}
use Rattle.std.specs.declared.option.Option.TheVariants as G

-- the words 2 to 4 of a header: the numbers given, in order, and x behind them
abbrev pub first_given : ℕ → Given → Given → ℕ
first_given x (G.Some s) centre = s
first_given x G.None (G.Some c) = c
first_given x G.None G.None = x

abbrev pub second_given : ℕ → Given → Given → ℕ
second_given x (G.Some s) (G.Some c) = c
second_given x (G.Some s) G.None = x
second_given x G.None (G.Some c) = x
second_given x G.None G.None = 0

abbrev pub third_given : ℕ → Given → Given → ℕ
third_given x (G.Some s) (G.Some c) = x
third_given x (G.Some s) G.None = 0
third_given x G.None centre = 0

given-fields : (x : ℕ) (station centre : Given) → fields_of x station centre ≡ first_given x station centre ∷ second_given x station centre ∷ third_given x station centre ∷ 0 ∷ 0 ∷ []
given-fields x (G.Some s) (G.Some c) = refl
given-fields x (G.Some s) G.None = refl
given-fields x G.None (G.Some c) = refl
given-fields x G.None G.None = refl

-- the header's words, written out
pub header-words : (p n : ℕ) (station centre : Given) →
    let fields = fields_of (power_field p) station centre in
    header_words p n station centre ≡
    header_map p station centre ∷ n ∷ slice_index fields 0 ∷ slice_index fields 1 ∷ slice_index fields 2 ∷ 0 ∷ 0
    ∷ check_word (header_map p station centre + (n + sum fields)) ∷ []
unfolding header_words header_tail
header-words p n (G.Some s) (G.Some c) = refl
header-words p n (G.Some s) G.None = refl
header-words p n G.None (G.Some c) = refl
header-words p n G.None G.None = refl

-- the same, by the fields that are given
pub header-given : (p n : ℕ) (station centre : Given) → header_words p n station centre ≡
    header_map p station centre ∷ n ∷ first_given (power_field p) station centre ∷ second_given (power_field p) station centre ∷ third_given (power_field p) station centre ∷ 0 ∷ 0
    ∷ check_word (header_map p station centre + n + first_given (power_field p) station centre + second_given (power_field p) station centre + third_given (power_field p) station centre) ∷ []
unfolding header_words header_tail
header-given p n station centre = grind (arith, given-fields (power_field p) station centre)

-- the check word makes the sum 0
pub check-word : (s : ℕ) → (s + check_word s) % word_values ≡ 0
check-word s = omega arith

pub check-mod : (s : ℕ) → check_word (s % word_values) ≡ check_word s
check-mod s = omega arith

-- the writer's form of it: a difference that wraps
pub check-wraps : (r s : ℕ) → r < word_values → (r + s) % word_values ≡ 0 → r ≡ check_word s
check-wraps r s h e = omega arith

-- what each way through the reader's tests shows
module _ (n a b c d e f g h : ℕ) where
  pub sum-wrong : ((a + b + c + d + e + f + g + h) % word_values ≢ 0) → false ≡ header_test n a b c d e f g h
  unfolding header_test
  sum-wrong ne = grind (arith, nat_tests)

  pub count-wrong : (a + b + c + d + e + f + g + h) % word_values ≡ 0 → (b ≢ n) → false ≡ header_test n a b c d e f g h
  unfolding header_test
  count-wrong s ne = grind (arith, nat_tests)

  pub unused-wrong : (a + b + c + d + e + f + g + h) % word_values ≡ 0 → b ≡ n → (u : Bool) → u ≡ (f + g == 0) → u ≡ false
      → false ≡ header_test n a b c d e f g h
  unfolding header_test
  unused-wrong s q u k t = grind (arith, nat_tests)

  pub fields-tested : (a + b + c + d + e + f + g + h) % word_values ≡ 0 → b ≡ n → (u : Bool) → u ≡ (f + g == 0) → u ≡ true
      → (r : Bool) → r ≡ fields_test a c d e → r ≡ header_test n a b c d e f g h
  unfolding header_test
  fields-tested s q u k t r v = grind (arith, nat_tests)

-- the check word of the writer's wrapping sum
pub check-shown : (r x m n f s t m' f' s' t' : ℕ) → r ≡ check_word x → x ≡ (m + n + f + s + t + 0 + 0 + 0) % word_values → m ≡ m' → f ≡ f' → s ≡ s' → t ≡ t'
    → r ≡ check_word (m' + n + f' + s' + t')
check-shown r x m n f s t m' f' s' t' a b c d e g = omega arith

-- word i of the eight
pub fifth-on : (m n f s t k i : ℕ) → (i ≢ 0) → (i ≢ 1) → (i ≢ 2) → (i ≢ 3) → (i ≢ 4) → (i ≢ 7) → 0 ≡ slice_index (m ∷ n ∷ f ∷ s ∷ t ∷ 0 ∷ 0 ∷ k ∷ []) i
fifth-on m n f s t k zero a b c d g e = absurd (a refl)
fifth-on m n f s t k (suc zero) a b c d g e = absurd (b refl)
fifth-on m n f s t k (suc (suc zero)) a b c d g e = absurd (c refl)
fifth-on m n f s t k (suc (suc (suc zero))) a b c d g e = absurd (d refl)
fifth-on m n f s t k (suc (suc (suc (suc zero)))) a b c d g e = absurd (g refl)
fifth-on m n f s t k (suc (suc (suc (suc (suc zero))))) a b c d g e = refl
fifth-on m n f s t k (suc (suc (suc (suc (suc (suc zero)))))) a b c d g e = refl
fifth-on m n f s t k (suc (suc (suc (suc (suc (suc (suc zero))))))) a b c d g e = absurd (e refl)
fifth-on m n f s t k (suc (suc (suc (suc (suc (suc (suc (suc i)))))))) a b c d g e = refl
