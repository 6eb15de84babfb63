-- `words::last_word` meets its contract.
-- Assumes nothing.
use mathlib.Core.Path.{◌≡◌, refl, ◌∙◌, ap}
use mathlib.Core.List.{List, [], ◌∷◌}
use Prim.Native.Nat.{ℕ, suc, ◌+◌, ◌*◌, ◌%◌, ◌^◌, ◌<◌}
use native.Mathlib.Omega.{arith}
use lib.ListN.{length, get_or, get_or-eq_default, drop, length-drop}
use lib.Seq.{get_or-drop}
use Rattle.std.specs.Prelude.{bit_or, reverse}
use Rattle.std.specs.List.{fold}
use Rattle.std.proofs.lemmas.Grind.{common_steps, or_after_shift}
use Rattle.std.proofs.lemmas.List.{reverse-append}
use Rattle.std.proofs.lemmas.List.Sums.{fold_push}
use Rattle.spec.specs.Words.{AreBytes, word_at}
use Rattle.words.proofs.last_word.Goals as goal

-- one byte more below a word
abbrev below : ℕ → ℕ → ℕ
below v b = bit_or (v * 256 % 2 ^ 64) b

below-is : (v b : ℕ) → v < 2 ^ 56 → b < 256 → below v b ≡ 256 * v + b
below-is v b h k = or_after_shift v 256 (2 ^ 64) b refl k (omega arith) ∙ omega arith

-- at most seven bytes, the last first
few : (xs : List ℕ) → AreBytes xs → length xs < 8 → fold below 0 (reverse xs) ≡ word_at xs 0
unfolding word_at
few [] small h = refl
few (x ∷ xs) small h =
    let s : AreBytes xs = λ i. small (suc i) in
    let z : get_or xs 7 0 ≡ 0 = get_or-eq_default xs 0 (omega arith) in
    ap (fold below 0) (reverse-append (x ∷ []) xs)
    ∙ fold_push below 0 (reverse xs) x
    ∙ ap (λ v. below v x) (few xs s (omega arith))
    ∙ below-is (word_at xs 0) x (omega (arith, s 0, s 1, s 2, s 3, s 4, s 5, s 6)) (small 0)
    ∙ omega arith

-- the word of the bytes from there on
dropped : (xs : List ℕ) (i : ℕ) → word_at (drop (8 * i) xs) 0 ≡ word_at xs i
unfolding word_at
dropped xs i = let z : 8 * i + 0 ≡ 8 * i = omega arith in simp (get_or-drop, z)

pub returns : goal.returns
returns c =
    let xs = c.args.value.now in
    let rest = drop (8 * c.args.i) xs in
    let e : c.fold.result ≡ fold below 0 (reverse rest) = grind (arith, common_steps) in
    e
    ∙ few rest (λ i. rw get_or-drop (omega (arith, c.type_inv.value (8 * c.args.i + i)))) (rw length-drop (omega arith))
    ∙ dropped xs c.args.i
