-- An image's bytes are those of its words, and the odd ones behind them: images that are alike in both are the same.
-- Assumes nothing.
use mathlib.Core.Path.{◌≡◌, sym, ◌∙◌, ap}
use mathlib.Core.List.{List, ◌++◌}
use Prim.Native.Nat.{ℕ, ◌*◌, ◌/◌}
use native.Mathlib.Omega.{arith}
use lib.ListN.{length, take-append-drop}
use Rattle.spec.specs.Words.{AreBytes, words_of, bytes_of}
use Rattle.spec.specs.Contract.{odd_bytes}
use Rattle.words.proofs.Parts.{bytes-words_from}

whole : (xs : List ℕ) → AreBytes xs → bytes_of (words_of xs) ++ odd_bytes xs ≡ xs
unfolding words_of
whole xs b = ap (λ (l : List ℕ). l ++ odd_bytes xs) (bytes-words_from (length xs / 8) 0 xs (omega arith) b) ∙ take-append-drop (8 * (length xs / 8)) xs

pub same_bytes : (xs ys : List ℕ) → AreBytes xs → AreBytes ys → words_of xs ≡ words_of ys → odd_bytes xs ≡ odd_bytes ys → xs ≡ ys
same_bytes xs ys small also words odd =
    let middle : bytes_of (words_of xs) ++ odd_bytes xs ≡ bytes_of (words_of ys) ++ odd_bytes ys = rw (words, odd) in
    sym (whole xs small) ∙ middle ∙ whole ys also
