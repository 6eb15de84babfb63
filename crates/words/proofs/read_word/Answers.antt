-- `words::read_word` meets its contract: the eight bytes of the word stand together, and are joined.
-- Assumes nothing.
use mathlib.Core.Path.{◌≡◌, sym, ◌∙◌, ap}
use mathlib.Core.List.{List, []}
use Prim.Native.Nat.{ℕ, zero, suc, ◌<◌}
use native.Mathlib.Omega.{arith}
use lib.ListN.{get_or, take, drop}
use lib.Seq.{get_or-take}
use Rattle.std.specs.Int.{w64, from_le_bytes}
use Rattle.std.specs.Simd.{first_chunks}
use Rattle.spec.specs.Words.{word_at}
use Rattle.words.proofs.Values.{word_at-drop}
use Rattle.words.proofs.read_word.Goals as goal

first-eight : (xs : List ℕ) → from_le_bytes w64 (take 8 xs) ≡ word_at xs 0
unfolding word_at
first-eight xs =
    let e = λ (i : ℕ) (h : i < 8). get_or-take 8 xs i 0 h in
    rw (e 0 (omega arith), e 1 (omega arith), e 2 (omega arith), e 3 (omega arith), e 4 (omega arith), e 5 (omega arith), e 6 (omega arith), e 7 (omega arith))

-- word w of k words cut off
cut : (k w : ℕ) (xs : List ℕ) → w < k → from_le_bytes w64 (get_or (first_chunks 8 k xs) w []) ≡ word_at xs w
cut zero w xs h = absurd (omega arith)
cut (suc k) zero xs h = first-eight xs
cut (suc k) (suc w) xs h = cut k w (drop 8 xs) (omega arith) ∙ sym (word_at-drop xs w)

pub returns : goal.returns
returns c =
    c.from_le_bytes.ensures
    ∙ ap (λ words. from_le_bytes w64 (get_or words c.args.w [])) c.as_chunks.ensures.front
    ∙ cut _ c.args.w c.args.img.now (omega arith)
