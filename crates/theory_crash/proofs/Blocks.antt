-- The laws of blocks: what the test says of a block, and what an entry's value looks at.
-- Assumes nothing.
use Rattle.std.proofs.lemmas.Bool.Decides.{nat_tests}
use mathlib.Core.Path.{◌≡◌, refl, sym, ◌∙◌, ap}
use mathlib.Core.Logic.{inl, inr}
use mathlib.Core.Bool.{Bool, true, false}
use mathlib.Core.List.{List}
use Prim.Native.Nat.{ℕ, ◌+◌, ◌*◌, ◌/◌, ◌%◌, ◌≤◌, ◌<◌}
use native.Mathlib.Omega.{arith}
use lib.ListN.{length, get_or}
use Rattle.spec.specs.Basics.{pick}
use Rattle.spec.specs.Words.{value_bytes}
use Rattle.spec.specs.Places.{chunk_words, chunk_units, base, unit_chunk, unit_in, unit_word, directory_word}
use Rattle.spec.specs.Directory.{size_of}
use Rattle.spec.specs.Log.{Entry}
use Rattle.spec.specs.Blocks.{block_test, block_right, pointed, block_bytes}
use Rattle.spec.specs.Contents.{Value, in_log, meaning}
use Rattle.spec.specs.Opening.{fine}
use Rattle.theory_base.proofs.Places.{base-apart, block_in}
use Rattle.theory_log.proofs.Batch.{slice-agree}
use Rattle.theory_log.proofs.Directory.{size_is}
use Rattle.theory_crash.specs.Accepted.{Needs}

-- what the test says of the block of s units at unit u, whose length word is len
pub record Fits (p n u s len : ℕ) : Type 0 where
  pub low : 1 ≤ unit_chunk p u
  pub high : unit_chunk p u < n
  pub some' : 1 ≤ s
  pub ends : unit_in p u + s ≤ chunk_units p
  pub room : len + 8 ≤ 256 * s
  pub large : 257 ≤ len
  pub aligned : unit_in p u % s ≡ 0

pub block-fits : (p n u s len last : ℕ) → block_test p n u s len last ≡ true → Fits p n u s len
unfolding block_test
block-fits p n u s len last h = grind (arith, nat_tests)

pub needs-first : (p : ℕ) (ws : List ℕ) (e : Entry) → pointed e ≡ true → Needs p ws e (unit_word e.field)
needs-first p ws e h = (h, inr (omega arith, omega arith))

pub needs-move : (p : ℕ) (ws vs : List ℕ) (e : Entry) (k : ℕ) → get_or vs (unit_word e.field) 0 ≡ get_or ws (unit_word e.field) 0 → Needs p vs e k → Needs p ws e k
needs-move p ws vs e k h (q, d) = (q, (rw h at d))

module _ (p : ℕ) (lo : 12 ≤ p) (hi : p ≤ 16) where
  -- the words of a block that fits lie in its chunk, which is one of the image's
  pub fits_in : (n u s len k : ℕ) → Fits p n u s len → unit_word u ≤ k → k < unit_word u + 1 + (len + 7) / 8
      → (base p (unit_chunk p u) ≤ k) × (k < base p (unit_chunk p u) + chunk_words p) × (k < base p n)
  fits_in n u s len k x a b =
      let r = x.room in
      let q = block_in p lo hi u s k x.ends a (omega arith) in
      let c = base-apart p lo hi (unit_chunk p u) n x.high in
      let d = q.1 in
      (q.0, q.1, omega arith)

  -- an entry's value looks at what it needs alone
  pub needs-only : (n : ℕ) (ws vs : List ℕ) (e : Entry) → length ws ≡ base p n → length vs ≡ length ws → ((k : ℕ) → Needs p ws e k → get_or vs k 0 ≡ get_or ws k 0)
      → fine p n ws e ≡ true → (fine p n vs e ≡ true) × (meaning vs e ≡ meaning ws e)
  needs-only n ws vs e lw lv h f = go (pointed e) refl f
    where
      u : ℕ
      u = e.field

      s : ℕ
      s = size_of p ws (unit_chunk p u)

      len : ℕ
      len = get_or ws (unit_word u) 0

      go : (b : Bool) → pointed e ≡ b → pick b (block_right p n ws u) true ≡ true
          → (pick b (block_right p n vs u) true ≡ true) × (pick b (Value (block_bytes vs u)) (in_log e) ≡ pick b (Value (block_bytes ws u)) (in_log e))
      go false q t = (refl, refl)
      go true q t = (rw (ds, d0, dl) t, rw d0 (ap (λ (l : List ℕ). Value (value_bytes len l)) (slice-agree (unit_word u + 1) (unit_word u + 1 + (len + 7) / 8) vs ws (rw lv end) end inner)))
        where
          x : Fits p n u s len
          x = block-fits p n u s len (get_or ws (unit_word u + (len + 7) / 8) 0) t

          end : unit_word u + 1 + (len + 7) / 8 ≤ length ws
          end = let i = (fits_in n u s len (unit_word u + (len + 7) / 8) x (omega arith) (omega arith)).2 in omega arith

          inside : (k : ℕ) → unit_word u ≤ k → k < unit_word u + 1 + (len + 7) / 8 → get_or vs k 0 ≡ get_or ws k 0
          inside k a b = h k (q, inr (a, b))

          ds : size_of p vs (unit_chunk p u) ≡ s
          ds = size_is p vs (unit_chunk p u) ∙ rw (h (directory_word (unit_chunk p u)) (q, inl refl)) (sym (size_is p ws (unit_chunk p u)))

          d0 : get_or vs (unit_word u) 0 ≡ len
          d0 = inside (unit_word u) (omega arith) (omega arith)

          dl : get_or vs (unit_word u + (len + 7) / 8) 0 ≡ get_or ws (unit_word u + (len + 7) / 8) 0
          dl = inside (unit_word u + (len + 7) / 8) (omega arith) (omega arith)

          inner : (i : ℕ) → unit_word u + 1 ≤ i → i < unit_word u + 1 + (len + 7) / 8 → get_or vs i 0 ≡ get_or ws i 0
          inner i a b = inside i (omega arith) (omega arith)
