-- What a chunk's sum says of the words that a cleaning of it copies: no fewer than those of its chosen puts, and no
-- more where it has no chosen delete.
-- Assumes nothing.
use mathlib.Core.Path.{◌≡◌, refl, sym, ◌∙◌, ap}
use mathlib.Core.Logic.{◌⊎◌, inl, inr}
use mathlib.Core.Bool.{Bool, true}
use mathlib.Core.Option.{Option, none, some}
use mathlib.Core.List.{List, ◌++◌}
use Prim.Native.Nat.{ℕ, ◌+◌, ◌-◌, ◌*◌, ◌%◌, ◌^◌, ◌≤◌, ◌<◌}
use native.Mathlib.Omega.{arith}
use lib.ListN.{length, get_or}
use lib.Seq.{slice}
use Rattle.spec.specs.declared.Size.{Size}
use Rattle.places.specs.Sizes.{power_of, power-low, power-high}
use Rattle.spec.specs.Basics.{filter}
use Rattle.spec.specs.Places.{base, chunk_words}
use Rattle.spec.specs.Directory.{lines_of}
use Rattle.spec.specs.Log.{Entry, encode_all}
use Rattle.spec.specs.Contents.{chosen, keys_of, in_chunk, is_kept, kept_in}
use Rattle.spec.specs.Plans.{copy_words}
use Rattle.theory_base.proofs.Lists.{not-both}
use Rattle.theory_base.proofs.Places.{words-most, lines-words}
use Rattle.theory_log.specs.Contents.{Mem, Apart}
use Rattle.theory_log.proofs.Contents.{mem-l, mem-r, chosen_is}
use Rattle.theory_log.proofs.Keys.{mem-known}
use Rattle.theory_log.proofs.Kept.{Parts, parts, in-chunk, out-chunk}
use Rattle.theory_log.proofs.Places.{chunk-sound, all_sound, rising-apart}
use Rattle.theory_log.proofs.Walk.{slice-long}
use Rattle.theory_crash.specs.Accepted.{Ok}
use Rattle.theory_plans.proofs.Cleaning.{parse-words, filter-words}
use Rattle.buffer.specs.Areas.{sums_start, sums_count}
use Rattle.volatile.specs.Sums.{high_half, chosen_sum, Summed}
use Rattle.volatile.proofs.Sums.{sum_same}
use Rattle.volatile.proofs.Live.{mem-between}
use Rattle.forward.proofs.Freed.{lines-few}
use Rattle.forward.proofs.Weights.{delete_words, copied_deletes, Weights, weights}
use Rattle.gathering.proofs.Sizes.{gathered-kept}

-- every chosen entry's key is known
all_known : (size : Size) → (c : ℕ) (es : List Entry) (k : ℕ) → copied_deletes size c es (chosen k es) ≡ delete_words size c (chosen k es)
all_known size c es k = go (chosen k es) refl
  where
    go : (o : Option Entry) → chosen k es ≡ o → copied_deletes size c es o ≡ delete_words size c o
    go none h = refl
    go (some e) h = let i = chosen_is k es e h in rw (mem-known e.key es e i.in_list refl)

pub record Bounds (size : Size) (s : ℕ) (es : List Entry) : Type 0 where
  pub puts : ℕ
  pub deletes : ℕ
  pub copied : ℕ
  pub sum : chosen_sum size s es ≡ puts + high_half * deletes
  pub words : copy_words (power_of size) es s ≡ puts + copied
  pub fewer : copied ≤ deletes
  pub few : puts + deletes ≤ chunk_words (power_of size)

module _ (size : Size) (n s : ℕ) (ws : List ℕ) (es : List Entry) (ok : Ok (power_of size) n ws es) (low : 1 ≤ s) (high : s < n) where
  module _ (xs mid ys : List Entry) (p : Parts (power_of size) (power-low size) (power-high size) n s ws es xs mid ys) where
    apart : Apart es
    apart = rising-apart (base (power_of size) 1) (base (power_of size) (1 + (n - 1))) es (all_sound (power_of size) (power-low size) (power-high size) (n - 1) 1 ws es ok.parsed).rising

    inside : (e : Entry) → Mem e mid → Mem e es × (in_chunk (power_of size) s e ≡ true)
    inside e m =
        let r = p.inside e m in
        (rw p.whole (mem-r e xs (mid ++ ys) (mem-l e mid ys m)), in-chunk (power_of size) (power-low size) (power-high size) s e r.0 r.1)

    all_in : (e : Entry) → Mem e es → in_chunk (power_of size) s e ≡ true → Mem e mid
    all_in e m h = go (mem-between e xs mid ys (rw p.whole at m))
      where
        go : Mem e mid ⊎ Mem e (xs ++ ys) → Mem e mid
        go (inl a) = a
        go (inr b) = absurd (not-both (in_chunk (power_of size) s e) h (out-chunk (power_of size) (power-low size) (power-high size) s e (p.outside e b)))

    weighed : (others : List Entry) → Weights size s es others (filter (is_kept es others) mid)
    weighed others = weights size s es others mid (base (power_of size) s) (base (power_of size) s + chunk_words (power_of size)) (chunk-sound (power_of size) (power-low size) (power-high size) s ws mid p.mine).rising apart inside all_in

    fits : (test : Entry → Bool) → length (encode_all (filter test mid)) ≤ chunk_words (power_of size)
    fits test =
        let a = filter-words test mid in
        let b = parse-words (slice (base (power_of size) s) (base (power_of size) s + 8 * lines_of (power_of size) ws s) ws) 0 (base (power_of size) s) mid p.mine in
        let l = slice-long (base (power_of size) s) (base (power_of size) s + 8 * lines_of (power_of size) ws s) ws in
        let k = lines-few size ws s in
        let w = lines-words (power_of size) (power-low size) (power-high size) in
        omega arith

    is-kept : filter (is_kept es (xs ++ ys)) mid ≡ kept_in (power_of size) s es
    is-kept = ap (λ (l : List Entry). filter (is_kept l (xs ++ ys)) mid) p.whole ∙ gathered-kept size (power-low size) (power-high size) n s ws es xs mid ys p

    bounds-in : Bounds size s es
    bounds-in =
        let a = weighed (xs ++ ys) in
        let b = weighed es in
        let f = fits (is_kept es es) in
        let x = b.words in
        let same-puts : b.puts ≡ a.puts = b.is-puts ∙ sym a.is-puts in
        let same : b.copied ≡ a.deletes = b.is-copied ∙ sum_same (λ k. copied_deletes size s es (chosen k es)) (λ k. delete_words size s (chosen k es)) (keys_of es) (λ k i. all_known size s es k) ∙ sym a.is-deletes in
        record {
          puts = a.puts;
          deletes = a.deletes;
          copied = a.copied;
          sum = a.sum;
          words = ap (λ (l : List Entry). length (encode_all l)) (sym is-kept) ∙ a.words;
          fewer = a.fewer;
          few = omega arith;
        }

  pub bounds : Bounds size s es
  bounds = let q = parts (power_of size) (power-low size) (power-high size) n s ws es low high ok.parsed in bounds-in q.0 q.1 q.2 q.3

  -- by the word that the buffer holds
  module _ (buffer : List ℕ) (sums : Summed size buffer es) (sum : ℕ) (is_sum : sum ≡ get_or buffer (sums_start + s % sums_count) 0) where
    sum_is : sum ≡ chosen_sum size s es
    sum_is =
        let m = ok.most in
        let q : sums_start + s % sums_count ≡ sums_start + s = omega arith in
        let b = bounds in
        let f = b.few in
        let most = words-most (power_of size) (power-low size) (power-high size) in
        let z : chosen_sum size s es % 2 ^ 64 ≡ chosen_sum size s es = rw b.sum (omega arith) in
        is_sum ∙ ap (λ (i : ℕ). get_or buffer i 0) q ∙ sums.each s (omega arith) ∙ z

    pub least-copied : sum % high_half ≤ copy_words (power_of size) es s
    least-copied =
        let b = bounds in
        let f = b.few in
        let most = words-most (power_of size) (power-low size) (power-high size) in
        let w = b.words in
        let q : sum ≡ b.puts + high_half * b.deletes = sum_is ∙ b.sum in
        omega arith

    pub all-copied : sum < high_half → copy_words (power_of size) es s ≡ sum % high_half
    all-copied l =
        let b = bounds in
        let f = b.few in
        let most = words-most (power_of size) (power-low size) (power-high size) in
        let g = b.fewer in
        let w = b.words in
        let q : sum ≡ b.puts + high_half * b.deletes = sum_is ∙ b.sum in
        let z : b.deletes ≡ 0 = omega arith in
        omega arith
