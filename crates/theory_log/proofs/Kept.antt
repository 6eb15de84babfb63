-- The entries of one chunk and those of the others, as parts of an image's entries: what cleaning keeps.
-- Assumes nothing.
use mathlib.Core.Path.{◌≡◌, sym, ◌∙◌, ap}
use mathlib.Core.Logic.{◌⊎◌, inl, inr}
use mathlib.Core.Bool.{Bool, true, false}
use mathlib.Core.List.{List, [], ◌++◌, append-nil}
use Prim.Native.Nat.{ℕ, suc, ◌+◌, ◌-◌, ◌≤◌, ◌<◌}
use native.Mathlib.Omega.{arith}
use borrow.Author.Tests.{eq-eqb, ne_eqb}
use Rattle.spec.specs.Basics.{negate, filter, all}
use Rattle.spec.specs.Places.{base, chunk_words, word_chunk}
use Rattle.spec.specs.Log.{Entry, Entries, chunk_entries, join, all_from, image_entries}
use Rattle.spec.specs.Contents.{in_chunk, elsewhere, is_kept, kept_in}
use Rattle.theory_log.specs.Contents.{Mem}
use Rattle.theory_base.proofs.Lists.{filter-append, filter-all, filter_none}
use Rattle.theory_base.proofs.Places.{base-next, word-place, chunk-of-word}
use Rattle.theory_log.proofs.Contents.{mem-l, mem-r, mem-cases}
use Rattle.theory_log.proofs.Image.{all_split, Joined, join-inv}
use Rattle.theory_log.proofs.Places.{rising-in, chunk-sound, all_sound}
use Rattle.theory_log.proofs.Tops.{in_all}

module _ (p : ℕ) (low : 12 ≤ p) (high : p ≤ 16) where
  -- an entry is in the chunk that its place is in
  pub in-chunk : (c : ℕ) (e : Entry) → base p c ≤ e.at → e.at < base p c + chunk_words p → in_chunk p c e ≡ true
  in-chunk c e l u = eq-eqb (word_chunk p e.at) c (chunk-of-word p low high c e.at l u)

  pub out-chunk : (c : ℕ) (e : Entry) → (e.at < base p c) ⊎ (base p c + chunk_words p ≤ e.at) → in_chunk p c e ≡ false
  out-chunk c e h = ne_eqb (word_chunk p e.at) c (λ q. go (rw q at (word-place p low high e.at)) h)
    where
      go : (base p c ≤ e.at) × (e.at < base p c + chunk_words p) → (e.at < base p c) ⊎ (base p c + chunk_words p ≤ e.at) → ⊥
      go (a, b) (inl l) = omega arith
      go (a, b) (inr u) = omega arith

  -- the entries of an image of n chunks: those before chunk c, its own, and those behind it
  module _ (n c : ℕ) (ws : List ℕ) (es : List Entry) where
    pub record Parts (xs chunk ys : List Entry) : Type 0 where
      pub whole : es ≡ xs ++ (chunk ++ ys)
      pub before : all_from p (c - 1) 1 ws ≡ Entries xs
      pub mine : chunk_entries p ws c ≡ Entries chunk
      pub behind : all_from p (n - 1 - c) (suc c) ws ≡ Entries ys
      pub inside : (f : Entry) → Mem f chunk → (base p c ≤ f.at) × (f.at < base p c + chunk_words p)
      pub outside : (f : Entry) → Mem f (xs ++ ys) → (f.at < base p c) ⊎ (base p c + chunk_words p ≤ f.at)

    pub parts : 1 ≤ c → c < n → image_entries p n ws ≡ Entries es → (xs : List Entry) × (chunk : List Entry) × (ys : List Entry) × Parts xs chunk ys
    parts a b h = go (join-inv _ _ es (sym (all_split p (c - 1) (n - 1 - c) 1 (n - 1) c ws (omega arith) (omega arith)) ∙ h))
      where
        Goal : Type 0
        Goal = (xs : List Entry) × (chunk : List Entry) × (ys : List Entry) × Parts xs chunk ys

        two : (xs : List Entry) → all_from p (c - 1) 1 ws ≡ Entries xs → (rest : List Entry) → es ≡ xs ++ rest → Joined (chunk_entries p ws c) (all_from p (n - 1 - c) (suc c) ws) rest → Goal
        two xs g rest w r = (
          xs,
          r.left,
          r.right,
          record {
            whole = w ∙ ap (λ (l : List Entry). xs ++ l) r.whole;
            before = g;
            mine = r.is-left;
            behind = r.is_right;
            inside = λ f m. rising-in (base p c) (base p c + chunk_words p) r.left f (chunk-sound p low high c ws r.left r.is-left).rising m;
            outside = λ f m. out f (mem-cases f xs r.right m);
          },
        )
          where
            i : 1 + (c - 1) ≡ c
            i = omega arith

            out : (f : Entry) → Mem f xs ⊎ Mem f r.right → (f.at < base p c) ⊎ (base p c + chunk_words p ≤ f.at)
            out f (inl m) = inl (rw i at (rising-in (base p 1) (base p (1 + (c - 1))) xs f (all_sound p low high (c - 1) 1 ws xs g).rising m).1)
            out f (inr m) = inr (rw (base-next p low high c) at (rising-in (base p (suc c)) (base p (suc c + (n - 1 - c))) r.right f (all_sound p low high (n - 1 - c) (suc c) ws r.right r.is_right).rising m).0)

        go : Joined (all_from p (c - 1) 1 ws) (join (chunk_entries p ws c) (all_from p (n - 1 - c) (suc c) ws)) es → Goal
        go r = two r.left r.is-left r.right r.whole (join-inv _ _ r.right r.is_right)

    module _ (xs chunk ys : List Entry) (t : Parts xs chunk ys) where
      in-mine : (f : Entry) → Mem f chunk → in_chunk p c f ≡ true
      in-mine f m = let i = t.inside f m in in-chunk c f i.0 i.1

      -- the tests find these parts
      all-out : (zs : List Entry) → ((f : Entry) → Mem f zs → Mem f (xs ++ ys)) → all (elsewhere p c) zs ≡ true
      all-out zs into = in_all (elsewhere p c) zs (λ f m. ap negate (out-chunk c f (t.outside f (into f m))))

      filter-three : (test : Entry → Bool) → filter test es ≡ filter test xs ++ (filter test chunk ++ filter test ys)
      filter-three test = ap (filter test) t.whole ∙ filter-append test xs (chunk ++ ys) ∙ ap (λ (l : List Entry). filter test xs ++ l) (filter-append test chunk ys)

      pub filter-mine : filter (in_chunk p c) es ≡ chunk
      filter-mine =
          let x : filter (in_chunk p c) xs ≡ [] = filter_none (in_chunk p c) xs (all-out xs (λ f m. mem-l f xs ys m)) in
          let y : filter (in_chunk p c) ys ≡ [] = filter_none (in_chunk p c) ys (all-out ys (λ f m. mem-r f xs ys m)) in
          let z : filter (in_chunk p c) chunk ≡ chunk = filter-all (in_chunk p c) chunk (in_all (in_chunk p c) chunk in-mine) in
          filter-three (in_chunk p c) ∙ rw (x, y, z, append-nil)

      pub filter-others : filter (elsewhere p c) es ≡ xs ++ ys
      filter-others =
          let x : filter (elsewhere p c) xs ≡ xs = filter-all (elsewhere p c) xs (all-out xs (λ f m. mem-l f xs ys m)) in
          let y : filter (elsewhere p c) ys ≡ ys = filter-all (elsewhere p c) ys (all-out ys (λ f m. mem-r f xs ys m)) in
          let z : filter (elsewhere p c) chunk ≡ [] = filter_none (elsewhere p c) chunk (in_all (λ f. negate (elsewhere p c f)) chunk (λ f m. rw (in-mine f m))) in
          filter-three (elsewhere p c) ∙ rw (x, y, z)

      pub kept-is : kept_in p c es ≡ filter (is_kept es (xs ++ ys)) chunk
      unfolding kept_in
      kept-is = rw (filter-others, filter-mine)
