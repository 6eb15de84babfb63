-- What a cleaning of a chunk keeps, by the chunk's sum: its chosen puts, and some of its chosen deletes.
-- Assumes nothing.
use mathlib.Core.Path.{◌≡◌, refl, sym, ◌∙◌, ap}
use mathlib.Core.Logic.{inl, inr}
use mathlib.Core.Bool.{Bool, true, false}
use mathlib.Core.Option.{Option, none, some}
use mathlib.Core.List.{List, [], ◌∷◌}
use Prim.Native.Nat.{ℕ, ◌+◌, ◌*◌, ◌≤◌}
use native.Mathlib.Nat.{mul-add}
use native.Mathlib.Omega.{arith}
use lib.Dec.{eqb}
use lib.ListN.{length, length-append}
use borrow.Author.Tests.{eq-eqb}
use Rattle.spec.specs.declared.Size.{Size}
use Rattle.places.specs.Sizes.{power_of}
use Rattle.spec.specs.Basics.{pick, both, either, filter}
use Rattle.spec.specs.Log.{Entry, encode_all}
use Rattle.spec.specs.Contents.{chosen, known, keys_of, in_chunk, is_kept}
use Rattle.theory_base.proofs.Lists.{Once, is_in-mem, both_l}
use Rattle.theory_log.specs.Contents.{Mem, Apart}
use Rattle.theory_log.proofs.Contents.{mem-filter, filter-mem, chosen_is}
use Rattle.theory_log.proofs.Keys.{key_list, key-mem, mem-key, mem-known, keys-known}
use Rattle.theory_log.proofs.Clean.{is-at}
use Rattle.theory_log.proofs.Places.{Rising}
use Rattle.volatile.specs.Sums.{high_half, share_in, sum_over, chosen_sum}
use Rattle.volatile.proofs.Sums.{sum-plus, sum-lists, Covers, keys-once}
use Rattle.forward.specs.Once.{OneEach}
use Rattle.forward.proofs.Sole.{once-filter}

-- ## What a key adds: to the chosen puts, the chosen deletes, those of them that are kept, and all that is kept

abbrev pub put_words : (sz : Size) → ℕ → Option Entry → ℕ
put_words sz c none = 0
put_words sz c (some e) = pick (in_chunk (power_of sz) c e) (pick (eqb e.op 1) (2 + length e.value) 0) 0

abbrev pub delete_words : (sz : Size) → ℕ → Option Entry → ℕ
delete_words sz c none = 0
delete_words sz c (some e) = pick (in_chunk (power_of sz) c e) (pick (eqb e.op 1) 0 (2 + length e.value)) 0

abbrev pub copied_deletes : (sz : Size) → ℕ → List Entry → Option Entry → ℕ
copied_deletes sz c others none = 0
copied_deletes sz c others (some e) = pick (in_chunk (power_of sz) c e) (pick (eqb e.op 1) 0 (pick (known e.key others) (2 + length e.value) 0)) 0

abbrev pub kept_words : (sz : Size) → ℕ → List Entry → Option Entry → ℕ
kept_words sz c others none = 0
kept_words sz c others (some e) = pick (in_chunk (power_of sz) c e) (pick (either (eqb e.op 1) (known e.key others)) (2 + length e.value) 0) 0

share-parts : (sz : Size) → (c : ℕ) (o : Option Entry) → share_in sz c o ≡ put_words sz c o + high_half * delete_words sz c o
share-parts sz c none = refl
share-parts sz c (some e) = go (in_chunk (power_of sz) c e) (eqb e.op 1)
  where
    n : ℕ
    n = 2 + length e.value

    go : (a b : Bool) → pick a (pick b n (high_half * n)) 0 ≡ pick a (pick b n 0) 0 + high_half * pick a (pick b 0 n) 0
    go true true = omega arith
    go true false = omega arith
    go false b = omega arith

kept-parts : (sz : Size) → (c : ℕ) (others : List Entry) (o : Option Entry) → kept_words sz c others o ≡ put_words sz c o + copied_deletes sz c others o
kept-parts sz c others none = refl
kept-parts sz c others (some e) = go (in_chunk (power_of sz) c e) (eqb e.op 1) (known e.key others)
  where
    n : ℕ
    n = 2 + length e.value

    go : (a b d : Bool) → pick a (pick (either b d) n 0) 0 ≡ pick a (pick b n 0) 0 + pick a (pick b 0 (pick d n 0)) 0
    go true true d = omega arith
    go true false true = omega arith
    go true false false = omega arith
    go false b d = omega arith

copied-fewer : (sz : Size) → (c : ℕ) (others : List Entry) (o : Option Entry) → copied_deletes sz c others o ≤ delete_words sz c o
copied-fewer sz c others none = omega arith
copied-fewer sz c others (some e) = go (in_chunk (power_of sz) c e) (eqb e.op 1) (known e.key others)
  where
    n : ℕ
    n = 2 + length e.value

    go : (a b d : Bool) → pick a (pick b 0 (pick d n 0)) 0 ≤ pick a (pick b 0 n) 0
    go true true d = omega arith
    go true false true = omega arith
    go true false false = omega arith
    go false b d = omega arith

-- ## Sums over the keys

pub sum-times : (m : ℕ) (f : ℕ → ℕ) (ks : List ℕ) → sum_over (λ k. m * f k) ks ≡ m * sum_over f ks
sum-times m f [] = omega arith
sum-times m f (k ∷ ks) = ap (λ (x : ℕ). m * f k + x) (sum-times m f ks) ∙ sym (mul-add m (f k) (sum_over f ks))

sum-most : (f g : ℕ → ℕ) (ks : List ℕ) → ((k : ℕ) → f k ≤ g k) → sum_over f ks ≤ sum_over g ks
sum-most f g [] h = omega arith
sum-most f g (k ∷ ks) h = let a = h k in let b = sum-most f g ks h in omega arith

-- the chunk's sum
pub record Weights (sz : Size) (c : ℕ) (es others kept : List Entry) : Type 0 where
  pub puts : ℕ
  pub deletes : ℕ
  pub copied : ℕ
  pub sum : chosen_sum sz c es ≡ puts + high_half * deletes
  pub words : length (encode_all kept) ≡ puts + copied
  pub fewer : copied ≤ deletes
  pub is-puts : puts ≡ sum_over (λ k. put_words sz c (chosen k es)) (keys_of es)
  pub is-deletes : deletes ≡ sum_over (λ k. delete_words sz c (chosen k es)) (keys_of es)
  pub is-copied : copied ≡ sum_over (λ k. copied_deletes sz c others (chosen k es)) (keys_of es)

-- entries of keys that differ
once-keys : (es : List Entry) → OneEach es → Once (key_list es)
once-keys [] o = tt
once-keys (e ∷ es) o = (λ m. let r = mem-key e.key es m in o.0 r.0 r.1 r.2, once-keys es o.1)

sum-entries : (f : ℕ → ℕ) (es : List Entry) → ((e : Entry) → Mem e es → f e.key ≡ 2 + length e.value) → sum_over f (key_list es) ≡ length (encode_all es)
sum-entries f [] h = refl
sum-entries f (e ∷ es) h =
    let a = h e (inl refl) in
    let b = sum-entries f es (λ d m. h d (inr m)) in
    let l = length-append e.value (encode_all es) in
    omega arith

-- `mid` are the entries of chunk c
module _ (sz : Size) (c : ℕ) (es others mid : List Entry) (low high : ℕ) (rising : Rising low high mid) (apart : Apart es)
    (inside : (e : Entry) → Mem e mid → Mem e es × (in_chunk (power_of sz) c e ≡ true)) (all_in : (e : Entry) → Mem e es → in_chunk (power_of sz) c e ≡ true → Mem e mid) where
  abbrev kept : List Entry
  kept = filter (is_kept es others) mid

  kept-is : (e : Entry) → Mem e kept → (in_chunk (power_of sz) c e ≡ true) × (chosen e.key es ≡ some e) × (either (eqb e.op 1) (known e.key others) ≡ true)
  kept-is e m =
      let r = mem-filter (is_kept es others) e mid m in
      let i = is-at (chosen e.key es) e.at (both_l _ (either (eqb e.op 1) (known e.key others)) r.1) in
      let same : e ≡ i.0 = apart e i.0 (inside e r.0).0 (chosen_is e.key es i.0 i.1).in_list (sym i.2) in
      ((inside e r.0).1, i.1 ∙ ap some (sym same), needed (eqb i.0.at e.at) _ (rw i.1 at r.1))
    where
      needed : (a b : Bool) → both a b ≡ true → b ≡ true
      needed true b h = h
      needed false b h = absurd (let z : ◌≡◌ {A = ℕ} 0 1 = cc in omega arith)

  same_key : (e f : Entry) → Mem e kept → Mem f kept → e.key ≡ f.key → e ≡ f
  same_key e f m n q = let a = (kept-is e m).1 in let b = (kept-is f n).1 in let w : chosen e.key es ≡ some f = ap (λ (k : ℕ). chosen k es) q ∙ b in cc

  once : Once (key_list kept)
  once = once-keys kept (once-filter (is_kept es others) low high mid rising same_key)

  words_of : (e : Entry) → Mem e kept → kept_words sz c others (chosen e.key es) ≡ 2 + length e.value
  words_of e m = let i = kept-is e m in rw (i.1, i.0, i.2)

  covered : Covers (key_list kept) (λ k. kept_words sz c others (chosen k es))
  covered k n = go (chosen k es) refl
    where
      go : (o : Option Entry) → chosen k es ≡ o → kept_words sz c others o ≡ 0
      go none h = refl
      go (some e) h = two (in_chunk (power_of sz) c e) refl (either (eqb e.op 1) (known e.key others)) refl
        where
          q : e.key ≡ k
          q = (chosen_is k es e h).of-key

          own : chosen e.key es ≡ some e
          own = ap (λ (j : ℕ). chosen j es) q ∙ h

          two : (a : Bool) → in_chunk (power_of sz) c e ≡ a → (b : Bool) → either (eqb e.op 1) (known e.key others) ≡ b → pick a (pick b (2 + length e.value) 0) 0 ≡ 0
          two false x b y = refl
          two true x false y = refl
          two true x true y =
              let m : Mem e mid = all_in e (chosen_is k es e h).in_list x in
              let i : Mem e kept = filter-mem (is_kept es others) e mid m (rw (own, eq-eqb e.at e.at refl) y) in
              absurd (n (rw q at (key-mem e kept i)))

  cover-none : (f : Option Entry → ℕ) → f none ≡ 0 → Covers (keys_of es) (λ k. f (chosen k es))
  cover-none f z k n = go (chosen k es) refl
    where
      go : (o : Option Entry) → chosen k es ≡ o → f o ≡ 0
      go none h = z
      go (some e) h = let i = chosen_is k es e h in absurd (n (is_in-mem k (keys_of es) (keys-known k es ∙ mem-known k es e i.in_list i.of-key)))

  -- THE SUM AND WHAT IS KEPT
  pub weights : Weights sz c es others kept
  unfolding chosen_sum
  weights =
      let ks = keys_of es in
      let p : (ℕ → ℕ) = λ k. put_words sz c (chosen k es) in
      let d : (ℕ → ℕ) = λ k. delete_words sz c (chosen k es) in
      let x : (ℕ → ℕ) = λ k. copied_deletes sz c others (chosen k es) in
      let w : (ℕ → ℕ) = λ k. kept_words sz c others (chosen k es) in
      let a = sum-plus p (λ k. high_half * d k) (λ k. share_in sz c (chosen k es)) ks (λ k. share-parts sz c (chosen k es)) in
      let b = sum-times high_half d ks in
      let e = sum-plus p x w ks (λ k. kept-parts sz c others (chosen k es)) in
      let g : sum_over w ks ≡ sum_over w (key_list kept) = sum-lists w ks (key_list kept) (keys-once es) once (cover-none (kept_words sz c others) refl) covered in
      let h : sum_over w (key_list kept) ≡ length (encode_all kept) = sum-entries w kept words_of in
      record {
        puts = sum_over p ks;
        deletes = sum_over d ks;
        copied = sum_over x ks;
        sum = a ∙ ap (λ (y : ℕ). sum_over p ks + y) b;
        words = sym h ∙ sym g ∙ e;
        fewer = sum-most x d ks (λ k. copied-fewer sz c others (chosen k es));
        is-puts = refl;
        is-deletes = refl;
        is-copied = refl;
      }
