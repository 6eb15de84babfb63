-- The laws of what the table holds of a key: what the word says, no entry, one more entry.
-- Assumes nothing.
use Rattle.std.proofs.Common.{◌≡◌, ℕ, suc, ◌+◌, ◌<◌, ◌≤◌, Bool, true, false, eqb, leb, List, [], ◌∷◌, ◌++◌, length, sym, refl, ap, ◌∙◌, inl, append-nil, arith, length-append, le-ltb, lt-ltb, eq-eqb, ne_eqb, eqb-true, le-leb}
use mathlib.Core.Option.{Option, none, some}
use native.Mathlib.Decide.{ℕ_discrete, dec_lt}
use borrow.Author.Tests.{eqb-false, lt-leb}
use Rattle.spec.specs.declared.Size.{Size}
use Rattle.spec.specs.declared.Size.TheVariants as S
use Rattle.spec.specs.Basics.{pick, larger, filter, first, negate, is_some}
use Rattle.spec.specs.Log.{Entry}
use Rattle.spec.specs.Contents.{highest, is_top_of, tops, chosen, known}
use Rattle.theory_base.proofs.Lists.{not-both, both_l, both_r, filter-append, filter_none, filter-length}
use Rattle.theory_log.specs.Contents.{Mem}
use Rattle.theory_log.proofs.Contents.{version_of, chosen-best, highest-best, highest-append, highest-insert, below-highest, larger-l, larger-r, chosen_is, none_of, mem-l, mem-r}
use Rattle.theory_log.proofs.Tops.{in_all}
use Rattle.packing.specs.declared.Info.{Info}
use Rattle.packing.specs.Packed.{widths_of, Narrow, pack_of, unpack_of, unpack-pack, pack-nonzero}
use Rattle.volatile.specs.Known.{entry_count, several, extent_of, info_for, info_of, alone, own_of, raised, noted, Small, Bounded}

-- Bounds.
pub bounded-front : (size : Size) → (xs ys : List Entry) → Bounded size (xs ++ ys) → Bounded size xs
bounded-front size xs ys b = let a = length-append xs ys in let f = b.few in record { each = λ e m. b.each e (mem-l e xs ys m); few = omega arith }

pub bounded-last : (size : Size) → (xs ys : List Entry) (e : Entry) → Bounded size (xs ++ e ∷ ys) → Small size e
bounded-last size xs ys e b = b.each e (mem-r e xs (e ∷ ys) (inl refl))

pub count_most : (k : ℕ) (es : List Entry) → entry_count k es ≤ length es
count_most k es = filter-length (λ (e : Entry). eqb e.key k) es

pub several-most : (k : ℕ) (es : List Entry) → several k es < 2
several-most k es = go (leb 2 (length (tops k es)))
  where
    go : (b : Bool) → pick b 1 0 < 2
    go true = omega arith
    go false = omega arith

-- What the word says of a known key, and of one that is not known.
abbrev of : (size : Size) → Entry → ℕ → ℕ → Info
of size e entries twins = record { extent = extent_of size e.placement e.field; place = e.at; version = e.version; entries = entries; several = twins }

abbrev pub said : (size : Size) → ℕ → List Entry → Entry → Info
said size k es e = of size e (entry_count k es) (several k es)

narrow : (size : Size) → (e : Entry) (entries twins : ℕ) → Small size e → entries < (widths_of size).entries → twins < 2 → Narrow size (of size e entries twins)
narrow size e entries twins s n t = record { extent-fits = s.extent-high; place-fits = s.place-high; version-fits = s.version-high; entries-fits = n; several-fits = t }

module _ (size : Size) (k : ℕ) (es : List Entry) where
  pub info-chosen : (e : Entry) → chosen k es ≡ some e → info_of size k es ≡ pack_of size (said size k es e)
  unfolding info_of
  info-chosen e h = rw h

  pub info-none : chosen k es ≡ none → info_of size k es ≡ 0
  unfolding info_of
  info-none h = rw h

  module _ (b : Bounded size es) where
    chosen-small : (e : Entry) → chosen k es ≡ some e → Small size e
    chosen-small e h = b.each e (chosen_is k es e h).in_list

    pub info-says : (e : Entry) → chosen k es ≡ some e → unpack_of size (info_of size k es) ≡ said size k es e
    info-says e h =
        let s = chosen-small e h in
        let n = count_most k es in
        let f = b.few in
        ap (unpack_of size) (info-chosen e h) ∙ unpack-pack size (said size k es e) (narrow size e (entry_count k es) (several k es) s (omega arith) (several-most k es))

    pub info-nonzero : (e : Entry) → chosen k es ≡ some e → info_of size k es ≡ 0 → ⊥
    info-nonzero e h z = let s = chosen-small e h in pack-nonzero size (said size k es e) s.place-low s.place-high (sym (info-chosen e h) ∙ z)

    -- the word is 0 exactly if the key is not known
    pub zero-chosen : info_of size k es ≡ 0 → chosen k es ≡ none
    zero-chosen z = go (chosen k es) refl
      where
        go : (q : Option Entry) → chosen k es ≡ q → q ≡ none
        go none h = refl
        go (some e) h = absurd (info-nonzero e h z)

    pub zero-unknown : info_of size k es ≡ 0 → known k es ≡ false
    zero-unknown z = ap is_some (zero-chosen z)

    pub unknown-zero : known k es ≡ false → info_of size k es ≡ 0
    unknown-zero u = go (chosen k es) refl u
      where
        go : (q : Option Entry) → chosen k es ≡ q → is_some q ≡ false → info_of size k es ≡ 0
        go none h v = info-none h
        go (some e) h v = absurd (not-both true refl v)

    -- and if it is not 0 there is a chosen entry, of which it speaks
    pub nonzero-chosen : (info_of size k es ≡ 0 → ⊥) → (e : Entry) × (chosen k es ≡ some e) × (unpack_of size (info_of size k es) ≡ said size k es e)
    nonzero-chosen n = go (chosen k es) refl
      where
        go : (q : Option Entry) → chosen k es ≡ q → (e : Entry) × (q ≡ some e) × (unpack_of size (info_of size k es) ≡ said size k es e)
        go none h = absurd (n (info-none h))
        go (some e) h = (e, refl, info-says e h)

-- A word, with one more entry.
one-few : (size : Size) → 1 < (widths_of size).entries
one-few S.Small = omega arith
one-few S.Large = omega arith

pub own-says : (size : Size) → (e : Entry) → Small size e → unpack_of size (own_of size e) ≡ of size e 1 0
unfolding alone
own-says size e s = unpack-pack size (of size e 1 0) (narrow size e 1 0 s (one-few size) (omega arith))

pub noted-new : (size : Size) → (word own : ℕ) → word ≡ 0 → own ≡ noted size word own
unfolding noted
noted-new size word own z = sym (rw (eq-eqb word 0 z))

noted-first : (size : Size) → (e : Entry) → noted size 0 (own_of size e) ≡ pack_of size (of size e 1 0)
unfolding noted alone
noted-first size e = refl

noted-next : (size : Size) → (word : ℕ) (e : Entry) (i : Info) → (word ≡ 0 → ⊥) → unpack_of size word ≡ i → Small size e → noted size word (own_of size e) ≡ pack_of size (raised i (of size e 1 0))
unfolding noted
noted-next size word e i n u s = rw (ne_eqb word 0 n) (ap (λ (j : Info). pack_of size (raised (unpack_of size word) j)) (own-says size e s) ∙ ap (λ (j : Info). pack_of size (raised j (of size e 1 0))) u)

-- A filter, with one more entry.
module _ (test : Entry → Bool) (xs ys : List Entry) (e : Entry) where
  filter-out : test e ≡ false → filter test (xs ++ e ∷ ys) ≡ filter test (xs ++ ys)
  filter-out h = filter-append test xs (e ∷ ys) ∙ rw h (sym (filter-append test xs ys))

  filter-in : test e ≡ true → filter test (xs ++ e ∷ ys) ≡ filter test xs ++ e ∷ filter test ys
  filter-in h = filter-append test xs (e ∷ ys) ∙ rw h

count-more : (k : ℕ) (xs ys : List Entry) (e : Entry) → e.key ≡ k → entry_count k (xs ++ e ∷ ys) ≡ entry_count k (xs ++ ys) + 1
count-more k xs ys e q =
    let test : (Entry → Bool) = λ (f : Entry). eqb f.key k in
    let a = ap length (filter-in test xs ys e (eq-eqb e.key k q)) ∙ length-append (filter test xs) (e ∷ filter test ys) in
    let b = ap length (filter-append test xs ys) ∙ length-append (filter test xs) (filter test ys) in
    omega arith

count_none : (k : ℕ) (es : List Entry) → chosen k es ≡ none → entry_count k es ≡ 0
count_none k es h = ap length (filter_none (λ (e : Entry). eqb e.key k) es (in_all (λ e. negate (eqb e.key k)) es (λ e m. ap negate (ne_eqb e.key k (none_of k es e h m)))))

-- The top entries, with one more entry.
none-at : (k h : ℕ) (es : List Entry) → highest k es < h → filter (is_top_of k h) es ≡ []
none-at k h es l = filter_none (is_top_of k h) es (in_all (λ e. negate (is_top_of k h e)) es each)
  where
    each : (e : Entry) → Mem e es → negate (is_top_of k h e) ≡ true
    each e m = go (is_top_of k h e) refl
      where
        go : (b : Bool) → is_top_of k h e ≡ b → negate b ≡ true
        go false t = refl
        go true t =
            let v = eqb-true e.version h (both_r (eqb e.key k) (eqb e.version h) t) in
            let a = below-highest k es e m (eqb-true e.key k (both_l (eqb e.key k) (eqb e.version h) t)) in
            absurd (omega arith)

module _ (k : ℕ) (xs ys : List Entry) (e : Entry) where
  pub tops-other : (e.key ≡ k → ⊥) → tops k (xs ++ e ∷ ys) ≡ tops k (xs ++ ys)
  unfolding tops
  tops-other n =
      let h : highest k (xs ++ e ∷ ys) ≡ highest k (xs ++ ys) = sym (highest-insert k xs ys e) ∙ rw (ne_eqb e.key k n) in
      rw h (filter-out (is_top_of k (highest k (xs ++ ys))) xs ys e (rw (ne_eqb e.key k n)))

  highest-more : e.key ≡ k → highest k (xs ++ e ∷ ys) ≡ larger e.version (highest k (xs ++ ys))
  highest-more q = sym (highest-insert k xs ys e) ∙ rw (eq-eqb e.key k q)

  pub tops_above : e.key ≡ k → highest k (xs ++ ys) < e.version → tops k (xs ++ e ∷ ys) ≡ e ∷ []
  unfolding tops
  tops_above q l =
      let h : highest k (xs ++ e ∷ ys) ≡ e.version = highest-more q ∙ rw (lt-leb e.version (highest k (xs ++ ys)) l) in
      let test : (Entry → Bool) = is_top_of k e.version in
      let a = highest-append k xs ys in
      let x = larger-l (highest k xs) (highest k ys) in
      let y = larger-r (highest k xs) (highest k ys) in
      rw (h, filter-in test xs ys e (rw (eq-eqb e.key k q, eq-eqb e.version e.version refl)), none-at k e.version xs (omega arith), none-at k e.version ys (omega arith))

module _ (k : ℕ) (xs : List Entry) (e : Entry) (q : e.key ≡ k) where
  highest-last : highest k (xs ++ e ∷ []) ≡ larger e.version (highest k xs)
  highest-last = highest-more k xs [] e q ∙ rw (append-nil xs)

  pub tops-twin : e.version ≡ highest k xs → tops k (xs ++ e ∷ []) ≡ tops k xs ++ e ∷ []
  unfolding tops
  tops-twin v =
      let h : highest k (xs ++ e ∷ []) ≡ highest k xs = highest-last ∙ rw (le-leb e.version (highest k xs) (omega arith)) in
      rw (h, filter-in (is_top_of k (highest k xs)) xs [] e (rw (eq-eqb e.key k q, eq-eqb e.version (highest k xs) v)))

  pub tops-below : e.version < highest k xs → tops k (xs ++ e ∷ []) ≡ tops k xs
  unfolding tops
  tops-below v =
      let h : highest k (xs ++ e ∷ []) ≡ highest k xs = highest-last ∙ rw (le-leb e.version (highest k xs) (omega arith)) in
      rw (h, filter-out (is_top_of k (highest k xs)) xs [] e (rw (eq-eqb e.key k q, ne_eqb e.version (highest k xs) (omega arith))), append-nil xs)

  count-last : entry_count k (xs ++ e ∷ []) ≡ entry_count k xs + 1
  count-last = count-more k xs [] e q ∙ rw (append-nil xs)

-- ## One more entry

info-from : (size : Size) → (k n : ℕ) (es ts : List Entry) → tops k es ≡ ts → entry_count k es ≡ n → info_of size k es ≡ info_for size (first ts) n (pick (leb 2 (length ts)) 1 0)
unfolding info_of chosen
info-from size k n es ts t c = rw (t, c)

pub chosen-version : (k : ℕ) (es : List Entry) (q : Option Entry) → chosen k es ≡ q → version_of q ≡ highest k es
chosen-version k es q h = sym (ap version_of (sym (chosen-best k es) ∙ h)) ∙ highest-best k es

-- of another key, anywhere
pub info-other : (size : Size) → (k : ℕ) (xs ys : List Entry) (e : Entry) → (e.key ≡ k → ⊥) → info_of size k (xs ++ e ∷ ys) ≡ info_of size k (xs ++ ys)
info-other size k xs ys e n =
    info-from size k (entry_count k (xs ++ ys)) (xs ++ e ∷ ys) (tops k (xs ++ ys)) (tops-other k xs ys e n) (ap length (filter-out (λ (f : Entry). eqb f.key k) xs ys e (ne_eqb e.key k n)))
    ∙ sym (info-from size k (entry_count k (xs ++ ys)) (xs ++ ys) (tops k (xs ++ ys)) refl refl)

-- of the key, above all others, anywhere
pub info-above : (size : Size) → (k : ℕ) (xs ys : List Entry) (e : Entry) → Bounded size (xs ++ ys) → Small size e → e.key ≡ k → highest k (xs ++ ys) < e.version → info_of size k (xs ++ e ∷ ys) ≡ noted size (info_of size k (xs ++ ys)) (own_of size e)
info-above size k xs ys e b small q l = info-from size k n (xs ++ e ∷ ys) (e ∷ []) (tops_above k xs ys e q l) (count-more k xs ys e q) ∙ go (chosen k (xs ++ ys)) refl
  where
    n : ℕ
    n = entry_count k (xs ++ ys) + 1

    go : (c : Option Entry) → chosen k (xs ++ ys) ≡ c → pack_of size (of size e n 0) ≡ noted size (info_of size k (xs ++ ys)) (own_of size e)
    go none h = rw (info-none size k (xs ++ ys) h, noted-first size e, count_none k (xs ++ ys) h)
    go (some f) h =
        let v : f.version ≡ highest k (xs ++ ys) = chosen-version k (xs ++ ys) (some f) h in
        let r = noted-next size (info_of size k (xs ++ ys)) e (said size k (xs ++ ys) f) (info-nonzero size k (xs ++ ys) b f h) (info-says size k (xs ++ ys) b f h) small in
        sym (r ∙ rw (lt-ltb f.version e.version (omega arith)))

-- of the key, behind all others
pub chosen-first : (k : ℕ) (es : List Entry) (f : Entry) → chosen k es ≡ some f → (rest : List Entry) × (tops k es ≡ f ∷ rest)
unfolding chosen
chosen-first k es f h = first-is (tops k es) f h
  where
    first-is : (ts : List Entry) (f : Entry) → first ts ≡ some f → (rest : List Entry) × (ts ≡ f ∷ rest)
    first-is [] f h = absurd (let z : ◌≡◌ {A = ℕ} 0 1 = cc in omega arith)
    first-is (t ∷ ts) f h = (ts, ap (λ (x : Entry). x ∷ ts) cc)

module _ (size : Size) (k : ℕ) (xs : List Entry) (e : Entry) (b : Bounded size xs) (q : e.key ≡ k) (small : Small size e) where
  low : 1 ≤ e.version
  low = small.version_low

  info-known : (f : Entry) → chosen k xs ≡ some f → e.version ≤ f.version → info_of size k (xs ++ e ∷ []) ≡ noted size (info_of size k xs) (own_of size e)
  info-known f h l = go (ℕ_discrete f.version e.version)
    where
      v : f.version ≡ highest k xs
      v = chosen-version k xs (some f) h

      i : Info
      i = said size k xs f

      r : noted size (info_of size k xs) (own_of size e) ≡ pack_of size (raised i (of size e 1 0))
      r = noted-next size (info_of size k xs) e i (info-nonzero size k xs b f h) (info-says size k xs b f h) small

      t : (rest : List Entry) × (tops k xs ≡ f ∷ rest)
      t = chosen-first k xs f h

      n : ℕ
      n = entry_count k xs + 1

      go : Dec (f.version ≡ e.version) → info_of size k (xs ++ e ∷ []) ≡ noted size (info_of size k xs) (own_of size e)
      go (yes s) =
          let a : tops k (xs ++ e ∷ []) ≡ f ∷ (t.0 ++ e ∷ []) = tops-twin k xs e q (sym s ∙ v) ∙ rw t.1 in
          let m = length-append t.0 (e ∷ []) in
          info-from size k n (xs ++ e ∷ []) (f ∷ (t.0 ++ e ∷ [])) a (count-last k xs e q)
          ∙ rw (le-leb 2 (suc (length (t.0 ++ e ∷ []))) (omega arith)) (sym (r ∙ rw (le-ltb f.version e.version (omega arith), eq-eqb f.version e.version s)))
      go (no s) =
          let a : tops k (xs ++ e ∷ []) ≡ f ∷ t.0 = tops-below k xs e q (omega (arith, v)) ∙ t.1 in
          info-from size k n (xs ++ e ∷ []) (f ∷ t.0) a (count-last k xs e q)
          ∙ sym (r ∙ rw (le-ltb f.version e.version (omega arith), ne_eqb f.version e.version s, t.1))

  info-last : info_of size k (xs ++ e ∷ []) ≡ noted size (info_of size k xs) (own_of size e)
  info-last = go (dec_lt (highest k xs) e.version) (chosen k xs) refl
    where
      go : Dec (highest k xs < e.version) → (c : Option Entry) → chosen k xs ≡ c → info_of size k (xs ++ e ∷ []) ≡ noted size (info_of size k xs) (own_of size e)
      go (yes l) c h = info-above size k xs [] e (rw (append-nil xs) b) small q (rw (append-nil xs) l) ∙ rw (append-nil xs)
      go (no l) none h = let v : 0 ≡ highest k xs = chosen-version k xs none h in absurd (omega arith)
      go (no l) (some f) h = let v : f.version ≡ highest k xs = chosen-version k xs (some f) h in info-known f h (omega arith)

pub info-next : (size : Size) → (k : ℕ) (xs : List Entry) (e : Entry) → Bounded size xs → Small size e → info_of size k (xs ++ e ∷ []) ≡ pick (eqb e.key k) (noted size (info_of size k xs) (own_of size e)) (info_of size k xs)
info-next size k xs e b small = go (eqb e.key k) (eqb-true e.key k) (eqb-false e.key k)
  where
    go : (t : Bool) → (t ≡ true → e.key ≡ k) → (t ≡ false → e.key ≡ k → ⊥) → info_of size k (xs ++ e ∷ []) ≡ pick t (noted size (info_of size k xs) (own_of size e)) (info_of size k xs)
    go true y n = info-last size k xs e b (y refl) small
    go false y n = info-other size k xs [] e (n refl) ∙ rw (append-nil xs)
