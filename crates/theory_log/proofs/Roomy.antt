-- What a chunk keeps while a cleaning is under way: copies of what chunk s keeps stand in chunk d besides. If d comes
-- before s, then s keeps nothing; else a chunk of which nothing was kept is still one, d itself included.
-- Assumes nothing.
use mathlib.Core.Path.{◌≡◌, refl, sym, ◌∙◌, ap}
use mathlib.Core.Logic.{◌⊎◌, inl, inr}
use mathlib.Core.Bool.{Bool, true, false}
use mathlib.Core.Option.{some}
use mathlib.Core.List.{List, [], ◌∷◌}
use Prim.Native.Nat.{ℕ, suc, ◌≤◌, ◌<◌}
use native.Mathlib.Omega.{arith}
use lib.Dec.{eqb}
use borrow.Author.Tests.{eq-eqb, ne_eqb, eqb-true}
use Rattle.spec.specs.Basics.{pick, either, negate, filter, first}
use Rattle.spec.specs.Places.{word_chunk}
use Rattle.spec.specs.Log.{Entry, moved}
use Rattle.spec.specs.Contents.{highest, is_top_of, tops, chosen, known, in_chunk, elsewhere, is_at, is_kept, kept_in}
use Rattle.theory_base.proofs.Lists.{both-i, both_l, both_r}
use Rattle.theory_base.proofs.Places.{word-place, base-apart}
use Rattle.theory_log.specs.Contents.{Mem, Top}
use Rattle.theory_log.proofs.Contents.{mem-filter, filter-mem, chosen_is}
use Rattle.theory_log.proofs.Clean.{is-at}
use Rattle.theory_log.proofs.Keys.{known-mem, mem-known}
use Rattle.theory_log.proofs.Places.{Rising, rising-in, rising-apart}
use Rattle.theory_log.proofs.Tops.{chosen-top, top-highest, top-chosen}

-- THE CHOSEN ENTRY is the first of the top ones, by place.
filter-least : (test : Entry → Bool) (lo hi : ℕ) (es : List Entry) (e f : Entry) → Rising lo hi es → first (filter test es) ≡ some e → Mem f es → test f ≡ true → e.at ≤ f.at
filter-least test lo hi [] e f r h m t = absurd m
filter-least test lo hi (x ∷ xs) e f r h m t = go (test x) refl h m (λ h' n. filter-least test (suc x.at) hi xs e f r.1 h' n t)
  where
    go : (b : Bool) → test x ≡ b → first (pick b (x ∷ filter test xs) (filter test xs)) ≡ some e → Mem f (x ∷ xs) → (first (filter test xs) ≡ some e → Mem f xs → e.at ≤ f.at) → e.at ≤ f.at
    go true q h' (inl s) rec = let a : e ≡ x = cc in let b : e.at ≡ f.at = ap (λ (y : Entry). y.at) (a ∙ sym s) in omega arith
    go true q h' (inr n) rec = let a : e ≡ x = cc in let b : e.at ≡ x.at = ap (λ (y : Entry). y.at) a in let c = (rising-in (suc x.at) hi xs f r.1 n).0 in omega arith
    go false q h' (inl s) rec = absurd (let z : true ≡ false = sym t ∙ ap test s ∙ q in let o : ◌≡◌ {A = ℕ} 0 1 = cc in omega arith)
    go false q h' (inr n) rec = rec h' n

module _ (lo hi : ℕ) (es : List Entry) (r : Rising lo hi es) where
  pub chosen-first : (k : ℕ) (e f : Entry) → chosen k es ≡ some e → Mem f es → f.key ≡ k → f.version ≡ e.version → e.at ≤ f.at
  unfolding chosen tops
  chosen-first k e f h m q v =
      let c = chosen_is k es e h in
      let t = top-highest es e (chosen-top k es e h) in
      let w : f.version ≡ highest k es = v ∙ t ∙ ap (λ (j : ℕ). highest j es) c.of-key in
      filter-least (is_top_of k (highest k es)) lo hi es e f r h m (both-i (eqb f.key k) (eqb f.version (highest k es)) (eq-eqb f.key k q) (eq-eqb f.version (highest k es) w))

  pub first-chosen : (e : Entry) → Top es e → ((f : Entry) → Mem f es → f.key ≡ e.key → f.version ≡ e.version → e.at ≤ f.at) → chosen e.key es ≡ some e
  first-chosen e t least =
      let c = top-chosen es e t in
      let a = chosen-first e.key c.0 e c.1 t.0 refl (sym c.4) in
      let b = least c.0 c.2 c.3 c.4 in
      let s : c.0 ≡ e = rising-apart lo hi es r c.0 e c.2 t.0 (omega arith) in
      c.1 ∙ ap (λ (y : Entry). some y) s

-- KEPT, in words.
none-filter : (test : Entry → Bool) (es : List Entry) → ((e : Entry) → Mem e es → test e ≡ true → ⊥) → filter test es ≡ []
none-filter test [] h = refl
none-filter test (x ∷ xs) h = go (test x) refl (none-filter test xs (λ e m t. h e (inr m) t))
  where
    go : (b : Bool) → test x ≡ b → filter test xs ≡ [] → pick b (x ∷ filter test xs) (filter test xs) ≡ []
    go true q rec = absurd (h x (inl refl) q)
    go false q rec = rec

no_member : (es : List Entry) (e : Entry) → es ≡ [] → Mem e es → ⊥
no_member es e q m = rw q at m

-- e is kept by a cleaning of chunk z: it is chosen, and a put or of a key with an entry outside
abbrev pub Keeps : ℕ → ℕ → List Entry → Entry → Type 0
Keeps p z es e = (chosen e.key es ≡ some e) × ((eqb e.op 1 ≡ true) ⊎ ((f : Entry) × (Mem f es × ((f.key ≡ e.key) × (word_chunk p f.at ≡ z → ⊥)))))

module _ (p z lo hi : ℕ) (es : List Entry) (r : Rising lo hi es) where
  out-test : (f : Entry) → (word_chunk p f.at ≡ z → ⊥) → elsewhere p z f ≡ true
  out-test f h = rw (ne_eqb (word_chunk p f.at) z h)

  out-says : (f : Entry) → elsewhere p z f ≡ true → word_chunk p f.at ≡ z → ⊥
  out-says f h e = let q : negate true ≡ true = rw (eq-eqb (word_chunk p f.at) z e) at h in let o : ◌≡◌ {A = ℕ} 0 1 = cc in omega arith

  kept-says : (e : Entry) → Mem e es → is_kept es (filter (elsewhere p z) es) e ≡ true → Keeps p z es e
  kept-says e m h =
      let a = both_l (is_at (chosen e.key es) e.at) (either (eqb e.op 1) (known e.key (filter (elsewhere p z) es))) h in
      let b = both_r (is_at (chosen e.key es) e.at) (either (eqb e.op 1) (known e.key (filter (elsewhere p z) es))) h in
      let i = is-at (chosen e.key es) e.at a in
      let s : i.0 ≡ e = rising-apart lo hi es r i.0 e (chosen_is e.key es i.0 i.1).in_list m i.2 in
      (i.1 ∙ ap (λ (y : Entry). some y) s, go (eqb e.op 1) refl b)
    where
      go : (t : Bool) → eqb e.op 1 ≡ t → either t (known e.key (filter (elsewhere p z) es)) ≡ true
          → (eqb e.op 1 ≡ true) ⊎ ((f : Entry) × (Mem f es × ((f.key ≡ e.key) × (word_chunk p f.at ≡ z → ⊥))))
      go true q k = inl q
      go false q k =
          let o = known-mem e.key (filter (elsewhere p z) es) k in
          let f = mem-filter (elsewhere p z) o.0 es o.1 in
          inr (o.0, (f.0, (o.2, out-says o.0 f.1)))

  says-kept : (e : Entry) → Keeps p z es e → is_kept es (filter (elsewhere p z) es) e ≡ true
  says-kept e (c, o) = rw (c, eq-eqb e.at e.at refl) (go o)
    where
      go : (eqb e.op 1 ≡ true) ⊎ ((f : Entry) × (Mem f es × ((f.key ≡ e.key) × (word_chunk p f.at ≡ z → ⊥)))) → either (eqb e.op 1) (known e.key (filter (elsewhere p z) es)) ≡ true
      go (inl q) = rw q
      go (inr (f, (m, (k, h)))) = two (eqb e.op 1) (mem-known e.key (filter (elsewhere p z) es) f (filter-mem (elsewhere p z) f es m (out-test f h)) k)
        where
          two : (t : Bool) → known e.key (filter (elsewhere p z) es) ≡ true → either t (known e.key (filter (elsewhere p z) es)) ≡ true
          two true q = refl
          two false q = q

  -- members of what is kept, and nothing kept
  pub kept-member : (e : Entry) → Mem e (kept_in p z es) → Mem e es × ((word_chunk p e.at ≡ z) × Keeps p z es e)
  unfolding kept_in
  kept-member e m =
      let a = mem-filter (is_kept es (filter (elsewhere p z) es)) e (filter (in_chunk p z) es) m in
      let b = mem-filter (in_chunk p z) e es a.0 in
      (b.0, (eqb-true (word_chunk p e.at) z b.1, kept-says e b.0 a.1))

  pub member-kept : (e : Entry) → Mem e es → word_chunk p e.at ≡ z → Keeps p z es e → Mem e (kept_in p z es)
  unfolding kept_in
  member-kept e m c k =
      filter-mem (is_kept es (filter (elsewhere p z) es)) e (filter (in_chunk p z) es) (filter-mem (in_chunk p z) e es m (eq-eqb (word_chunk p e.at) z c)) (says-kept e k)

  pub kept-none : ((e : Entry) → Mem e es → word_chunk p e.at ≡ z → Keeps p z es e → ⊥) → kept_in p z es ≡ []
  unfolding kept_in
  kept-none h = none-filter (is_kept es (filter (elsewhere p z) es)) (filter (in_chunk p z) es) (λ e m t.
      let b = mem-filter (in_chunk p z) e es m in h e b.0 (eqb-true (word_chunk p e.at) z b.1) (kept-says e b.0 t))

  pub none_kept : kept_in p z es ≡ [] → (e : Entry) → Mem e es → word_chunk p e.at ≡ z → Keeps p z es e → ⊥
  none_kept q e m c k = no_member (kept_in p z es) e q (member-kept e m c k)

-- no entry stands in the chunk
pub kept-outside : (p z : ℕ) (es : List Entry) → ((e : Entry) → Mem e es → in_chunk p z e ≡ false) → kept_in p z es ≡ []
unfolding kept_in
kept-outside p z es h =
    none-filter (is_kept es (filter (elsewhere p z) es)) (filter (in_chunk p z) es) (λ e m t. let b = mem-filter (in_chunk p z) e es m in let q : true ≡ false = sym b.1 ∙ h e b.0 in let o : ◌≡◌ {A = ℕ} 0 1 = cc in omega arith)

-- COPIES of what chunk s keeps, in chunk d: `gs` are the entries then.
module _ (p : ℕ) (low : 12 ≤ p) (high : p ≤ 16) (s d lo hi lo' hi' : ℕ) (es gs : List Entry) (re : Rising lo hi es) (rg : Rising lo' hi' gs) (ne : s ≡ d → ⊥)
    (es-gs : (f : Entry) → Mem f es → Mem f gs)
    (copied : (g : Entry) → Mem g (kept_in p s es) → (a : ℕ) × (Mem (moved a g) gs × (word_chunk p a ≡ d)))
    (cases : (f : Entry) → Mem f gs → Mem f es ⊎ ((g : Entry) × (Mem g (kept_in p s es) × ((a : ℕ) × ((f ≡ moved a g) × (word_chunk p a ≡ d)))))) where
  -- by chunks, places rise
  rises : (a b : ℕ) → word_chunk p a < word_chunk p b → a < b
  rises a b l =
      let x = word-place p low high a in
      let y = word-place p low high b in
      let g = base-apart p low high (word_chunk p a) (word_chunk p b) l in
      let i = x.1 in
      let j = y.0 in
      omega arith

  still-chosen : (e : Entry) → Mem e es → chosen e.key gs ≡ some e → chosen e.key es ≡ some e
  still-chosen e m h =
      let c = chosen_is e.key gs e h in
      first-chosen lo hi es re e (m, λ f n q. c.above f (es-gs f n) q) (λ f n q v. chosen-first lo' hi' gs rg e.key e f h (es-gs f n) q v)

  -- an entry outside z, of es or a copy: one of es
  outside-es : (z : ℕ) → (z ≡ s → ⊥) → (e f : Entry) → Mem f gs → f.key ≡ e.key → (word_chunk p f.at ≡ z → ⊥) → (g : Entry) × (Mem g es × ((g.key ≡ e.key) × (word_chunk p g.at ≡ z → ⊥)))
  outside-es z nz e f m k o = go (cases f m)
    where
      go : Mem f es ⊎ ((g : Entry) × (Mem g (kept_in p s es) × ((a : ℕ) × ((f ≡ moved a g) × (word_chunk p a ≡ d))))) → (g : Entry) × (Mem g es × ((g.key ≡ e.key) × (word_chunk p g.at ≡ z → ⊥)))
      go (inl n) = (f, (n, (k, o)))
      go (inr (g, (n, (a, (q, x))))) =
          let t = kept-member p s lo hi es re g n in
          (g, (t.0, (sym (ap (λ (y : Entry). y.key) q) ∙ k, λ w. nz (sym w ∙ t.1.0))))

  -- A CHUNK OF WHICH NOTHING WAS KEPT, other than s, keeps nothing, unless the copies went there and come first
  pub still-none : (z : ℕ) → (z ≡ s → ⊥) → (z ≡ d → s < d) → kept_in p z es ≡ [] → kept_in p z gs ≡ []
  still-none z nz before none' = kept-none p z lo' hi' gs rg (λ e m c k. go e c k (cases e m))
    where
      go : (e : Entry) → word_chunk p e.at ≡ z → Keeps p z gs e → Mem e es ⊎ ((g : Entry) × (Mem g (kept_in p s es) × ((a : ℕ) × ((e ≡ moved a g) × (word_chunk p a ≡ d))))) → ⊥
      go e c (h, inl put) (inl m) = none_kept p z lo hi es re none' e m c (still-chosen e m h, inl put)
      go e c (h, inr (f, (n, (k, o)))) (inl m) = none_kept p z lo hi es re none' e m c (still-chosen e m h, inr (outside-es z nz e f n k o))
      go e c (h, o) (inr (g, (n, (a, (q, x))))) =
          let t = kept-member p s lo hi es re g n in
          let at' : e.at ≡ a = ap (λ (y : Entry). y.at) q in
          let zd : z ≡ d = sym c ∙ ap (word_chunk p) at' ∙ x in
          let l = before zd in
          let i : word_chunk p g.at ≡ s = t.1.0 in
          let j : word_chunk p e.at ≡ d = c ∙ zd in
          let up = rises g.at e.at (omega arith) in
          let down = chosen-first lo' hi' gs rg e.key e g h (es-gs g t.0) (sym (ap (λ (y : Entry). y.key) q)) (sym (ap (λ (y : Entry). y.version) q)) in
          omega arith

  -- THE CHUNK THAT IS CLEANED keeps nothing, if the copies come first
  pub cleaned-none : d < s → kept_in p s gs ≡ []
  cleaned-none l = kept-none p s lo' hi' gs rg (λ e m c k. go e c k (cases e m))
    where
      -- its copy is chosen before it
      twin : (e : Entry) → word_chunk p e.at ≡ s → chosen e.key gs ≡ some e → Mem e (kept_in p s es) → ⊥
      twin e c h n =
          let t = copied e n in
          let x = t.1.1 in
          let up = rises t.0 e.at (omega arith) in
          let down = chosen-first lo' hi' gs rg e.key e (moved t.0 e) h t.1.0 refl refl in
          omega arith

      go : (e : Entry) → word_chunk p e.at ≡ s → Keeps p s gs e → Mem e es ⊎ ((g : Entry) × (Mem g (kept_in p s es) × ((a : ℕ) × ((e ≡ moved a g) × (word_chunk p a ≡ d))))) → ⊥
      go e c (h, o) (inr (g, (n, (a, (q, x))))) = ne (sym c ∙ ap (λ (y : Entry). word_chunk p y.at) q ∙ x)
      go e c (h, inl put) (inl m) = twin e c h (member-kept p s lo hi es re e m c (still-chosen e m h, inl put))
      go e c (h, inr (f, (n, (k, o)))) (inl m) = two (cases f n)
        where
          two : Mem f es ⊎ ((g : Entry) × (Mem g (kept_in p s es) × ((a : ℕ) × ((f ≡ moved a g) × (word_chunk p a ≡ d))))) → ⊥
          two (inl i) = twin e c h (member-kept p s lo hi es re e m c (still-chosen e m h, inr (f, (i, (k, o)))))
          two (inr (g, (i, (a, (q, x))))) =
              let t = kept-member p s lo hi es re g i in
              let gk : g.key ≡ e.key = sym (ap (λ (y : Entry). y.key) q) ∙ k in
              let one : some g ≡ some e = sym t.1.1.0 ∙ ap (λ (j : ℕ). chosen j es) gk ∙ still-chosen e m h in
              let same : g ≡ e = cc in
              twin e c h (rw same at i)
