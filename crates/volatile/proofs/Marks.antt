-- The laws of the marked blocks: after no entry, after one more in each case that the code has, and at the end.
-- Assumes nothing.
use Rattle.std.proofs.Common.{◌≡◌, ℕ, Bool, true, false, eqb, ◌⊎◌, List, [], ◌∷◌, ◌++◌, map, sym, refl, ap, ◌∙◌, inl, inr, eq-eqb, eqb-true}
use mathlib.Core.Logic.{by_cases}
use mathlib.Core.Option.{some}
use native.Mathlib.Decide.{ℕ_discrete}
use Rattle.spec.specs.Basics.{pick, both, either, filter, any, is_in}
use Rattle.spec.specs.Medium.{Mem as Among}
use Rattle.spec.specs.Log.{Entry}
use Rattle.spec.specs.Blocks.{pointed}
use Rattle.spec.specs.Contents.{is_top, chosen, live_blocks}
use Rattle.spec.specs.Opening.{sharing, each_top, apart_test}
use Rattle.theory_base.proofs.Lists.{not-both, both_l, both_r, both-i, either_l, either_r, either-cases, pick-i, pick-e, is_in-mem, mem-is_in}
use Rattle.theory_log.specs.Contents.{Mem, Agree, Top}
use Rattle.theory_log.proofs.Contents.{mem-l, mem-r, mem-cases, mem-filter, filter-mem, chosen_is}
use Rattle.theory_log.proofs.Tops.{chosen-top, top-is, is-top, top-chosen, tops-same, top-each, each-top}
use Rattle.volatile.specs.Check.{Live, Clash, Marks}

-- A test of some entry.
pub any-in : (test : Entry → Bool) (es : List Entry) (e : Entry) → Mem e es → test e ≡ true → any test es ≡ true
any-in test [] e m h = absurd m
any-in test (x ∷ xs) e (inl q) h = either_l (test x) (any test xs) (ap test (sym q) ∙ h)
any-in test (x ∷ xs) e (inr m) h = either_r (test x) (any test xs) (any-in test xs e m h)

pub in-any : (test : Entry → Bool) (es : List Entry) → any test es ≡ true → (e : Entry) × Mem e es × (test e ≡ true)
in-any test [] h = absurd (not-both true refl (sym h))
in-any test (x ∷ xs) h = go (either-cases (test x) (any test xs) h) (in-any test xs)
  where
    go : (test x ≡ true) ⊎ (any test xs ≡ true) → (any test xs ≡ true → (e : Entry) × Mem e xs × (test e ≡ true)) → (e : Entry) × Mem e (x ∷ xs) × (test e ≡ true)
    go (inl a) rec = (x, inl refl, a)
    go (inr a) rec = let r = rec a in (r.0, inr r.1, r.2)

-- one more entry
pub any_last : (test : Entry → Bool) (xs : List Entry) (e : Entry) → any test (xs ++ e ∷ []) ≡ either (any test xs) (test e)
any_last test [] e = go (test e)
  where
    go : (b : Bool) → either b false ≡ b
    go true = refl
    go false = refl
any_last test (x ∷ xs) e = go (test x) (any_last test xs e)
  where
    go : (b : Bool) → any test (xs ++ e ∷ []) ≡ either (any test xs) (test e) → either b (any test (xs ++ e ∷ [])) ≡ either (either b (any test xs)) (test e)
    go true h = refl
    go false h = h

-- Sharing a block.
share : (e f : Entry) → pointed e ≡ true → pointed f ≡ true → e.field ≡ f.field → sharing e f ≡ true
share e f a b q = both-i (pointed e) (both (pointed f) (eqb e.field f.field)) a (both-i (pointed f) (eqb e.field f.field) b (eq-eqb e.field f.field q))

shared : (e f : Entry) → sharing e f ≡ true → (pointed e ≡ true) × (pointed f ≡ true) × (e.field ≡ f.field)
shared e f h =
    let r = both_r (pointed e) (both (pointed f) (eqb e.field f.field)) h in
    (both_l (pointed e) (both (pointed f) (eqb e.field f.field)) h, both_l (pointed f) (eqb e.field f.field) r, eqb-true e.field f.field (both_r (pointed f) (eqb e.field f.field) r))

-- Live entries: top, one of a key, and with one more entry.
live-top : (es xs : List Entry) (e : Entry) → Live es xs e → Top es e
live-top es xs e l = chosen-top e.key es e l.first

live-one : (es xs ys : List Entry) (e f : Entry) → Live es xs e → Live es ys f → e.key ≡ f.key → e ≡ f
live-one es xs ys e f l m q = let h = ap (λ (k : ℕ). chosen k es) q in let a = l.first in let b = m.first in cc

live_more : (es xs ys : List Entry) (f : Entry) → Live es xs f → Live es (xs ++ ys) f
live_more es xs ys f l = record { member = mem-l f xs ys l.member; first = l.first; points = l.points }

live-last : (es xs : List Entry) (e f : Entry) → Live es (xs ++ e ∷ []) f → Live es xs f ⊎ (f ≡ e)
live-last es xs e f l = go (mem-cases f xs (e ∷ []) l.member)
  where
    go : Mem f xs ⊎ Mem f (e ∷ []) → Live es xs f ⊎ (f ≡ e)
    go (inl m) = inl (record { member = m; first = l.first; points = l.points })
    go (inr (inl q)) = inr q
    go (inr (inr m)) = absurd m

-- ## No entry

pub marks-start : (es : List Entry) (has : ℕ → Bool) → ((u : ℕ) → has u ≡ false) → Marks es [] has true
marks-start es has z = record {
  marked = λ e l. absurd l.member;
  only = λ u h. absurd (not-both (has u) h (z u));
  alone = λ t e f l m q. absurd l.member;
  clash = λ f. absurd (not-both true refl f);
}

-- ## One more entry

module _ (es xs : List Entry) (e : Entry) (has : ℕ → Bool) (apart : Bool) (inv : Marks es xs has apart) where
  -- one with no block, or not the chosen one of its key
  pub marks-skip : (chosen e.key es ≡ some e → pointed e ≡ true → ⊥) → Marks es (xs ++ e ∷ []) has apart
  marks-skip n = record {
    marked = λ f l. inv.marked f (before f l);
    only = λ u h. let r = inv.only u h in (r.0, live_more es xs (e ∷ []) r.0 r.1, r.2);
    alone = λ t f g l m. inv.alone t f g (before f l) (before g m);
    clash = inv.clash;
  }
    where
      before : (f : Entry) → Live es (xs ++ e ∷ []) f → Live es xs f
      before f l = go (live-last es xs e f l)
        where
          go : Live es xs f ⊎ (f ≡ e) → Live es xs f
          go (inl m) = m
          go (inr q) = absurd (n (rw q at l.first) (rw q at l.points))

  module _ (within : (f : Entry) → Mem f xs → Mem f es) (is-first : chosen e.key es ≡ some e) (points : pointed e ≡ true) where
    inside : (f : Entry) → Live es xs f → Live es es f
    inside f l = record { member = within f l.member; first = l.first; points = l.points }

    last : (zs : List Entry) → Mem e zs → Live es zs e
    last zs m = record { member = m; first = is-first; points = points }

    -- a block that was not marked: it is now
    pub marks-new : (has' : ℕ → Bool) → has e.field ≡ false → has' e.field ≡ true → ((u : ℕ) → (u ≡ e.field → ⊥) → has' u ≡ has u) → Marks es (xs ++ e ∷ []) has' apart
    marks-new has' z own others = record {
      marked = λ f l. by_cases (ℕ_discrete f.field e.field) (λ q. ap has' q ∙ own) (λ n. others f.field n ∙ older f n (live-last es xs e f l));
      only = λ u h. by_cases (ℕ_discrete u e.field) (λ q. (e, last (xs ++ e ∷ []) (mem-r e xs (e ∷ []) (inl refl)), sym q))
          (λ n. let r = inv.only u (sym (others u n) ∙ h) in (r.0, live_more es xs (e ∷ []) r.0 r.1, r.2));
      alone = λ t f g l m q. two t f g q (live-last es xs e f l) (live-last es xs e g m);
      clash = inv.clash;
    }
      where
        older : (f : Entry) → (f.field ≡ e.field → ⊥) → Live es xs f ⊎ (f ≡ e) → has f.field ≡ true
        older f n (inl l) = inv.marked f l
        older f n (inr q) = absurd (n (ap (λ (x : Entry). x.field) q))

        never : (f : Entry) → Live es xs f → f.field ≡ e.field → ⊥
        never f l q = not-both (has e.field) (ap has (sym q) ∙ inv.marked f l) z

        two : apart ≡ true → (f g : Entry) → f.field ≡ g.field → Live es xs f ⊎ (f ≡ e) → Live es xs g ⊎ (g ≡ e) → f.key ≡ g.key
        two t f g q (inl a) (inl b) = inv.alone t f g a b q
        two t f g q (inl a) (inr b) = absurd (never f a (q ∙ ap (λ (x : Entry). x.field) b))
        two t f g q (inr a) (inl b) = absurd (never g b (sym q ∙ ap (λ (x : Entry). x.field) a))
        two t f g q (inr a) (inr b) = ap (λ (x : Entry). x.key) (a ∙ sym b)

    -- a block that was marked: another key's
    pub marks-clash : (Mem e xs → ⊥) → has e.field ≡ true → Marks es (xs ++ e ∷ []) has false
    marks-clash fresh h = record {
      marked = λ f l. older f (live-last es xs e f l);
      only = λ u t. let r = inv.only u t in (r.0, live_more es xs (e ∷ []) r.0 r.1, r.2);
      alone = λ t. absurd (not-both true refl (sym t));
      clash = λ f. found;
    }
      where
        older : (f : Entry) → Live es xs f ⊎ (f ≡ e) → has f.field ≡ true
        older f (inl l) = inv.marked f l
        older f (inr q) = ap (λ (x : Entry). has x.field) q ∙ h

        found : Clash es
        found =
            let r = inv.only e.field h in
            let l = last es (chosen_is e.key es e is-first).in_list in
            record {
              one = r.0;
              other = e;
              one-live = inside r.0 r.1;
              other-live = l;
              block = r.2;
              keys = λ q. fresh (rw (live-one es xs es r.0 e r.1 l q) at r.1.member);
            }

-- ## The end, where the top entries agree: each names the block of the chosen one

field-mem : (e : Entry) (es : List Entry) → Mem e es → Among e.field (map (λ (f : Entry). f.field) es)
field-mem e [] m = absurd m
field-mem e (x ∷ xs) (inl q) = inl (ap (λ (f : Entry). f.field) q)
field-mem e (x ∷ xs) (inr m) = inr (field-mem e xs m)

mem-field : (u : ℕ) (es : List Entry) → Among u (map (λ (f : Entry). f.field) es) → (e : Entry) × Mem e es × (e.field ≡ u)
mem-field u [] m = absurd m
mem-field u (x ∷ xs) (inl q) = (x, inl refl, sym q)
mem-field u (x ∷ xs) (inr m) = let r = mem-field u xs m in (r.0, inr r.1, r.2)

module _ (es : List Entry) (agree : Agree es) (has : ℕ → Bool) (apart : Bool) (inv : Marks es es has apart) where
  -- the chosen entry of a top put
  lead : (e : Entry) → Top es e → pointed e ≡ true → (c : Entry) × Live es es c × (c.key ≡ e.key) × (c.field ≡ e.field)
  lead e t p =
      let c = top-chosen es e t in
      let own : chosen c.0.key es ≡ some c.0 = ap (λ (k : ℕ). chosen k es) c.3 ∙ c.1 in
      let s = tops-same es agree c.0 e (chosen-top e.key es c.0 c.1) t c.3 in
      (c.0, record { member = c.2; first = own; points = ap pointed s ∙ p }, c.3, ap (λ (x : Entry). x.field) s)

  -- no two keys share a block
  pub marks-apart : apart ≡ apart_test es
  marks-apart = go apart refl
    where
      go : (b : Bool) → apart ≡ b → b ≡ apart_test es
      go true t =
          sym (each-top es _ (λ e te. each-top es _ (λ f tf. pick-i (sharing e f) _ (λ s.
          let r = shared e f s in
          let a = lead e te r.0 in
          let b = lead f tf r.1 in
          eq-eqb e.key f.key (sym a.2 ∙ inv.alone t a.0 b.0 a.1 b.1 (a.3 ∙ r.2 ∙ sym b.3) ∙ b.2)))))
      go false t = two (apart_test es) refl
        where
          c : Clash es
          c = inv.clash t

          e : Entry
          e = c.one

          f : Entry
          f = c.other

          inner : Entry → Bool
          inner g = each_top es (λ h. pick (sharing g h) (eqb g.key h.key) true)

          two : (b : Bool) → apart_test es ≡ b → false ≡ b
          two false h = refl
          two true h =
              let a = top-each es inner h e (live-top es es e c.one-live) in
              let b = top-each es (λ h. pick (sharing e h) (eqb e.key h.key) true) a f (live-top es es f c.other-live) in
              let k = pick-e (sharing e f) (eqb e.key f.key) b (share e f c.one-live.points c.other-live.points c.block) in
              absurd (c.keys (eqb-true e.key f.key k))

  -- the marked blocks are the live ones
  pub marks-live : (u : ℕ) → has u ≡ is_in u (live_blocks es)
  marks-live u = go (has u) refl (is_in u (live_blocks es)) refl
    where
      pointers : List Entry
      pointers = filter pointed (filter (is_top es) es)

      go : (a : Bool) → has u ≡ a → (b : Bool) → is_in u (live_blocks es) ≡ b → a ≡ b
      go true h true g = refl
      go false h false g = refl
      go true h false g =
          let r = inv.only u h in
          let l = r.1 in
          let m = filter-mem pointed r.0 (filter (is_top es) es) (filter-mem (is_top es) r.0 es l.member (top-is es r.0 (live-top es es r.0 l))) l.points in
          absurd (not-both (is_in u (live_blocks es)) (mem-is_in u (live_blocks es) (rw r.2 at (field-mem r.0 pointers m))) g)
      go false h true g =
          let r = mem-field u pointers (is_in-mem u (live_blocks es) g) in
          let m = mem-filter pointed r.0 (filter (is_top es) es) r.1 in
          let n = mem-filter (is_top es) r.0 es m.0 in
          let c = lead r.0 (is-top es r.0 n.0 n.1) m.1 in
          absurd (not-both (has u) (ap has (sym (c.3 ∙ r.2)) ∙ inv.marked c.0 c.1) h)
