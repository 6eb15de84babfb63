-- The live blocks with one more entry, above all others of its key, in a block of its own or in none.
-- Assumes nothing.
use Rattle.std.proofs.Common.{◌≡◌, ℕ, ◌<◌, ◌≤◌, Bool, true, false, eqb, ◌⊎◌, List, [], ◌∷◌, ◌++◌, sym, refl, ap, ◌∙◌, inl, inr, arith, eq-eqb}
use Rattle.spec.specs.Basics.{both, either, negate, is_in}
use Rattle.spec.specs.Log.{Entry}
use Rattle.spec.specs.Blocks.{pointed}
use Rattle.spec.specs.Contents.{highest, live_blocks}
use Rattle.theory_base.proofs.Lists.{not-both, both-i}
use Rattle.theory_log.specs.Contents.{Mem, Top, Agree}
use Rattle.theory_log.proofs.Contents.{below-highest, mem-r}
use Rattle.session.specs.Fits.{BlocksApart}
use Rattle.volatile.specs.Blocks.{points, top_block}
use Rattle.volatile.proofs.Live.{mem-between, mem-around, Holder, holder, live-holder, holder-live, own-holder, holder-own}

module _ (xs ys : List Entry) (e : Entry) (above : highest e.key (xs ++ ys) < e.version)
    (dead : (f : Entry) → Top (xs ++ ys) f → pointed e ≡ true → pointed f ≡ true → e.field ≡ f.field → ⊥) where
  -- the entry is on top, and the other tops are those of the other keys
  e-top : Top (xs ++ e ∷ ys) e
  e-top = (mem-r e xs (e ∷ ys) (inl refl), λ g m q. go g q (mem-between g xs (e ∷ []) ys m))
    where
      go : (g : Entry) → g.key ≡ e.key → Mem g (e ∷ []) ⊎ Mem g (xs ++ ys) → g.version ≤ e.version
      go g q (inl (inl r)) = let v = ap (λ (y : Entry). y.version) r in omega arith
      go g q (inl (inr m)) = absurd m
      go g q (inr m) = let b = below-highest e.key (xs ++ ys) g m q in omega arith

  pub which : (f : Entry) → Top (xs ++ e ∷ ys) f → (f ≡ e) ⊎ ((f.key ≡ e.key → ⊥) × Top (xs ++ ys) f)
  which f t = go (mem-between f xs (e ∷ []) ys t.0)
    where
      go : Mem f (e ∷ []) ⊎ Mem f (xs ++ ys) → (f ≡ e) ⊎ ((f.key ≡ e.key → ⊥) × Top (xs ++ ys) f)
      go (inl (inl q)) = inl q
      go (inl (inr m)) = absurd m
      go (inr m) = inr (
        (λ q. let a = t.1 e (mem-r e xs (e ∷ ys) (inl refl)) (sym q) in let b = below-highest e.key (xs ++ ys) f m q in omega arith),
        (m, λ g n. t.1 g (mem-around g xs (e ∷ []) ys n)),
      )

  still : (f : Entry) → (f.key ≡ e.key → ⊥) → Top (xs ++ ys) f → Top (xs ++ e ∷ ys) f
  still f n t = (mem-around f xs (e ∷ []) ys t.0, λ g m q. go g q (mem-between g xs (e ∷ []) ys m))
    where
      go : (g : Entry) → g.key ≡ f.key → Mem g (e ∷ []) ⊎ Mem g (xs ++ ys) → g.version ≤ f.version
      go g q (inl (inl r)) = absurd (n (sym q ∙ ap (λ (y : Entry). y.key) r))
      go g q (inl (inr m)) = absurd m
      go g q (inr m) = t.1 g m q

  pub apart-joined : BlocksApart (xs ++ ys) → BlocksApart (xs ++ e ∷ ys)
  apart-joined apart f g s t p q u = go (which f s) (which g t)
    where
      go : (f ≡ e) ⊎ ((f.key ≡ e.key → ⊥) × Top (xs ++ ys) f) → (g ≡ e) ⊎ ((g.key ≡ e.key → ⊥) × Top (xs ++ ys) g) → f.key ≡ g.key
      go (inl a) (inl b) = ap (λ (y : Entry). y.key) (a ∙ sym b)
      go (inl a) (inr b) = absurd (dead g b.1 (sym (ap pointed a) ∙ p) q (sym (ap (λ (y : Entry). y.field) a) ∙ u))
      go (inr a) (inl b) = absurd (dead f a.1 (sym (ap pointed b) ∙ q) p (sym (ap (λ (y : Entry). y.field) b) ∙ sym u))
      go (inr a) (inr b) = apart f g a.1 b.1 p q u

  -- the live blocks: the entry's own, and those before, but for the one of the key's top entries
  pub live-joined : Agree (xs ++ ys) → BlocksApart (xs ++ ys) → (u : ℕ)
      → is_in u (live_blocks (xs ++ e ∷ ys)) ≡ either (points u e) (both (is_in u (live_blocks (xs ++ ys))) (negate (top_block e.key (xs ++ ys) u)))
  live-joined agree apart u = own (points u e) refl
    where
      before : points u e ≡ false → is_in u (live_blocks (xs ++ e ∷ ys)) ≡ true → (h : Holder (xs ++ ys) u) × (h.entry.key ≡ e.key → ⊥)
      before no_own l = pass (live-holder (xs ++ e ∷ ys) u l)
        where
          pass : Holder (xs ++ e ∷ ys) u → (h : Holder (xs ++ ys) u) × (h.entry.key ≡ e.key → ⊥)
          pass h = two (which h.entry h.top)
            where
              two : (h.entry ≡ e) ⊎ ((h.entry.key ≡ e.key → ⊥) × Top (xs ++ ys) h.entry) → (g : Holder (xs ++ ys) u) × (g.entry.key ≡ e.key → ⊥)
              two (inl q) =
                  absurd (not-both (points u e) (both-i (pointed e) (eqb e.field u) (sym (ap pointed q) ∙ h.puts) (eq-eqb e.field u (sym (ap (λ (y : Entry). y.field) q) ∙ h.unit))) no_own)
              two (inr o) = (record { entry = h.entry; top = o.1; puts = h.puts; unit = h.unit }, o.0)

      after : (h : Holder (xs ++ ys) u) → (h.entry.key ≡ e.key → ⊥) → is_in u (live_blocks (xs ++ e ∷ ys)) ≡ true
      after h n = holder-live (xs ++ e ∷ ys) u (record { entry = h.entry; top = still h.entry n h.top; puts = h.puts; unit = h.unit })

      go : points u e ≡ false → (a : Bool) → is_in u (live_blocks (xs ++ e ∷ ys)) ≡ a → (b : Bool) → is_in u (live_blocks (xs ++ ys)) ≡ b → (o : Bool) → top_block e.key (xs ++ ys) u ≡ o → a ≡ both b (negate o)
      go w true p true q false r = refl
      go w false p false q o r = refl
      go w false p true q true r = refl
      go w true p false q o r = absurd (not-both (is_in u (live_blocks (xs ++ ys))) (holder-live (xs ++ ys) u (before w p).0) q)
      go w true p true q true r =
          let h = before w p in
          let g = own-holder e.key (xs ++ ys) u r in
          absurd (h.1 (apart h.0.entry g.0.entry h.0.top g.0.top h.0.puts g.0.puts (h.0.unit ∙ sym g.0.unit) ∙ g.1))
      go w false p true q false r =
          let h = live-holder (xs ++ ys) u q in
          absurd (not-both (is_in u (live_blocks (xs ++ e ∷ ys))) (after h (λ k. not-both (top_block e.key (xs ++ ys) u) (holder-own e.key (xs ++ ys) u agree h k) r)) p)

      own : (t : Bool) → points u e ≡ t → is_in u (live_blocks (xs ++ e ∷ ys)) ≡ either t (both (is_in u (live_blocks (xs ++ ys))) (negate (top_block e.key (xs ++ ys) u)))
      own true q = holder-live (xs ++ e ∷ ys) u (holder (xs ++ e ∷ ys) u e e-top q)
      own false q = go q (is_in u (live_blocks (xs ++ e ∷ ys))) refl (is_in u (live_blocks (xs ++ ys))) refl (top_block e.key (xs ++ ys) u) refl
