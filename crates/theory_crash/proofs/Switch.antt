-- Switching: one directory word is stored, flushed and fenced, all else that the new image needs being settled before.
-- Assumes nothing.
use mathlib.Core.Path.{◌≡◌, refl, sym, ◌∙◌, ap}
use mathlib.Core.Logic.{◌⊎◌, inl, inr}
use mathlib.Core.List.{List}
use Prim.Native.Nat.{ℕ, ◌≤◌, ◌<◌}
use native.Mathlib.Omega.{arith}
use native.Mathlib.Decide.{ℕ_discrete}
use lib.ListN.{length, get_or, set}
use lib.Seq.{get_or-set_same}
use Rattle.spec.specs.Places.{line_of, directory_word, max_chunks}
use Rattle.spec.specs.Medium.{fresh, values, added, marked, drained, Action, Store, Flush, Fence, Medium, apply, latest, cell_at, Mem as Among, CanCutTo}
use Rattle.spec.specs.Directory.{lines_of}
use Rattle.spec.specs.Log.{Entry}
use Rattle.spec.specs.Contents.{Held, contents_by, meaning, keys_of}
use Rattle.spec.specs.Actions.{seal_of}
use Rattle.theory_base.proofs.Words as W
use Rattle.theory_base.proofs.Through.{Through, Quiet, quiet_step, quiet-fresh}
use Rattle.theory_log.proofs.Directory.{lines-is}
use Rattle.theory_crash.specs.Accepted.{Calm, Ok, Support, Framed}
use Rattle.theory_crash.specs.Rest.{AtRest, Ready, Allowed, Switching, Holds, Cuts, CutsTo, Leaves}
use Rattle.theory_crash.proofs.Frame.{directory-in, support-in, frame-ok, frame-contents}
use Rattle.theory_crash.proofs.Rest.{latest-quiet, can-set, only, rest-length, rest-now, rest-to, stays-old, stays-left}

module _ (p : ℕ) (lo : 12 ≤ p) (hi : p ≤ 16) (n d : ℕ) where
  -- One image that is settled but for the word of chunk d.
  module _ (vs : List ℕ) (gs : List Entry) (ok : Ok p n vs gs) where
    word_in : (m : Medium) → Ready p n d vs gs m → (c : ℕ) → c < max_chunks → directory_word c < length m
    word_in m r c l = rw r.long (directory-in p lo hi n vs gs ok c l)

    here_in : (m : Medium) → Ready p n d vs gs m → (k : ℕ) → Support p n vs gs k → k < length m
    here_in m r k s = rw r.long (support-in p lo hi n vs gs ok k s)

    own-allowed : d < max_chunks → Allowed p n d vs gs (get_or vs (directory_word d) 0)
    own-allowed l = ((λ s. refl), λ z. (ok.dirs d l, sym (lines-is p vs d) ∙ z))

    -- a cut with a word that belongs to it
    ready-framed : (m : Medium) → Ready p n d vs gs m → (xs : List ℕ) → CanCutTo m xs → Allowed p n d vs gs (get_or xs (directory_word d) 0) → Framed p n vs gs xs
    ready-framed m r xs t e = record {
      long = W.can-length m xs t ∙ r.long;
      same = λ k s. same' k s (ℕ_discrete k (directory_word d));
      calm = λ c l z. calm' c l z (ℕ_discrete c d);
    }
      where
        same' : (k : ℕ) → Support p n vs gs k → Dec (k ≡ directory_word d) → get_or xs k 0 ≡ get_or vs k 0
        same' k s (yes q) = rw q (e.0 (rw q at s))
        same' k s (no q) = W.can-fresh m xs t k (get_or vs k 0) (here_in m r k s) (r.settled k s q)

        calm' : (c : ℕ) → c < max_chunks → lines_of p vs c ≡ 0 → Dec (c ≡ d) → Calm p n c (get_or xs (directory_word c) 0)
        calm' c l z (yes q) = rw q (e.1 (rw q at z))
        calm' c l z (no q) = r.calm c l q z (get_or xs (directory_word c) 0) (W.can-at m xs t (directory_word c) (word_in m r c l))

    pub ready-store : (m : Medium) (w : ℕ) → Ready p n d vs gs m → Ready p n d vs gs (apply (Store (directory_word d) w) m)
    ready-store m w r = record {
      long = W.length-apply (Store (directory_word d) w) m ∙ r.long;
      settled = λ k s q. W.keeps-store (directory_word d) w m k (here_in m r k s) q ∙ r.settled k s q;
      calm = λ c l q z x t. r.calm c l q z x (rw (W.keeps-store (directory_word d) w m (directory_word c) (word_in m r c l) (λ e. q (omega arith))) at t);
    }

    pub ready-quiet : (m : Medium) (a : Action) → Quiet a → Ready p n d vs gs m → Ready p n d vs gs (apply a m)
    ready-quiet m a q r = record {
      long = W.length-apply a m ∙ r.long;
      settled = λ k s e. quiet-fresh a m k (get_or vs k 0) q (here_in m r k s) (r.settled k s e);
      calm = λ c l e z x t. r.calm c l e z x (quiet_step a (directory_word c) (cell_at m (directory_word c)) x q (rw (W.cell-apply a m (directory_word c) (word_in m r c l)) at t));
    }

    rest-ready : (m : Medium) → AtRest p n vs gs m → Ready p n d vs gs m
    rest-ready m r = record { long = rest-length p lo hi n vs gs m r; settled = λ k s q. r.settled k s; calm = λ c l q z x t. r.calm c l z x t }

    rest-allowed : d < max_chunks → (m : Medium) → AtRest p n vs gs m → (x : ℕ) → Among x (values (cell_at m (directory_word d))) → Allowed p n d vs gs x
    rest-allowed l m r x t = ((λ s. only x (get_or vs (directory_word d) 0) (rw (r.settled (directory_word d) s) at t)), λ z. r.calm d l z x t)

    ready-rest : (m : Medium) → d < max_chunks → Ready p n d vs gs m → latest m ≡ vs → cell_at m (directory_word d) ≡ fresh (get_or vs (directory_word d) 0) → AtRest p n vs gs m
    ready-rest m l r now e = record {
      ok = ok;
      now = now;
      settled = λ k s. settled' k s (ℕ_discrete k (directory_word d));
      calm = λ c u z x t. calm' c u z x t (ℕ_discrete c d);
    }
      where
        settled' : (k : ℕ) → Support p n vs gs k → Dec (k ≡ directory_word d) → cell_at m k ≡ fresh (get_or vs k 0)
        settled' k s (yes q) = rw q e
        settled' k s (no q) = r.settled k s q

        calm' : (c : ℕ) → c < max_chunks → lines_of p vs c ≡ 0 → (x : ℕ) → Among x (values (cell_at m (directory_word c))) → Dec (c ≡ d) → Calm p n c x
        calm' c u z x t (no q) = r.calm c u q z x t
        calm' c u z x t (yes q) =
            let h : x ≡ get_or vs (directory_word d) 0 = only x (get_or vs (directory_word d) 0) (rw (q, e) at t) in
            rw (q, h) ((own-allowed l).1 (rw q at z))

  -- Two images.
  module _ (ws : List ℕ) (es : List Entry) (vs : List ℕ) (gs : List Entry) (d-in : d < max_chunks) where
    -- the store begins the switch
    pub rest-switches : (m : Medium) (w : ℕ) → AtRest p n ws es m → Ok p n vs gs → Ready p n d vs gs m → get_or vs (directory_word d) 0 ≡ w → Switching p n d ws es vs gs (apply (Store (directory_word d) w) m)
    rest-switches m w r ok ready e = record {
      old_ok = r.ok;
      new_ok = ok;
      old-ready = ready-store ws es r.ok m w (rest-ready ws es r.ok m r);
      new-ready = ready-store vs gs ok m w ready;
      word = λ x t. two x (rw (W.cell-apply (Store (directory_word d) w) m (directory_word d) (word_in vs gs ok m ready d d-in), W.step-store-same (directory_word d) w (directory_word d) (cell_at m (directory_word d)) refl) at t);
    }
      where
        two : (x : ℕ) → (x ≡ w) ⊎ Among x (values (cell_at m (directory_word d))) → Allowed p n d ws es x ⊎ Allowed p n d vs gs x
        two x (inl q) = inr (rw (q, ← e) (own-allowed vs gs ok d-in))
        two x (inr q) = inl (rest-allowed ws es r.ok d-in m r x q)

    -- flushes and fences keep it
    pub switching-quiet : (m : Medium) (a : Action) → Quiet a → Switching p n d ws es vs gs m → Switching p n d ws es vs gs (apply a m)
    switching-quiet m a q s = record {
      old_ok = s.old_ok;
      new_ok = s.new_ok;
      old-ready = ready-quiet ws es s.old_ok m a q s.old-ready;
      new-ready = ready-quiet vs gs s.new_ok m a q s.new-ready;
      word = λ x t. s.word x (quiet_step a (directory_word d) (cell_at m (directory_word d)) x q (rw (W.cell-apply a m (directory_word d) (word_in vs gs s.new_ok m s.new-ready d d-in)) at t));
    }

    -- a cut says what one of the two says
    pub switching-cut : (m : Medium) → Switching p n d ws es vs gs m → (xs : List ℕ) → CanCutTo m xs → Framed p n ws es xs ⊎ Framed p n vs gs xs
    switching-cut m s xs t = go (s.word (get_or xs (directory_word d) 0) (W.can-at m xs t (directory_word d) (word_in vs gs s.new_ok m s.new-ready d d-in)))
      where
        go : Allowed p n d ws es (get_or xs (directory_word d) 0) ⊎ Allowed p n d vs gs (get_or xs (directory_word d) 0) → Framed p n ws es xs ⊎ Framed p n vs gs xs
        go (inl a) = inl (ready-framed ws es s.old_ok m s.old-ready xs t a)
        go (inr a) = inr (ready-framed vs gs s.new_ok m s.new-ready xs t a)

    -- flushed and fenced, it has ended
    pub switching-rests : (m : Medium) → Switching p n d ws es vs gs m → latest m ≡ vs → cell_at m (directory_word d) ≡ fresh (get_or vs (directory_word d) 0) → AtRest p n vs gs m
    switching-rests m s now e = ready-rest vs gs s.new_ok m d-in s.new-ready now e

    -- THE SWITCH, for whatever holds of the image before and while it is under way
    pub switch_by : (B : Medium → Type 0) → ((m : Medium) → AtRest p n ws es m → B m) → ((m : Medium) → Switching p n d ws es vs gs m → B m)
        → (w : ℕ) (m : Medium) → AtRest p n ws es m → Ok p n vs gs → Ready p n d vs gs m → vs ≡ set ws (directory_word d) w → Through B (AtRest p n vs gs) (seal_of d w) m
    switch_by B rests switches w m rest ok ready e = (rests m rest, (switches m1 s1, (switches m2 s2, switching-rests m3 s3 now cell)))
      where
        fl : Action
        fl = Flush (line_of (directory_word d))

        m1 : Medium
        m1 = apply (Store (directory_word d) w) m

        m2 : Medium
        m2 = apply fl m1

        m3 : Medium
        m3 = apply Fence m2

        in-m : directory_word d < length m
        in-m = word_in vs gs ok m ready d d-in

        word : get_or vs (directory_word d) 0 ≡ w
        word = rw e (get_or-set_same ws (directory_word d) w 0 (directory-in p lo hi n ws es rest.ok d d-in))

        s1 : Switching p n d ws es vs gs m1
        s1 = rest-switches m w rest ok ready word

        s2 : Switching p n d ws es vs gs m2
        s2 = switching-quiet m1 fl tt s1

        s3 : Switching p n d ws es vs gs m3
        s3 = switching-quiet m2 Fence tt s2

        now : latest m3 ≡ vs
        now = latest-quiet Fence m2 tt ∙ latest-quiet fl m1 tt ∙ W.latest-store (directory_word d) w m ∙ ap (λ (l : List ℕ). set l (directory_word d) w) rest.now ∙ sym e

        cell1 : cell_at m1 (directory_word d) ≡ added w (cell_at m (directory_word d))
        cell1 = W.cell-apply (Store (directory_word d) w) m (directory_word d) in-m ∙ W.step-store-same (directory_word d) w (directory_word d) (cell_at m (directory_word d)) refl

        cell : cell_at m3 (directory_word d) ≡ fresh (get_or vs (directory_word d) 0)
        cell =
            W.cell-apply Fence m2 (directory_word d) (rw (W.length-apply, W.length-apply) in-m)
            ∙ ap drained (W.cell-apply fl m1 (directory_word d) (rw W.length-apply in-m) ∙ W.step-flush-hit (line_of (directory_word d)) (directory_word d) (cell_at m1 (directory_word d)) refl ∙ ap marked cell1)
            ∙ ap fresh (sym word)

    -- by entries alone: a cut finds the old ones or the new ones
    pub switch-to : (Q : List Entry → Type 0) → Q es → Q gs → (w : ℕ) (m : Medium) → AtRest p n ws es m → Ok p n vs gs → Ready p n d vs gs m → vs ≡ set ws (directory_word d) w
        → Through (CutsTo p n Q) (AtRest p n vs gs) (seal_of d w) m
    switch-to Q a b = switch_by (CutsTo p n Q) (λ m r. rest-to p lo hi n ws es m r Q a) (λ m s xs t. go m s xs (switching-cut m s xs t))
      where
        go : (m : Medium) → Switching p n d ws es vs gs m → (xs : List ℕ) → Framed p n ws es xs ⊎ Framed p n vs gs xs → (fs : List Entry) × (Ok p n xs fs × Q fs)
        go m s xs (inl f) = (es, (frame-ok p lo hi n ws es xs s.old_ok f, a))
        go m s xs (inr f) = (gs, (frame-ok p lo hi n vs gs xs s.new_ok f, b))

    module _ (keys : ℕ) (C D : ℕ → Held) (few : length (keys_of es) ≤ keys) (few' : length (keys_of gs) ≤ keys)
        (old : (k : ℕ) → contents_by (meaning ws) es k ≡ C k) (new : (k : ℕ) → contents_by (meaning vs) gs k ≡ D k) where
      pub switching-cuts : (m : Medium) → Switching p n d ws es vs gs m → Cuts p n keys C D m
      switching-cuts m s xs t = go (switching-cut m s xs t)
        where
          go : Framed p n ws es xs ⊎ Framed p n vs gs xs → Holds p n keys C xs ⊎ Holds p n keys D xs
          go (inl f) = inl (es, frame-ok p lo hi n ws es xs s.old_ok f, few, λ k. frame-contents p lo hi n ws es xs s.old_ok f k ∙ old k)
          go (inr f) = inr (gs, frame-ok p lo hi n vs gs xs s.new_ok f, few', λ k. frame-contents p lo hi n vs gs xs s.new_ok f k ∙ new k)

      -- a cut with a word that belongs to the old one leaves the old contents
      pub switching-left : (m : Medium) (x : ℕ) → Switching p n d ws es vs gs m → Among x (values (cell_at m (directory_word d))) → Allowed p n d ws es x → Leaves p n keys C m
      switching-left m x s t a =
          let xs : List ℕ = set (latest m) (directory_word d) x in
          let c : CanCutTo m xs = can-set m (directory_word d) x t in
          let l : directory_word d < length m = word_in ws es s.old_ok m s.old-ready d d-in in
          let e : get_or xs (directory_word d) 0 ≡ x = get_or-set_same (latest m) (directory_word d) x 0 (rw (W.length-latest m) l) in
          let f : Framed p n ws es xs = ready-framed ws es s.old_ok m s.old-ready xs c (rw e a) in
          (xs, c, (es, frame-ok p lo hi n ws es xs s.old_ok f, few, λ k. frame-contents p lo hi n ws es xs s.old_ok f k ∙ old k))

      -- until the fence some cut leaves the old contents
      pub switch-left : (w : ℕ) (m : Medium) → AtRest p n ws es m → Ok p n vs gs → Ready p n d vs gs m → vs ≡ set ws (directory_word d) w
          → Through (Leaves p n keys C) (λ m'. Unit {0}) (seal_of d w) m
      switch-left w m rest ok ready e = (
        stays-left p lo hi n keys C D m (ws, es, rest, few, old),
        (
          switching-left m1 x s1 (rw cell1 (inr (inl now))) own,
          (switching-left m2 x (switching-quiet m1 fl tt s1) (rw cell2 (inr (inl now))) own, tt),
        ),
      )
        where
          fl : Action
          fl = Flush (line_of (directory_word d))

          m1 : Medium
          m1 = apply (Store (directory_word d) w) m

          m2 : Medium
          m2 = apply fl m1

          x : ℕ
          x = get_or ws (directory_word d) 0

          in-m : directory_word d < length m
          in-m = word_in vs gs ok m ready d d-in

          s1 : Switching p n d ws es vs gs m1
          s1 = rest-switches m w rest ok ready (rw e (get_or-set_same ws (directory_word d) w 0 (directory-in p lo hi n ws es rest.ok d d-in)))

          own : Allowed p n d ws es x
          own = own-allowed ws es rest.ok d-in

          now : x ≡ (cell_at m (directory_word d)).now
          now = sym (rest-now p lo hi n ws es m rest (directory_word d))

          cell1 : cell_at m1 (directory_word d) ≡ added w (cell_at m (directory_word d))
          cell1 = W.cell-apply (Store (directory_word d) w) m (directory_word d) in-m ∙ W.step-store-same (directory_word d) w (directory_word d) (cell_at m (directory_word d)) refl

          cell2 : cell_at m2 (directory_word d) ≡ marked (added w (cell_at m (directory_word d)))
          cell2 = W.cell-apply fl m1 (directory_word d) (rw W.length-apply in-m) ∙ W.step-flush-hit (line_of (directory_word d)) (directory_word d) (cell_at m1 (directory_word d)) refl ∙ ap marked cell1

      -- THE SWITCH, whole
      pub switch : (w : ℕ) (m : Medium) → AtRest p n ws es m → Ok p n vs gs → Ready p n d vs gs m → vs ≡ set ws (directory_word d) w → Through (Cuts p n keys C D) (AtRest p n vs gs) (seal_of d w) m
      switch = switch_by (Cuts p n keys C D) (λ m r. stays-old p lo hi n keys C D m (ws, es, r, few, old)) switching-cuts
