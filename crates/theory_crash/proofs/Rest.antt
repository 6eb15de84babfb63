-- The medium at rest: under a power cut, and under actions that spare the support.
-- Assumes nothing.
use mathlib.Core.Path.{◌≡◌, refl, sym, ◌∙◌, ap, ap₂, subst}
use mathlib.Core.Logic.{◌⊎◌, inl, inr}
use mathlib.Core.Bool.{Bool, true, false}
use mathlib.Core.List.{List, [], ◌∷◌}
use Prim.Native.Nat.{ℕ, suc, ◌≤◌, ◌<◌}
use native.Mathlib.Omega.{arith}
use native.Mathlib.Decide.{ℕ_discrete}
use lib.Dec.{eqb}
use lib.ListN.{length, get_or, set, length-set}
use lib.Seq.{get_or-set_same, get_or-set_other}
use Rattle.spec.specs.Basics.{pick}
use Rattle.spec.specs.Places.{base, line_of, directory_word, max_chunks}
use Rattle.spec.specs.Medium.{Cell, fresh, values, marked, Action, Store, Flush, Fence, step, Medium, apply_from, apply, latest, cell_at, Mem as Among, CanCutTo, settled_at}
use Rattle.spec.specs.Directory.{lines_of}
use Rattle.spec.specs.Log.{Entry}
use Rattle.spec.specs.Contents.{Held, contents_by, meaning}
use Rattle.theory_base.proofs.Words as W
use Rattle.theory_base.proofs.Through.{Quiet, quiet_step, quiet-fresh}
use Rattle.theory_log.proofs.Directory.{lines-is}
use Rattle.theory_crash.specs.Accepted.{Calm, Ok, Support, Framed}
use Rattle.theory_crash.specs.Rest.{AtRest, Holds, Stays, Cuts, CutsTo, Leaves}
use Rattle.theory_crash.proofs.Frame.{directory-in, support-in, lines_same, frame-ok, frame-contents, frame-support}

-- a cut, from its words
pub can-from : (m : Medium) (xs : List ℕ) → length xs ≡ length m → ((k : ℕ) → k < length m → Among (get_or xs k 0) (values (cell_at m k))) → CanCutTo m xs
can-from [] [] e h = tt
can-from [] (x ∷ xs) e h = absurd (omega arith)
can-from (c ∷ cs) [] e h = absurd (omega arith)
can-from (c ∷ cs) (x ∷ xs) e h = (h 0 (omega arith), can-from cs xs (omega arith) (λ k l. h (suc k) (omega arith)))

-- what the processor reads, with one word as it might be
pub can-set : (m : Medium) (k x : ℕ) → Among x (values (cell_at m k)) → CanCutTo m (set (latest m) k x)
can-set m k x t = can-from m (set (latest m) k x) (length-set (latest m) k x ∙ W.length-latest m) (λ j l. go j l (ℕ_discrete j k))
  where
    go : (j : ℕ) → j < length m → Dec (j ≡ k) → Among (get_or (set (latest m) k x) j 0) (values (cell_at m j))
    go j l (yes e) =
        let within : k < length (latest m) = omega (arith, W.length-latest m) in
        let same : get_or (set (latest m) k x) j 0 ≡ x = ap (λ (i : ℕ). get_or (set (latest m) k x) i 0) e ∙ get_or-set_same (latest m) k x 0 within in
        subst (λ (w : ℕ). Among w (values (cell_at m j))) (sym same) (subst (λ (i : ℕ). Among x (values (cell_at m i))) (sym e) t)
    go j l (no e) = rw (get_or-set_other (latest m) k j x 0 e) (inl (W.get_or-latest m j))

pub can-latest : (m : Medium) → CanCutTo m (latest m)
can-latest m = can-from m (latest m) (W.length-latest m) (λ k l. inl (W.get_or-latest m k))

-- a flush or a fence only takes possibilities away
pub quiet-can : (a : Action) (m : Medium) (xs : List ℕ) → Quiet a → CanCutTo (apply a m) xs → CanCutTo m xs
quiet-can a m xs q t = can-from m xs (W.can-length (apply a m) xs t ∙ W.length-apply a m) (λ k l.
    quiet_step a k (cell_at m k) (get_or xs k 0) q (rw (W.cell-apply a m k l) at (W.can-at (apply a m) xs t k (rw W.length-apply l))))

-- and leaves what the processor reads
pick-now : (b : Bool) (c : Cell) → (pick b (marked c) c).now ≡ c.now
pick-now true c = refl
pick-now false c = refl

pub now-quiet : (a : Action) (k : ℕ) (c : Cell) → Quiet a → (step a k c).now ≡ c.now
now-quiet (Store a v) k c q = absurd q
now-quiet (Flush l) k c q = pick-now (eqb (line_of k) l) c
now-quiet Fence k c q = refl

latest-quiet_from : (a : Action) (i : ℕ) (m : Medium) → Quiet a → latest (apply_from a i m) ≡ latest m
latest-quiet_from a i [] q = refl
latest-quiet_from a i (c ∷ cs) q = ap₂ (λ (x : ℕ) (l : List ℕ). x ∷ l) (now-quiet a i c q) (latest-quiet_from a (suc i) cs q)

pub latest-quiet : (a : Action) (m : Medium) → Quiet a → latest (apply a m) ≡ latest m
latest-quiet a m q = latest-quiet_from a 0 m q

-- a settled word has one value
pub only : (x v : ℕ) → Among x (values (fresh v)) → x ≡ v
only x v (inl e) = e
only x v (inr z) = absurd z

pub cuts-quiet : (p n keys : ℕ) (C D : ℕ → Held) (a : Action) (m : Medium) → Quiet a → Cuts p n keys C D m → Cuts p n keys C D (apply a m)
cuts-quiet p n keys C D a m q h xs t = h xs (quiet-can a m xs q t)

module _ (p : ℕ) (lo : 12 ≤ p) (hi : p ≤ 16) where
  module _ (n : ℕ) (ws : List ℕ) (es : List Entry) (m : Medium) (r : AtRest p n ws es m) where
    pub rest-length : length m ≡ length ws
    rest-length = sym (W.length-latest m) ∙ ap length r.now

    pub rest-long : length m ≡ base p n
    rest-long = rest-length ∙ r.ok.long

    pub rest-now : (k : ℕ) → (cell_at m k).now ≡ get_or ws k 0
    rest-now k = sym (W.get_or-latest m k) ∙ ap (λ (l : List ℕ). get_or l k 0) r.now

    pub in-medium : (k : ℕ) → Support p n ws es k → k < length m
    in-medium k s = rw rest-length (support-in p lo hi n ws es r.ok k s)

    pub word-in-medium : (c : ℕ) → c < max_chunks → directory_word c < length m
    word-in-medium c l = rw rest-length (directory-in p lo hi n ws es r.ok c l)

    -- A cut.
    pub rest-framed : (xs : List ℕ) → CanCutTo m xs → Framed p n ws es xs
    rest-framed xs t = record {
      long = W.can-length m xs t ∙ rest-length;
      same = λ k s. W.can-fresh m xs t k (get_or ws k 0) (in-medium k s) (r.settled k s);
      calm = λ c l z. r.calm c l z (get_or xs (directory_word c) 0) (W.can-at m xs t (directory_word c) (word-in-medium c l));
    }

    -- EVERY CUT of a medium at rest is accepted, with the same entries and contents
    pub rest-cut : (xs : List ℕ) → CanCutTo m xs → Ok p n xs es × ((k : ℕ) → contents_by (meaning xs) es k ≡ contents_by (meaning ws) es k)
    rest-cut xs t = (frame-ok p lo hi n ws es xs r.ok (rest-framed xs t), frame-contents p lo hi n ws es xs r.ok (rest-framed xs t))

    pub rest-to : (Q : List Entry → Type 0) → Q es → CutsTo p n Q m
    rest-to Q q xs t = (es, ((rest-cut xs t).0, q))

    -- FLUSHES AND FENCES keep it.
    pub rest-quiet : (a : Action) → Quiet a → AtRest p n ws es (apply a m)
    rest-quiet a q = record {
      ok = r.ok;
      now = latest-quiet a m q ∙ r.now;
      settled = λ k s. quiet-fresh a m k (get_or ws k 0) q (in-medium k s) (r.settled k s);
      calm = λ c l z x t. r.calm c l z x (quiet_step a (directory_word c) (cell_at m (directory_word c)) x q (rw (W.cell-apply a m (directory_word c) (word-in-medium c l)) at t));
    }

    -- A STORE OUTSIDE THE SUPPORT keeps it, if in the directory it says free or data.
    module _ (a v : ℕ) (inside : a < length m) (out : Support p n ws es a → ⊥) (says : (c : ℕ) → c < max_chunks → a ≡ directory_word c → Calm p n c v) where
      pub store-framed : Framed p n ws es (set ws a v)
      store-framed = record {
        long = length-set ws a v;
        same = λ k s. get_or-set_other ws a k v 0 (λ e. out (rw e at s));
        calm = λ c l z. calm' c l z (ℕ_discrete (directory_word c) a);
      }
        where
          calm' : (c : ℕ) → c < max_chunks → lines_of p ws c ≡ 0 → Dec (directory_word c ≡ a) → Calm p n c (get_or (set ws a v) (directory_word c) 0)
          calm' c l z (yes e) = rw (e, get_or-set_same ws a v 0 (rw (← rest-length) inside)) (says c l (sym e))
          calm' c l z (no e) = rw (get_or-set_other ws a (directory_word c) v 0 e) (r.ok.dirs c l, sym (lines-is p ws c) ∙ z)

      pub rest-store : AtRest p n (set ws a v) es (apply (Store a v) m)
      rest-store = record {
        ok = frame-ok p lo hi n ws es (set ws a v) r.ok store-framed;
        now = W.latest-store a v m ∙ ap (λ (l : List ℕ). set l a v) r.now;
        settled = λ k s.
            let s' = frame-support p lo hi n ws es (set ws a v) r.ok store-framed k s in
            W.keeps-store a v m k (in-medium k s') (λ e. out (rw e at s')) ∙ r.settled k s' ∙ ap fresh (sym (store-framed.same k s'));
        calm = λ c l z x t. calm' c l (sym (lines_same p lo hi n ws es (set ws a v) r.ok store-framed c l) ∙ z) x (rw (W.cell-apply (Store a v) m (directory_word c) (word-in-medium c l)) at t) (ℕ_discrete (directory_word c) a);
      }
        where
          calm' : (c : ℕ) → c < max_chunks → lines_of p ws c ≡ 0 → (x : ℕ) → Among x (values (step (Store a v) (directory_word c) (cell_at m (directory_word c)))) → Dec (directory_word c ≡ a) → Calm p n c x
          calm' c l z x t (yes e) = two (rw (W.step-store-same a v (directory_word c) (cell_at m (directory_word c)) e) at t)
            where
              two : (x ≡ v) ⊎ Among x (values (cell_at m (directory_word c))) → Calm p n c x
              two (inl q) = rw q (says c l (sym e))
              two (inr q) = r.calm c l z x q
          calm' c l z x t (no e) = r.calm c l z x (rw (W.step-store-other a v (directory_word c) (cell_at m (directory_word c)) e) at t)

      pub store-contents : (k : ℕ) → contents_by (meaning (set ws a v)) es k ≡ contents_by (meaning ws) es k
      store-contents k = frame-contents p lo hi n ws es (set ws a v) r.ok store-framed k

  -- By contents alone: what stays at rest is cut to its contents, old or new.
  module _ (n keys : ℕ) (C D : ℕ → Held) (m : Medium) where
    pub stays-cut : Stays p n keys C m → (xs : List ℕ) → CanCutTo m xs → Holds p n keys C xs
    stays-cut (ws, es, r, f, h) xs t = let c = rest-cut n ws es m r xs t in (es, c.0, f, λ k. c.1 k ∙ h k)

    pub stays-left : Stays p n keys C m → Leaves p n keys C m
    stays-left s = (latest m, can-latest m, stays-cut s (latest m) (can-latest m))

    pub stays-old : Stays p n keys C m → Cuts p n keys C D m
    stays-old s xs t = inl (stays-cut s xs t)

  pub stays-new : (n keys : ℕ) (C D : ℕ → Held) (m : Medium) → Stays p n keys D m → Cuts p n keys C D m
  stays-new n keys C D m s xs t = inr (stays-cut n keys D C m s xs t)

-- AFTER A CUT, or on any accepted image with nothing unfenced, the medium is at rest.
pub settled-rest : (p n : ℕ) (ws : List ℕ) (es : List Entry) → Ok p n ws es → AtRest p n ws es (settled_at ws)
settled-rest p n ws es ok = record {
  ok = ok;
  now = W.latest-settled ws;
  settled = λ k s. W.cell-settled ws k;
  calm = λ c l z x t. let e = only x (get_or ws (directory_word c) 0) (rw (W.cell-settled ws (directory_word c)) at t) in rw e (ok.dirs c l, sym (lines-is p ws c) ∙ z);
}
