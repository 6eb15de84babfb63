-- The last staged item of a key, where versions count on: it is the chosen entry of staged and committed ones, and
-- without one the committed ones decide.
-- Assumes nothing.
use mathlib.Core.Path.{◌≡◌, refl, sym, ◌∙◌, ap}
use mathlib.Core.Bool.{Bool, true, false}
use mathlib.Core.Option.{Option, none, some}
use Rattle.std.specs.Prelude.{Some, None}
use Rattle.std.specs.declared.option as O
use mathlib.Core.List.{List, [], ◌∷◌, ◌++◌, append-nil}
use Prim.Native.Nat.{ℕ, suc}
use native.Mathlib.Omega.{arith}
use lib.Dec.{eqb}
use lib.Seq.{append_snoc}
use borrow.Author.Tests.{eqb-true}
use Rattle.spec.specs.Basics.{pick, either, is_some, is_in}
use Rattle.spec.specs.Log.{Entry}
use Rattle.spec.specs.Contents.{highest, chosen}
use Rattle.spec.specs.Plans.{is_put, present}
use Rattle.theory_base.proofs.Lists.{not-both}
use Rattle.theory_log.specs.Contents.{CountsOn}
use Rattle.theory_log.specs.Fold.{fold_e}
use Rattle.theory_log.proofs.Contents.{better, best, version_of, chosen-best, highest-best, better-none, best-append, best-above, counts_same, highest-insert}
use Rattle.session.specs.Fits.{key_list}
use Rattle.batch.specs.declared.Latest.{Latest}
use Rattle.batch.specs.Items.{pass, latest_of}

-- the last item of a key, q where there is none
abbrev pub last_of : ℕ → Option Entry → List Entry → Option Entry
last_of k q [] = q
last_of k q (e ∷ items) = last_of k (pick (eqb e.key k) (some e) q) items

abbrev pub latest_by : Option Entry → O.Option.Option Latest
latest_by none = None
latest_by (some e) = Some (record { op = e.op; version = e.version })

abbrev or_last : Option Entry → Option Entry → Option Entry
or_last none q = q
or_last (some e) q = some e

fold-last : (k : ℕ) (q : Option Entry) (items : List Entry) → fold_e (pass k) (latest_by q) items ≡ latest_by (last_of k q items)
fold-last k q [] = refl
fold-last k q (e ∷ items) = ap (λ (l : O.Option.Option Latest). fold_e (pass k) l items) (go (eqb e.key k)) ∙ fold-last k (pick (eqb e.key k) (some e) q) items
  where
    go : (t : Bool) → pick t (Some (record { op = e.op; version = e.version })) (latest_by q) ≡ latest_by (pick t (some e) q)
    go true = refl
    go false = refl

pub latest-last : (k : ℕ) (items : List Entry) → latest_of k items ≡ latest_by (last_of k none items)
unfolding latest_of
latest-last k items = fold-last k none items

last_or : (k : ℕ) (q : Option Entry) (items : List Entry) → last_of k q items ≡ or_last (last_of k none items) q
last_or k q [] = refl
last_or k q (e ∷ items) = go (eqb e.key k) (last_or k q items) (last_or k (some e) items)
  where
    again : (p : Option Entry) → or_last p (some e) ≡ or_last (or_last p (some e)) q
    again none = refl
    again (some f) = refl

    go : (t : Bool) → last_of k q items ≡ or_last (last_of k none items) q → last_of k (some e) items ≡ or_last (last_of k none items) (some e)
        → last_of k (pick t (some e) q) items ≡ or_last (last_of k (pick t (some e) none) items) q
    go true g h = h ∙ again (last_of k none items) ∙ ap (λ (p : Option Entry). or_last p q) (sym h)
    go false g h = g

-- there is one exactly if the key is among the items
last-among : (k : ℕ) (items : List Entry) → is_some (last_of k none items) ≡ is_in k (key_list items)
last-among k [] = refl
last-among k (e ∷ items) = go (eqb e.key k) (last-among k items)
  where
    some_of : (p : Option Entry) → is_some (or_last p (some e)) ≡ true
    some_of none = refl
    some_of (some f) = refl

    go : (t : Bool) → is_some (last_of k none items) ≡ is_in k (key_list items) → is_some (last_of k (pick t (some e) none) items) ≡ either t (is_in k (key_list items))
    go true h = ap is_some (last_or k (some e) items) ∙ some_of (last_of k none items)
    go false h = h

-- one more entry, whose version counts on
one_more : (k : ℕ) (es : List Entry) (e : Entry) → e.version ≡ suc (highest e.key es) → best k (es ++ (e ∷ [])) ≡ pick (eqb e.key k) (some e) (best k es)
one_more k es e v = best-append k es (e ∷ []) ∙ go (eqb e.key k) (eqb-true e.key k)
  where
    go : (t : Bool) → (t ≡ true → e.key ≡ k) → better (best k es) (better (pick t (some e) none) none) ≡ pick t (some e) (best k es)
    go true h =
        let q : e.version ≡ suc (highest k es) = v ∙ ap (λ (j : ℕ). suc (highest j es)) (h refl) in
        best-above (best k es) none e (rw (highest-best k es) (omega arith)) (omega arith)
    go false h = better-none (best k es)

pub counts-front : (es : List Entry) (e : Entry) (items : List Entry) → CountsOn (e ∷ es) items → CountsOn (es ++ (e ∷ [])) items
counts-front es e items c = counts_same (e ∷ es) (es ++ (e ∷ [])) items (λ j. ap (λ (l : List Entry). highest j (e ∷ l)) (sym (append-nil es)) ∙ highest-insert j es [] e) c

best-last : (k : ℕ) (items es : List Entry) → CountsOn es items → best k (es ++ items) ≡ last_of k (best k es) items
best-last k [] es c = rw append-nil
best-last k (e ∷ items) es c =
    let rec = best-last k items (es ++ (e ∷ [])) (counts-front es e items c.1) in
    (rw append_snoc at rec) ∙ ap (λ (q : Option Entry). last_of k q items) (one_more k es e c.0)

-- WHAT THE LAST STAGED ITEM SAYS, if there is one: the version is that of staged and committed entries; else those
-- committed decide.
pub record KeyStaged (k : ℕ) (es items : List Entry) : Type 0 where
  pub latest : Latest
  pub is : latest_of k items ≡ Some latest
  pub among : is_in k (key_list items) ≡ true
  pub version : latest.version ≡ highest k (es ++ items)
  pub put : eqb latest.op 1 ≡ present k es items

pub record KeyUnstaged (k : ℕ) (es items : List Entry) : Type 0 where
  pub is : latest_of k items ≡ None
  pub among : is_in k (key_list items) ≡ false
  pub version : highest k (es ++ items) ≡ highest k es
  pub same : chosen k (es ++ items) ≡ chosen k es

module _ (k : ℕ) (es items : List Entry) (c : CountsOn es items) where
  chosen-or : chosen k (es ++ items) ≡ or_last (last_of k none items) (chosen k es)
  chosen-or =
      chosen-best k (es ++ items) ∙ best-last k items es c ∙ last_or k (best k es) items ∙ ap (or_last (last_of k none items)) (sym (chosen-best k es))

  highest-or : highest k (es ++ items) ≡ version_of (or_last (last_of k none items) (best k es))
  highest-or = sym (highest-best k (es ++ items)) ∙ ap version_of (best-last k items es c ∙ last_or k (best k es) items)

  staged : (e : Entry) → last_of k none items ≡ some e → KeyStaged k es items
  staged e h =
      record {
        latest = record { op = e.op; version = e.version };
        is = latest-last k items ∙ ap latest_by h;
        among = sym (last-among k items) ∙ ap is_some h;
        version = sym (highest-or ∙ rw h);
        put = sym (ap is_put (chosen-or ∙ ap (λ (q : Option Entry). or_last q (chosen k es)) h));
      }

  unstaged : last_of k none items ≡ none → KeyUnstaged k es items
  unstaged h =
      record {
        is = latest-last k items ∙ ap latest_by h;
        among = sym (last-among k items) ∙ ap is_some h;
        version = highest-or ∙ rw h (highest-best k es);
        same = chosen-or ∙ rw h;
      }

  -- by what the pass finds
  pub key-staged : (l : Latest) → latest_of k items ≡ Some l → KeyStaged k es items
  key-staged l is = go (last_of k none items) refl
    where
      go : (q : Option Entry) → last_of k none items ≡ q → KeyStaged k es items
      go none h = absurd (let z : None ≡ Some l = sym (latest-last k items ∙ ap latest_by h) ∙ is in let y : ◌≡◌ {A = ℕ} 0 1 = cc in omega arith)
      go (some e) h = staged e h

  pub key-unstaged : latest_of k items ≡ None → KeyUnstaged k es items
  key-unstaged is = go (last_of k none items) refl
    where
      go : (q : Option Entry) → last_of k none items ≡ q → KeyUnstaged k es items
      go none h = unstaged h
      go (some e) h = absurd (let z = sym (latest-last k items ∙ ap latest_by h) ∙ is in let y : ◌≡◌ {A = ℕ} 0 1 = cc in omega arith)

  -- the same by whether the key is among the items
  pub among-staged : is_in k (key_list items) ≡ true → KeyStaged k es items
  among-staged m = go (last_of k none items) refl
    where
      go : (q : Option Entry) → last_of k none items ≡ q → KeyStaged k es items
      go none h = absurd (not-both (is_in k (key_list items)) m (sym (last-among k items) ∙ ap is_some h))
      go (some e) h = staged e h

  pub among-unstaged : is_in k (key_list items) ≡ false → KeyUnstaged k es items
  among-unstaged m = go (last_of k none items) refl
    where
      go : (q : Option Entry) → last_of k none items ≡ q → KeyUnstaged k es items
      go none h = unstaged h
      go (some e) h = absurd (not-both (is_in k (key_list items)) (sym (last-among k items) ∙ ap is_some h) m)
