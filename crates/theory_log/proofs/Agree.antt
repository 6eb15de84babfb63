-- Agreement of top entries: what the test says, and that it still holds after a batch and after cleaning; publishing
-- copies keeps the contents.
-- Assumes nothing.
use mathlib.Core.Path.{◌≡◌, refl, sym, ◌∙◌, ap, ap₂}
use mathlib.Core.Bool.{true}
use mathlib.Core.Logic.{◌⊎◌, inl, inr}
use mathlib.Core.Option.{Option, none, some}
use mathlib.Core.List.{List, [], ◌∷◌, ◌++◌}
use Prim.Native.Nat.{ℕ, ◌≤◌, ◌<◌}
use native.Mathlib.Omega.{arith}
use native.Mathlib.Decide.{ℕ_discrete}
use lib.Dec.{eqb}
use lib.Seq.{append_snoc}
use borrow.Author.Tests.{eqb-true, eq-eqb, ne_eqb}
use Rattle.spec.specs.Basics.{same_list}
use Rattle.spec.specs.declared.FirstWord.TheVariants as F
use Rattle.spec.specs.Log.{Entry, first_of_word, head_of, encode, moved, placed}
use Rattle.spec.specs.Contents.{highest, Held, chosen, contents_by, agree}
use Rattle.theory_base.proofs.Lists.{both_l, both_r, both-i}
use Rattle.spec.specs.Opening.{agree_with, agree_test}
use Rattle.theory_log.specs.Batch.{Right, AllRight}
use Rattle.theory_log.specs.Contents.{CountsOn, Mem, Top, Same, Agree}
use Rattle.theory_log.proofs.Contents.{chosen-best, best-append, counts_same, highest-insert, mem-l, mem-r, mem-cases, below-highest, Chosen, chosen_is, none_of, same_key, same_version, contents-same}
use Rattle.theory_log.proofs.Batch.{first-right}
use Rattle.theory_log.proofs.Places.{right-in}
use Rattle.theory_log.proofs.Tops.{twin-top, top-chosen, top-each, each-top}
use Rattle.theory_log.proofs.Clean.{mem-placed}

-- Equal lists.
list_same : (xs ys : List ℕ) → same_list xs ys ≡ true → xs ≡ ys
list_same [] [] h = refl
list_same [] (y ∷ ys) h = absurd (let z : ◌≡◌ {A = ℕ} 0 1 = cc in omega arith)
list_same (x ∷ xs) [] h = absurd (let z : ◌≡◌ {A = ℕ} 0 1 = cc in omega arith)
list_same (x ∷ xs) (y ∷ ys) h = ap₂ (λ (a : ℕ) (l : List ℕ). a ∷ l) (eqb-true x y (both_l (eqb x y) (same_list xs ys) h)) (list_same xs ys (both_r (eqb x y) (same_list xs ys) h))

list-refl : (xs : List ℕ) → same_list xs xs ≡ true
list-refl [] = refl
list-refl (x ∷ xs) = both-i (eqb x x) (same_list xs xs) (eq-eqb x x refl) (list-refl xs)

-- The test of two entries, by their words, and the claim are one: a first word has one meaning.
pub same-agrees : (e f : Entry) → Same e f → agree e f ≡ true
same-agrees e f s = ap (λ (x : Entry). same_list (encode x) (encode f)) s ∙ list-refl (encode f)

pub agrees-same : (e f : Entry) → Right e → Right f → agree e f ≡ true → Same e f
agrees-same e f re rf h =
    let w : encode e ≡ encode f = list_same (encode e) (encode f) h in
    let head : head_of e ≡ head_of f = cc in
    let key : e.key ≡ f.key = cc in
    let value : e.value ≡ f.value = cc in
    let p = first-right e.op e.placement e.version e.field re.kind re.low re.high in
    let q = first-right f.op f.placement f.version f.field rf.kind rf.low rf.high in
    let first : F.Entry e.op e.placement e.version e.field ≡ F.Entry f.op f.placement f.version f.field = sym p ∙ ap first_of_word head ∙ q in
    let op : e.op ≡ f.op = cc in
    let placement : e.placement ≡ f.placement = cc in
    let version : e.version ≡ f.version = cc in
    let field : e.field ≡ f.field = cc in
    λ i. record { op = op i; placement = placement i; version = version i; field = field i; key = key i; value = value i; at = 0 }

-- 6: agreement, of entries that are right.
pub agree-test : (es : List Entry) → Agree es → agree_test es ≡ true
agree-test es a = each-top es (λ e. agree_with e (chosen e.key es)) one
  where
    one : (e : Entry) → Top es e → agree_with e (chosen e.key es) ≡ true
    one e t = let f = top-chosen es e t in rw f.1 (same-agrees e f.0 (a e.key f.0 e f.1 t.0 refl (sym f.4)))

pub test-agree : (es : List Entry) → AllRight es → agree_test es ≡ true → Agree es
test-agree es r h k e f c m q v =
    let t = twin-top k es e f c m q v in
    let s = top-each es (λ g. agree_with g (chosen g.key es)) h f t in
    let o : chosen f.key es ≡ some e = ap (λ (j : ℕ). chosen j es) q ∙ c in
    agrees-same f e (right-in es f r m) (right-in es e r (chosen_is k es e c).in_list) (rw o at s)

-- where every entry is the same as an old one, and the new list has an entry that the old one chose, or none of its key
pub agree_same : (old new : List Entry) → Agree old → ((f : Entry) → Mem f new → (e : Entry) × Mem e old × Same f e)
    → ((k : ℕ) (e : Entry) → chosen k old ≡ some e → ((f : Entry) × Mem f new × Same f e) ⊎ ((f : Entry) → Mem f new → f.key ≡ k → ⊥)) → Agree new
agree_same old new agreeing from to k g f h m fk fv = go (chosen k old) refl
  where
    c : Chosen k new g
    c = chosen_is k new g h

    from-g : (e : Entry) × Mem e old × Same g e
    from-g = from g c.in_list

    from-f : (e : Entry) × Mem e old × Same f e
    from-f = from f m

    top : (e : Entry) → chosen k old ≡ some e → ((f : Entry) × Mem f new × Same f e) ⊎ ((f : Entry) → Mem f new → f.key ≡ k → ⊥) → Same f g
    top e q (inr r) = absurd (r f m fk)
    top e q (inl r) =
        let d = chosen_is k old e q in
        let rv = same_version r.0 e r.2 in
        let up : r.0.version ≤ g.version = c.above r.0 r.1 (same_key r.0 e r.2 ∙ d.of-key) in
        let gk : from-g.0.key ≡ k = sym (same_key g from-g.0 from-g.2) ∙ c.of-key in
        let gv = same_version g from-g.0 from-g.2 in
        let gd : from-g.0.version ≤ e.version = d.above from-g.0 from-g.1 gk in
        let kk : from-f.0.key ≡ k = sym (same_key f from-f.0 from-f.2) ∙ fk in
        let kv = same_version f from-f.0 from-f.2 in
        let a = agreeing k e from-g.0 q from-g.1 gk (omega arith) in
        let b = agreeing k e from-f.0 q from-f.1 kk (omega arith) in
        from-f.2 ∙ b ∙ sym a ∙ sym from-g.2

    go : (q : Option Entry) → chosen k old ≡ q → Same f g
    go none q = absurd (none_of k old from-f.0 q from-f.1 (sym (same_key f from-f.0 from-f.2) ∙ fk))
    go (some e) q = top e q (to k e q)

-- copies of any entries of the list, put anywhere, change nothing
module _ (xs ys copies : List Entry) (at : ℕ) (agreeing : Agree (xs ++ ys)) (are : (e : Entry) → Mem e copies → Mem e (xs ++ ys)) where
  from : (f : Entry) → Mem f (xs ++ (placed at copies ++ ys)) → (e : Entry) × Mem e (xs ++ ys) × Same f e
  from f m = go (mem-cases f xs (placed at copies ++ ys) m)
    where
      two : Mem f (placed at copies) ⊎ Mem f ys → (e : Entry) × Mem e (xs ++ ys) × Same f e
      two (inl n) = let r = mem-placed f at copies n in (r.0, are r.0 r.1, ap (moved 0) r.3)
      two (inr n) = (f, mem-r f xs ys n, refl)

      go : Mem f xs ⊎ Mem f (placed at copies ++ ys) → (e : Entry) × Mem e (xs ++ ys) × Same f e
      go (inl n) = (f, mem-l f xs ys n, refl)
      go (inr n) = two (mem-cases f (placed at copies) ys n)

  still : (e : Entry) → Mem e (xs ++ ys) → Mem e (xs ++ (placed at copies ++ ys))
  still e m = go (mem-cases e xs ys m)
    where
      go : Mem e xs ⊎ Mem e ys → Mem e (xs ++ (placed at copies ++ ys))
      go (inl n) = mem-l e xs (placed at copies ++ ys) n
      go (inr n) = mem-r e xs (placed at copies ++ ys) (mem-r e (placed at copies) ys n)

  to : (k : ℕ) (e : Entry) → chosen k (xs ++ ys) ≡ some e → (f : Entry) × Mem f (xs ++ (placed at copies ++ ys)) × Same f e
  to k e h = (e, still e (chosen_is k (xs ++ ys) e h).in_list, refl)

  pub contents-publish : (mean : Entry → Held) → ((a : ℕ) (e : Entry) → mean (moved a e) ≡ mean e) → (k : ℕ) → contents_by mean (xs ++ (placed at copies ++ ys)) k ≡ contents_by mean (xs ++ ys) k
  contents-publish mean free k = contents-same mean free (xs ++ ys) (xs ++ (placed at copies ++ ys)) agreeing from (λ j e h. inl (to j e h)) k

  pub agree-publish : Agree (xs ++ (placed at copies ++ ys))
  agree-publish = agree_same (xs ++ ys) (xs ++ (placed at copies ++ ys)) agreeing from (λ k e h. inl (to k e h))

-- one more entry that counts on
mem-insert : (f e : Entry) (xs ys : List Entry) → Mem f (xs ++ e ∷ ys) → (f ≡ e) ⊎ Mem f (xs ++ ys)
mem-insert f e xs ys m = go (mem-cases f xs (e ∷ ys) m)
  where
    go : Mem f xs ⊎ Mem f (e ∷ ys) → (f ≡ e) ⊎ Mem f (xs ++ ys)
    go (inl n) = inr (mem-l f xs ys n)
    go (inr (inl q)) = inl q
    go (inr (inr n)) = inr (mem-r f xs ys n)

pub agree-one : (xs ys : List Entry) (e : Entry) → highest e.key (xs ++ ys) < e.version → Agree (xs ++ ys) → Agree (xs ++ e ∷ ys)
agree-one xs ys e v agreeing k g f h m fk fv = go (ℕ_discrete e.key k)
  where
    c : Chosen k (xs ++ e ∷ ys) g
    c = chosen_is k (xs ++ e ∷ ys) g h

    -- of two entries of e's key and one version, that version being e's at least, both are e
    is-e : (y : Entry) → e.key ≡ k → y.key ≡ k → e.version ≤ y.version → (y ≡ e) ⊎ Mem y (xs ++ ys) → y ≡ e
    is-e y ek yk l (inl q) = q
    is-e y ek yk l (inr n) =
        let b = below-highest k (xs ++ ys) y n yk in
        let w : highest k (xs ++ ys) < e.version = rw ek at v in
        absurd (omega arith)

    other : (e.key ≡ k → ⊥) → (y : Entry) → y.key ≡ k → (y ≡ e) ⊎ Mem y (xs ++ ys) → Mem y (xs ++ ys)
    other ne y yk (inl q) = absurd (ne (sym (ap (λ (z : Entry). z.key) q) ∙ yk))
    other ne y yk (inr n) = n

    go : Dec (e.key ≡ k) → Same f g
    go (yes ek) =
        let l : e.version ≤ g.version = c.above e (mem-r e xs (e ∷ ys) (inl refl)) ek in
        let ge = is-e g ek c.of-key l (mem-insert g e xs ys c.in_list) in
        let fe = is-e f ek fk (omega arith) (mem-insert f e xs ys m) in
        ap (moved 0) (fe ∙ sym ge)
    go (no ne) = agreeing k g f (same-choice ∙ h) (other ne f fk (mem-insert f e xs ys m)) fk fv
      where
        same-choice : chosen k (xs ++ ys) ≡ chosen k (xs ++ e ∷ ys)
        same-choice = rw (chosen-best k (xs ++ ys), chosen-best k (xs ++ e ∷ ys), best-append k xs ys, best-append k xs (e ∷ ys), ne_eqb e.key k ne)

pub agree-batch : (batch xs ys : List Entry) → CountsOn (xs ++ ys) batch → Agree (xs ++ ys) → Agree (xs ++ (batch ++ ys))
agree-batch [] xs ys c a = a
agree-batch (e ∷ batch) xs ys c a =
    let more : CountsOn ((xs ++ e ∷ []) ++ ys) batch = counts_same (e ∷ (xs ++ ys)) ((xs ++ e ∷ []) ++ ys) batch (λ j. rw append_snoc (highest-insert j xs ys e)) c.1 in
    let b : Agree ((xs ++ e ∷ []) ++ ys) = rw append_snoc (agree-one xs ys e (let v = c.0 in omega arith) a) in
    let r : Agree ((xs ++ e ∷ []) ++ (batch ++ ys)) = agree-batch batch (xs ++ e ∷ []) ys more b in
    rw (append_snoc xs e (batch ++ ys)) at r
