-- Freeing a chunk: a log chunk that the others cover, or a data chunk with no live block.
-- Assumes nothing.
use mathlib.Core.Path.{◌≡◌, refl, sym, ◌∙◌, ap}
use mathlib.Core.Logic.{◌⊎◌, inl, inr}
use mathlib.Core.Bool.{true, false}
use mathlib.Core.Option.{Option, none, some}
use mathlib.Core.List.{List, [], ◌++◌}
use Prim.Native.Nat.{ℕ, suc, ◌+◌, ◌-◌, ◌*◌, ◌≤◌, ◌<◌}
use native.Mathlib.Omega.{arith}
use native.Mathlib.Decide.{ℕ_discrete}
use lib.Dec.{eqb}
use lib.ListN.{length, get_or, set, length-set}
use lib.Seq.{slice_empty, get_or-set_same, get_or-set_other}
use Rattle.spec.specs.Places.{base, unit_chunk, unit_word, line_of, directory_word, max_chunks}
use Rattle.spec.specs.Medium.{fresh, Store, Flush, Fence, Medium, apply, run, latest}
use Rattle.spec.specs.Directory.{role_of, lines_in, size_in, directory_right, lines_of, size_of, freed_word}
use Rattle.spec.specs.Log.{Entry, Entries, parse, entries_of, chunk_entries, all_from, image_entries}
use Rattle.spec.specs.Blocks.{pointed}
use Rattle.spec.specs.Contents.{Held, Absent, chosen, contents_by, meaning, keys_of}
use Rattle.spec.specs.Opening.{fine}
use Rattle.spec.specs.Actions.{free_of}
use Rattle.theory_log.specs.Contents.{Mem, Same, Top}
use Rattle.theory_base.proofs.Through.{Through, through-map}
use Rattle.theory_base.proofs.Places.{past-directory}
use Rattle.theory_log.proofs.Parse.{prepend-entries}
use Rattle.theory_log.proofs.Image.{all_split, all-agree}
use Rattle.theory_log.proofs.Contents.{mem-l, mem-r, mem-cases, chosen_is, none_of, contents-same}
use Rattle.theory_log.proofs.Agree.{agree_same}
use Rattle.theory_log.proofs.Tops.{chosen-top, contents-mean, meaning-moved, meaning-delete}
use Rattle.theory_log.proofs.Directory.{lines-is, size_is}
use Rattle.theory_log.proofs.Kept.{Parts}
use Rattle.theory_crash.specs.Accepted.{Calm, Ok, Support}
use Rattle.theory_crash.specs.Rest.{AtRest, Ready, Flushed, Rests, Cuts, CutsTo}
use Rattle.theory_crash.specs.Clean.{Covers}
use Rattle.theory_crash.proofs.Directory.{freed-word, header-agree, power-agree}
use Rattle.theory_crash.proofs.Blocks.{needs-first, needs-move, fits_in, needs-only}
use Rattle.theory_crash.proofs.Frame.{live-fits, directory-in}
use Rattle.theory_crash.proofs.Rest.{rest-length, rest-long, word-in-medium, rest-quiet, rest-store, rest-to, store-contents, stays-old}
use Rattle.theory_crash.proofs.Switch.{switch, switch-to}
use Rattle.theory_crash.proofs.Cells.{seal-spares, flushed-after}
use Rattle.theory_crash.proofs.Publish.{slice_set, not-mine}
use Rattle.theory_crash.proofs.Commit.{keys_from}

module _ (p : ℕ) (lo : 12 ≤ p) (hi : p ≤ 16) (n d old : ℕ) (ws : List ℕ) (es : List Entry) (ok : Ok p n ws es) (low : 1 ≤ d) (high : d < n) where
  abbrev pub freed : List ℕ
  freed = set ws (directory_word d) (freed_word old)

  d-in : d < max_chunks
  d-in = let m = ok.most in omega arith

  other_word : (k : ℕ) → (k ≡ directory_word d → ⊥) → get_or freed k 0 ≡ get_or ws k 0
  other_word k h = get_or-set_other ws (directory_word d) k (freed_word old) 0 h

  this-word : get_or freed (directory_word d) 0 ≡ freed_word old
  this-word = get_or-set_same ws (directory_word d) (freed_word old) 0 (directory-in p lo hi n ws es ok d d-in)

  pub lines-this : lines_of p freed d ≡ 0
  lines-this = lines-is p freed d ∙ ap (λ (w : ℕ). lines_in (role_of p w)) this-word ∙ (freed-word p n d old low high).0.1

  no_size : size_of p freed d ≡ 0
  no_size = size_is p freed d ∙ ap (λ (w : ℕ). size_in (role_of p w)) this-word ∙ (freed-word p n d old low high).1

  lines_other : (c : ℕ) → (c ≡ d → ⊥) → lines_of p freed c ≡ lines_of p ws c
  lines_other c h = lines-is p freed c ∙ ap (λ (w : ℕ). lines_in (role_of p w)) (other_word (directory_word c) (λ e. h (omega arith))) ∙ sym (lines-is p ws c)

  freed-flushed : (m : Medium) → AtRest p n ws es m → Flushed p n m → latest (run (free_of d old) m) ≡ freed → Flushed p n (run (free_of d old) m)
  freed-flushed m r f now =
      flushed-after p lo hi n d (free_of d old) m ok.least ok.most (rest-long p lo hi n ws es m r) (seal-spares d (freed_word old)) f
      (λ h. absurd (let q : 1 ≤ size_of p freed d = rw now at h in let z = no_size in omega arith))

  -- A log chunk: its entries leave the list.
  module _ (no-data : size_of p ws d ≡ 0) (xs chunk ys : List Entry) (parts : Parts p lo hi n d ws es xs chunk ys) (cov : Covers es (xs ++ ys)) where
    abbrev gs : List Entry
    gs = xs ++ ys

    chunk-other : (c : ℕ) → 1 ≤ c → (c ≡ d → ⊥) → chunk_entries p freed c ≡ chunk_entries p ws c
    chunk-other c a h =
        let f = past-directory p lo hi c (base p c) a (omega arith) in
        let g = d-in in
        ap (entries_of freed (base p c)) (lines_other c h) ∙ ap (λ (y : List ℕ). parse y 0 (base p c)) (slice_set (base p c) (base p c + 8 * lines_of p ws c) (directory_word d) (freed_word old) ws (omega arith))

    chunk-this : chunk_entries p freed d ≡ Entries []
    chunk-this = let a : base p d + 8 * 0 ≡ base p d = omega arith in rw (lines-this, a, slice_empty (base p d) freed)

    parsed : image_entries p n freed ≡ Entries gs
    parsed =
        let before : all_from p (d - 1) 1 freed ≡ all_from p (d - 1) 1 ws = all-agree p (d - 1) 1 ws freed (λ c a b. chunk-other c a (λ e. omega arith)) in
        let behind : all_from p (n - 1 - d) (suc d) freed ≡ all_from p (n - 1 - d) (suc d) ws = all-agree p (n - 1 - d) (suc d) ws freed (λ c a b. chunk-other c (omega arith) (λ e. omega arith)) in
        all_split p (d - 1) (n - 1 - d) 1 (n - 1) d freed (omega arith) (omega arith) ∙ rw (before, parts.before, chunk-this, behind, parts.behind, prepend-entries xs ys)

    was : (f : Entry) → Mem f gs → Mem f es
    was f m = rw parts.whole (go (mem-cases f xs ys m))
      where
        go : Mem f xs ⊎ Mem f ys → Mem f (xs ++ (chunk ++ ys))
        go (inl a) = mem-l f xs (chunk ++ ys) a
        go (inr a) = mem-r f xs (chunk ++ ys) (mem-r f chunk ys a)

    -- what is top among the rest was top before
    top-was : (e : Entry) → Top gs e → Top es e
    top-was e (m, above) = go (chosen e.key es) refl
      where
        go : (q : Option Entry) → chosen e.key es ≡ q → Top es e
        go none h = absurd (none_of e.key es e h (was e m) refl)
        go (some c) h = two (cov c (chosen-top e.key es c h))
          where
            k : c.key ≡ e.key
            k = (chosen_is e.key es c h).of-key

            two : ((f : Entry) × Mem f gs × (f.key ≡ c.key) × (f.version ≡ c.version)) ⊎ ((eqb c.op 1 ≡ false) × ((f : Entry) → Mem f gs → f.key ≡ c.key → ⊥)) → Top es e
            two (inl (f, mf, fk, fv)) = (was e m, λ g mg gk. let a = above f mf (fk ∙ k) in let b = (chosen_is e.key es c h).above g mg gk in omega arith)
            two (inr (a, gone)) = absurd (gone e m (sym k))

    from : (f : Entry) → Mem f gs → (e : Entry) × Mem e es × Same f e
    from f m = (f, was f m, refl)

    to : (k : ℕ) (e : Entry) → chosen k es ≡ some e → ((f : Entry) × Mem f gs × Same f e) ⊎ ((meaning ws e ≡ Absent) × ((f : Entry) → Mem f gs → f.key ≡ k → ⊥))
    to k e h = go (cov e (chosen-top k es e h))
      where
        kk : e.key ≡ k
        kk = (chosen_is k es e h).of-key

        go : ((f : Entry) × Mem f gs × (f.key ≡ e.key) × (f.version ≡ e.version)) ⊎ ((eqb e.op 1 ≡ false) × ((f : Entry) → Mem f gs → f.key ≡ e.key → ⊥))
            → ((f : Entry) × Mem f gs × Same f e) ⊎ ((meaning ws e ≡ Absent) × ((f : Entry) → Mem f gs → f.key ≡ k → ⊥))
        go (inl (f, mf, fk, fv)) = inl (f, mf, ok.agree k e f h (was f mf) (fk ∙ kk) fv)
        go (inr (a, gone)) = inr (meaning-delete ws e a, λ f mf fk. gone f mf (fk ∙ sym kk))

    fine-same : (e : Entry) → Top es e → (fine p n freed e ≡ true) × (meaning freed e ≡ meaning ws e)
    fine-same e t =
        needs-only p lo hi n ws freed e ok.long (length-set ws (directory_word d) (freed_word old))
        (λ k s. other_word k (not-mine p lo hi n d ws es ok low high no-data e (ok.blocks e t) k s).0) (ok.blocks e t)

    pub free-ok : Ok p n freed gs
    free-ok = record {
      least = ok.least;
      most = ok.most;
      long = length-set ws (directory_word d) (freed_word old) ∙ ok.long;
      header = header-agree n ws freed (λ k h. other_word k (λ e. omega arith)) ∙ ok.header;
      power = power-agree ws freed (λ k h. other_word k (λ e. omega arith)) ∙ ok.power;
      dirs = λ c h. dirs' c h (ℕ_discrete c d);
      parsed = parsed;
      blocks = λ e t. (fine-same e (top-was e t)).0;
      agree = agree_same es gs ok.agree from (λ k e h. elim (to k e h) [ inl a ↦ inl a | inr b ↦ inr b.1 ]);
      apart = λ e f te tf. ok.apart e f (top-was e te) (top-was f tf);
    }
      where
        dirs' : (c : ℕ) → c < max_chunks → Dec (c ≡ d) → directory_right p n c (get_or freed (directory_word c) 0) ≡ true
        dirs' c h (yes e) = rw (e, this-word) (freed-word p n d old low high).0.0
        dirs' c h (no e) = rw (other_word (directory_word c) (λ q. e (omega arith))) (ok.dirs c h)

    pub free-contents : (k : ℕ) → contents_by (meaning freed) gs k ≡ contents_by (meaning ws) es k
    free-contents k = contents-mean (meaning ws) (meaning freed) gs (λ e t. (fine-same e (top-was e t)).1) k ∙ contents-same (meaning ws) (meaning-moved ws) es gs ok.agree from to k

    support-was : (k : ℕ) → (k ≡ directory_word d → ⊥) → Support p n freed gs k → Support p n ws es k
    support-was k q (inl s) = inl s
    support-was k q (inr (inl (c, a, h, y, e))) = inr (inl (c, a, h, (rw (lines_other c (λ r. q (e ∙ ap directory_word r))) at y), e))
    support-was k q (inr (inr (inl (c, a, h, x, u)))) = go (ℕ_discrete c d)
      where
        go : Dec (c ≡ d) → Support p n ws es k
        go (yes e) = absurd (let z : lines_of p freed c ≡ 0 = ap (lines_of p freed) e ∙ lines-this in omega arith)
        go (no e) = inr (inr (inl (c, a, h, x, (rw (lines_other c e) at u))))
    support-was k q (inr (inr (inr (e, t, need)))) =
        let t' = top-was e t in
        let w = other_word (unit_word e.field) (not-mine p lo hi n d ws es ok low high no-data e (ok.blocks e t') (unit_word e.field) (needs-first p ws e need.0)).0 in
        inr (inr (inr (e, t', needs-move p ws freed e k w need)))

    ready : (m : Medium) → AtRest p n ws es m → Ready p n d freed gs m
    ready m r = record {
      long = rest-length p lo hi n ws es m r ∙ sym (length-set ws (directory_word d) (freed_word old));
      settled = λ k s q. r.settled k (support-was k q s) ∙ ap fresh (sym (other_word k q));
      calm = λ c l q z x t. r.calm c l (sym (lines_other c q) ∙ z) x t;
    }

    -- by entries: a cut finds those before, or those of the other chunks
    pub free-to : (Q : List Entry → Type 0) → Q es → Q gs → (m : Medium) → AtRest p n ws es m → Through (CutsTo p n Q) (CutsTo p n Q) (free_of d old) m
    free-to Q a b m r =
        through-map (CutsTo p n Q) (CutsTo p n Q) (AtRest p n freed gs) (CutsTo p n Q) (free_of d old) m (λ m' t. t) (λ t. rest-to p lo hi n freed gs (run (free_of d old) m) t Q b)
        (switch-to p lo hi n d ws es freed gs d-in Q a b (freed_word old) m r free-ok (ready m r) refl)

    -- FREEING A LOG CHUNK
    pub free-through : (keys : ℕ) (C : ℕ → Held) (m : Medium) → AtRest p n ws es m → ((k : ℕ) → contents_by (meaning ws) es k ≡ C k) → length (keys_of es) ≤ keys → Flushed p n m
        → Through (Cuts p n keys C C) (Rests p n keys C) (free_of d old) m
    free-through keys C m r h few fl =
        through-map (Cuts p n keys C C) (Cuts p n keys C C) (AtRest p n freed gs) (Rests p n keys C) (free_of d old) m (λ m' t. t) end
        (switch p lo hi n d ws es freed gs d-in keys C C few few' h now (freed_word old) m r free-ok (ready m r) refl)
      where
        few' : length (keys_of gs) ≤ keys
        few' = let q = keys_from gs es (λ e t. (e, was e t, refl)) in omega arith

        now : (k : ℕ) → contents_by (meaning freed) gs k ≡ C k
        now k = free-contents k ∙ h k

        end : AtRest p n freed gs (run (free_of d old) m) → Rests p n keys C (run (free_of d old) m)
        end r' = ((freed, gs, r', few', now), freed-flushed m r fl r'.now)

  -- FREEING A DATA CHUNK with no live block: every action keeps the medium at rest
  module _ (m : Medium) (r : AtRest p n ws es m) (z : lines_of p ws d ≡ 0) (dead : (e : Entry) → Top es e → pointed e ≡ true → unit_chunk p e.field ≡ d → ⊥) where
    abbrev m1 : Medium
    m1 = apply (Store (directory_word d) (freed_word old)) m

    abbrev m2 : Medium
    m2 = apply (Flush (line_of (directory_word d))) m1

    out : Support p n ws es (directory_word d) → ⊥
    out (inl s) = omega arith
    out (inr (inl (c, a, b, l, e))) = let s : c ≡ d = omega arith in let y : lines_of p ws c ≡ 0 = ap (lines_of p ws) s ∙ z in omega arith
    out (inr (inr (inl (c, a, b, l, u)))) = let f = past-directory p lo hi c (directory_word d) a l in let g = d-in in omega arith
    out (inr (inr (inr (e, t, (pt, inl k))))) = dead e t pt (omega arith)
    out (inr (inr (inr (e, t, (pt, inr (a, b)))))) =
        let x = live-fits p lo hi n ws es r.ok e t pt in
        let i = fits_in p lo hi n e.field _ _ (directory_word d) x a b in
        let f = past-directory p lo hi (unit_chunk p e.field) (directory_word d) x.low i.0 in
        let g = d-in in
        omega arith

    in-m : directory_word d < length m
    in-m = word-in-medium p lo hi n ws es m r d d-in

    says : (c : ℕ) → c < max_chunks → directory_word d ≡ directory_word c → Calm p n c (freed_word old)
    says c l e = let s : c ≡ d = omega arith in rw s (freed-word p n d old low high).0

    pub data-rest : AtRest p n freed es (apply (Store (directory_word d) (freed_word old)) m)
    data-rest = rest-store p lo hi n ws es m r (directory_word d) (freed_word old) in-m out says

    pub free-data-to : (Q : List Entry → Type 0) → Q es → Through (CutsTo p n Q) (CutsTo p n Q) (free_of d old) m
    free-data-to Q a =
        let r2 = rest-quiet p lo hi n freed es m1 data-rest (Flush (line_of (directory_word d))) tt in
        let r3 = rest-quiet p lo hi n freed es m2 r2 Fence tt in
        (rest-to p lo hi n ws es m r Q a, (rest-to p lo hi n freed es m1 data-rest Q a, (rest-to p lo hi n freed es m2 r2 Q a, rest-to p lo hi n freed es (apply Fence m2) r3 Q a)))

    pub free-data : (keys : ℕ) (C : ℕ → Held) → ((k : ℕ) → contents_by (meaning ws) es k ≡ C k) → length (keys_of es) ≤ keys → Flushed p n m → Through (Cuts p n keys C C) (Rests p n keys C) (free_of d old) m
    free-data keys C h few fl = (
      stays-old p lo hi n keys C C m (ws, es, r, few, h),
      (
        stays-old p lo hi n keys C C m1 (freed, es, data-rest, few, h1),
        (stays-old p lo hi n keys C C m2 (freed, es, r2, few, h1), ((freed, es, r3, few, h1), freed-flushed m r fl r3.now)),
      ),
    )
      where
        h1 : (k : ℕ) → contents_by (meaning freed) es k ≡ C k
        h1 k = store-contents p lo hi n ws es m r (directory_word d) (freed_word old) in-m out says k ∙ h k

        r2 : AtRest p n freed es m2
        r2 = rest-quiet p lo hi n freed es m1 data-rest (Flush (line_of (directory_word d))) tt

        r3 : AtRest p n freed es (apply Fence m2)
        r3 = rest-quiet p lo hi n freed es m2 r2 Fence tt

-- the count of actions
pub free-count : (d old : ℕ) → length (free_of d old) ≡ 3
free-count d old = refl
