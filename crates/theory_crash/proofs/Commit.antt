-- A commit, action by action: every cut finds the old contents or the new, and its end is at rest with the new.
-- Assumes nothing.
use mathlib.Core.Path.{◌≡◌, refl, sym, ◌∙◌, ap}
use mathlib.Core.Logic.{◌⊎◌, inl, inr}
use mathlib.Core.Bool.{true}
use mathlib.Core.List.{List, [], ◌++◌}
use Prim.Native.Nat.{ℕ, ◌+◌, ◌-◌, ◌*◌, ◌≤◌, ◌<◌}
use native.Mathlib.Omega.{arith}
use native.Mathlib.Decide.{ℕ_discrete, dec_lt}
use lib.ListN.{length, get_or, length-set, length-append}
use Rattle.spec.specs.Places.{chunk_words, base, unit_word, directory_word, max_chunks}
use Rattle.spec.specs.Medium.{Cell, fresh, Action, Medium, run, cell_at, CanCutTo}
use Rattle.spec.specs.Directory.{role_of, lines_in, size_in, lines_of, size_of, log_word}
use Rattle.spec.specs.Log.{Entry, Entries, entries_of, chunk_entries, image_entries, placed}
use Rattle.spec.specs.Contents.{Held, contents_by, meaning, keys_of, listed, entries_in}
use Rattle.spec.specs.Opening.{fine}
use Rattle.spec.specs.Actions.{body_of, seal_of, commit_of}
use Rattle.theory_log.specs.Contents.{Mem, Top}
use Rattle.theory_base.proofs.Words as W
use Rattle.theory_base.proofs.Through.{Through, Each, through-kept, through-map, through-append, through-prefix}
use Rattle.theory_base.proofs.Places.{lines-words, base-apart, past-directory, line-in}
use Rattle.theory_log.proofs.Batch.{entries-agree}
use Rattle.theory_log.proofs.Clean.{mem-placed}
use Rattle.theory_log.proofs.Contents.{mem-l, mem-r}
use Rattle.theory_log.proofs.Directory.{lines-is, size_is, lines-most}
use Rattle.theory_log.proofs.Keys.{known-mem, mem-known, keys-fewer}
use Rattle.theory_crash.specs.Accepted.{Needs, Ok, Support}
use Rattle.theory_crash.specs.Rest.{AtRest, Ready, Flushed, Holds, Rests, Cuts, CutsTo, Joined, Leaves}
use Rattle.theory_crash.specs.Batch.{entry_words, Batch}
use Rattle.theory_crash.proofs.Directory.{log-no-size}
use Rattle.theory_crash.proofs.Blocks.{needs-first, needs-move, needs-only}
use Rattle.theory_crash.proofs.Frame.{directory-in, chunk_in, lines-in}
use Rattle.theory_crash.proofs.Rest.{rest-length, rest-long, rest-now, rest-to, stays-old, stays-new, stays-left}
use Rattle.theory_crash.proofs.Switch.{switch, switch-to, switch-left}
use Rattle.theory_crash.proofs.Cells.{each_append, length-writes, length-flushes, Spares, seal-spares, flushed-after}
use Rattle.theory_crash.proofs.Body.{Busy, InArea, busy-kept, each-body, body-spares, body-hit, body-out, body-now}
use Rattle.theory_crash.proofs.Publish as P

-- where each entry has one of its key in another list, there are no more keys
pub keys_from : (xs ys : List Entry) → ((e : Entry) → Mem e xs → (f : Entry) × Mem f ys × (f.key ≡ e.key)) → length (keys_of xs) ≤ length (keys_of ys)
keys_from xs ys h = keys-fewer xs ys (λ k t. let r = known-mem k xs t in let s = h r.0 r.1 in mem-known k ys s.0 s.1 (s.2 ∙ r.2))

module _ (p : ℕ) (lo : 12 ≤ p) (hi : p ≤ 16) (n d old l b z keys : ℕ) (C : ℕ → Held) (ws : List ℕ) (es fs : List Entry) (E : (Entry → Held) → (ℕ → Held) → ℕ → Held) (m : Medium)
    (rest : AtRest p n ws es m) (holds : (k : ℕ) → contents_by (meaning ws) es k ≡ C k) (bt : Batch p n d l b z ws es fs E) (few : length (keys_of (fs ++ es)) ≤ keys)
    (flushed : (e : Entry) → Mem e (placed (base p d + 8 * l) fs) → (k : ℕ) → Needs p ws e k → (cell_at m k).newer ≡ []) where
  abbrev pub batch : List Entry
  batch = placed (base p d + 8 * l) fs

  abbrev pub D : ℕ → Held
  D = E (meaning ws) C

  abbrev w : ℕ
  w = get_or ws (directory_word d) 0

  abbrev body : List Action
  body = body_of p d l b (entry_words fs z)

  abbrev pub acts : List Action
  acts = commit_of p d old l b (entry_words fs z)

  abbrev m1 : Medium
  m1 = run body m

  d-in : d < max_chunks
  d-in = let q = bt.high in let h = rest.ok.most in omega arith

  count : lines_in (role_of p w) ≡ l
  count = sym (lines-is p ws d) ∙ bt.lines

  few-old : length (keys_of es) ≤ keys
  few-old = let q = keys_from es (fs ++ es) (λ e t. (e, mem-r e fs es t, refl)) in omega arith

  -- FIRST HALF: the batch's words, at rest all the way
  still-size : (vs : List ℕ) → get_or vs (directory_word d) 0 ≡ w → size_of p vs d ≡ 0
  still-size vs e = size_is p vs d ∙ ap (λ (x : ℕ). size_in (role_of p x)) e ∙ sym (size_is p ws d) ∙ bt.no-data

  body-busy : Through (Busy p n es C d w) (Busy p n es C d w) body m
  body-busy =
      (through-kept (Busy p n es C d w) (Busy p n es C d w) (InArea p d (lines_in (role_of p w))) (busy-kept p lo hi n es C d w bt.low bt.high still-size) (λ m' t. t) body m
      (rw count (each-body p lo hi d l b (entry_words fs z) bt.size bt.fit)) (ws, rest, holds, refl))

  pub body-through : Through (Cuts p n keys C D) (Busy p n es C d w) body m
  body-through =
      through-map (Busy p n es C d w) (Cuts p n keys C D) (Busy p n es C d w) (Busy p n es C d w) body m (λ m' t. stays-old p lo hi n keys C D m' (t.0, es, t.1, few-old, t.2)) (λ t. t) body-busy

  body-left : Through (Leaves p n keys C) (Busy p n es C d w) body m
  body-left =
      through-map (Busy p n es C d w) (Leaves p n keys C) (Busy p n es C d w) (Busy p n es C d w) body m (λ m' t. stays-left p lo hi n keys C D m' (t.0, es, t.1, few-old, t.2)) (λ t. t) body-busy

  -- the words written are settled then, and so is what the batch needs
  hit : (k j : ℕ) → k ≡ base p d + 8 * l + j → j < 8 * b → cell_at m1 k ≡ fresh (get_or (entry_words fs z) j 0)
  hit k j e h =
      let f = bt.fit in
      let q = lines-words p lo hi in
      let g = rest-length p lo hi n ws es m rest in
      let i = chunk_in p lo hi n ws es rest.ok d k bt.high (omega arith) in
      W.cell-run body m k (omega arith) ∙ body-hit p lo hi d l b (entry_words fs z) bt.size k (cell_at m k) j e h

  outside : (k : ℕ) → (k < base p d) ⊎ (base p d + chunk_words p ≤ k) → (k < base p d + 8 * l) ⊎ (base p d + 8 * l + 8 * b ≤ k)
  outside k (inl h) = inl (omega arith)
  outside k (inr h) = let f = bt.fit in let q = lines-words p lo hi in inr (omega arith)

  block : (e : Entry) → Mem e batch → (k : ℕ) → Needs p ws e k → cell_at m1 k ≡ fresh (get_or ws k 0)
  block e t k s =
      let a = P.not-mine p lo hi n d ws es rest.ok bt.low bt.high bt.no-data e (bt.staged e t) k s in
      let g = rest-length p lo hi n ws es m rest in
      W.cell-run body m k (rw g a.2) ∙ body-out p lo hi d l b (entry_words fs z) bt.size k (cell_at m k) (outside k a.1) (flushed e t k s) ∙ ap fresh (rest-now p lo hi n ws es m rest k)

  -- at the end: the entries, with the batch among them, and the other chunks as they were
  pub record Ended (m' : Medium) : Type 0 where
    pub image : List ℕ
    pub entries : List Entry
    pub before : List Entry
    pub behind : List Entry
    pub rests : AtRest p n image entries m'
    pub holds' : (k : ℕ) → contents_by (meaning image) entries k ≡ D k
    pub few' : length (keys_of entries) ≤ keys
    pub split : es ≡ before ++ behind
    pub joined : entries ≡ before ++ (batch ++ behind)
    pub no_blocks : size_of p image d ≡ 0
    pub staged : (e : Entry) → Mem e batch → fine p n image e ≡ true
    pub chunks : (c : ℕ) → 1 ≤ c → c < n → (c ≡ d → ⊥) → (chunk_entries p image c ≡ chunk_entries p ws c) × (get_or image (directory_word c) 0 ≡ get_or ws (directory_word c) 0)

  -- SECOND HALF: the switch. ws1 is the image with the words written.
  module _ (ws1 : List ℕ) (r1 : AtRest p n ws1 es m1) (h1 : (k : ℕ) → contents_by (meaning ws1) es k ≡ C k) (e1 : get_or ws1 (directory_word d) 0 ≡ w) where
    same_length : length ws1 ≡ length ws
    same_length = r1.ok.long ∙ sym rest.ok.long

    is-now : (k x : ℕ) → cell_at m1 k ≡ fresh x → get_or ws1 k 0 ≡ x
    is-now k x h = sym (rest-now p lo hi n ws1 es m1 r1 k) ∙ ap (λ (c : Cell). c.now) h

    here : (j : ℕ) → j < 8 * b → get_or ws1 (base p d + 8 * l + j) 0 ≡ get_or (entry_words fs z) j 0
    here j h = is-now (base p d + 8 * l + j) _ (hit (base p d + 8 * l + j) j refl h)

    as_before : (e : Entry) → Mem e batch → (fine p n ws1 e ≡ true) × (meaning ws1 e ≡ meaning ws e)
    as_before e t = needs-only p lo hi n ws ws1 e rest.ok.long same_length (λ k s. is-now k _ (block e t k s)) (bt.staged e t)

    bt1 : Batch p n d l b z ws1 es fs E
    bt1 = record {
      low = bt.low;
      high = bt.high;
      lines = lines-is p ws1 d ∙ ap (λ (x : ℕ). lines_in (role_of p x)) e1 ∙ count;
      no-data = still-size ws1 e1;
      some' = bt.some';
      fit = bt.fit;
      size = bt.size;
      right = bt.right;
      effect = bt.effect;
      staged = λ e t. (as_before e t).0;
      own = bt.own;
    }

    abbrev vs : List ℕ
    vs = P.published p lo hi n d old l b z ws1 es fs E r1.ok bt1 here

    abbrev gs : List Entry
    gs = P.entries p lo hi n d old l b z ws1 es fs E r1.ok bt1 here

    ok1 : Ok p n vs gs
    ok1 = P.publish-ok p lo hi n d old l b z ws1 es fs E r1.ok bt1 here

    new : (k : ℕ) → contents_by (meaning vs) gs k ≡ D k
    new k =
        P.publish-contents p lo hi n d old l b z ws1 es fs E r1.ok bt1 here k
        ∙ bt.effect.extends (meaning ws) (meaning ws1) C (contents_by (meaning ws1) es) (λ e t. (as_before e t).1) h1 k

    few-new : length (keys_of gs) ≤ keys
    few-new = let q = keys_from gs (fs ++ es) (λ e t. origin e (P.entry-cases p lo hi n d old l b z ws1 es fs E r1.ok bt1 here e t)) in omega arith
      where
        origin : (e : Entry) → Mem e batch ⊎ Mem e es → (f : Entry) × Mem f (fs ++ es) × (f.key ≡ e.key)
        origin e (inl t) = let o = mem-placed e (base p d + 8 * l) fs t in (o.0, mem-l o.0 fs es o.1, sym (ap (λ (y : Entry). y.key) o.3))
        origin e (inr t) = (e, mem-r e fs es t, refl)

    other : (k : ℕ) → (k ≡ directory_word d → ⊥) → get_or vs k 0 ≡ get_or ws1 k 0
    other = P.other_word p lo hi n d old l b z ws1 es fs E r1.ok bt1 here

    lines_other : (c : ℕ) → (c ≡ d → ⊥) → lines_of p vs c ≡ lines_of p ws1 c
    lines_other = P.lines_other p lo hi n d old l b z ws1 es fs E r1.ok bt1 here

    lines-this : lines_of p vs d ≡ l + b
    lines-this = P.lines-this p lo hi n d old l b z ws1 es fs E r1.ok bt1 here

    -- settled in ws1: settled in vs
    from : (k : ℕ) → (k ≡ directory_word d → ⊥) → Support p n ws1 es k → cell_at m1 k ≡ fresh (get_or vs k 0)
    from k q s = r1.settled k s ∙ ap fresh (sym (other k q))

    -- settled with its value: settled in vs
    own-word : (k x : ℕ) → (k ≡ directory_word d → ⊥) → cell_at m1 k ≡ fresh x → cell_at m1 k ≡ fresh (get_or vs k 0)
    own-word k x q c = c ∙ ap fresh (sym (other k q ∙ is-now k x c))

    line : (k c : ℕ) → (k ≡ directory_word d → ⊥) → 1 ≤ c → c < n → base p c ≤ k → k < base p c + 8 * lines_of p vs c → Dec (c ≡ d) → cell_at m1 k ≡ fresh (get_or vs k 0)
    line k c q x y a u (no ne) = from k q (inr (inr (inl (c, x, y, a, (rw (lines_other c ne) at u)))))
    line k c q x y a u (yes e) = two (dec_lt k (base p d + 8 * l))
      where
        a' : base p d ≤ k
        a' = rw e at a

        u' : k < base p d + 8 * (l + b)
        u' = rw (e, lines-this) at u

        two : Dec (k < base p d + 8 * l) → cell_at m1 k ≡ fresh (get_or vs k 0)
        two (yes i) = from k q (inr (inr (inl (d, bt.low, bt.high, a', rw bt1.lines i))))
        two (no i) = let j : ℕ = k - (base p d + 8 * l) in let v = u' in own-word k _ q (hit k j (omega arith) (omega arith))

    live : (k : ℕ) → (k ≡ directory_word d → ⊥) → (e : Entry) → Needs p vs e k → Mem e batch ⊎ Top es e → cell_at m1 k ≡ fresh (get_or vs k 0)
    live k q e (pt, need) o = go o
      where
        ok-e : Mem e batch ⊎ Top es e → fine p n ws1 e ≡ true
        ok-e (inl t) = (as_before e t).0
        ok-e (inr t) = r1.ok.blocks e t

        len1 : get_or vs (unit_word e.field) 0 ≡ get_or ws1 (unit_word e.field) 0
        len1 = other (unit_word e.field) (P.not-mine p lo hi n d ws1 es r1.ok bt.low bt.high bt1.no-data e (ok-e o) (unit_word e.field) (needs-first p ws1 e pt)).0

        need1 : Needs p ws1 e k
        need1 = needs-move p ws1 vs e k len1 (pt, need)

        go : Mem e batch ⊎ Top es e → cell_at m1 k ≡ fresh (get_or vs k 0)
        go (inr t) = from k q (inr (inr (inr (e, t, need1))))
        go (inl t) = own-word k _ q (block e t k (needs-move p ws ws1 e k (is-now (unit_word e.field) _ (block e t (unit_word e.field) (needs-first p ws e pt))) need1))

    settled : (k : ℕ) → Support p n vs gs k → (k ≡ directory_word d → ⊥) → cell_at m1 k ≡ fresh (get_or vs k 0)
    settled k (inl s) q = from k q (inl s)
    settled k (inr (inl (c, x, y, i, e))) q = from k q (inr (inl (c, x, y, (rw (lines_other c (λ r. q (e ∙ ap directory_word r))) at i), e)))
    settled k (inr (inr (inl (c, x, y, a, u)))) q = line k c q x y a u (ℕ_discrete c d)
    settled k (inr (inr (inr (e, t, need)))) q = live k q e need (P.top-cases p lo hi n d old l b z ws1 es fs E r1.ok bt1 here e t)

    ready : Ready p n d vs gs m1
    ready = record {
      long = rest-length p lo hi n ws1 es m1 r1 ∙ sym (length-set ws1 (directory_word d) (log_word old (l + b)));
      settled = settled;
      calm = λ c h ne y x t. r1.calm c h (sym (lines_other c ne) ∙ y) x t;
    }

    -- the other chunks
    untouched : (k : ℕ) → k < length ws → (k < base p d + 8 * l) ⊎ (base p d + 8 * l + 8 * b ≤ k) → get_or ws1 k 0 ≡ get_or ws k 0
    untouched k i o =
        sym (rest-now p lo hi n ws1 es m1 r1 k) ∙ ap (λ (c : Cell). c.now) (W.cell-run body m k (rw (rest-length p lo hi n ws es m rest) i))
        ∙ body-now p lo hi d l b (entry_words fs z) bt.size k (cell_at m k) o ∙ rest-now p lo hi n ws es m rest k

    same-chunks : (c : ℕ) → 1 ≤ c → c < n → (c ≡ d → ⊥) → (chunk_entries p vs c ≡ chunk_entries p ws c) × (get_or vs (directory_word c) 0 ≡ get_or ws (directory_word c) 0)
    same-chunks c a h ne =
        let most = rest.ok.most in
        let low = past-directory p lo hi d (base p d) bt.low (omega arith) in
        let wd : get_or ws1 (directory_word c) 0 ≡ get_or ws (directory_word c) 0 = untouched (directory_word c) (directory-in p lo hi n ws es rest.ok c (omega arith)) (inl (omega arith)) in
        let ls : lines_of p ws1 c ≡ lines_of p ws c = lines-is p ws1 c ∙ ap (λ (x : ℕ). lines_in (role_of p x)) wd ∙ sym (lines-is p ws c) in
        let end = lines-in p lo hi n ws es rest.ok c h in (
          P.chunk-other p lo hi n d old l b z ws1 es fs E r1.ok bt1 here c a ne
              ∙ ap (entries_of ws1 (base p c)) ls
              ∙ entries-agree ws1 ws (base p c) (lines_of p ws c) (rw same_length end) end (λ i x y. untouched i (omega arith) (outside i (side i x y (dec_lt c d)))),
          other (directory_word c) (λ e. ne (omega arith)) ∙ wd,
        )
      where
        side : (i : ℕ) → base p c ≤ i → i < base p c + 8 * lines_of p ws c → Dec (c < d) → (i < base p d) ⊎ (base p d + chunk_words p ≤ i)
        side i x y (yes f) = let g = base-apart p lo hi c d f in let k = line-in p lo hi c (lines_of p ws c) i (lines-most p ws c) y in inl (omega arith)
        side i x y (no f) = let g = base-apart p lo hi d c (omega (arith, ne)) in inr (omega arith)

    no_size : size_of p vs d ≡ 0
    no_size = let s = bt.some' in let q = lines-this in size_is p vs d ∙ log-no-size (role_of p (get_or vs (directory_word d) 0)) (rw (← lines-is p vs d) (omega arith))

    pub seal-through : Through (Cuts p n keys C D) Ended (seal_of d (log_word old (l + b))) m1
    seal-through =
        through-map (Cuts p n keys C D) (Cuts p n keys C D) (AtRest p n vs gs) Ended (seal_of d (log_word old (l + b))) m1 (λ m' t. t) end
        (switch p lo hi n d ws1 es vs gs d-in keys C D few-old few-new h1 new (log_word old (l + b)) m1 r1 ok1 ready refl)
      where
        sh : (xs : List Entry) × (ys : List Entry) × (es ≡ xs ++ ys) × (image_entries p n vs ≡ Entries (xs ++ (batch ++ ys)))
        sh = P.shape p lo hi n d old l b z ws1 es fs E r1.ok bt1 here

        end : {m' : Medium} → AtRest p n vs gs m' → Ended m'
        end r = record {
          image = vs;
          entries = gs;
          before = sh.0;
          behind = sh.1;
          rests = r;
          holds' = new;
          few' = few-new;
          split = sh.2;
          joined = refl;
          no_blocks = no_size;
          staged = λ e t. (P.fine-same p lo hi n d old l b z ws1 es fs E r1.ok bt1 here e (as_before e t).0).0;
          chunks = same-chunks;
        }

    seal-to : (Q : List Entry → Type 0) → Q es → ((ys : List ℕ) (before behind : List Entry) → es ≡ before ++ behind → image_entries p n ys ≡ Entries (before ++ (batch ++ behind)) → Q (before ++ (batch ++ behind)))
        → Through (CutsTo p n Q) (AtRest p n vs gs) (seal_of d (log_word old (l + b))) m1
    seal-to Q a q =
        let sh = P.shape p lo hi n d old l b z ws1 es fs E r1.ok bt1 here in
        switch-to p lo hi n d ws1 es vs gs d-in Q a (q vs sh.0 sh.1 sh.2 sh.3) (log_word old (l + b)) m1 r1 ok1 ready refl

    seal-left : Through (Leaves p n keys C) (λ m'. Unit {0}) (seal_of d (log_word old (l + b))) m1
    seal-left = switch-left p lo hi n d ws1 es vs gs d-in keys C D few-old few-new h1 new (log_word old (l + b)) m1 r1 ok1 ready refl

  -- BY ENTRIES: a cut finds those before, or these with the batch among them
  pub commit-to : (Q : List Entry → Type 0) → Q es → ((ys : List ℕ) (before behind : List Entry) → es ≡ before ++ behind → image_entries p n ys ≡ Entries (before ++ (batch ++ behind)) → Q (before ++ (batch ++ behind))) → Through (CutsTo p n Q) (λ m'. Unit {0}) acts m
  unfolding commit_of
  commit-to Q a q =
      through-append (CutsTo p n Q) (λ m'. Unit {0}) body (seal_of d (log_word old (l + b))) m
      (through-map (Busy p n es C d w) (CutsTo p n Q) (Busy p n es C d w) (Through (CutsTo p n Q) (λ m'. Unit {0}) (seal_of d (log_word old (l + b)))) body m
      (λ m' t. rest-to p lo hi n t.0 es m' t.1 Q a)
      (λ t. through-map (CutsTo p n Q) (CutsTo p n Q) (AtRest p n (vs t.0 t.1 t.2 t.3) (gs t.0 t.1 t.2 t.3)) (λ m'. Unit {0}) (seal_of d (log_word old (l + b))) m1 (λ m' x. x) (λ x. tt)
      (seal-to t.0 t.1 t.2 t.3 Q a q)) body-busy)

  -- the directory words that it stores
  pub acts-spares : Each (Spares d) acts
  unfolding commit_of
  acts-spares = each_append (Spares d) body (seal_of d (log_word old (l + b))) (body-spares p lo hi d l b (entry_words fs z) bt.size bt.low) (seal-spares d (log_word old (l + b)))

  -- until its last fence some cut leaves the contents before
  pub commit-left : Through (Leaves p n keys C) (λ m'. Unit {0}) acts m
  unfolding commit_of
  commit-left =
      through-append (Leaves p n keys C) (λ m'. Unit {0}) body (seal_of d (log_word old (l + b))) m
      (through-map (Leaves p n keys C) (Leaves p n keys C) (Busy p n es C d w) (Through (Leaves p n keys C) (λ m'. Unit {0}) (seal_of d (log_word old (l + b)))) body m (λ m' t. t)
      (λ t. seal-left t.0 t.1 t.2 t.3) body-left)

  -- THE COMMIT
  acts-end : Through (Cuts p n keys C D) Ended acts m
  unfolding commit_of
  acts-end =
      through-append (Cuts p n keys C D) Ended body (seal_of d (log_word old (l + b))) m
      (through-map (Cuts p n keys C D) (Cuts p n keys C D) (Busy p n es C d w) (Through (Cuts p n keys C D) Ended (seal_of d (log_word old (l + b)))) body m (λ m' t. t)
      (λ t. seal-through t.0 t.1 t.2 t.3) body-through)

  acts-flushed : Flushed p n m → Ended (run acts m) → Flushed p n (run acts m)
  unfolding commit_of
  acts-flushed f t =
      flushed-after p lo hi n d acts m rest.ok.least rest.ok.most (rest-long p lo hi n ws es m rest)
      (each_append (Spares d) body (seal_of d (log_word old (l + b))) (body-spares p lo hi d l b (entry_words fs z) bt.size bt.low) (seal-spares d (log_word old (l + b)))) f
      (λ h. absurd (let q : 1 ≤ size_of p t.image d = rw t.rests.now at h in let y = t.no_blocks in omega arith))

  pub commit-ends : Flushed p n m → Through (Cuts p n keys C D) (λ m'. Ended m' × Flushed p n m') acts m
  commit-ends f = through-map (Cuts p n keys C D) (Cuts p n keys C D) Ended (λ m'. Ended m' × Flushed p n m') acts m (λ m' t. t) (λ t. (t, acts-flushed f t)) acts-end

  -- at rest with the new contents, and the batch among the entries
  pub commit-joins : Flushed p n m → Through (Cuts p n keys C D) (λ m'. Rests p n keys D m' × Joined p n es batch m') acts m
  commit-joins f =
      through-map (Cuts p n keys C D) (Cuts p n keys C D) (λ m'. Ended m' × Flushed p n m') (λ m'. Rests p n keys D m' × Joined p n es batch m') acts m (λ m' t. t)
      (λ t. (((t.0.image, t.0.entries, t.0.rests, t.0.few', t.0.holds'), t.1), (t.0.before, (t.0.behind, (t.0.split, ap (entries_in p n) t.0.rests.now ∙ ap listed t.0.rests.ok.parsed ∙ t.0.joined)))))
      (commit-ends f)

  pub commit-through : Flushed p n m → Through (Cuts p n keys C D) (Rests p n keys D) acts m
  commit-through f = through-map (Cuts p n keys C D) (Cuts p n keys C D) (λ m'. Rests p n keys D m' × Joined p n es batch m') (Rests p n keys D) acts m (λ m' t. t) (λ t. t.0) (commit-joins f)

  -- read at any prefix: cut there, the image holds the old contents or the new
  pub commit-cut : Flushed p n m → (done' todo : List Action) → acts ≡ done' ++ todo → (xs : List ℕ) → CanCutTo (run done' m) xs → Holds p n keys C xs ⊎ Holds p n keys D xs
  commit-cut f done' todo e = through-prefix (Cuts p n keys C D) (Rests p n keys D) (λ m' t. stays-new p lo hi n keys C D m' t.0) done' todo m (rw e at (commit-through f))

-- the count of actions
pub commit-count : (p d old l b : ℕ) (words : List ℕ) → length words ≡ 8 * b → length (commit_of p d old l b words) ≡ 9 * b + 4
unfolding commit_of body_of
commit-count p d old l b words e = rw (length-append, length-append, length-append, length-writes, length-flushes) (omega arith)
