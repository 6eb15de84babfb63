-- Staging a large value, action by action: a block is stored, or a free chunk is taken first.
-- Assumes nothing.
use Rattle.std.proofs.lemmas.Bool.Decides.{nat_tests}
use mathlib.Core.Path.{◌≡◌, refl, sym, ◌∙◌, ap}
use mathlib.Core.Logic.{◌⊎◌, inl, inr}
use mathlib.Core.Bool.{true}
use mathlib.Core.List.{List, [], ◌++◌}
use Prim.Native.Nat.{ℕ, ◌+◌, ◌*◌, ◌/◌, ◌%◌, ◌≤◌, ◌<◌}
use native.Mathlib.Nat.{zero-mod}
use native.Mathlib.Omega.{arith}
use native.Mathlib.Decide.{ℕ_discrete, dec_lt}
use lib.ListN.{length, get_or, set, length-append, get_or-eq_default}
use lib.Seq.{get_or-set_same, get_or-set_other}
use Rattle.spec.specs.Places.{chunk_words, base, first_unit, unit_chunk, unit_in, unit_word, line_of, directory_word, max_chunks}
use Rattle.spec.specs.Medium.{Cell, fresh, Action, Store, Flush, Fence, Medium, apply, run, cell_at}
use Rattle.spec.specs.Directory.{is_size, role_of, size_in, is_free, role_at, lines_of, size_of, data_word}
use Rattle.spec.specs.Log.{Entry}
use Rattle.spec.specs.Blocks.{pointed, block_words}
use Rattle.spec.specs.Contents.{Held, contents_by, meaning, keys_of}
use Rattle.spec.specs.Actions.{writes, flushes, lines_for, take_of, block_of}
use Rattle.theory_log.specs.Contents.{Top}
use Rattle.theory_base.proofs.Words as W
use Rattle.theory_base.proofs.Words.{run_cell, run_cell-append}
use Rattle.theory_base.proofs.Through.{Through, Each, through-kept, through-map, through-append}
use Rattle.theory_base.proofs.Places.{units-words, past-directory, one_chunk, line-in, unit-place, unit-at, block_in}
use Rattle.theory_base.proofs.Sizes as Z
use Rattle.theory_log.proofs.Directory.{lines-is, size_is, lines-most}
use Rattle.theory_crash.specs.Accepted.{Calm, Ok, Support}
use Rattle.theory_crash.specs.Rest.{AtRest, Flushed, Cuts, CutsTo}
use Rattle.theory_crash.specs.Stage.{Slot, Stored}
use Rattle.theory_crash.proofs.Directory.{data-no-lines, free-says, data-word}
use Rattle.theory_crash.proofs.Blocks.{Fits, fits_in}
use Rattle.theory_crash.proofs.Frame.{live-fits, chunk_in}
use Rattle.theory_crash.proofs.Rest.{rest-length, rest-long, rest-now, word-in-medium, rest-quiet, rest-store, store-contents, stays-old, rest-to}
use Rattle.theory_crash.proofs.Cells.{each_append, each-writes, each-flushes, length-writes, length-flushes, writes-out, writes-hit, flushes-now, flushes-keep, flushes-hit, avoids-run, Spares, flushed-after}
use Rattle.theory_crash.proofs.Body.{Busy}

-- two multiples of s are s apart
pub multiples-apart : (s x y : ℕ) → x % s ≡ 0 → y % s ≡ 0 → x < y → x + s ≤ y
multiples-apart s x y a b l = grind (arith, nat_tests)

-- stores into the block, and flushes
abbrev InBlock : ℕ → ℕ → Action → Type 0
InBlock u s (Store a v) = (unit_word u ≤ a) × (a < unit_word u + 32 * s)
InBlock u s (Flush x) = Unit {0}
InBlock u s Fence = ⊥

in_block : (u s : ℕ) (words : List ℕ) → length words ≤ 32 * s → Each (InBlock u s) (block_of u words)
unfolding block_of
in_block u s words h =
    each_append (InBlock u s) (writes (unit_word u) words) _ (each-writes (InBlock u s) (unit_word u) words (λ k v a b. (a, omega arith)))
    (each-flushes (InBlock u s) (line_of (unit_word u)) (lines_for (length words)) (λ x. tt))

pub block-spares : (d u : ℕ) (words : List ℕ) → 512 ≤ unit_word u → Each (Spares d) (block_of u words)
unfolding block_of
block-spares d u words far =
    each_append (Spares d) (writes (unit_word u) words) _ (each-writes (Spares d) (unit_word u) words (λ k v a b. inr (omega arith)))
    (each-flushes (Spares d) (line_of (unit_word u)) (lines_for (length words)) (λ x. tt))

-- Word by word.
module _ (u : ℕ) (words : List ℕ) (k : ℕ) (c : Cell) where
  abbrev written : Cell
  written = run_cell (writes (unit_word u) words) k c

  block-is : run_cell (block_of u words) k c ≡ run_cell (flushes (line_of (unit_word u)) (lines_for (length words))) k written
  unfolding block_of
  block-is = run_cell-append (writes (unit_word u) words) (flushes (line_of (unit_word u)) (lines_for (length words))) k c

  pub block-hit : (j : ℕ) → k ≡ unit_word u + j → j < length words → ((run_cell (block_of u words) k c).now ≡ get_or words j 0) × ((run_cell (block_of u words) k c).newer ≡ [])
  block-hit j e h = (
    ap (λ (x : Cell). x.now) block-is ∙ flushes-now (line_of (unit_word u)) (lines_for (length words)) k written ∙ writes-hit (unit_word u) words k j c e h,
    ap (λ (x : Cell). x.newer) block-is ∙ flushes-hit (line_of (unit_word u)) (lines_for (length words)) k written (omega arith) (omega arith),
  )

  pub block_out : (k < unit_word u) ⊎ (unit_word u + length words ≤ k) → ((run_cell (block_of u words) k c).now ≡ c.now) × (c.newer ≡ [] → (run_cell (block_of u words) k c).newer ≡ [])
  block_out h =
      let s : written ≡ c = writes-out (unit_word u) words k c h in (
        ap (λ (x : Cell). x.now) block-is ∙ flushes-now (line_of (unit_word u)) (lines_for (length words)) k written ∙ ap (λ (x : Cell). x.now) s,
        λ y. ap (λ (x : Cell). x.newer) block-is ∙ flushes-keep (line_of (unit_word u)) (lines_for (length words)) k written (ap (λ (x : Cell). x.newer) s ∙ y),
      )

-- a slot looks at its chunk's directory word alone
pub slot-moves : (p n : ℕ) (ws vs : List ℕ) (es : List Entry) (u s : ℕ) → get_or vs (directory_word (unit_chunk p u)) 0 ≡ get_or ws (directory_word (unit_chunk p u)) 0 → Slot p n ws es u s → Slot p n vs es u s
slot-moves p n ws vs es u s e sl = record {
  low = sl.low;
  high = sl.high;
  size = size_is p vs (unit_chunk p u) ∙ ap (λ (x : ℕ). size_in (role_of p x)) e ∙ sym (size_is p ws (unit_chunk p u)) ∙ sl.size;
  some' = sl.some';
  ends = sl.ends;
  aligned = sl.aligned;
  dead = sl.dead;
}

module _ (p : ℕ) (lo : 12 ≤ p) (hi : p ≤ 16) where
  -- the words of a block that nobody needs
  pub free-block : (n : ℕ) (ws : List ℕ) (es : List Entry) (u s : ℕ) → Ok p n ws es → Slot p n ws es u s → (a : ℕ) → unit_word u ≤ a → a < unit_word u + 32 * s → Support p n ws es a → ⊥
  free-block n ws es u s ok sl a l h = go
    where
      mine : (base p (unit_chunk p u) ≤ a) × (a < base p (unit_chunk p u) + chunk_words p)
      mine = block_in p lo hi u s a sl.ends l h

      far : 512 ≤ a
      far = past-directory p lo hi (unit_chunk p u) a sl.low mine.0

      here : (c : ℕ) → base p c ≤ a → a < base p c + chunk_words p → c ≡ unit_chunk p u
      here c x y = one_chunk p lo hi c (unit_chunk p u) a x y mine.0 mine.1

      no_lines : lines_of p ws (unit_chunk p u) ≡ 0
      no_lines = let q = sl.some' in lines-is p ws (unit_chunk p u) ∙ data-no-lines (role_of p (get_or ws (directory_word (unit_chunk p u)) 0)) (rw (← size_is p ws (unit_chunk p u), sl.size) q)

      other : (e : Entry) → Top es e → pointed e ≡ true → unit_word e.field ≤ a → a < unit_word e.field + 1 + block_words ws e.field → ⊥
      other e t pt f g = three (ℕ_discrete e.field u)
        where
          x : Fits p n e.field (size_of p ws (unit_chunk p e.field)) (get_or ws (unit_word e.field) 0)
          x = live-fits p lo hi n ws es ok e t pt

          same : unit_chunk p e.field ≡ unit_chunk p u
          same = let i = fits_in p lo hi n e.field _ _ a x f g in here (unit_chunk p e.field) i.0 i.1

          size : size_of p ws (unit_chunk p e.field) ≡ s
          size = ap (size_of p ws) same ∙ sl.size

          aligned : unit_in p e.field % s ≡ 0
          aligned = rw size at x.aligned

          room : get_or ws (unit_word e.field) 0 + 8 ≤ 256 * s
          room = rw size at x.room

          three : Dec (e.field ≡ u) → ⊥
          three (yes q) = sl.dead e t pt q
          three (no q) = two (dec_lt (unit_in p e.field) (unit_in p u))
            where
              two : Dec (unit_in p e.field < unit_in p u) → ⊥
              two (yes y) =
                  let v = multiples-apart s (unit_in p e.field) (unit_in p u) aligned sl.aligned y in
                  let b = unit-place p lo hi e.field in
                  let c = unit-place p lo hi u in
                  let d : base p (unit_chunk p e.field) ≡ base p (unit_chunk p u) = ap (base p) same in
                  let r = room in
                  omega arith
              two (no y) =
                  let b = unit-place p lo hi e.field in
                  let c = unit-place p lo hi u in
                  let d : base p (unit_chunk p e.field) ≡ base p (unit_chunk p u) = ap (base p) same in
                  let v = multiples-apart s (unit_in p u) (unit_in p e.field) sl.aligned aligned (omega (arith, q)) in
                  omega arith

      go : Support p n ws es a → ⊥
      go (inl x) = let f = far in omega arith
      go (inr (inl (c, c1, c2, c3, e))) = let most = ok.most in let f = far in omega arith
      go (inr (inr (inl (c, c1, c2, c3, c4)))) =
          let e = here c c3 (line-in p lo hi c (lines_of p ws c) a (lines-most p ws c) c4) in
          let z : lines_of p ws c ≡ 0 = ap (lines_of p ws) e ∙ no_lines in
          omega arith
      go (inr (inr (inr (e, t, (pt, inl r))))) = let most = ok.most in let f = far in let i = live-fits p lo hi n ws es ok e t pt in let g = i.high in omega arith
      go (inr (inr (inr (e, t, (pt, inr (f, g)))))) = other e t pt f g

  module _ (n : ℕ) (es : List Entry) (C : ℕ → Held) (u s w : ℕ) (slot : (ws : List ℕ) → get_or ws (directory_word (unit_chunk p u)) 0 ≡ w → Slot p n ws es u s) where
    block-kept : (a : Action) (m : Medium) → InBlock u s a → Busy p n es C (unit_chunk p u) w m → Busy p n es C (unit_chunk p u) w (apply a m)
    block-kept (Store a v) m (l, h) (ws, r, k, e) =
        let sl = slot ws e in
        let i = block_in p lo hi u s a sl.ends l h in
        let far = past-directory p lo hi (unit_chunk p u) a sl.low i.0 in
        let hh = sl.high in
        let most = r.ok.most in
        let out : Support p n ws es a → ⊥ = free-block n ws es u s r.ok sl a l h in
        let inside : a < length m = rw (rest-length p lo hi n ws es m r) (chunk_in p lo hi n ws es r.ok (unit_chunk p u) a sl.high i.1) in
        let says : (c : ℕ) → c < max_chunks → a ≡ directory_word c → Calm p n c v = λ c x f. absurd (omega arith) in (
          set ws a v,
          rest-store p lo hi n ws es m r a v inside out says,
          λ j. store-contents p lo hi n ws es m r a v inside out says j ∙ k j,
          get_or-set_other ws a (directory_word (unit_chunk p u)) v 0 (λ f. omega arith) ∙ e,
        )
    block-kept (Flush x) m f (ws, r, k, e) = (ws, rest-quiet p lo hi n ws es m r (Flush x) tt, k, e)
    block-kept Fence m f t = absurd f

  -- STAGING A LARGE VALUE into a block of a data chunk
  pub stage_through : (n keys : ℕ) (es : List Entry) (C : ℕ → Held) (ws : List ℕ) (m : Medium) (u s : ℕ) (words : List ℕ) → AtRest p n ws es m → ((k : ℕ) → contents_by (meaning ws) es k ≡ C k)
      → length (keys_of es) ≤ keys → Flushed p n m → Slot p n ws es u s → length words ≤ 32 * s
      → Through (Cuts p n keys C C) (Stored p n es C ws m u (get_or ws (directory_word (unit_chunk p u)) 0) words) (block_of u words) m
  stage_through n keys es C ws m u s words r h few fl sl fit =
      through-map B (Cuts p n keys C C) B (Stored p n es C ws m u w words) (block_of u words) m (λ m'' t. stays-old p lo hi n keys C C m'' (t.0, es, t.1, few, t.2)) end
      (through-kept B B (InBlock u s) (block-kept n es C u s w (λ vs e. slot-moves p n ws vs es u s e sl)) (λ m'' t. t) (block_of u words) m (in_block u s words fit) (ws, r, h, refl))
    where
      w : ℕ
      w = get_or ws (directory_word (unit_chunk p u)) 0

      B : Medium → Type 0
      B = Busy p n es C (unit_chunk p u) w

      m' : Medium
      m' = run (block_of u words) m

      far : 512 ≤ unit_word u
      far = let a = sl.some' in let i = block_in p lo hi u s (unit_word u) sl.ends (omega arith) (omega arith) in past-directory p lo hi (unit_chunk p u) (unit_word u) sl.low i.0

      in-block-word : (j : ℕ) → j < length words → unit_word u + j < length m
      in-block-word j l =
          let f = fit in
          let i = block_in p lo hi u s (unit_word u + j) sl.ends (omega arith) (omega arith) in
          rw (rest-length p lo hi n ws es m r) (chunk_in p lo hi n ws es r.ok (unit_chunk p u) (unit_word u + j) sl.high i.1)

      end : B m' → Stored p n es C ws m u w words m'
      end (vs, r', h', e) = record {
        image = vs;
        rests = r';
        flushed = flushed';
        holds = h';
        word = e;
        block = λ j l.
            let c = W.cell-run (block_of u words) m (unit_word u + j) (in-block-word j l) in
            let b = block-hit u words (unit_word u + j) (cell_at m (unit_word u + j)) j refl l in
            (sym (rest-now p lo hi n vs es m' r' (unit_word u + j)) ∙ ap (λ (x : Cell). x.now) c ∙ b.0, ap (λ (x : Cell). x.newer) c ∙ b.1);
        others = λ k ne o. other k o (dec_lt k (length m));
      }
        where
          other : (k : ℕ) → (k < unit_word u) ⊎ (unit_word u + length words ≤ k) → Dec (k < length m) → (get_or vs k 0 ≡ get_or ws k 0) × ((cell_at m k).newer ≡ [] → (cell_at m' k).newer ≡ [])
          other k o (yes l) =
              let c = W.cell-run (block_of u words) m k l in
              let b = block_out u words k (cell_at m k) o in
              (sym (rest-now p lo hi n vs es m' r' k) ∙ ap (λ (x : Cell). x.now) c ∙ b.0 ∙ rest-now p lo hi n ws es m r k, λ y. ap (λ (x : Cell). x.newer) c ∙ b.1 y)
          other k o (no l) =
              let long = r.ok.long in
              let long' = r'.ok.long in
              let lm = rest-long p lo hi n ws es m r in (
                get_or-eq_default vs 0 (omega arith) ∙ sym (get_or-eq_default ws 0 (omega arith)),
                λ y. ap (λ (x : Cell). x.newer) (get_or-eq_default m' (fresh 0) (rw (W.length_run (block_of u words) m) (omega arith))),
              )

          word-flushed : (cell_at m' (directory_word (unit_chunk p u))).newer ≡ []
          word-flushed =
              let f = far in
              let hh = sl.high in
              let most = r.ok.most in
              (other (directory_word (unit_chunk p u)) (inl (omega arith)) (yes (word-in-medium p lo hi n ws es m r (unit_chunk p u) (omega arith)))).1
              (fl (unit_chunk p u) sl.low sl.high (rw (r.now, sl.size) sl.some'))

          flushed' : Flushed p n m'
          flushed' = flushed-after p lo hi n (unit_chunk p u) (block_of u words) m r.ok.least r.ok.most (rest-long p lo hi n ws es m r) (block-spares (unit_chunk p u) u words far) fl (λ x. word-flushed)

  -- by entries: they stay
  pub stage-to : (n : ℕ) (es : List Entry) (ws : List ℕ) (m : Medium) (u s : ℕ) (words : List ℕ) → AtRest p n ws es m → Slot p n ws es u s → length words ≤ 32 * s
      → (Q : List Entry → Type 0) → Q es → Through (CutsTo p n Q) (CutsTo p n Q) (block_of u words) m
  stage-to n es ws m u s words r sl fit Q a =
      through-map B (CutsTo p n Q) B (CutsTo p n Q) (block_of u words) m (λ m'' t. rest-to p lo hi n t.0 es m'' t.1 Q a) (λ t. rest-to p lo hi n t.0 es (run (block_of u words) m) t.1 Q a)
      (through-kept B B (InBlock u s) (block-kept n es C u s w (λ vs e. slot-moves p n ws vs es u s e sl)) (λ m'' t. t) (block_of u words) m (in_block u s words fit) (ws, r, (λ k. refl), refl))
    where
      w : ℕ
      w = get_or ws (directory_word (unit_chunk p u)) 0

      C : ℕ → Held
      C = contents_by (meaning ws) es

      B : Medium → Type 0
      B = Busy p n es C (unit_chunk p u) w

  -- A free chunk becomes a data chunk.
  module _ (n keys : ℕ) (es : List Entry) (C : ℕ → Held) (ws : List ℕ) (m : Medium) (c old s : ℕ) (r : AtRest p n ws es m) (h : (k : ℕ) → contents_by (meaning ws) es k ≡ C k)
      (few : length (keys_of es) ≤ keys) (fl : Flushed p n m) (low : 1 ≤ c) (high : c < n) (free : is_free (role_at p ws c) ≡ true) (size : is_size p s ≡ true) where
    abbrev w : ℕ
    w = data_word old s

    abbrev pub taken : List ℕ
    taken = set ws (directory_word c) w

    abbrev m1 : Medium
    m1 = apply (Store (directory_word c) w) m

    abbrev m2 : Medium
    m2 = apply (Flush (line_of (directory_word c))) m1

    c-in : c < max_chunks
    c-in = let a = r.ok.most in omega arith

    in-m : directory_word c < length m
    in-m = word-in-medium p lo hi n ws es m r c c-in

    no_size : size_of p ws c ≡ 0
    no_size = size_is p ws c ∙ (free-says (role_at p ws c) free).1

    no_block : (e : Entry) → Top es e → pointed e ≡ true → unit_chunk p e.field ≡ c → ⊥
    no_block e t pt q = let x = live-fits p lo hi n ws es r.ok e t pt in let a = x.some' in let b : 1 ≤ size_of p ws c = rw q at a in let z = no_size in omega arith

    pub out : Support p n ws es (directory_word c) → ⊥
    out (inl x) = omega arith
    out (inr (inl (d, a, b, l, e))) =
        let q : d ≡ c = omega arith in
        let z : lines_of p ws d ≡ 0 = ap (lines_of p ws) q ∙ lines-is p ws c ∙ (free-says (role_at p ws c) free).0 in
        omega arith
    out (inr (inr (inl (d, a, b, l, x)))) = let f = past-directory p lo hi d (directory_word c) a l in let g = c-in in omega arith
    out (inr (inr (inr (e, t, (pt, inl k))))) = no_block e t pt (omega arith)
    out (inr (inr (inr (e, t, (pt, inr (a, b)))))) =
        let x = live-fits p lo hi n ws es r.ok e t pt in
        let i = fits_in p lo hi n e.field _ _ (directory_word c) x a b in
        let f = past-directory p lo hi (unit_chunk p e.field) (directory_word c) x.low i.0 in
        let g = c-in in
        omega arith

    pub says : (d : ℕ) → d < max_chunks → directory_word c ≡ directory_word d → Calm p n d w
    says d l e = let q : d ≡ c = omega arith in rw q (data-word p n c old s low high size).0

    r1 : AtRest p n taken es m1
    r1 = rest-store p lo hi n ws es m r (directory_word c) w in-m out says

    h1 : (k : ℕ) → contents_by (meaning taken) es k ≡ C k
    h1 k = store-contents p lo hi n ws es m r (directory_word c) w in-m out says k ∙ h k

    word-flushed : (cell_at m2 (directory_word c)).newer ≡ []
    word-flushed = ap (λ (x : Cell). x.newer) (W.cell-apply (Flush (line_of (directory_word c))) m1 (directory_word c) (rw W.length-apply in-m) ∙ W.step-flush-hit (line_of (directory_word c)) (directory_word c) (cell_at m1 (directory_word c)) refl)

    fl2 : Flushed p n m2
    fl2 = flushed-after p lo hi n c (take_of c old s) m r.ok.least r.ok.most (rest-long p lo hi n ws es m r) (inl refl, (tt, tt)) fl (λ x. word-flushed)

    pub take-through : Through (Cuts p n keys C C) (λ m'. AtRest p n taken es m' × Flushed p n m') (take_of c old s) m
    take-through = (
      stays-old p lo hi n keys C C m (ws, es, r, few, h),
      (stays-old p lo hi n keys C C m1 (taken, es, r1, few, h1), (rest-quiet p lo hi n taken es m1 r1 (Flush (line_of (directory_word c))) tt, fl2)),
    )

    -- its first block
    abbrev u : ℕ
    u = first_unit p c

    first-unit : (unit_chunk p u ≡ c) × (unit_in p u ≡ 0)
    first-unit =
        let z : u + 0 ≡ u = omega arith in
        let a = units-words p lo hi in
        let b = past-directory p lo hi c (base p c) low (omega arith) in
        let q = unit-at p lo hi c 0 (let f = Z.size_is p s size in let g = f.0 in let i = f.1 in omega arith) in
        rw z at q

    pub first_slot : Slot p n taken es u s
    first_slot =
        let q = first-unit in
        let f = Z.size_is p s size in
        let g = f.0 in
        let i = f.1 in
        let in-ws : directory_word c < length ws = rw (← rest-length p lo hi n ws es m r) in-m in record {
          low = rw q.0 low;
          high = rw q.0 high;
          size = rw q.0 (size_is p taken c ∙ ap (λ (x : ℕ). size_in (role_of p x)) (get_or-set_same ws (directory_word c) w 0 in-ws) ∙ (data-word p n c old s low high size).1);
          some' = omega arith;
          ends = rw q.1 (omega arith);
          aligned = rw q.1 (zero-mod s);
          dead = λ e t pt k. no_block e t pt (ap (unit_chunk p) k ∙ q.0);
        }

    pub take-stage-to : (words : List ℕ) → length words ≤ 32 * s → (Q : List Entry → Type 0) → Q es → Through (CutsTo p n Q) (CutsTo p n Q) (take_of c old s ++ block_of u words) m
    take-stage-to words fit Q a =
        let r2 = rest-quiet p lo hi n taken es m1 r1 (Flush (line_of (directory_word c))) tt in
        (rest-to p lo hi n ws es m r Q a, (rest-to p lo hi n taken es m1 r1 Q a, stage-to n es taken m2 u s words r2 first_slot fit Q a))

    -- STAGING A LARGE VALUE into the first block of a free chunk
    pub take-stage-through : (words : List ℕ) → length words ≤ 32 * s
        → Through (Cuts p n keys C C) (Stored p n es C ws m u w words) (take_of c old s ++ block_of u words) m
    take-stage-through words fit =
        through-append (Cuts p n keys C C) (Stored p n es C ws m u w words) (take_of c old s) (block_of u words) m
        (through-map (Cuts p n keys C C) (Cuts p n keys C C) (λ m'. AtRest p n taken es m' × Flushed p n m') (Through (Cuts p n keys C C) (Stored p n es C ws m u w words) (block_of u words)) (take_of c old s) m (λ m' t. t) then' take-through)
      where
        here : directory_word (unit_chunk p u) ≡ directory_word c
        here = ap directory_word first-unit.0

        same_word : get_or taken (directory_word (unit_chunk p u)) 0 ≡ w
        same_word = let in-ws : directory_word c < length ws = rw (← rest-length p lo hi n ws es m r) in-m in rw here (get_or-set_same ws (directory_word c) w 0 in-ws)

        -- what taking the chunk leaves of another word
        before : (k : ℕ) → (k ≡ directory_word c → ⊥) → Dec (k < length m) → (cell_at m k).newer ≡ [] → (cell_at m2 k).newer ≡ []
        before k ne (yes l) x = ap (λ (y : Cell). y.newer) (W.cell-run (take_of c old s) m k l) ∙ (avoids-run (take_of c old s) k (cell_at m k) (ne, (tt, tt))).1 x
        before k ne (no l) x = ap (λ (y : Cell). y.newer) (get_or-eq_default m2 (fresh 0) (rw (W.length_run (take_of c old s) m) (omega arith)))

        widen : (m' : Medium) → Stored p n es C taken m2 u (get_or taken (directory_word (unit_chunk p u)) 0) words m' → Stored p n es C ws m u w words m'
        widen m' t = record {
          image = t.image;
          rests = t.rests;
          flushed = t.flushed;
          holds = t.holds;
          word = t.word ∙ same_word;
          block = t.block;
          others = λ k ne o.
              let ne' : k ≡ directory_word c → ⊥ = λ e. ne (e ∙ sym here) in
              let x = t.others k ne o in
              (x.0 ∙ get_or-set_other ws (directory_word c) k w 0 ne', λ y. x.1 (before k ne' (dec_lt k (length m)) y));
        }

        then' : AtRest p n taken es m2 × Flushed p n m2 → Through (Cuts p n keys C C) (Stored p n es C ws m u w words) (block_of u words) m2
        then' (r2, f2) =
            through-map (Cuts p n keys C C) (Cuts p n keys C C) (Stored p n es C taken m2 u (get_or taken (directory_word (unit_chunk p u)) 0) words) (Stored p n es C ws m u w words) (block_of u words) m2 (λ m' t. t)
            (widen (run (block_of u words) m2)) (stage_through n keys es C taken m2 u s words r2 h1 few f2 first_slot fit)

-- the counts of actions: a store for each word, a flush for each line; two more where a chunk is taken
pub block-count : (u : ℕ) (words : List ℕ) → length (block_of u words) ≡ length words + (length words + 7) / 8
unfolding block_of
block-count u words = rw (length-append, length-writes, length-flushes)

pub take-block-count : (c old s u : ℕ) (words : List ℕ) → length (take_of c old s ++ block_of u words) ≡ 2 + (length words + (length words + 7) / 8)
take-block-count c old s u words = rw (length-append (take_of c old s) (block_of u words), block-count u words)
