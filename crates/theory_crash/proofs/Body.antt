-- Stores into words of a chunk that nothing needs, flushes and fences: the medium stays at rest; and what they leave in
-- each word.
-- Assumes nothing.
use mathlib.Core.Path.{◌≡◌, ◌∙◌, ap}
use mathlib.Core.Logic.{◌⊎◌, inl, inr}
use mathlib.Core.List.{List, [], ◌∷◌, ◌++◌}
use Prim.Native.Nat.{ℕ, ◌+◌, ◌*◌, ◌≤◌, ◌<◌}
use native.Mathlib.Omega.{arith}
use lib.ListN.{length, get_or, set}
use lib.Seq.{get_or-set_other}
use Rattle.spec.specs.Places.{chunk_words, chunk_lines, base, first_line, unit_chunk, unit_word, directory_word, max_chunks}
use Rattle.spec.specs.Medium.{Cell, fresh, drained, Action, Store, Flush, Fence, Medium, apply}
use Rattle.spec.specs.Directory.{role_of, lines_in, lines_of, size_of}
use Rattle.spec.specs.Log.{Entry}
use Rattle.spec.specs.Blocks.{block_words}
use Rattle.spec.specs.Contents.{Held, contents_by, meaning}
use Rattle.spec.specs.Actions.{writes, flushes, body_of}
use Rattle.theory_base.proofs.Words.{run_cell, run_cell-append}
use Rattle.theory_base.proofs.Through.{Each}
use Rattle.theory_base.proofs.Places.{lines-words, base-low, past-directory, lines-base, one_chunk, line-in}
use Rattle.theory_log.proofs.Directory.{lines-is, lines-most}
use Rattle.theory_crash.specs.Accepted.{Calm, Ok, Support}
use Rattle.theory_crash.specs.Rest.{AtRest}
use Rattle.theory_crash.proofs.Blocks.{Fits, fits_in}
use Rattle.theory_crash.proofs.Frame.{live-fits, chunk_in}
use Rattle.theory_crash.proofs.Rest.{rest-length, rest-quiet, rest-store, store-contents}
use Rattle.theory_crash.proofs.Cells.{each_append, each-writes, each-flushes, writes-out, writes-hit, flushes-now, flushes-keep, flushes-hit, fenced, Spares}

-- At rest while words of a chunk are written: the entries, the contents and the directory word of chunk d stay.
abbrev pub Busy : ℕ → ℕ → List Entry → (ℕ → Held) → ℕ → ℕ → Medium → Type 0
Busy p n es C d w m = (ws : List ℕ) × AtRest p n ws es m × ((k : ℕ) → contents_by (meaning ws) es k ≡ C k) × (get_or ws (directory_word d) 0 ≡ w)

abbrev pub InArea : ℕ → ℕ → ℕ → Action → Type 0
InArea p d l (Store a v) = (base p d + 8 * l ≤ a) × (a < base p d + chunk_words p)
InArea p d l (Flush x) = Unit {0}
InArea p d l Fence = Unit {0}

module _ (p : ℕ) (lo : 12 ≤ p) (hi : p ≤ 16) where
  -- the words behind the committed lines of a chunk that is no data chunk
  pub free-area : (n : ℕ) (ws : List ℕ) (es : List Entry) (d : ℕ) → Ok p n ws es → 1 ≤ d → d < n → size_of p ws d ≡ 0
      → (a : ℕ) → base p d + 8 * lines_of p ws d ≤ a → a < base p d + chunk_words p → Support p n ws es a → ⊥
  free-area n ws es d ok b c z a l u (inl s) = let q = past-directory p lo hi d a b (omega arith) in omega arith
  free-area n ws es d ok b c z a l u (inr (inl (x, x1, x2, x3, e))) = let q = past-directory p lo hi d a b (omega arith) in let most = ok.most in omega arith
  free-area n ws es d ok b c z a l u (inr (inr (inl (x, x1, x2, x3, x4)))) =
      let e = one_chunk p lo hi x d a x3 (line-in p lo hi x (lines_of p ws x) a (lines-most p ws x) x4) (omega arith) u in
      let x4' : a < base p d + 8 * lines_of p ws d = rw e at x4 in
      omega arith
  free-area n ws es d ok b c z a l u (inr (inr (inr (e, t, (pt, need))))) = go need
    where
      x : Fits p n e.field (size_of p ws (unit_chunk p e.field)) (get_or ws (unit_word e.field) 0)
      x = live-fits p lo hi n ws es ok e t pt

      go : (a ≡ directory_word (unit_chunk p e.field)) ⊎ ((unit_word e.field ≤ a) × (a < unit_word e.field + 1 + block_words ws e.field)) → ⊥
      go (inl r) = let q = past-directory p lo hi d a b (omega arith) in let most = ok.most in let h = x.high in omega arith
      go (inr (f, g)) =
          let i = fits_in p lo hi n e.field _ _ a x f g in
          let same = one_chunk p lo hi (unit_chunk p e.field) d a i.0 i.1 (omega arith) u in
          let s = x.some' in
          let s' : 1 ≤ size_of p ws d = rw same at s in
          omega arith

  pub busy-kept : (n : ℕ) (es : List Entry) (C : ℕ → Held) (d w : ℕ) → 1 ≤ d → d < n → ((ws : List ℕ) → get_or ws (directory_word d) 0 ≡ w → size_of p ws d ≡ 0)
      → (a : Action) (m : Medium) → InArea p d (lines_in (role_of p w)) a → Busy p n es C d w m → Busy p n es C d w (apply a m)
  busy-kept n es C d w b c z (Store a v) m (l, u) (ws, r, h, e) =
      let ls : lines_of p ws d ≡ lines_in (role_of p w) = lines-is p ws d ∙ ap (λ (x : ℕ). lines_in (role_of p x)) e in
      let far = past-directory p lo hi d a b (omega arith) in
      let most = r.ok.most in
      let out : Support p n ws es a → ⊥ = free-area n ws es d r.ok b c (z ws e) a (rw ls l) u in
      let inside : a < length m = rw (rest-length p lo hi n ws es m r) (chunk_in p lo hi n ws es r.ok d a c u) in
      let says : (x : ℕ) → x < max_chunks → a ≡ directory_word x → Calm p n x v = λ x y f. absurd (omega arith) in (
        set ws a v,
        rest-store p lo hi n ws es m r a v inside out says,
        λ k. store-contents p lo hi n ws es m r a v inside out says k ∙ h k,
        get_or-set_other ws a (directory_word d) v 0 (λ f. omega arith) ∙ e,
      )
  busy-kept n es C d w b c z (Flush x) m f (ws, r, h, e) = (ws, rest-quiet p lo hi n ws es m r (Flush x) tt, h, e)
  busy-kept n es C d w b c z Fence m f (ws, r, h, e) = (ws, rest-quiet p lo hi n ws es m r Fence tt, h, e)

  module _ (d l b : ℕ) (words : List ℕ) (size : length words ≡ 8 * b) where
    pub each-body : l + b ≤ chunk_lines p → Each (InArea p d l) (body_of p d l b words)
    unfolding body_of
    each-body h =
        let q = lines-words p lo hi in
        each_append (InArea p d l) (writes (base p d + 8 * l) words) _ (each-writes (InArea p d l) (base p d + 8 * l) words (λ k v x y. (x, omega arith)))
        (each_append (InArea p d l) (flushes (first_line p d + l) b) _ (each-flushes (InArea p d l) (first_line p d + l) b (λ x. tt)) (tt, tt))

    pub body-spares : 1 ≤ d → Each (Spares d) (body_of p d l b words)
    unfolding body_of
    body-spares h =
        let q = base-low p lo hi d h in
        each_append (Spares d) (writes (base p d + 8 * l) words) _ (each-writes (Spares d) (base p d + 8 * l) words (λ k v x y. inr (omega arith)))
        (each_append (Spares d) (flushes (first_line p d + l) b) _ (each-flushes (Spares d) (first_line p d + l) b (λ x. tt)) (tt, tt))

    -- Word by word.
    module _ (k : ℕ) (c : Cell) where
      abbrev written : Cell
      written = run_cell (writes (base p d + 8 * l) words) k c

      body_is : run_cell (body_of p d l b words) k c ≡ drained (run_cell (flushes (first_line p d + l) b) k written)
      unfolding body_of
      body_is = run_cell-append (writes (base p d + 8 * l) words) (flushes (first_line p d + l) b ++ (Fence ∷ [])) k c ∙ run_cell-append (flushes (first_line p d + l) b) (Fence ∷ []) k written

      -- a word that was written
      pub body-hit : (j : ℕ) → k ≡ base p d + 8 * l + j → j < 8 * b → run_cell (body_of p d l b words) k c ≡ fresh (get_or words j 0)
      body-hit j q h =
          let e = lines-base p lo hi d in
          body_is ∙ fenced (run_cell (flushes (first_line p d + l) b) k written) (get_or words j 0)
          (flushes-now (first_line p d + l) b k written ∙ writes-hit (base p d + 8 * l) words k j c q (omega arith))
          (flushes-hit (first_line p d + l) b k written (omega arith) (omega arith))

      -- another word, of which nothing is unflushed
      pub body-out : (k < base p d + 8 * l) ⊎ (base p d + 8 * l + 8 * b ≤ k) → c.newer ≡ [] → run_cell (body_of p d l b words) k c ≡ fresh c.now
      body-out h u =
          let s : written ≡ c = writes-out (base p d + 8 * l) words k c (rw size h) in
          body_is ∙ fenced (run_cell (flushes (first_line p d + l) b) k written) c.now
          (flushes-now (first_line p d + l) b k written ∙ ap (λ (x : Cell). x.now) s)
          (flushes-keep (first_line p d + l) b k written (ap (λ (x : Cell). x.newer) s ∙ u))

      -- what is read of another word is what it was
      pub body-now : (k < base p d + 8 * l) ⊎ (base p d + 8 * l + 8 * b ≤ k) → (run_cell (body_of p d l b words) k c).now ≡ c.now
      body-now h = ap (λ (x : Cell). x.now) body_is ∙ flushes-now (first_line p d + l) b k written ∙ ap (λ (x : Cell). x.now) (writes-out (base p d + 8 * l) words k c (rw size h))
