-- A directory word that counts lines already written: which image that gives, and what it holds.
-- Assumes nothing.
use mathlib.Core.Path.{◌≡◌, refl, sym, ◌∙◌, ap}
use mathlib.Core.Logic.{◌⊎◌, inl, inr}
use mathlib.Core.Bool.{true}
use mathlib.Core.List.{List, [], ◌∷◌, ◌++◌, append_assoc}
use Prim.Native.Nat.{ℕ, suc, ◌+◌, ◌-◌, ◌*◌, ◌≤◌, ◌<◌}
use native.Mathlib.Omega.{arith}
use native.Mathlib.Decide.{ℕ_discrete, dec_lt}
use lib.ListN.{length, get_or, set, take, drop, length-set, length-take, length-drop}
use lib.Seq.{slice, length-slice, get_or-set_same, get_or-set_other, get_or-take, get_or-drop, ext_get_or, take-add, drop-append-le, take-set-lt, take-set-le, drop-set-lt}
use Rattle.spec.specs.Places.{chunk_words, base, unit_chunk, unit_word, directory_word, max_chunks}
use Rattle.spec.specs.Directory.{role_of, lines_in, directory_right, lines_of, size_of, log_word}
use Rattle.spec.specs.Log.{Entry, Entries, parse, entries_of, chunk_entries, join, all_from, image_entries, placed}
use Rattle.spec.specs.Blocks.{pointed, block_words}
use Rattle.spec.specs.Contents.{Held, contents_by, meaning}
use Rattle.spec.specs.Opening.{fine}
use Rattle.theory_log.specs.Batch.{AllRight}
use Rattle.theory_log.specs.Contents.{done, Mem, Top}
use Rattle.theory_base.proofs.Places.{lines-words, base-apart, past-directory, one_chunk}
use Rattle.theory_log.proofs.Parse.{prepend-entries}
use Rattle.theory_log.proofs.Batch.{parse-commit}
use Rattle.theory_log.proofs.Image.{all_split, all-agree, Joined, join-inv}
use Rattle.theory_log.proofs.Contents.{done-same, mem-l, mem-r, mem-cases}
use Rattle.theory_log.proofs.Directory.{lines-is}
use Rattle.theory_log.proofs.Tops.{contents-mean}
use Rattle.theory_crash.specs.Accepted.{Needs, Ok}
use Rattle.theory_crash.specs.Batch.{entry_words, Batch}
use Rattle.theory_crash.proofs.Directory.{log-word, header-agree, power-agree}
use Rattle.theory_crash.proofs.Blocks.{Fits, block-fits, fits_in, needs-only}
use Rattle.theory_crash.proofs.Frame.{directory-in}

-- Slices.
pub slice_set : (f t i v : ℕ) (l : List ℕ) → i < f → slice f t (set l i v) ≡ slice f t l
slice_set f t i v l h = go (dec_lt i t)
  where
    go : Dec (i < t) → slice f t (set l i v) ≡ slice f t l
    go (yes q) = rw (take-set-lt t l i v q) (drop-set-lt f (take t l) i v h)
    go (no q) = rw (take-set-le t l i v (omega arith))

pub slice-longer : (f g r : ℕ) (l xs : List ℕ) → f ≤ g → g + r ≤ length l → length xs ≡ r → ((j : ℕ) → j < r → get_or l (g + j) 0 ≡ get_or xs j 0) → slice f (g + r) l ≡ slice f g l ++ xs
slice-longer f g r l xs h k e s = rw (take-add g r l) (drop-append-le f (take g l) (take r (drop g l)) (rw length-take (omega arith)) ∙ ap (λ (y : List ℕ). slice f g l ++ y) rest)
  where
    len : length (take r (drop g l)) ≡ r
    len = rw (length-take, length-drop) (omega arith)

    rest : take r (drop g l) ≡ xs
    rest = ext_get_or 0 (take r (drop g l)) xs (len ∙ sym e) (λ i u. let u' : i < r = rw len at u in rw (get_or-take r (drop g l) i 0 u', get_or-drop) (s i u'))

-- the batch stands in the middle of the list
pub commit-shape : (p i j c n d z : ℕ) (ws vs : List ℕ) (es fs : List Entry) → n ≡ i + suc j → d ≡ c + i
    → ((e : ℕ) → c ≤ e → (e ≡ d → ⊥) → chunk_entries p vs e ≡ chunk_entries p ws e)
    → slice (base p d) (base p d + 8 * lines_of p vs d) vs ≡ slice (base p d) (base p d + 8 * lines_of p ws d) ws ++ entry_words fs z
    → AllRight fs → all_from p n c ws ≡ Entries es → (at : ℕ) → at ≡ base p d + length (slice (base p d) (base p d + 8 * lines_of p ws d) ws)
    → (xs : List Entry) × (ys : List Entry) × (es ≡ xs ++ ys) × (all_from p n c vs ≡ Entries (xs ++ (placed at fs ++ ys)))
commit-shape p i j c n d z ws vs es fs a b others same right ok at place = go (join-inv _ _ es (sym (all_split p i j c n d ws a b) ∙ ok))
  where
    batch : List Entry
    batch = placed at fs

    Goal : Type 0
    Goal = (xs : List Entry) × (ys : List Entry) × (es ≡ xs ++ ys) × (all_from p n c vs ≡ Entries (xs ++ (batch ++ ys)))

    before : all_from p i c vs ≡ all_from p i c ws
    before = all-agree p i c ws vs (λ e l u. others e l (λ x. omega arith))

    behind : all_from p j (suc d) vs ≡ all_from p j (suc d) ws
    behind = all-agree p j (suc d) ws vs (λ e l u. others e (omega arith) (λ x. omega arith))

    mine : (xs : List Entry) → chunk_entries p ws d ≡ Entries xs → chunk_entries p vs d ≡ Entries (xs ++ batch)
    mine xs h = rw (same, place) (parse-commit (slice (base p d) (base p d + 8 * lines_of p ws d) ws) xs fs z (base p d) h right)

    two : (as' : List Entry) → all_from p i c ws ≡ Entries as' → (rest : List Entry) → es ≡ as' ++ rest → Joined (chunk_entries p ws d) (all_from p j (suc d) ws) rest → Goal
    two as' h rest w r =
        let cs = r.left in
        let bs = r.right in
        let whole : es ≡ (as' ++ cs) ++ bs = w ∙ rw (r.whole, append_assoc) in
        let lists : as' ++ ((cs ++ batch) ++ bs) ≡ (as' ++ cs) ++ (batch ++ bs) = simp append_assoc in (
          as' ++ cs,
          bs,
          whole,
          all_split p i j c n d vs a b ∙ rw (before, h, mine cs r.is-left, behind, r.is_right, prepend-entries (cs ++ batch) bs, prepend-entries as' ((cs ++ batch) ++ bs), lists),
        )

    go : Joined (all_from p i c ws) (join (chunk_entries p ws d) (all_from p j (suc d) ws)) es → Goal
    go r = two r.left r.is-left r.right r.whole (join-inv _ _ r.right r.is_right)

pub done-mean : (mean mean' : Entry → Held) (batch : List Entry) → ((e : Entry) → Mem e batch → mean' e ≡ mean e) → (c : ℕ → Held) (k : ℕ) → done mean' batch c k ≡ done mean batch c k
done-mean mean mean' [] h c k = refl
done-mean mean mean' (e ∷ es) h c k = done-mean mean mean' es (λ f m. h f (inr m)) _ k ∙ done-same mean es _ _ (λ j. rw (h e (inl refl))) k

module _ (p : ℕ) (lo : 12 ≤ p) (hi : p ≤ 16) where
  -- no block lies in chunk d
  pub not-mine : (n d : ℕ) (ws : List ℕ) (es : List Entry) → Ok p n ws es → 1 ≤ d → d < n → size_of p ws d ≡ 0 → (e : Entry) → fine p n ws e ≡ true → (k : ℕ) → Needs p ws e k
      → (k ≡ directory_word d → ⊥) × ((k < base p d) ⊎ (base p d + chunk_words p ≤ k)) × (k < length ws)
  not-mine n d ws es ok dl dh no-data e f k (pt, need) = go need
    where
      u : ℕ
      u = e.field

      x : Fits p n u (size_of p ws (unit_chunk p u)) (get_or ws (unit_word u) 0)
      x = block-fits p n u (size_of p ws (unit_chunk p u)) (get_or ws (unit_word u) 0) _ (rw pt at f)

      other : unit_chunk p u ≡ d → ⊥
      other q = let s = x.some' in let s' : 1 ≤ size_of p ws d = rw q at s in omega arith

      side : base p (unit_chunk p u) ≤ k → k < base p (unit_chunk p u) + chunk_words p → (k < base p d) ⊎ (base p d + chunk_words p ≤ k)
      side a b = two (dec_lt k (base p d)) (dec_lt k (base p d + chunk_words p))
        where
          two : Dec (k < base p d) → Dec (k < base p d + chunk_words p) → (k < base p d) ⊎ (base p d + chunk_words p ≤ k)
          two (yes y) w = inl y
          two (no y) (no w) = inr (omega arith)
          two (no y) (yes w) = absurd (other (one_chunk p lo hi (unit_chunk p u) d k a b (omega arith) w))

      go : (k ≡ directory_word (unit_chunk p u)) ⊎ ((unit_word u ≤ k) × (k < unit_word u + 1 + block_words ws u)) → (k ≡ directory_word d → ⊥) × ((k < base p d) ⊎ (base p d + chunk_words p ≤ k)) × (k < length ws)
      go (inl q) =
          let h = x.high in
          let m = ok.most in
          let b = past-directory p lo hi d (base p d) dl (omega arith) in
          ((λ r. other (omega arith)), inl (omega arith), (rw q (directory-in p lo hi n ws es ok (unit_chunk p u) (omega arith))))
      go (inr (a, b)) =
          let i = fits_in p lo hi n u _ _ k x a b in
          let far = past-directory p lo hi (unit_chunk p u) k x.low i.0 in
          let m = ok.most in
          ((λ r. omega arith), side i.0 i.1, rw ok.long i.2)

  module _ (n d old l b z : ℕ) (ws : List ℕ) (es fs : List Entry) (E : (Entry → Held) → (ℕ → Held) → ℕ → Held) (ok : Ok p n ws es) (bt : Batch p n d l b z ws es fs E)
      (here : (j : ℕ) → j < 8 * b → get_or ws (base p d + 8 * l + j) 0 ≡ get_or (entry_words fs z) j 0) where
    abbrev pub published : List ℕ
    published = set ws (directory_word d) (log_word old (l + b))

    abbrev pub batch : List Entry
    batch = placed (base p d + 8 * l) fs

    pub other_word : (k : ℕ) → (k ≡ directory_word d → ⊥) → get_or published k 0 ≡ get_or ws k 0
    other_word k h = get_or-set_other ws (directory_word d) k (log_word old (l + b)) 0 h

    pub this-word : get_or published (directory_word d) 0 ≡ log_word old (l + b)
    this-word = let q = bt.high in let m = ok.most in get_or-set_same ws (directory_word d) (log_word old (l + b)) 0 (directory-in p lo hi n ws es ok d (omega arith))

    word-right : (directory_right p n d (log_word old (l + b)) ≡ true) × (lines_in (role_of p (log_word old (l + b))) ≡ l + b)
    word-right = let s = bt.some' in log-word p n d old (l + b) bt.low bt.high (omega arith) bt.fit

    pub lines-this : lines_of p published d ≡ l + b
    lines-this = lines-is p published d ∙ ap (λ (w : ℕ). lines_in (role_of p w)) this-word ∙ word-right.1

    pub lines_other : (c : ℕ) → (c ≡ d → ⊥) → lines_of p published c ≡ lines_of p ws c
    lines_other c h = lines-is p published c ∙ ap (λ (w : ℕ). lines_in (role_of p w)) (other_word (directory_word c) (λ e. h (omega arith))) ∙ sym (lines-is p ws c)

    -- the directory lies before every chunk
    before-chunk : (c : ℕ) → 1 ≤ c → directory_word d < base p c
    before-chunk c h = let q = bt.high in let m = ok.most in let f = past-directory p lo hi c (base p c) h (omega arith) in omega arith

    pub chunk-other : (c : ℕ) → 1 ≤ c → (c ≡ d → ⊥) → chunk_entries p published c ≡ chunk_entries p ws c
    chunk-other c a h =
        ap (entries_of published (base p c)) (lines_other c h)
        ∙ ap (λ (y : List ℕ). parse y 0 (base p c)) (slice_set (base p c) (base p c + 8 * lines_of p ws c) (directory_word d) (log_word old (l + b)) ws (before-chunk c a))

    -- the lines end within the image
    end : base p d + 8 * l + 8 * b ≤ length ws
    end = let f = bt.fit in let w = lines-words p lo hi in let q = base-apart p lo hi d n bt.high in let g = ok.long in omega arith

    slice-this : slice (base p d) (base p d + 8 * lines_of p published d) published ≡ slice (base p d) (base p d + 8 * lines_of p ws d) ws ++ entry_words fs z
    slice-this =
        let s : base p d + 8 * (l + b) ≡ base p d + 8 * l + 8 * b = omega arith in
        rw (lines-this, bt.lines, slice_set (base p d) (base p d + 8 * (l + b)) (directory_word d) (log_word old (l + b)) ws (before-chunk d bt.low), s)
        (slice-longer (base p d) (base p d + 8 * l) (8 * b) ws (entry_words fs z) (omega arith) end bt.size here)

    place : base p d + 8 * l ≡ base p d + length (slice (base p d) (base p d + 8 * lines_of p ws d) ws)
    place = let g = end in let e = length-slice (base p d) (base p d + 8 * l) ws (omega arith) in rw (bt.lines, e) (omega arith)

    pub shape : (xs : List Entry) × (ys : List Entry) × (es ≡ xs ++ ys) × (image_entries p n published ≡ Entries (xs ++ (batch ++ ys)))
    shape =
        let a = bt.low in
        let q = bt.high in
        commit-shape p (d - 1) (n - 1 - d) 1 (n - 1) d z ws published es fs (omega arith) (omega arith) chunk-other slice-this bt.right ok.parsed (base p d + 8 * l) place

    abbrev pub xs : List Entry
    xs = shape.0

    abbrev pub ys : List Entry
    ys = shape.1

    -- the entries after the commit
    abbrev pub entries : List Entry
    entries = xs ++ (batch ++ ys)

    still : (f : Entry) → Mem f es → Mem f entries
    still f m = go (mem-cases f xs ys (rw shape.2 at m))
      where
        go : Mem f xs ⊎ Mem f ys → Mem f entries
        go (inl a) = mem-l f xs (batch ++ ys) a
        go (inr a) = mem-r f xs (batch ++ ys) (mem-r f batch ys a)

    pub entry-cases : (e : Entry) → Mem e entries → Mem e batch ⊎ Mem e es
    entry-cases e m = go (mem-cases e xs (batch ++ ys) m)
      where
        was : Mem e (xs ++ ys) → Mem e batch ⊎ Mem e es
        was a = inr (rw shape.2 a)

        two : Mem e batch ⊎ Mem e ys → Mem e batch ⊎ Mem e es
        two (inl a) = inl a
        two (inr a) = was (mem-r e xs ys a)

        go : Mem e xs ⊎ Mem e (batch ++ ys) → Mem e batch ⊎ Mem e es
        go (inl a) = was (mem-l e xs ys a)
        go (inr a) = two (mem-cases e batch ys a)

    -- a top entry is of the batch, or was one before
    pub top-cases : (e : Entry) → Top entries e → Mem e batch ⊎ Top es e
    top-cases e (m, above) = go (entry-cases e m)
      where
        go : Mem e batch ⊎ Mem e es → Mem e batch ⊎ Top es e
        go (inl a) = inl a
        go (inr a) = inr (a, λ f mf q. above f (still f mf) q)

    pub fine-same : (e : Entry) → fine p n ws e ≡ true → (fine p n published e ≡ true) × (meaning published e ≡ meaning ws e)
    fine-same e f =
        needs-only p lo hi n ws published e ok.long (length-set ws (directory_word d) (log_word old (l + b)))
        (λ k s. other_word k (not-mine n d ws es ok bt.low bt.high bt.no-data e f k s).0) f

    top_fine : (e : Entry) → Mem e batch ⊎ Top es e → fine p n ws e ≡ true
    top_fine e (inl m) = bt.staged e m
    top_fine e (inr t) = ok.blocks e t

    pub publish-ok : Ok p n published entries
    publish-ok = record {
      least = ok.least;
      most = ok.most;
      long = length-set ws (directory_word d) (log_word old (l + b)) ∙ ok.long;
      header = header-agree n ws published (λ k h. other_word k (λ e. omega arith)) ∙ ok.header;
      power = power-agree ws published (λ k h. other_word k (λ e. omega arith)) ∙ ok.power;
      dirs = λ c h. dirs' c h (ℕ_discrete c d);
      parsed = shape.3;
      blocks = λ e t. (fine-same e (top_fine e (top-cases e t))).0;
      agree = bt.effect.agrees xs ys shape.2 ok.agree;
      apart = λ e f te tf. apart' e f (top-cases e te) (top-cases f tf);
    }
      where
        dirs' : (c : ℕ) → c < max_chunks → Dec (c ≡ d) → directory_right p n c (get_or published (directory_word c) 0) ≡ true
        dirs' c h (yes e) = rw (e, this-word) word-right.0
        dirs' c h (no e) = rw (other_word (directory_word c) (λ q. e (omega arith))) (ok.dirs c h)

        apart' : (e f : Entry) → Mem e batch ⊎ Top es e → Mem f batch ⊎ Top es f → pointed e ≡ true → pointed f ≡ true → e.field ≡ f.field → e.key ≡ f.key
        apart' e f (inl a) o q r s = bt.own e f a o q r s
        apart' e f (inr a) (inl o) q r s = sym (bt.own f e o (inr a) r q (sym s))
        apart' e f (inr a) (inr o) q r s = ok.apart e f a o q r s

    pub publish-contents : (k : ℕ) → contents_by (meaning published) entries k ≡ E (meaning ws) (contents_by (meaning ws) es) k
    publish-contents k =
        bt.effect.gives (meaning published) (λ a e. refl) xs ys shape.2 ok.agree k
        ∙ bt.effect.extends (meaning ws) (meaning published) (contents_by (meaning ws) es) (contents_by (meaning published) es) (λ e m. (fine-same e (bt.staged e m)).1)
        (contents-mean (meaning ws) (meaning published) es (λ e t. (fine-same e (ok.blocks e t)).1)) k
