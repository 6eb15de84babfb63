-- The pass that gathers from the copy: the reading, what is left from a cursor on, at the beginning, after one more
-- entry, and at the end.
-- Assumes nothing.
use Rattle.std.proofs.Common.{◌≡◌, ℕ, zero, suc, ◌+◌, ◌-◌, ◌*◌, ◌/◌, ◌<◌, ◌≤◌, min, Bool, true, false, eqb, List, [], ◌∷◌, length, get_or, take, drop, set, sym, refl, ap, ◌∙◌, inl, inr, append-nil, add-zero, zero-add, arith, length-set, get_or-set_other, get_or-set_same, ext_get_or}
use mathlib.Core.Logic.{by_cases}
use native.Mathlib.Decide.{ℕ_discrete}
use lib.Seq.{slice}
use Rattle.spec.specs.declared.Size.{Size}
use Rattle.places.specs.Sizes.{power_of, power-low, power-high}
use Rattle.spec.specs.Places.{chunk_words, chunk_bytes}
use Rattle.spec.specs.Basics.{filter, pick}
use Rattle.spec.specs.Words.{word_at, words_of}
use Rattle.spec.specs.declared.LogStep.{LogStep}
use Rattle.spec.specs.declared.LogStep.TheVariants as S
use Rattle.spec.specs.Log.{Entry, Parsed, Wrong, Entries, cons, after, step_of, parse, moved, encode}
use Rattle.theory_base.proofs.Places.{words-most, bytes-words}
use Rattle.theory_log.proofs.Parse.{cons_inv}
use Rattle.theory_log.proofs.Walk.{slice-long, slice_at}
use Rattle.words.specs.Image.{length-words_of, get_or-words_of}
use Rattle.logs.specs.declared.Cursor.{Cursor}
use Rattle.logs.specs.declared.Entry as F
use Rattle.logs.specs.declared.ShortPut.{ShortPut}
use Rattle.logs.specs.Cursor.{cursor_at, remaining, with_value, Handed}
use Rattle.logs.proofs.Walk.{next-found}
use Rattle.volatile.specs.Known.{entry_count}
use Rattle.session.specs.State.{buffer_part}
use Rattle.session.specs.Cleaned.{Stand}
use Rattle.forward.proofs.Walks.{from-here, Ended}
use Rattle.gathering.specs.declared.measure.Tally.{Tally}
use Rattle.gathering.specs.Measuring.{Decided, KeptTest, kept_test}
use Rattle.gathering.proofs.SizeWords.{kept-words}
use Rattle.gathering.specs.Reading.{ChunkRead, lifted, Owing, OneTaken, Collecting, PutsTaken, Walked, RestTaken, Collected}

-- ## The reading

-- the bytes before i are read
pub record Reads (room : ℕ) (image copy : List ℕ) (from i : ℕ) : Type 0 where
  pub long : length copy ≡ room
  pub bytes : (j : ℕ) → j < i → get_or copy j 0 ≡ get_or image (from + j) 0

pub reads-start : (image copy : List ℕ) (from : ℕ) → Reads (length copy) image copy from 0
reads-start image copy from = record { long = refl; bytes = λ j l. absurd (omega arith) }

pub reads-next : (room : ℕ) (image copy copy' : List ℕ) (from i : ℕ) → Reads room image copy from i → i < room → copy' ≡ set copy i (get_or image (from + i) 0) → Reads room image copy' from (i + 1)
reads-next room image copy copy' from i r low is = record {
  long = ap length is ∙ length-set copy i (get_or image (from + i) 0) ∙ r.long;
  bytes = λ j l. ap (λ (b : List ℕ). get_or b j 0) is ∙ by_cases (ℕ_discrete j i)
      (λ q. rw q (get_or-set_same copy i (get_or image (from + i) 0) 0 (let z = r.long in omega arith)))
      (λ n. get_or-set_other copy i j (get_or image (from + i) 0) 0 n ∙ r.bytes j (omega arith));
}

word_read : (image copy : List ℕ) (at i n : ℕ) → ((j : ℕ) → j < 8 * n → get_or copy j 0 ≡ get_or image (8 * at + j) 0) → i < n → word_at copy i ≡ word_at image (at + i)
unfolding word_at
word_read image copy at i n h l =
    rw (h (8 * i) (omega arith) ∙ ap (λ (x : ℕ). get_or image x 0) (let e : 8 * at + 8 * i ≡ 8 * (at + i) = omega arith in e), byte 1 (omega arith), byte 2 (omega arith), byte 3 (omega arith), byte 4 (omega arith), byte 5 (omega arith), byte 6 (omega arith), byte 7 (omega arith))
  where
    byte : (j : ℕ) → j < 8 → get_or copy (8 * i + j) 0 ≡ get_or image (8 * (at + i) + j) 0
    byte j u = h (8 * i + j) (omega arith) ∙ ap (λ (x : ℕ). get_or image x 0) (let e : 8 * at + (8 * i + j) ≡ 8 * (at + i) + j = omega arith in e)

pub read_none : (size : Size) → (image copy : List ℕ) (at end stop : ℕ) → length copy ≡ chunk_bytes (power_of size) → stop ≡ min end (length image / 8) → stop ≤ at → ChunkRead size image copy at end 0
read_none size image copy at end stop long is h = record {
  long = long;
  few = omega arith;
  words = λ s. ext_get_or 0 (slice 0 0 (words_of copy)) (slice at end (words_of image)) (slice-long 0 0 (words_of copy) ∙ sym (slice-long at end (words_of image) ∙ none)) (λ i l. absurd (let z = slice-long 0 0 (words_of copy) in omega arith));
}
  where
    none : min end (length (words_of image)) - at ≡ min 0 (length (words_of copy)) - 0
    none = let l = length-words_of image in omega arith

pub read_all : (size : Size) → (image copy : List ℕ) (at end stop n : ℕ) → stop ≡ min end (length image / 8) → at < stop → n ≡ min (stop - at) (chunk_words (power_of size)) → length copy ≡ chunk_bytes (power_of size) → ((j : ℕ) → j < 8 * n → get_or copy j 0 ≡ get_or image (8 * at + j) 0) → ChunkRead size image copy at end n
read_all size image copy at end stop n is low is-n long read = record {
  long = long;
  few = omega arith;
  words = λ s. ext_get_or 0 (slice 0 n (words_of copy)) (slice at end (words_of image)) (long-copy ∙ sym (long-image s)) (λ j l. each j (rw long-copy at l) s);
}
  where
    copy-words : length (words_of copy) ≡ chunk_words (power_of size)
    copy-words = length-words_of copy ∙ (let z = long in let w = bytes-words (power_of size) (power-low size) (power-high size) in let q : length copy / 8 ≡ chunk_words (power_of size) = omega arith in q)

    long-copy : length (slice 0 n (words_of copy)) ≡ n
    long-copy = slice-long 0 n (words_of copy) ∙ (let z = copy-words in let q : min n (length (words_of copy)) - 0 ≡ n = omega arith in q)

    long-image : end ≤ at + chunk_words (power_of size) → length (slice at end (words_of image)) ≡ n
    long-image s = slice-long at end (words_of image) ∙ (let l = length-words_of image in let z : min end (length (words_of image)) - at ≡ n = omega arith in z)

    each : (j : ℕ) → j < n → end ≤ at + chunk_words (power_of size) → get_or (slice 0 n (words_of copy)) j 0 ≡ get_or (slice at end (words_of image)) j 0
    each j l s =
        let z = long in
        let w = bytes-words (power_of size) (power-low size) (power-high size) in
        slice_at 0 n (words_of copy) j (omega arith)
        ∙ rw (zero-add j) (get_or-words_of copy j (omega arith))
        ∙ word_read image copy at j n read l
        ∙ sym (slice_at at end (words_of image) j (omega arith) ∙ get_or-words_of image (at + j) (omega arith))

-- ## Entries of the copy, at their places in the image

abbrev lift_p : ℕ → Parsed → Parsed
lift_p d Wrong = Wrong
lift_p d (Entries es) = Entries (lifted d es)

lift-cons : (d : ℕ) (e : Entry) (q : Parsed) → cons (moved (d + e.at) e) (lift_p d q) ≡ lift_p d (cons e q)
lift-cons d e Wrong = refl
lift-cons d e (Entries es) = refl

lift-parse : (d : ℕ) (l : List ℕ) (skip at : ℕ) → parse l skip (d + at) ≡ lift_p d (parse l skip at)
lift-parse d [] skip at = refl
lift-parse d (w ∷ ws) (suc n) at = let e : suc (d + at) ≡ d + suc at = omega arith in rw e (lift-parse d ws n (suc at))
lift-parse d (w ∷ ws) zero at = go (step_of (w ∷ ws)) (λ n. lift-parse d ws n (suc at))
  where
    go : (s : LogStep) → ((n : ℕ) → parse ws n (d + suc at) ≡ lift_p d (parse ws n (suc at))) → after s (w ∷ ws) (d + at) (λ n. parse ws n (suc (d + at))) ≡ lift_p d (after s (w ∷ ws) at (λ n. parse ws n (suc at)))
    go S.End h = refl
    go S.Wrong h = refl
    go S.Padding h = let e : suc (d + at) ≡ d + suc at = omega arith in rw e (h 0)
    go (S.Entry op pl v x k m) h =
        let e : suc (d + at) ≡ d + suc at = omega arith in
        let f : Entry = record { op = op; placement = pl; version = v; field = x; key = k; value = take m (drop 2 (w ∷ ws)); at = at } in
        ap (λ (q : Parsed). cons (moved (d + at) f) q) (ap (λ (i : ℕ). parse ws (suc m) i) e ∙ h (suc m)) ∙ lift-cons d f (parse ws (suc m) (suc at))

lowered : (d : ℕ) (q : Parsed) (es : List Entry) → lift_p d q ≡ Entries es → (fs : List Entry) × (q ≡ Entries fs) × (es ≡ lifted d fs)
lowered d Wrong es h = absurd (let z : ◌≡◌ {A = ℕ} 0 1 = cc in omega arith)
lowered d (Entries fs) es h = (fs, refl, let e : es ≡ lifted d fs = cc in e)

-- the entries of the copy
pub in-copy : (ws real : List ℕ) (at end n : ℕ) (mid : List Entry) → slice 0 n ws ≡ slice at end real → Stand real at end mid → (fs : List Entry) × Stand ws 0 n fs × (mid ≡ lifted at fs)
in-copy ws real at end n mid same h =
    let a : parse (slice 0 n ws) 0 (at + 0) ≡ Entries mid = rw (add-zero at, same) h in
    lowered at (parse (slice 0 n ws) 0 0) mid (sym (lift-parse at (slice 0 n ws) 0 0) ∙ a)

count-lifted : (k d : ℕ) (es : List Entry) → entry_count k (lifted d es) ≡ entry_count k es
count-lifted k d [] = refl
count-lifted k d (e ∷ es) = go (eqb e.key k) (count-lifted k d es)
  where
    go : (b : Bool) → entry_count k (lifted d es) ≡ entry_count k es
        → length (pick b (moved (d + e.at) e ∷ filter (λ (f : Entry). eqb f.key k) (lifted d es)) (filter (λ (f : Entry). eqb f.key k) (lifted d es)))
        ≡ length (pick b (e ∷ filter (λ (f : Entry). eqb f.key k) es) (filter (λ (f : Entry). eqb f.key k) es))
    go true h = ap suc h
    go false h = h

pub decided-real : (size : Size) → (ws real table counts : List ℕ) (at end n op key : ℕ) → n ≤ chunk_words (power_of size) → slice 0 n ws ≡ slice at end real → Decided size ws table counts 0 n op key → Decided size real table counts at end op key
decided-real size ws real table counts at end n op key few same (inl e) = inl e
decided-real size ws real table counts at end n op key few same (inr (inl e)) = inr (inl e)
decided-real size ws real table counts at end n op key few same (inr (inr c)) =
    inr (inr (record { says = λ mid s u k. let f = in-copy ws real at end n mid same s in c.says f.0 f.1 (omega arith) k ∙ sym (ap (entry_count k) f.2 ∙ count-lifted k at f.0) }))

-- ## The pass

owing-start : (kept : List ℕ) (test : Entry → Bool) (mid todo : List Entry) → mid ≡ todo → Owing kept test mid (record { words = 0; entries = 0 }) todo
owing-start kept test mid todo e = record { words = rw e; count = rw e (omega arith); inside = λ f m. rw e m }

module _ (size : Size) (ws table : List ℕ) (at n : ℕ) where
  pub collects-start : (kept : List ℕ) → length kept ≡ chunk_words (power_of size) → Collecting size ws table kept at n (record { words = 0; entries = 0 }) (cursor_at 0 0 n)
  collects-start kept long = record {
    long = long;
    bound = omega arith;
    goes = λ real end keys xs mid ys few full same g.
        let f = in-copy ws real at end n mid same g.here in
        (f.0, from-here size ws 0 n ∙ f.1, owing-start kept (kept_test xs mid ys) mid (lifted at f.0) f.2);
  }

  -- one entry more, which stands in the copy at word a
  pub collects-next : (kept : List ℕ) (t : Tally) (c : Cursor) → Collecting size ws table kept at n t c → (f : F.Entry) → Handed (power_of size) 0 ws c f
      → (counts : List ℕ) → Decided size ws table counts 0 n f.op f.key → (place : ℕ) → place ≡ at + f.place → (is : Bool) → KeptTest size table counts f.op f.key place is
      → (kept' : List ℕ) (t' : Tally) → OneTaken size ws kept kept' t is f.place f.words t' → Collecting size ws table kept' at n t' f.behind
  collects-next kept t c inv f h counts decided place ep is test kept' t' one = record {
    long = one.long;
    bound = one.bound inv.bound;
    goes = λ real end keys xs mid ys few full same g.
        let q = inv.goes real end keys xs mid ys few full same g in
        let e = with_value ws f in
        let o = cons_inv e (remaining (power_of size) 0 ws f.behind) q.0 (sym h.whole ∙ q.1) in
        let w : Owing kept (kept_test xs mid ys) mid t (moved (at + f.place) e ∷ lifted at o.0) = rw o.2 at q.2 in
        let kept-is : is ≡ kept_test xs mid ys (moved (at + f.place) e) = test.kept real at end keys xs mid ys (moved (at + f.place) e) g (decided-real size ws real table counts at end n f.op f.key few same decided) (w.inside (moved (at + f.place) e) (inl refl)) refl refl (sym ep) in
        let s = h.size in
        let b = h.stands.fits in
        let w' = words-most (power_of size) (power-low size) (power-high size) in
        let words : take (2 + f.words) (drop f.place ws) ≡ encode (moved (at + f.place) e) = ap (λ (j : ℕ). take (2 + j) (drop f.place ws)) s ∙ h.stands.words in
        (o.0, o.1, one.adds (kept_test xs mid ys) mid (lifted at o.0) (moved (at + f.place) e) (kept-words size real table keys at end xs mid ys g) (omega arith) kept-is (h.stands.right.words ∙ sym s) words (omega arith) w);
  }

  -- the end
  pub collects-end : (kept : List ℕ) (t : Tally) (c : Cursor) → Collecting size ws table kept at n t c → Ended size ws c → Walked size ws table kept at n t
  collects-end kept t c inv d = record {
    long = inv.long;
    bound = inv.bound;
    gathers = λ real end keys xs mid ys few full same g.
        let q = inv.goes real end keys xs mid ys few full same g in
        let o : Owing kept (kept_test xs mid ys) mid t [] = rw (d q.0 q.1) at q.2 in
        (sym (o.words ∙ append-nil (buffer_part kept 0 t.words)), let n = o.count in omega arith);
  }

-- a run of puts: at its beginning, and after one more
module _ (size : Size) (ws table : List ℕ) (at until : ℕ) where
  pub puts-start : (kept : List ℕ) (from : ℕ) (t : Tally) → PutsTaken size ws table kept kept at until from t from t
  puts-start kept from t = record { nearer = λ c. omega arith; long = λ l. l; keeps = λ n c i. i }

  pub puts-more : (kept₀ kept : List ℕ) (from : ℕ) (t₀ : Tally) (a : ℕ) (t : Tally) → PutsTaken size ws table kept₀ kept at until from t₀ a t → (s : ShortPut) → step_of (slice a until ws) ≡ S.Entry 1 0 s.version s.field s.key s.words
      → (counts : List ℕ) (place : ℕ) → place ≡ at + a → (is : Bool) → KeptTest size table counts 1 s.key place is → (kept' : List ℕ) (t' : Tally) → OneTaken size ws kept kept' t is a s.words t' → PutsTaken size ws table kept₀ kept' at until from t₀ (a + (2 + s.words)) t'
  puts-more kept₀ kept from t₀ a t p s q counts place ep is test kept' t' one = record {
    nearer = λ c. let f = (next-found (power_of size) 0 ws c a until 1 0 s.version s.field s.key s.words q).falls in let g = p.nearer c in omega arith;
    long = λ l. one.long;
    keeps = λ n c i. let h = next-found (power_of size) 0 ws c a until 1 0 s.version s.field s.key s.words q in collects-next size ws table at n kept t (cursor_at c a until) (p.keeps n c i) _ h counts (inl refl) place ep is test kept' t' one;
  }

-- what is left to `take_rest`: up to a cursor, from what it began with
pub record RestOn (size : Size) (ws table kept₀ : List ℕ) (at n : ℕ) (start : Cursor) (t₀ : Tally) (kept : List ℕ) (t : Tally) (c : Cursor) : Type 0 where
  pub long : length kept₀ ≡ chunk_words (power_of size) → length kept ≡ chunk_words (power_of size)
  pub goes : Collecting size ws table kept₀ at n t₀ start → Collecting size ws table kept at n t c

pub rest-start : (size : Size) → (ws table kept : List ℕ) (at n : ℕ) (start : Cursor) (t : Tally) → RestOn size ws table kept at n start t kept t start
rest-start size ws table kept at n start t = record { long = λ l. l; goes = λ c. c }

module _ (size : Size) (ws table kept₀ : List ℕ) (at n : ℕ) (start : Cursor) (t₀ : Tally) (kept : List ℕ) (t : Tally) (c : Cursor) (inv : RestOn size ws table kept₀ at n start t₀ kept t c) where
  pub rest-end : Ended size ws c → RestTaken size ws table kept₀ kept at n start t₀ t
  rest-end d = record { walks = λ i. collects-end size ws table at n kept t c (inv.goes i) d }

  pub rest-next : (f : F.Entry) → Handed (power_of size) 0 ws c f → (counts : List ℕ) → Decided size ws table counts 0 n f.op f.key → (place : ℕ) → place ≡ at + f.place → (is : Bool) → KeptTest size table counts f.op f.key place is
      → (kept' : List ℕ) (t' : Tally) → OneTaken size ws kept kept' t is f.place f.words t' → RestOn size ws table kept₀ at n start t₀ kept' t' f.behind
  rest-next f h counts decided place ep is test kept' t' one = record { long = λ l. one.long; goes = λ i. collects-next size ws table at n kept t c (inv.goes i) f h counts decided place ep is test kept' t' one }

-- all of it, with the words read from the image
pub collected : (size : Size) → (image copy table kept : List ℕ) (at end n : ℕ) (t : Tally) → ChunkRead size image copy at end n → Walked size (words_of copy) table kept at n t → Collected size (words_of image) table kept at end t
collected size image copy table kept at end n t r w = record {
  long = w.long;
  bound = w.bound;
  gathers = λ keys xs mid ys g. w.gathers (words_of image) end keys xs mid ys r.few (length-words_of copy ∙ (let z = r.long in let w = bytes-words (power_of size) (power-low size) (power-high size) in let q : length copy / 8 ≡ chunk_words (power_of size) = omega arith in q)) (r.words g.short) g;
}
