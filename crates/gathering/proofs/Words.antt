-- The words that are gathered: parts of the buffer, and what the code shows of one entry.
-- Assumes nothing.
use Rattle.std.proofs.Common.{◌≡◌, ℕ, zero, suc, ◌+◌, ◌-◌, ◌<◌, ◌≤◌, min, Bool, true, false, ◌⊎◌, List, ◌∷◌, ◌++◌, length, get_or, take, drop, set, sym, refl, ap, ◌∙◌, inl, inr, append_assoc, add-zero, zero-add, arith, length-append, length-drop, length-set, drop-cons, get_or-set_other, get_or-set_same}
use mathlib.Core.Logic.{by_cases}
use borrow.Rule.Slice.PartMut.{put_mid, post_of, same_len_mid}
use Rattle.std.proofs.lemmas.List.{length-take, get_or-take, get_or-drop, get_or_append_left, get_or-append_right}
use native.Mathlib.Decide.{ℕ_discrete}
use Rattle.spec.specs.declared.Size.{Size}
use Rattle.places.specs.Sizes.{power_of, power-low, power-high}
use Rattle.spec.specs.Places.{chunk_words}
use Rattle.spec.specs.Basics.{filter}
use Rattle.spec.specs.Log.{Entry, encode, encode_all}
use Rattle.theory_base.proofs.Places.{words-most}
use Rattle.buffer.specs.Areas.{second_start, buffer_words}
use Rattle.session.specs.State.{buffer_part}
use Rattle.session.proofs.Part.{length_part, part-agree}
use Rattle.gathering.specs.declared.measure.Tally.{Tally}
use Rattle.gathering.specs.Measuring.{Room, Measured}
use Rattle.gathering.proofs.SizeWords.{few_words}
use Rattle.gathering.specs.Gathering.{Copied, Gathered}
use Rattle.gathering.specs.Reading.{Owing, OneTaken, Collected}

-- ## Copying words

pub copied-start : (ws buffer : List ℕ) (from to : ℕ) → Copied ws buffer buffer from to 0
copied-start ws buffer from to = record { long = refl; words = λ i l. absurd (omega arith); others = λ j o. refl }

pub copied_next : (n : ℕ) (ws buffer now' next' : List ℕ) (from to i v : ℕ) → length buffer ≡ n → to + i < n → Copied ws buffer now' from to i → v ≡ get_or ws (from + i) 0 → next' ≡ set now' (to + i) v → Copied ws buffer next' from to (i + 1)
copied_next n ws buffer now' next' from to i v sized low c is-v is = record {
  long = rw (is, length-set) c.long;
  words = λ j l. ap (λ (b : List ℕ). get_or b (to + j) 0) is ∙ by_cases (ℕ_discrete j i)
      (λ q. rw q (get_or-set_same now' (to + i) v 0 (rw (c.long, sized) low) ∙ is-v))
      (λ n. get_or-set_other now' (to + i) (to + j) v 0 (λ q. n (omega arith)) ∙ c.words j (omega arith));
  others = λ j o. ap (λ (b : List ℕ). get_or b j 0) is ∙ get_or-set_other now' (to + i) j v 0 (λ q. outside j o q) ∙ c.others j (wider j o);
}
  where
    outside : (j : ℕ) → (j < to) ⊎ (to + (i + 1) ≤ j) → j ≡ to + i → ⊥
    outside j (inl a) q = omega arith
    outside j (inr a) q = omega arith

    wider : (j : ℕ) → (j < to) ⊎ (to + (i + 1) ≤ j) → (j < to) ⊎ (to + i ≤ j)
    wider j (inl a) = inl a
    wider j (inr a) = inr (omega arith)

-- a part of the buffer is written over by as many words
pub copied-part : (kept buffer part : List ℕ) (to n k : ℕ) → n ≤ length kept → to + n ≤ length buffer → k ≡ n → part ≡ take n kept → Copied kept buffer (put_mid to k buffer part) 0 to n
copied-part kept buffer part to n k have room ek is = record {
  long = same_len_mid to k buffer part (long-part ∙ sym long-mid);
  words = λ i l.
      get_or-append_right (take to buffer) (part ++ post_of to k buffer) to (to + i) 0 long-front (omega arith)
      ∙ ap (λ (j : ℕ). get_or (part ++ post_of to k buffer) j 0) (let z : to + i - to ≡ i = omega arith in z)
      ∙ get_or_append_left part (post_of to k buffer) 0 i (let p = long-part in omega arith)
      ∙ ap (λ (b : List ℕ). get_or b i 0) is
      ∙ get_or-take n kept i 0 l
      ∙ ap (λ (j : ℕ). get_or kept j 0) (sym (zero-add i));
  others = λ j o. outside j o;
}
  where
    long-front : length (take to buffer) ≡ to
    long-front = length-take to buffer ∙ (let z : min to (length buffer) ≡ to = omega arith in z)

    long-part : length part ≡ n
    long-part = ap length is ∙ length-take n kept ∙ (let z : min n (length kept) ≡ n = omega arith in z)

    long-mid : length (take k (drop to buffer)) ≡ n
    long-mid = length-take k (drop to buffer) ∙ (let d = length-drop to buffer in let z : min k (length (drop to buffer)) ≡ n = omega arith in z)

    outside : (j : ℕ) → (j < to) ⊎ (to + n ≤ j) → get_or (put_mid to k buffer part) j 0 ≡ get_or buffer j 0
    outside j (inl l) =
        get_or_append_left (take to buffer) (part ++ post_of to k buffer) 0 j (let f = long-front in omega arith) ∙ get_or-take to buffer j 0 l
    outside j (inr l) =
        get_or-append_right (take to buffer) (part ++ post_of to k buffer) to j 0 long-front (omega arith)
        ∙ get_or-append_right part (post_of to k buffer) n (j - to) 0 long-part (omega arith)
        ∙ get_or-drop k (drop to buffer) (j - to - n) 0
        ∙ get_or-drop to buffer (k + (j - to - n)) 0
        ∙ ap (λ (i : ℕ). get_or buffer i 0) (let z : to + (k + (j - to - n)) ≡ j = omega arith in z)

-- ## Parts of the buffer

part-more : (b : List ℕ) (i m n : ℕ) → buffer_part b i (m + n) ≡ buffer_part b i m ++ buffer_part b (i + m) n
part-more b i zero n = rw (zero-add n, add-zero i)
part-more b i (suc m) n =
    let p : suc m + n ≡ suc (m + n) = omega arith in
    let q : i + suc m ≡ suc i + m = omega arith in
    rw (p, q) (ap (λ (l : List ℕ). get_or b i 0 ∷ l) (part-more b (suc i) m n))

part-words : (b ws : List ℕ) (i j n : ℕ) → ((k : ℕ) → k < n → get_or b (i + k) 0 ≡ get_or ws (j + k) 0) → j + n ≤ length ws → buffer_part b i n ≡ take n (drop j ws)
part-words b ws i j zero h l = refl
part-words b ws i j (suc n) h l =
    let z = h 0 (omega arith) in
    let first : get_or b i 0 ≡ get_or ws j 0 = rw (add-zero i, add-zero j) at z in
    let rest = part-words b ws (suc i) (suc j) n (λ k u.
    let x = h (suc k) (omega arith) in
    let p : i + suc k ≡ suc i + k = omega arith in
    let q : j + suc k ≡ suc j + k = omega arith in
    rw (p, q) at x) (omega arith) in
    rw (drop-cons ws j 0 (omega arith), first, rest)

-- ## One entry

module _ (size : Size) (kept : List ℕ) (test : Entry → Bool) (mid todo : List Entry) (t : Tally) (e : Entry) (o : Owing kept test mid t (e ∷ todo)) where
  -- it is not kept
  owing-skip : test e ≡ false → Owing kept test mid t todo
  owing-skip h = record {
    words = o.words ∙ rw h;
    count = o.count ∙ rw h;
    inside = λ f m. o.inside f (inr m);
  }

  -- it is, and its words go behind the others
  module _ (h : test e ≡ true) where
    owing-words : encode_all (filter test mid) ≡ buffer_part kept 0 t.words ++ (encode e ++ encode_all (filter test todo))
    owing-words = o.words ∙ rw h

    owing-count : length (filter test mid) ≡ t.entries + suc (length (filter test todo))
    owing-count = o.count ∙ rw h

    owing-take : (kept' : List ℕ) (n : ℕ) → n ≡ 2 + length e.value → buffer_part kept' 0 t.words ≡ buffer_part kept 0 t.words → buffer_part kept' t.words n ≡ encode e
        → Owing kept' test mid (record { words = t.words + n; entries = t.entries + 1 }) todo
    owing-take kept' n is same new =
        let first : buffer_part kept' (0 + t.words) n ≡ encode e = rw zero-add new in
        let both' : buffer_part kept' 0 t.words ++ buffer_part kept' (0 + t.words) n ≡ buffer_part kept 0 t.words ++ encode e = rw (same, first) in
        let part : buffer_part kept 0 t.words ++ encode e ≡ buffer_part kept' 0 (t.words + n) = sym (part-more kept' 0 t.words n ∙ both') in
        record {
          words = owing-words ∙ sym (append_assoc (buffer_part kept 0 t.words) (encode e) (encode_all (filter test todo))) ∙ ap (λ (l : List ℕ). l ++ encode_all (filter test todo)) part;
          count = let c = owing-count in omega arith;
          inside = λ f m. o.inside f (inr m);
        }

    owing-room : length (encode_all (filter test mid)) ≤ chunk_words (power_of size) → (t.words + (2 + length e.value) ≤ chunk_words (power_of size)) × (t.entries < chunk_words (power_of size))
    owing-room l =
        let a = ap length owing-words in
        let b = length-append (buffer_part kept 0 t.words) (encode e ++ encode_all (filter test todo)) in
        let c = length-append e.value (encode_all (filter test todo)) in
        let d = length_part kept 0 t.words in
        let f = few_words (filter test mid) in
        let g = owing-count in
        (omega arith, omega arith)

-- ## What the code shows of one entry

module _ (size : Size) (ws kept : List ℕ) (t : Tally) (place value : ℕ) (long : length kept ≡ chunk_words (power_of size)) where
  pub take-not : OneTaken size ws kept kept t false place value t
  take-not = record { long = long; bound = λ l. l; adds = λ test mid todo e few low h ev es fits o. owing-skip size kept test mid todo t e o (sym h) }

  pub take-full : Room size t.words t.entries place value false → OneTaken size ws kept kept t true place value t
  take-full r = record {
    long = long;
    bound = λ l. l;
    adds = λ test mid todo e few low h ev es fits o.
        let f = owing-room size kept test mid todo t e o (sym h) few in
        let x = f.0 in
        let y = f.1 in
        absurd (r.lacks refl (omega arith) (omega arith) low);
  }

  pub take-kept : Room size t.words t.entries place value true → (kept' : List ℕ) → Copied ws kept kept' place t.words (2 + value)
      → OneTaken size ws kept kept' t true place value (record { words = t.words + (2 + value); entries = t.entries + 1 })
  take-kept r kept' c = record {
    long = c.long ∙ long;
    bound = λ l. (r.fits refl).0;
    adds = λ test mid todo e few low h ev es fits o.
        let same : buffer_part kept' 0 t.words ≡ buffer_part kept 0 t.words = part-agree kept' kept 0 t.words (λ j a b. c.others j (inl (omega arith))) in
        let new : buffer_part kept' t.words (2 + value) ≡ encode e = part-words kept' ws t.words place (2 + value) c.words fits ∙ es in
        owing-take size kept test mid todo t e o (sym h) kept' (2 + value) (omega arith) same new;
  }

-- ## The words in the record's buffer

part_same : (b kept : List ℕ) (i j n : ℕ) → ((k : ℕ) → k < n → get_or b (i + k) 0 ≡ get_or kept (j + k) 0) → buffer_part b i n ≡ buffer_part kept j n
part_same b kept i j zero h = refl
part_same b kept i j (suc n) h =
    let z = h 0 (omega arith) in
    let first : get_or b i 0 ≡ get_or kept j 0 = rw (add-zero i, add-zero j) at z in
    let rest = part_same b kept (suc i) (suc j) n (λ k u.
    let x = h (suc k) (omega arith) in
    let p : i + suc k ≡ suc i + k = omega arith in
    let q : j + suc k ≡ suc j + k = omega arith in
    rw (p, q) at x) in
    rw (first, rest)

pub stored-gathered : (size : Size) → (ws table kept b b' : List ℕ) (at end n : ℕ) (t : Tally) → Collected size ws table kept at end t → n ≡ t.words → length b ≡ buffer_words → Copied kept b b' 0 second_start n → Gathered size ws table b b' at end t
stored-gathered size ws table kept b b' at end n t g is sized c = record {
  area = record {
    size = sized;
    long = c.long;
    below = λ j l. c.others j (inl l);
    above = λ j l. let w = g.bound in let m = words-most (power_of size) (power-low size) (power-high size) in c.others j (inr (omega arith));
  };
  bound = g.bound;
  gathers = λ keys xs mid ys u.
      let p = g.gathers keys xs mid ys u in
      (part_same b' kept second_start 0 t.words (λ k l. c.words k (omega arith)) ∙ p.0, p.1);
}

-- what is gathered is measured
pub collected-measured : (size : Size) → (ws table kept : List ℕ) (at end : ℕ) (t : Tally) → Collected size ws table kept at end t → Measured size ws table at end t
collected-measured size ws table kept at end t g = record {
  bound = g.bound;
  measures = λ keys xs mid ys u. let p = g.gathers keys xs mid ys u in (sym (length_part kept 0 t.words) ∙ ap length p.0, p.1);
}
