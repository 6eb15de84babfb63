-- A staged large value is what a commit asks for, and stays so while others are staged.
-- Assumes nothing.
use mathlib.Core.Path.{◌≡◌, sym, ◌∙◌, ap}
use mathlib.Core.Logic.{◌⊎◌, inl, inr}
use mathlib.Core.Bool.{true}
use mathlib.Core.List.{List, [], ◌∷◌}
use Prim.Native.Nat.{ℕ, suc, ◌+◌, ◌-◌, ◌*◌, ◌/◌, ◌%◌, ◌≤◌, ◌<◌}
use native.Mathlib.Omega.{arith}
use native.Mathlib.Decide.{ℕ_discrete, dec_lt}
use lib.ListN.{length, get_or}
use lib.Seq.{slice, ext_get_or, length-slice}
use borrow.Author.Tests.{eq-eqb, le-leb, lt-ltb}
use Rattle.spec.specs.Words.{value_bytes}
use Rattle.spec.specs.Places.{chunk_units, base, unit_chunk, unit_in, unit_word, directory_word}
use Rattle.spec.specs.Medium.{Medium, cell_at}
use Rattle.spec.specs.Directory.{role_of, size_in, size_of}
use Rattle.spec.specs.Log.{Entry}
use Rattle.spec.specs.Blocks.{block_test, pointed, block_words}
use Rattle.spec.specs.Contents.{Held, Value, meaning}
use Rattle.spec.specs.Opening.{fine}
use Rattle.theory_base.proofs.Places.{past-directory, one_chunk, unit-place, block_in}
use Rattle.theory_log.proofs.Directory.{size_is}
use Rattle.theory_log.proofs.Walk.{slice_at}
use Rattle.theory_crash.specs.Accepted.{Needs}
use Rattle.theory_crash.specs.Stage.{Slot, BlockWords, Stored, Prepared}
use Rattle.theory_crash.proofs.Blocks.{Fits, block-fits, needs-first, needs-move, fits_in, needs-only}
use Rattle.theory_crash.proofs.Frame.{chunk_in}
use Rattle.theory_crash.proofs.Stage.{multiples-apart}

-- The words of a block that fits lie outside another block, in another chunk or of the same size.
module _ (p : ℕ) (lo : 12 ≤ p) (hi : p ≤ 16) (n v t len : ℕ) (x : Fits p n v t len) (u s size : ℕ) (ends : unit_in p u + s ≤ chunk_units p) (small : size ≤ 32 * s) (k : ℕ)
    (low : unit_word v ≤ k) (high : k < unit_word v + 1 + (len + 7) / 8) where
  chunks_apart : (unit_chunk p v ≡ unit_chunk p u → ⊥) → (k < unit_word u) ⊎ (unit_word u + size ≤ k)
  chunks_apart other = go (dec_lt k (unit_word u)) (dec_lt k (unit_word u + size))
    where
      go : Dec (k < unit_word u) → Dec (k < unit_word u + size) → (k < unit_word u) ⊎ (unit_word u + size ≤ k)
      go (yes y) z = inl y
      go (no y) (no z) = inr (omega arith)
      go (no y) (yes z) =
          let i = fits_in p lo hi n v t len k x low high in
          let j = block_in p lo hi u s k ends (omega arith) (omega arith) in
          absurd (other (one_chunk p lo hi (unit_chunk p v) (unit_chunk p u) k i.0 i.1 j.0 j.1))

  blocks-apart : unit_chunk p v ≡ unit_chunk p u → t ≡ s → unit_in p u % s ≡ 0 → (v ≡ u → ⊥) → (k < unit_word u) ⊎ (unit_word u + size ≤ k)
  blocks-apart same e aligned ne = go (dec_lt (unit_in p v) (unit_in p u))
    where
      mine : unit_in p v % s ≡ 0
      mine = rw e at x.aligned

      go : Dec (unit_in p v < unit_in p u) → (k < unit_word u) ⊎ (unit_word u + size ≤ k)
      go (yes y) =
          let q = multiples-apart s (unit_in p v) (unit_in p u) mine aligned y in
          let c = unit-place p lo hi v in
          let d = unit-place p lo hi u in
          let f : base p (unit_chunk p v) ≡ base p (unit_chunk p u) = ap (base p) same in
          let r = x.room in
          inl (omega arith)
      go (no y) =
          let c = unit-place p lo hi v in
          let d = unit-place p lo hi u in
          let f : base p (unit_chunk p v) ≡ base p (unit_chunk p u) = ap (base p) same in
          let q = multiples-apart s (unit_in p u) (unit_in p v) aligned mine (omega (arith, ne)) in
          inr (omega arith)

module _ (p : ℕ) (lo : 12 ≤ p) (hi : p ≤ 16) (n : ℕ) (es : List Entry) (C : ℕ → Held) (ws : List ℕ) (m : Medium) (u s w : ℕ) (words : List ℕ) (m' : Medium)
    (st : Stored p n es C ws m u w words m') (sl : Slot p n st.image es u s) where
  -- The value just stored.
  module _ (v : BlockWords s words) where
    len : get_or st.image (unit_word u) 0 ≡ get_or words 0 0
    len = let c = v.count in let e : unit_word u + 0 ≡ unit_word u = omega arith in rw e at (st.block 0 (omega arith)).0

    last : get_or st.image (unit_word u + (get_or words 0 0 + 7) / 8) 0 ≡ get_or words ((get_or words 0 0 + 7) / 8) 0
    last = let c = v.count in (st.block ((get_or words 0 0 + 7) / 8) (omega arith)).0

    pub staged-prepared : (e : Entry) → pointed e ≡ true → e.field ≡ u → Prepared p n st.image m' e
    unfolding block_test
    staged-prepared e q f = (
      rw (
        q,
        f,
        len,
        last,
        sl.size,
        le-leb 1 (unit_chunk p u) sl.low,
        lt-ltb (unit_chunk p u) n sl.high,
        le-leb 1 s sl.some',
        eq-eqb (unit_in p u % s) 0 sl.aligned,
        le-leb (unit_in p u + s) (chunk_units p) sl.ends,
        le-leb 257 (get_or words 0 0) v.large,
        le-leb (get_or words 0 0 + 8) (256 * s) v.room,
        v.fill,
      ),
      λ k t. flushed k t.1,
    )
      where
        flushed : (k : ℕ) → (k ≡ directory_word (unit_chunk p e.field)) ⊎ ((unit_word e.field ≤ k) × (k < unit_word e.field + 1 + block_words st.image e.field)) → (cell_at m' k).newer ≡ []
        flushed k (inl x) = rw (x, f) (st.flushed (unit_chunk p u) sl.low sl.high (rw (st.rests.now, sl.size) sl.some'))
        flushed k (inr (a, b)) =
            let b' : k < unit_word u + 1 + (get_or words 0 0 + 7) / 8 = rw (f, len) at b in
            let c = v.count in
            let j : ℕ = k - unit_word u in
            let a' : unit_word u ≤ k = rw f at a in
            let x : k ≡ unit_word u + j = omega arith in
            rw x (st.block j (omega arith)).1

    -- and means its bytes
    pub staged-means : (e : Entry) → pointed e ≡ true → e.field ≡ u → (vs : List ℕ) → words ≡ get_or words 0 0 ∷ vs → meaning st.image e ≡ Value (value_bytes (get_or words 0 0) vs)
    staged-means e q f vs x = rw (q, f, len) (ap (λ (l : List ℕ). Value (value_bytes (get_or words 0 0) l)) body)
      where
        size : length words ≡ suc (length vs)
        size = ap length x

        len-vs : length vs ≡ (get_or words 0 0 + 7) / 8
        len-vs = let a = v.count in let b = size in omega arith

        end : unit_word u + 1 + (get_or words 0 0 + 7) / 8 ≤ length st.image
        end =
            let r = v.room in
            let i = block_in p lo hi u s (unit_word u + (get_or words 0 0 + 7) / 8) sl.ends (omega arith) (omega arith) in
            let g = chunk_in p lo hi n st.image es st.rests.ok (unit_chunk p u) (unit_word u + (get_or words 0 0 + 7) / 8) sl.high i.1 in
            omega arith

        long : length (slice (unit_word u + 1) (unit_word u + 1 + (get_or words 0 0 + 7) / 8) st.image) ≡ length vs
        long = let a = end in let b = len-vs in length-slice (unit_word u + 1) (unit_word u + 1 + (get_or words 0 0 + 7) / 8) st.image a ∙ omega arith

        body : slice (unit_word u + 1) (unit_word u + 1 + (get_or words 0 0 + 7) / 8) st.image ≡ vs
        body = ext_get_or 0 (slice (unit_word u + 1) (unit_word u + 1 + (get_or words 0 0 + 7) / 8) st.image) vs long (λ i l.
            let a : i < length vs = rw (← long) l in
            let b = len-vs in
            let c = v.count in
            let g : unit_word u + 1 + i ≡ unit_word u + suc i = omega arith in
            let d : get_or words (suc i) 0 ≡ get_or vs i 0 = ap (λ (y : List ℕ). get_or y (suc i) 0) x in
            slice_at (unit_word u + 1) (unit_word u + 1 + (get_or words 0 0 + 7) / 8) st.image i (omega arith) ∙ rw g ((st.block (suc i) (omega arith)).0 ∙ d))

  -- Another value that was prepared stays so, and means the same, if it is in another chunk, or in another block of a
  -- chunk whose word was not changed.
  module _ (e : Entry) (long : length ws ≡ base p n) (ready : Prepared p n ws m e) (small : length words ≤ 32 * s)
      (here : pointed e ≡ true → unit_chunk p e.field ≡ unit_chunk p u → (w ≡ get_or ws (directory_word (unit_chunk p u)) 0) × (e.field ≡ u → ⊥)) where
    long' : length st.image ≡ length ws
    long' = st.rests.ok.long ∙ sym long

    -- each word that it needs is as it was, and flushed
    word_kept : (k : ℕ) → Needs p ws e k → (get_or st.image k 0 ≡ get_or ws k 0) × ((cell_at m' k).newer ≡ [])
    word_kept k (q, d) = go d (ℕ_discrete k (directory_word (unit_chunk p u)))
      where
        fits : Fits p n e.field (size_of p ws (unit_chunk p e.field)) (get_or ws (unit_word e.field) 0)
        fits = block-fits p n e.field (size_of p ws (unit_chunk p e.field)) (get_or ws (unit_word e.field) 0) _ (rw q at ready.0)

        most : n ≤ 504
        most = st.rests.ok.most

        far : 512 ≤ unit_word u
        far = let a = sl.some' in past-directory p lo hi (unit_chunk p u) (unit_word u) sl.low (block_in p lo hi u s (unit_word u) sl.ends (omega arith) (omega arith)).0

        apart : unit_word e.field ≤ k → k < unit_word e.field + 1 + block_words ws e.field → (k < unit_word u) ⊎ (unit_word u + length words ≤ k)
        apart a b = two (ℕ_discrete (unit_chunk p e.field) (unit_chunk p u))
          where
            two : Dec (unit_chunk p e.field ≡ unit_chunk p u) → (k < unit_word u) ⊎ (unit_word u + length words ≤ k)
            two (no o) = chunks_apart p lo hi n e.field _ _ fits u s (length words) sl.ends small k a b o
            two (yes o) =
                let i = here q o in
                let same : get_or ws (directory_word (unit_chunk p u)) 0 ≡ get_or st.image (directory_word (unit_chunk p u)) 0 = sym (st.word ∙ i.0) in
                let size : size_of p ws (unit_chunk p e.field) ≡ s = ap (size_of p ws) o ∙ size_is p ws (unit_chunk p u) ∙ ap (λ (y : ℕ). size_in (role_of p y)) same ∙ sym (size_is p st.image (unit_chunk p u)) ∙ sl.size in
                blocks-apart p lo hi n e.field _ _ fits u s (length words) sl.ends small k a b o size sl.aligned i.1

        go : (k ≡ directory_word (unit_chunk p e.field)) ⊎ ((unit_word e.field ≤ k) × (k < unit_word e.field + 1 + block_words ws e.field)) → Dec (k ≡ directory_word (unit_chunk p u))
            → (get_or st.image k 0 ≡ get_or ws k 0) × ((cell_at m' k).newer ≡ [])
        go (inl x) (yes y) =
            let same : unit_chunk p e.field ≡ unit_chunk p u = omega arith in
            (rw y (st.word ∙ (here q same).0), rw y (st.flushed (unit_chunk p u) sl.low sl.high (rw (st.rests.now, sl.size) sl.some')))
        go (inl x) (no y) =
            let h = fits.high in
            let a = most in
            let f = far in
            let t = st.others k y (inl (omega arith)) in
            (t.0, t.1 (ready.1 k (q, inl x)))
        go (inr (a, b)) (yes y) =
            let i = fits_in p lo hi n e.field _ _ k fits a b in
            let f = past-directory p lo hi (unit_chunk p e.field) k fits.low i.0 in
            let c = most in
            absurd (omega arith)
        go (inr (a, b)) (no y) = let t = st.others k y (apart a b) in (t.0, t.1 (ready.1 k (q, inr (a, b))))

    kept-both : (fine p n st.image e ≡ true) × (meaning st.image e ≡ meaning ws e)
    kept-both = needs-only p lo hi n ws st.image e long long' (λ k t. (word_kept k t).0) ready.0

    pub prepared-stays : Prepared p n st.image m' e
    prepared-stays = (kept-both.0, λ k t. (word_kept k (back k t)).1)
      where
        back : (k : ℕ) → Needs p st.image e k → Needs p ws e k
        back k t = needs-move p ws st.image e k (word_kept (unit_word e.field) (needs-first p ws e t.0)).0 t

    pub meaning-stays : meaning st.image e ≡ meaning ws e
    meaning-stays = kept-both.1
