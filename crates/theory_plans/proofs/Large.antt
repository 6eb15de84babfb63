-- A large value is staged, action by action: into a block of a data chunk, or into a free chunk taken for it.
-- Assumes nothing.
use mathlib.Core.Path.{◌≡◌, refl, sym, ◌∙◌, ap, ap₂}
use mathlib.Core.Logic.{inl, inr}
use mathlib.Core.Bool.{Bool, true, false}
use mathlib.Core.List.{List, [], ◌∷◌, ◌++◌, map}
use Prim.Native.Nat.{ℕ, suc, ◌+◌, ◌*◌, ◌/◌, ◌%◌, ◌^◌, ◌≤◌, ◌<◌}
use native.Mathlib.Omega.{arith}
use lib.Dec.{eqb, ltb}
use lib.ListN.{length, get_or}
use borrow.Author.Tests.{eqb-false, lt-ltb}
use Rattle.spec.specs.Basics.{pick}
use Rattle.spec.specs.Words.{AreBytes, packed}
use Rattle.spec.specs.Places.{first_unit, unit_chunk, unit_word, directory_word, max_chunks}
use Rattle.spec.specs.Medium.{Medium}
use Rattle.spec.specs.Directory.{is_size, role_of, size_in, is_free, role_at, size_of, data_word}
use Rattle.spec.specs.Log.{Entry}
use Rattle.spec.specs.Blocks.{pointed}
use Rattle.spec.specs.Contents.{Held, Value, keys_of, capacity, meaning}
use Rattle.spec.specs.Actions.{take_of, block_of}
use Rattle.spec.specs.Plans.{entry, InData, InFree, slot_for}
use Rattle.spec.specs.Book.{Item}
use Rattle.words.proofs.Values.{length-packed, packed-filled, bytes_packed}
use Rattle.theory_base.proofs.Through.{Through, through-map}
use Rattle.theory_base.proofs.Places.{units-least, unit-at}
use Rattle.theory_base.proofs.Sizes as Z
use Rattle.theory_log.specs.Contents.{Mem}
use Rattle.theory_log.proofs.Directory.{size_is}
use Rattle.theory_crash.specs.Rest.{Cuts}
use Rattle.theory_crash.specs.Stage.{Slot, BlockWords, Stored, Prepared}
use Rattle.theory_crash.proofs.Directory.{free-says, data-word}
use Rattle.theory_crash.proofs.Blocks.{block-fits}
use Rattle.theory_crash.proofs.Stage.{slot-moves, stage_through, take-stage-through, first_slot, out, says}
use Rattle.theory_crash.proofs.Frame.{directory-in}
use Rattle.theory_crash.proofs.Cells.{each_append}
use Rattle.theory_crash.proofs.View.{Shy, slot-shy, free-shy}
use Rattle.theory_crash.proofs.Staged.{staged-prepared, staged-means, prepared-stays, meaning-stays}
use Rattle.theory_plans.specs.Standing.{item_of, Standing, Reading}
use Rattle.theory_plans.proofs.Between.{known-few}
use Rattle.theory_plans.proofs.Reading.{same_reads}
use Rattle.theory_plans.proofs.Slots.{slot-data, slot-free}
use Rattle.theory_plans.proofs.Item.{Admitted, stand-more}

-- the words of the block of a large value: its length, and its words, the last one zero-filled
pub block_words : (v : List ℕ) → AreBytes v → (s : ℕ) → 257 ≤ length v → length v + 8 ≤ 256 * s → BlockWords s (length v ∷ packed v)
block_words v bytes s large room =
    record { large = large; room = room; count = (let l = length-packed v in omega arith); fill = go (eqb (length v % 8) 0) (eqb-false (length v % 8) 0) }
  where
    go : (b : Bool) → (b ≡ false → length v % 8 ≡ 0 → ⊥) → pick b true (ltb (get_or (length v ∷ packed v) ((length v + 7) / 8) 0) (256 ^ (length v % 8))) ≡ true
    go true x = refl
    go false x =
        let ne = x refl in
        let q : (length v + 7) / 8 ≡ suc (length v / 8) = omega (arith, ne) in
        rw q (lt-ltb (get_or (packed v) (length v / 8) 0) (256 ^ (length v % 8)) (packed-filled v bytes ne))

pub words-fit : (s : ℕ) (words : List ℕ) → BlockWords s words → length words ≤ 32 * s
words-fit s words bw = let a = bw.room in let b = bw.count in omega arith

map_same : (f g : Entry → Item) (es : List Entry) → ((e : Entry) → Mem e es → f e ≡ g e) → map f es ≡ map g es
map_same f g [] h = refl
map_same f g (e ∷ es) h = ap₂ (λ (x : Item) (l : List Item). x ∷ l) (h e (inl refl)) (map_same f g es (λ x m. h x (inr m)))

module _ (p : ℕ) (lo : 12 ≤ p) (hi : p ≤ 16) (n table : ℕ) (C : ℕ → Held) (book : List Item) (items : List Entry) (m : Medium) (s : Standing p n table C book items m) where
  abbrev ws : List ℕ
  ws = s.words

  abbrev es : List Entry
  es = s.entries

  -- A LARGE VALUE STORED: the items staged before stand as they were, and the new one stands with them.
  module _ (u size w : ℕ) (v : List ℕ) (m' : Medium) (st : Stored p n es C ws m u w (length v ∷ packed v) m') (sl : Slot p n st.image es u size) (bw : BlockWords size (length v ∷ packed v))
      (here : (e : Entry) → Mem e items → pointed e ≡ true → unit_chunk p e.field ≡ unit_chunk p u → (w ≡ get_or ws (directory_word (unit_chunk p u)) 0) × (e.field ≡ u → ⊥)) where
    prepared : (e : Entry) → Mem e items → Prepared p n st.image m' e
    prepared e t = prepared-stays p lo hi n es C ws m u size w (length v ∷ packed v) m' st sl e s.rest.ok.long (s.staged.blocks e t, s.staged.flushed e t) (words-fit size (length v ∷ packed v) bw) (here e t)

    same : (e : Entry) → Mem e items → meaning st.image e ≡ meaning ws e
    same e t = meaning-stays p lo hi n es C ws m u size w (length v ∷ packed v) m' st sl e s.rest.ok.long (s.staged.blocks e t, s.staged.flushed e t) (words-fit size (length v ∷ packed v) bw) (here e t)

    stored-stands : Standing p n table C book items m'
    stored-stands = record {
      words = st.image;
      entries = es;
      rest = st.rests;
      flushed = st.flushed;
      holds = st.holds;
      keys = s.keys;
      staged = record {
        counts = s.staged.counts;
        right = s.staged.right;
        few = s.staged.few;
        small = s.staged.small;
        blocks = λ e t. (prepared e t).0;
        flushed = λ e t. (prepared e t).1;
        dead = s.staged.dead;
        own = s.staged.own;
      };
      booked = map_same (item_of st.image) (item_of ws) items (λ e t. ap (λ (g : Held). record { key = e.key; gets = g }) (same e t)) ∙ s.booked;
    }

    stored_more : AreBytes v → (version k : ℕ) → Admitted table es items (entry 1 1 version u k [])
        → Standing p n table C (book ++ (record { key = k; gets = Value v } ∷ [])) (items ++ (entry 1 1 version u k [] ∷ [])) m'
    unfolding stored-stands
    stored_more bytes version k a =
        stand-more p n table C book items m' stored-stands e (Value v) a (record {
          prepared = staged-prepared p lo hi n es C ws m u size w (length v ∷ packed v) m' st sl bw e refl refl;
          dead = λ f t x y z. sl.dead f t y (sym z);
          own = λ f t x y z. (here f t y (ap (unit_chunk p) (sym z))).1 (sym z);
        }) (staged-means p lo hi n es C ws m u size w (length v ∷ packed v) m' st sl bw e refl refl (packed v) refl ∙ ap Value (bytes_packed v bytes))
      where
        e : Entry
        e = entry 1 1 version u k []

  -- STAGING A LARGE VALUE, action by action, where it was found a block, and where it was found a free chunk.
  module _ (v : List ℕ) (bytes : AreBytes v) (size : ℕ) (is : is_size p size ≡ true) (bw : BlockWords size (length v ∷ packed v)) (version k : ℕ) where
    abbrev After : ℕ → Medium → Type 0
    After u m' = Standing p n table C (book ++ (record { key = k; gets = Value v } ∷ [])) (items ++ (entry 1 1 version u k [] ∷ [])) m'

    fit : length (length v ∷ packed v) ≤ 32 * size
    fit = words-fit size (length v ∷ packed v) bw

    some : 1 ≤ size
    some = let a = (Z.size_is p size is).0 in omega arith

    few : length (keys_of es) ≤ capacity table
    few = known-few p lo hi n table C book items m s

    pub data-goes : (u : ℕ) → slot_for p n ws es items size ≡ InData u → Admitted table es items (entry 1 1 version u k []) → Through (Cuts p n (capacity table) C C) (After u) (block_of u (length v ∷ packed v)) m
    data-goes u h a =
        let sl = slot-data p lo hi n ws es items size u some h in
        through-map (Cuts p n (capacity table) C C) (Cuts p n (capacity table) C C) (Stored p n es C ws m u w (length v ∷ packed v)) (After u) (block_of u (length v ∷ packed v)) m (λ m' t. t)
        (λ st. stored_more u size w v _ st (slot-moves p n ws st.image es u size st.word sl.0) bw (λ e t q o. (refl, sl.1 e t q)) bytes version k a)
        (stage_through p lo hi n (capacity table) es C ws m u size (length v ∷ packed v) s.rest s.holds few s.flushed sl.0 fit)
      where
        w : ℕ
        w = get_or ws (directory_word (unit_chunk p u)) 0

    pub data_reads : (u : ℕ) → slot_for p n ws es items size ≡ InData u → Admitted table es items (entry 1 1 version u k []) → Reading p n table C ws [] (block_of u (length v ∷ packed v)) m
    data_reads u h a =
        same_reads p lo hi n table C book items m s [] (block_of u (length v ∷ packed v)) (After u) tt tt
        (slot-shy p lo hi n ws es s.rest.ok [] tt u size (length v ∷ packed v) (slot-data p lo hi n ws es items size u some h).0 fit) (data-goes u h a)

    pub free-goes : (c : ℕ) → slot_for p n ws es items size ≡ InFree c → Admitted table es items (entry 1 1 version (first_unit p c) k [])
        → Through (Cuts p n (capacity table) C C) (After (first_unit p c)) (take_of c (get_or ws (directory_word c) 0) size ++ block_of (first_unit p c) (length v ∷ packed v)) m
    free-goes c h a =
        through-map (Cuts p n (capacity table) C C) (Cuts p n (capacity table) C C) (Stored p n es C ws m u w (length v ∷ packed v)) (After u) (take_of c old size ++ block_of u (length v ∷ packed v)) m (λ m' t. t)
        (λ st. stored_more u size w v _ st (moved st.image st.word) bw (λ e t q o. absurd (none e t q o)) bytes version k a)
        (take-stage-through p lo hi n (capacity table) es C ws m c old size s.rest s.holds few s.flushed low high free is (length v ∷ packed v) fit)
      where
        u : ℕ
        u = first_unit p c

        old : ℕ
        old = get_or ws (directory_word c) 0

        w : ℕ
        w = data_word old size

        low : 1 ≤ c
        low = (slot-free p n ws es items size c h).0

        high : c < n
        high = (slot-free p n ws es items size c h).1

        free : is_free (role_at p ws c) ≡ true
        free = (slot-free p n ws es items size c h).2

        chunk : unit_chunk p u ≡ c
        chunk = let z : u + 0 ≡ u = omega arith in let a = units-least p lo hi in rw z at (unit-at p lo hi c 0 (omega arith)).0

        -- the chunk's first block, once its word says so
        moved : (vs : List ℕ) → get_or vs (directory_word (unit_chunk p u)) 0 ≡ w → Slot p n vs es u size
        moved vs e =
            let f = first_slot p lo hi n (capacity table) es C ws m c old size s.rest s.holds few s.flushed low high free is in record {
              low = f.low;
              high = f.high;
              size = size_is p vs (unit_chunk p u) ∙ ap (λ (x : ℕ). size_in (role_of p x)) e ∙ (data-word p n c old size low high is).1;
              some' = some;
              ends = f.ends;
              aligned = f.aligned;
              dead = f.dead;
            }

        -- no staged item points into a free chunk
        none : (e : Entry) → Mem e items → pointed e ≡ true → unit_chunk p e.field ≡ unit_chunk p u → ⊥
        none e t q o =
            let x = block-fits p n e.field (size_of p ws (unit_chunk p e.field)) (get_or ws (unit_word e.field) 0) _ (rw q at (s.staged.blocks e t)) in
            let y : 1 ≤ size_of p ws c = rw (o ∙ chunk) at x.some' in
            let z : size_of p ws c ≡ 0 = size_is p ws c ∙ (free-says (role_at p ws c) free).1 in
            omega arith

    pub free-reads : (c : ℕ) → slot_for p n ws es items size ≡ InFree c → Admitted table es items (entry 1 1 version (first_unit p c) k [])
        → Reading p n table C ws [] (take_of c (get_or ws (directory_word c) 0) size ++ block_of (first_unit p c) (length v ∷ packed v)) m
    free-reads c h a =
        let f = slot-free p n ws es items size c h in
        let old : ℕ = get_or ws (directory_word c) 0 in
        let here : c < max_chunks = (let x = f.1 in let y = s.rest.ok.most in omega arith) in
        same_reads p lo hi n table C book items m s [] (take_of c old size ++ block_of (first_unit p c) (length v ∷ packed v)) (After (first_unit p c)) tt tt
        (each_append (Shy p lo hi n ws es s.rest.ok []) (take_of c old size) (block_of (first_unit p c) (length v ∷ packed v)) (
          inr (
            (λ x. x),
            (
              directory-in p lo hi n ws es s.rest.ok c here,
              (
                out p lo hi n (capacity table) es C ws m c old size s.rest s.holds few s.flushed f.0 f.1 f.2 is,
                says p lo hi n (capacity table) es C ws m c old size s.rest s.holds few s.flushed f.0 f.1 f.2 is,
              ),
            ),
          ),
          (tt, tt),
        )
        (free-shy p lo hi n ws es s.rest.ok [] tt c size (length v ∷ packed v) f.0 f.1 f.2 (Z.size_is p size is).1 fit)) (free-goes c h a)
