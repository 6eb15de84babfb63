-- One more staged item: it counts on, fits the batch and the table, and what it points to is ready and its own.
-- Assumes nothing.
use Rattle.std.proofs.lemmas.Bool.Decides.{nat_tests}
use mathlib.Core.Path.{◌≡◌, sym, ◌∙◌, ap}
use mathlib.Core.Logic.{◌⊎◌, inl, inr}
use mathlib.Core.Bool.{true, false}
use mathlib.Core.List.{List, [], ◌∷◌, ◌++◌, map, map-append, append-nil}
use Prim.Native.Nat.{ℕ, suc, ◌+◌, ◌*◌, ◌≤◌, ◌<◌}
use native.Mathlib.Omega.{arith}
use lib.Dec.{leb, ltb}
use lib.ListN.{length, length-append}
use borrow.Author.Tests.{leb-true, ltb-true}
use Rattle.spec.specs.Basics.{distinct}
use Rattle.spec.specs.Medium.{Medium, cell_at, Mem as Among}
use Rattle.spec.specs.Log.{Entry, encode, encode_all}
use Rattle.spec.specs.Blocks.{pointed}
use Rattle.spec.specs.Contents.{Held, highest, capacity, meaning}
use Rattle.spec.specs.Plans.{next_version, fits_batch, fits_keys, max_items, max_batch_bytes}
use Rattle.spec.specs.Book.{Item}
use Rattle.theory_base.proofs.Lists.{both_l, both_r, distinct-fewer}
use Rattle.theory_log.specs.Batch.{Right}
use Rattle.theory_log.specs.Contents.{Mem, Top, CountsOn}
use Rattle.theory_log.proofs.Contents.{mem-cases, highest-insert}
use Rattle.theory_log.proofs.Places.{right-append}
use Rattle.theory_crash.specs.Accepted.{Needs}
use Rattle.theory_crash.specs.Stage.{Prepared}
use Rattle.theory_plans.specs.Standing.{key_list, item_of, Staged, Standing}

-- what the tests 12, 10 and 7 say of a new entry, and that its words parse back to it
pub record Admitted (table : ℕ) (es items : List Entry) (e : Entry) : Type 0 where
  pub counts : e.version ≡ next_version e.key es items
  pub right : Right e
  pub batch : fits_batch items (2 + length e.value) ≡ true
  pub keys : fits_keys table es items e.key ≡ true

-- its block is ready, dead and nobody else's, if it points to one
pub record Ready (p n : ℕ) (ws : List ℕ) (es items : List Entry) (m : Medium) (e : Entry) : Type 0 where
  pub prepared : Prepared p n ws m e
  pub dead : (f : Entry) → Top es f → pointed e ≡ true → pointed f ≡ true → e.field ≡ f.field → ⊥
  pub own : (f : Entry) → Mem f items → pointed e ≡ true → pointed f ≡ true → e.field ≡ f.field → ⊥

pub log-ready : (p n : ℕ) (ws : List ℕ) (es items : List Entry) (m : Medium) (e : Entry) → pointed e ≡ false → Ready p n ws es items m e
log-ready p n ws es items m e h = grind (arith, nat_tests)

-- One more at the end.
counts-snoc : (es items : List Entry) (e : Entry) → CountsOn es items → e.version ≡ next_version e.key es items → CountsOn es (items ++ (e ∷ []))
counts-snoc es [] e c v = (v ∙ ap (λ (l : List Entry). suc (highest e.key l)) (append-nil es), tt)
counts-snoc es (x ∷ items) e c v = (c.0, counts-snoc (x ∷ es) items e c.1 (v ∙ ap suc (sym (highest-insert e.key es items x))))

encode_snoc : (items : List Entry) (e : Entry) → length (encode_all (items ++ (e ∷ []))) ≡ length (encode_all items) + (2 + length e.value)
encode_snoc [] e = ap length (append-nil (encode e)) ∙ omega arith
encode_snoc (x ∷ items) e =
    let a = length-append (encode x) (encode_all (items ++ (e ∷ []))) in
    let b = length-append (encode x) (encode_all items) in
    let c = encode_snoc items e in
    omega arith

key-snoc : (items : List Entry) (e : Entry) (ks : List ℕ) (j : ℕ) → Among j (key_list (items ++ (e ∷ [])) ++ ks) → Among j (e.key ∷ (key_list items ++ ks))
key-snoc [] e ks j t = t
key-snoc (x ∷ items) e ks j (inl q) = inr (inl q)
key-snoc (x ∷ items) e ks j (inr t) = go (key-snoc items e ks j t)
  where
    go : Among j (e.key ∷ (key_list items ++ ks)) → Among j (e.key ∷ (x.key ∷ (key_list items ++ ks)))
    go (inl q) = inl q
    go (inr u) = inr (inr u)

module _ (p n table : ℕ) (ws : List ℕ) (es items : List Entry) (m : Medium) (e : Entry) (a : Admitted table es items e) where
  abbrev more : List Entry
  more = items ++ (e ∷ [])

  -- an old item, or the new one
  old-or-new : (f : Entry) → Mem f more → Mem f items ⊎ (f ≡ e)
  old-or-new f t = go (mem-cases f items (e ∷ []) t)
    where
      go : Mem f items ⊎ Mem f (e ∷ []) → Mem f items ⊎ (f ≡ e)
      go (inl u) = inl u
      go (inr (inl q)) = inr q
      go (inr (inr none)) = elim none [ ]

  few-more : (length more ≤ max_items) × (8 * length (encode_all more) ≤ max_batch_bytes)
  few-more =
      let w = 2 + length e.value in
      let x : length items < max_items = ltb-true (length items) max_items (both_l (ltb (length items) max_items) (leb (8 * (length (encode_all items) + w)) max_batch_bytes) a.batch) in
      let y : 8 * (length (encode_all items) + w) ≤ max_batch_bytes = leb-true (8 * (length (encode_all items) + w)) max_batch_bytes (both_r (ltb (length items) max_items) (leb (8 * (length (encode_all items) + w)) max_batch_bytes) a.batch) in
      (rw (length-append items (e ∷ [])) (omega arith), rw (encode_snoc items e) y)

  pub staged-more : Staged p n ws es items m → Ready p n ws es items m e → Staged p n ws es more m
  staged-more s r = record {
    counts = counts-snoc es items e s.counts a.counts;
    right = right-append items (e ∷ []) s.right (a.right, tt);
    few = few-more.0;
    small = few-more.1;
    blocks = λ f t. elim (old-or-new f t) [ inl u ↦ s.blocks f u | inr q ↦ rw q r.prepared.0 ];
    flushed = λ f t. flushed f (old-or-new f t);
    dead = λ f g t. dead f g (old-or-new f t);
    own = λ f g t u. own f g (old-or-new f t) (old-or-new g u);
  }
    where
      flushed : (f : Entry) → Mem f items ⊎ (f ≡ e) → (k : ℕ) → Needs p ws f k → (cell_at m k).newer ≡ []
      flushed f (inl u) k t = s.flushed f u k t
      flushed f (inr q) k t = r.prepared.1 k (rw q at t)

      dead : (f g : Entry) → Mem f items ⊎ (f ≡ e) → Top es g → pointed f ≡ true → pointed g ≡ true → f.field ≡ g.field → ⊥
      dead f g (inl u) t x y z = s.dead f g u t x y z
      dead f g (inr q) t x y z = r.dead g t (rw q at x) y (rw q at z)

      own : (f g : Entry) → Mem f items ⊎ (f ≡ e) → Mem g items ⊎ (g ≡ e) → pointed f ≡ true → pointed g ≡ true → f.field ≡ g.field → f ≡ g
      own f g (inl u) (inl v) x y z = s.own f g u v x y z
      own f g (inl u) (inr q) x y z = absurd (r.own f u (rw q at y) x (sym (rw q at z)))
      own f g (inr q) (inl v) x y z = absurd (r.own g v (rw q at x) y (rw q at z))
      own f g (inr q) (inr q') x y z = q ∙ sym q'

  keys-more : length (distinct (key_list more ++ key_list es)) ≤ capacity table
  keys-more =
      let x = distinct-fewer (key_list more ++ key_list es) (e.key ∷ (key_list items ++ key_list es)) (key-snoc items e (key_list es)) in
      let y = leb-true (length (distinct (e.key ∷ (key_list items ++ key_list es)))) (capacity table) a.keys in
      omega arith

  booked-more : (book : List Item) (gets : Held) → map (item_of ws) items ≡ book → meaning ws e ≡ gets → map (item_of ws) more ≡ book ++ (record { key = e.key; gets = gets } ∷ [])
  booked-more book gets b h =
      map-append (item_of ws) items (e ∷ [])
      ∙ ap (λ (l : List Item). l ++ (item_of ws e ∷ [])) b
      ∙ ap (λ (g : Held). book ++ (record { key = e.key; gets = g } ∷ [])) h

-- ONE MORE ITEM, last in the book
pub stand-more : (p n table : ℕ) (C : ℕ → Held) (book : List Item) (items : List Entry) (m : Medium) (s : Standing p n table C book items m) (e : Entry) (gets : Held)
    → Admitted table s.entries items e → Ready p n s.words s.entries items m e → meaning s.words e ≡ gets
    → Standing p n table C (book ++ (record { key = e.key; gets = gets } ∷ [])) (items ++ (e ∷ [])) m
stand-more p n table C book items m s e gets a r h = record {
  words = s.words;
  entries = s.entries;
  rest = s.rest;
  flushed = s.flushed;
  holds = s.holds;
  keys = keys-more p n table s.words s.entries items m e a;
  staged = staged-more p n table s.words s.entries items m e a s.staged r;
  booked = booked-more p n table s.words s.entries items m e a book gets s.booked h;
}
