-- Staging: an accepted put or delete puts its item last into the book's staged items and keeps the contents, cut or
-- not.
-- Assumes nothing.
use Rattle.std.proofs.lemmas.Bool.Decides.{nat_tests}
use mathlib.Core.Path.{◌≡◌, refl, sym, ◌∙◌, ap}
use mathlib.Core.Bool.{Bool, true, false}
use mathlib.Core.List.{List, [], ◌∷◌, ◌++◌}
use Prim.Native.Nat.{ℕ, suc, ◌+◌, ◌*◌, ◌/◌, ◌%◌, ◌^◌, ◌≤◌}
use native.Mathlib.Omega.{arith}
use lib.Dec.{eqb, leb, ltb}
use lib.ListN.{length, get_or}
use borrow.Author.Tests.{eqb-false, leb-true, leb-false, lt-ltb}
use Rattle.spec.specs.Basics.{pick}
use Rattle.spec.specs.Words.{AreBytes, packed}
use Rattle.spec.specs.Places.{first_unit, directory_word}
use Rattle.spec.specs.Medium.{Action, Medium, latest}
use Rattle.spec.specs.Directory.{is_size}
use Rattle.spec.specs.Log.{Entry, filled, max_in_log}
use Rattle.spec.specs.Blocks.{block_limit, block_size}
use Rattle.spec.specs.Contents.{Held, Absent, Value, highest, entries_in}
use Rattle.spec.specs.Actions.{take_of, block_of}
use Rattle.spec.specs.Plans.{Task, Staging, olds_of, Begin, next_version, fits_batch, max_put_version, max_version, entry, Slot as Found, InData, InFree, Nowhere, slot_for, stage_large, plan_put, plan_delete}
use Rattle.spec.specs.Book.{Item}
use Rattle.spec.specs.Basics.{Given}
use Rattle.words.proofs.Values.{length-packed, packed-filled, bytes_packed}
use Rattle.theory_base.proofs.Sizes as Z
use Rattle.theory_log.specs.Batch.{put, block, delete, Right}
use Rattle.theory_plans.specs.Standing.{Standing, Going, Reading}
use Rattle.theory_plans.specs.Laws.{Anything}
use Rattle.theory_plans.proofs.Begun.{PutBegun, put-begun, DeleteBegun, delete-begun}
use Rattle.theory_plans.proofs.Between.{stand-entries}
use Rattle.theory_plans.proofs.Item.{Admitted, log-ready, stand-more}
use Rattle.theory_plans.proofs.Large.{block_words, data-goes, free-goes, data_reads, free-reads}
use Rattle.theory_plans.proofs.Reading.{same_reads}

-- The new entries are right; h, k: the words before the value's.
module _ (v : List ℕ) (bytes : AreBytes v) where
  put-filled : (h k : ℕ) → filled 0 (length v) (h ∷ k ∷ packed v) ≡ true
  put-filled h k = go (eqb (length v % 8) 0) (eqb-false (length v % 8) 0)
    where
      go : (b : Bool) → (b ≡ false → length v % 8 ≡ 0 → ⊥) → pick b true (ltb (get_or (h ∷ k ∷ packed v) (2 + length v / 8) 0) (256 ^ (length v % 8))) ≡ true
      go true x = refl
      go false x = let q : 2 + length v / 8 ≡ suc (suc (length v / 8)) = omega arith in rw q (lt-ltb (get_or (packed v) (length v / 8) 0) (256 ^ (length v % 8)) (packed-filled v bytes (x refl)))

  put_right : (version k : ℕ) → suc version ≤ max_put_version → length v ≤ max_in_log → Right (entry 1 0 (suc version) (length v) k (packed v))
  put_right version k h l = record { kind = put l; low = omega arith; high = omega arith; words = length-packed v; fill = put-filled _ k }

block-right : (version u k : ℕ) → suc version ≤ max_put_version → Right (entry 1 1 (suc version) u k [])
block-right version u k h = record { kind = block; low = omega arith; high = omega arith; words = refl; fill = refl }

delete-right : (version k : ℕ) → suc version ≤ max_version → Right (entry 2 0 (suc version) 0 k [])
delete-right version k h = record { kind = delete; low = omega arith; high = omega arith; words = refl; fill = refl }

module _ (p : ℕ) (lo : 12 ≤ p) (hi : p ≤ 16) (n table : ℕ) (C : ℕ → Held) (book : List Item) (items : List Entry) (m : Medium) (s : Standing p n table C book items m) where
  abbrev ws : List ℕ
  ws = s.words

  abbrev es : List Entry
  es = s.entries

  -- a plan that begins a staging
  begins : (book' : List Item) (items₁ items' : List Entry) (task : Task) (acts₁ acts : List Action) → Begin items₁ Staging acts₁ ≡ Begin items' task acts → Going p n table C C book' items₁ acts₁ m
      → Reading p n table C ws [] acts₁ m → (task ≡ Staging) × (Going p n table C C book' items' acts m × Reading p n table C ws (olds_of task) acts m)
  begins book' items₁ items' task acts₁ acts h g d = grind (arith, nat_tests)

  -- a staging with no action
  no_reads : Reading p n table C ws [] [] m
  no_reads = same_reads p lo hi n table C book items m s [] [] Anything tt tt tt tt

  -- A PUT of at most the bytes that a block can hold
  planned-put : (items' : List Entry) (task : Task) (acts : List Action) (x : Given) (k : ℕ) (v : List ℕ) → AreBytes v → plan_put p n ws table es items x k v ≡ Begin items' task acts
      → (task ≡ Staging) × (Going p n table C C (book ++ (record { key = k; gets = Value v } ∷ [])) items' acts m × Reading p n table C ws (olds_of task) acts m)
  planned-put items' task acts x k v bytes h = go (leb (length v) max_in_log) refl begun.batch begun.staged
    where
      version : ℕ
      version = next_version k es items

      book' : List Item
      book' = book ++ (record { key = k; gets = Value v } ∷ [])

      size : ℕ
      size = block_size p (length v)

      Goal : Type 0
      Goal = (task ≡ Staging) × (Going p n table C C book' items' acts m × Reading p n table C ws (olds_of task) acts m)

      begun : PutBegun p n ws table es items x k v items' task acts
      begun = put-begun p n ws table es items x k v items' task acts h

      spent : version ≤ max_put_version
      spent = leb-true version max_put_version begun.unspent

      admitted : (u : ℕ) → fits_batch items 2 ≡ true → Admitted table es items (entry 1 1 version u k [])
      admitted u b = record { counts = refl; right = block-right (highest k (es ++ items)) u k spent; batch = b; keys = begun.keys }

      block' : 257 ≤ length v → (is_size p size ≡ true) × (length v + 8 ≤ 256 * size)
      block' l = let a = leb-true (length v) (block_limit p) begun.short in Z.block_size_lem p (length v) l (omega arith)

      large : 257 ≤ length v → fits_batch items 2 ≡ true → (q : Found) → slot_for p n ws es items size ≡ q → stage_large p ws items version k v q ≡ Begin items' task acts → Goal
      large l b (InData u) e g =
          begins book' (items ++ (entry 1 1 version u k [] ∷ [])) items' task (block_of u (length v ∷ packed v)) acts g
          (data-goes p lo hi n table C book items m s v bytes size (block' l).0 (block_words v bytes size l (block' l).1) version k u e (admitted u b))
          (data_reads p lo hi n table C book items m s v bytes size (block' l).0 (block_words v bytes size l (block' l).1) version k u e (admitted u b))
      large l b (InFree c) e g =
          begins book' (items ++ (entry 1 1 version (first_unit p c) k [] ∷ [])) items' task (take_of c (get_or ws (directory_word c) 0) size ++ block_of (first_unit p c) (length v ∷ packed v)) acts g
          (free-goes p lo hi n table C book items m s v bytes size (block' l).0 (block_words v bytes size l (block' l).1) version k c e (admitted (first_unit p c) b))
          (free-reads p lo hi n table C book items m s v bytes size (block' l).0 (block_words v bytes size l (block' l).1) version k c e (admitted (first_unit p c) b))
      large l b Nowhere e g = absurd (let o : ◌≡◌ {A = ℕ} 0 1 = cc in omega arith)

      go : (b : Bool) → leb (length v) max_in_log ≡ b → fits_batch items (2 + pick b ((length v + 7) / 8) 0) ≡ true
          → pick b (Begin (items ++ (entry 1 0 version (length v) k (packed v) ∷ [])) Staging []) (stage_large p ws items version k v (slot_for p n ws es items size)) ≡ Begin items' task acts → Goal
      go true q b g =
          begins book' (items ++ (entry 1 0 version (length v) k (packed v) ∷ [])) items' task [] acts g
          (stand-more p n table C book items m s (entry 1 0 version (length v) k (packed v)) (Value v)
          (record { counts = refl; right = put_right v bytes (highest k (es ++ items)) k spent (leb-true (length v) max_in_log q); batch = rw (length-packed v) b; keys = begun.keys })
          (log-ready p n ws es items m (entry 1 0 version (length v) k (packed v)) refl) (ap Value (bytes_packed v bytes)))
          no_reads
      go false q b g = large (leb-false (length v) max_in_log q) b (slot_for p n ws es items size) refl g

  planned-delete : (items' : List Entry) (task : Task) (acts : List Action) (x : Given) (k : ℕ) → plan_delete table es items x k ≡ Begin items' task acts
      → (task ≡ Staging) × (Going p n table C C (book ++ (record { key = k; gets = Absent } ∷ [])) items' acts m × Reading p n table C ws (olds_of task) acts m)
  planned-delete items' task acts x k h =
      begins (book ++ (record { key = k; gets = Absent } ∷ [])) (items ++ (e ∷ [])) items' task [] acts begun.staged
      (stand-more p n table C book items m s e Absent
      (record { counts = refl; right = delete-right (highest k (es ++ items)) k (leb-true version max_version begun.unspent); batch = begun.batch; keys = begun.keys })
      (log-ready p n ws es items m e refl) refl)
      no_reads
    where
      version : ℕ
      version = next_version k es items

      e : Entry
      e = entry 2 0 version 0 k []

      begun : DeleteBegun table es items x k items' task acts
      begun = delete-begun table es items x k items' task acts h

module _ (p : ℕ) (lo : 12 ≤ p) (hi : p ≤ 16) where
  pub put-goes : (n table : ℕ) (C : ℕ → Held) (book : List Item) (items items' : List Entry) (task : Task) (acts : List Action) (m : Medium) (x : Given) (k : ℕ) (v : List ℕ)
      → AreBytes v → Standing p n table C book items m → plan_put p n (latest m) table (entries_in p n (latest m)) items x k v ≡ Begin items' task acts
      → (task ≡ Staging) × Going p n table C C (book ++ (record { key = k; gets = Value v } ∷ [])) items' acts m
  put-goes n table C book items items' task acts m x k v bytes s h =
      let g = planned-put p lo hi n table C book items m s items' task acts x k v bytes
      (ap (λ (ws : List ℕ). plan_put p n ws table s.entries items x k v) (sym s.rest.now)
      ∙ ap (λ (es : List Entry). plan_put p n (latest m) table es items x k v) (sym (stand-entries p lo hi n table C book items m s))
      ∙ h) in
      (g.0, g.1.0)

  pub put_reads : (n table : ℕ) (C : ℕ → Held) (book : List Item) (items items' : List Entry) (task : Task) (acts : List Action) (m : Medium) (x : Given) (k : ℕ) (v : List ℕ)
      → AreBytes v → Standing p n table C book items m → plan_put p n (latest m) table (entries_in p n (latest m)) items x k v ≡ Begin items' task acts
      → Reading p n table C (latest m) (olds_of task) acts m
  put_reads n table C book items items' task acts m x k v bytes s h =
      rw s.rest.now (planned-put p lo hi n table C book items m s items' task acts x k v bytes
      (ap (λ (ws : List ℕ). plan_put p n ws table s.entries items x k v) (sym s.rest.now)
      ∙ ap (λ (es : List Entry). plan_put p n (latest m) table es items x k v) (sym (stand-entries p lo hi n table C book items m s))
      ∙ h)).1.1

  pub delete-goes : (n table : ℕ) (C : ℕ → Held) (book : List Item) (items items' : List Entry) (task : Task) (acts : List Action) (m : Medium) (x : Given) (k : ℕ)
      → Standing p n table C book items m → plan_delete table (entries_in p n (latest m)) items x k ≡ Begin items' task acts
      → (task ≡ Staging) × Going p n table C C (book ++ (record { key = k; gets = Absent } ∷ [])) items' acts m
  delete-goes n table C book items items' task acts m x k s h =
      let g = planned-delete p lo hi n table C book items m s items' task acts x k
      (ap (λ (es : List Entry). plan_delete table es items x k) (sym (stand-entries p lo hi n table C book items m s)) ∙ h) in
      (g.0, g.1.0)

  pub delete-reads : (n table : ℕ) (C : ℕ → Held) (book : List Item) (items items' : List Entry) (task : Task) (acts : List Action) (m : Medium) (x : Given) (k : ℕ)
      → Standing p n table C book items m → plan_delete table (entries_in p n (latest m)) items x k ≡ Begin items' task acts
      → Reading p n table C (latest m) (olds_of task) acts m
  delete-reads n table C book items items' task acts m x k s h =
      rw s.rest.now (planned-delete p lo hi n table C book items m s items' task acts x k
      (ap (λ (es : List Entry). plan_delete table es items x k) (sym (stand-entries p lo hi n table C book items m s)) ∙ h)).1.1
