-- What a staging and a commit do to the room: a staging keeps it, and so does a commit that is begun while a free
-- chunk stands: every cut in them leaves a roomy image. A call that is begun while a free chunk stands leaves one
-- standing.
-- Assumes nothing.
use Rattle.std.proofs.lemmas.Bool.Decides.{nat_tests}
use mathlib.Core.Path.{◌≡◌, refl, sym, ◌∙◌, ap}
use mathlib.Core.Logic.{◌⊎◌, inl, inr}
use mathlib.Core.Bool.{Bool, true, false}
use mathlib.Core.Option.{Option, none, some}
use mathlib.Core.List.{List, [], ◌∷◌, ◌++◌}
use Prim.Native.Nat.{ℕ, zero, suc, ◌+◌, ◌-◌, ◌*◌, ◌≤◌, ◌<◌}
use native.Mathlib.Omega.{arith}
use native.Mathlib.Decide.{ℕ_discrete}
use lib.Dec.{leb}
use lib.ListN.{length, get_or}
use borrow.Author.Tests.{leb-true, leb-false}
use Rattle.spec.specs.Basics.{pick, negate, is_empty, up_from, filter, first}
use Rattle.spec.specs.Words.{AreBytes, packed}
use Rattle.spec.specs.Places.{chunk_lines, first_unit, unit_chunk, unit_word, directory_word, max_chunks}
use Rattle.spec.specs.Medium.{Action, Medium, run, latest, CanCutTo, cell_at}
use Rattle.spec.specs.Directory.{is_size, is_free, is_log, role_at, role_of, lines_of, free_chunks}
use Rattle.spec.specs.Log.{Entry, encode_all, max_in_log}
use Rattle.spec.specs.Blocks.{block_limit, block_size}
use Rattle.spec.specs.Contents.{Held, capacity, keys_of, entries_in, kept_in}
use Rattle.spec.specs.Actions.{lines_for, take_of, block_of}
use Rattle.spec.specs.Plans.{Task, Staging, Begin, Slot, InData, InFree, Nowhere, next_version, entry, free_chunk, slot_for, stage_large, plan_put, plan_delete, free_needed, has_space, or_else, log_place, append_to, commit_at, plan_commit}
use Rattle.spec.specs.Book.{Item, done_items}
use Rattle.spec.specs.Unstuck.{FreeStands}
use Rattle.spec.specs.Basics.{Given}
use Rattle.spec.specs.declared.Refusal.TheVariants as N
use Rattle.spec.specs.declared.Role.{Role}
use Rattle.spec.specs.declared.Role.TheVariants as R
use Rattle.theory_base.proofs.Lists.{both_l}
use Rattle.theory_base.proofs.Places.{base-low, lines-least, units-least, unit-at, unit-place}
use Rattle.theory_base.proofs.Sizes as Z
use Rattle.theory_base.proofs.Words as W
use Rattle.theory_base.proofs.Through.{Through, Each, through-map}
use Rattle.theory_log.proofs.Directory.{lines-is, role-data}
use Rattle.theory_crash.specs.Accepted.{Ok}
use Rattle.theory_crash.specs.Rest.{Holds, Cuts, CutsTo}
use Rattle.theory_crash.specs.Stage as B
use Rattle.theory_crash.proofs.Append.{some-lines}
use Rattle.theory_crash.proofs.Cells.{each_append}
use Rattle.theory_crash.proofs.Directory.{free-says}
use Rattle.theory_crash.proofs.Rest.{rest-long, rest-cut}
use Rattle.theory_crash.proofs.Stage.{stage-to, take-stage-to}
use Rattle.theory_crash.proofs.Room.{Says, StoresAs, says-through, append-stores, take-stores, block-stores, append-spares, through-both, NoData, IsFree, Sure, sure-append, sure-block, sure-take, RoomyCuts, Room, OneNone, free-keeps, free-roomy, roomy-chunk, two-through, says-run}
use Rattle.theory_plans.specs.Standing.{Standing, Going}
use Rattle.theory_plans.proofs.Between.{known-few, stand-entries}
use Rattle.theory_plans.proofs.LogPlace.{first-filter, log-place}
use Rattle.theory_plans.proofs.Slots.{slot-free, slot-data}
use Rattle.theory_plans.proofs.Large.{block_words, words-fit}
use Rattle.theory_plans.proofs.Committing.{commit-begun}
use Rattle.theory_plans.proofs.Unstuck.{free-stands}
use Rattle.theory_plans.proofs.Begun.{need-begin, put-begun, delete-begun}

pub begun-acts : (items items' : List Entry) (task task' : Task) (acts acts' : List Action) → Begin items task acts ≡ Begin items' task' acts' → acts' ≡ acts
begun-acts items items' task task' acts acts' h = cc

-- FREE CHUNKS in the list: one, and one other than c where there are two
some-such : (test : ℕ → Bool) (a k : ℕ) → 1 ≤ length (filter test (up_from a k)) → (f : ℕ) × ((a ≤ f) × ((f < a + k) × (test f ≡ true)))
some-such test a zero h = absurd (omega arith)
some-such test a (suc k) h = go (test a) refl h (some-such test (suc a) k)
  where
    go : (b : Bool) → test a ≡ b → 1 ≤ length (pick b (a ∷ filter test (up_from (suc a) k)) (filter test (up_from (suc a) k)))
        → (1 ≤ length (filter test (up_from (suc a) k)) → (f : ℕ) × ((suc a ≤ f) × ((f < suc a + k) × (test f ≡ true)))) → (f : ℕ) × ((a ≤ f) × ((f < a + suc k) × (test f ≡ true)))
    go true q l rec = (a, (omega arith, (omega arith, q)))
    go false q l rec = let r = rec l in let x = r.1.0 in let y = r.1.1.0 in (r.0, (omega arith, (omega arith, r.1.1.1)))

other-such : (test : ℕ → Bool) (a k c : ℕ) → 2 ≤ length (filter test (up_from a k)) → (f : ℕ) × ((a ≤ f) × ((f < a + k) × ((test f ≡ true) × (f ≡ c → ⊥))))
other-such test a zero c h = absurd (omega arith)
other-such test a (suc k) c h = go (test a) refl (ℕ_discrete a c) h (other-such test (suc a) k c)
  where
    go : (b : Bool) → test a ≡ b → Dec (a ≡ c) → 2 ≤ length (pick b (a ∷ filter test (up_from (suc a) k)) (filter test (up_from (suc a) k)))
        → (2 ≤ length (filter test (up_from (suc a) k)) → (f : ℕ) × ((suc a ≤ f) × ((f < suc a + k) × ((test f ≡ true) × (f ≡ c → ⊥))))) → (f : ℕ) × ((a ≤ f) × ((f < a + suc k) × ((test f ≡ true) × (f ≡ c → ⊥))))
    go true q (no e) l rec = (a, (omega arith, (omega arith, (q, e))))
    go true q (yes e) l rec =
        let r = some-such test (suc a) k (omega arith) in
        let x = r.1.0 in
        let y = r.1.1.0 in
        (r.0, (omega arith, (omega arith, (r.1.1.1, λ z. omega arith))))
    go false q d l rec = let r = rec l in let x = r.1.0 in let y = r.1.1.0 in (r.0, (omega arith, (omega arith, r.1.1.1)))

pub one_free : (p n : ℕ) (ws : List ℕ) → FreeStands p n ws → (f : ℕ) × ((1 ≤ f) × ((f < n) × (is_free (role_at p ws f) ≡ true)))
one_free p n ws h = let r = some-such (λ c. is_free (role_at p ws c)) 1 (n - 1) h in let x = r.1.0 in let y = r.1.1.0 in (r.0, (x, (omega arith, r.1.1.1)))

other-free : (p n : ℕ) (ws : List ℕ) (c : ℕ) → 2 ≤ length (free_chunks p n ws) → (f : ℕ) × ((1 ≤ f) × ((f < n) × ((is_free (role_at p ws f) ≡ true) × (f ≡ c → ⊥))))
other-free p n ws c h = let r = other-such (λ d. is_free (role_at p ws d)) 1 (n - 1) c h in let x = r.1.0 in let y = r.1.1.0 in (r.0, (x, (omega arith, r.1.1.1)))

enough-free : (p n : ℕ) (ws : List ℕ) (needed c : ℕ) → free_chunk p n ws needed ≡ some c → needed ≤ length (free_chunks p n ws)
enough-free p n ws needed c h = grind (arith, nat_tests)

slot-three : (p n : ℕ) (ws : List ℕ) (es items : List Entry) (s c : ℕ) → slot_for p n ws es items s ≡ InFree c → 3 ≤ length (free_chunks p n ws)
unfolding slot_for
slot-three p n ws es items s c h = grind (arith, nat_tests)

-- a free chunk other than the place that a commit finds
spare-free : (p n : ℕ) (ws : List ℕ) (b needed d : ℕ) → 2 ≤ needed → FreeStands p n ws → log_place p n ws b 0 needed ≡ some d → (f : ℕ) × ((1 ≤ f) × ((f < n) × ((is_free (role_at p ws f) ≡ true) × (f ≡ d → ⊥))))
unfolding log_place
spare-free p n ws b needed d two stands h = go (first (filter (has_space p ws b 0) (up_from 1 (n - 1)))) refl h
  where
    go : (q : Option ℕ) → first (filter (has_space p ws b 0) (up_from 1 (n - 1))) ≡ q → or_else q (free_chunk p n ws needed) ≡ some d → (f : ℕ) × ((1 ≤ f) × ((f < n) × ((is_free (role_at p ws f) ≡ true) × (f ≡ d → ⊥))))
    go none e k = let l = enough-free p n ws needed d k in other-free p n ws d (omega arith)
    go (some c) e k =
        let f = one_free p n ws stands in
        let s : c ≡ d = cc in
        let i = first-filter (has_space p ws b 0) (up_from 1 (n - 1)) d (e ∙ k) in
        let log = both_l (is_log (role_at p ws d)) _ i.1 in
        (f.0, (f.1.0, (f.1.1.0, (f.1.1.1, λ z. apart (role_at p ws d) (ap (λ (x : ℕ). is_free (role_at p ws x)) (sym z) ∙ f.1.1.1) log))))
      where
        apart : (r : Role) → is_free r ≡ true → is_log r ≡ true → ⊥
        apart R.Free x y = let z : ◌≡◌ {A = ℕ} 0 1 = cc in omega arith
        apart (R.Log k) x y = let z : ◌≡◌ {A = ℕ} 0 1 = cc in omega arith
        apart (R.Data k) x y = let z : ◌≡◌ {A = ℕ} 0 1 = cc in omega arith
        apart R.Wrong x y = let z : ◌≡◌ {A = ℕ} 0 1 = cc in omega arith

needs_two : (items : List Entry) → 2 ≤ free_needed items
needs_two items = grind (arith, nat_tests)

-- ON A MEDIUM THAT STANDS and has room
module _ (p : ℕ) (lo : 12 ≤ p) (hi : p ≤ 16) (n table : ℕ) (C : ℕ → Held) (book : List Item) (items : List Entry) (m : Medium) (s : Standing p n table C book items m) (room : Room p n m) where
  abbrev ws : List ℕ
  ws = s.words

  abbrev es : List Entry
  es = s.entries

  abbrev Goes : List Action → Type 0
  Goes acts = Through (RoomyCuts p n) (Room p n) acts m

  most : n ≤ max_chunks
  most = s.rest.ok.most

  long : 512 ≤ length m
  long = let a = rest-long p lo hi n ws es m s.rest in let l = s.rest.ok.least in let b = base-low p lo hi n (omega arith) in omega arith

  few : length (keys_of es) ≤ capacity table
  few = known-few p lo hi n table C book items m s

  -- a chunk that is free, or a log chunk of which nothing is kept
  abbrev Chunk : ℕ → Type 0
  Chunk z = (1 ≤ z) × ((z < n) × (Says (NoData p) z m × (kept_in p z es ≡ [])))

  chunk : (z : ℕ) × Chunk z
  chunk = roomy-chunk p lo hi n ws es m s.rest room

  surely : (f : ℕ) → 1 ≤ f → f < n → is_free (role_at p ws f) ≡ true → Says (IsFree p) f m
  surely f low high h = room.0 f low high (rw s.rest.now h)

  free-chunk-is : (f : ℕ) → 1 ≤ f → f < n → is_free (role_at p ws f) ≡ true → Chunk f
  free-chunk-is f low high h =
      let u = surely f low high h in
      (low, (high, ((u.0, λ x t. (free-says (role_of p x) (u.1 x t)).1), free-keeps p lo hi n ws es f s.rest.ok low high (lines-is p ws f ∙ (free-says (role_at p ws f) h).0))))

  one-through : (z : ℕ) → Chunk z → (acts : List Action) → Through (CutsTo p n (OneNone p z z)) (CutsTo p n (OneNone p z z)) acts m → Each (StoresAs (NoData p) z) acts → Sure p n (run acts m) → Goes acts
  one-through z (low, (high, (says, kept))) acts t e sure = two-through p lo hi n z z low high low high acts m t e e says says sure

  -- A STAGING
  far : (u : ℕ) → 1 ≤ unit_chunk p u → 512 ≤ unit_word u
  far u low = let at = unit-place p lo hi u in let b = base-low p lo hi (unit_chunk p u) low in omega arith

  data-room : (u size : ℕ) (words : List ℕ) → B.Slot p n ws es u size → length words ≤ 32 * size → Goes (block_of u words)
  data-room u size words sl fit =
      let z = chunk.0 in
      let c = chunk.1 in
      let high = c.1.0 in
      one-through z c (block_of u words) (stage-to p lo hi n es ws m u size words s.rest sl fit (OneNone p z z) (inl c.1.1.1))
      (block-stores (NoData p) z p lo hi (let q = most in omega arith) u words sl.low) (sure-block p n most u words m long (far u sl.low) room.0)

  taken-room : (c size : ℕ) (words : List ℕ) → 1 ≤ c → c < n → is_free (role_at p ws c) ≡ true → 3 ≤ length (free_chunks p n ws) → is_size p size ≡ true → length words ≤ 32 * size
      → Goes (take_of c (get_or ws (directory_word c) 0) size ++ block_of (first_unit p c) words)
  taken-room c size words low high free' three is fit = go other
    where
      old : ℕ
      old = get_or ws (directory_word c) 0

      other : (z : ℕ) × (Chunk z × (z ≡ c → ⊥))
      other = pick' (ℕ_discrete chunk.0 c)
        where
          pick' : Dec (chunk.0 ≡ c) → (z : ℕ) × (Chunk z × (z ≡ c → ⊥))
          pick' (no e) = (chunk.0, (chunk.1, e))
          pick' (yes e) = let f = other-free p n ws c (omega arith) in (f.0, (free-chunk-is f.0 f.1.0 f.1.1.0 f.1.1.1.0, f.1.1.1.1))

      at-chunk : unit_chunk p (first_unit p c) ≡ c
      at-chunk = let z : first_unit p c + 0 ≡ first_unit p c = omega arith in let a = units-least p lo hi in rw z at (unit-at p lo hi c 0 (omega arith)).0

      go : (z : ℕ) × (Chunk z × (z ≡ c → ⊥)) → Goes (take_of c old size ++ block_of (first_unit p c) words)
      go (z, (k, ne)) =
          let zh = k.1.0 in
          let inside : z < max_chunks = (let q = most in omega arith) in
          let first' : 1 ≤ unit_chunk p (first_unit p c) = rw at-chunk low in
          one-through z k (take_of c old size ++ block_of (first_unit p c) words)
          (take-stage-to p lo hi n (capacity table) es C ws m c old size s.rest s.holds few s.flushed low high free' is words fit (OneNone p z z) (inl k.1.1.1))
          (each_append (StoresAs (NoData p) z) (take_of c old size) (block_of (first_unit p c) words) (take-stores (NoData p) z p lo hi inside c old size ne) (block-stores (NoData p) z p lo hi inside (first_unit p c) words first'))
          (sure-take p n most c old size (first_unit p c) words m long high low (far (first_unit p c) first') (rw (role-data p old size is) refl) room.0)

  -- what a staging's actions are: none, a block filled, or a free chunk taken and its first block filled
  pub put-cases : (G : List Action → Type 0) → G [] → ((u size : ℕ) (words : List ℕ) → B.Slot p n ws es u size → length words ≤ 32 * size → G (block_of u words))
      → ((c size : ℕ) (words : List ℕ) → 1 ≤ c → c < n → is_free (role_at p ws c) ≡ true → 3 ≤ length (free_chunks p n ws) → is_size p size ≡ true → length words ≤ 32 * size
      → G (take_of c (get_or ws (directory_word c) 0) size ++ block_of (first_unit p c) words))
      → (items' : List Entry) (task : Task) (acts : List Action) (x : Given) (k : ℕ) (v : List ℕ) → AreBytes v → plan_put p n ws table es items x k v ≡ Begin items' task acts → G acts
  put-cases G nothing block take items' task acts x k v bytes h =
      let b = put-begun p n ws table es items x k v items' task acts h in
      go (leb-true (length v) (block_limit p) b.short) (leb (length v) max_in_log) refl b.staged
    where
      size : ℕ
      size = block_size p (length v)

      version : ℕ
      version = next_version k es items

      large : 257 ≤ length v → length v ≤ block_limit p → (q : Slot) → slot_for p n ws es items size ≡ q → stage_large p ws items version k v q ≡ Begin items' task acts → G acts
      large l u (InData x) e g =
          let z = Z.block_size_lem p (length v) l (omega arith) in
          let o = (Z.size_is p size z.0).0 in
          rw (begun-acts _ _ _ _ _ _ g) (block x size (length v ∷ packed v) (slot-data p lo hi n ws es items size x (omega arith) e).0 (words-fit size (length v ∷ packed v) (block_words v bytes size l z.1)))
      large l u (InFree c) e g =
          let z = Z.block_size_lem p (length v) l (omega arith) in
          let f = slot-free p n ws es items size c e in
          rw (begun-acts _ _ _ _ _ _ g)
          (take c size (length v ∷ packed v) f.0 f.1 f.2 (slot-three p n ws es items size c e) z.0 (words-fit size (length v ∷ packed v) (block_words v bytes size l z.1)))
      large l u Nowhere e g = absurd (let o : ◌≡◌ {A = ℕ} 0 1 = cc in omega arith)

      go : length v ≤ block_limit p → (b : Bool) → leb (length v) max_in_log ≡ b
          → pick b (Begin (items ++ (entry 1 0 version (length v) k (packed v) ∷ [])) Staging []) (stage_large p ws items version k v (slot_for p n ws es items size)) ≡ Begin items' task acts → G acts
      go u true q g = rw (begun-acts _ _ _ _ _ _ g) nothing
      go u false q g = large (leb-false (length v) max_in_log q) u (slot_for p n ws es items size) refl g

  put-plan : (items' : List Entry) (task : Task) (acts : List Action) (x : Given) (k : ℕ) (v : List ℕ) → AreBytes v → plan_put p n ws table es items x k v ≡ Begin items' task acts → Goes acts
  put-plan = put-cases Goes room data-room taken-room

  delete-plan : (items' : List Entry) (task : Task) (acts : List Action) (x : Given) (k : ℕ) → plan_delete table es items x k ≡ Begin items' task acts → Goes acts
  delete-plan items' task acts x k h = rw (begun-acts _ _ _ _ _ _ (delete-begun table es items x k items' task acts h).staged) room

  -- A COMMIT, begun while a free chunk stands: another stays free all the way
  commit-plan : (items' : List Entry) (task : Task) (acts : List Action) → FreeStands p n ws → plan_commit p n ws items ≡ Begin items' task acts → Going p n table C (done_items book C) [] [] acts m → Goes acts
  unfolding plan_commit
  commit-plan items' task acts stands h going =
      let a = need-begin (negate (is_empty items)) N.NothingStaged _ items' task acts h in
      go (log_place p n ws (lines_for (length (encode_all items))) 0 (free_needed items)) refl a.1
    where
      fits : lines_for (length (encode_all items)) ≤ chunk_lines p
      fits = let a = s.staged.small in let b = lines-least p lo hi in omega arith

      some' : (q : List Entry) → negate (is_empty q) ≡ true → 1 ≤ lines_for (length (encode_all q))
      some' [] e = absurd (let o : ◌≡◌ {A = ℕ} 0 1 = cc in omega arith)
      some' (x ∷ xs) e = some-lines x xs

      B : Medium → Type 0
      B = Cuts p n (capacity table) C (done_items book C)

      A : Medium → Type 0
      A = Standing p n table (done_items book C) [] []

      taken : (m' : Medium) → B m' → (xs : List ℕ) → CanCutTo m' xs → (fs : List Entry) × Ok p n xs fs
      taken m' c xs t = two (c xs t)
        where
          two : Holds p n (capacity table) C xs ⊎ Holds p n (capacity table) (done_items book C) xs → (fs : List Entry) × Ok p n xs fs
          two (inl x) = (x.0, x.1)
          two (inr x) = (x.0, x.1)

      go : (q : Option ℕ) → log_place p n ws (lines_for (length (encode_all items))) 0 (free_needed items) ≡ q → commit_at p ws items q ≡ Begin items' task acts → Goes acts
      go none e g = absurd (let o : ◌≡◌ {A = ℕ} 0 1 = cc in omega arith)
      go (some d) e g =
          let place = (log-place p n ws (lines_for (length (encode_all items))) 0 (free_needed items) d fits e).0 in
          let f = spare-free p n ws (lines_for (length (encode_all items))) (free_needed items) d (needs_two items) stands e in
          let z = f.0 in
          let zl = f.1.0 in
          let zh = f.1.1.0 in
          let ne = f.1.1.1.1 in
          let k : acts ≡ append_to p ws (encode_all items) d = begun-acts _ _ _ _ _ _ g in
          let inside : z < max_chunks = (let q = most in omega arith) in
          let stores : Each (StoresAs (IsFree p) z) acts = rw k (append-stores (IsFree p) z p lo hi inside d (get_or ws (directory_word d) 0) (lines_of p ws d) (encode_all items) place.low (λ w. absurd (ne w))) in
          let b = some' items (need-begin (negate (is_empty items)) N.NothingStaged _ items' task acts h).0 in
          let sure : Sure p n (run acts m) = rw k (sure-append p n most d (get_or ws (directory_word d) 0) (lines_of p ws d) (encode_all items) m long place.high (append-spares p lo hi d _ _ _ place.low) (omega arith) place.fit room.0) in
          through-map (λ m'. B m' × Says (IsFree p) z m') (RoomyCuts p n) (λ m'. A m' × Says (IsFree p) z m') (Room p n) acts m
          (λ m' x. free-roomy p lo hi n z zl zh m' (taken m' x.0) x.1)
          (λ x. (sure, free-roomy p lo hi n z zl zh (run acts m) (λ xs t. (x.0.entries, (rest-cut p lo hi n x.0.words x.0.entries (run acts m) x.0.rest xs t).0)) x.1))
          (through-both B (Says (IsFree p) z) A (Says (IsFree p) z) acts m going (says-through (IsFree p) z acts m stores (surely z zl zh f.1.1.1.0)))

-- A FREE CHUNK STAYS: a call that is begun while a free chunk stands leaves one standing
module _ (p : ℕ) (lo : 12 ≤ p) (hi : p ≤ 16) (n table : ℕ) (C : ℕ → Held) (book : List Item) (items : List Entry) (m : Medium) (s : Standing p n table C book items m) (room : Room p n m)
    (stands : FreeStands p n s.words) where
  stays : (f : ℕ) → 1 ≤ f → f < n → is_free (role_at p s.words f) ≡ true → (acts : List Action) → Each (StoresAs (IsFree p) f) acts → FreeStands p n (latest (run acts m))
  stays f low high h acts e =
      let u = says-run (IsFree p) f acts m e (surely p lo hi n table C book items m s room f low high h) in
      free-stands p n (latest (run acts m)) f low high (rw (W.get_or-latest (run acts m) (directory_word f)) (u.1 (cell_at (run acts m) (directory_word f)).now (inl refl)))

  within : (f : ℕ) → f < n → f < max_chunks
  within f high = let q = s.rest.ok.most in omega arith

  put-stays : (items' : List Entry) (task : Task) (acts : List Action) (x : Given) (k : ℕ) (v : List ℕ) → AreBytes v → plan_put p n s.words table s.entries items x k v ≡ Begin items' task acts
      → FreeStands p n (latest (run acts m))
  put-stays =
      put-cases p lo hi n table C book items m s room (λ acts. FreeStands p n (latest (run acts m))) (rw s.rest.now stands)
      (λ u size words sl fit. let f = one_free p n s.words stands in
      stays f.0 f.1.0 f.1.1.0 f.1.1.1 (block_of u words) (block-stores (IsFree p) f.0 p lo hi (within f.0 f.1.1.0) u words sl.low))
      (λ c size words low high free' three is fit.
      let f = other-free p n s.words c (omega arith) in
      let z : first_unit p c + 0 ≡ first_unit p c = omega arith in
      let a = units-least p lo hi in
      let at-chunk : unit_chunk p (first_unit p c) ≡ c = rw z at (unit-at p lo hi c 0 (omega arith)).0 in
      let i = within f.0 f.1.1.0 in
      stays f.0 f.1.0 f.1.1.0 f.1.1.1.0 (take_of c (get_or s.words (directory_word c) 0) size ++ block_of (first_unit p c) words)
      (each_append (StoresAs (IsFree p) f.0) (take_of c (get_or s.words (directory_word c) 0) size) (block_of (first_unit p c) words) (take-stores (IsFree p) f.0 p lo hi i c (get_or s.words (directory_word c) 0) size f.1.1.1.1)
      (block-stores (IsFree p) f.0 p lo hi i (first_unit p c) words (rw at-chunk low))))

  commit-stays : (items' : List Entry) (task : Task) (acts : List Action) → plan_commit p n s.words items ≡ Begin items' task acts → FreeStands p n (latest (run acts m))
  unfolding plan_commit
  commit-stays items' task acts h =
      let a = need-begin (negate (is_empty items)) N.NothingStaged _ items' task acts h in
      go (log_place p n s.words (lines_for (length (encode_all items))) 0 (free_needed items)) refl a.1
    where
      fits : lines_for (length (encode_all items)) ≤ chunk_lines p
      fits = let a = s.staged.small in let b = lines-least p lo hi in omega arith

      go : (q : Option ℕ) → log_place p n s.words (lines_for (length (encode_all items))) 0 (free_needed items) ≡ q → commit_at p s.words items q ≡ Begin items' task acts → FreeStands p n (latest (run acts m))
      go none e g = absurd (let o : ◌≡◌ {A = ℕ} 0 1 = cc in omega arith)
      go (some d) e g =
          let place = (log-place p n s.words (lines_for (length (encode_all items))) 0 (free_needed items) d fits e).0 in
          let f = spare-free p n s.words (lines_for (length (encode_all items))) (free_needed items) d (needs_two items) stands e in
          rw (begun-acts _ _ _ _ _ _ g)
          (stays f.0 f.1.0 f.1.1.0 f.1.1.1.0 (append_to p s.words (encode_all items) d)
          (append-stores (IsFree p) f.0 p lo hi (within f.0 f.1.1.0) d (get_or s.words (directory_word d) 0) (lines_of p s.words d) (encode_all items) place.low (λ w. absurd (f.1.1.1.1 w))))

-- THE LAWS OF THE PLANS, as the calls read the image
module _ (p : ℕ) (lo : 12 ≤ p) (hi : p ≤ 16) (n table : ℕ) (C : ℕ → Held) (book : List Item) (items items' : List Entry) (task : Task) (acts : List Action) (m : Medium) (s : Standing p n table C book items m) (room : Room p n m) where
  pub put-room : (x : Given) (k : ℕ) (v : List ℕ) → AreBytes v → plan_put p n (latest m) table (entries_in p n (latest m)) items x k v ≡ Begin items' task acts → Through (RoomyCuts p n) (Room p n) acts m
  put-room x k v bytes h =
      put-plan p lo hi n table C book items m s room items' task acts x k v bytes
      (ap (λ (ws : List ℕ). plan_put p n ws table s.entries items x k v) (sym s.rest.now)
      ∙ ap (λ (es : List Entry). plan_put p n (latest m) table es items x k v) (sym (stand-entries p lo hi n table C book items m s))
      ∙ h)

  pub delete-room : (x : Given) (k : ℕ) → plan_delete table (entries_in p n (latest m)) items x k ≡ Begin items' task acts → Through (RoomyCuts p n) (Room p n) acts m
  delete-room x k h =
      delete-plan p lo hi n table C book items m s room items' task acts x k
      (ap (λ (es : List Entry). plan_delete table es items x k) (sym (stand-entries p lo hi n table C book items m s)) ∙ h)

  pub commit-room : FreeStands p n (latest m) → plan_commit p n (latest m) items ≡ Begin items' task acts → Through (RoomyCuts p n) (Room p n) acts m
  commit-room f h =
      commit-plan p lo hi n table C book items m s room items' task acts (rw s.rest.now at f) (rw s.rest.now at h) (commit-begun p lo hi n table C book items items' task acts m s h).1.1

  pub put-free : FreeStands p n (latest m) → (x : Given) (k : ℕ) (v : List ℕ) → AreBytes v → plan_put p n (latest m) table (entries_in p n (latest m)) items x k v ≡ Begin items' task acts
      → FreeStands p n (latest (run acts m))
  put-free f x k v bytes h =
      put-stays p lo hi n table C book items m s room (rw s.rest.now at f) items' task acts x k v bytes
      (ap (λ (ws : List ℕ). plan_put p n ws table s.entries items x k v) (sym s.rest.now)
      ∙ ap (λ (es : List Entry). plan_put p n (latest m) table es items x k v) (sym (stand-entries p lo hi n table C book items m s))
      ∙ h)

  pub delete-free : FreeStands p n (latest m) → (x : Given) (k : ℕ) → plan_delete table (entries_in p n (latest m)) items x k ≡ Begin items' task acts → FreeStands p n (latest (run acts m))
  delete-free f x k h = rw (begun-acts _ _ _ _ _ _ (delete-begun table (entries_in p n (latest m)) items x k items' task acts h).staged) f

  pub commit-free : FreeStands p n (latest m) → plan_commit p n (latest m) items ≡ Begin items' task acts → FreeStands p n (latest (run acts m))
  commit-free f h = commit-stays p lo hi n table C book items m s room (rw s.rest.now at f) items' task acts (rw s.rest.now at h)
