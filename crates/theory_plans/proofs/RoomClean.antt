-- What a cleaning does to the room: every cut in it leaves a roomy image, whether a free chunk stands or not, and its
-- end leaves a free chunk.
-- Assumes nothing.
use mathlib.Core.Path.{◌≡◌, refl, sym, ◌∙◌, ap}
use mathlib.Core.Logic.{◌⊎◌, inl, inr}
use mathlib.Core.Bool.{Bool, true, false}
use mathlib.Core.Option.{Option, none, some}
use mathlib.Core.List.{List, [], ◌∷◌, ◌++◌}
use Prim.Native.Nat.{ℕ, ◌+◌, ◌-◌, ◌*◌, ◌≤◌, ◌<◌}
use native.Mathlib.Omega.{arith}
use native.Mathlib.Decide.{dec_lt}
use lib.ListN.{length, get_or}
use Rattle.spec.specs.Basics.{pick, negate, is_empty}
use Rattle.spec.specs.Places.{base, chunk_words, directory_word, max_chunks, word_chunk}
use Rattle.spec.specs.Medium.{Action, Medium, run, latest}
use Rattle.spec.specs.Directory.{is_free, is_log, role_at, lines_of, size_of, freed_word}
use Rattle.spec.specs.Log.{Entry, Entries, image_entries, encode_all, placed, moved}
use Rattle.spec.specs.Contents.{Held, capacity, keys_of, entries_in, kept_in}
use Rattle.spec.specs.Actions.{lines_for}
use Rattle.spec.specs.Plans.{Task, Begin, log_place, append_to, in_use, has_live, free, clean_to, clean_log, clean_data, plan_clean}
use Rattle.spec.specs.Book.{Item}
use Rattle.spec.specs.declared.Refusal.TheVariants as N
use Rattle.theory_base.proofs.Lists.{not-both}
use Rattle.theory_base.proofs.Places.{base-low, lines-words, chunk-of-word}
use Rattle.theory_base.proofs.Through.{Through, Each}
use Rattle.theory_base.proofs.Words as W
use Rattle.theory_log.specs.Contents.{Mem}
use Rattle.theory_log.proofs.Clean.{mem-placed, placed-mem}
use Rattle.theory_log.proofs.Contents.{mem-l, mem-r, mem-cases}
use Rattle.theory_log.proofs.Directory.{lines-is, size_is}
use Rattle.theory_log.proofs.Kept.{out-chunk}
use Rattle.theory_log.proofs.Places.{Rising, all_sound}
use Rattle.theory_log.proofs.Roomy.{kept-outside, still-none, cleaned-none}
use Rattle.theory_crash.specs.Batch.{Place}
use Rattle.theory_crash.proofs.Append.{some-lines, clean-append-to}
use Rattle.theory_crash.proofs.Cells.{each_append}
use Rattle.theory_crash.proofs.Clean.{placed-in, clean-free-to}
use Rattle.theory_crash.proofs.Directory.{log-says, not-log-says, word-free, right-role}
use Rattle.theory_crash.proofs.Free.{free-data-to}
use Rattle.theory_crash.proofs.Rest.{rest-long, word-in-medium}
use Rattle.theory_crash.proofs.Room.{Says, StoresAs, says-fresh, append-stores, seal-stores, append-spares, NoData, log-no-data, freed-no-data, Sure, sure-freed, sure-append, RoomyCuts, Room, OneNone, roomy-chunk, two-through}
use Rattle.theory_plans.specs.Standing.{Standing}
use Rattle.theory_plans.proofs.Between.{known-few}
use Rattle.theory_plans.proofs.LogPlace.{negate-true, log-place}
use Rattle.theory_plans.proofs.Cleaning.{in_use_lem, kept-fits, no-live}
use Rattle.theory_plans.proofs.Begun.{need-begin}
use Rattle.spec.specs.Unstuck.{FreeStands}
use Rattle.theory_plans.proofs.Unstuck.{freed-stands}
use Rattle.theory_plans.proofs.Room.{begun-acts}

-- A CLEANING of chunk c in use
module _ (p : ℕ) (lo : 12 ≤ p) (hi : p ≤ 16) (n table : ℕ) (C : ℕ → Held) (book : List Item) (m : Medium) (s : Standing p n table C book [] m) (room : Room p n m) (c : ℕ) (low : 1 ≤ c) (high : c < n)
    (used : is_free (role_at p s.words c) ≡ false) where
  abbrev ws : List ℕ
  ws = s.words

  abbrev es : List Entry
  es = s.entries

  abbrev old : ℕ
  old = get_or ws (directory_word c) 0

  abbrev Goes : List Action → Type 0
  Goes acts = Through (RoomyCuts p n) (Room p n) acts m

  most : n ≤ max_chunks
  most = s.rest.ok.most

  inside : c < max_chunks
  inside = let q = most in omega arith

  long : 512 ≤ length m
  long = let a = rest-long p lo hi n ws es m s.rest in let l = s.rest.ok.least in let b = base-low p lo hi n (omega arith) in omega arith

  few : length (keys_of es) ≤ capacity table
  few = known-few p lo hi n table C book [] m s

  abbrev z : ℕ
  z = (roomy-chunk p lo hi n ws es m s.rest room).0

  z-is : (1 ≤ z) × ((z < n) × (Says (NoData p) z m × (kept_in p z es ≡ [])))
  z-is = (roomy-chunk p lo hi n ws es m s.rest room).1

  z-in : z < max_chunks
  z-in = let q = most in let r = z-is.1.0 in omega arith

  freed-stores : (y : ℕ) → y < max_chunks → Each (StoresAs (NoData p) y) (free c ws)
  freed-stores y i = seal-stores (NoData p) y p lo hi i c (freed_word old) (λ e. freed-no-data p old)

  gone : (hs : List Entry) → ((f : Entry) → Mem f hs → (f.at < base p c) ⊎ (base p c + chunk_words p ≤ f.at)) → kept_in p c hs ≡ []
  gone hs o = kept-outside p c hs (λ f t. out-chunk p lo hi c f (o f t))

  -- a data chunk
  data-plan : (items' : List Entry) (task : Task) (acts : List Action) → is_log (role_at p ws c) ≡ false → clean_data p ws es c ≡ Begin items' task acts → Goes acts
  data-plan items' task acts log h =
      let a = need-begin (negate (has_live p es c)) N.NotCleanable _ items' task acts h in
      let dead = negate-true (has_live p es c) a.0 in
      rw (begun-acts _ _ _ _ _ _ a.1)
      (two-through p lo hi n z z z-is.0 z-is.1.0 z-is.0 z-is.1.0 (free c ws) m
      (free-data-to p lo hi n c old ws es s.rest.ok low high m s.rest (lines-is p ws c ∙ not-log-says (role_at p ws c) log) (no-live p c es dead) (OneNone p z z) (inl z-is.1.1.1))
      (freed-stores z z-in) (freed-stores z z-in) z-is.1.1.0 z-is.1.1.0 (sure-freed p n most c old m long high room.0))

  -- a log chunk
  module _ (log : is_log (role_at p ws c) ≡ true) where
    no-data : size_of p ws c ≡ 0
    no-data = size_is p ws c ∙ log-says (role_at p ws c) log

    some-committed : Dec (0 < lines_of p ws c) → 1 ≤ lines_of p ws c
    some-committed (yes l) = l
    some-committed (no l) =
        let e : lines_of p ws c ≡ 0 = omega arith in
        absurd (not-both (is_free (role_at p ws c)) (word-free p old (right-role p n c old low high (s.rest.ok.dirs c inside)) (sym (size_is p ws c) ∙ no-data) (sym (lines-is p ws c) ∙ e)) used)

    says : Says (NoData p) c m
    says =
        says-fresh (NoData p) c m old (word-in-medium p lo hi n ws es m s.rest c inside)
        (s.rest.settled (directory_word c) (inr (inl (c, low, high, some-committed (dec_lt 0 (lines_of p ws c)), refl)))) (sym (size_is p ws c) ∙ no-data)

    none-plan : kept_in p c es ≡ [] → Goes (free c ws)
    none-plan e =
        two-through p lo hi n c c low high low high (free c ws) m
        (clean-free-to p lo hi n c old (capacity table) C ws es m s.rest s.holds few s.flushed low high no-data e (OneNone p c c) (inl e) (λ hs o k. inl (gone hs o)))
        (freed-stores c inside) (freed-stores c inside) says says (sure-freed p n most c old m long high room.0)

    -- what is kept goes to chunk d
    module _ (x : Entry) (xs : List Entry) (some' : kept_in p c es ≡ x ∷ xs) (d : ℕ) (ne : c ≡ d → ⊥) (place : Place p n d (lines_for (length (encode_all (kept_in p c es)))) ws) where
      abbrev kept : List Entry
      kept = kept_in p c es

      abbrev at' : ℕ
      at' = base p d + 8 * lines_of p ws d

      b-some : 1 ≤ lines_for (length (encode_all kept))
      b-some = rw some' (some-lines x xs)

      nz : z ≡ c → ⊥
      nz e = let k : [] ≡ x ∷ xs = sym z-is.1.1.1 ∙ ap (λ (y : ℕ). kept_in p y es) e ∙ some' in let o : ◌≡◌ {A = ℕ} 0 1 = cc in omega arith

      in-d : (f : Entry) → Mem f (placed at' kept) → word_chunk p f.at ≡ d
      in-d f t =
          let a = placed-in at' kept f t in
          let u = a.0 in
          let v = a.1 in
          let w = lines-words p lo hi in
          let y = place.fit in
          chunk-of-word p lo hi d f.at (omega arith) (omega arith)

      module _ (ys : List ℕ) (before behind : List Entry) (split : es ≡ before ++ behind) (parsed : image_entries p n ys ≡ Entries (before ++ (placed at' kept ++ behind))) where
        abbrev gs : List Entry
        gs = before ++ (placed at' kept ++ behind)

        es-gs : (f : Entry) → Mem f es → Mem f gs
        es-gs f t = go (mem-cases f before behind (rw split at t))
          where
            go : Mem f before ⊎ Mem f behind → Mem f gs
            go (inl a) = mem-l f before (placed at' kept ++ behind) a
            go (inr a) = mem-r f before (placed at' kept ++ behind) (mem-r f (placed at' kept) behind a)

        copied : (g : Entry) → Mem g kept → (a : ℕ) × (Mem (moved a g) gs × (word_chunk p a ≡ d))
        copied g t =
            let o = placed-mem g at' kept t in
            (o.0, (mem-r (moved o.0 g) before (placed at' kept ++ behind) (mem-l (moved o.0 g) (placed at' kept) behind o.1), in-d (moved o.0 g) o.1))

        cases : (f : Entry) → Mem f gs → Mem f es ⊎ ((g : Entry) × (Mem g kept × ((a : ℕ) × ((f ≡ moved a g) × (word_chunk p a ≡ d)))))
        cases f t = go (mem-cases f before (placed at' kept ++ behind) t)
          where
            two : Mem f (placed at' kept) ⊎ Mem f behind → Mem f es ⊎ ((g : Entry) × (Mem g kept × ((a : ℕ) × ((f ≡ moved a g) × (word_chunk p a ≡ d)))))
            two (inl a) =
                let o = mem-placed f at' kept a in
                inr (o.0, (o.1, (o.2, (o.3, sym (ap (λ (y : Entry). word_chunk p y.at) o.3) ∙ in-d f a))))
            two (inr a) = inl (rw split (mem-r f before behind a))

            go : Mem f before ⊎ Mem f (placed at' kept ++ behind) → Mem f es ⊎ ((g : Entry) × (Mem g kept × ((a : ℕ) × ((f ≡ moved a g) × (word_chunk p a ≡ d)))))
            go (inl a) = inl (rw split (mem-l f before behind a))
            go (inr a) = two (mem-cases f (placed at' kept) behind a)

        with-copies : OneNone p z c gs
        with-copies = go (dec_lt d c)
          where
            re : Rising (base p 1) (base p (1 + (n - 1))) es
            re = (all_sound p lo hi (n - 1) 1 ws es s.rest.ok.parsed).rising

            rg : Rising (base p 1) (base p (1 + (n - 1))) gs
            rg = (all_sound p lo hi (n - 1) 1 ys gs parsed).rising

            go : Dec (d < c) → OneNone p z c gs
            go (yes l) = inr (cleaned-none p lo hi c d _ _ _ _ es gs re rg ne es-gs copied cases l)
            go (no l) = inl (still-none p lo hi c d _ _ _ _ es gs re rg ne es-gs copied cases z nz (λ e. omega (arith, ne)) z-is.1.1.1)

      append-data : (y : ℕ) → y < max_chunks → Each (StoresAs (NoData p) y) (append_to p ws (encode_all kept) d ++ free c ws)
      append-data y i =
          each_append (StoresAs (NoData p) y) (append_to p ws (encode_all kept) d) (free c ws)
          (append-stores (NoData p) y p lo hi i d (get_or ws (directory_word d) 0) (lines_of p ws d) (encode_all kept) place.low
          (λ e. log-no-data p (get_or ws (directory_word d) 0) (lines_of p ws d + lines_for (length (encode_all kept))) (let q = b-some in omega arith) place.fit)) (freed-stores y i)

      sure : Sure p n (run (append_to p ws (encode_all kept) d ++ free c ws) m)
      sure =
          let m1 = run (append_to p ws (encode_all kept) d) m in
          let a : Sure p n m1 = sure-append p n most d (get_or ws (directory_word d) 0) (lines_of p ws d) (encode_all kept) m long place.high (append-spares p lo hi d _ _ _ place.low) (let q = b-some in omega arith) place.fit room.0 in
          rw (W.run-append (append_to p ws (encode_all kept) d) (free c ws) m) (sure-freed p n most c old m1 (rw (W.length_run (append_to p ws (encode_all kept) d) m) long) high a)

      some-plan : Goes (append_to p ws (encode_all kept) d ++ free c ws)
      some-plan =
          two-through p lo hi n z c z-is.0 z-is.1.0 low high (append_to p ws (encode_all kept) d ++ free c ws) m
          (clean-append-to p lo hi n (capacity table) C ws es m s.rest s.holds s.flushed c d (get_or ws (directory_word d) 0) old low high no-data few ne place b-some (OneNone p z c) (inl z-is.1.1.1)
          with-copies (λ hs o k. inr (gone hs o)))
          (append-data z z-in) (append-data c inside) z-is.1.1.0 says sure

    log-plan : (items' : List Entry) (task : Task) (acts : List Action) → clean_log p n ws c (kept_in p c es) ≡ Begin items' task acts → Goes acts
    log-plan items' task acts h = go (kept_in p c es) refl h
      where
        go : (fs : List Entry) → kept_in p c es ≡ fs → clean_log p n ws c fs ≡ Begin items' task acts → Goes acts
        go [] e k = rw (begun-acts _ _ _ _ _ _ k) (none-plan e)
        go (x ∷ xs) e k = two (log_place p n ws (lines_for (length (encode_all (x ∷ xs)))) c 1) refl k
          where
            two : (q : Option ℕ) → log_place p n ws (lines_for (length (encode_all (x ∷ xs)))) c 1 ≡ q → clean_to p ws c (x ∷ xs) q ≡ Begin items' task acts → Goes acts
            two none r k' = absurd (let o : ◌≡◌ {A = ℕ} 0 1 = cc in omega arith)
            two (some d) r k' =
                let place = log-place p n ws (lines_for (length (encode_all (x ∷ xs)))) c 1 d (rw e at (kept-fits p lo hi n table C book m s c low high)) r in
                let t : Goes (append_to p ws (encode_all (kept_in p c es)) d ++ free c ws) = some-plan x xs e d (place.1 used) (rw e place.0) in
                rw (begun-acts _ _ _ _ _ _ k') (rw e at t)

  chunk-plan : (items' : List Entry) (task : Task) (acts : List Action) → pick (is_log (role_at p ws c)) (clean_log p n ws c (kept_in p c es)) (clean_data p ws es c) ≡ Begin items' task acts → Goes acts
  chunk-plan items' task acts h = go (is_log (role_at p ws c)) refl h
    where
      go : (b : Bool) → is_log (role_at p ws c) ≡ b → pick b (clean_log p n ws c (kept_in p c es)) (clean_data p ws es c) ≡ Begin items' task acts → Goes acts
      go true e k = log-plan e items' task acts k
      go false e k = data-plan items' task acts e k

pub clean-room : (p : ℕ) (lo : 12 ≤ p) (hi : p ≤ 16) (n table : ℕ) (C : ℕ → Held) (book : List Item) (items items' : List Entry) (task : Task) (acts : List Action) (m : Medium)
    → Standing p n table C book items m → Room p n m → (c : ℕ) → plan_clean p n (latest m) (entries_in p n (latest m)) items c ≡ Begin items' task acts → Through (RoomyCuts p n) (Room p n) acts m
unfolding plan_clean
clean-room p lo hi n table C book [] items' task acts m s room c h =
    let g = rw (s.rest.now, s.rest.ok.parsed) at h in
    let q = need-begin (in_use p n s.words c) N.NotCleanable _ items' task acts g in
    let u = in_use_lem p n s.words c q.0 in
    chunk-plan p lo hi n table C book m s room c u.0 u.1 u.2 items' task acts q.1
clean-room p lo hi n table C book (f ∷ fs) items' task acts m s room c h = absurd (let z : ◌≡◌ {A = ℕ} 0 1 = cc in omega arith)

-- A CLEANING LEAVES A FREE CHUNK, whether one stood before or not
pub clean_free : (p : ℕ) (lo : 12 ≤ p) (hi : p ≤ 16) (n table : ℕ) (C : ℕ → Held) (book : List Item) (items items' : List Entry) (task : Task) (acts : List Action) (m : Medium)
    → Standing p n table C book items m → (c : ℕ) → plan_clean p n (latest m) (entries_in p n (latest m)) items c ≡ Begin items' task acts → FreeStands p n (latest (run acts m))
unfolding plan_clean
clean_free p lo hi n table C book items items' task acts m s c h =
    let a = need-begin (is_empty items) N.BatchStaged _ items' task acts h in
    let b = need-begin (in_use p n (latest m) c) N.NotCleanable _ items' task acts a.1 in
    let u = in_use_lem p n (latest m) c b.0 in
    go u (is_log (role_at p (latest m) c)) b.1
  where
    ends : (pre : List Action) → (1 ≤ c) × (c < n) × (is_free (role_at p (latest m) c) ≡ false) → acts ≡ pre ++ free c (latest m) → FreeStands p n (latest (run acts m))
    ends pre u e =
        let high = u.1 in
        let most = s.rest.ok.most in
        rw e (freed-stands p n c (get_or (latest m) (directory_word c) 0) pre m u.0 u.1 (word-in-medium p lo hi n s.words s.entries m s.rest c (omega arith)))

    two : (fs : List Entry) → (1 ≤ c) × (c < n) × (is_free (role_at p (latest m) c) ≡ false) → (q : Option ℕ) → clean_to p (latest m) c fs q ≡ Begin items' task acts → FreeStands p n (latest (run acts m))
    two fs u none g = absurd (let o : ◌≡◌ {A = ℕ} 0 1 = cc in omega arith)
    two fs u (some d) g = ends (append_to p (latest m) (encode_all fs) d) u (begun-acts _ _ _ _ _ _ g)

    log : (fs : List Entry) → (1 ≤ c) × (c < n) × (is_free (role_at p (latest m) c) ≡ false) → clean_log p n (latest m) c fs ≡ Begin items' task acts → FreeStands p n (latest (run acts m))
    log [] u g = ends [] u (begun-acts _ _ _ _ _ _ g)
    log (x ∷ xs) u g = two (x ∷ xs) u (log_place p n (latest m) (lines_for (length (encode_all (x ∷ xs)))) c 1) g

    go : (1 ≤ c) × (c < n) × (is_free (role_at p (latest m) c) ≡ false) → (b : Bool) → pick b (clean_log p n (latest m) c (kept_in p c (entries_in p n (latest m)))) (clean_data p (latest m) (entries_in p n (latest m)) c) ≡ Begin items' task acts → FreeStands p n (latest (run acts m))
    go u true g = log (kept_in p c (entries_in p n (latest m))) u g
    go u false g = let d = need-begin (negate (has_live p (entries_in p n (latest m)) c)) N.NotCleanable _ items' task acts g in ends [] u (begun-acts _ _ _ _ _ _ d.1)
