-- Room on the medium: what every possible directory word of a chunk says, and when every cut is roomy.
-- Assumes nothing.
use mathlib.Core.Path.{◌≡◌, refl, sym, ◌∙◌, ap}
use mathlib.Core.Logic.{◌⊎◌, inl, inr}
use mathlib.Core.Bool.{Bool, true, false}
use mathlib.Core.List.{List, [], ◌∷◌, ◌++◌}
use Prim.Native.Nat.{ℕ, ◌+◌, ◌*◌, ◌≤◌, ◌<◌}
use native.Mathlib.Omega.{arith}
use native.Mathlib.Decide.{ℕ_discrete, dec_lt}
use lib.ListN.{length, get_or}
use lib.Seq.{slice_empty}
use Rattle.spec.specs.Basics.{filter}
use Rattle.spec.specs.Places.{base, first_line, chunk_lines, directory_word, line_of, max_chunks, unit_chunk, unit_word}
use Rattle.spec.specs.Medium.{Cell, fresh, values, added, drained, Action, Store, Flush, Fence, step, Medium, apply, run, latest, cell_at, Mem as Among, CanCutTo}
use Rattle.spec.specs.Directory.{role_of, size_in, is_free, role_at, lines_of, size_of, directory_right, log_word, data_word, freed_word}
use Rattle.spec.specs.Log.{Entry, Entries, chunk_entries}
use Rattle.spec.specs.Contents.{is_kept, kept_in}
use Rattle.spec.specs.Actions.{lines_for, padded, writes, flushes, seal_of, body_of, commit_of, append_of, free_of, take_of, block_of}
use Rattle.spec.specs.Unstuck.{Roomy}
use Rattle.theory_base.proofs.Words as W
use Rattle.theory_base.proofs.Through.{Through, Each, Quiet, quiet_step, through-kept, through-map}
use Rattle.theory_base.proofs.Places.{base-low, unit-place}
use Rattle.theory_log.proofs.Directory.{lines-is, size_is, role-log, role-freed}
use Rattle.theory_log.proofs.Kept.{parts, kept-is}
use Rattle.theory_crash.specs.Accepted.{Ok}
use Rattle.theory_crash.specs.Rest.{AtRest, CutsTo}
use Rattle.theory_crash.proofs.Directory.{free-says, word-free, right-role}
use Rattle.theory_crash.proofs.Cells.{each_append, each_map, each-writes, each-flushes, Avoids, avoids-run, Spares, spares-avoids, seal-spares}
use Rattle.theory_crash.proofs.Rest.{can-from, now-quiet, only, word-in-medium}
use Rattle.theory_crash.proofs.Stage.{block-spares}

-- EVERY POSSIBLE DIRECTORY WORD of chunk z is such.
abbrev pub Says : (ℕ → Type 0) → ℕ → Medium → Type 0
Says P z m = (directory_word z < length m) × ((x : ℕ) → Among x (values (cell_at m (directory_word z))) → P x)

abbrev pub StoresAs : (ℕ → Type 0) → ℕ → Action → Type 0
StoresAs P z (Store a v) = a ≡ directory_word z → P v
StoresAs P z (Flush l) = Unit {0}
StoresAs P z Fence = Unit {0}

module _ (P : ℕ → Type 0) (z : ℕ) where
  quiet-says : (a : Action) (m : Medium) → Quiet a → Says P z m → Says P z (apply a m)
  quiet-says a m q (long, h) = (rw W.length-apply long, λ x t. h x (quiet_step a (directory_word z) (cell_at m (directory_word z)) x q (rw (W.cell-apply a m (directory_word z) long) at t)))

  pub says-kept : (a : Action) (m : Medium) → StoresAs P z a → Says P z m → Says P z (apply a m)
  says-kept (Store a v) m s (long, h) = (rw W.length-apply long, λ x t. go x (ℕ_discrete (directory_word z) a) (rw (W.cell-apply (Store a v) m (directory_word z) long) at t))
    where
      go : (x : ℕ) → Dec (directory_word z ≡ a) → Among x (values (step (Store a v) (directory_word z) (cell_at m (directory_word z)))) → P x
      go x (yes e) t = one (rw (W.step-store-same a v (directory_word z) (cell_at m (directory_word z)) e) at t)
        where
          one : Among x (values (added v (cell_at m (directory_word z)))) → P x
          one (inl q) = rw q (s (sym e))
          one (inr q) = h x q
      go x (no e) t = h x (rw (W.step-store-other a v (directory_word z) (cell_at m (directory_word z)) e) at t)
  says-kept (Flush l) m s h = quiet-says (Flush l) m tt h
  says-kept Fence m s h = quiet-says Fence m tt h

  pub says-through : (acts : List Action) (m : Medium) → Each (StoresAs P z) acts → Says P z m → Through (Says P z) (Says P z) acts m
  says-through acts m e h = through-kept (Says P z) (Says P z) (StoresAs P z) says-kept (λ m' t. t) acts m e h

  pub says-run : (acts : List Action) (m : Medium) → Each (StoresAs P z) acts → Says P z m → Says P z (run acts m)
  says-run [] m e h = h
  says-run (a ∷ acts) m e h = says-run acts (apply a m) e.1 (says-kept a m e.0 h)

  pub says-cut : (m : Medium) (xs : List ℕ) → CanCutTo m xs → Says P z m → P (get_or xs (directory_word z) 0)
  says-cut m xs t (long, h) = h (get_or xs (directory_word z) 0) (W.can-at m xs t (directory_word z) long)

  pub says-fresh : (m : Medium) (v : ℕ) → directory_word z < length m → cell_at m (directory_word z) ≡ fresh v → P v → Says P z m
  says-fresh m v long e h = (long, λ x t. let q = only x v (rw e at t) in rw q h)

  -- stores elsewhere
  spares-stores : (d : ℕ) → z < max_chunks → (z ≡ d → ⊥) → (a : Action) → Spares d a → StoresAs P z a
  spares-stores d l n (Store a v) (inl e) = λ q. absurd (n (omega arith))
  spares-stores d l n (Store a v) (inr h) = λ q. absurd (omega arith)
  spares-stores d l n (Flush x) s = tt
  spares-stores d l n Fence s = tt

  pub other-stores : (d : ℕ) (acts : List Action) → z < max_chunks → (z ≡ d → ⊥) → Each (Spares d) acts → Each (StoresAs P z) acts
  other-stores d acts l n s = each_map (Spares d) (StoresAs P z) (spares-stores d l n) acts s

  -- the actions of the calls
  module _ (p : ℕ) (lo : 12 ≤ p) (hi : p ≤ 16) (inside : z < max_chunks) where
    pub append-stores : (d old l : ℕ) (words : List ℕ) → 1 ≤ d → (z ≡ d → P (log_word old (l + lines_for (length words)))) → Each (StoresAs P z) (append_of p d old l words)
    unfolding append_of commit_of body_of
    append-stores d old l words low own =
        let b = lines_for (length words) in
        let first = base-low p lo hi d low in
        each_append (StoresAs P z) (writes (base p d + 8 * l) (padded words) ++ (flushes (first_line p d + l) b ++ (Fence ∷ []))) (seal_of d (log_word old (l + b)))
        (each_append (StoresAs P z) (writes (base p d + 8 * l) (padded words)) (flushes (first_line p d + l) b ++ (Fence ∷ []))
        (each-writes (StoresAs P z) (base p d + 8 * l) (padded words) (λ k v from to. λ e. absurd (omega arith)))
        (each_append (StoresAs P z) (flushes (first_line p d + l) b) (Fence ∷ []) (each-flushes (StoresAs P z) (first_line p d + l) b (λ x. tt)) (tt, tt)))
        ((λ e. own (omega arith)), (tt, (tt, tt)))

    pub seal-stores : (d w : ℕ) → (z ≡ d → P w) → Each (StoresAs P z) (seal_of d w)
    seal-stores d w own = ((λ e. own (omega arith)), (tt, (tt, tt)))

    pub take-stores : (d old s : ℕ) → (z ≡ d → ⊥) → Each (StoresAs P z) (take_of d old s)
    take-stores d old s n = ((λ e. absurd (n (omega arith))), (tt, tt))

    pub block-stores : (u : ℕ) (words : List ℕ) → 1 ≤ unit_chunk p u → Each (StoresAs P z) (block_of u words)
    unfolding block_of
    block-stores u words low =
        let at = unit-place p lo hi u in
        let first = base-low p lo hi (unit_chunk p u) low in
        each_append (StoresAs P z) (writes (unit_word u) words) (flushes (line_of (unit_word u)) (lines_for (length words)))
        (each-writes (StoresAs P z) (unit_word u) words (λ k v from to. λ e. absurd (omega arith)))
        (each-flushes (StoresAs P z) (line_of (unit_word u)) (lines_for (length words)) (λ x. tt))

pub append-spares : (p : ℕ) → 12 ≤ p → p ≤ 16 → (d old l : ℕ) (words : List ℕ) → 1 ≤ d → Each (Spares d) (append_of p d old l words)
unfolding append_of commit_of body_of
append-spares p lo hi d old l words low =
    let b = lines_for (length words) in
    let first = base-low p lo hi d low in
    each_append (Spares d) (writes (base p d + 8 * l) (padded words) ++ (flushes (first_line p d + l) b ++ (Fence ∷ []))) (seal_of d (log_word old (l + b)))
    (each_append (Spares d) (writes (base p d + 8 * l) (padded words)) (flushes (first_line p d + l) b ++ (Fence ∷ []))
    (each-writes (Spares d) (base p d + 8 * l) (padded words) (λ k v from to. inr (omega arith)))
    (each_append (Spares d) (flushes (first_line p d + l) b) (Fence ∷ []) (each-flushes (Spares d) (first_line p d + l) b (λ x. tt)) (tt, tt)))
    (seal-spares d (log_word old (l + b)))

-- two facts that hold all the way
pub through-both : (B B' A A' : Medium → Type 0) (xs : List Action) (m : Medium) → Through B A xs m → Through B' A' xs m → Through (λ m'. B m' × B' m') (λ m'. A m' × A' m') xs m
through-both B B' A A' [] m x y = (x, y)
through-both B B' A A' (a ∷ xs) m x y = ((x.0, y.0), through-both B B' A A' xs (apply a m) x.1 y.1)

-- no data chunk's word; a free chunk's word
abbrev pub NoData : ℕ → ℕ → Type 0
NoData p x = size_in (role_of p x) ≡ 0

abbrev pub IsFree : ℕ → ℕ → Type 0
IsFree p x = is_free (role_of p x) ≡ true

pub log-no-data : (p old l : ℕ) → 1 ≤ l → l ≤ chunk_lines p → NoData p (log_word old l)
log-no-data p old l a b = rw (role-log p old l a b) refl

pub freed-no-data : (p old : ℕ) → NoData p (freed_word old)
freed-no-data p old = rw (role-freed p old) refl

-- THE WORDS THAT READ FREE are surely free: no cut finds another there
abbrev pub Sure : ℕ → ℕ → Medium → Type 0
Sure p n m = (c : ℕ) → 1 ≤ c → c < n → is_free (role_at p (latest m) c) ≡ true → Says (IsFree p) c m

-- a word stored, flushed and fenced
pub sealed : (d w : ℕ) (m : Medium) → directory_word d < length m → cell_at (run (seal_of d w) m) (directory_word d) ≡ fresh w
sealed d w m k =
    W.cell-apply Fence m2 (directory_word d) (rw (W.length-apply, W.length-apply) k)
    ∙ ap drained (W.cell-apply (Flush (line_of (directory_word d))) m1 (directory_word d) (rw W.length-apply k) ∙ W.step-flush-hit (line_of (directory_word d)) (directory_word d) (cell_at m1 (directory_word d)) refl)
    ∙ W.flush-fence (cell_at m1 (directory_word d))
    ∙ ap (λ (x : Cell). fresh x.now) (W.cell-apply (Store (directory_word d) w) m (directory_word d) k ∙ W.step-store-same (directory_word d) w (directory_word d) (cell_at m (directory_word d)) refl)
  where
    m1 : Medium
    m1 = apply (Store (directory_word d) w) m

    m2 : Medium
    m2 = apply (Flush (line_of (directory_word d))) m1

pub now-is : (m : Medium) (d v : ℕ) → cell_at m (directory_word d) ≡ fresh v → get_or (latest m) (directory_word d) 0 ≡ v
now-is m d v e = W.get_or-latest m (directory_word d) ∙ ap (λ (c : Cell). c.now) e

not-both : (b : Bool) → b ≡ true → b ≡ false → ⊥
not-both b x y = let z : true ≡ false = sym x ∙ y in let o : ◌≡◌ {A = ℕ} 0 1 = cc in omega arith

module _ (p n : ℕ) (most : n ≤ max_chunks) where
  -- actions that store no directory word but that of chunk d
  pub sure-after : (d : ℕ) (acts : List Action) (m : Medium) → 512 ≤ length m → Each (Spares d) acts
      → (1 ≤ d → d < n → is_free (role_at p (latest (run acts m)) d) ≡ true → Says (IsFree p) d (run acts m)) → Sure p n m → Sure p n (run acts m)
  sure-after d acts m long sp own h c low high f = go (ℕ_discrete c d)
    where
      go : Dec (c ≡ d) → Says (IsFree p) c (run acts m)
      go (yes e) = rw e (own (rw e at low) (rw e at high) (rw e at f))
      go (no e) =
          let inside : directory_word c < length m = omega arith in
          let r = avoids-run acts (directory_word c) (cell_at m (directory_word c)) (each_map (Spares d) (Avoids (directory_word c)) (spares-avoids d c (omega arith) e) acts sp) in
          let same : get_or (latest (run acts m)) (directory_word c) 0 ≡ get_or (latest m) (directory_word c) 0 =
          W.get_or-latest (run acts m) (directory_word c) ∙ ap (λ (x : Cell). x.now) (W.cell-run acts m (directory_word c) inside) ∙ r.0 ∙ sym (W.get_or-latest m (directory_word c)) in
          says-run (IsFree p) c acts m (other-stores (IsFree p) c d acts (omega arith) e sp) (h c low high (ap (λ (x : ℕ). is_free (role_of p x)) (sym same) ∙ f))

  -- a chunk freed
  pub sure-freed : (d old : ℕ) (m : Medium) → 512 ≤ length m → d < n → Sure p n m → Sure p n (run (free_of d old) m)
  sure-freed d old m long high h =
      sure-after d (free_of d old) m long (seal-spares d (freed_word old))
      (λ a b f. says-fresh (IsFree p) d (run (free_of d old) m) (freed_word old) (rw (W.length_run (free_of d old) m) (omega arith)) (sealed d (freed_word old) m (omega arith)) (rw (role-freed p old) refl)) h

  -- words appended to chunk d
  pub sure-append : (d old l : ℕ) (words : List ℕ) (m : Medium) → 512 ≤ length m → d < n → Each (Spares d) (append_of p d old l words) → 1 ≤ l + lines_for (length words) → l + lines_for (length words) ≤ chunk_lines p
      → Sure p n m → Sure p n (run (append_of p d old l words) m)
  unfolding append_of commit_of
  sure-append d old l words m long high sp a b h = sure-after d (append_of p d old l words) m long sp (λ x y f. absurd (not-both _ f (rw (word, role-log p old (l + lines_for (length words)) a b) refl))) h
    where
      word : get_or (latest (run (append_of p d old l words) m)) (directory_word d) 0 ≡ log_word old (l + lines_for (length words))
      word =
          let body = body_of p d l (lines_for (length words)) (padded words) in
          let seal = seal_of d (log_word old (l + lines_for (length words))) in
          now-is (run (body ++ seal) m) d (log_word old (l + lines_for (length words)))
          (ap (λ (m' : Medium). cell_at m' (directory_word d)) (W.run-append body seal m) ∙ sealed d (log_word old (l + lines_for (length words))) (run body m) (rw (W.length_run body m) (omega arith)))

  -- a block filled, and a free chunk taken before
  pub sure-block : (u : ℕ) (words : List ℕ) (m : Medium) → 512 ≤ length m → 512 ≤ unit_word u → Sure p n m → Sure p n (run (block_of u words) m)
  sure-block u words m long far h = sure-after 0 (block_of u words) m long (block-spares 0 u words far) (λ a b f. absurd (omega arith)) h

  pub sure-take : (c old s u : ℕ) (words : List ℕ) (m : Medium) → 512 ≤ length m → c < n → 1 ≤ c → 512 ≤ unit_word u → is_free (role_of p (data_word old s)) ≡ false → Sure p n m
      → Sure p n (run (take_of c old s ++ block_of u words) m)
  sure-take c old s u words m long high low far used h =
      sure-after c (take_of c old s ++ block_of u words) m long (each_append (Spares c) (take_of c old s) (block_of u words) (inl refl, (tt, tt)) (block-spares c u words far))
      (λ a b f. absurd (not-both _ f (ap (λ (x : ℕ). is_free (role_of p x)) word ∙ used))) h
    where
      k : ℕ
      k = directory_word c

      m2 : Medium
      m2 = run (take_of c old s) m

      taken : (cell_at m2 k).now ≡ data_word old s
      taken =
          ap (λ (x : Cell). x.now) (W.cell-run (take_of c old s) m k (omega arith)) ∙ now-quiet (Flush (line_of k)) k (step (Store k (data_word old s)) k (cell_at m k)) tt
          ∙ ap (λ (x : Cell). x.now) (W.step-store-same k (data_word old s) k (cell_at m k) refl)

      after : (cell_at (run (block_of u words) m2) k).now ≡ data_word old s
      after =
          ap (λ (x : Cell). x.now) (W.cell-run (block_of u words) m2 k (rw (W.length_run (take_of c old s) m) (omega arith)))
          ∙ (avoids-run (block_of u words) k (cell_at m2 k) (each_map (Spares 0) (Avoids k) (spares-avoids 0 c (omega arith) (λ e. omega arith)) (block_of u words) (block-spares 0 u words far))).0 ∙ taken

      word : get_or (latest (run (take_of c old s ++ block_of u words) m)) k 0 ≡ data_word old s
      word = W.get_or-latest (run (take_of c old s ++ block_of u words) m) k ∙ ap (λ (m' : Medium). (cell_at m' k).now) (W.run-append (take_of c old s) (block_of u words) m) ∙ after

-- EVERY CUT IS ROOMY
abbrev pub RoomyCuts : ℕ → ℕ → Medium → Type 0
RoomyCuts p n m = (xs : List ℕ) → CanCutTo m xs → Roomy p n xs

abbrev pub Room : ℕ → ℕ → Medium → Type 0
Room p n m = Sure p n m × RoomyCuts p n m

-- of chunk z or of chunk s nothing is kept
abbrev pub OneNone : ℕ → ℕ → ℕ → List Entry → Type 0
OneNone p z s fs = (kept_in p z fs ≡ []) ⊎ (kept_in p s fs ≡ [])

pub can-latest : (m : Medium) → CanCutTo m (latest m)
can-latest m = can-from m (latest m) (W.length-latest m) (λ k l. inl (W.get_or-latest m k))

module _ (p : ℕ) (lo : 12 ≤ p) (hi : p ≤ 16) (n : ℕ) where
  -- a chunk without lines has nothing to keep
  pub free-keeps : (ws : List ℕ) (es : List Entry) (c : ℕ) → Ok p n ws es → 1 ≤ c → c < n → lines_of p ws c ≡ 0 → kept_in p c es ≡ []
  free-keeps ws es c ok low high z =
      let q = parts p lo hi n c ws es low high ok.parsed in
      let a : base p c + 8 * 0 ≡ base p c = omega arith in
      let none' : chunk_entries p ws c ≡ Entries [] = rw (z, a, slice_empty (base p c) ws) in
      let both' : Entries [] ≡ Entries q.1 = sym none' ∙ q.3.mine in
      let empty' : q.1 ≡ [] = cc in
      kept-is p lo hi n c ws es q.0 q.1 q.2 q.3 ∙ ap (filter (is_kept es (q.0 ++ q.2))) empty'

  roomy_of : (xs : List ℕ) (fs : List Entry) (z : ℕ) → Ok p n xs fs → 1 ≤ z → z < n → size_of p xs z ≡ 0 → kept_in p z fs ≡ [] → Roomy p n xs
  roomy_of xs fs z ok low high size kept = (z, (low, (high, (size, rw ok.parsed kept))))

  pub two-roomy : (z s : ℕ) → 1 ≤ z → z < n → 1 ≤ s → s < n → (m : Medium) → CutsTo p n (OneNone p z s) m → Says (NoData p) z m → Says (NoData p) s m → RoomyCuts p n m
  two-roomy z s zl zh sl sh m h a b xs t = go (h xs t)
    where
      go : (fs : List Entry) × (Ok p n xs fs × OneNone p z s fs) → Roomy p n xs
      go (fs, (ok, inl k)) = roomy_of xs fs z ok zl zh (size_is p xs z ∙ says-cut (NoData p) z m xs t a) k
      go (fs, (ok, inr k)) = roomy_of xs fs s ok sl sh (size_is p xs s ∙ says-cut (NoData p) s m xs t b) k

  pub free-roomy : (f : ℕ) → 1 ≤ f → f < n → (m : Medium) → ((xs : List ℕ) → CanCutTo m xs → (fs : List Entry) × Ok p n xs fs) → Says (IsFree p) f m → RoomyCuts p n m
  free-roomy f low high m h a xs t =
      let o = h xs t in
      let r = free-says (role_of p (get_or xs (directory_word f) 0)) (says-cut (IsFree p) f m xs t a) in
      roomy_of xs o.0 f o.1 low high (size_is p xs f ∙ r.1) (free-keeps xs o.0 f o.1 low high (lines-is p xs f ∙ r.0))

  -- at rest: the chunk that makes it roomy
  pub roomy-chunk : (ws : List ℕ) (es : List Entry) (m : Medium) → AtRest p n ws es m → Room p n m → (z : ℕ) × ((1 ≤ z) × ((z < n) × (Says (NoData p) z m × (kept_in p z es ≡ []))))
  roomy-chunk ws es m r (sure, roomy) = found (roomy (latest m) (can-latest m))
    where
      found : Roomy p n (latest m) → (z : ℕ) × ((1 ≤ z) × ((z < n) × (Says (NoData p) z m × (kept_in p z es ≡ []))))
      found (z, (low, (high, (size, kept)))) = (z, (low, (high, (go (dec_lt 0 (lines_of p ws z)), (rw (r.now, r.ok.parsed) at kept)))))
        where
          most : n ≤ max_chunks
          most = r.ok.most

          inside : directory_word z < length m
          inside = word-in-medium p lo hi n ws es m r z (omega arith)

          size' : size_in (role_at p ws z) ≡ 0
          size' = sym (size_is p ws z) ∙ ap (λ (l : List ℕ). size_of p l z) (sym r.now) ∙ size

          right : directory_right p n z (get_or ws (directory_word z) 0) ≡ true
          right = r.ok.dirs z (omega arith)

          -- all its values, where nothing is settled: it reads free
          free-case : is_free (role_at p ws z) ≡ true → Says (NoData p) z m
          free-case f = let h = sure z low high (rw r.now f) in (h.0, λ x t. (free-says (role_of p x) (h.1 x t)).1)

          log-case : 1 ≤ lines_of p ws z → Says (NoData p) z m
          log-case l = says-fresh (NoData p) z m (get_or ws (directory_word z) 0) inside (r.settled (directory_word z) (inr (inl (z, low, high, l, refl)))) size'

          go : Dec (0 < lines_of p ws z) → Says (NoData p) z m
          go (yes l) = log-case l
          go (no l) = free-case (word-free p (get_or ws (directory_word z) 0) (right-role p n z (get_or ws (directory_word z) 0) low high right) size' (sym (lines-is p ws z) ∙ omega arith))

  -- A CALL that keeps the entries such, and the words of both chunks no data chunk's
  pub two-through : (z s : ℕ) → 1 ≤ z → z < n → 1 ≤ s → s < n → (acts : List Action) (m : Medium) → Through (CutsTo p n (OneNone p z s)) (CutsTo p n (OneNone p z s)) acts m
      → Each (StoresAs (NoData p) z) acts → Each (StoresAs (NoData p) s) acts → Says (NoData p) z m → Says (NoData p) s m → Sure p n (run acts m) → Through (RoomyCuts p n) (Room p n) acts m
  two-through z s zl zh sl sh acts m t ez es' hz hs sure =
      through-map (λ m'. Q m' × (Says (NoData p) z m' × Says (NoData p) s m')) (RoomyCuts p n) (λ m'. Q m' × (Says (NoData p) z m' × Says (NoData p) s m')) (Room p n) acts m
      (λ m' x. two-roomy z s zl zh sl sh m' x.0 x.1.0 x.1.1) (λ x. (sure, two-roomy z s zl zh sl sh (run acts m) x.0 x.1.0 x.1.1))
      (through-both Q (λ m'. Says (NoData p) z m' × Says (NoData p) s m') Q (λ m'. Says (NoData p) z m' × Says (NoData p) s m') acts m t
      (through-both (Says (NoData p) z) (Says (NoData p) s) (Says (NoData p) z) (Says (NoData p) s) acts m (says-through (NoData p) z acts m ez hz) (says-through (NoData p) s acts m es' hs)))
    where
      Q : Medium → Type 0
      Q = CutsTo p n (OneNone p z s)
