-- A cleaning, looking forward from words at rest: with all its actions done, the image is accepted, and its entries are
-- those before without the chunk's, and with those that are kept placed among them.
-- Assumes nothing.
use mathlib.Core.Path.{◌≡◌, refl, sym, ◌∙◌, ap, subst}
use mathlib.Core.Logic.{◌⊎◌, inl, inr}
use mathlib.Core.Bool.{true, false}
use mathlib.Core.Option.{some}
use mathlib.Core.List.{List, [], ◌∷◌, ◌++◌}
use Prim.Native.Nat.{ℕ, ◌+◌, ◌*◌, ◌/◌, ◌≤◌, ◌<◌}
use native.Mathlib.Omega.{arith}
use native.Mathlib.Decide.{dec_lt, ℕ_discrete}
use lib.ListN.{length, get_or, set, length-set}
use lib.Seq.{slice, slice_empty, get_or-set_same, get_or-set_other}
use Rattle.spec.specs.declared.Size.{Size}
use Rattle.places.specs.Sizes.{power_of, power-low, power-high}
use Rattle.spec.specs.Places.{chunk_lines, base, directory_word, chunks_in}
use Rattle.spec.specs.Medium.{Cell, Action, Store, Flush, Fence, Medium, apply, run, latest, cell_at, settled_at}
use Rattle.spec.specs.Directory.{is_free, is_log, role_at, lines_of, size_of, freed_word}
use Rattle.spec.specs.Log.{Entry, encode_all}
use Rattle.spec.specs.Contents.{Held, contents_by, meaning, keys_of, capacity, is_kept, kept_in}
use Rattle.spec.specs.Actions.{lines_for, padded, commit_of, append_of, free_of}
use Rattle.spec.specs.declared.Role.{Role}
use Rattle.spec.specs.declared.Role.TheVariants as R
use Rattle.spec.specs.Reports.{as_report, words_after, run_words}
use Rattle.spec.specs.Plans.{log_place, has_space, has_live}
use Rattle.theory_base.proofs.Words as W
use Rattle.theory_base.proofs.Places.{lines-words, base-low, base-apart}
use Rattle.theory_log.proofs.Directory.{lines-is, size_is}
use Rattle.theory_log.proofs.Walk.{slice-long}
use Rattle.theory_log.proofs.Kept.{Parts, parts, kept-is}
use Rattle.theory_crash.specs.Accepted.{Ok}
use Rattle.theory_crash.specs.Rest.{AtRest}
use Rattle.theory_crash.specs.Batch.{entry_words, Place}
use Rattle.theory_crash.proofs.Opening.{fits-keys, keys-fit}
use Rattle.session.proofs.OpensRight.{opens-right, right-opens}
use Rattle.theory_crash.proofs.Rest.{latest-quiet, settled-rest}
use Rattle.theory_crash.proofs.Append.{padding, padded-is, padded-length, entries-length, append-is, some-lines}
use Rattle.theory_crash.proofs.Directory.{log-says, not-log-says, role-zero}
use Rattle.theory_crash.proofs.Frame.{directory-in}
use Rattle.theory_crash.proofs.Free.{lines-this, data-rest}
use Rattle.theory_crash.proofs.Clean.{Copied, Left, clean-left, clean-copied}
use Rattle.theory_plans.proofs.LogPlace.{log-place}
use Rattle.theory_plans.proofs.Cleaning.{parse-words, filter-words, no-live}
use Rattle.session.specs.Fits.{Opens, NoneBelow}
use Rattle.placing.proofs.Hint.{same-space}
use Rattle.session.specs.Cleaned.{before, kept_of, after}
use Rattle.forward.proofs.Freed.{chunk-few, lines-few, lines-in}
use Rattle.forward.proofs.Forward.{left-of, right_of, others-are, freed-entries}
use Rattle.forward.proofs.Actions.{run-append, done, done-length, done-same, done-written}
use Rattle.forward.specs.Cleaning.{Ahead}

-- WORDS are what the processor reads.
after-action : (a : Action) (m : Medium) → latest (apply a m) ≡ words_after (as_report a) (latest m)
after-action (Store w v) m = W.latest-store w v m
after-action (Flush l) m = latest-quiet (Flush l) m tt
after-action Fence m = latest-quiet Fence m tt

run-latest : (acts : List Action) (m : Medium) → latest (run acts m) ≡ run_words acts (latest m)
run-latest [] m = refl
run-latest (a ∷ acts) m = run-latest acts (apply a m) ∙ ap (run_words acts) (after-action a m)

run_settled : (acts : List Action) (ws : List ℕ) → latest (run acts (settled_at ws)) ≡ run_words acts ws
run_settled acts ws = run-latest acts (settled_at ws) ∙ ap (run_words acts) (W.latest-settled ws)

pub action-length : (a : Action) (ws : List ℕ) → length (words_after (as_report a) ws) ≡ length ws
action-length (Store w v) ws = length-set ws w v
action-length (Flush l) ws = refl
action-length Fence ws = refl

-- a word of the lines of a chunk is outside those of another
outside : (sz : Size) → (s d ls l b k : ℕ) → (s ≡ d → ⊥) → ls ≤ chunk_lines (power_of sz) → l + b ≤ chunk_lines (power_of sz) → base (power_of sz) s ≤ k → k < base (power_of sz) s + 8 * ls → (k < base (power_of sz) d + 8 * l) ⊎ (base (power_of sz) d + 8 * l + 8 * b ≤ k)
outside sz s d ls l b k ne hs hb low high = go (dec_lt d s)
  where
    go : Dec (d < s) → (k < base (power_of sz) d + 8 * l) ⊎ (base (power_of sz) d + 8 * l + 8 * b ≤ k)
    go (yes q) = let a = base-apart (power_of sz) (power-low sz) (power-high sz) d s q in let w = lines-words (power_of sz) (power-low sz) (power-high sz) in inr (omega arith)
    go (no q) =
        let x : s < d = omega (arith, ne) in
        let a = base-apart (power_of sz) (power-low sz) (power-high sz) s d x in
        let w = lines-words (power_of sz) (power-low sz) (power-high sz) in
        inl (omega arith)

still : (ws : List ℕ) (k : ℕ) → (cell_at (settled_at ws) k).newer ≡ []
still ws k = ap (λ (c : Cell). c.newer) (W.cell-settled ws k)

first-words : (sz : Size) → (s : ℕ) → 1 ≤ s → 512 ≤ base (power_of sz) s
first-words sz s h = base-low (power_of sz) (power-low sz) (power-high sz) s h

log-used : (r : Role) → is_log r ≡ true → is_free r ≡ false
log-used R.Free h = absurd (let z : ◌≡◌ {A = ℕ} 0 1 = cc in omega arith)
log-used (R.Log n) h = refl
log-used (R.Data n) h = refl
log-used R.Wrong h = refl

lines-some : (fs : List Entry) → (fs ≡ [] → ⊥) → 1 ≤ lines_for (length (encode_all fs))
lines-some [] h = absurd (h refl)
lines-some (f ∷ fs) h = some-lines f fs

module _ (sz : Size) (bytes table : ℕ) (ws : List ℕ) (xs mid ys : List Entry) (accepted : Opens (power_of sz) bytes ws table (before xs mid ys)) (long : length ws ≡ bytes / 8)
    (s old' : ℕ) (low : 1 ≤ s) (high : s < chunks_in (power_of sz) bytes) (t : Parts (power_of sz) (power-low sz) (power-high sz) (chunks_in (power_of sz) bytes) s ws (before xs mid ys) xs mid ys) where
  abbrev n : ℕ
  n = chunks_in (power_of sz) bytes

  abbrev es : List Entry
  es = before xs mid ys

  abbrev kept : List Entry
  kept = kept_of xs mid ys

  abbrev m : Medium
  m = settled_at ws

  abbrev C : ℕ → Held
  C = contents_by (meaning ws) es

  ok : Ok (power_of sz) n ws es
  ok = (opens-right (power_of sz) bytes table ws es long accepted).0

  size : bytes ≡ 8 * base (power_of sz) n
  size = (opens-right (power_of sz) bytes table ws es long accepted).2

  few : length (keys_of es) ≤ capacity table
  few = keys-fit table es (opens-right (power_of sz) bytes table ws es long accepted).1

  rest : AtRest (power_of sz) n ws es m
  rest = settled-rest (power_of sz) n ws es ok

  kept_in_lem : kept ≡ kept_in (power_of sz) s es
  kept_in_lem = sym (kept-is (power_of sz) (power-low sz) (power-high sz) n s ws es xs mid ys t)

  -- NOTHING COPIED: chunk s is freed at once
  only-freed : (at d : ℕ) → kept ≡ [] → Left (power_of sz) n s old' (capacity table) ws (xs ++ ys) → Ahead sz (power-low sz) (power-high sz) bytes table s at 0 0 d ws (run_words (free_of s old') ws) es
  only-freed at d none l = record {
    xs = xs;
    mid = mid;
    ys = ys;
    as' = xs;
    bs = ys;
    freed = record {
      low = low;
      high = high;
      ok-old = ok;
      parts = t;
      ok = rw are l.ok;
      rest = refl;
      free = l.free;
      same = λ k a b. get_or-set_other ws (directory_word s) k (freed_word old') 0 (λ e. let f = first-words sz s low in let q = ok.most in omega arith);
      written = let e : at + 8 * 0 ≡ at = omega arith in rw (none, e) (slice_empty at (set ws (directory_word s) (freed_word old')));
    };
    accepted = right-opens sz n bytes table (set ws (directory_word s) (freed_word old')) (after xs mid ys xs ys at) size (rw are l.ok) (fits-keys table (after xs mid ys xs ys at) (rw are l.few));
    kept = kept_in_lem;
    long = length-set ws (directory_word s) (freed_word old');
    chunks = λ c a u e. get_or-set_other ws (directory_word s) (directory_word c) (freed_word old') 0 (λ q. e (omega arith));
    empty = get_or-set_same ws (directory_word s) (freed_word old') 0 (directory-in (power_of sz) (power-low sz) (power-high sz) n ws es ok s (let q = ok.most in omega arith));
  }
    where
      are : after xs mid ys xs ys at ≡ xs ++ ys
      are = rw none

  log-freed : (at d : ℕ) → size_of (power_of sz) ws s ≡ 0 → kept ≡ [] → Ahead sz (power-low sz) (power-high sz) bytes table s at 0 0 d ws (run_words (free_of s old') ws) es
  log-freed at d no-data none =
      only-freed at d none (clean-left (power_of sz) (power-low sz) (power-high sz) n s old' (capacity table) C ws es m rest (λ k. refl) few (λ c x y z. still ws (directory_word c)) low high no-data xs mid ys t none)

  -- a data chunk has no entries
  data-freed : (at d : ℕ) → lines_of (power_of sz) ws s ≡ 0 → has_live (power_of sz) es s ≡ false → Ahead sz (power-low sz) (power-high sz) bytes table s at 0 0 d ws (run_words (free_of s old') ws) es
  data-freed at d z dead = only-freed at d none (record { ok = (rw whole at r).ok; free = lines-this (power_of sz) (power-low sz) (power-high sz) n s old' ws es ok low high; few = rw whole at few })
    where
      r : AtRest (power_of sz) n (set ws (directory_word s) (freed_word old')) es (apply (Store (directory_word s) (freed_word old')) m)
      r = data-rest (power_of sz) (power-low sz) (power-high sz) n s old' ws es ok low high m rest z (no-live (power_of sz) s es dead)

      no-entries : (us : List Entry) → 2 * length us ≤ 0 → us ≡ []
      no-entries [] h = refl
      no-entries (u ∷ us) h = absurd (omega arith)

      nothing : mid ≡ []
      nothing = no-entries mid (let a = chunk-few sz ws s mid t.mine in omega arith)

      none : kept ≡ []
      none = rw nothing

      whole : xs ++ (mid ++ ys) ≡ xs ++ ys
      whole = rw nothing

  -- what is kept fits into a free chunk
  kept-fits : lines_for (length (encode_all kept)) ≤ chunk_lines (power_of sz)
  kept-fits =
      let a = filter-words (is_kept es (xs ++ ys)) mid in
      let b = parse-words (slice (base (power_of sz) s) (base (power_of sz) s + 8 * lines_of (power_of sz) ws s) ws) 0 (base (power_of sz) s) mid t.mine in
      let l = slice-long (base (power_of sz) s) (base (power_of sz) s + 8 * lines_of (power_of sz) ws s) ws in
      let k = lines-few sz ws s in
      omega arith

  -- SOME COPIED, behind the committed lines of chunk d
  module _ (no-data : size_of (power_of sz) ws s ≡ 0) (d old : ℕ) (ne : s ≡ d → ⊥) (some' : 1 ≤ lines_for (length (encode_all kept))) (place : Place (power_of sz) n d (lines_for (length (encode_all kept))) ws) where
    abbrev l : ℕ
    l = lines_of (power_of sz) ws d

    abbrev b : ℕ
    b = lines_for (length (encode_all kept))

    abbrev at' : ℕ
    at' = base (power_of sz) d + 8 * l

    abbrev vs : List ℕ
    vs = done sz d old l s old' (encode_all kept) ws

    abbrev acts : List Action
    acts = commit_of (power_of sz) d old l b (entry_words kept (padding kept))

    image-is : latest (run acts m) ≡ run_words (append_of (power_of sz) d old l (encode_all kept)) ws
    image-is = run_settled acts ws ∙ ap (λ (x : List Action). run_words x ws) (sym (append-is (power_of sz) d old l kept))

    abbrev image : List ℕ
    image = run_words (append_of (power_of sz) d old l (encode_all kept)) ws

    copied : Copied (power_of sz) (power-low sz) (power-high sz) n s old' (capacity table) at' d ws image es kept
    copied =
        rw image-is at
        (clean-copied (power_of sz) (power-low sz) (power-high sz) n s old' (capacity table) C ws es m rest (λ k. refl) few (λ c x y z. still ws (directory_word c)) low high no-data xs mid ys t d old l b (padding kept) ne place.low
        place.high refl place.no-data some' place.fit (entries-length kept))

    vs-is : vs ≡ set image (directory_word s) (freed_word old')
    vs-is = run-append (append_of (power_of sz) d old l (encode_all kept)) (free_of s old') ws

    abbrev as' : List Entry
    as' = left-of sz (power-low sz) (power-high sz) n s at' ws image es copied.before copied.behind xs mid ys t copied.split' copied.aside

    abbrev bs : List Entry
    bs = right_of sz (power-low sz) (power-high sz) n s at' ws image es copied.before copied.behind xs mid ys t copied.split' copied.aside

    entries-are : copied.left ++ copied.right ≡ after xs mid ys as' bs at'
    entries-are =
        freed-entries sz (power-low sz) (power-high sz) n s at' ws image es copied.before copied.behind xs mid ys t copied.split' copied.aside copied.entries copied.left copied.chunk copied.right copied.parts' copied.joined

    new_ok : Ok (power_of sz) n vs (after xs mid ys as' bs at')
    new_ok = rw vs-is (rw entries-are at copied.ok)

    fit : l + b ≤ chunk_lines (power_of sz)
    fit = let a = place.fit in omega arith

    sized : length (padded (encode_all kept)) ≡ 8 * b
    sized = padded-length (encode_all kept)

    within : base (power_of sz) d + 8 * l + length (padded (encode_all kept)) ≤ length ws
    within = let a = lines-in sz d n (l + b) fit place.high in let e = ok.long in let z = sized in omega arith

    few-d : d < 504
    few-d = let a = place.high in let q = ok.most in omega arith

    few-s : s < 504
    few-s = let q = ok.most in omega arith

    same : (k : ℕ) → base (power_of sz) s ≤ k → k < base (power_of sz) s + 8 * lines_of (power_of sz) ws s → get_or vs k 0 ≡ get_or ws k 0
    same k a u =
        let f = first-words sz s low in
        let o : (k < base (power_of sz) d + 8 * l) ⊎ (base (power_of sz) d + 8 * l + length (padded (encode_all kept)) ≤ k) = rw sized (outside sz s d (lines_of (power_of sz) ws s) l b k ne (lines-few sz ws s) fit a u) in
        done-same sz d old l s old' (encode_all kept) ws k few-d few-s (omega arith) o

    image-long : length image ≡ length ws
    image-long = let a = done-length sz d old l s old' (encode_all kept) ws in let b = ap length vs-is in sym (length-set image (directory_word s) (freed_word old')) ∙ sym b ∙ a

    chunks : (c : ℕ) → 1 ≤ c → c < d → (c ≡ s → ⊥) → get_or vs (directory_word c) 0 ≡ get_or ws (directory_word c) 0
    chunks c a u e =
        rw vs-is (get_or-set_other image (directory_word s) (directory_word c) (freed_word old') 0 (λ q. e (omega arith)) ∙ copied.chunks c a (let h = place.high in omega arith) (λ q. omega arith))

    log-copied : Ahead sz (power-low sz) (power-high sz) bytes table s at' b (padding kept) d ws vs es
    log-copied = record {
      xs = xs;
      mid = mid;
      ys = ys;
      as' = as';
      bs = bs;
      freed = record {
        low = low;
        high = high;
        ok-old = ok;
        parts = t;
        ok = new_ok;
        rest = others-are sz (power-low sz) (power-high sz) n s at' ws image es copied.before copied.behind xs mid ys t copied.split' copied.aside;
        free = rw vs-is copied.free;
        same = same;
        written = (rw sized at (done-written sz d old l s old' (encode_all kept) ws few-d few-s (first-words sz d place.low) within)) ∙ padded-is kept;
      };
      accepted = right-opens sz n bytes table vs (after xs mid ys as' bs at') size new_ok (fits-keys table (after xs mid ys as' bs at') (rw entries-are at copied.few));
      kept = kept_in_lem;
      long = done-length sz d old l s old' (encode_all kept) ws;
      chunks = chunks;
      empty = rw vs-is (get_or-set_same image (directory_word s) (freed_word old') 0 (let a = ok.long in let b = image-long in let c = directory-in (power_of sz) (power-low sz) (power-high sz) n ws es ok s few-s in omega arith));
    }

  log-forward : is_log (role_at (power_of sz) ws s) ≡ true → (d old : ℕ) → (kept ≡ [] → ⊥) → log_place (power_of sz) n ws (lines_for (length (encode_all kept))) s 1 ≡ some d
      → Ahead sz (power-low sz) (power-high sz) bytes table s (base (power_of sz) d + 8 * lines_of (power_of sz) ws d) (lines_for (length (encode_all kept))) (padding kept) d ws
      (run_words (append_of (power_of sz) d old (lines_of (power_of sz) ws d) (encode_all kept) ++ free_of s old') ws) es
  log-forward log d old kept-some found =
      let p = log-place (power_of sz) n ws (lines_for (length (encode_all kept))) s 1 d kept-fits found in
      log-copied (size_is (power_of sz) ws s ∙ log-says (role_at (power_of sz) ws s) log) d old (p.1 (log-used (role_at (power_of sz) ws s) log)) (lines-some kept kept-some) p.0

  log-small : (d : ℕ) → log_place (power_of sz) n ws (lines_for (length (encode_all kept))) s 1 ≡ some d → d ≤ 503
  log-small d found = let p = (log-place (power_of sz) n ws (lines_for (length (encode_all kept))) s 1 d kept-fits found).0 in let h = p.high in let q = ok.most in omega arith

-- ## THE LAWS, over the entries as they stand

module _ (sz : Size) (bytes table : ℕ) (ws : List ℕ) (es : List Entry) (accepted : Opens (power_of sz) bytes ws table es) (long : length ws ≡ bytes / 8)
    (s old' : ℕ) (low : 1 ≤ s) (high : s < chunks_in (power_of sz) bytes) where
  abbrev N : ℕ
  N = chunks_in (power_of sz) bytes

  abbrev Split : Type 0
  Split = (xs : List Entry) × (mid : List Entry) × (ys : List Entry) × Parts (power_of sz) (power-low sz) (power-high sz) N s ws es xs mid ys

  split : Split
  split = parts (power_of sz) (power-low sz) (power-high sz) N s ws es low high (opens-right (power_of sz) bytes table ws es long accepted).0.parsed

  -- what is said of the entries in their parts is said of the entries
  joined : (P : List Entry → Type 0) → ((xs mid ys : List Entry) → Opens (power_of sz) bytes ws table (before xs mid ys) → Parts (power_of sz) (power-low sz) (power-high sz) N s ws (before xs mid ys) xs mid ys → es ≡ before xs mid ys → P (before xs mid ys)) → P es
  joined P f =
      let q = split in
      let w : es ≡ before q.0 q.1 q.2 = q.3.whole in
      subst P (sym w) (f q.0 q.1 q.2 (subst (Opens (power_of sz) bytes ws table) w accepted) (subst (λ (l : List Entry). Parts (power_of sz) (power-low sz) (power-high sz) N s ws l q.0 q.1 q.2) w q.3) w)

  -- A LOG CHUNK of which something is kept
  pub clean-forward : is_log (role_at (power_of sz) ws s) ≡ true → (d old : ℕ) → (kept_in (power_of sz) s es ≡ [] → ⊥) → log_place (power_of sz) N ws (lines_for (length (encode_all (kept_in (power_of sz) s es)))) s 1 ≡ some d
      → Ahead sz (power-low sz) (power-high sz) bytes table s (base (power_of sz) d + 8 * lines_of (power_of sz) ws d) (lines_for (length (encode_all (kept_in (power_of sz) s es)))) (padding (kept_in (power_of sz) s es)) d ws
      (run_words (append_of (power_of sz) d old (lines_of (power_of sz) ws d) (encode_all (kept_in (power_of sz) s es)) ++ free_of s old') ws) es
  clean-forward log d old =
      joined (λ es. (kept_in (power_of sz) s es ≡ [] → ⊥) → log_place (power_of sz) N ws (lines_for (length (encode_all (kept_in (power_of sz) s es)))) s 1 ≡ some d
      → Ahead sz (power-low sz) (power-high sz) bytes table s (base (power_of sz) d + 8 * lines_of (power_of sz) ws d) (lines_for (length (encode_all (kept_in (power_of sz) s es)))) (padding (kept_in (power_of sz) s es)) d ws
      (run_words (append_of (power_of sz) d old (lines_of (power_of sz) ws d) (encode_all (kept_in (power_of sz) s es)) ++ free_of s old') ws) es)
      (λ xs mid ys a t w. rw (kept-is (power_of sz) (power-low sz) (power-high sz) N s ws (before xs mid ys) xs mid ys t) (log-forward sz bytes table ws xs mid ys a long s old' low high t log d old))

  -- that chunk is one of the image
  pub place-small : (d : ℕ) → log_place (power_of sz) N ws (lines_for (length (encode_all (kept_in (power_of sz) s es)))) s 1 ≡ some d → d ≤ 503
  place-small d =
      joined (λ es. log_place (power_of sz) N ws (lines_for (length (encode_all (kept_in (power_of sz) s es)))) s 1 ≡ some d → d ≤ 503)
      (λ xs mid ys a t w. rw (kept-is (power_of sz) (power-low sz) (power-high sz) N s ws (before xs mid ys) xs mid ys t) (λ found. log-small sz bytes table ws xs mid ys a long s old' low high t d found))

  -- a log chunk of which nothing is kept
  pub clean-forward-none : is_log (role_at (power_of sz) ws s) ≡ true → (at d : ℕ) → kept_in (power_of sz) s es ≡ [] → Ahead sz (power-low sz) (power-high sz) bytes table s at 0 0 d ws (run_words (free_of s old') ws) es
  clean-forward-none log at d =
      joined (λ es. kept_in (power_of sz) s es ≡ [] → Ahead sz (power-low sz) (power-high sz) bytes table s at 0 0 d ws (run_words (free_of s old') ws) es)
      (λ xs mid ys a t w e. log-freed sz bytes table ws xs mid ys a long s old' low high t at d (size_is (power_of sz) ws s ∙ log-says (role_at (power_of sz) ws s) log) (kept_in_lem sz bytes table ws xs mid ys a long s old' low high t ∙ e))

  -- a data chunk with no live block
  pub clean-forward-data : is_log (role_at (power_of sz) ws s) ≡ false → (at d : ℕ) → has_live (power_of sz) es s ≡ false → Ahead sz (power-low sz) (power-high sz) bytes table s at 0 0 d ws (run_words (free_of s old') ws) es
  clean-forward-data log at d =
      joined (λ es. has_live (power_of sz) es s ≡ false → Ahead sz (power-low sz) (power-high sz) bytes table s at 0 0 d ws (run_words (free_of s old') ws) es)
      (λ xs mid ys a t w e. data-freed sz bytes table ws xs mid ys a long s old' low high t at d (lines-is (power_of sz) ws s ∙ not-log-says (role_at (power_of sz) ws s) log) e)

-- the hint still holds, where it speaks of no chunk from d on
pub below-ahead : (sz : Size) → (bytes table s at b z d : ℕ) (ws vs : List ℕ) (es : List Entry) → Ahead sz (power-low sz) (power-high sz) bytes table s at b z d ws vs es → (first least : ℕ) → first ≤ d → NoneBelow (power_of sz) (chunks_in (power_of sz) bytes) ws first least → NoneBelow (power_of sz) (chunks_in (power_of sz) bytes) vs first least
below-ahead sz bytes table s at b z d ws vs es a first least h none c l u m = go (ℕ_discrete c s)
  where
    go : Dec (c ≡ s) → has_space (power_of sz) vs least 0 c ≡ false
    go (yes e) = rw (e, a.empty, role-zero (power_of sz))
    go (no e) = same-space (power_of sz) ws vs least 0 c (a.chunks c l (omega arith) e) ∙ none c l u m
