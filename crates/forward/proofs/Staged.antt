-- A large value staged, looking forward from words at rest: with all actions done the image is accepted with the
-- entries before, and the blocks of all staged items, the new one's too, are right and nobody else's.
-- Assumes nothing.
use mathlib.Core.Path.{◌≡◌, refl, sym, ◌∙◌, ap}
use mathlib.Core.Logic.{◌⊎◌, inl, inr, ⊎_elim}
use mathlib.Core.Bool.{Bool, true, false}
use mathlib.Core.List.{List, [], ◌∷◌, ◌++◌}
use Prim.Native.Nat.{ℕ, ◌+◌, ◌*◌, ◌/◌, ◌≤◌, ◌<◌}
use native.Mathlib.Omega.{arith}
use native.Mathlib.Decide.{ℕ_discrete}
use lib.ListN.{length, get_or, length-set}
use Rattle.spec.specs.declared.Size.{Size}
use Rattle.places.specs.Sizes.{power_of, power-low, power-high}
use Rattle.spec.specs.Basics.{both}
use Rattle.spec.specs.Words.{packed}
use Rattle.spec.specs.Places.{base, first_unit, unit_chunk, unit_word, directory_word, chunks_in, max_chunks}
use Rattle.spec.specs.Medium.{Cell, Action, Store, Flush, Fence, Medium, apply, run, latest, cell_at, settled_at}
use Rattle.spec.specs.Directory.{is_size, role_of, size_in, is_log, is_free, role_at, size_of, data_word}
use Rattle.spec.specs.declared.Role.{Role}
use Rattle.spec.specs.declared.Role.TheVariants as R
use Rattle.spec.specs.Log.{Entry}
use Rattle.spec.specs.Blocks.{pointed}
use Rattle.spec.specs.Contents.{Held, contents_by, meaning, keys_of, capacity}
use Rattle.spec.specs.Opening.{fine}
use Rattle.spec.specs.Actions.{take_of, block_of}
use Rattle.spec.specs.Reports.{as_report, words_after, run_words}
use Rattle.spec.specs.Plans.{entry, InData, InFree, slot_for, has_space}
use Rattle.theory_base.proofs.Words as W
use Rattle.theory_base.proofs.Through.{through-end}
use Rattle.theory_base.proofs.Places.{units-least, unit-at, unit-place, base-low}
use Rattle.theory_base.proofs.Sizes as Z
use Rattle.theory_log.specs.Contents.{Mem, Top}
use Rattle.theory_log.proofs.Contents.{mem-cases}
use Rattle.theory_log.proofs.Directory.{size_is}
use Rattle.theory_crash.specs.Accepted.{Ok}
use Rattle.theory_crash.specs.Rest.{AtRest, Flushed, Cuts}
use Rattle.theory_crash.specs.Stage.{Slot, BlockWords, Stored, Prepared}
use Rattle.theory_crash.proofs.Directory.{free-says, data-word}
use Rattle.theory_crash.proofs.Blocks.{block-fits}
use Rattle.theory_crash.proofs.Opening.{fits-keys, keys-fit}
use Rattle.session.proofs.OpensRight.{opens-right, right-opens}
use Rattle.theory_crash.proofs.Rest.{latest-quiet, settled-rest}
use Rattle.theory_crash.proofs.Stage.{slot-moves, stage_through, take-stage-through, first_slot, out, says}
use Rattle.theory_crash.proofs.Staged.{staged-prepared, prepared-stays}
use Rattle.theory_plans.proofs.Slots.{slot-data, slot-free}
use Rattle.placing.proofs.Hint.{same-space}
use Rattle.session.specs.Fits.{Opens, ItemsFit, Hint, Shown}
use Rattle.theory_crash.proofs.View.{Shy, slot-shy, free-shy}
use Rattle.theory_crash.proofs.Cells.{each_append}
use Rattle.theory_crash.proofs.Frame.{directory-in}
use Rattle.forward.proofs.Shown.{begin-ok, shown_by}
use Rattle.forward.specs.Ahead.{Ahead}

-- WORDS are what the processor reads.
after-action : (a : Action) (m : Medium) → latest (apply a m) ≡ words_after (as_report a) (latest m)
after-action (Store w v) m = W.latest-store w v m
after-action (Flush l) m = latest-quiet (Flush l) m tt
after-action Fence m = latest-quiet Fence m tt

run-latest : (acts : List Action) (m : Medium) → latest (run acts m) ≡ run_words acts (latest m)
run-latest [] m = refl
run-latest (a ∷ acts) m = run-latest acts (apply a m) ∙ ap (run_words acts) (after-action a m)

pub action-length : (a : Action) (ws : List ℕ) → length (words_after (as_report a) ws) ≡ length ws
action-length (Store w v) ws = length-set ws w v
action-length (Flush l) ws = refl
action-length Fence ws = refl

pub run_settled : (acts : List Action) (ws : List ℕ) → latest (run acts (settled_at ws)) ≡ run_words acts ws
run_settled acts ws = run-latest acts (settled_at ws) ∙ ap (run_words acts) (W.latest-settled ws)

-- a data chunk is no log chunk
no-space : (r : Role) (b : Bool) → 1 ≤ size_in r → both (is_log r) b ≡ false
no-space R.Free b h = refl
no-space (R.Log n) b h = absurd (omega arith)
no-space (R.Data s) b h = refl
no-space R.Wrong b h = refl

sized-taken : (r : Role) → 1 ≤ size_in r → is_free r ≡ false
sized-taken R.Free h = absurd (omega arith)
sized-taken (R.Log n) h = refl
sized-taken (R.Data s) h = refl
sized-taken R.Wrong h = refl

-- a block lies behind the directory
behind : (sz : Size) → (u : ℕ) → 1 ≤ unit_chunk (power_of sz) u → 512 ≤ unit_word u
behind sz u h =
    let a = unit-place (power_of sz) (power-low sz) (power-high sz) u in
    let b = base-low (power_of sz) (power-low sz) (power-high sz) (unit_chunk (power_of sz) u) h in
    omega arith

module _ (sz : Size) (bytes table : ℕ) (ws : List ℕ) (es items : List Entry) (accepted : Opens (power_of sz) bytes ws table es) (long : length ws ≡ bytes / 8)
    (fit : ItemsFit (power_of sz) (chunks_in (power_of sz) bytes) ws es items) where
  abbrev n : ℕ
  n = chunks_in (power_of sz) bytes

  abbrev m : Medium
  m = settled_at ws

  abbrev C : ℕ → Held
  C = contents_by (meaning ws) es

  ok : Ok (power_of sz) n ws es
  ok = (opens-right (power_of sz) bytes table ws es long accepted).0

  few : length (keys_of es) ≤ capacity table
  few = keys-fit table es (opens-right (power_of sz) bytes table ws es long accepted).1

  size : bytes ≡ 8 * base (power_of sz) n
  size = (opens-right (power_of sz) bytes table ws es long accepted).2

  rest : AtRest (power_of sz) n ws es m
  rest = settled-rest (power_of sz) n ws es ok

  still : (k : ℕ) → (cell_at m k).newer ≡ []
  still k = ap (λ (c : Cell). c.newer) (W.cell-settled ws k)

  flushed : Flushed (power_of sz) n m
  flushed c x y z = still (directory_word c)

  module _ (v : List ℕ) (s : ℕ) (is : is_size (power_of sz) s ≡ true) (bw : BlockWords s (length v ∷ packed v)) (version key : ℕ) where
    abbrev words : List ℕ
    words = length v ∷ packed v

    fits : length words ≤ 32 * s
    fits = let a = bw.room in let b = bw.count in omega arith

    some : 1 ≤ s
    some = let a = (Z.size_is (power_of sz) s is).0 in omega arith

    -- THE VALUE STORED, in a block that no item points to
    module _ (u w : ℕ) (acts : List Action) (st : Stored (power_of sz) n es C ws m u w words (run acts m)) (sl : Slot (power_of sz) n st.image es u s)
        (here : (e : Entry) → Mem e items → pointed e ≡ true → unit_chunk (power_of sz) e.field ≡ unit_chunk (power_of sz) u → (w ≡ get_or ws (directory_word (unit_chunk (power_of sz) u)) 0) × (e.field ≡ u → ⊥)) (shown : Shown (power_of sz) bytes table [] es acts ws) where
      abbrev new : Entry
      new = entry 1 1 version u key []

      image-is : st.image ≡ run_words acts ws
      image-is = sym st.rests.now ∙ run_settled acts ws

      old-block : (e : Entry) → Mem e items → Prepared (power_of sz) n st.image (run acts m) e
      old-block e t = prepared-stays (power_of sz) (power-low sz) (power-high sz) n es C ws m u s w words (run acts m) st sl e ok.long (fit.blocks e t, λ k need. still k) fits (here e t)

      new-block : Prepared (power_of sz) n st.image (run acts m) new
      new-block = staged-prepared (power_of sz) (power-low sz) (power-high sz) n es C ws m u s w words (run acts m) st sl bw new refl refl

      apart : (e : Entry) → Mem e items → pointed e ≡ true → e.field ≡ u → ⊥
      apart e t p q = (here e t p (ap (unit_chunk (power_of sz)) q)).1 q

      abbrev Either : Entry → Type 0
      Either e = Mem e items ⊎ (e ≡ new)

      which : (e : Entry) → Mem e (items ++ (new ∷ [])) → Either e
      which e t = ⊎_elim inl (⊎_elim inr (λ z. absurd z)) (mem-cases e items (new ∷ []) t)

      placed : ItemsFit (power_of sz) n st.image es (items ++ (new ∷ []))
      placed = record {
        blocks = λ e t. block e (which e t);
        dead = λ e f t o p q z. free e (which e t) f o p q z;
        own = λ e f t o p q z. one e f (which e t) (which f o) p q z;
      }
        where
          block : (e : Entry) → Either e → fine (power_of sz) n st.image e ≡ true
          block e (inl t) = (old-block e t).0
          block e (inr q) = rw q new-block.0

          free : (e : Entry) → Either e → (f : Entry) → Top es f → pointed e ≡ true → pointed f ≡ true → e.field ≡ f.field → ⊥
          free e (inl t) f o p q z = fit.dead e f t o p q z
          free e (inr x) f o p q z = sl.dead f o q (sym z ∙ ap (λ (y : Entry). y.field) x)

          one : (e f : Entry) → Either e → Either f → pointed e ≡ true → pointed f ≡ true → e.field ≡ f.field → e ≡ f
          one e f (inl t) (inl o) p q z = fit.own e f t o p q z
          one e f (inl t) (inr y) p q z = absurd (apart e t p (z ∙ ap (λ (x : Entry). x.field) y))
          one e f (inr x) (inl o) p q z = absurd (apart f o q (sym z ∙ ap (λ (y : Entry). y.field) x))
          one e f (inr x) (inr y) p q z = x ∙ sym y

      -- no log chunk has more space
      space : (least c : ℕ) → 1 ≤ c → c < n → has_space (power_of sz) ws least 0 c ≡ false → has_space (power_of sz) st.image least 0 c ≡ false
      space least c l u' h = go (ℕ_discrete c (unit_chunk (power_of sz) u))
        where
          go : Dec (c ≡ unit_chunk (power_of sz) u) → has_space (power_of sz) st.image least 0 c ≡ false
          go (yes e) =
              let z : 1 ≤ size_in (role_at (power_of sz) st.image c) = rw (e, sym (size_is (power_of sz) st.image (unit_chunk (power_of sz) u)), sl.size) some in
              no-space (role_at (power_of sz) st.image c) _ z
          go (no d) =
              let a = ok.most in
              let b = behind sz u sl.low in
              same-space (power_of sz) ws st.image least 0 c (st.others (directory_word c) (λ q. d (omega arith)) (inl (omega arith))).0 ∙ h

      -- no chunk is freed
      not-freed : (c : ℕ) → 1 ≤ c → c < n → is_free (role_at (power_of sz) ws c) ≡ false → is_free (role_at (power_of sz) st.image c) ≡ false
      not-freed c l u' h = go (ℕ_discrete c (unit_chunk (power_of sz) u))
        where
          go : Dec (c ≡ unit_chunk (power_of sz) u) → is_free (role_at (power_of sz) st.image c) ≡ false
          go (yes e) =
              let z : 1 ≤ size_in (role_at (power_of sz) st.image c) = rw (e, sym (size_is (power_of sz) st.image (unit_chunk (power_of sz) u)), sl.size) some in
              sized-taken (role_at (power_of sz) st.image c) z
          go (no d) =
              let a = ok.most in
              let b = behind sz u sl.low in
              rw (st.others (directory_word c) (λ q. d (omega arith)) (inl (omega arith))).0 h

      hinted : (first least : ℕ) → Hint (power_of sz) n ws first least → Hint (power_of sz) n st.image first least
      hinted first least h = record {
        below = λ c l f m. space least c l m (h.below c l f m);
        above = λ x c l m. space least c (omega arith) m (h.above x c l m);
        taken = λ x c l f m. not-freed c l m (h.taken x c l f m);
      }

      stored-ahead : Ahead sz bytes table ws es (items ++ (new ∷ [])) acts
      stored-ahead = record {
        accepted = rw (← image-is) (right-opens sz n bytes table st.image es size st.rests.ok (fits-keys table es few));
        shown = shown;
        placed = rw (← image-is) placed;
        long = rw (← image-is) (st.rests.ok.long ∙ sym ok.long ∙ long);
        hint = λ first least h. rw (← image-is) (hinted first least h);
      }

    -- INTO A BLOCK OF A DATA CHUNK
    pub data-ahead : (u : ℕ) → slot_for (power_of sz) n ws es items s ≡ InData u → Ahead sz bytes table ws es (items ++ (entry 1 1 version u key [] ∷ [])) (block_of u (length v ∷ packed v))
    data-ahead u h =
        let sl = slot-data (power_of sz) (power-low sz) (power-high sz) n ws es items s u some h in
        let w = get_or ws (directory_word (unit_chunk (power_of sz) u)) 0 in
        let st = through-end (Cuts (power_of sz) n (capacity table) C C) (Stored (power_of sz) n es C ws m u w words) (block_of u words) m
        (stage_through (power_of sz) (power-low sz) (power-high sz) n (capacity table) es C ws m u s words rest (λ k. refl) few flushed sl.0 fits) in
        stored-ahead u w (block_of u words) st (slot-moves (power_of sz) n ws st.image es u s st.word sl.0) (λ e t q o. (refl, sl.1 e t q))
        (shown_by sz bytes table ws es accepted long [] (block_of u words) tt (slot-shy (power_of sz) (power-low sz) (power-high sz) n ws es (begin-ok sz bytes table ws es accepted long) [] tt u s words sl.0 fits))

    -- INTO THE FIRST BLOCK OF A FREE CHUNK
    pub free-ahead : (c : ℕ) → slot_for (power_of sz) n ws es items s ≡ InFree c
        → Ahead sz bytes table ws es (items ++ (entry 1 1 version (first_unit (power_of sz) c) key [] ∷ [])) (take_of c (get_or ws (directory_word c) 0) s ++ block_of (first_unit (power_of sz) c) (length v ∷ packed v))
    free-ahead c h =
        let st = through-end (Cuts (power_of sz) n (capacity table) C C) (Stored (power_of sz) n es C ws m u w words) (take_of c old s ++ block_of u words) m
        (take-stage-through (power_of sz) (power-low sz) (power-high sz) n (capacity table) es C ws m c old s rest (λ k. refl) few flushed low high free is words fits) in
        stored-ahead u w (take_of c old s ++ block_of u words) st (moved st.image st.word) (λ e t q o. absurd (none e t q o)) shown
      where
        u : ℕ
        u = first_unit (power_of sz) c

        old : ℕ
        old = get_or ws (directory_word c) 0

        w : ℕ
        w = data_word old s

        low : 1 ≤ c
        low = (slot-free (power_of sz) n ws es items s c h).0

        high : c < n
        high = (slot-free (power_of sz) n ws es items s c h).1

        free : is_free (role_at (power_of sz) ws c) ≡ true
        free = (slot-free (power_of sz) n ws es items s c h).2

        chunk : unit_chunk (power_of sz) u ≡ c
        chunk = let z : u + 0 ≡ u = omega arith in let a = units-least (power_of sz) (power-low sz) (power-high sz) in rw z at (unit-at (power_of sz) (power-low sz) (power-high sz) c 0 (omega arith)).0

        -- the chunk's first block, once its word says so
        moved : (vs : List ℕ) → get_or vs (directory_word (unit_chunk (power_of sz) u)) 0 ≡ w → Slot (power_of sz) n vs es u s
        moved vs e =
            let f = first_slot (power_of sz) (power-low sz) (power-high sz) n (capacity table) es C ws m c old s rest (λ k. refl) few flushed low high free is in record {
              low = f.low;
              high = f.high;
              size = size_is (power_of sz) vs (unit_chunk (power_of sz) u) ∙ ap (λ (x : ℕ). size_in (role_of (power_of sz) x)) e ∙ (data-word (power_of sz) n c old s low high is).1;
              some' = some;
              ends = f.ends;
              aligned = f.aligned;
              dead = f.dead;
            }

        shown : Shown (power_of sz) bytes table [] es (take_of c old s ++ block_of u words) ws
        shown =
            let here : c < max_chunks = (let x = high in let y = ok.most in omega arith) in
            shown_by sz bytes table ws es accepted long [] (take_of c old s ++ block_of u words) tt
            (each_append (Shy (power_of sz) (power-low sz) (power-high sz) n ws es (begin-ok sz bytes table ws es accepted long) []) (take_of c old s) (block_of u words) (
              inr (
                (λ x. x),
                (
                  directory-in (power_of sz) (power-low sz) (power-high sz) n ws es ok c here,
                  (
                    out (power_of sz) (power-low sz) (power-high sz) n (capacity table) es C ws m c old s rest (λ k. refl) few flushed low high free is,
                    says (power_of sz) (power-low sz) (power-high sz) n (capacity table) es C ws m c old s rest (λ k. refl) few flushed low high free is,
                  ),
                ),
              ),
              (tt, tt),
            )
            (free-shy (power_of sz) (power-low sz) (power-high sz) n ws es (begin-ok sz bytes table ws es accepted long) [] tt c s words low high free (Z.size_is (power_of sz) s is).1 fits))

        -- no staged item points into a free chunk
        none : (e : Entry) → Mem e items → pointed e ≡ true → unit_chunk (power_of sz) e.field ≡ unit_chunk (power_of sz) u → ⊥
        none e t q o =
            let x = block-fits (power_of sz) n e.field (size_of (power_of sz) ws (unit_chunk (power_of sz) e.field)) (get_or ws (unit_word e.field) 0) _ (rw q at (fit.blocks e t)) in
            let y : 1 ≤ size_of (power_of sz) ws c = rw (o ∙ chunk) at x.some' in
            let z : size_of (power_of sz) ws c ≡ 0 = size_is (power_of sz) ws c ∙ (free-says (role_at (power_of sz) ws c) free).1 in
            omega arith
