-- What the code of a staging in a block shows at each return, of its plan and of the call, is what the contract says.
-- Assumes nothing.
use mathlib.Core.Path.{◌≡◌, refl, sym, ◌∙◌, ap, subst}
use mathlib.Core.Logic.{inl, inr}
use mathlib.Core.Option.{some}
use mathlib.Core.List.{List, [], ◌∷◌, ◌++◌}
use Prim.Native.Nat.{ℕ, suc, ◌+◌, ◌<◌, ◌≤◌}
use native.Mathlib.Omega.{arith}
use lib.ListN.{length, get_or, length-append}
use borrow.Author.Tests.{le-leb, lt-leb}
use Rattle.spec.specs.Basics.{distinct}
use Rattle.spec.specs.Words.{AreBytes, words_of}
use Rattle.spec.specs.Places.{chunks_in}
use Rattle.spec.specs.declared.Size.{Size}
use Rattle.places.specs.Sizes.{power_of, size_by}
use Rattle.spec.specs.Medium.{Action}
use Rattle.spec.specs.Log.{Entry, encode_all}
use Rattle.spec.specs.Blocks.{block_limit, block_size}
use Rattle.spec.specs.Contents.{highest, capacity, entries_in}
use Rattle.spec.specs.Plans.{Staging, Plan, Begin, Refuse, entry, max_put_version, slot_for, stage_large, plan_put}
use Rattle.spec.specs.Machine.{Put, Busy, items_of, state_power, steps_left, next}
use Rattle.spec.specs.Contract.{StagesIn}
use Rattle.session.specs.declared.Control.{Control}
use Rattle.session.specs.declared.Setup.{Setup}
use Rattle.session.specs.declared.Session.{Session}
use Rattle.spec.specs.Basics.{Given}
use Rattle.spec.specs.declared.Refusal.{Refusal}
use Rattle.spec.specs.declared.Refusal.TheVariants as N
use Rattle.spec.specs.declared.Report.TheVariants as R
use Rattle.theory_log.specs.Batch.{Right, AllRight}
use Rattle.buffer.specs.Areas.{batch_room, filter_place}
use Rattle.session.specs.State.{buffer_part, batch_words, batch_items, size_in, power_in, most_bytes, block_actions, state_at, state_of}
use Rattle.session.specs.Filter.{AllMarked}
use Rattle.session.specs.Fits.{key_list, Shown, Reads, Fits}
use Rattle.session.proofs.Kept.{reads-from}
use Rattle.volatile.proofs.Sums.{summed_same}
use Rattle.session.proofs.Phases.{rest-items}
use Rattle.session.proofs.Part.{words-within}
use Rattle.batch.proofs.Items.{AtZero, zero_more, items-zero, items-read, right-more}
use Rattle.batch.proofs.Count.{is_old, fresh_with, keys-more}
use Rattle.batch.proofs.Fits.{fits-staged, counts-more}
use Rattle.forward.specs.Ahead.{Ahead}
use Rattle.forward.proofs.Plans.{plan-ahead}
use Rattle.forward.proofs.Steps.{stage-begun}
use Rattle.staging.specs.declared.large.Large.{Large}
use Rattle.staging.specs.declared.large.LargePlan.{LargePlan}
use Rattle.staging.specs.Large.{actions_at, count_for, FoundAt, FoundNowhere, Where, LargePlanned, BlockBegun}
use Rattle.staging.proofs.Begun.{actions-counted, placed-count, placed-actions, placed_same, block-right, unit-small}
use Rattle.std.specs.Prelude.{Some, None, Result, Ok, Err}
use Rattle.session.specs.Asks.{Asking}
use Rattle.session.proofs.Gates.{refused, gate-passed, AtRest}
use Rattle.staging.specs.Admitting.{VersionOf, Admission, admit_named}
use Rattle.staging.specs.Planned.{Begins, BlockPlanned}
use Rattle.staging.proofs.Staging as S
use Rattle.staging.proofs.Admits.{plan_by, Admitting, named-admitted, named-turned, asked-behind, fresh-then, plan-named}
use Rattle.session.specs.Promise.{Does, memory, memory_of}
use Rattle.session.specs.Numbers.{staged_more}

-- the largest value that the code asks for
pub limit_is : (z : Size) (k : Setup) (most : ℕ) → z ≡ size_in k → most ≡ block_limit (power_of z) → most ≡ most_bytes k
limit_is z k most e h = rw e at h

module _ (c : Control) (k : Setup) (b bytes table : List ℕ) (g : Result (Unit {0}) Refusal) (asks : Asking c k (length bytes) (length table) g) (passes : g ≡ Ok tt)
    (named : Given) (key last : ℕ) (is : VersionOf (size_in k) b c.words table key last) (v : List ℕ) (low : 256 < length v) (high : length v ≤ most_bytes k)
    (a : Admission) (told : a ≡ admit_named named c max_put_version last 2 (capacity (length table))) where
  abbrev s : Session
  s = record { control = c; setup = k; buffer = b }

  abbrev ws : List ℕ
  ws = words_of bytes

  abbrev n : ℕ
  n = chunks_in (power_in k) k.image

  abbrev chunks : ℕ
  chunks = chunks_in (power_in k) (length bytes)

  abbrev room : ℕ
  room = capacity (length table)

  abbrev size : ℕ
  size = block_size (power_in k) (length v)

  abbrev rests : Fits s ws table → AtRest s (length bytes) (length table) ws table
  rests f = S.rests c k b bytes table g asks passes f

  abbrev es : Fits s ws table → List Entry
  es f = (rests f).fits.entries

  abbrev items : Fits s ws table → List Entry
  items f = (rests f).items

  -- THE PLAN
  abbrev placing : ℕ → ℕ → Fits s ws table → Plan
  placing m version f = stage_large (power_in k) ws (items f) version key v (slot_for (power_in k) m ws (es f) (items f) size)

  block-plan : (f : Fits s ws table) → plan_put (power_in k) chunks ws (length table) (entries_in (power_in k) chunks ws) (items_of (state_of s)) named key v ≡ plan_by (admit_named named c max_put_version last 2 room) (placing chunks (suc last) f)
  unfolding plan_put
  block-plan f =
      let y = S.numbered c k b bytes table g asks passes f key last is in
      rw (S.parsed c k b bytes table g asks passes f, (rests f).state, le-leb (length v) (most_bytes k) high, lt-leb (length v) 256 low)
      (plan-named named c b (power_in k) n ws (es f) (items f) (rests f).fits.batch max_put_version key last 2 (length table) y.version y.old _
      ∙ ap (λ (h : ℕ). plan_by (admit_named named c max_put_version last 2 room) (placing chunks (suc h) f)) (sym y.version))

  -- (power_in k), 10, 7
  block_refused : (x : Refusal) → a ≡ Err x → Does (Put named key v) (memory s bytes table) (memory s bytes table) (R.Refused x)
  block_refused x e =
      refused s bytes table x (Put named key v) refl (λ f. f) (λ f. sym (rw (S.opened c k b bytes table g asks passes, S.power c k b bytes table g asks passes, block-plan f, sym told ∙ e)))
      (S.barred c k b bytes table g asks passes (R.Refused x)) (inr (inr (inr (inr (named-turned named c max_put_version last 2 room (N.NoSpace ∷ []) x (sym told ∙ e)))))) (refl, refl) (inl (x, refl))

  -- ADMITTED, and its block looked for
  module _ (fresh : ℕ) (e : a ≡ Ok fresh) where
    adm : Admitting c max_put_version last 2 room fresh
    adm = named-admitted named c max_put_version last 2 room fresh (sym told ∙ e)

    next-is : last + 1 ≡ suc last
    next-is = omega arith

    plan-is : (f : Fits s ws table) → plan_put (power_in k) chunks ws (length table) (entries_in (power_in k) chunks ws) (items_of (state_of s)) named key v ≡ placing n (last + 1) f
    plan-is f =
        block-plan f
        ∙ ap (λ (x : Admission). plan_by x (placing chunks (suc last) f)) (sym told ∙ e)
        ∙ ap (λ (x : ℕ). placing chunks x f) (sym next-is)
        ∙ ap (λ (x : ℕ). placing (chunks_in (power_in k) x) (last + 1) f) (sym (rests f).same_bytes)

    in_image : k.image ≡ length bytes → n ≤ chunks
    in_image q = rw q (omega arith)

    -- the search is the definitions' on memory that fits
    searched : (Finds : (es items : List Entry) → Type 0) → Where bytes b k c.words (length v) Finds → (f : Fits s ws table) → Finds (es f) (items f)
    searched Finds h f =
        h (in_image (rests f).same_bytes) (S.ok c k b bytes table g asks passes f).most (omega arith) high (es f) (items f)
        (record { blocks = (rests f).fits.built.blocks; staged = fits-staged c b (power_in k) n ws (es f) (items f) (rests f).fits.batch })

    -- 13
    block-nowhere : Where bytes b k c.words (length v) (FoundNowhere bytes k (length v)) → Does (Put named key v) (memory s bytes table) (memory s bytes table) (R.Refused N.NoSpace)
    block-nowhere h =
        refused s bytes table N.NoSpace (Put named key v) refl (λ f. f) (λ f. sym (rw (S.opened c k b bytes table g asks passes, S.power c k b bytes table g asks passes, plan-is f, none_found f)))
        (S.barred c k b bytes table g asks passes (R.Refused N.NoSpace)) (inr (inr (inr (inr (asked-behind named N.NoSpace _ (inr (inr (inr (inl refl))))))))) (refl, refl) (inl (N.NoSpace, refl))
      where
        none_found : (f : Fits s ws table) → placing n (last + 1) f ≡ Refuse N.NoSpace
        none_found f = searched (FoundNowhere bytes k (length v)) h f (last + 1) key v refl

    -- BEGUN
    module _ (u old fields actions : ℕ) (counts : actions ≡ count_for (power_in k) (length v) fields) (at : Where bytes b k c.words (length v) (FoundAt bytes k (length v) u old fields)) where
      abbrev item : Entry
      item = entry 1 1 (last + 1) u key []

      found : (f : Fits s ws table) → FoundAt bytes k (length v) u old fields (es f) (items f)
      found = searched (FoundAt bytes k (length v) u old fields) at

      planned : (f : Fits s ws table) → plan_put (power_in k) chunks ws (length table) (entries_in (power_in k) chunks ws) (items_of (state_of s)) named key v ≡ Begin (items f ++ (item ∷ [])) Staging (actions_at (power_in k) u old fields v)
      planned f = plan-is f ∙ (found f).plan (last + 1) key v refl

      block-begins : Begins (Put named key v) (memory s bytes table) item (actions_at (power_in k) u old fields v) actions
      block-begins =
          S.begins c k b bytes table g asks passes (Put named key v) item (actions_at (power_in k) u old fields v) actions adm.few (counts ∙ sym (actions-counted (power_in k) u old fields v high)) (λ f. ap (λ (q : Plan). some q) (planned f))

      module _ (are : AreBytes v) (after : List ℕ) (r : Large) (begun : BlockBegun b after k c.words (last + 1) key v u old fields r) where
        abbrev c' : Control
        c' = staged_more 0 r.words fresh c

        abbrev s' : Session
        s' = record { control = c'; setup = r.setup; buffer = after }

        abbrev acts : List Action
        acts = block_actions r.setup after

        same : (r.setup.image ≡ k.image) × (r.setup.table ≡ k.table) × (r.setup.first ≡ k.first) × (r.setup.least ≡ k.least) × (r.setup.power ≡ k.power)
        same = placed_same r.setup k u old fields begun.setup

        count : actions ≡ length acts
        count = counts ∙ sym (ap (λ (x : Setup). length (block_actions x after)) begun.setup ∙ placed-count k after v u old fields (begun.held _ refl high) high)

        stages : StagesIn (state_power (state_of s)) (length bytes) (length table) acts (state_of s')
        unfolding state_at
        stages =
            let l = gate-passed s (length bytes) (length table) (S.opened c k b bytes table g asks passes) in (
              batch_items c' after,
              ap (λ (x : ℕ). Busy (power_of (size_by x)) r.setup.image r.setup.table (batch_items c' after) Staging acts) same.4
                  ∙ ap (λ (x : ℕ). Busy (power_in k) x r.setup.table (batch_items c' after) Staging acts) (same.0 ∙ l.same_bytes)
                  ∙ ap (λ (x : ℕ). Busy (power_in k) (length bytes) x (batch_items c' after) Staging acts) (same.1 ∙ l.same-words)
                  ∙ ap (λ (x : ℕ). Busy x (length bytes) (length table) (batch_items c' after) Staging acts) (sym (S.power c k b bytes table g asks passes)),
            )

        steps : steps_left (state_of s') ≡ suc actions
        unfolding state_at
        steps = ap suc (sym count)

        module _ (f : Fits s ws table) where
          abbrev more : List Entry
          more = items f ++ (item ∷ [])

          -- the record's actions are the plan's
          acts-are : actions_at (power_in k) u old fields v ≡ acts
          acts-are = sym (ap (λ (x : Setup). block_actions x after) begun.setup ∙ placed-actions k after v u old fields (begun.held _ refl high) (found f).low (found f).few)

          plan : plan_put (power_in k) chunks ws (length table) (entries_in (power_in k) chunks ws) (items_of (state_of s)) named key v ≡ Begin more Staging acts
          plan = planned f ∙ ap (Begin more Staging) acts-are

          goes : Ahead (size_in k) k.image k.table ws (es f) more acts
          goes =
              let q = (rests f).fits in
              (plan-ahead (size_in k) k.image k.table ws (es f) (items f) q.accepted q.long q.batch.fit v are (omega arith) high (last + 1) key more acts
              ((found f).plan (last + 1) key v refl ∙ ap (Begin more Staging) acts-are)).2

          in-room : c'.words ≤ batch_room
          in-room = let w = begun.words' adm.fits in let l = adm.fits in omega arith

          right-item : Right item
          right-item = let w = adm.unspent in block-right (last + 1) u key (omega arith) (omega arith)

          staged-words : buffer_part b 0 c.words ≡ encode_all (items f)
          staged-words =
              let l = adm.fits in
              sym (words-within c b (omega arith)) ∙ (rests f).fits.batch.written

          written : batch_words c' after ≡ encode_all more
          written = words-within c' after in-room ∙ begun.written adm.fits right-item (unit-small (size_in k) u (found f).low) (items f) staged-words

          marked : AllMarked (get_or after filter_place 0) more
          marked = begun.marked adm.fits (items f) staged-words (rests f).fits.batch.marked

          right : AllRight more
          right = right-more (items f) item (rests f).fits.batch.right right-item

          items-then : batch_items c' after ≡ more
          items-then =
              let q = sym (rest-items c k b (power_in k) k.image k.table (items f) (rests f).state) in
              let y : AtZero (items f) = rw q (items-zero c b) in
              items-read c' after more written right (zero_more (items f) item y refl)

          state-then : state_of s' ≡ Busy (power_in k) k.image k.table more Staging acts
          unfolding state_at
          state-then =
              ap (λ (x : ℕ). Busy (power_of (size_by x)) r.setup.image r.setup.table (batch_items c' after) Staging acts) same.4
              ∙ ap (λ (x : ℕ). Busy (power_in k) x r.setup.table (batch_items c' after) Staging acts) same.0
              ∙ ap (λ (x : ℕ). Busy (power_in k) k.image x (batch_items c' after) Staging acts) same.1
              ∙ ap (λ (l : List Entry). Busy (power_in k) k.image k.table l Staging acts) items-then

          keys : c.keys + fresh ≡ length (distinct (key_list more ++ key_list (es f)))
          keys =
              let y = S.numbered c k b bytes table g asks passes f key last is in
              let q : fresh ≡ fresh_with (is_old key (es f) (items f)) c.fresh = adm.counted ∙ sym (fresh-then (is_old key (es f) (items f)) last c.fresh y.old) in
              ap (λ (x : ℕ). c.keys + x) q ∙ keys-more c.keys c.fresh (es f) (items f) (rests f).fits.batch.keys item

          fits-then : Fits s' ws table
          fits-then =
              let q = (rests f).fits in
              let y = S.numbered c k b bytes table g asks passes f key last is in
              let h : last + 1 ≡ suc (highest key (es f ++ items f)) = next-is ∙ ap suc y.version in
              let m : length more ≡ length (items f) + 1 = length-append (items f) (item ∷ []) in
              let i = q.batch.count in
              let w = adm.few in
              let l = q.lent in
              let o = adm.keys in (
                begun.long ∙ f.0,
                rw state-then (
                  stage-begun c c' k r.setup b after ws table (items f) item acts q goes same.4 same.0 same.1 same.2 same.3 begun.bits begun.behind refl
                      in-room written (omega arith) (omega arith) right (counts-more (es f) (items f) item q.batch.counts h) marked keys (rw l at o),
                  reads_then,
                ),
              )
            where
              reads_then : Reads s' [] acts ws table
              reads_then =
                  let q = (rests f).fits in
                  reads-from s' [] (es f) acts ws table tt (rw same.0 q.long) (subst (λ (y : ℕ). Shown (power_of (size_by y)) r.setup.image r.setup.table [] (es f) acts ws) (sym same.4)
                  (subst (λ (x : ℕ). Shown (power_in k) x r.setup.table [] (es f) acts ws) (sym same.0) (subst (λ (y : ℕ). Shown (power_in k) k.image y [] (es f) acts ws) (sym same.1) goes.shown)))
                  (rw same.4 (record { indexed = q.built.indexed; blocks = λ u. begun.bits u ∙ q.built.blocks u; sums = summed_same (size_in k) b after (es f) (λ i l. begun.behind i (omega arith)) q.built.sums }))

        block-begun : Does (Put named key v) (memory s bytes table) (memory s' bytes table) (R.Begun actions)
        unfolding next
        block-begun = record {
          exact = λ f. record {
            answered = sym (rw (S.opened c k b bytes table g asks passes, S.power c k b bytes table g asks passes, plan f) (ap R.Begun (sym count)));
            became = state-then f ∙ sym (rw (S.opened c k b bytes table g asks passes, S.power c k b bytes table g asks passes, plan f, (rests f).state));
            fits = fits-then f;
          };
          first = S.barred c k b bytes table g asks passes (R.Begun actions);
          image = refl;
          sized = refl;
          outcome = (steps, refl);
          anyway = inr (acts, (stages, ap R.Begun count));
        }

-- BY THE VALUE'S LENGTH
module _ (c : Control) (k : Setup) (b bytes table : List ℕ) (g : Result (Unit {0}) Refusal) (asks : Asking c k (length bytes) (length table) g) (passes : g ≡ Ok tt) (named : Given) (key n : ℕ) where
  pub long-refused : most_bytes k < n → BlockPlanned named key n (memory_of c k b bytes table) (Err N.TooLong)
  long-refused l v q = S.put-long c k b bytes table g asks passes named key v (rw q l)

  module _ (last : ℕ) (is : VersionOf (size_in k) b c.words table key last) (low : 256 < n) (high : n ≤ most_bytes k) (a : Admission) (told : a ≡ admit_named named c max_put_version last 2 (capacity (length table))) where
    pub large-refused : (x : Refusal) → a ≡ Err x → BlockPlanned named key n (memory_of c k b bytes table) (Err x)
    large-refused x e v q = block_refused c k b bytes table g asks passes named key last is v (rw q low) (rw q high) a told x e

    module _ (fresh : ℕ) (e : a ≡ Ok fresh) where
      pub large-nowhere : LargePlanned bytes b k c.words n None → BlockPlanned named key n (memory_of c k b bytes table) (Err N.NoSpace)
      large-nowhere slot v q =
          block-nowhere c k b bytes table g asks passes named key last is v (rw q low) (rw q high) a told fresh e (subst (λ (m : ℕ). LargePlanned bytes b k c.words m None) (sym q) slot)

      pub large-item : (x : LargePlan) → LargePlanned bytes b k c.words n (Some x) → BlockPlanned named key n (memory_of c k b bytes table) (Ok (record { version = last + 1; fresh = fresh; place = x }))
      large-item x slot v q =
          let at : LargePlanned bytes b k c.words (length v) (Some x) = subst (λ (m : ℕ). LargePlanned bytes b k c.words m (Some x)) (sym q) slot in (
            block-begins c k b bytes table g asks passes named key last is v (rw q low) (rw q high) a told fresh e x.unit.0 x.old x.units x.actions at.0 at.1,
            block-begun c k b bytes table g asks passes named key last is v (rw q low) (rw q high) a told fresh e x.unit.0 x.old x.units x.actions at.0 at.1,
          )
