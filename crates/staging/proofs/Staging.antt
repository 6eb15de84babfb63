-- What the code of a staging shows at each return, of its plan and of the call, is what the contract says.
-- Assumes nothing.
use mathlib.Core.Path.{◌≡◌, refl, sym, ◌∙◌, ap}
use mathlib.Core.Logic.{inl, inr}
use mathlib.Core.Bool.{true, false}
use mathlib.Core.Option.{none, some}
use mathlib.Core.List.{List, [], ◌∷◌, ◌++◌}
use Prim.Native.Nat.{ℕ, suc, ◌+◌, ◌/◌, ◌<◌, ◌≤◌}
use native.Mathlib.Omega.{arith}
use lib.ListN.{length, drop}
use borrow.Author.Tests.{le-leb, lt-leb}
use Rattle.spec.specs.Words.{AreBytes, words_of, packed}
use Rattle.spec.specs.Places.{chunk_units, chunks_in}
use Rattle.spec.specs.Medium.{Action}
use Rattle.spec.specs.Log.{Entry, Entries, filled, max_in_log, image_entries}
use Rattle.spec.specs.Blocks.{block_limit}
use Rattle.spec.specs.Contents.{highest, capacity, entries_in}
use Rattle.spec.specs.Plans.{Staging, Plan, Begin, entry, max_items, max_version, max_put_version, plan_put, plan_delete}
use Rattle.spec.specs.Machine.{Call, Put, Delete, Busy, items_of, state_power, steps_left, gate, refused_by, plan_of, answer, next}
use Rattle.spec.specs.Contract.{StagesIn, Anyway, Again, Ready, Barred}
use Rattle.session.specs.declared.Control.{Control}
use Rattle.session.specs.declared.Setup.{Setup}
use Rattle.session.specs.declared.Session.{Session}
use Rattle.spec.specs.declared.Size.{Size}
use Rattle.spec.specs.declared.Size.TheVariants as Z
use Rattle.places.specs.Sizes.{power_of}
use Rattle.spec.specs.Basics.{Given}
use Rattle.spec.specs.declared.Refusal.{Refusal}
use Rattle.spec.specs.declared.Refusal.TheVariants as N
use Rattle.spec.specs.declared.Report.{Report}
use Rattle.spec.specs.declared.Report.TheVariants as R
use Rattle.words.proofs.Values.{length-packed, packed-filled, filled-test}
use Rattle.theory_log.specs.Batch.{put, delete, Right}
use Rattle.theory_crash.specs.Accepted.{Ok as Accepted}
use Rattle.volatile.specs.Known.{Bounded}
use Rattle.volatile.proofs.Image.{image_bounded}
use Rattle.volatile.proofs.Sums.{summed_same}
use Rattle.session.specs.State.{batch_items, block_actions, behind_all, size_in, power_in, most_bytes, state_at, state_of}
use Rattle.session.specs.Fits.{BatchFits, Fits}
use Rattle.session.proofs.OpensRight.{opens-right}
use Rattle.session.proofs.Phases.{rest-items}
use Rattle.actions.proofs.Nth.{drop_past}
use Rattle.actions.proofs.Filling.{none_left}
use Rattle.batch.specs.Added.{Added}
use Rattle.batch.proofs.Items.{AtZero, zero_more, items-zero, items-read}
use Rattle.batch.proofs.Count.{is_old, fresh_with}
use Rattle.batch.proofs.Fits.{fits-staged, batch-more}
use Rattle.std.specs.Prelude.{Result, Ok, Err}
use Rattle.session.specs.Asks.{Asking}
use Rattle.session.proofs.Gates.{refused, gate-passed, AtRest}
use Rattle.staging.specs.declared.admit.Newest.{Newest}
use Rattle.session.specs.declared.Stepped.{Stepped}
use Rattle.staging.specs.Admitting.{NewestOf, VersionOf, version_in, present_by, Admission, admit_named}
use Rattle.staging.specs.Staging.{refused_with, one_more}
use Rattle.staging.specs.declared.Item.{Item}
use Rattle.staging.specs.Planned.{Begins, ItemRecords, LogPlanned, DeletePlanned}
use Rattle.staging.proofs.Shows as Shows
use Rattle.staging.proofs.Known.{Numbered, Says, newest-says, version-says}
use Rattle.staging.proofs.Admits.{plan_by, Admitting, named-admitted, named-turned, fresh-then, plan-named}
use Rattle.session.specs.Promise.{Does, memory, memory_of}
use Rattle.session.specs.Fits.{Proper}
use Rattle.session.specs.Numbers.{staged_more}

-- a value of the log is no longer than a block takes
limit-least : (size : Size) → 256 ≤ block_limit (power_of size)
unfolding block_limit chunk_units
limit-least Z.Small = omega arith
limit-least Z.Large = omega arith

-- ## The new entries are right

pub put_right : (v : List ℕ) → AreBytes v → (version key : ℕ) → 1 ≤ version → version ≤ max_version → length v ≤ max_in_log → Right (entry 1 0 version (length v) key (packed v))
put_right v small version key l h n = record { kind = put n; low = l; high = omega arith; words = length-packed v; fill = fill _ }
  where
    fill : (head : ℕ) → filled 0 (length v) (head ∷ key ∷ packed v) ≡ true
    fill head = let q : 2 + length v / 8 ≡ suc (suc (length v / 8)) = omega arith in rw q (filled-test (length v) (packed v) (packed-filled v small))

pub delete-right : (version key : ℕ) → 1 ≤ version → version ≤ max_version → Right (entry 2 0 version 0 key [])
delete-right version key l h = record { kind = delete; low = l; high = omega arith; words = refl; fill = refl }

module _ (c : Control) (k : Setup) (b bytes table : List ℕ) where
  abbrev s : Session
  s = record { control = c; setup = k; buffer = b }

  abbrev pub ws : List ℕ
  ws = words_of bytes

  abbrev chunks : ℕ
  chunks = chunks_in (power_in k) (length bytes)

  abbrev room : ℕ
  room = capacity (length table)

  -- a refusal that is answered leaves the record
  left : (call : Call) (n : Refusal) (r : Stepped) → r ≡ refused_with c n → Does call (memory s bytes table) (memory s bytes table) (R.Refused n)
      → Does call (memory s bytes table) (memory_of r.control k b bytes table) r.report
  left call n r e h = rw e h

  -- one more item recorded
  recorded : (call : Call) (item : Entry) (fresh : ℕ) → ItemRecords call (memory s bytes table) item fresh → (after : List ℕ) (words : ℕ) → Added b after c.words words item
      → (r : Stepped) → r ≡ one_more c words fresh → Does call (memory s bytes table) (memory_of r.control k after bytes table) r.report
  recorded call item fresh records after words added r e = rw e (records after words added)

  -- ## What follows a plan

  module _ (named : Given) (key : ℕ) (v : List ℕ) where
    pub put-left : (n : Refusal) → LogPlanned named key (length v) (memory s bytes table) (Err n) → (r : Stepped) → r ≡ refused_with c n → Does (Put named key v) (memory s bytes table) (memory_of r.control k b bytes table) r.report
    put-left n planned r is = left (Put named key v) n r is (planned v refl)

    pub put-done : (x : Item) → LogPlanned named key (length v) (memory s bytes table) (Ok x) → AreBytes v → (after : List ℕ) (words : ℕ) → Added b after c.words words (entry 1 0 x.version (length v) key (packed v))
        → (r : Stepped) → r ≡ one_more c words x.fresh → Does (Put named key v) (memory s bytes table) (memory_of r.control k after bytes table) r.report
    put-done x planned small = recorded (Put named key v) (entry 1 0 x.version (length v) key (packed v)) x.fresh ((planned v refl).1 small)

  module _ (named : Given) (key : ℕ) where
    pub delete-left : (n : Refusal) → DeletePlanned named key (memory s bytes table) (Err n) → (r : Stepped) → r ≡ refused_with c n → Does (Delete named key) (memory s bytes table) (memory_of r.control k b bytes table) r.report
    delete-left n planned r is = left (Delete named key) n r is planned

    pub delete-done : (x : Item) → DeletePlanned named key (memory s bytes table) (Ok x) → (after : List ℕ) (words : ℕ) → Added b after c.words words (entry 2 0 x.version 0 key [])
        → (r : Stepped) → r ≡ one_more c words x.fresh → Does (Delete named key) (memory s bytes table) (memory_of r.control k after bytes table) r.report
    delete-done x planned = recorded (Delete named key) (entry 2 0 x.version 0 key []) x.fresh planned.1

  module _ (g : Result (Unit {0}) Refusal) (asks : Asking c k (length bytes) (length table) g) (passes : g ≡ Ok tt) where
    pub opened : gate (state_of s) (length bytes) (length table) ≡ none
    opened = Shows.opened c k b bytes table g asks passes

    pub barred : (r r' : Report) → refused_by (gate (state_of s) (length bytes) (length table)) ≡ some r' → r ≡ r'
    barred = Shows.passed c k b bytes table g asks passes

    pub power : state_power (state_of s) ≡ power_in k
    power = ap state_power (gate-passed s (length bytes) (length table) opened).state

    -- ## What fitting memory says

    module _ (f : Fits s ws table) where
      pub rests : AtRest s (length bytes) (length table) ws table
      rests = Shows.rests c k b bytes table g asks passes f

      abbrev pub es : List Entry
      es = rests.fits.entries

      abbrev pub items : List Entry
      items = rests.items

      pub batch : BatchFits c b (power_in k) (chunks_in (power_in k) k.image) ws es items
      batch = rests.fits.batch

      pub ok : Accepted (power_in k) (chunks_in (power_in k) k.image) ws es
      ok = let r = rests.fits in (opens-right (power_in k) k.image k.table ws es r.long r.accepted).0

      pub parsed : image_entries (power_in k) chunks ws ≡ Entries es
      parsed = rw (ap (chunks_in (power_in k)) rests.same_bytes) at ok.parsed

      small : Bounded (size_in k) es
      small = image_bounded (size_in k) (chunks_in (power_in k) k.image) ws es ok.parsed ok.most

      pub numbered : (key v : ℕ) → VersionOf (size_in k) b c.words table key v → Numbered key es items v
      numbered key v is = version-says (size_in k) key chunks ws es items parsed small batch.counts table c.keys rests.fits.built.indexed v (is items (fits-staged c b (power_in k) (chunks_in (power_in k) k.image) ws es items batch))

      says : (key : ℕ) (n : Newest) → NewestOf (size_in k) b c.words table key n → Says key es items ws n
      says key n is = newest-says (size_in k) key chunks ws es items parsed small batch.counts table c.keys rests.fits.built.indexed n (is items (fits-staged c b (power_in k) (chunks_in (power_in k) k.image) ws es items batch))

    -- the call is begun as the definitions plan it
    pub begins : (call : Call) (item : Entry) (acts : List Action) (actions : ℕ) → c.items < max_items → actions ≡ length acts
        → ((f : Fits s ws table) → plan_of (power_in k) call (items_of (state_of s)) ws (length bytes) (length table) ≡ some (Begin (items f ++ (item ∷ [])) Staging acts))
        → Begins call (memory s bytes table) item acts actions
    begins call item acts actions few counted plan = record {
      passes = opened;
      few = few;
      counted = counted;
      plan = λ f. ap (λ (p : ℕ). plan_of p call (items_of (state_of s)) ws (length bytes) (length table)) (power) ∙ plan f ∙ ap (λ (l : List Entry). some (Begin (l ++ (item ∷ [])) Staging acts)) (sym (ap items_of (rests f).state));
    }

    -- ## Too long

    pub put-long : (named : Given) (key : ℕ) (v : List ℕ) → most_bytes k < length v → Does (Put named key v) (memory s bytes table) (memory s bytes table) (R.Refused N.TooLong)
    unfolding plan_put
    put-long named key v l =
        refused s bytes table N.TooLong (Put named key v) refl (λ f. f) (λ f. sym (rw (opened, (rests f).state, lt-leb (length v) (most_bytes k) l)))
        (barred (R.Refused N.TooLong)) (inr (inr (inr (inl refl)))) (refl, refl) (inl (N.TooLong, refl))

    -- `last` is the key's highest version so far
    module _ (named : Given) (key last : ℕ) (is : VersionOf (size_in k) b c.words table key last) where
      -- ## One more item

      module _ (e : Entry) (most fresh : ℕ) (adm : Admitting c most last (2 + length e.value) room fresh) (after : List ℕ) (words : ℕ) (added : Added b after c.words words e) where
        abbrev s' : Session
        s' = record { control = staged_more behind_all words fresh c; setup = k; buffer = after }

        -- for any memory
        none-to-do : drop behind_all (block_actions k after) ≡ []
        none-to-do = drop_past (block_actions k after) behind_all (none_left k after behind_all (omega arith))

        stages : StagesIn (state_power (state_of s)) (length bytes) (length table) [] (state_of s')
        unfolding state_at
        stages =
            let l = gate-passed s (length bytes) (length table) opened in (
              batch_items s'.control after,
              ap (λ (x : List Action). Busy (power_in k) k.image k.table (batch_items s'.control after) Staging x) none-to-do
                  ∙ ap (λ (i : ℕ). Busy (power_in k) i k.table (batch_items s'.control after) Staging []) l.same_bytes ∙ ap (λ (i : ℕ). Busy (power_in k) (length bytes) i (batch_items s'.control after) Staging []) l.same-words
                  ∙ ap (λ (p : ℕ). Busy p (length bytes) (length table) (batch_items s'.control after) Staging []) (sym power),
            )

        steps : steps_left (state_of s') ≡ 1
        unfolding state_at
        steps = rw none-to-do

        module _ (right : Right e) (in-log : e.placement ≡ 0) (at_zero : e.at ≡ 0) (version : e.version ≡ suc last) (of-key : e.key ≡ key) (f : Fits s ws table) where
          abbrev more : List Entry
          more = items f ++ (e ∷ [])

          counted : fresh ≡ fresh_with (is_old e.key (es f) (items f)) c.fresh
          counted =
              let y = numbered f key last is in
              rw of-key (adm.counted ∙ sym (fresh-then (is_old key (es f) (items f)) last c.fresh y.old))

          batch-then : BatchFits s'.control after (power_in k) (chunks_in (power_in k) k.image) ws (es f) more
          batch-then =
              let y = numbered f key last is in
              let v : e.version ≡ suc (highest e.key (es f ++ items f)) = rw of-key (version ∙ ap suc y.version) in
              batch-more c b (power_in k) (chunks_in (power_in k) k.image) ws (es f) (items f) (batch f) s'.control after e added adm.fits adm.few right in-log v refl refl counted

          items-then : batch_items s'.control after ≡ more
          items-then =
              let r = sym (rest-items c k b (power_in k) k.image k.table (items f) (rests f).state) in
              let z : AtZero (items f) = rw r (items-zero c b) in
              items-read s'.control after more batch-then.written batch-then.right (zero_more (items f) e z at_zero)

          state-then : state_of s' ≡ Busy (power_in k) k.image k.table more Staging []
          unfolding state_at
          state-then = rw (items-then, none-to-do)

          fits-then : Fits s' ws table
          fits-then =
              let r = (rests f).fits in
              let q = adm.keys in
              let l = r.lent in (
                added.long ∙ f.0,
                rw state-then (
                  record {
                    entries = es f;
                    accepted = r.accepted;
                    long = r.long;
                    lent = r.lent;
                    built = record { indexed = r.built.indexed; blocks = λ u. added.bits (size_in k) u ∙ r.built.blocks u; sums = summed_same (size_in k) b after (es f) (λ i l. added.behind i (omega arith)) r.built.sums };
                    batch = batch-then;
                    table-room = rw l at q;
                    hint = r.hint;
                  },
                  tt,
                ),
              )

        -- the call, by what it answers and leaves
        staged : (call : Call) → (Ready Proper state_of Fits call s ws table → Fits s ws table) → ((Fit : Type 0) → Fit → Again call (R.Begun 0) Fit) → Barred Proper state_of Fits call s bytes table (R.Begun 0)
            → Right e → e.placement ≡ 0 → e.at ≡ 0 → e.version ≡ suc last → e.key ≡ key
            → ((f : Fits s ws table) → (answer call (state_of s) ws (length bytes) (length table) ≡ R.Begun 0)
            × (next call (state_of s) ws (length bytes) (length table) ≡ Busy (power_in k) k.image k.table (items f ++ (e ∷ [])) Staging []))
            → Anyway call (state_of s) (state_of s') ws (length bytes) (length table) (R.Begun 0)
            → Does call (memory s bytes table) (memory s' bytes table) (R.Begun 0)
        staged call ready again bars right in-log at_zero version of-key goes any = record {
          exact = λ r. let f = ready r in record {
            answered = sym (goes f).0;
            became = state-then right in-log at_zero version of-key f ∙ sym (goes f).1;
            fits = again _ (fits-then right in-log at_zero version of-key f);
          };
          first = bars;
          image = refl;
          sized = refl;
          outcome = (steps, refl);
          anyway = any;
        }

      -- ## Put

      module _ (v : List ℕ) where
        within : length v ≤ 256 → length v ≤ most_bytes k
        within l = let q = limit-least (size_in k) in omega arith

        abbrev need-words : ℕ
        need-words = 2 + (length v + 7) / 8

        put-plan : (l : length v ≤ 256) (f : Fits s ws table)
            → plan_put (power_in k) chunks ws (length table) (entries_in (power_in k) chunks ws) (items_of (state_of s)) named key v
            ≡ plan_by (admit_named named c max_put_version last need-words room) (Begin (items f ++ (entry 1 0 (suc last) (length v) key (packed v) ∷ [])) Staging [])
        unfolding plan_put
        put-plan l f =
            let y = numbered f key last is in
            rw (parsed f, (rests f).state, le-leb (length v) (most_bytes k) (within l), le-leb (length v) 256 l)
            (plan-named named c b (power_in k) (chunks_in (power_in k) k.image) ws (es f) (items f) (batch f) max_put_version key last need-words (length table) y.version y.old _
            ∙ ap (λ (h : ℕ). plan_by (admit_named named c max_put_version last need-words room) (Begin (items f ++ (entry 1 0 (suc h) (length v) key (packed v) ∷ [])) Staging [])) (sym y.version))

        module _ (l : length v ≤ 256) (a : Admission) (told : a ≡ admit_named named c max_put_version last need-words room) where
          put_refused : (x : Refusal) → a ≡ Err x → Does (Put named key v) (memory s bytes table) (memory s bytes table) (R.Refused x)
          put_refused x e =
              refused s bytes table x (Put named key v) refl (λ f. f) (λ f. sym (rw (opened, power, put-plan l f, sym told ∙ e)))
              (barred (R.Refused x)) (inr (inr (inr (inr (named-turned named c max_put_version last need-words room (N.NoSpace ∷ []) x (sym told ∙ e)))))) (refl, refl) (inl (x, refl))

          module _ (fresh : ℕ) (e : a ≡ Ok fresh) where
            next-is : last + 1 ≡ suc last
            next-is = omega arith

            abbrev item : Entry
            item = entry 1 0 (last + 1) (length v) key (packed v)

            adm : Admitting c max_put_version last (2 + length (packed v)) room fresh
            adm = rw (length-packed v) (named-admitted named c max_put_version last need-words room fresh (sym told ∙ e))

            plan : (f : Fits s ws table) → plan_put (power_in k) chunks ws (length table) (entries_in (power_in k) chunks ws) (items_of (state_of s)) named key v ≡ Begin (items f ++ (item ∷ [])) Staging []
            plan f = put-plan l f ∙ rw (sym told ∙ e, next-is)

            put-begins : Begins (Put named key v) (memory s bytes table) item [] 0
            put-begins = begins (Put named key v) item [] 0 adm.few refl (λ f. ap (λ (q : Plan). some q) (plan f))

            put-records : AreBytes v → ItemRecords (Put named key v) (memory s bytes table) item fresh
            unfolding next
            put-records small after words added =
                staged item max_put_version fresh adm after words added (Put named key v) (λ f. f) (λ Fit f. f) (barred (R.Begun 0)) right refl refl next-is refl
                (λ f. (rw (opened, power, plan f), rw (opened, power, plan f, (rests f).state))) (inr ([], (stages item max_put_version fresh adm after words added, refl)))
              where
                right : Right item
                right = let u = adm.unspent in put_right v small (last + 1) key (omega arith) (omega arith) l

      -- by the value's length
      module _ (n : ℕ) (l : n ≤ 256) (a : Admission) (told : a ≡ admit_named named c max_put_version last (2 + (n + 7) / 8) room) where
        pub log-refused : (x : Refusal) → a ≡ Err x → LogPlanned named key n (memory s bytes table) (Err x)
        log-refused x e v q = put_refused v (rw q l) a (rw q told) x e

        pub log-item : (fresh : ℕ) → a ≡ Ok fresh → LogPlanned named key n (memory s bytes table) (Ok (record { version = last + 1; fresh = fresh }))
        log-item fresh e v q = (put-begins v (rw q l) a (rw q told) fresh e, put-records v (rw q l) a (rw q told) fresh e)

    -- ## Delete

    module _ (named : Given) (key : ℕ) (n : Newest) (is : NewestOf (size_in k) b c.words table key n) where
      version-is : VersionOf (size_in k) b c.words table key (version_in n)
      version-is items st = ap (version_in) (is items st)

      delete-plan : present_by ws n ≡ true → (f : Fits s ws table)
          → plan_delete (length table) (entries_in (power_in k) chunks ws) (items_of (state_of s)) named key
          ≡ plan_by (admit_named named c max_version (version_in n) 2 room) (Begin (items f ++ (entry 2 0 (suc (version_in n)) 0 key [] ∷ [])) Staging [])
      unfolding plan_delete
      delete-plan h f =
          let x = says f key n is in
          let y = x.numbered in
          rw (parsed f, (rests f).state, sym x.shown ∙ h)
          (plan-named named c b (power_in k) (chunks_in (power_in k) k.image) ws (es f) (items f) (batch f) max_version key (version_in n) 2 (length table) y.version y.old _
          ∙ ap (λ (h' : ℕ). plan_by (admit_named named c max_version (version_in n) 2 room) (Begin (items f ++ (entry 2 0 (suc h') 0 key [] ∷ [])) Staging [])) (sym y.version))

      pub delete-absent : present_by ws n ≡ false → Does (Delete named key) (memory s bytes table) (memory s bytes table) (R.Refused N.KeyAbsent)
      unfolding plan_delete
      delete-absent h =
          refused s bytes table N.KeyAbsent (Delete named key) refl (λ f. f) (λ f. sym (rw (opened, power, parsed f, (rests f).state, sym (says f key n is).shown ∙ h)))
          (barred (R.Refused N.KeyAbsent)) (inr (inr (inr (inl refl)))) (refl, refl) (inl (N.KeyAbsent, refl))

      module _ (h : present_by ws n ≡ true) (a : Admission) (told : a ≡ admit_named named c max_version (version_in n) 2 room) where
        pub delete-refused : (x : Refusal) → a ≡ Err x → DeletePlanned named key (memory s bytes table) (Err x)
        delete-refused x e =
            refused s bytes table x (Delete named key) refl (λ f. f) (λ f. sym (rw (opened, power, delete-plan h f, sym told ∙ e)))
            (barred (R.Refused x)) (inr (inr (inr (inr (named-turned named c max_version (version_in n) 2 room [] x (sym told ∙ e)))))) (refl, refl) (inl (x, refl))

        module _ (fresh : ℕ) (e : a ≡ Ok fresh) where
          delete-next : version_in n + 1 ≡ suc (version_in n)
          delete-next = omega arith

          abbrev delete-entry : Entry
          delete-entry = entry 2 0 (version_in n + 1) 0 key []

          delete-adm : Admitting c max_version (version_in n) 2 room fresh
          delete-adm = named-admitted named c max_version (version_in n) 2 room fresh (sym told ∙ e)

          delete-begun : (f : Fits s ws table) → plan_delete (length table) (entries_in (power_in k) chunks ws) (items_of (state_of s)) named key ≡ Begin (items f ++ (delete-entry ∷ [])) Staging []
          delete-begun f = delete-plan h f ∙ rw (sym told ∙ e, delete-next)

          delete-records : ItemRecords (Delete named key) (memory s bytes table) delete-entry fresh
          unfolding next
          delete-records after words added =
              staged named key (version_in n) version-is delete-entry max_version fresh delete-adm after words added (Delete named key) (λ f. f) (λ Fit f. f) (barred (R.Begun 0)) right refl refl delete-next refl
              (λ f. (rw (opened, power, delete-begun f), rw (opened, power, delete-begun f, (rests f).state))) (inr ([], (stages named key (version_in n) version-is delete-entry max_version fresh delete-adm after words added, refl)))
            where
              right : Right delete-entry
              right = let u = delete-adm.unspent in delete-right (version_in n + 1) key (omega arith) (omega arith)

          pub delete-item : DeletePlanned named key (memory s bytes table) (Ok (record { version = version_in n + 1; fresh = fresh }))
          delete-item = (begins (Delete named key) delete-entry [] 0 delete-adm.few refl (λ f. ap (λ (q : Plan). some q) (delete-begun f)), delete-records)
