-- What holds of an open register between calls and while one is unfinished, by the state that the record stands for;
-- and that the answer and the next state of every call but a formatting and an opening keep it.
--
-- `bytes` is the image's length, n = chunks_in p bytes its chunks, `least` the table's words at the opening before.
-- `Holds` says:
--   1. a register is open, no formatting is unfinished, and the state's lengths are `bytes` and `least`, its power p;
--   2. with no call unfinished no batch is in hand, and the medium stands with the book's register and tray:
--       `Standing`;
--   3. with actions still to come, every cut up to the end shows the register as it is or with the batch in hand done,
--      and at the end the medium stands with the latter and the tray, the state's items being those that the end
--      leaves: `Going`;
--   4. with a call unfinished look-up reads words that say what those before the call say, up to its last action, and
--      some cut leaves that register: `Reading`.
-- Kept, a lemma for each call: `put-kept`, `delete-kept`, `commit-kept`, `abandon-kept`, `look-kept`, `choose-kept`,
-- `clean-kept`, `step_kept`. From 2 look-up answers what the book says: `look-right`.
-- Assumes nothing.
use mathlib.Core.Path.{◌≡◌, refl, sym, ◌∙◌, ap}
use mathlib.Core.Logic.{⊎_elim}
use mathlib.Core.Bool.{Bool, true, false}
use mathlib.Core.Option.{Option, none, some}
use mathlib.Core.List.{List, [], ◌∷◌}
use Prim.Native.Nat.{ℕ, ◌+◌, ◌*◌}
use native.Mathlib.Omega.{arith}
use lib.Dec.{eqb}
use lib.ListN.{length, get_or}
use borrow.Author.Tests.{eq-eqb}
use Rattle.spec.specs.Basics.{pick, both, is_empty}
use Rattle.spec.specs.Words.{words_of, AreBytes}
use Rattle.spec.specs.Places.{unit_word, chunks_in}
use Rattle.spec.specs.Header.{header_power}
use Rattle.spec.specs.Medium.{Medium, Action, Store, Flush, Fence, apply, latest}
use Rattle.spec.specs.Log.{Entry}
use Rattle.spec.specs.Blocks.{pointed}
use Rattle.spec.specs.Contents.{Held, entries_in, chosen}
use Rattle.spec.specs.Reports.{as_report, medium_after, is_refused}
use Rattle.spec.specs.Plans.{Task, Plan, Refuse, Begin, plan_put, plan_delete, plan_commit, plan_clean, planned, chosen_or, chosen_chunk, part_of, part_or, Olds, olds_of, look_up}
use Rattle.spec.specs.Machine.{Call, Put, Delete, Commit, Abandon, LookUp, Choose, Clean, Step, State, Closed, Rest, Busy, Formatting, gate, read_gate, read_words, items_of, state_power, begun, gated, count_of, items_then, emptied, answer, next}
use Rattle.spec.specs.Book.{Item, Book, done_batch, note}
use Rattle.spec.specs.History.{unfinished_after, shows}
use Rattle.spec.specs.Basics.{Given}
use Rattle.spec.specs.declared.Refusal.{Refusal}
use Rattle.spec.specs.declared.Refusal.TheVariants as N
use Rattle.spec.specs.declared.Report.{Report}
use Rattle.spec.specs.declared.Report.TheVariants as R
use Rattle.theory_base.proofs.Lists.{pick_same}
use Rattle.theory_crash.proofs.Rest.{can-latest}
use Rattle.theory_plans.specs.Standing.{Standing, Going, Reading}
use Rattle.theory_plans.specs.Laws.{Laws}

-- the medium by the book: between calls, with these entries staged; and with these actions still to come
abbrev pub StandsBy : (p bytes least : ℕ) → Book → List Entry → Medium → Type 0
StandsBy p bytes least b items m = Standing p (chunks_in p bytes) least b.register b.staged items m

abbrev pub GoesBy : (p bytes least : ℕ) → Book → List Entry → List Action → Medium → Type 0
GoesBy p bytes least b items rest m = Going p (chunks_in p bytes) least b.register (done_batch b.in-flight b.register) b.staged items rest m

abbrev pub ReadsBy : (p bytes least : ℕ) → Book → Task → List Action → Medium → Type 0
ReadsBy p bytes least b task rest m = (ws : List ℕ) × Reading p (chunks_in p bytes) least b.register ws (olds_of task) rest m

abbrev pub Holds : (p bytes least : ℕ) → Bool → Book → State → Medium → Type 0
Holds p bytes least u b Closed m = ⊥
Holds p bytes least u b (Rest z l t items) m = (l ≡ bytes) × (t ≡ least) × (b.in-flight ≡ none) × StandsBy p bytes least b items m × (z ≡ p)
Holds p bytes least u b (Busy z l t items task rest) m =
    (l ≡ bytes) × (t ≡ least) × (u ≡ true) × GoesBy p bytes least b (items_then task items) rest m × (z ≡ p) × ReadsBy p bytes least b task rest m
Holds p bytes least u b (Formatting o l t rest) m = ⊥

-- what an answer makes of the unfinished calls, the book and the medium; and of the state, which a refusal leaves
abbrev pub Leaves : (p bytes least : ℕ) → Bool → (Report → Book) → Report → State → State → Medium → Type 0
Leaves p bytes least u noted r σ τ m = Holds p bytes least (unfinished_after r u) (noted r) (pick (both (is_refused r) true) σ τ) (medium_after r m)

-- an action done
pub reading-steps : {p n table : ℕ} {C : ℕ → Held} {ws : List ℕ} {olds : Olds} (a : Action) (rest : List Action) (m : Medium) → Reading p n table C ws olds (a ∷ rest) m → Reading p n table C ws olds rest (apply a m)
reading-steps a rest m r = record { entries = r.entries; ok = r.ok; holds = r.holds; low = r.low; reads = r.reads.1 }

-- the call k, answered
abbrev pub Keeps : (p bytes least : ℕ) → Bool → Book → Medium → Call → State → Type 0
Keeps p bytes least u b m k σ =
    Holds p bytes least (unfinished_after (answer k σ (latest m) bytes least) u) (note k (answer k σ (latest m) bytes least) b)
    (next k σ (latest m) bytes least) (medium_after (answer k σ (latest m) bytes least) m)

-- an answer that says nothing of the medium or of unfinished calls
abbrev pub Direct : Report → Type 0
Direct r = (u : Bool) (m : Medium) → (unfinished_after r u ≡ u) × (medium_after r m ≡ m)

pick-direct : (t : Bool) (r s : Report) → Direct r → Direct s → Direct (pick t r s)
pick-direct true r s d e = d
pick-direct false r s d e = e

part-direct : (ws : List ℕ) (c : Option Entry) → Direct (part_or ws c)
part-direct ws none = λ u m. (refl, refl)
part-direct ws (some e) =
    pick-direct (eqb e.op 1) (part_of ws e) (R.Refused N.KeyAbsent)
    (pick-direct (pointed e) (R.Part (8 * (unit_word e.field + 1)) (get_or ws (unit_word e.field) 0) e.version) (R.Part (8 * (e.at + 2)) e.field e.version) (λ u m. (refl, refl)) (λ u m. (refl, refl)))
    (λ u m. (refl, refl))

pub look-direct : (ws : List ℕ) (es : List Entry) (k : ℕ) → Direct (look_up ws es k)
unfolding look_up
look-direct ws es k = part-direct ws (chosen k es)

gated-direct : (g : Option Refusal) (r : Report) → Direct r → Direct (gated g r)
gated-direct none r d = d
gated-direct (some n) r d = λ u m. (refl, refl)

pub look-reads : (k : ℕ) (σ : State) (ws : List ℕ) (bytes table : ℕ) → Direct (answer (LookUp k) σ ws bytes table)
look-reads k σ ws bytes table =
    gated-direct (read_gate σ bytes table) (look_up (read_words σ ws) (entries_in (state_power σ) (chunks_in (state_power σ) bytes) (read_words σ ws)) k)
    (look-direct (read_words σ ws) (entries_in (state_power σ) (chunks_in (state_power σ) bytes) (read_words σ ws)) k)

pub chosen-direct : (c : Option ℕ) → Direct (chosen_or c)
chosen-direct none = λ u m. (refl, refl)
chosen-direct (some c) = λ u m. (refl, refl)

module _ (p : ℕ) (laws : Laws p) (bytes least : ℕ) (u : Bool) (b : Book) (m : Medium) where
  abbrev n : ℕ
  n = chunks_in p bytes

  -- The header says the power, while a call is unfinished too: each of its cuts opens.
  going-power : (C D : ℕ → Held) (tray : List Item) (items : List Entry) (rest : List Action) → Going p n least C D tray items rest m → header_power (latest m) ≡ p
  going-power C D tray items [] h = laws.stand-power n least D tray items m h
  going-power C D tray items (a ∷ rest) h = ⊎_elim (λ x. x.1.power) (λ x. x.1.power) (h.0 (latest m) (can-latest m))

  pub holds-power : (σ : State) → Holds p bytes least u b σ m → header_power (latest m) ≡ p
  holds-power Closed h = absurd h
  holds-power (Rest z l t items) h = laws.stand-power n least b.register b.staged items m h.3
  holds-power (Busy z l t items task rest) h = going-power b.register (done_batch b.in-flight b.register) b.staged (items_then task items) rest h.3
  holds-power (Formatting o l t rest) h = absurd h

  -- What the gate turns down changes nothing; what it lets through is a call on a register with no call unfinished.
  gated-kept : (noted : Report → Book) (reply : State → Report) (become : State → State)
      → ((n : Refusal) (σ : State) → Holds p bytes least u b σ m → Holds p bytes least u (noted (R.Refused n)) σ m)
      → ((z l t : ℕ) (items : List Entry) → Holds p bytes least u b (Rest z l t items) m
      → Leaves p bytes least u noted (reply (Rest z l t items)) (Rest z l t items) (become (Rest z l t items)) m)
      → (σ : State) → Holds p bytes least u b σ m → Leaves p bytes least u noted (gated (gate σ bytes least) (reply σ)) σ (become σ) m
  gated-kept noted reply become turned passed Closed h = absurd h
  gated-kept noted reply become turned passed (Rest z l t items) h = go (both (eqb l bytes) (eqb t least))
    where
      go : (same : Bool) → Leaves p bytes least u noted (gated (pick same none (some N.ImageLength)) (reply (Rest z l t items))) (Rest z l t items) (become (Rest z l t items)) m
      go true = passed z l t items h
      go false = turned N.ImageLength (Rest z l t items) h
  gated-kept noted reply become turned passed (Busy z l t items task rest) h = go (both (eqb l bytes) (eqb t least))
    where
      go : (same : Bool)
          → Leaves p bytes least u noted (gated (pick same (some N.Unfinished) (some N.ImageLength)) (reply (Busy z l t items task rest))) (Busy z l t items task rest) (become (Busy z l t items task rest)) m
      go true = turned N.Unfinished (Busy z l t items task rest) h
      go false = turned N.ImageLength (Busy z l t items task rest) h
  gated-kept noted reply become turned passed (Formatting o l t rest) h = absurd h

  -- A call with a plan: refused, or begun and then going on as the law of its plan says.
  planned-kept : (noted : Report → Book) (plan : ℕ → List Entry → Plan)
      → ((n : Refusal) (σ : State) → Holds p bytes least u b σ m → Holds p bytes least u (noted (R.Refused n)) σ m)
      → ((items items' : List Entry) (task : Task) (acts : List Action) → b.in-flight ≡ none → StandsBy p bytes least b items m → plan p items ≡ Begin items' task acts
      → GoesBy p bytes least (noted (R.Begun (length acts))) (items_then task items') acts m × ReadsBy p bytes least (noted (R.Begun (length acts))) task acts m)
      → (σ : State) → Holds p bytes least u b σ m → Leaves p bytes least u noted (gated (gate σ bytes least) (planned (plan (state_power σ) (items_of σ)))) σ (begun (plan (state_power σ) (items_of σ)) σ) m
  planned-kept noted plan turned begins = gated-kept noted (λ σ. planned (plan (state_power σ) (items_of σ))) (λ σ. begun (plan (state_power σ) (items_of σ)) σ) turned (λ z l t items h. go z l t items h (plan z items) refl)
    where
      go : (z l t : ℕ) (items : List Entry) → Holds p bytes least u b (Rest z l t items) m → (q : Plan) → plan z items ≡ q → Leaves p bytes least u noted (planned q) (Rest z l t items) (begun q (Rest z l t items)) m
      go z l t items h (Refuse n) e = turned n (Rest z l t items) h
      go z l t items h (Begin items' task acts) e =
          let g = begins items items' task acts h.2 h.3 (ap (λ (y : ℕ). plan y items) (sym h.4) ∙ e) in (h.0, h.1, refl, g.0, h.4, g.1)

  -- A call that answers directly, reads alone, and is not noted.
  direct-kept : (reply : ℕ → Report) → ((z : ℕ) → Direct (reply z)) → (σ : State) → Holds p bytes least u b σ m → Leaves p bytes least u (λ r. b) (gated (gate σ bytes least) (reply (state_power σ))) σ σ m
  direct-kept reply d = gated-kept (λ r. b) (λ σ. reply (state_power σ)) (λ σ. σ) (λ n σ h. h) (λ z l t items h. rw ((d z u m).0, (d z u m).1, pick_same) h)

  pub put-kept : (x : Given) (k : ℕ) (v : List ℕ) → AreBytes v → (σ : State) → Holds p bytes least u b σ m → Keeps p bytes least u b m (Put x k v) σ
  unfolding next
  put-kept x k v small =
      planned-kept (λ r. note (Put x k v) r b) (λ z items. plan_put z (chunks_in z bytes) (latest m) least (entries_in z (chunks_in z bytes) (latest m)) items x k v) (λ r σ h. h) λ items items' task acts e s q.
      let g = laws.put-goes n least b.register b.staged items items' task acts m x k v small s q in
      (rw (e, g.0) g.1, (latest m, laws.put_reads n least b.register b.staged items items' task acts m x k v small s q))

  pub delete-kept : (x : Given) (k : ℕ) (σ : State) → Holds p bytes least u b σ m → Keeps p bytes least u b m (Delete x k) σ
  unfolding next
  delete-kept x k =
      planned-kept (λ r. note (Delete x k) r b) (λ z items. plan_delete least (entries_in z (chunks_in z bytes) (latest m)) items x k) (λ r σ h. h) λ items items' task acts e s q.
      let g = laws.delete-goes n least b.register b.staged items items' task acts m x k s q in
      (rw (e, g.0) g.1, (latest m, laws.delete-reads n least b.register b.staged items items' task acts m x k s q))

  pub commit-kept : (σ : State) → Holds p bytes least u b σ m → Keeps p bytes least u b m Commit σ
  unfolding next
  commit-kept =
      planned-kept (λ r. note Commit r b) (λ z items. plan_commit z (chunks_in z bytes) (latest m) items) (λ r σ h. h) λ items items' task acts e s q.
      let g = laws.commit-goes n least b.register b.staged items items' task acts m s q in
      (rw g.0.1 g.1, (latest m, laws.commit-reads n least b.register b.staged items items' task acts m s q))

  pub clean-kept : (c : ℕ) (σ : State) → Holds p bytes least u b σ m → Keeps p bytes least u b m (Clean c) σ
  unfolding next
  clean-kept c =
      planned-kept (λ r. note (Clean c) r b) (λ z items. plan_clean z (chunks_in z bytes) (latest m) (entries_in z (chunks_in z bytes) (latest m)) items c) (λ r σ h. h) λ items items' task acts e s q.
      let g = laws.clean-goes n least b.register b.staged items items' task acts m c s q in
      (rw (e, g.0.1.1, g.1.0, g.1.1.0) g.1.1.1, (latest m, laws.clean-reads n least b.register b.staged items items' task acts m c s q))

  pub abandon-kept : (σ : State) → Holds p bytes least u b σ m → Keeps p bytes least u b m Abandon σ
  unfolding next
  abandon-kept = gated-kept (λ r. note Abandon r b) (λ σ. pick (is_empty (items_of σ)) (R.Refused N.NothingStaged) R.Abandoned) emptied (λ r σ h. h) (λ z l t items h. go z l t items h (is_empty items))
    where
      go : (z l t : ℕ) (items : List Entry) → Holds p bytes least u b (Rest z l t items) m → (none : Bool)
          → Leaves p bytes least u (λ r. note Abandon r b) (pick none (R.Refused N.NothingStaged) R.Abandoned) (Rest z l t items) (Rest z l t []) m
      go z l t items h true = h
      go z l t items h false = (h.0, h.1, h.2, laws.abandon-stands n least b.register b.staged items m h.3, h.4)

  pub look-kept : (k : ℕ) (σ : State) → Holds p bytes least u b σ m → Keeps p bytes least u b m (LookUp k) σ
  unfolding next
  look-kept k σ h = let d = look-reads k σ (latest m) bytes least in rw ((d u m).0, (d u m).1, pick_same) h

  pub choose-kept : (σ : State) → Holds p bytes least u b σ m → Keeps p bytes least u b m Choose σ
  unfolding next
  choose-kept = direct-kept (λ z. chosen_or (chosen_chunk z (chunks_in z bytes) (latest m) (entries_in z (chunks_in z bytes) (latest m)))) (λ z. chosen-direct (chosen_chunk z (chunks_in z bytes) (latest m) (entries_in z (chunks_in z bytes) (latest m))))

  pub step_kept : (σ : State) → Holds p bytes least u b σ m → Keeps p bytes least u b m Step σ
  unfolding next
  step_kept Closed h = absurd h
  step_kept (Rest z l t items) h = h
  step_kept (Busy z l t items task []) h = go (both (eqb l bytes) (eqb t least))
    where
      go : (same : Bool) → Leaves p bytes least u (λ r. note Step r b) (pick same (R.End (count_of task)) (R.Refused N.ImageLength)) (Busy z l t items task []) (Rest z l t (items_then task items)) m
      go true = (h.0, h.1, refl, h.3, h.4)
      go false = h
  step_kept (Busy z l t items task (a ∷ rest)) h = go (both (eqb l bytes) (eqb t least)) a h
    where
      go : (same : Bool) (a : Action) → Holds p bytes least u b (Busy z l t items task (a ∷ rest)) m
          → Leaves p bytes least u (λ r. note Step r b) (pick same (as_report a) (R.Refused N.ImageLength)) (Busy z l t items task (a ∷ rest)) (Busy z l t items task rest) m
      go true (Store w v) h = (h.0, h.1, h.2, h.3.1, h.4, (h.5.0, reading-steps (Store w v) rest m h.5.1))
      go true (Flush n) h = (h.0, h.1, h.2, h.3.1, h.4, (h.5.0, reading-steps (Flush n) rest m h.5.1))
      go true Fence h = (h.0, h.1, h.2, h.3.1, h.4, (h.5.0, reading-steps Fence rest m h.5.1))
      go false a h = h
  step_kept (Formatting o l t rest) h = absurd h

  pub look-right : (k : ℕ) (image : List ℕ) → AreBytes image → words_of image ≡ latest m → u ≡ false → (σ : State) → Holds p bytes least u b σ m
      → shows (answer (LookUp k) σ (latest m) bytes least) image ≡ some (b.register k)
  look-right k image small agrees idle Closed h = absurd h
  look-right k image small agrees idle (Rest z l t items) h =
      rw (eq-eqb l bytes h.0, eq-eqb t least h.1, h.4) (laws.look-shows n least b.register b.staged items m image small agrees h.3 k)
  look-right k image small agrees idle (Busy z l t items task rest) h = let z : true ≡ false = sym h.2 ∙ idle in let f : ◌≡◌ {A = ℕ} 0 1 = cc in absurd (omega arith)
  look-right k image small agrees idle (Formatting o l t rest) h = absurd h
