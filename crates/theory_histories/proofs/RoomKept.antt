-- The room by the state that the record stands for, and that the answer and the next state of every call but a
-- formatting and an opening keep it: of a commit by the host's rule, of the others always. Φ: whether a free chunk is
-- known to stand whenever no call is unfinished; then it stands again when the call has ended.
-- Assumes nothing.
use mathlib.Core.Path.{◌≡◌, refl, sym, ◌∙◌, ap}
use mathlib.Core.Bool.{Bool, true, false}
use mathlib.Core.Option.{none, some}
use mathlib.Core.List.{List, [], ◌∷◌}
use mathlib.Core.Logic.{◌⊎◌, inl, inr}
use Prim.Native.Nat.{ℕ, ◌≤◌}
use lib.Dec.{eqb}
use Rattle.spec.specs.Basics.{pick, both, is_empty}
use Rattle.spec.specs.Words.{AreBytes}
use Rattle.spec.specs.Places.{chunks_in}
use Rattle.spec.specs.Medium.{Medium, Action, Store, Flush, Fence, latest, run}
use Rattle.spec.specs.Log.{Entry}
use Rattle.spec.specs.Contents.{entries_in}
use Rattle.spec.specs.Reports.{as_report, medium_after, is_refused}
use Rattle.spec.specs.Plans.{Task, Plan, Refuse, Begin, plan_put, plan_delete, plan_commit, plan_clean, planned, chosen_or, chosen_chunk}
use Rattle.spec.specs.Machine.{Call, Put, Delete, Commit, Abandon, LookUp, Choose, Clean, Step, State, Closed, Rest, Busy, Formatting, gate, items_of, state_power, begun, gated, count_of, items_then, emptied, answer, next}
use Rattle.spec.specs.Book.{Book}
use Rattle.spec.specs.Unstuck.{FreeStands}
use Rattle.spec.specs.Basics.{Given}
use Rattle.spec.specs.declared.Refusal.TheVariants as N
use Rattle.spec.specs.declared.Report.{Report}
use Rattle.spec.specs.declared.Report.TheVariants as R
use Rattle.theory_base.proofs.Lists.{pick_same}
use Rattle.theory_base.proofs.Through.{Through}
use Rattle.theory_crash.proofs.Room.{RoomyCuts, Room}
use Rattle.theory_plans.proofs.Room.{put-room, delete-room, commit-room, put-free, delete-free, commit-free}
use Rattle.theory_plans.proofs.RoomClean.{clean-room, clean_free}
use Rattle.theory_histories.proofs.Kept.{StandsBy, Holds, Direct, look-reads, chosen-direct}

module _ (p : ℕ) (lo : 12 ≤ p) (hi : p ≤ 16) (bytes : ℕ) (Φ : Type 0) where
  abbrev n : ℕ
  n = chunks_in p bytes

  -- THE ROOM by the state
  abbrev Going : List Action → Medium → Type 0
  Going rest m = Through (RoomyCuts p n) (Room p n) rest m × (Φ → FreeStands p n (latest (run rest m)))

  -- at rest: there is room, and under Φ a free chunk stands
  abbrev pub Resting : Medium → Type 0
  Resting m = Room p n m × (Φ → FreeStands p n (latest m))

  abbrev pub RoomIn : State → Medium → Type 0
  RoomIn Closed m = Unit {0}
  RoomIn (Rest z l t items) m = Resting m
  RoomIn (Busy z l t items task rest) m = Going rest m
  RoomIn (Formatting o l t rest) m = Unit {0}

  abbrev Leaves : Report → State → State → Medium → Type 0
  Leaves r σ τ m = RoomIn (pick (both (is_refused r) true) σ τ) (medium_after r m)

  module _ (least : ℕ) (u : Bool) (b : Book) (m : Medium) where
    gated-room : (reply : State → Report) (become : State → State)
        → ((z l t : ℕ) (items : List Entry) → Holds p bytes least u b (Rest z l t items) m → RoomIn (Rest z l t items) m → Leaves (reply (Rest z l t items)) (Rest z l t items) (become (Rest z l t items)) m)
        → (σ : State) → Holds p bytes least u b σ m → RoomIn σ m → Leaves (gated (gate σ bytes least) (reply σ)) σ (become σ) m
    gated-room reply become passed Closed h w = absurd h
    gated-room reply become passed (Rest z l t items) h w = go (both (eqb l bytes) (eqb t least))
      where
        go : (same : Bool) → Leaves (gated (pick same none (some N.ImageLength)) (reply (Rest z l t items))) (Rest z l t items) (become (Rest z l t items)) m
        go true = passed z l t items h w
        go false = w
    gated-room reply become passed (Busy z l t items task rest) h w = go (both (eqb l bytes) (eqb t least))
      where
        go : (same : Bool) → Leaves (gated (pick same (some N.Unfinished) (some N.ImageLength)) (reply (Busy z l t items task rest))) (Busy z l t items task rest) (become (Busy z l t items task rest)) m
        go true = w
        go false = w
    gated-room reply become passed (Formatting o l t rest) h w = absurd h

    planned-room : (plan : ℕ → List Entry → Plan)
        → ((items items' : List Entry) (task : Task) (acts : List Action) → StandsBy p bytes least b items m → Resting m → plan p items ≡ Begin items' task acts → Going acts m)
        → (σ : State) → Holds p bytes least u b σ m → RoomIn σ m → Leaves (gated (gate σ bytes least) (planned (plan (state_power σ) (items_of σ)))) σ (begun (plan (state_power σ) (items_of σ)) σ) m
    planned-room plan begins = gated-room (λ σ. planned (plan (state_power σ) (items_of σ))) (λ σ. begun (plan (state_power σ) (items_of σ)) σ) (λ z l t items h w. go z l t items h w (plan z items) refl)
      where
        go : (z l t : ℕ) (items : List Entry) → Holds p bytes least u b (Rest z l t items) m → RoomIn (Rest z l t items) m → (q : Plan) → plan z items ≡ q → Leaves (planned q) (Rest z l t items) (begun q (Rest z l t items)) m
        go z l t items h w (Refuse x) e = w
        go z l t items h w (Begin items' task acts) e = begins items items' task acts h.3 w (ap (λ (y : ℕ). plan y items) (sym h.4) ∙ e)

    direct-room : (reply : ℕ → Report) → ((z : ℕ) → Direct (reply z)) → (σ : State) → Holds p bytes least u b σ m → RoomIn σ m → Leaves (gated (gate σ bytes least) (reply (state_power σ))) σ σ m
    direct-room reply d = gated-room (λ σ. reply (state_power σ)) (λ σ. σ) (λ z l t items h w. rw ((d z u m).1, pick_same) w)

    -- every call but a formatting and an opening
    abbrev pub After : Call → State → Type 0
    After k σ = RoomIn (next k σ (latest m) bytes least) (medium_after (answer k σ (latest m) bytes least) m)

    pub put-after : (x : Given) (k : ℕ) (v : List ℕ) → AreBytes v → (σ : State) → Holds p bytes least u b σ m → RoomIn σ m → After (Put x k v) σ
    unfolding next
    put-after x k v small = planned-room (λ z items. plan_put z (chunks_in z bytes) (latest m) least (entries_in z (chunks_in z bytes) (latest m)) items x k v) λ items items' task acts s r q.
        (put-room p lo hi n least b.register b.staged items items' task acts m s r.0 x k v small q, λ f. put-free p lo hi n least b.register b.staged items items' task acts m s r.0 (r.1 f) x k v small q)

    pub delete-after : (x : Given) (k : ℕ) (σ : State) → Holds p bytes least u b σ m → RoomIn σ m → After (Delete x k) σ
    unfolding next
    delete-after x k = planned-room (λ z items. plan_delete least (entries_in z (chunks_in z bytes) (latest m)) items x k) λ items items' task acts s r q.
        (delete-room p lo hi n least b.register b.staged items items' task acts m s r.0 x k q, λ f. delete-free p lo hi n least b.register b.staged items items' task acts m s r.0 (r.1 f) x k q)

    -- by the host's rule
    pub commit-after : (σ : State) → Φ ⊎ (is_refused (answer Commit σ (latest m) bytes least) ≡ false → FreeStands p n (latest m)) → Holds p bytes least u b σ m → RoomIn σ m → After Commit σ
    unfolding next
    commit-after Closed o h w = absurd h
    commit-after (Rest z l t items) o h w = go (both (eqb l bytes) (eqb t least)) (plan_commit z (chunks_in z bytes) (latest m) items) (ap (λ (y : ℕ). plan_commit y (chunks_in y bytes) (latest m) items) (sym h.4)) o
      where
        go : (same : Bool) (q : Plan) → plan_commit p n (latest m) items ≡ q → Φ ⊎ (is_refused (gated (pick same none (some N.ImageLength)) (planned q)) ≡ false → FreeStands p n (latest m))
            → Leaves (gated (pick same none (some N.ImageLength)) (planned q)) (Rest z l t items) (begun q (Rest z l t items)) m
        go true (Refuse x) e f = w
        go true (Begin items' task acts) e f = begins (stands f)
          where
            stands : Φ ⊎ (false ≡ false → FreeStands p n (latest m)) → FreeStands p n (latest m)
            stands (inl x) = w.1 x
            stands (inr x) = x refl

            begins : FreeStands p n (latest m) → Going acts m
            begins x = (commit-room p lo hi n least b.register b.staged items items' task acts m h.3 w.0 x e, λ y. commit-free p lo hi n least b.register b.staged items items' task acts m h.3 w.0 x e)
        go false q e f = w
    commit-after (Busy z l t items task rest) o h w = go (both (eqb l bytes) (eqb t least))
      where
        go : (same : Bool)
            → Leaves (gated (pick same (some N.Unfinished) (some N.ImageLength)) (planned (plan_commit z (chunks_in z bytes) (latest m) items))) (Busy z l t items task rest) (begun (plan_commit z (chunks_in z bytes) (latest m) items) (Busy z l t items task rest)) m
        go true = w
        go false = w
    commit-after (Formatting o' l t rest) o h w = absurd h

    pub clean_after : (c : ℕ) (σ : State) → Holds p bytes least u b σ m → RoomIn σ m → After (Clean c) σ
    unfolding next
    clean_after c = planned-room (λ z items. plan_clean z (chunks_in z bytes) (latest m) (entries_in z (chunks_in z bytes) (latest m)) items c) λ items items' task acts s r q.
        (clean-room p lo hi n least b.register b.staged items items' task acts m s r.0 c q, λ f. clean_free p lo hi n least b.register b.staged items items' task acts m s c q)

    pub abandon-after : (σ : State) → Holds p bytes least u b σ m → RoomIn σ m → After Abandon σ
    unfolding next
    abandon-after = gated-room (λ σ. pick (is_empty (items_of σ)) (R.Refused N.NothingStaged) R.Abandoned) emptied (λ z l t items h w. go z l t items w (is_empty items))
      where
        go : (z l t : ℕ) (items : List Entry) → RoomIn (Rest z l t items) m → (none : Bool) → Leaves (pick none (R.Refused N.NothingStaged) R.Abandoned) (Rest z l t items) (Rest z l t []) m
        go z l t items w true = w
        go z l t items w false = w

    pub look-after : (k : ℕ) (σ : State) → Holds p bytes least u b σ m → RoomIn σ m → After (LookUp k) σ
    unfolding next
    look-after k σ h w = let d = look-reads k σ (latest m) bytes least in rw ((d u m).1, pick_same) w

    pub choose-after : (σ : State) → Holds p bytes least u b σ m → RoomIn σ m → After Choose σ
    unfolding next
    choose-after = direct-room (λ z. chosen_or (chosen_chunk z (chunks_in z bytes) (latest m) (entries_in z (chunks_in z bytes) (latest m))))
        (λ z. chosen-direct (chosen_chunk z (chunks_in z bytes) (latest m) (entries_in z (chunks_in z bytes) (latest m))))

    pub step_after : (σ : State) → Holds p bytes least u b σ m → RoomIn σ m → After Step σ
    unfolding next
    step_after Closed h w = absurd h
    step_after (Rest z l t items) h w = w
    step_after (Busy z l t items task []) h w = go (both (eqb l bytes) (eqb t least))
      where
        go : (same : Bool) → Leaves (pick same (R.End (count_of task)) (R.Refused N.ImageLength)) (Busy z l t items task []) (Rest z l t (items_then task items)) m
        go true = w
        go false = w
    step_after (Busy z l t items task (a ∷ rest)) h w = go (both (eqb l bytes) (eqb t least)) a w
      where
        go : (same : Bool) (a : Action) → Going (a ∷ rest) m → Leaves (pick same (as_report a) (R.Refused N.ImageLength)) (Busy z l t items task (a ∷ rest)) (Busy z l t items task rest) m
        go true (Store x v) w = (w.0.1, w.1)
        go true (Flush x) w = (w.0.1, w.1)
        go true Fence w = (w.0.1, w.1)
        go false a w = w
    step_after (Formatting o l t rest) h w = absurd h
