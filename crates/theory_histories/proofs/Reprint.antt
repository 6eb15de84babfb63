-- Reprints while a call is unfinished, from the laws of the calls.
-- Assumes nothing.
use Rattle.std.proofs.lemmas.Bool.Decides.{nat_tests}
use mathlib.Core.Path.{◌≡◌, refl, sym, ◌∙◌, ap, subst}
use mathlib.Core.Bool.{Bool, true, false}
use mathlib.Core.Option.{Option, none, some}
use mathlib.Core.List.{List, [], ◌∷◌, ◌++◌, map, map-append, append-nil}
use Prim.Native.Nat.{ℕ, ◌+◌, ◌*◌, ◌≤◌}
use native.Mathlib.Omega.{arith}
use lib.Dec.{eqb}
use lib.ListN.{length, length-append, length-map}
use lib.Seq.{slice}
use borrow.Author.Tests.{eq-eqb}
use Rattle.spec.specs.Basics.{both}
use Rattle.spec.specs.Words.{words_of, AreBytes}
use Rattle.spec.specs.Places.{is_power, base, chunks_in}
use Rattle.spec.specs.Header.{header_power}
use Rattle.spec.specs.Medium.{Medium, Action, Store, Flush, Fence, apply, latest, cut, settled_at}
use Rattle.spec.specs.Log.{Entry}
use Rattle.spec.specs.Contents.{Held, entries_in, contents}
use Rattle.spec.specs.Reports.{as_report, medium_after}
use Rattle.spec.specs.Plans.{Task, Staging, olds_of, put_back, read_by, look_up, Plan, Refuse, Begin, planned, plan_put, plan_delete, plan_commit, plan_clean}
use Rattle.spec.specs.Machine.{Call, Format, Open, Put, Delete, Commit, Abandon, LookUp, Choose, Clean, Step, State, Closed, Rest, Busy, Formatting, begun, items_then, step_answer, answer, change, next}
use Rattle.spec.specs.Book.{Book, done_batch, new_book, nothing}
use Rattle.spec.specs.Contract.{Called, Ready, part_bytes}
use Rattle.spec.specs.History.{Event, Lent, World, SameLent, Stepped, shows, meant_by, meant, world}
use Rattle.spec.specs.Reprint.{MayRead, Fences, Early, Reprints, Reprinted, OneOfTheCuts, Leads, AlwaysACut}
use Rattle.spec.specs.declared.Report.{Report}
use Rattle.spec.specs.declared.Report.TheVariants as R
use Rattle.theory_base.proofs.Places.{size-allowed}
use Rattle.theory_base.proofs.Words as W
use Rattle.theory_base.proofs.Through.{Each}
use Rattle.theory_crash.proofs.Opening.{ok-contents}
use Rattle.theory_crash.proofs.Rest.{can-latest}
use Rattle.theory_plans.specs.Standing.{Standing, Reading}
use Rattle.theory_plans.specs.Laws.{Laws}
use Rattle.theory_histories.proofs.Kept.{Holds, reading-steps}
use Rattle.theory_histories.proofs.Events as E
use Rattle.theory_histories.proofs.Invariant.{HeldAt, Inv, image-follows}
use Rattle.theory_histories.proofs.Starts as Start
use Rattle.theory_histories.proofs.Ends.{busy-goes, next-moves}
use Rattle.theory_histories.proofs.Fences.{EndsFenced, commit-fenced, clean-fenced, NoFence, put-unfenced, delete-unfenced}
use Rattle.theory_histories.proofs.Means as M
use Rattle.theory_histories.proofs.Means.{stand-means}
use Rattle.theory_histories.proofs.Theorem as T

-- ## One of the registers that a cut may leave

left_is : (p bytes : ℕ) (xs : List ℕ) (k : ℕ) → header_power xs ≡ p → meant_by bytes xs k ≡ contents p (chunks_in p bytes) xs k
left_is p bytes xs k e = ap (λ (q : ℕ). contents q (chunks_in q bytes) xs k) e

module _ (p : ℕ) (power : is_power p ≡ true) (laws : Laws p) (bytes least : ℕ) (u : Bool) (b : Book) (m : Medium) (image : List ℕ) (small : AreBytes image) (agrees : words_of image ≡ latest m) where
  abbrev n : ℕ
  n = chunks_in p bytes

  abbrev Cut : State → Type 0
  Cut σ = (chooses : ℕ → ℕ) × ((k : ℕ) → shows (answer (LookUp k) σ (latest m) bytes least) image ≡ some (meant_by bytes (cut chooses m) k))

  -- with the words that the processor reads
  newest : (σ : State) (C : ℕ → Held) → ((k : ℕ) → shows (answer (LookUp k) σ (latest m) bytes least) image ≡ some (C k)) → header_power (latest m) ≡ p → ((k : ℕ) → contents p n (latest m) k ≡ C k) → Cut σ
  newest σ C s hp c =
      let q = W.can-is-cut m (latest m) (can-latest m) in (q.0, λ k. s k ∙ ap some (sym (left_is p bytes (latest m) k hp ∙ c k) ∙ ap (λ (xs : List ℕ). meant_by bytes xs k) (sym q.1)))

  pub look-cut : (σ : State) → Holds p bytes least u b σ m → Cut σ
  look-cut Closed h = absurd h
  look-cut (Rest z l t items) h =
      newest (Rest z l t items) b.register (λ k. rw (eq-eqb l bytes h.0, eq-eqb t least h.1, h.4) (laws.look-shows n least b.register b.staged items m image small agrees h.3 k))
      (laws.stand-power n least b.register b.staged items m h.3) (stand-means p n least b.register b.staged items m h.3)
  look-cut (Busy z l t items task []) h =
      let D : ℕ → Held = done_batch b.in-flight b.register in
      newest (Busy z l t items task []) D (λ k. rw (eq-eqb l bytes h.0, eq-eqb t least h.1, h.4) (laws.look-shows n least D b.staged (items_then task items) m image small agrees h.3 k))
      (laws.stand-power n least D b.staged (items_then task items) m h.3) (stand-means p n least D b.staged (items_then task items) m h.3)
  look-cut (Busy z l t items task (a ∷ rest)) h =
      let r = h.5.1 in
      let left = r.reads.0.1 in
      let q = W.can-is-cut m left.0 left.1 in (
        q.0,
        λ k.
            rw (eq-eqb l bytes h.0, eq-eqb t least h.1, h.4) (laws.reading-shows n least b.register h.5.0 (olds_of task) (a ∷ rest) m image small agrees r k)
            ∙ ap some (sym (left_is p bytes left.0 k left.2.1.power ∙ ok-contents p n left.0 left.2.0 left.2.1 k ∙ left.2.3 k) ∙ ap (λ (xs : List ℕ). meant_by bytes xs k) (sym q.1)),
      )
  look-cut (Formatting o l t rest) h = absurd h

module _ (p : ℕ) (power : is_power p ≡ true) (laws : Laws p) {S : Type 0} (Proper : S → Type 0) (state_of : S → State) (Fits : S → List ℕ → List ℕ → Type 0) where
  one-of-the-cuts : (bytes : ℕ) (w : World S) (b : Book) → Inv p Proper state_of Fits bytes w b → (lent : Option (Lent S)) → w.lent ≡ lent → OneOfTheCuts Proper state_of Fits lent w
  one-of-the-cuts bytes w b i none e = tt
  one-of-the-cuts bytes w b i (some l) e = λ small.
      let h : HeldAt p Proper state_of Fits bytes (some l) w b = rw e at i.held in
      let q = look-cut p power laws bytes w.least w.unfinished b w.medium w.image small i.agrees (state_of l.session) h.2 in (
        q.0,
        λ k s' table' r c.
            let same : SameLent w.lent l.session l.table = rw e (refl, refl) in
            let a = E.answered p power laws Proper state_of Fits bytes (LookUp k) w b l.session s' w.image l.table table' r i same c h.0 in
            rw (a, i.sized) (q.1 k),
      )

  leads : (bytes : ℕ) → bytes ≡ 8 * base p (chunks_in p bytes) → (events : List Event) (w : World S) (b : Book) → Inv p Proper state_of Fits bytes w b → Leads Proper state_of Fits events w b
  leads bytes whole [] w b i = one-of-the-cuts bytes w b i w.lent refl
  leads bytes whole (e ∷ events) w b i = T.claim p power laws Proper state_of Fits bytes whole (Leads Proper state_of Fits events) (leads bytes whole events) e w b i

-- of the laws at every power that there is: a formatting is told one, and an accepted header says one
module _ (every : (q : ℕ) → is_power q ≡ true → Laws q) {S : Type 0} (Proper : S → Type 0) (state_of : S → State) (Fits : S → List ℕ → List ℕ → Type 0) where
  pub always-a-cut : AlwaysACut Proper state_of Fits
  always-a-cut events = (
    λ m m' s s₀ s' image image' table table₀ table' p station centre a n rs agrees proper c steps small.
        let q = size-allowed p (length image) (Start.format-begins Proper state_of Fits m s s₀ image table table₀ p station centre a agrees c).0 in
        let i = Start.format-start p q.0 (every p q.0) Proper state_of Fits m m' s s₀ s' image image' table table₀ table' station centre a n rs agrees c steps in
        leads p q.0 (every p q.0) Proper state_of Fits (length image) i.0 events (world Proper state_of Fits m' image' none 0) (new_book nothing) i.1,
    λ s s' image table table' small proper c.
        let p = header_power (words_of image) in
        let q = T.opened-power Proper state_of Fits s s' image table table' proper c in
        let i = Start.opening-start p q (every p q) Proper state_of Fits s s' image table table' refl proper c in
        leads p q (every p q) Proper state_of Fits (length image) i.0 events (world Proper state_of Fits (settled_at (words_of image)) image (some (record { session = s'; table = table' })) (length table')) (new_book (meant image)) i.1,
  )

-- ## The answer of before, and that of after

-- what is shown is the part handed out
shown-part : (r : Report) (image other : List ℕ) → shows r image ≡ shows r other → part_bytes r image ≡ part_bytes r other
shown-part (R.Refused n) image other e = refl
shown-part (R.Begun a) image other e = refl
shown-part (R.Store w v) image other e = refl
shown-part (R.Flush l) image other e = refl
shown-part R.Fence image other e = refl
shown-part (R.End n) image other e = refl
shown-part R.Idle image other e = refl
shown-part R.Opened image other e = refl
shown-part R.Abandoned image other e = refl
shown-part (R.Chosen c) image other e = refl
shown-part (R.Part a n v) image other e = let q : slice a (a + n) image ≡ slice a (a + n) other = cc in q

-- a plan that says begun
plan-begins : (q : Plan) (a : ℕ) → R.Begun a ≡ planned q → (items : List Entry) × ((task : Task) × ((acts : List Action) × ((q ≡ Begin items task acts) × (length acts ≡ a))))
plan-begins (Refuse x) a h = absurd (let z : ◌≡◌ {A = ℕ} 0 1 = cc in omega arith)
plan-begins (Begin items task acts) a h = (items, (task, (acts, (refl, let q : a ≡ length acts = cc in sym q))))

-- what an accepted begin leaves
begun-changes : (k : Call) (σ : State) (ws : List ℕ) (bytes table a : ℕ) → answer k σ ws bytes table ≡ R.Begun a → next k σ ws bytes table ≡ change k σ ws bytes table
unfolding next
begun-changes k σ ws bytes table a h = rw h

-- what a call's task and actions are, so far as it matters when look-up turns to the new register
abbrev Turns : Call → Task → List Action → Type 0
Turns (Format q x y) task acts = Unit {0}
Turns Open task acts = Unit {0}
Turns (Put x k v) task acts = (task ≡ Staging) × Each NoFence acts
Turns (Delete x k) task acts = (task ≡ Staging) × Each NoFence acts
Turns Commit task acts = EndsFenced acts
Turns Abandon task acts = Unit {0}
Turns (LookUp k) task acts = Unit {0}
Turns Choose task acts = Unit {0}
Turns (Clean c) task acts = EndsFenced acts
Turns Step task acts = Unit {0}

-- with n of its a actions reported, before the last fence, look-up reads the words with the directory words put back
early-words : (k : Call) (task : Task) (acts front rest : List Action) (vs : List ℕ) (n a : ℕ) → MayRead k → Turns k task acts → acts ≡ front ++ rest → n ≡ length front → length acts ≡ a → Early k n a
    → read_by task rest vs ≡ put_back (olds_of task) vs
early-words k task acts front (x ∷ rest) vs n a may t split en ea e = refl
early-words (Format q x y) task acts front [] vs n a may t split en ea e = absurd may
early-words Open task acts front [] vs n a may t split en ea e = absurd may
early-words (Put x k v) task acts front [] vs n a may t split en ea e = rw t.0
early-words (Delete x k) task acts front [] vs n a may t split en ea e = rw t.0
early-words Commit task acts front [] vs n a may t split en ea e = absurd (let l : length acts ≡ length front = ap length (split ∙ append-nil front) in omega arith)
early-words Abandon task acts front [] vs n a may t split en ea e = absurd may
early-words (LookUp k) task acts front [] vs n a may t split en ea e = absurd may
early-words Choose task acts front [] vs n a may t split en ea e = absurd may
early-words (Clean c) task acts front [] vs n a may t split en ea e = absurd (let l : length acts ≡ length front = ap length (split ∙ append-nil front) in omega arith)
early-words Step task acts front [] vs n a may t split en ea e = absurd may

-- and the last of all reports is then the fence's
last-fence : (k : Call) (task : Task) (acts : List Action) → Fences k → Turns k task acts → (xs : List Report) × (map as_report acts ≡ xs ++ (R.Fence ∷ []))
last-fence (Format q x y) task acts f t = absurd f
last-fence Open task acts f t = absurd f
last-fence (Put x k v) task acts f t = absurd f
last-fence (Delete x k) task acts f t = absurd f
last-fence Commit task acts f (xs, e) = (map as_report xs, ap (map as_report) e ∙ map-append as_report xs (Fence ∷ []))
last-fence Abandon task acts f t = absurd f
last-fence (LookUp k) task acts f t = absurd f
last-fence Choose task acts f t = absurd f
last-fence (Clean c) task acts f (xs, e) = (map as_report xs, ap (map as_report) e ∙ map-append as_report xs (Fence ∷ []))
last-fence Step task acts f t = absurd f

-- in a staging no report is a fence's
action-report : (a : Action) → NoFence a → as_report a ≡ R.Fence → ⊥
action-report (Store w v) u e = let z : ◌≡◌ {A = ℕ} 0 1 = cc in omega arith
action-report (Flush l) u e = let z : ◌≡◌ {A = ℕ} 0 1 = cc in omega arith
action-report Fence u e = u

no-report : (front rest : List Action) → Each NoFence (front ++ rest) → (xs ys : List Report) → map as_report front ≡ xs ++ (R.Fence ∷ ys) → ⊥
no-report [] rest u [] ys e = let z : ◌≡◌ {A = ℕ} 0 1 = cc in omega arith
no-report [] rest u (x ∷ xs) ys e = let z : ◌≡◌ {A = ℕ} 0 1 = cc in omega arith
no-report (a ∷ front) rest u [] ys e = action-report a u.0 cc
no-report (a ∷ front) rest u (x ∷ xs) ys e = no-report front rest u.1 xs ys cc

unfenced-acts : (k : Call) (task : Task) (acts : List Action) → MayRead k → (Fences k → ⊥) → Turns k task acts → Each NoFence acts
unfenced-acts (Format q x y) task acts may f t = absurd may
unfenced-acts Open task acts may f t = absurd may
unfenced-acts (Put x k v) task acts may f t = t.1
unfenced-acts (Delete x k) task acts may f t = t.1
unfenced-acts Commit task acts may f t = absurd (f tt)
unfenced-acts Abandon task acts may f t = absurd may
unfenced-acts (LookUp k) task acts may f t = absurd may
unfenced-acts Choose task acts may f t = absurd may
unfenced-acts (Clean c) task acts may f t = absurd (f tt)
unfenced-acts Step task acts may f t = absurd may

fences-read : (k : Call) → Fences k → MayRead k
fences-read (Format q x y) f = absurd f
fences-read Open f = absurd f
fences-read (Put x k v) f = absurd f
fences-read (Delete x k) f = absurd f
fences-read Commit f = tt
fences-read Abandon f = absurd f
fences-read (LookUp k) f = absurd f
fences-read Choose f = absurd f
fences-read (Clean c) f = tt
fences-read Step f = absurd f

module _ (p : ℕ) (power : is_power p ≡ true) (laws : Laws p) {S : Type 0} (Proper : S → Type 0) (state_of : S → State) (Fits : S → List ℕ → List ℕ → Type 0) (l t : ℕ) (C : ℕ → Held) (ws : List ℕ) (task : Task) (items : List Entry) where
  abbrev nl : ℕ
  nl = chunks_in p l

  -- a call unfinished, with these actions still to come, begun on the words ws with contents C
  pub record At (s : S) (image table : List ℕ) (acts : List Action) (m : Medium) : Type 0 where
    pub state : state_of s ≡ Busy p l t items task acts
    pub fits : Fits s (words_of image) table
    pub agrees : words_of image ≡ latest m
    pub long : length image ≡ l
    pub lent : length table ≡ t
    pub reading : Reading p nl t C ws (olds_of task) acts m

  medium-is : (a : Action) (m : Medium) → medium_after (as_report a) m ≡ apply a m
  medium-is (Store w v) m = refl
  medium-is (Flush x) m = refl
  medium-is Fence m = refl

  -- a step: its report, and what stands then
  at-steps : (a : Action) (acts : List Action) (s s₁ : S) (image image₁ table table₁ : List ℕ) (m : Medium) (r : Report) → At s image table (a ∷ acts) m
      → Called Proper state_of Fits Step s s₁ image image₁ table table₁ r → (r ≡ as_report a) × At s₁ image₁ table₁ acts (medium_after r m)
  at-steps a acts s s₁ image image₁ table table₁ m r h c =
      let told : step_answer (Busy p l t items task (a ∷ acts)) (length image) (length table) ≡ as_report a = (busy-goes p l t items task).reports (a ∷ acts) (length image) (length table) h.long h.lent in
      let said : r ≡ as_report a = c.anyway.0 ∙ ap (λ (σ : State). step_answer σ (length image) (length table)) h.state ∙ told in
      let f = image-follows r m image image₁ c.image h.agrees in
      let md : medium_after r m ≡ apply a m = ap (λ (x : Report). medium_after x m) said ∙ medium-is a m in (
        said,
        record {
          state = c.anyway.1 ∙ ap (λ (σ : State). next Step σ (words_of image) (length image) (length table)) h.state ∙ next-moves (Busy p l t items task (a ∷ acts)) (words_of image) (length image) (length table) a told;
          fits = (c.exact h.fits).fits;
          agrees = f.0;
          long = f.1 ∙ h.long;
          lent = c.sized ∙ h.lent;
          reading = rw md (reading-steps a acts m h.reading);
        },
      )

  -- SO MANY STEPS: the actions that they report, and those still to come
  pub record Walked (rs : List Report) (acts : List Action) (s' : S) (image' table' : List ℕ) (m' : Medium) : Type 0 where
    pub front : List Action
    pub rest : List Action
    pub split : acts ≡ front ++ rest
    pub reported : rs ≡ map as_report front
    pub there : At s' image' table' rest m'

  pub walk : (rs : List Report) (acts : List Action) (s s' : S) (image image' table table' : List ℕ) (m m' : Medium) → At s image table acts m
      → Stepped Proper state_of Fits rs m s image table m' s' image' table' → length rs ≤ length acts → Walked rs acts s' image' table' m'
  walk [] acts s s' image image' table table' m m' h (em, (es, (ei, et))) le = record { front = []; rest = acts; split = refl; reported = refl; there = rw (em, es, ei, et) h }
  walk (r ∷ rs) [] s s' image image' table table' m m' h st le = absurd (omega arith)
  walk (r ∷ rs) (a ∷ acts) s s' image image' table table' m m' h (s₁, (image₁, (table₁, (c, more)))) le =
      let one = at-steps a acts s s₁ image image₁ table table₁ m r h c in
      let q = walk rs acts s₁ s' image₁ image' table₁ table' (medium_after r m) m' one.1 more (omega arith) in record {
        front = a ∷ q.front;
        rest = q.rest;
        split = ap (λ (x : List Action). a ∷ x) q.split;
        reported = ap (λ (x : Report). x ∷ rs) one.0 ∙ ap (λ (x : List Report). as_report a ∷ x) q.reported;
        there = q.there;
      }

  -- what look-up answers there
  at-looks : (acts : List Action) (s s' : S) (image table table' : List ℕ) (m : Medium) (key : ℕ) (r : Report) → At s image table acts m
      → Called Proper state_of Fits (LookUp key) s s' image image table table' r → r ≡ look_up (read_by task acts (latest m)) (entries_in p nl (read_by task acts (latest m))) key
  at-looks acts s s' image table table' m key r h c = grind (arith, nat_tests)

  -- with the directory words put back
  pub at_before : (acts : List Action) (s s' : S) (image table table' : List ℕ) (m : Medium) (key : ℕ) (r : Report) → AreBytes image → At s image table acts m → read_by task acts (latest m) ≡ put_back (olds_of task) (latest m)
      → Called Proper state_of Fits (LookUp key) s s' image image table table' r → (r ≡ look_up ws (entries_in p nl ws) key) × (shows r image ≡ some (C key))
  at_before acts s s' image table table' m key r small h back c =
      let e : r ≡ look_up (put_back (olds_of task) (latest m)) (entries_in p nl (put_back (olds_of task) (latest m))) key =
      at-looks acts s s' image table table' m key r h c ∙ ap (λ (vs : List ℕ). look_up vs (entries_in p nl vs) key) back in
      (e ∙ laws.reading-same nl t C ws (olds_of task) acts m h.reading key, rw e (laws.reading-shows nl t C ws (olds_of task) acts m image small h.agrees h.reading key))

  -- the step that reports the end
  ended : (vs : List ℕ) (x y : ℕ) → x ≡ l → y ≡ t → next Step (Busy p l t items task []) vs x y ≡ Rest p l t (items_then task items)
  unfolding next
  ended vs x y ex ey = rw (ex, ey, eq-eqb l l refl, eq-eqb t t refl)

  pub at-end : (s s₂ : S) (image image₂ table table₂ : List ℕ) (m : Medium) (k : ℕ) → At s image table [] m → Called Proper state_of Fits Step s s₂ image image₂ table table₂ (R.End k)
      → (key : ℕ) (s' s'' : S) (table' table'' : List ℕ) (r₁ r₂ : Report) → Called Proper state_of Fits (LookUp key) s s' image image table table' r₁
      → Called Proper state_of Fits (LookUp key) s₂ s'' image₂ image₂ table₂ table'' r₂ → r₁ ≡ r₂
  at-end s s₂ image image₂ table table₂ m k h c key s' s'' table' table'' r₁ r₂ d₁ d₂ =
      let now : state_of s₂ ≡ Rest p l t (items_then task items) = c.anyway.1 ∙ ap (λ (σ : State). next Step σ (words_of image) (length image) (length table)) h.state ∙ ended (words_of image) (length image) (length table) h.long h.lent in
      let e₂ : r₂ ≡ look_up (latest m) (entries_in p nl (latest m)) key =
      (d₂.exact (c.exact h.fits).fits).answered ∙ ap (λ (σ : State). answer (LookUp key) σ (words_of image₂) (length image₂) (length table₂)) now
      ∙ rw (c.image, c.sized, h.agrees, h.long, h.lent, eq-eqb l l refl, eq-eqb t t refl) in
      at-looks [] s s' image table table' m key r₁ h d₁ ∙ sym e₂

-- ## From memory as our calls left it

module _ (p : ℕ) (power : is_power p ≡ true) (laws : Laws p) {S : Type 0} (Proper : S → Type 0) (state_of : S → State) (Fits : S → List ℕ → List ℕ → Type 0) (bytes : ℕ)
    (whole : bytes ≡ 8 * base p (chunks_in p bytes)) (w : World S) (b : Book) (s : S) (table : List ℕ) (i : Inv p Proper state_of Fits bytes w b) (same : SameLent w.lent s table) (small : AreBytes w.image) where
  abbrev nb : ℕ
  nb = chunks_in p bytes

  abbrev m : Medium
  m = w.medium

  abbrev C : ℕ → Held
  C = b.register

  held : HeldAt p Proper state_of Fits bytes (some (record { session = s; table = table })) w b
  held = E.same-lent p power laws Proper state_of Fits bytes w b w.lent s table same i.held

  -- the state is at rest, with the lengths of the opening
  pub record Resting : Type 0 where
    pub items : List Entry
    pub state : state_of s ≡ Rest p bytes w.least items
    pub stands : Standing p nb w.least C b.staged items m

  rests : w.unfinished ≡ false → Resting
  rests idle = grind (arith, nat_tests)

  -- WHAT A CALL BEGAN there, with `a` actions
  pub record Unfinished (k : Call) (s₀ : S) (table₀ : List ℕ) (a : ℕ) : Type 0 where
    pub task : Task
    pub items : List Entry
    pub acts : List Action
    pub long : length acts ≡ a
    pub turns : Turns k task acts
    pub there : At p power laws Proper state_of Fits bytes w.least C (latest m) task items s₀ w.image table₀ acts m

  module _ (k : Call) (s₀ : S) (table₀ : List ℕ) (a : ℕ) (c : Called Proper state_of Fits k s s₀ w.image w.image table table₀ (R.Begun a)) (rest : Resting) where
    -- a call with this plan, whose accepted begin has such a task and such actions
    planned-begins : (q : Plan) → Ready Proper state_of Fits k s (words_of w.image) table → Fits s₀ (words_of w.image) table₀
        → answer k (Rest p bytes w.least rest.items) (latest m) bytes w.least ≡ planned q
        → change k (Rest p bytes w.least rest.items) (latest m) bytes w.least ≡ begun q (Rest p bytes w.least rest.items)
        → ((items' : List Entry) (task : Task) (acts : List Action) → q ≡ Begin items' task acts → Turns k task acts × Reading p nb w.least C (latest m) (olds_of task) acts m) → Unfinished k s₀ table₀ a
    planned-begins q ready fits answers changes begins =
        let said : R.Begun a ≡ answer k (state_of s) (latest m) bytes w.least = E.answered p power laws Proper state_of Fits bytes k w b s s₀ w.image table table₀ (R.Begun a) i same c ready in
        let found = plan-begins q a (said ∙ ap (λ (σ : State). answer k σ (latest m) bytes w.least) rest.state ∙ answers) in
        let (items', (task, (acts, (e, long)))) = found in
        let now : state_of s₀ ≡ Busy p bytes w.least items' task acts =
        E.became p power laws Proper state_of Fits bytes k w b s s₀ w.image table table₀ (R.Begun a) i same c ready
        ∙ begun-changes k (state_of s) (latest m) bytes w.least a (sym said)
        ∙ ap (λ (σ : State). change k σ (latest m) bytes w.least) rest.state ∙ changes ∙ ap (λ (x : Plan). begun x (Rest p bytes w.least rest.items)) e in
        let g = begins items' task acts e in record {
          task = task;
          items = items';
          acts = acts;
          long = long;
          turns = g.0;
          there = record { state = now; fits = fits; agrees = i.agrees; long = i.sized; lent = c.sized ∙ held.1; reading = g.1 };
        }

  -- the gate is open
  passed : both (eqb bytes bytes) (eqb w.least w.least) ≡ true
  passed = rw (eq-eqb bytes bytes refl, eq-eqb w.least w.least refl)

  begins : (k : Call) → MayRead k → (rest : Resting) (s₀ : S) (table₀ : List ℕ) (a : ℕ) (c : Called Proper state_of Fits k s s₀ w.image w.image table table₀ (R.Begun a)) → Unfinished k s₀ table₀ a
  begins (Format q x y) may rest s₀ table₀ a c = absurd may
  begins Open may rest s₀ table₀ a c = absurd may
  begins (Put x key v) may rest s₀ table₀ a c =
      planned-begins (Put x key v) s₀ table₀ a c rest (plan_put p nb (latest m) w.least (entries_in p nb (latest m)) rest.items x key v) held.0 (c.exact held.0).fits (rw passed) refl
      (λ items' task acts e. (
        (
          (laws.put-goes nb w.least C b.staged rest.items items' task acts m x key v may rest.stands e).0,
          put-unfenced p nb (latest m) w.least (entries_in p nb (latest m)) rest.items x key v items' task acts e,
        ),
        laws.put_reads nb w.least C b.staged rest.items items' task acts m x key v may rest.stands e,
      ))
  begins (Delete x key) may rest s₀ table₀ a c =
      planned-begins (Delete x key) s₀ table₀ a c rest (plan_delete w.least (entries_in p nb (latest m)) rest.items x key) held.0 (c.exact held.0).fits (rw passed) refl
      (λ items' task acts e. (
        (
          (laws.delete-goes nb w.least C b.staged rest.items items' task acts m x key rest.stands e).0,
          delete-unfenced w.least (entries_in p nb (latest m)) rest.items x key items' task acts e,
        ),
        laws.delete-reads nb w.least C b.staged rest.items items' task acts m x key rest.stands e,
      ))
  begins Commit may rest s₀ table₀ a c =
      planned-begins Commit s₀ table₀ a c rest (plan_commit p nb (latest m) rest.items) held.0 (c.exact held.0).fits (rw passed) refl
      (λ items' task acts e. (commit-fenced p nb (latest m) rest.items items' task acts e, laws.commit-reads nb w.least C b.staged rest.items items' task acts m rest.stands e))
  begins Abandon may rest s₀ table₀ a c = absurd may
  begins (LookUp key) may rest s₀ table₀ a c = absurd may
  begins Choose may rest s₀ table₀ a c = absurd may
  begins (Clean x) may rest s₀ table₀ a c =
      planned-begins (Clean x) s₀ table₀ a c rest (plan_clean p nb (latest m) (entries_in p nb (latest m)) rest.items x) held.0 (c.exact held.0).fits (rw passed) refl
      (λ items' task acts e. (
        clean-fenced p nb (latest m) (entries_in p nb (latest m)) rest.items items' task acts x e,
        laws.clean-reads nb w.least C b.staged rest.items items' task acts m x rest.stands e,
      ))
  begins Step may rest s₀ table₀ a c = absurd may

  -- look-up at rest
  at_rest : (rest : Resting) (key : ℕ) (r : Report) → Called Proper state_of Fits (LookUp key) s s w.image w.image table table r
      → (r ≡ look_up (latest m) (entries_in p nb (latest m)) key) × (shows r w.image ≡ some (C key))
  at_rest rest key r c =
      let e : r ≡ look_up (latest m) (entries_in p nb (latest m)) key =
      E.answered p power laws Proper state_of Fits bytes (LookUp key) w b s s w.image table table r i same c held.0
      ∙ ap (λ (σ : State). answer (LookUp key) σ (latest m) bytes w.least) rest.state ∙ rw (eq-eqb bytes bytes refl, eq-eqb w.least w.least refl) in
      (e, rw e (laws.look-shows nb w.least C b.staged rest.items m w.image small i.agrees rest.stands key))

  -- so many of its steps
  goes_on : (k : Call) (s₀ s' : S) (image' table₀ table' : List ℕ) (a : ℕ) (rs : List Report) (m₁ m₂ : Medium) (u : Unfinished k s₀ table₀ a)
      → Stepped Proper state_of Fits rs m₁ s₀ w.image table₀ m₂ s' image' table' → length rs ≤ a
      → (m' : Medium) × Walked p power laws Proper state_of Fits bytes w.least C (latest m) u.task u.items rs u.acts s' image' table' m'
  goes_on k s₀ s' image' table₀ table' a rs m₁ m₂ u steps few =
      let (m', again) = M.restep Proper state_of Fits rs m₁ m₂ m s₀ s' w.image image' table₀ table' steps in
      let long = u.long in
      (m', walk p power laws Proper state_of Fits bytes w.least C (latest m) u.task u.items rs u.acts s₀ s' w.image image' table₀ table' m m' u.there again (omega arith))

  -- as many as it has actions
  all_done : (rs : List Report) (front rest acts : List Action) → acts ≡ front ++ rest → rs ≡ map as_report front → length rs ≡ length acts → (rest ≡ []) × (rs ≡ map as_report acts)
  all_done rs front [] acts e r l = (refl, r ∙ ap (map as_report) (sym (e ∙ append-nil front)))
  all_done rs front (x ∷ rest) acts e r l =
      absurd (let f = length-map front as_report in let g : length rs ≡ length (map as_report front) = ap length r in let h : length acts ≡ length (front ++ (x ∷ rest)) = ap length e in let j = length-append front (x ∷ rest) in omega arith)

  early-few : (k : Call) (n a : ℕ) → Early k n a → n ≤ a
  early-few (Format q x y) n a e = omega arith
  early-few Open n a e = omega arith
  early-few (Put x key v) n a e = e
  early-few (Delete x key) n a e = e
  early-few Commit n a e = omega arith
  early-few Abandon n a e = omega arith
  early-few (LookUp key) n a e = omega arith
  early-few Choose n a e = omega arith
  early-few (Clean c) n a e = omega arith
  early-few Step n a e = omega arith

  pub reprints : w.unfinished ≡ false → Reprints Proper state_of Fits s w.image table
  reprints idle = record {
    before = λ k key s₀ s' image' table₀ table' a rs m₁ m₂ r r' may small' looked c steps early looks.
        let u = begins k may (rests idle) s₀ table₀ a c in
        let (m', q) = goes_on k s₀ s' image' table₀ table' a rs m₁ m₂ u steps (early-few k (length rs) a early) in
        let n : length rs ≡ length q.front = ap length q.reported ∙ length-map q.front as_report in
        let back = early-words k u.task u.acts q.front q.rest (latest m') (length rs) a may u.turns q.split n u.long early in
        let z = at_before p power laws Proper state_of Fits bytes w.least C (latest m) u.task u.items q.rest s' s' image' table' table' m' key r' small' q.there back looks in
        let o = at_rest (rests idle) key r looked in
        let e : r' ≡ r = z.0 ∙ sym o.0 in
        (e, shown-part r image' w.image (ap (λ (x : Report). shows x image') (sym e) ∙ z.1 ∙ sym o.1));
    after = λ k key s₀ s₁ s₂ image₁ image₂ table₀ table₁ table₂ a x rs m₁ m₂ r₁ r₂ may c steps all end d₁ d₂.
        let u = begins k may (rests idle) s₀ table₀ a c in
        let (m', q) = goes_on k s₀ s₁ image₁ table₀ table₁ a rs m₁ m₂ u steps (omega arith) in
        let none = (all_done rs q.front q.rest u.acts q.split q.reported (all ∙ sym u.long)).0 in
        at-end p power laws Proper state_of Fits bytes w.least C (latest m) u.task u.items s₁ s₂ image₁ image₂ table₁ table₂ m' x (rw none at q.there) end key s₁ s₂ table₁ table₂ r₁ r₂ d₁ d₂;
    fenced = λ k s₀ s₁ image₁ table₀ table₁ a rs m₁ m₂ fences c steps all.
        let u = begins k (fences-read k fences) (rests idle) s₀ table₀ a c in
        let (m', q) = goes_on k s₀ s₁ image₁ table₀ table₁ a rs m₁ m₂ u steps (omega arith) in
        let whole = (all_done rs q.front q.rest u.acts q.split q.reported (all ∙ sym u.long)).1 in
        let (xs, e) = last-fence k u.task u.acts fences u.turns in
        (xs, whole ∙ e);
    unfenced = λ k s₀ s₁ image₁ table₀ table₁ a rs m₁ m₂ may stages c steps few xs ys e.
        let u = begins k may (rests idle) s₀ table₀ a c in
        let (m', q) = goes_on k s₀ s₁ image₁ table₀ table₁ a rs m₁ m₂ u steps few in
        no-report q.front q.rest (subst (Each NoFence) q.split (unfenced-acts k u.task u.acts may stages u.turns)) xs ys (sym q.reported ∙ e);
  }

pub reprinted : ((q : ℕ) → is_power q ≡ true → Laws q) → {S : Type 0} (Proper : S → Type 0) (state_of : S → State) (Fits : S → List ℕ → List ℕ → Type 0) → Reprinted Proper state_of Fits
reprinted every Proper state_of Fits =
    M.as-calls-left every Proper state_of Fits (λ b u s image table. u ≡ false → Reprints Proper state_of Fits s image table)
    (λ p there bytes whole w b s table i same small idle. reprints p there (every p there) Proper state_of Fits bytes whole w b s table i same small idle)
