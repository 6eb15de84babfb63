-- Every begun call ends after its count of steps, whatever image and table are lent to them: from the contracts of its
-- begin and of a step alone.
-- Assumes nothing.
use Rattle.std.proofs.lemmas.Bool.Decides.{nat_tests}
use mathlib.Core.Path.{◌≡◌, refl, sym, ◌∙◌, ap}
use mathlib.Core.Logic.{◌⊎◌, inl, inr, ⊎_elim}
use mathlib.Core.Bool.{Bool, true, false}
use mathlib.Core.Option.{Option, none, some}
use mathlib.Core.List.{List, [], ◌∷◌, ◌++◌, map}
use Prim.Native.Nat.{ℕ, suc, ◌≤◌}
use native.Mathlib.Omega.{arith}
use lib.Dec.{eqb}
use lib.ListN.{length, take}
use lib.Seq.{take-length}
use Rattle.spec.specs.Basics.{pick, both, is_empty}
use Rattle.spec.specs.Words.{words_of}
use Rattle.spec.specs.Places.{chunks_in}
use Rattle.spec.specs.Medium.{Action, Store, Flush, Fence}
use Rattle.spec.specs.Log.{Entry}
use Rattle.spec.specs.Actions.{format_of}
use Rattle.spec.specs.Reports.{as_report}
use Rattle.spec.specs.Plans.{Task, Staging, Committing, Cleaning}
use Rattle.spec.specs.Machine.{Call, Format, Open, Put, Delete, Commit, Abandon, LookUp, Choose, Clean, Step, State, Closed, Rest, Busy, Formatting, is_open, items_of, state_power, count_of, gate, gated, next_report, step_answer, stepped, next, format_answer}
use Rattle.spec.specs.Contract.{SteppedOn, CountAt, Refuses, Begins, StagesIn, CommitsIn, CleansIn, Ends}
use Rattle.spec.specs.Basics.{Given}
use Rattle.spec.specs.declared.Refusal.{Refusal}
use Rattle.spec.specs.declared.Refusal.TheVariants as N
use Rattle.spec.specs.declared.Report.{Report}
use Rattle.spec.specs.declared.Report.TheVariants as R

-- a state that is busy with actions and ends with the count n, at these lengths: a begun call, or a formatting
pub record Going (b t n : ℕ) (at : List Action → State) : Type 0 where
  pub reports : (acts : List Action) (bytes table : ℕ) → bytes ≡ b → table ≡ t → step_answer (at acts) bytes table ≡ next_report n acts
  pub moves : (a : Action) (acts : List Action) → stepped (at (a ∷ acts)) ≡ at acts

pub busy-goes : (p b t : ℕ) (items : List Entry) (task : Task) → Going b t (count_of task) (λ acts. Busy p b t items task acts)
busy-goes p b t items task = grind (arith, nat_tests)

pub format-goes : (o : Bool) (b t : ℕ) → Going b t 0 (λ acts. Formatting o b t acts)
format-goes o b t = grind (arith, nat_tests)

-- a step that reports an action moves on
pub next-moves : (σ : State) (ws : List ℕ) (bytes table : ℕ) (a : Action) → step_answer σ bytes table ≡ as_report a → next Step σ ws bytes table ≡ stepped σ
unfolding next
next-moves σ ws bytes table (Store w v) e = rw e
next-moves σ ws bytes table (Flush l) e = rw e
next-moves σ ws bytes table Fence e = rw e

pub never-refused : (a : ℕ) (x : Refusal) → R.Begun a ≡ R.Refused x → ⊥
never-refused a x h = let z : ◌≡◌ {A = ℕ} 0 1 = cc in omega arith

-- an abandoning and a step are never begun
no-abandon : (g : Option Refusal) (empty : Bool) (a : ℕ) → R.Begun a ≡ gated g (pick empty (R.Refused N.NothingStaged) R.Abandoned) → ⊥
no-abandon (some x) empty a h = never-refused a x h
no-abandon none true a h = never-refused a N.NothingStaged h
no-abandon none false a h = let z : ◌≡◌ {A = ℕ} 0 1 = cc in omega arith

no-report : (n : ℕ) (acts : List Action) (a : ℕ) → R.Begun a ≡ next_report n acts → ⊥
no-report n [] a h = let z : ◌≡◌ {A = ℕ} 0 1 = cc in omega arith
no-report n (Store w v ∷ acts) a h = let z : ◌≡◌ {A = ℕ} 0 1 = cc in omega arith
no-report n (Flush l ∷ acts) a h = let z : ◌≡◌ {A = ℕ} 0 1 = cc in omega arith
no-report n (Fence ∷ acts) a h = let z : ◌≡◌ {A = ℕ} 0 1 = cc in omega arith

no_step : (σ : State) (bytes table a : ℕ) → R.Begun a ≡ step_answer σ bytes table → ⊥
no_step Closed bytes table a h = let z : ◌≡◌ {A = ℕ} 0 1 = cc in omega arith
no_step (Rest p b t items) bytes table a h = let z : ◌≡◌ {A = ℕ} 0 1 = cc in omega arith
no_step (Busy p b t items task acts) bytes table a h = go (both (eqb b bytes) (eqb t table)) h
  where
    go : (same : Bool) → R.Begun a ≡ pick same (next_report (count_of task) acts) (R.Refused N.ImageLength) → ⊥
    go true e = no-report (count_of task) acts a e
    go false e = never-refused a N.ImageLength e
no_step (Formatting o b t acts) bytes table a h = go (both (eqb b bytes) (eqb t table)) h
  where
    go : (same : Bool) → R.Begun a ≡ pick same (next_report 0 acts) (R.Refused N.ImageLength) → ⊥
    go true e = no-report 0 acts a e
    go false e = never-refused a N.ImageLength e

-- a formatting that is begun: the length is allowed and nothing is unfinished, so count and state are the definition's
format-count : (p : ℕ) (x y : Given) (σ : State) (bytes a : ℕ) → R.Begun a ≡ format_answer p x y σ bytes → R.Begun a ≡ R.Begun (length (format_of p (chunks_in p bytes) x y))
format-count p x y σ bytes a h = grind (arith, nat_tests)

format-state : (p : ℕ) (x y : Given) (σ : State) (ws : List ℕ) (bytes table a : ℕ) → R.Begun a ≡ format_answer p x y σ bytes
    → next (Format p x y) σ ws bytes table ≡ Formatting (is_open σ) bytes table (format_of p (chunks_in p bytes) x y)
unfolding next
format-state p x y σ ws bytes table a h = grind (arith, nat_tests)

module _ {S : Type 0} (Proper : S → Type 0) (state_of : S → State) (Fits : S → List ℕ → List ℕ → Type 0) where
  module _ (b t n : ℕ) (at : List Action → State) (going : Going b t n at) where
    -- so far as they go
    pub ends-so-far : (s : S) (acts : List Action) (rs : List Report) → state_of s ≡ at acts → SteppedOn Proper state_of Fits b t s rs → length rs ≤ suc (length acts)
        → rs ≡ take (length rs) (map as_report acts ++ (R.End n ∷ []))
    ends-so-far s acts [] e w h = refl
    ends-so-far s [] (r ∷ r' ∷ rs) e w h = absurd (omega arith)
    ends-so-far s [] (r ∷ []) e (s', (bytes, (bytes', (table, (table', (eb, (et, (c, w)))))))) h =
        ap (λ (x : Report). x ∷ []) (c.anyway.0 ∙ ap (λ (σ : State). step_answer σ (length bytes) (length table)) e ∙ going.reports [] (length bytes) (length table) eb et)
    ends-so-far s (a ∷ acts) (r ∷ rs) e (s', (bytes, (bytes', (table, (table', (eb, (et, (c, w)))))))) h =
        let told : step_answer (at (a ∷ acts)) (length bytes) (length table) ≡ as_report a = going.reports (a ∷ acts) (length bytes) (length table) eb et in
        let first : r ≡ as_report a = c.anyway.0 ∙ ap (λ (σ : State). step_answer σ (length bytes) (length table)) e ∙ told in
        let now : state_of s' ≡ at acts =
        c.anyway.1 ∙ ap (λ (σ : State). next Step σ (words_of bytes) (length bytes) (length table)) e ∙ next-moves (at (a ∷ acts)) (words_of bytes) (length bytes) (length table) a told
        ∙ going.moves a acts in
        let rest : rs ≡ take (length rs) (map as_report acts ++ (R.End n ∷ [])) = ends-so-far s' acts rs now w (omega arith) in
        ap (λ (x : Report). x ∷ rs) first ∙ ap (λ (l : List Report). as_report a ∷ l) rest

    all-long : (acts : List Action) → length (map as_report acts ++ (R.End n ∷ [])) ≡ suc (length acts)
    all-long [] = refl
    all-long (a ∷ acts) = ap suc (all-long acts)

    -- and to the end
    pub ends-whole : (s : S) (acts : List Action) (rs : List Report) → state_of s ≡ at acts → SteppedOn Proper state_of Fits b t s rs → length rs ≡ suc (length acts) → rs ≡ map as_report acts ++ (R.End n ∷ [])
    ends-whole s acts rs e w h =
        let all : length rs ≡ length (map as_report acts ++ (R.End n ∷ [])) = h ∙ sym (all-long acts) in
        ends-so-far s acts rs e w (omega arith) ∙ ap (λ (m : ℕ). take m (map as_report acts ++ (R.End n ∷ []))) all ∙ take-length (map as_report acts ++ (R.End n ∷ []))

  -- what is fixed at a begin
  abbrev Fixes : Call → S → List ℕ → List ℕ → ℕ → Type 0
  Fixes k s' bytes table a = (acts : List Action) × ((n : ℕ) × ((length acts ≡ a) × (CountAt k n
      × ((rs : List Report) → SteppedOn Proper state_of Fits (length bytes) (length table) s' rs → length rs ≡ suc a → rs ≡ map as_report acts ++ (R.End n ∷ [])))))

  fixes : (k : Call) (s' : S) (bytes table : List ℕ) (a n : ℕ) (at : List Action → State) → Going (length bytes) (length table) n at → CountAt k n → (acts : List Action) → state_of s' ≡ at acts → R.Begun a ≡ R.Begun (length acts)
      → Fixes k s' bytes table a
  fixes k s' bytes table a n at going counted acts e said =
      let long : length acts ≡ a = let q : a ≡ length acts = cc in sym q in
      (acts, (n, (long, (counted, λ rs w h. ends-whole (length bytes) (length table) n at going s' acts rs e w (omega arith)))))

  -- a begin that stages, commits or cleans
  begins : (k : Call) (s' : S) (bytes table : List ℕ) (a p : ℕ) (Of : List Action → State → Type 0)
      → ((acts : List Action) → Of acts (state_of s') → (items : List Entry) × ((task : Task) × (CountAt k (count_of task) × (state_of s' ≡ Busy p (length bytes) (length table) items task acts))))
      → Refuses (R.Begun a) ⊎ Begins Of (state_of s') (R.Begun a) → Fixes k s' bytes table a
  begins k s' bytes table a p Of busy (inl (x, h)) = absurd (never-refused a x h)
  begins k s' bytes table a p Of busy (inr (acts, (of, said))) = go (busy acts of)
    where
      go : (items : List Entry) × ((task : Task) × (CountAt k (count_of task) × (state_of s' ≡ Busy p (length bytes) (length table) items task acts))) → Fixes k s' bytes table a
      go (items, (task, (counted, e))) = fixes k s' bytes table a (count_of task) (λ l. Busy p (length bytes) (length table) items task l) (busy-goes p (length bytes) (length table) items task) counted acts e said

  -- a formatting's begin
  formats : (p : ℕ) (x y : Given) (s s' : S) (bytes table : List ℕ) (a : ℕ) → R.Begun a ≡ format_answer p x y (state_of s) (length bytes) → state_of s' ≡ next (Format p x y) (state_of s) (words_of bytes) (length bytes) (length table)
      → Fixes (Format p x y) s' bytes table a
  formats p x y s s' bytes table a answered became =
      fixes (Format p x y) s' bytes table a 0 (λ l. Formatting (is_open (state_of s)) (length bytes) (length table) l) (format-goes (is_open (state_of s)) (length bytes) (length table)) refl (format_of p (chunks_in p (length bytes)) x y)
      (became ∙ format-state p x y (state_of s) (words_of bytes) (length bytes) (length table) a answered) (format-count p x y (state_of s) (length bytes) a answered)

  pub ends : Ends Proper state_of Fits
  ends (Format p x y) s s' bytes bytes' table table' a c = formats p x y s s' bytes table a c.anyway.0 c.anyway.1
  ends Open s s' bytes bytes' table table' a c = absurd (⊎_elim (λ (x, h). never-refused a x h) (λ (h, e). let z : ◌≡◌ {A = ℕ} 0 1 = cc in omega arith) c.anyway)
  ends (Put x k v) s s' bytes bytes' table table' a c = begins (Put x k v) s' bytes table a (state_power (state_of s)) (StagesIn (state_power (state_of s)) (length bytes) (length table)) (λ acts (items, e). (items, (Staging, (refl, e)))) c.anyway
  ends (Delete x k) s s' bytes bytes' table table' a c = begins (Delete x k) s' bytes table a (state_power (state_of s)) (StagesIn (state_power (state_of s)) (length bytes) (length table)) (λ acts (items, e). (items, (Staging, (refl, e)))) c.anyway
  ends Commit s s' bytes bytes' table table' a c = begins Commit s' bytes table a (state_power (state_of s)) (CommitsIn (state_power (state_of s)) (length bytes) (length table) (items_of (state_of s))) (λ acts (olds, e). (items_of (state_of s), (Committing olds, (refl, e)))) c.anyway
  ends Abandon s s' bytes bytes' table table' a c = absurd (no-abandon (gate (state_of s) (length bytes) (length table)) (is_empty (items_of (state_of s))) a c.anyway.0)
  ends (LookUp k) s s' bytes bytes' table table' a c = absurd (⊎_elim (λ (x, h). never-refused a x h) (λ (at, (n, (h, e))). let z : ◌≡◌ {A = ℕ} 0 1 = cc in omega arith) c.anyway)
  ends Choose s s' bytes bytes' table table' a c = absurd (⊎_elim (λ (x, h). never-refused a x h) (λ (n, (h, e)). let z : ◌≡◌ {A = ℕ} 0 1 = cc in omega arith) c.anyway)
  ends (Clean n) s s' bytes bytes' table table' a c = begins (Clean n) s' bytes table a (state_power (state_of s)) (CleansIn (state_power (state_of s)) (length bytes) (length table)) (λ acts (count, (olds, e)). ([], (Cleaning count olds, (tt, e)))) c.anyway
  ends Step s s' bytes bytes' table table' a c = absurd (no_step (state_of s) (length bytes) (length table) a c.anyway.0)
