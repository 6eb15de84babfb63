-- The gate of a call on an open register, read off the record; what a refusal at the gate shows, once for all calls
-- that ask there; and what is known behind the gate.
-- Assumes nothing.
use mathlib.Core.Path.{◌≡◌, refl, sym, ◌∙◌, ap}
use mathlib.Core.Logic.{◌⊎◌, inl, inr}
use mathlib.Core.Bool.{Bool, true, false}
use mathlib.Core.Option.{none, some}
use mathlib.Core.List.{List, [], ◌∷◌}
use Prim.Native.Nat.{ℕ, ◌/◌}
use native.Mathlib.Decide.{ℕ_discrete}
use native.Mathlib.Omega.{arith}
use lib.Dec.{eqb}
use lib.ListN.{length}
use borrow.Author.Tests.{eqb-true, eq-eqb, ne_eqb}
use Rattle.spec.specs.Basics.{pick, both, either}
use Rattle.spec.specs.Words.{words_of}
use Rattle.spec.specs.Medium.{Action}
use Rattle.spec.specs.Log.{Entry}
use Rattle.spec.specs.Plans.{Task, Staging, Committing, Cleaning, Olds, olds_of}
use Rattle.spec.specs.Machine.{Call, Format, Open, Put, Delete, Commit, Abandon, LookUp, Choose, Clean, Step, State, Closed, Rest, Busy, Formatting, gate, read_gate, read_words, answer, next, refusals, refused_by, is_opening, kind_of}
use Rattle.spec.specs.Contract.{MemRefusal, Anyway, Again, Ready, Kept, Barred, Called}
use Rattle.session.specs.declared.Control.{Control}
use Rattle.session.specs.declared.Setup.{Setup}
use Rattle.session.specs.declared.Session.{Session}
use Rattle.spec.specs.declared.Refusal.{Refusal}
use Rattle.spec.specs.declared.Refusal.TheVariants as N
use Rattle.spec.specs.declared.Report.{Report}
use Rattle.spec.specs.declared.Report.TheVariants as R
use Rattle.theory_base.proofs.Lists.{both_l, both_r, either-no}
use Rattle.session.specs.State.{size_in, power_in, batch_items, state_at, state_of}
use Rattle.session.specs.Fits.{Opens, RestFits, Built, TaskFits, Reads, FitsAt, Fits}
use Rattle.session.specs.Asks.{begun_at, read_at, gate_for, read_for, closed_or, same_lengths}
use Rattle.session.specs.Fits.{Proper}
use Rattle.theory_base.proofs.PutBack.{Past, past-own, past_back}

-- ## The record's gate

pub gate-state : (c : Control) (k : Setup) (b : List ℕ) (bytes words : ℕ) → gate (state_at c k b) bytes words ≡ gate_for c.phase (same_lengths k bytes words)
unfolding state_at
gate-state c k b bytes words = go (eqb c.phase 1) (eqb c.phase 2) (eqb c.phase 3) (eqb c.phase 4) (eqb c.phase 5) (eqb c.phase 6) apart _ _ _ _ _ _ _ _ _
  where
    apart : eqb c.phase 4 ≡ true → (eqb c.phase 5 ≡ false) × (eqb c.phase 6 ≡ false)
    apart h = let e = eqb-true c.phase 4 h in (ne_eqb c.phase 5 (λ q. omega arith), ne_eqb c.phase 6 (λ q. omega arith))

    go : (b1 b2 b3 b4 b5 b6 : Bool) → (b4 ≡ true → (b5 ≡ false) × (b6 ≡ false)) → (items : List Entry) (m : ℕ) (o3 o6 : Olds) (a2 a3 a4 a5 a6 : List Action)
        → gate (pick b1 (Rest (power_in k) k.image k.table items) (pick b2 (Busy (power_in k) k.image k.table items Staging a2) (pick b3 (Busy (power_in k) k.image k.table items (Committing o3) a3)
        (pick b4 (Formatting false k.image k.table a4) (pick b5 (Formatting true k.image k.table a5) (pick b6 (Busy (power_in k) k.image k.table [] (Cleaning m o6) a6) Closed)))))) bytes words
        ≡ pick b1 (pick (same_lengths k bytes words) none (some N.ImageLength))
        (pick (either b2 (either b3 (either b5 b6))) (pick (same_lengths k bytes words) (some N.Unfinished) (some N.ImageLength)) (some N.NotOpen))
    go true b2 b3 b4 b5 b6 h items m o3 o6 a2 a3 a4 a5 a6 = refl
    go false true b3 b4 b5 b6 h items m o3 o6 a2 a3 a4 a5 a6 = refl
    go false false true b4 b5 b6 h items m o3 o6 a2 a3 a4 a5 a6 = refl
    go false false false true b5 b6 h items m o3 o6 a2 a3 a4 a5 a6 = rw ((h refl).0, (h refl).1)
    go false false false false true b6 h items m o3 o6 a2 a3 a4 a5 a6 = refl
    go false false false false false true h items m o3 o6 a2 a3 a4 a5 a6 = refl
    go false false false false false false h items m o3 o6 a2 a3 a4 a5 a6 = refl

pub read-state : (c : Control) (k : Setup) (b : List ℕ) (bytes words : ℕ) → read_gate (state_at c k b) bytes words ≡ read_for c.phase (same_lengths k bytes words)
unfolding state_at
read-state c k b bytes words = go (eqb c.phase 1) (eqb c.phase 2) (eqb c.phase 3) (eqb c.phase 4) (eqb c.phase 5) (eqb c.phase 6) apart apart5 _ _ _ _ _ _ _ _ _
  where
    apart : eqb c.phase 4 ≡ true → (eqb c.phase 5 ≡ false) × (eqb c.phase 6 ≡ false)
    apart h = let e = eqb-true c.phase 4 h in (ne_eqb c.phase 5 (λ q. omega arith), ne_eqb c.phase 6 (λ q. omega arith))

    apart5 : eqb c.phase 5 ≡ true → eqb c.phase 6 ≡ false
    apart5 h = let e = eqb-true c.phase 5 h in ne_eqb c.phase 6 (λ q. omega arith)

    go : (b1 b2 b3 b4 b5 b6 : Bool) → (b4 ≡ true → (b5 ≡ false) × (b6 ≡ false)) → (b5 ≡ true → b6 ≡ false) → (items : List Entry) (m : ℕ) (o3 o6 : Olds) (a2 a3 a4 a5 a6 : List Action)
        → read_gate (pick b1 (Rest (power_in k) k.image k.table items) (pick b2 (Busy (power_in k) k.image k.table items Staging a2) (pick b3 (Busy (power_in k) k.image k.table items (Committing o3) a3)
        (pick b4 (Formatting false k.image k.table a4) (pick b5 (Formatting true k.image k.table a5) (pick b6 (Busy (power_in k) k.image k.table [] (Cleaning m o6) a6) Closed)))))) bytes words
        ≡ pick (either b1 (either b2 (either b3 b6))) (pick (same_lengths k bytes words) none (some N.ImageLength))
        (pick b5 (pick (same_lengths k bytes words) (some N.Unfinished) (some N.ImageLength)) (some N.NotOpen))
    go true b2 b3 b4 b5 b6 h g items m o3 o6 a2 a3 a4 a5 a6 = refl
    go false true b3 b4 b5 b6 h g items m o3 o6 a2 a3 a4 a5 a6 = refl
    go false false true b4 b5 b6 h g items m o3 o6 a2 a3 a4 a5 a6 = refl
    go false false false true b5 b6 h g items m o3 o6 a2 a3 a4 a5 a6 = rw ((h refl).0, (h refl).1)
    go false false false false true b6 h g items m o3 o6 a2 a3 a4 a5 a6 = rw (g refl)
    go false false false false false true h g items m o3 o6 a2 a3 a4 a5 a6 = refl
    go false false false false false false h g items m o3 o6 a2 a3 a4 a5 a6 = refl

-- the record's gate by its phase, as the code asks
module _ (c : Control) (k : Setup) (b : List ℕ) (bytes words : ℕ) where
  pub gate-open : same_lengths k bytes words ≡ true → c.phase ≡ 1 → gate (state_at c k b) bytes words ≡ none
  gate-open s p = gate-state c k b bytes words ∙ rw (s, eq-eqb _ _ p)

  pub gate-unfinished : same_lengths k bytes words ≡ true → (c.phase ≡ 1 → ⊥) → gate (state_at c k b) bytes words ≡ some (closed_or c.phase N.Unfinished)
  gate-unfinished s p = gate-state c k b bytes words ∙ rw (s, ne_eqb _ _ p) (go (begun_at c.phase))
    where
      go : (x : Bool) → pick x (some N.Unfinished) (some N.NotOpen) ≡ some (pick x N.Unfinished N.NotOpen)
      go true = refl
      go false = refl

  pub gate-unlike : same_lengths k bytes words ≡ false → gate (state_at c k b) bytes words ≡ some (closed_or c.phase N.ImageLength)
  gate-unlike s = gate-state c k b bytes words ∙ rw s (go (eqb c.phase 1) (begun_at c.phase))
    where
      go : (x y : Bool) → pick x (some N.ImageLength) (pick y (some N.ImageLength) (some N.NotOpen)) ≡ some (pick (either x y) N.ImageLength N.NotOpen)
      go true y = refl
      go false true = refl
      go false false = refl

-- the same of look-up
module _ (c : Control) (k : Setup) (b : List ℕ) (bytes words : ℕ) where
  pub read-open : same_lengths k bytes words ≡ true → read_at c.phase ≡ true → read_gate (state_at c k b) bytes words ≡ none
  read-open s p = read-state c k b bytes words ∙ rw (s, p)

  -- at rest, which is asked first
  pub rest-open : same_lengths k bytes words ≡ true → c.phase ≡ 1 → read_gate (state_at c k b) bytes words ≡ none
  rest-open s p = read-open s (rw p)

  -- of a phase in which it does not answer
  never-read : (phase : ℕ) (n : Refusal) → read_at phase ≡ false → pick (eqb phase 5) (some n) (some N.NotOpen) ≡ some (closed_or phase n)
  never-read phase n h =
      let a = either-no (eqb phase 1) _ h in
      let d = either-no (eqb phase 2) _ a.1 in
      let e = either-no (eqb phase 3) (eqb phase 6) d.1 in
      rw (a.0, d.0, e.0, e.1) (go (eqb phase 5))
    where
      go : (x : Bool) → pick x (some n) (some N.NotOpen) ≡ some (pick (either x false) n N.NotOpen)
      go true = refl
      go false = refl

  pub read-unfinished : same_lengths k bytes words ≡ true → read_at c.phase ≡ false → read_gate (state_at c k b) bytes words ≡ some (closed_or c.phase N.Unfinished)
  read-unfinished s p = read-state c k b bytes words ∙ rw (s, p) (never-read c.phase N.Unfinished p)

  read-closed : (phase : ℕ) → read_at phase ≡ true → closed_or phase N.ImageLength ≡ N.ImageLength
  read-closed phase h = by (eqb phase 1) (eqb phase 2) (eqb phase 3) (eqb phase 5) (eqb phase 6) h
    where
      by : (b1 b2 b3 b5 b6 : Bool) → either b1 (either b2 (either b3 b6)) ≡ true → pick (either b1 (either b2 (either b3 (either b5 b6)))) N.ImageLength N.NotOpen ≡ N.ImageLength
      by true b2 b3 b5 b6 q = refl
      by false true b3 b5 b6 q = refl
      by false false true b5 b6 q = refl
      by false false false true b6 q = refl
      by false false false false true q = refl
      by false false false false false q = absurd (let z : ◌≡◌ {A = ℕ} 0 1 = cc in omega arith)

  pub read-unlike : same_lengths k bytes words ≡ false → read_gate (state_at c k b) bytes words ≡ some (closed_or c.phase N.ImageLength)
  read-unlike s = read-state c k b bytes words ∙ rw s (go (read_at c.phase) refl)
    where
      go : (x : Bool) → read_at c.phase ≡ x → pick x (some N.ImageLength) (pick (eqb c.phase 5) (some N.ImageLength) (some N.NotOpen)) ≡ some (closed_or c.phase N.ImageLength)
      go true h = ap (λ (r : Refusal). some r) (sym (read-closed c.phase h))
      go false h = never-read c.phase N.ImageLength h

-- ## A refusal at the gate

other : (x : Refusal) (b : Bool) (n : Refusal) → pick b (some x) (some N.ImageLength) ≡ some n → (n ≡ x) ⊎ (n ≡ N.ImageLength)
other x true n h = inl cc
other x false n h = inr cc

-- it is the first, second or third of the call's numbers
abbrev Early : Refusal → Type 0 → Type 0
Early n A = (n ≡ N.NotOpen) ⊎ ((n ≡ N.ImageLength) ⊎ ((n ≡ N.Unfinished) ⊎ A))

late : {A : Type 0} (n : Refusal) (b : Bool) → pick b (some N.Unfinished) (some N.ImageLength) ≡ some n → Early n A
late n true h = inr (inr (inl cc))
late n false h = inr (inl cc)

gate-number : {A : Type 0} (σ : State) (bytes words : ℕ) (n : Refusal) → gate σ bytes words ≡ some n → Early n A
gate-number Closed bytes words n h = inl cc
gate-number {A} (Rest p b t items) bytes words n h = go (both (eqb b bytes) (eqb t words)) h
  where
    go : (s : Bool) → pick s none (some N.ImageLength) ≡ some n → Early n A
    go true q = absurd (let z : ◌≡◌ {A = ℕ} 0 1 = cc in omega arith)
    go false q = inr (inl cc)
gate-number (Busy p b t items task acts) bytes words n h = late n (both (eqb b bytes) (eqb t words)) h
gate-number (Formatting false b t acts) bytes words n h = inl cc
gate-number (Formatting true b t acts) bytes words n h = late n (both (eqb b bytes) (eqb t words)) h

module _ (s : Session) (bytes table : List ℕ) (n : Refusal) where
  -- a refused call that leaves all as it was
  pub refused : (k : Call) → is_opening (kind_of k) ≡ false → (Ready Proper state_of Fits k s (words_of bytes) table → Again k (R.Refused n) (Fits s (words_of bytes) table))
      → (Ready Proper state_of Fits k s (words_of bytes) table → R.Refused n ≡ answer k (state_of s) (words_of bytes) (length bytes) (length table))
      → Barred Proper state_of Fits k s bytes table (R.Refused n) → MemRefusal n (refusals k) → Kept Proper state_of Fits k s s table table
      → Anyway k (state_of s) (state_of s) (words_of bytes) (length bytes) (length table) (R.Refused n)
      → Called Proper state_of Fits k s s bytes bytes table table (R.Refused n)
  unfolding next
  refused k o f a b m kept any = record {
    exact = λ r. record { answered = a r; became = sym (rw (sym (a r), o)); fits = f r };
    first = b;
    image = refl;
    sized = refl;
    outcome = (m, kept);
    anyway = any;
  }

-- the calls that ask at the gate
abbrev pub Gating : Call → Type 0
Gating (Format q a b) = ⊥
Gating Open = ⊥
Gating (Put x k v) = Unit {0}
Gating (Delete x k) = Unit {0}
Gating Commit = Unit {0}
Gating Abandon = Unit {0}
Gating (LookUp k) = ⊥
Gating Choose = Unit {0}
Gating (Clean c) = Unit {0}
Gating Step = ⊥

module _ (s : Session) (bytes table : List ℕ) (n : Refusal) (g : gate (state_of s) (length bytes) (length table) ≡ some n) where
  only : (r : Report) → refused_by (gate (state_of s) (length bytes) (length table)) ≡ some r → R.Refused n ≡ r
  only r h = let q : some (R.Refused n) ≡ some r = rw g at h in cc

  member : {A : Type 0} → Early n A
  member = gate-number (state_of s) (length bytes) (length table) n g

  pub turned_down : (k : Call) → Gating k → Called Proper state_of Fits k s s bytes bytes table table (R.Refused n)
  unfolding next
  turned_down (Format q a b) t = absurd t
  turned_down Open t = absurd t
  turned_down (Put x k v) t = refused s bytes table n (Put x k v) refl (λ f. f) (λ f. sym (rw g)) only member (refl, refl) (inl (n, refl))
  turned_down (Delete x k) t = refused s bytes table n (Delete x k) refl (λ f. f) (λ f. sym (rw g)) only member (refl, refl) (inl (n, refl))
  turned_down Commit t = refused s bytes table n Commit refl (λ f. f) (λ f. sym (rw g)) only member (refl, refl) (inl (n, refl))
  turned_down Abandon t = refused s bytes table n Abandon refl (λ f. f) (λ f. sym (rw g)) only member (refl, refl) (sym (rw g), sym (rw g))
  turned_down (LookUp k) t = absurd t
  turned_down Choose t = refused s bytes table n Choose refl (λ f. f) (λ f. sym (rw g)) only member (refl, refl) (inl (n, refl))
  turned_down (Clean c) t = refused s bytes table n (Clean c) refl (λ f. f) (λ f. sym (rw g)) only member (refl, refl) (inl (n, refl))
  turned_down Step t = absurd t

-- look-up turned down
read_number : {A : Type 0} (σ : State) (bytes words : ℕ) (n : Refusal) → read_gate σ bytes words ≡ some n → Early n A
read_number Closed bytes words n h = inl cc
read_number {A} (Rest p b t items) bytes words n h = go (both (eqb b bytes) (eqb t words)) h
  where
    go : (s : Bool) → pick s none (some N.ImageLength) ≡ some n → Early n A
    go true q = absurd (let z : ◌≡◌ {A = ℕ} 0 1 = cc in omega arith)
    go false q = inr (inl cc)
read_number {A} (Busy p b t items task acts) bytes words n h = go (both (eqb b bytes) (eqb t words)) h
  where
    go : (s : Bool) → pick s none (some N.ImageLength) ≡ some n → Early n A
    go true q = absurd (let z : ◌≡◌ {A = ℕ} 0 1 = cc in omega arith)
    go false q = inr (inl cc)
read_number (Formatting false b t acts) bytes words n h = inl cc
read_number (Formatting true b t acts) bytes words n h = late n (both (eqb b bytes) (eqb t words)) h

pub read-refused : (s : Session) (bytes table : List ℕ) (n : Refusal) → read_gate (state_of s) (length bytes) (length table) ≡ some n
    → (k : ℕ) → Called Proper state_of Fits (LookUp k) s s bytes bytes table table (R.Refused n)
unfolding next
read-refused s bytes table n g k =
    refused s bytes table n (LookUp k) refl (λ f. f) (λ f. sym (rw g)) (λ r h. let q : some (R.Refused n) ≡ some r = rw g at h in cc)
    (read_number (state_of s) (length bytes) (length table) n g) (refl, refl) (inl (n, refl))

-- ## Behind the gate

-- of any memory: the record is at rest with the lent lengths, and its items are those that its words say
pub record Passed (s : Session) (bytes words : ℕ) : Type 0 where
  pub state : state_of s ≡ Rest (power_in s.setup) bytes words (batch_items s.control s.buffer)
  pub same_bytes : s.setup.image ≡ bytes
  pub same-words : s.setup.table ≡ words

unfinished : (b : Bool) → pick b (some N.Unfinished) (some N.ImageLength) ≡ none → ⊥
unfinished true h = let z : ◌≡◌ {A = ℕ} 0 1 = cc in omega arith
unfinished false h = let z : ◌≡◌ {A = ℕ} 0 1 = cc in omega arith

rest-state : (s : Session) → s.control.phase ≡ 1 → state_of s ≡ Rest (power_in s.setup) s.setup.image s.setup.table (batch_items s.control s.buffer)
unfolding state_at
rest-state s e = rw e

pub gate-passed : (s : Session) (bytes words : ℕ) → gate (state_of s) bytes words ≡ none → Passed s bytes words
gate-passed s bytes words g = go (ℕ_discrete s.control.phase 1) (rw (gate-state s.control s.setup s.buffer bytes words) at g)
  where
    k : Setup
    k = s.setup

    by : s.control.phase ≡ 1 → (t : Bool) → same_lengths k bytes words ≡ t → pick t none (some N.ImageLength) ≡ none → Passed s bytes words
    by e true h p =
        let x : k.image ≡ bytes = eqb-true k.image bytes (both_l (eqb k.image bytes) (eqb k.table words) h) in
        let y : k.table ≡ words = eqb-true k.table words (both_r (eqb k.image bytes) (eqb k.table words) h) in
        record { state = rest-state s e ∙ ap (λ (i : ℕ). Rest (power_in k) i k.table (batch_items s.control s.buffer)) x ∙ ap (λ (i : ℕ). Rest (power_in k) bytes i (batch_items s.control s.buffer)) y; same_bytes = x; same-words = y }
    by e false h p = absurd (let z : ◌≡◌ {A = ℕ} 0 1 = cc in omega arith)

    other : (t : Bool) → pick t (pick (same_lengths k bytes words) (some N.Unfinished) (some N.ImageLength)) (some N.NotOpen) ≡ none → ⊥
    other true h = unfinished (same_lengths k bytes words) h
    other false h = let z : ◌≡◌ {A = ℕ} 0 1 = cc in omega arith

    go : Dec (s.control.phase ≡ 1) → gate_for s.control.phase (same_lengths k bytes words) ≡ none → Passed s bytes words
    go (yes e) h = by e (same_lengths k bytes words) refl (rw (eq-eqb s.control.phase 1 e) at h)
    go (no e) h = absurd (other (begun_at s.control.phase) (rw (ne_eqb s.control.phase 1 e) at h))

-- a register is open and at rest, with the lent lengths
pub record AtRest (s : Session) (bytes words : ℕ) (ws table : List ℕ) : Type 0 where
  pub items : List Entry
  pub state : state_of s ≡ Rest (power_in s.setup) s.setup.image s.setup.table items
  pub fits : RestFits s ws table items
  pub same_bytes : s.setup.image ≡ bytes
  pub same-words : s.setup.table ≡ words

pub at_rest : (s : Session) (bytes words : ℕ) (ws table : List ℕ) → gate (state_of s) bytes words ≡ none → Fits s ws table → AtRest s bytes words ws table
unfolding state_at
at_rest s bytes words ws table g f = go (eqb phase 1) (eqb phase 2) (eqb phase 3) (eqb phase 4) (eqb phase 5) (eqb phase 6) _ _ _ _ _ _ _ _ _ refl g f.1
  where
    phase : ℕ
    phase = s.control.phase

    k : Setup
    k = s.setup

    go : (b1 b2 b3 b4 b5 b6 : Bool) (items : List Entry) (m : ℕ) (o3 o6 : Olds) (a2 a3 a4 a5 a6 : List Action)
        → state_of s ≡ pick b1 (Rest (power_in k) k.image k.table items) (pick b2 (Busy (power_in k) k.image k.table items Staging a2) (pick b3 (Busy (power_in k) k.image k.table items (Committing o3) a3)
        (pick b4 (Formatting false k.image k.table a4) (pick b5 (Formatting true k.image k.table a5) (pick b6 (Busy (power_in k) k.image k.table [] (Cleaning m o6) a6) Closed)))))
        → gate (pick b1 (Rest (power_in k) k.image k.table items) (pick b2 (Busy (power_in k) k.image k.table items Staging a2) (pick b3 (Busy (power_in k) k.image k.table items (Committing o3) a3)
        (pick b4 (Formatting false k.image k.table a4) (pick b5 (Formatting true k.image k.table a5) (pick b6 (Busy (power_in k) k.image k.table [] (Cleaning m o6) a6) Closed)))))) bytes words ≡ none
        → FitsAt (pick b1 (Rest (power_in k) k.image k.table items) (pick b2 (Busy (power_in k) k.image k.table items Staging a2) (pick b3 (Busy (power_in k) k.image k.table items (Committing o3) a3)
        (pick b4 (Formatting false k.image k.table a4) (pick b5 (Formatting true k.image k.table a5) (pick b6 (Busy (power_in k) k.image k.table [] (Cleaning m o6) a6) Closed)))))) s ws table
        → AtRest s bytes words ws table
    go true b2 b3 b4 b5 b6 items m o3 o6 a2 a3 a4 a5 a6 e q r = rest (same_lengths k bytes words) refl q
      where
        rest : (t : Bool) → same_lengths k bytes words ≡ t → pick t none (some N.ImageLength) ≡ none → AtRest s bytes words ws table
        rest true h p =
            let x : k.image ≡ bytes = eqb-true k.image bytes (both_l (eqb k.image bytes) (eqb k.table words) h) in
            let y : k.table ≡ words = eqb-true k.table words (both_r (eqb k.image bytes) (eqb k.table words) h) in
            record { items = items; state = e; fits = r; same_bytes = x; same-words = y }
        rest false h p = absurd (let z : ◌≡◌ {A = ℕ} 0 1 = cc in omega arith)
    go false true b3 b4 b5 b6 items m o3 o6 a2 a3 a4 a5 a6 e q r = absurd (unfinished (same_lengths k bytes words) q)
    go false false true b4 b5 b6 items m o3 o6 a2 a3 a4 a5 a6 e q r = absurd (unfinished (same_lengths k bytes words) q)
    go false false false true b5 b6 items m o3 o6 a2 a3 a4 a5 a6 e q r = absurd (let z : ◌≡◌ {A = ℕ} 0 1 = cc in omega arith)
    go false false false false true b6 items m o3 o6 a2 a3 a4 a5 a6 e q r = absurd (unfinished (same_lengths k bytes words) q)
    go false false false false false true items m o3 o6 a2 a3 a4 a5 a6 e q r = absurd (unfinished (same_lengths k bytes words) q)
    go false false false false false false items m o3 o6 a2 a3 a4 a5 a6 e q r = absurd (let z : ◌≡◌ {A = ℕ} 0 1 = cc in omega arith)

-- behind the gate, at rest, look-up's gate is open too, and it reads the words as they stand
pub rest-reads : (σ : State) (bytes words : ℕ) (ws : List ℕ) → gate σ bytes words ≡ none → (read_gate σ bytes words ≡ none) × (read_words σ ws ≡ ws)
rest-reads Closed bytes words ws g = absurd (let z : ◌≡◌ {A = ℕ} 0 1 = cc in omega arith)
rest-reads (Rest p b t items) bytes words ws g = (g, refl)
rest-reads (Busy p b t items task rest) bytes words ws g = absurd (unfinished (both (eqb b bytes) (eqb t words)) g)
rest-reads (Formatting false b t rest) bytes words ws g = absurd (let z : ◌≡◌ {A = ℕ} 0 1 = cc in omega arith)
rest-reads (Formatting true b t rest) bytes words ws g = absurd (unfinished (both (eqb b bytes) (eqb t words)) g)

-- LOOK-UP BEHIND ITS GATE: the words that it reads are accepted, and table and bits are those of their entries
pub record ReadAt (s : Session) (bytes words : ℕ) (ws table : List ℕ) : Type 0 where
  pub entries : List Entry
  pub accepted : Opens (power_in s.setup) s.setup.image (read_words (state_of s) ws) s.setup.table entries
  pub long : length ws ≡ s.setup.image / 8
  pub built : Built s.control (size_in s.setup) s.buffer table entries
  pub same_bytes : s.setup.image ≡ bytes
  pub same-words : s.setup.table ≡ words
  pub past : Past (read_words (state_of s) ws) ws

pub read_at_lem : (s : Session) (bytes words : ℕ) (ws table : List ℕ) → read_gate (state_of s) bytes words ≡ none → Fits s ws table → ReadAt s bytes words ws table
unfolding state_at
read_at_lem s bytes words ws table g f = go (eqb phase 1) (eqb phase 2) (eqb phase 3) (eqb phase 4) (eqb phase 5) (eqb phase 6) _ _ _ _ _ _ _ _ _ refl g f.1
  where
    phase : ℕ
    phase = s.control.phase

    k : Setup
    k = s.setup

    -- what is read in a state with these lengths
    made : (σ : State) → state_of s ≡ σ → (es : List Entry) → Opens (power_in k) k.image (read_words σ ws) k.table es → length ws ≡ k.image / 8 → Built s.control (size_in s.setup) s.buffer table es → Past (read_words σ ws) ws
        → (t : Bool) → same_lengths k bytes words ≡ t → pick t none (some N.ImageLength) ≡ none → ReadAt s bytes words ws table
    made σ e es acc long built past true h p =
        let x : k.image ≡ bytes = eqb-true k.image bytes (both_l (eqb k.image bytes) (eqb k.table words) h) in
        let y : k.table ≡ words = eqb-true k.table words (both_r (eqb k.image bytes) (eqb k.table words) h) in
        record { entries = es; accepted = rw e acc; long = long; built = built; same_bytes = x; same-words = y; past = rw e past }
    made σ e es acc long built past false h p = absurd (let z : ◌≡◌ {A = ℕ} 0 1 = cc in omega arith)

    busy : (task : Task) (items : List Entry) (acts : List Action) → state_of s ≡ Busy (power_in k) k.image k.table items task acts → pick (same_lengths k bytes words) none (some N.ImageLength) ≡ none
        → TaskFits task s items acts ws table × Reads s (olds_of task) acts ws table → ReadAt s bytes words ws table
    busy task items (a ∷ rest) e q (f, r) = made (Busy (power_in k) k.image k.table items task (a ∷ rest)) e r.entries r.shown.0 r.long r.built (past_back (olds_of task) ws r.low) (same_lengths k bytes words) refl q
    busy Staging items [] e q (f, r) = made (Busy (power_in k) k.image k.table items Staging []) e f.entries f.accepted f.long f.built (past-own ws) (same_lengths k bytes words) refl q
    busy (Committing olds) items [] e q (f, r) = made (Busy (power_in k) k.image k.table items (Committing olds) []) e _ f.accepted f.long f.built (past-own ws) (same_lengths k bytes words) refl q
    busy (Cleaning n olds) items [] e q (f, r) = made (Busy (power_in k) k.image k.table items (Cleaning n olds) []) e _ f.accepted f.long f.built (past-own ws) (same_lengths k bytes words) refl q

    go : (b1 b2 b3 b4 b5 b6 : Bool) (items : List Entry) (m : ℕ) (o3 o6 : Olds) (a2 a3 a4 a5 a6 : List Action)
        → state_of s ≡ pick b1 (Rest (power_in k) k.image k.table items) (pick b2 (Busy (power_in k) k.image k.table items Staging a2) (pick b3 (Busy (power_in k) k.image k.table items (Committing o3) a3)
        (pick b4 (Formatting false k.image k.table a4) (pick b5 (Formatting true k.image k.table a5) (pick b6 (Busy (power_in k) k.image k.table [] (Cleaning m o6) a6) Closed)))))
        → read_gate (pick b1 (Rest (power_in k) k.image k.table items) (pick b2 (Busy (power_in k) k.image k.table items Staging a2) (pick b3 (Busy (power_in k) k.image k.table items (Committing o3) a3)
        (pick b4 (Formatting false k.image k.table a4) (pick b5 (Formatting true k.image k.table a5) (pick b6 (Busy (power_in k) k.image k.table [] (Cleaning m o6) a6) Closed)))))) bytes words ≡ none
        → FitsAt (pick b1 (Rest (power_in k) k.image k.table items) (pick b2 (Busy (power_in k) k.image k.table items Staging a2) (pick b3 (Busy (power_in k) k.image k.table items (Committing o3) a3)
        (pick b4 (Formatting false k.image k.table a4) (pick b5 (Formatting true k.image k.table a5) (pick b6 (Busy (power_in k) k.image k.table [] (Cleaning m o6) a6) Closed)))))) s ws table
        → ReadAt s bytes words ws table
    go true b2 b3 b4 b5 b6 items m o3 o6 a2 a3 a4 a5 a6 e q r = made (Rest (power_in k) k.image k.table items) e r.entries r.accepted r.long r.built (past-own ws) (same_lengths k bytes words) refl q
    go false true b3 b4 b5 b6 items m o3 o6 a2 a3 a4 a5 a6 e q r = busy Staging items a2 e q r
    go false false true b4 b5 b6 items m o3 o6 a2 a3 a4 a5 a6 e q r = busy (Committing o3) items a3 e q r
    go false false false true b5 b6 items m o3 o6 a2 a3 a4 a5 a6 e q r = absurd (let z : ◌≡◌ {A = ℕ} 0 1 = cc in omega arith)
    go false false false false true b6 items m o3 o6 a2 a3 a4 a5 a6 e q r = absurd (unfinished (same_lengths k bytes words) q)
    go false false false false false true items m o3 o6 a2 a3 a4 a5 a6 e q r = busy (Cleaning m o6) [] a6 e q r
    go false false false false false false items m o3 o6 a2 a3 a4 a5 a6 e q r = absurd (let z : ◌≡◌ {A = ℕ} 0 1 = cc in omega arith)
