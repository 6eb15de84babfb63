-- The known keys that the record counts, on memory as our calls left it.
-- Assumes nothing.
use Rattle.std.proofs.Common.{◌≡◌, ℕ, ◌/◌, Bool, true, false, eqb, List, [], ◌∷◌, length, sym, refl, ap, ◌∙◌, subst, arith, ne_eqb, eqb-true}
use Rattle.spec.specs.Basics.{pick, either}
use Rattle.spec.specs.Medium.{Action}
use Rattle.spec.specs.Log.{Entry, Parsed}
use Rattle.spec.specs.Contents.{keys_of, listed}
use Rattle.spec.specs.Plans.{Task, Staging, Committing, Cleaning, Olds, olds_of, put_back, read_by}
use Rattle.spec.specs.Machine.{State, Closed, Rest, Busy, Formatting}
use Rattle.session.specs.declared.Control.{Control}
use Rattle.session.specs.declared.Setup.{Setup}
use Rattle.session.specs.declared.Session.{Session}
use Rattle.theory_crash.proofs.Opening.{opens_at}
use Rattle.session.specs.State.{power_in, state_at}
use Rattle.session.specs.Fits.{Opens, RestFits, TaskFits, Reads, FitsAt, Fits}
use Rattle.theory_base.proofs.PutBack.{length_back}
use Rattle.inspect.specs.KnownKeys.{is_counted, keys_in, key_count, known_keys, KnownBy}

-- the entries of an accepted image are those that its words say
accepted-count : (p bytes table : ℕ) (ws : List ℕ) (es : List Entry) → length ws ≡ bytes / 8 → Opens p bytes ws table es → length (keys_of es) ≡ key_count p bytes ws
accepted-count p bytes table ws es long h = ap (λ (q : Parsed). length (keys_of (listed q))) (sym (opens_at p bytes table ws es h.power long h.accepts).0.parsed)

module _ (s : Session) (ws table : List ℕ) (items : List Entry) where
  at_rest : RestFits s ws table items → s.control.keys ≡ key_count (power_in s.setup) s.setup.image ws
  at_rest f = f.built.indexed.count ∙ accepted-count (power_in s.setup) s.setup.image s.setup.table ws f.entries f.long f.accepted

  in-call : (task : Task) (rest : List Action) → TaskFits task s items rest ws table × Reads s (olds_of task) rest ws table → s.control.keys ≡ key_count (power_in s.setup) s.setup.image (read_by task rest ws)
  in-call task (a ∷ rest) (f, r) =
      r.built.indexed.count ∙ accepted-count (power_in s.setup) s.setup.image s.setup.table (put_back (olds_of task) ws) r.entries (length_back (olds_of task) ws ∙ r.long) r.shown.0
  in-call Staging [] (f, r) = at_rest f
  in-call (Committing olds) [] (f, r) = f.built.indexed.count ∙ accepted-count (power_in s.setup) s.setup.image s.setup.table ws _ f.long f.accepted
  in-call (Cleaning n olds) [] (f, r) = f.built.indexed.count ∙ accepted-count (power_in s.setup) s.setup.image s.setup.table ws _ f.long f.accepted

-- phases 4 and 5 exclude 6
apart : (c : Control) → (eqb c.phase 4 ≡ true → eqb c.phase 6 ≡ false) × (eqb c.phase 5 ≡ true → eqb c.phase 6 ≡ false)
apart c = (
  (λ h. let e = eqb-true c.phase 4 h in ne_eqb c.phase 6 (λ q. omega arith)),
  (λ h. let e = eqb-true c.phase 5 h in ne_eqb c.phase 6 (λ q. omega arith)),
)

known_at : (c : Control) (k : Setup) (b ws table : List ℕ) → Fits (record { control = c; setup = k; buffer = b }) ws table
    → keys_in c ≡ known_keys (state_at c k b) ws
unfolding state_at
known_at c k b ws table f = go (eqb c.phase 1) (eqb c.phase 2) (eqb c.phase 3) (eqb c.phase 4) (eqb c.phase 5) (eqb c.phase 6) (apart c).0 (apart c).1 _ _ _ _ _ _ _ _ _ f.1
  where
    s : Session
    s = record { control = c; setup = k; buffer = b }

    by : Bool → Bool → Bool → Bool → Bool → Bool → List Entry → ℕ → Olds → Olds → List Action → List Action → List Action → List Action → List Action → State
    by b1 b2 b3 b4 b5 b6 items m o3 o6 a2 a3 a4 a5 a6 =
        pick b1 (Rest (power_in k) k.image k.table items) (pick b2 (Busy (power_in k) k.image k.table items Staging a2) (pick b3 (Busy (power_in k) k.image k.table items (Committing o3) a3)
        (pick b4 (Formatting false k.image k.table a4) (pick b5 (Formatting true k.image k.table a5) (pick b6 (Busy (power_in k) k.image k.table [] (Cleaning m o6) a6) Closed)))))

    go : (b1 b2 b3 b4 b5 b6 : Bool) → (b4 ≡ true → b6 ≡ false) → (b5 ≡ true → b6 ≡ false) → (items : List Entry) (m : ℕ) (o3 o6 : Olds) (a2 a3 a4 a5 a6 : List Action)
        → FitsAt (by b1 b2 b3 b4 b5 b6 items m o3 o6 a2 a3 a4 a5 a6) s ws table → pick (either b1 (either b2 (either b3 b6))) c.keys 0 ≡ known_keys (by b1 b2 b3 b4 b5 b6 items m o3 o6 a2 a3 a4 a5 a6) ws
    go true b2 b3 b4 b5 b6 x y items m o3 o6 a2 a3 a4 a5 a6 g = at_rest s ws table items g
    go false true b3 b4 b5 b6 x y items m o3 o6 a2 a3 a4 a5 a6 g = in-call s ws table items Staging a2 g
    go false false true b4 b5 b6 x y items m o3 o6 a2 a3 a4 a5 a6 g = in-call s ws table items (Committing o3) a3 g
    go false false false true b5 b6 x y items m o3 o6 a2 a3 a4 a5 a6 g = rw (x refl)
    go false false false false true b6 x y items m o3 o6 a2 a3 a4 a5 a6 g = rw (y refl)
    go false false false false false true x y items m o3 o6 a2 a3 a4 a5 a6 g = in-call s ws table [] (Cleaning m o6) a6 g
    go false false false false false false x y items m o3 o6 a2 a3 a4 a5 a6 g = refl

-- what the code shows at its two ends
pub known-keys-are : (c : Control) → KnownBy c (keys_in c)
known-keys-are c k b = (refl, known_at c k b)

pub counted-keys : (c : Control) → is_counted c ≡ true → KnownBy c c.keys
counted-keys c h = subst (λ (n : ℕ). KnownBy c n) (ap (λ (t : Bool). pick t c.keys 0) h) (known-keys-are c)

pub no_keys : (c : Control) → is_counted c ≡ false → KnownBy c 0
no_keys c h = subst (λ (n : ℕ). KnownBy c n) (ap (λ (t : Bool). pick t c.keys 0) h) (known-keys-are c)
