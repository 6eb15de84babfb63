-- What a step of a cleaning shows is what the contract of a step says.
-- Assumes nothing.
use mathlib.Core.Path.{◌≡◌, refl, ◌∙◌, ap}
use mathlib.Core.Logic.{inl, inr}
use mathlib.Core.List.{List, [], ◌∷◌}
use Prim.Native.Nat.{ℕ, ◌+◌}
use lib.ListN.{length, drop}
use Rattle.spec.specs.Words.{words_of}
use Rattle.spec.specs.Medium.{Action}
use Rattle.spec.specs.Plans.{Cleaning}
use Rattle.spec.specs.Machine.{Step, State, Rest, Busy}
use Rattle.session.specs.declared.Control.{Control}
use Rattle.session.specs.declared.Setup.{Setup}
use Rattle.session.specs.declared.Source.{Source}
use Rattle.session.specs.declared.Session.{Session}
use Rattle.spec.specs.declared.Report.{Report}
use Rattle.session.specs.State.{power_in, clean_olds, batch_words, batch_items, clean_actions, state_at}
use Rattle.session.specs.Fits.{CleanFits, RestFits, Fits, Reads}
use Rattle.actions.specs.Nth.{nth}
use Rattle.actions.proofs.Acting.{clean-next, clean-done}
use Rattle.stepping.specs.Moves.{Acts, Over, CleanStepped}
use Rattle.actions.proofs.States.{busy, at-6, step-acts, step-ends}
use Rattle.session.specs.Promise.{Does, memory}
use Rattle.session.specs.Numbers.{ended_empty}

module _ (c : Control) (k : Setup) (b bytes table : List ℕ) (e : c.phase ≡ 6) (same_bytes : k.image ≡ length bytes) (same-words : k.table ≡ length table) where
  abbrev s : Session
  s = record { control = c; setup = k; buffer = b }

  abbrev with' : Control → List ℕ → Session
  with' c' b' = record { control = c'; setup = k; buffer = b' }

  abbrev f : Source
  f = k.source

  abbrev acts : List Action
  acts = clean_actions k f b

  abbrev F : List Action → State
  F = Busy (power_in k) k.image k.table [] (Cleaning f.entries (clean_olds k f))

  -- memory as the calls left it, in a cleaning
  fitting : Fits s (words_of bytes) table → CleanFits c k f b (words_of bytes) table (drop c.next acts) × Reads s (clean_olds k f) (drop c.next acts) (words_of bytes) table
  fitting q = rw (at-6 c k b e) at q.1

  -- an action
  module _ (c' : Control) (b' bytes' table' : List ℕ) (r : Report) (t : Acts c c' k f b b' bytes bytes' table table' r) where
    here : state_at c k b ≡ F (nth acts c.next ∷ drop (c.next + 1) acts)
    here = at-6 c k b e ∙ ap F (clean-next k f b c.next t.here)

    moved : state_at c' k b' ≡ F (drop (c.next + 1) (clean_actions k f b'))
    moved =
        at-6 c' k b' (ap (λ (x : Control). x.phase) t.control)
        ∙ ap (λ (n : ℕ). F (drop n (clean_actions k f b'))) (ap (λ (x : Control). x.next) t.control)

    acted : Does Step (memory s bytes table) (memory (with' c' b') bytes' table') r
    acted =
        rw t.report
        (step-acts s (with' c' b') bytes bytes' table table' k.image k.table f.entries (Rest (power_in k) k.image k.table []) F (busy (power_in k) k.image k.table [] (Cleaning f.entries (clean_olds k f))) same_bytes same-words
        (nth acts c.next) (drop (c.next + 1) acts) here (moved ∙ ap F t.behind) (rw t.report at t.changed) t.sized (rw (at-6 c k b e) tt)
        (λ q. (t.kept ∙ q.0, rw moved (t.fits (fitting q).0, t.reads (clean_olds k f) (fitting q).1))))

  -- the end
  module _ (c' : Control) (b' bytes' table' : List ℕ) (r : Report) (t : Over c c' k f b b' bytes bytes' table table' r) where
    last : state_at c k b ≡ F []
    last = at-6 c k b e ∙ ap F (clean-done k f b c.next t.past)

    rests : CleanFits c k f b (words_of bytes) table (drop c.next acts) → RestFits (with' (ended_empty c) b) (words_of bytes) table []
    rests = rw (t.control, t.buffer, t.unchanged, t.same) at t.fits

    over : Does Step (memory s bytes table) (memory (with' c' b') bytes' table') r
    unfolding state_at batch_items batch_words
    over =
        rw (t.report, t.control, t.buffer, t.unchanged, t.same)
        (step-ends s (with' (ended_empty c) b) bytes bytes table table k.image k.table f.entries (Rest (power_in k) k.image k.table []) F (busy (power_in k) k.image k.table [] (Cleaning f.entries (clean_olds k f)))
        same_bytes same-words last refl (λ q. (q.0, rests (fitting q).0)))

  pub cleans : (c' : Control) (b' bytes' table' : List ℕ) (r : Report) → CleanStepped c c' k f b b' bytes bytes' table table' r → Does Step (memory s bytes table) (memory (with' c' b') bytes' table') r
  cleans c' b' bytes' table' r (inl t) = acted c' b' bytes' table' r t
  cleans c' b' bytes' table' r (inr t) = over c' b' bytes' table' r t
