-- The whole pass: what the code shows at a cleaning's last fence.
-- Assumes nothing.
use Rattle.std.proofs.Common.{◌≡◌, ℕ, Bool, List, ◌++◌, ◌∙◌, arith, refl}
use Rattle.spec.specs.declared.Size.{Size}
use Rattle.places.specs.Sizes.{power_of}
use Rattle.spec.specs.Places.{word_chunk}
use Rattle.spec.specs.Log.{Entry}
use Rattle.spec.specs.Basics.{is_in}
use Rattle.spec.specs.Contents.{is_kept, live_blocks}
use Rattle.spec.specs.declared.Refusal.{Refusal}
use Rattle.std.specs.Prelude.{Option, Some, Result, Ok, Err}
use Rattle.std.specs.Result.{result_unwrap_or}
use Rattle.opening.specs.Judged.{JudgingLog}
use Rattle.session.specs.Cleaned.{before, after}
use Rattle.apply.specs.Leaving.{Singles, Leaving}
use Rattle.apply.specs.declared.remove.Removed.{Removed}
use Rattle.apply.specs.Passes.{AllLeft, Holds, Rebuilt, Emptied, Emptying}
use Rattle.apply.proofs.Lists.{leaving-start, live_same}
use Rattle.volatile.specs.Sums.{Summed}
use Rattle.volatile.specs.Change.{TurnedOver}
use Rattle.volatile.proofs.Laws.{alone-bits}
use Rattle.apply.proofs.Turns.{turning}
use Rattle.apply.proofs.Steps.{leaving-single, leaving-end}

-- ## Built anew

module _ (size : Size) (n : ℕ) (ws table table' buffer buffer' : List ℕ) (r : Result ℕ Refusal) (j : JudgingLog size n ws table table' buffer buffer' r) where
  pub built-not : (why : Refusal) → r ≡ Err why → (keys : ℕ) → Rebuilt size n ws buffer buffer' table table' keys
  built-not why e keys = record {
    sized = j.sized;
    kept = j.kept;
    builds = λ most long es a. let w = (rw e at (j.judged most long)).0 in absurd (let z : ◌≡◌ {A = ℕ} 0 1 = cc in omega arith);
  }

  pub built : (keys : ℕ) → r ≡ Ok keys → Rebuilt size n ws buffer buffer' table table' keys
  built keys e = record {
    sized = j.sized;
    kept = j.kept;
    builds = λ most long es a.
        let w = rw e at (j.judged most long) in
        let v = w.1 in
        let q : w.0 ≡ es = cc in
        rw (← q) (record { indexed = w.2; blocks = w.3; sums = w.4 });
  }

  -- by the verdict, or as it is
  pub built-or : (keys : ℕ) → Rebuilt size n ws buffer buffer' table table' (result_unwrap_or r keys)
  built-or keys = go r refl
    where
      go : (q : Result ℕ Refusal) → r ≡ q → Rebuilt size n ws buffer buffer' table table' (result_unwrap_or q keys)
      go (Ok found) e = built found e
      go (Err why) e = built-not why e keys

-- ## At the last fence

module _ (size : Size) (n : ℕ) (ws buffer buffer' table table' : List ℕ) (keys at end from until words keys' : ℕ) where
  -- some key has several top entries: built anew, whatever the pass has left of the table
  pub emptied-anew : (middle : List ℕ) (w : Option Removed) → AllLeft size ws table middle keys at end from until w → Rebuilt size n ws buffer buffer' middle table' keys' → Emptying size n ws buffer buffer' table table' keys at end from until words keys'
  emptied-anew middle w l b = record {
    sized = b.sized ∙ l.sized;
    kept = b.kept;
    leaves = λ xs mid ys as' bs e. b.builds e.most e.long (after xs mid ys as' bs from) (rw l.sized e.accepted);
  }

  -- none has
  pub emptied : TurnedOver size buffer buffer' (word_chunk (power_of size) at) from words → (w : Removed) → AllLeft size ws table table' keys at end from until (Some w) → keys' ≡ w.keys → Emptying size n ws buffer buffer' table table' keys at end from until words keys'
  emptied turned w l is = record {
    sized = l.sized;
    kept = turned.kept.long;
    leaves = go;
  }
    where
      go : (xs mid ys as' bs : List Entry) → Emptied size n ws buffer table keys at end from until words xs mid ys as' bs → Holds size buffer' table' keys' (after xs mid ys as' bs from)
      go xs mid ys as' bs e = ready (before xs mid ys) (after xs mid ys as' bs from) (is_kept (before xs mid ys) (xs ++ ys)) (leaving-start size xs mid ys as' bs from e.cleaned ws until table keys e.holds.indexed e.copied) (live_same size xs mid ys as' bs from e.cleaned) (λ s. turned.turns (before xs mid ys) (after xs mid ys as' bs from) (turning size xs mid ys as' bs from e.cleaned s (word_chunk (power_of size) at) words e.moves) e.holds.sums)
        where
          ready : (es out : List Entry) (test : Entry → Bool) → Leaving size ws until es mid out test table keys mid from → (Singles mid es → (u : ℕ) → is_in u (live_blocks (before xs mid ys)) ≡ is_in u (live_blocks out)) → (Singles mid es → Summed size buffer' out) → Holds size buffer' table' keys' out
          ready es out test begun live summed =
              let over = l.leaves es mid out test e.here begun in
              record {
                indexed = rw is (leaving-end size ws until es mid out test table' w.keys w.to over);
                blocks = λ u. alone-bits size buffer buffer' turned.kept u ∙ e.holds.blocks u ∙ live (leaving-single size ws until es mid out test table' w.keys w.to over) u;
                sums = summed (leaving-single size ws until es mid out test table' w.keys w.to over);
              }
