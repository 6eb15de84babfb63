-- What the code shows of a pass over a range of classes, and of one range after the other.
-- Assumes nothing.
use mathlib.Core.Path.{◌≡◌, refl, ◌∙◌}
use mathlib.Core.Logic.{inl}
use mathlib.Core.Bool.{Bool, false}
use mathlib.Core.List.{List, [], ◌∷◌, ◌++◌, append-nil}
use Prim.Native.Nat.{ℕ, ◌≤◌}
use lib.ListN.{length, get_or}
use Rattle.places.specs.Sizes.{power_of, unit_count}
use Rattle.spec.specs.declared.Size.{Size}
use Rattle.spec.specs.Places.{max_chunks}
use Rattle.spec.specs.Log.{Entry, Wrong, Entries, image_entries}
use Rattle.theory_log.proofs.Contents.{mem-r}
use Rattle.logs.specs.declared.Cursor.{Cursor}
use Rattle.std.specs.Prelude.{Option, None, unwrap_or}
use Rattle.logs.specs.declared.Entry as H
use Rattle.logs.specs.Cursor.{start, cursor_at, remaining, with_value, Handed}
use Rattle.consistency.specs.Classes.{class_in}
use Rattle.consistency.specs.Passing.{Passed, PassedOver, Collecting}
use Rattle.consistency.proofs.Passed.{passed_start, passed-done, passed-wrong, passed-split, passed-next}
use Rattle.consistency.proofs.Collects.{class-over}
use Rattle.consistency.specs.Pass.{ListedIn}
use Rattle.consistency.proofs.Sweeps.{class-grown}
use Rattle.consistency.proofs.Tests.{Known, class-none, class-either}
use Rattle.faults.specs.declared.top.Spots.{Spots}
use Rattle.faults.specs.Spots.{Found, VisitedIs, SweptAs}
use Rattle.faults.proofs.Adding.{found_none, found-fewer}

-- ## A range

-- at a cursor: what is found is found of the entries xs and of those of the range that are passed
pub record Going (size : Size) (n : ℕ) (ws table : List ℕ) (fits : Bool) (low high : ℕ) (so : Spots) (before now : List ℕ) (s : Spots) (c : Cursor) : Type 0 where
  pub sized : length now ≡ length before
  pub finds : (es xs : List Entry) → ListedIn size n ws table fits low high es → Found size n ws es xs before so → (ps : List Entry) × Passed (power_of size) n ws c es ps × Found size n ws es (xs ++ class_in low high ps) now s

module _ (size : Size) (n : ℕ) (ws table : List ℕ) (fits : Bool) (low high : ℕ) (so : Spots) (before : List ℕ) where
  pub going_start : (c : Cursor) → c ≡ start → Going size n ws table fits low high so before before so c
  going_start c q = record { sized = refl; finds = λ es xs l inv. ([], passed_start (power_of size) n ws c es q l.entries, rw (append-nil xs) inv) }

  -- past entries of other classes
  pub going-over : (now : List ℕ) (s : Spots) (chunk at end : ℕ) → Going size n ws table fits low high so before now s (cursor_at chunk at end) → (marks : List ℕ) → marks ≡ [] → (at' : ℕ)
      → PassedOver ws end false marks low high at at' → Going size n ws table fits low high so before now s (cursor_at chunk at' end)
  going-over now s chunk at end inv marks z at' run = record {
    sized = inv.sized;
    finds = λ es xs l first.
        let i = inv.finds es xs l first in (
          i.0 ++ run.over,
          run.passes (power_of size) n chunk es i.0 i.1,
          rw (class-over low high i.0 run.over (λ e m. rw z at (run.unasked e m))) i.2,
        );
  }

  module _ (now : List ℕ) (s : Spots) (c : Cursor) (inv : Going size n ws table fits low high so before now s c) where
    pub going_done : remaining (power_of size) n ws c ≡ Entries [] → SweptAs size n ws table fits low high so before now s
    going_done q = record { sized = inv.sized; finds = λ es xs l first. let i = inv.finds es xs l first in rw (passed-done (power_of size) n ws c es i.0 i.1 q) at i.2 }

    pub going-wrong : remaining (power_of size) n ws c ≡ Wrong → SweptAs size n ws table fits low high so before now s
    going-wrong q = record { sized = inv.sized; finds = λ es xs l first. let i = inv.finds es xs l first in absurd (passed-wrong (power_of size) n ws c es i.0 i.1 q) }

    pub going_next : (h : H.Entry) → Handed (power_of size) n ws c h → (after : List ℕ) (s' : Spots) → VisitedIs size n ws table fits low high s h now after s' → Going size n ws table fits low high so before after s' h.behind
    going_next h given after s' visited = record {
      sized = visited.sized ∙ inv.sized;
      finds = λ es xs l first.
          let i = inv.finds es xs l first in
          let e = with_value ws h in
          let p = passed-split (power_of size) n ws c es i.0 i.1 h given in (
            i.0 ++ e ∷ [],
            passed-next (power_of size) n ws c es i.0 i.1 h given,
            rw (class-grown low high xs i.0 (e ∷ [])) (visited.finds es (xs ++ class_in low high i.0) h.words l (rw p.1 (mem-r e i.0 (e ∷ p.0) (inl refl))) i.2),
          );
    }

-- ## One range after the other

-- the classes below `low` are done
pub record Done (size : Size) (n : ℕ) (ws units : List ℕ) (s : Spots) (low : ℕ) : Type 0 where
  pub finds : (es : List Entry) → n ≤ max_chunks → image_entries (power_of size) n ws ≡ Entries es → Found size n ws es (class_in 0 low es) units s

module _ (size : Size) (n : ℕ) (ws : List ℕ) where
  pub done_none : (units : List ℕ) → unit_count size ≤ length units → ((u : ℕ) → get_or units u 0 ≡ 0) → Done size n ws units (record { block = None; tops = None }) 0
  done_none units long zero = record { finds = λ es few h. rw (class-none es) (found_none size n ws es units long zero) }

  pub done_next : (units : List ℕ) (s : Spots) (low : ℕ) → Done size n ws units s low → (high : ℕ) → low ≤ high → (own held table : List ℕ) (fits : Bool) (keys : Option ℕ) → Collecting size n ws own held low high keys → Known keys held fits table
      → (after : List ℕ) (s' : Spots) → SweptAs size n ws table fits low high s units after s' → Done size n ws after s' high
  done_next units s low inv high rises own held table fits keys collected known after s' swept = record {
    finds = λ es few h.
        found-fewer size n ws es (class_in 0 low es ++ class_in low high es) after s'
        (swept.finds es (class_in 0 low es) (record { few = few; entries = h; keys = unwrap_or keys 0; indexed = λ t. let k = known t in rw k.1 (collected.holds few es h (unwrap_or keys 0) k.0) }) (inv.finds es few h)) (class_in 0 high es) (class-either low high es rises);
  }
