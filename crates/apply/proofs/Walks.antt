-- The pass over the words of a chunk: at the beginning, after one more entry, and at the end.
-- Assumes nothing.
use Rattle.std.proofs.Common.{◌≡◌, ℕ, ◌+◌, ◌<◌, Bool, true, List, [], ◌∷◌, length, sym, refl, ◌∙◌, inl, arith}
use lib.Seq.{slice}
use Rattle.spec.specs.declared.Size.{Size}
use Rattle.places.specs.Sizes.{power_of}
use Rattle.spec.specs.declared.LogStep.TheVariants as S
use Rattle.spec.specs.Log.{Entry, Entries, step_of}
use Rattle.theory_base.proofs.Lists.{not-both}
use Rattle.theory_log.proofs.Parse.{cons_inv}
use Rattle.logs.specs.declared.Cursor.{Cursor}
use Rattle.logs.specs.declared.Entry as F
use Rattle.std.specs.Prelude.{Some}
use Rattle.logs.specs.Stands.{entry_in}
use Rattle.logs.specs.Cursor.{cursor_at, remaining, with_value, Handed}
use Rattle.logs.proofs.Walk.{next-found}
use Rattle.forward.proofs.Walks.{Left, from-here, none_left, one_left}
use Rattle.apply.specs.Leaving.{Leaving, Marked}
use Rattle.session.specs.Cleaned.{Stand}
use Rattle.apply.specs.declared.remove.Removed.{Removed}
use Rattle.apply.specs.declared.remove.Run.{Run}
use Rattle.apply.specs.Passes.{IsCopied, OneLeft, PutsLeft, AllLeft}

-- ## A run of puts: at its beginning, and after one more

module _ (size : Size) (ws table : List ℕ) (keys from end to : ℕ) where
  pub puts-start : PutsLeft size ws table table keys from end to (Some (record { keys = keys; to = to; at = from }))
  puts-start = record { sized = refl; passing = record { nearer = λ n c. omega arith; passes = λ c until es mid out test todo is l. (todo, is, l) } }

  module _ (now' : List ℕ) (so copy a : ℕ) (p : PutsLeft size ws table now' keys from end to (Some (record { keys = so; to = copy; at = a }))) where
    pub puts-more : (v x k m : ℕ) → step_of (slice a end ws) ≡ S.Entry 1 0 v x k m → m < 0x2000_0000_0000_0000 → (next' : List ℕ) (r : Removed) → OneLeft size now' next' so k a copy (2 + m) true (Some r)
        → PutsLeft size ws table next' keys from end to (Some (record { keys = r.keys; to = r.to; at = a + (2 + m) }))
    puts-more v x k m q few next' r one = record {
      sized = one.sized ∙ p.sized;
      passing = record {
        nearer = λ n c. let f = (next-found (power_of size) n ws c a end 1 0 v x k m q).falls in let g = p.passing.nearer n c in omega arith;
        passes = λ c until es mid out test todo is l.
            let w = p.passing.passes c until es mid out test todo is l in
            let f = next-found (power_of size) 0 ws c a end 1 0 v x k m q in
            let e = entry_in ws 1 0 v x k m a in
            let u = cons_inv e (remaining (power_of size) 0 ws (cursor_at c (a + (2 + m)) end)) w.0 (sym f.whole ∙ w.1) in
            let long : length e.value ≡ m = f.stands.right.words ∙ sym f.size in
            let marked : Marked test true u.0 e = record { by = λ y. inl refl; not = λ y. absurd (not-both true refl y) } in
            (u.0, u.1, one.leaves ws until es mid out test u.0 e refl refl (omega arith) (omega arith) marked (rw u.2 at w.2));
      };
    }

-- ## All of them

pub record LeavesOn (size : Size) (ws table₀ : List ℕ) (keys₀ at end from until : ℕ) (table : List ℕ) (keys to : ℕ) (c : Cursor) : Type 0 where
  pub sized : length table ≡ length table₀
  pub goes : (es mid out : List Entry) (test : Entry → Bool) → Stand ws at end mid → Leaving size ws until es mid out test table₀ keys₀ mid from → (todo : List Entry) × Left size ws c todo × Leaving size ws until es mid out test table keys todo to

pub leaves-start : (size : Size) → (ws table : List ℕ) (keys at end from until : ℕ) → LeavesOn size ws table keys at end from until table keys from (cursor_at 0 at end)
leaves-start size ws table keys at end from until = record { sized = refl; goes = λ es mid out test s l. (mid, from-here size ws at end ∙ s, l) }

module _ (size : Size) (ws table₀ : List ℕ) (keys₀ at end from until : ℕ) (table : List ℕ) (keys to : ℕ) where
  -- behind a run
  pub leaves_run : (c : Cursor) → LeavesOn size ws table₀ keys₀ at end from until table keys to c → (table' : List ℕ) (r : Run) → PutsLeft size ws table table' keys c.at c.end to (Some r)
      → LeavesOn size ws table₀ keys₀ at end from until table' r.keys r.to (cursor_at c.chunk r.at c.end)
  leaves_run c inv table' r p = record {
    sized = p.sized ∙ inv.sized;
    goes = λ es mid out test s l. let q = inv.goes es mid out test s l in p.passing.passes c.chunk until es mid out test q.0 q.1 q.2;
  }

  module _ (c : Cursor) (inv : LeavesOn size ws table₀ keys₀ at end from until table keys to c) where
    pub leaves-done : remaining (power_of size) 0 ws c ≡ Entries [] → AllLeft size ws table₀ table keys₀ at end from until (Some (record { keys = keys; to = to }))
    leaves-done told = record {
      sized = inv.sized;
      leaves = λ es mid out test s l. let q = inv.goes es mid out test s l in rw (none_left size ws c q.0 q.1 told) at q.2;
    }

    pub leaves-next : (f : F.Entry) → Handed (power_of size) 0 ws c f → f.words < 0x2000_0000_0000_0000 → (copied : Bool) → IsCopied ws to until f.op f.key copied
        → (table' : List ℕ) (w : Removed) → OneLeft size table table' keys f.key f.place to (2 + f.words) copied (Some w) → LeavesOn size ws table₀ keys₀ at end from until table' w.keys w.to f.behind
    leaves-next f told few copied marks table' w p = record {
      sized = p.sized ∙ inv.sized;
      goes = λ es mid out test s l.
          let q = inv.goes es mid out test s l in
          let o = one_left size ws c q.0 q.1 f told in
          let e = with_value ws f in
          let long : length e.value ≡ f.words = told.stands.right.words ∙ sym told.size in
          let now' : Leaving size ws until es mid out test table keys (e ∷ o.0) to = rw o.2 at q.2 in
          (o.0, o.1, p.leaves ws until es mid out test o.0 e refl refl (omega arith) (omega arith) (marks.marks test o.0 e refl refl now'.standing) now');
    }
