-- What the code shows of the table of some classes: one law for each return of an insertion, and the steps of the pass.
-- Assumes nothing.
use mathlib.Core.Path.{◌≡◌, refl, sym, ◌∙◌, ap}
use mathlib.Core.Bool.{Bool, true, false}
use Rattle.std.specs.Prelude.{Option, Some, None}
use mathlib.Core.List.{List, [], ◌∷◌, ◌++◌, append-nil}
use Prim.Native.Nat.{ℕ, ◌+◌, ◌/◌, ◌≤◌, ◌<◌}
use native.Mathlib.Omega.{arith}
use lib.ListN.{length, length-replicate}
use borrow.Author.Tests.{le-ltb}
use Rattle.spec.specs.declared.Size.{Size}
use Rattle.places.specs.Sizes.{power_of}
use Rattle.spec.specs.Basics.{negate, both}
use Rattle.spec.specs.Places.{max_chunks}
use Rattle.spec.specs.Log.{Entry, Entries, image_entries}
use Rattle.theory_base.proofs.Lists.{not-both, filter-append, filter_none}
use Rattle.theory_log.specs.Contents.{Mem}
use Rattle.theory_log.proofs.Tops.{in_all}
use Rattle.index.specs.Index.{info_at, stop_of, get, insert, put_at, zeros, capacity as table_room}
use Rattle.index.proofs.Laws.{insert-length}
use Rattle.index.proofs.Answers.{look_in, put-insert}
use Rattle.volatile.specs.Known.{extent_of, alone, noted, FillInv}
use Rattle.volatile.proofs.Info.{bounded-front}
use Rattle.volatile.proofs.Grow.{capacity-same}
use Rattle.volatile.proofs.Image.{image_bounded}
use Rattle.volatile.proofs.Fill.{fill_start, fill-old, fill-new, fill_end}
use Rattle.logs.specs.declared.Cursor.{Cursor}
use Rattle.logs.specs.declared.Entry as H
use Rattle.logs.specs.Cursor.{start, cursor_at, remaining, with_value, Handed}
use Rattle.consistency.specs.Classes.{class_of, within, marked, asked, class_in}
use Rattle.consistency.specs.Passing.{Passed, PassedOver, Entering, Collecting}
use Rattle.consistency.proofs.Classes.{class-bounded}
use Rattle.consistency.proofs.Passed.{passed_start, passed-done, passed-next}

-- ## One more entry

-- of the range, and of another
module _ (low high : ℕ) (xs : List Entry) (e : Entry) where
  pub class-last : within low high e.key ≡ true → class_in low high (xs ++ e ∷ []) ≡ class_in low high xs ++ e ∷ []
  class-last h = filter-append (λ (x : Entry). within low high x.key) xs (e ∷ []) ∙ rw h

  pub class-other : within low high e.key ≡ false → class_in low high (xs ++ e ∷ []) ≡ class_in low high xs
  class-other h = filter-append (λ (x : Entry). within low high x.key) xs (e ∷ []) ∙ rw (h, append-nil (class_in low high xs))

module _ (size : Size) (table : List ℕ) (keys low high key own : ℕ) where
  pub enter-other : within low high key ≡ false → Entering size table table keys low high key own (Some keys)
  enter-other h = record { sized = refl; enters = λ xs e k o b inv keys' t. let q : keys ≡ keys' = cc in rw (← q, class-other low high xs e (ap (within low high) k ∙ h)) inv }

  pub enter-full : (table' : List ℕ) → length table' ≡ length table → Entering size table table' keys low high key own None
  enter-full table' l = record { sized = l; enters = λ xs e k o b inv keys' t. cc }

  module _ (h : within low high key ≡ true) (slot old : ℕ) (is-slot : slot ≡ stop_of table key) (is_word : old ≡ info_at table slot) (table' : List ℕ) (info : ℕ) (is-info : info ≡ noted size old own)
      (is-put : table' ≡ put_at table slot key info) where
    is-old : old ≡ get table key
    is-old = is_word ∙ look_in table key slot is-slot

    is-table : table' ≡ insert table key info
    is-table = is-put ∙ put-insert table key slot is-slot info

    long : length table' ≡ length table
    long = ap length is-table ∙ insert-length table key info

    pub enter-new : old ≡ 0 → keys < table_room (length table) → Entering size table table' keys low high key own (Some (keys + 1))
    enter-new z c = record {
      sized = long;
      enters = λ xs e k o b inv keys' t.
          let last = class-last low high xs e (ap (within low high) k ∙ h) in
          let q : keys + 1 ≡ keys' = cc in
          rw (← q, last) (fill-new size (length table) (class_in low high xs) e table table' keys old info inv (rw last at b) (rw k is-old) (rw o is-info) (rw k is-table) z (rw (capacity-same (length table)) c));
    }

    pub enter-old : (old ≡ 0 → ⊥) → Entering size table table' keys low high key own (Some keys)
    enter-old n = record {
      sized = long;
      enters = λ xs e k o b inv keys' t.
          let last = class-last low high xs e (ap (within low high) k ∙ h) in
          let q : keys ≡ keys' = cc in
          rw (← q, last) (fill-old size (length table) (class_in low high xs) e table table' keys old info inv (rw last at b) (rw k is-old) (rw o is-info) (rw k is-table) n);
    }

-- ## The pass

-- entries that are passed over with no marks are of other classes
pub marked-none : (key : ℕ) → marked [] key ≡ true
marked-none key = rw (le-ltb (class_of key / 0x4_0000) 0 (omega arith))

pub class-over : (low high : ℕ) (xs over : List Entry) → ((e : Entry) → Mem e over → asked false [] low high e.key ≡ false) → class_in low high (xs ++ over) ≡ class_in low high xs
class-over low high xs over h =
    filter-append (λ (x : Entry). within low high x.key) xs over
    ∙ ap (class_in low high xs ++◌) (filter_none (λ (x : Entry). within low high x.key) over (in_all _ over (λ e m. not-asked (within low high e.key) (ap (both (within low high e.key)) (sym (marked-none e.key)) ∙ h e m)))) ∙ append-nil (class_in low high xs)
  where
    not-asked : (b : Bool) → both b true ≡ false → negate b ≡ true
    not-asked true q = absurd (not-both true refl q)
    not-asked false q = refl

-- at a cursor: the table is that of the entries of the range that are passed
pub record Reached (size : Size) (n : ℕ) (ws : List ℕ) (words : ℕ) (table : List ℕ) (keys low high : ℕ) (c : Cursor) : Type 0 where
  pub sized : length table ≡ words
  pub holds : n ≤ max_chunks → (es : List Entry) → image_entries (power_of size) n ws ≡ Entries es → (xs : List Entry) × Passed (power_of size) n ws c es xs × FillInv size words (class_in low high xs) table keys true

module _ (size : Size) (n : ℕ) (ws : List ℕ) (low high : ℕ) where
  pub reached-start : (words : ℕ) (table : List ℕ) → table ≡ zeros words → (c : Cursor) → c ≡ start → Reached size n ws (length table) table 0 low high c
  reached-start words table e c q = record {
    sized = refl;
    holds = λ most es h. ([], passed_start (power_of size) n ws c es q h, rw (e, length-replicate {A = ℕ} words 0) (fill_start size words));
  }

  module _ (words : ℕ) (table : List ℕ) (keys chunk at end : ℕ) (inv : Reached size n ws words table keys low high (cursor_at chunk at end)) (marks : List ℕ) (none-marked : marks ≡ []) (at' : ℕ)
      (run : PassedOver ws end false marks low high at at') where
    pub reached-over : Reached size n ws words table keys low high (cursor_at chunk at' end)
    reached-over = record {
      sized = inv.sized;
      holds = λ most es h.
          let i = inv.holds most es h in (
            i.0 ++ run.over,
            run.passes (power_of size) n chunk es i.0 i.1,
            rw (class-over low high i.0 run.over (λ e m. rw none-marked at (run.unasked e m))) i.2,
          );
    }

  module _ (words : ℕ) (table : List ℕ) (keys : ℕ) (c : Cursor) (inv : Reached size n ws words table keys low high c) where
    module _ (h : H.Entry) (given : Handed (power_of size) n ws c h) (own : ℕ) (is-own : own ≡ alone size (extent_of size h.placement h.field) h.place h.version) (table' : List ℕ) (fits : Option ℕ) (keys' : ℕ)
        (entered : Entering size table table' keys low high h.key own fits) where
      pub reached-next : fits ≡ Some keys' → Reached size n ws words table' keys' low high h.behind
      reached-next t = record {
        sized = entered.sized ∙ inv.sized;
        holds = λ most es g.
            let i = inv.holds most es g in
            let f = with_value ws h in
            let p = passed-next (power_of size) n ws c es i.0 i.1 h given in
            let small = class-bounded size low high (i.0 ++ f ∷ []) (bounded-front size (i.0 ++ f ∷ []) p.rest (rw p.split at (image_bounded size n ws es g most))) in
            (i.0 ++ f ∷ [], p, rw inv.sized at (entered.enters i.0 f refl (sym is-own) small (rw inv.sized i.2) keys' t));
      }

    module _ (before : List ℕ) (cleared : words ≡ length (zeros (length before))) where
      same : words ≡ length before
      same = cleared ∙ length-replicate (length before) 0

      pub reached-full : (table' : List ℕ) → length table' ≡ length table → (fits : Option ℕ) → fits ≡ None → Collecting size n ws before table' low high None
      reached-full table' l fits f = record { sized = l ∙ inv.sized ∙ same; holds = λ most es h keys' t. cc }

      pub reached-done : remaining (power_of size) n ws c ≡ Entries [] → Collecting size n ws before table low high (Some keys)
      reached-done q = record {
        sized = inv.sized ∙ same;
        holds = λ most es h keys' t.
            let i = inv.holds most es h in
            let k : keys ≡ keys' = cc in
            let all = passed-done (power_of size) n ws c es i.0 i.1 q in
            rw (← k) (fill_end size words (class_in low high es) table keys (rw all at i.2));
      }
