-- A run of the first pass: each step of it enters one new key, and leads on from where the run came to.
-- Assumes nothing.
use mathlib.Core.Path.{◌≡◌, refl, sym, ◌∙◌}
use mathlib.Core.Logic.{inl}
use mathlib.Core.Bool.{Bool, true, false}
use mathlib.Core.Option.{none}
use mathlib.Core.List.{List, [], ◌∷◌, ◌++◌}
use Prim.Native.Nat.{ℕ, ◌+◌, ◌-◌, ◌≤◌, ◌<◌}
use native.Mathlib.Omega.{arith}
use lib.ListN.{length}
use lib.Seq.{slice}
use lib.Dec.{ltb}
use borrow.Author.Tests.{lt-ltb, ltb-false}
use Rattle.spec.specs.declared.Size.{Size}
use Rattle.spec.specs.declared.Size.TheVariants as Z
use Rattle.places.specs.Sizes.{power_of}
use Rattle.spec.specs.declared.LogStep.TheVariants as S
use Rattle.spec.specs.Basics.{both}
use Rattle.spec.specs.Places.{chunk_words, word_chunk}
use Rattle.spec.specs.Log.{step_of}
use Rattle.index.specs.Index.{info_at, stop_of, put_at, capacity as table_room}
use Rattle.buffer.specs.Areas.{buffer_words}
use Rattle.volatile.specs.Known.{extent_of, alone, noted}
use Rattle.volatile.proofs.Info.{noted-new}
use Rattle.logs.specs.Cursor.{cursor_at, left}
use Rattle.logs.proofs.Walk.{next-found}
use Rattle.spec.specs.Log.{Entry, words_for}
use Rattle.spec.specs.Contents.{chosen}
use Rattle.theory_log.proofs.Contents.{mem-r}
use Rattle.theory_log.proofs.Walk.{room-entry}
use Rattle.index.specs.Index.{get}
use Rattle.index.proofs.Answers.{look_in}
use Rattle.logs.specs.Stands.{entry_in, StandsIn}
use Rattle.volatile.specs.Known.{info_of, Bounded}
use Rattle.volatile.proofs.Info.{bounded-front, zero-chosen}
use Rattle.volatile.specs.Change.{only, nothing, SumsAlone, Changed, Weighed}
use Rattle.volatile.proofs.Laws.{alone-self, alone-then}
use Rattle.opening.specs.Pass.{Entering, AgainIs, EnteredIs, Owing, Passing, Hastened, Skipped}
use Rattle.opening.proofs.Sums.{owing-more}
use Rattle.opening.proofs.Pass.{enter-new, enter-old, entered-renewed, pass-entry, pass-entered, pass-paid, pass-turned, pass_on}

-- the word of a key with one entry has no bit of several top entries
alone-low : (size : Size) → (extent place version : ℕ) → alone size extent place version < 0x8000_0000_0000_0000
unfolding alone
alone-low Z.Small extent place version = omega arith
alone-low Z.Large extent place version = omega arith

-- a low word leaves each key with a single top entry if it was so
both-low : (single b : Bool) → b ≡ true → single ≡ both single b
both-low true b h = sym h
both-low false b h = refl

-- a later word stands in no earlier chunk
chunk-rises : (size : Size) (a b : ℕ) → a ≤ b → word_chunk (power_of size) a ≤ word_chunk (power_of size) b
unfolding word_chunk chunk_words
chunk-rises Z.Small a b h = omega arith
chunk-rises Z.Large a b h = omega arith

same-chunk : (size : Size) (at from at₀ end : ℕ) → from ≤ at → at₀ ≤ from → at < end → word_chunk (power_of size) (end - 1) ≤ word_chunk (power_of size) at₀ → word_chunk (power_of size) at ≡ word_chunk (power_of size) from
same-chunk size at from at₀ end l g h one =
    let a = chunk-rises size at₀ from g in
    let b = chunk-rises size from at l in
    let c = chunk-rises size at (end - 1) (omega arith) in
    omega arith

pub one_chunk : (size : Size) (at end : ℕ) (wide : Bool) → wide ≡ ltb (word_chunk (power_of size) at) (word_chunk (power_of size) (end - 1)) → wide ≡ false → word_chunk (power_of size) (end - 1) ≤ word_chunk (power_of size) at
one_chunk size at end wide is n = ltb-false (word_chunk (power_of size) at) (word_chunk (power_of size) (end - 1)) (sym is ∙ n)

pub run-start : (size : Size) → (ws : List ℕ) (end : ℕ) (fits : Bool) (table : List ℕ) (keys : ℕ) (single : Bool) (buffer : List ℕ) (at : ℕ) → length buffer ≡ buffer_words → Hastened size ws end fits table keys single buffer at table keys single buffer at at
run-start size ws end fits table keys single buffer at long = record {
  sized = refl;
  kept = alone-self buffer long;
  nearer = λ n c. omega arith;
  start = omega arith;
  farther = omega arith;
  passes = λ n c words direct inv. let z : at - at ≡ 0 = omega arith in rw z (pass-turned size n ws words table keys fits single direct buffer 0 at (cursor_at c at end) inv);
}

-- one step more, from where the run came to: the run's words lie in one chunk
module _ (size : Size) (ws : List ℕ) (end : ℕ) (fits : Bool) (table₀ : List ℕ) (keys₀ : ℕ) (single₀ : Bool) (buffer₀ : List ℕ) (at₀ : ℕ) (one : word_chunk (power_of size) (end - 1) ≤ word_chunk (power_of size) at₀)
    (table : List ℕ) (keys : ℕ) (single : Bool) (buffer : List ℕ) (from at : ℕ) (so_far : Hastened size ws end fits table₀ keys₀ single₀ buffer₀ at₀ table keys single buffer from at)
    (v x k m : ℕ) (q : step_of (slice at end ws) ≡ S.Entry 1 0 v x k m) (slot old : ℕ) (is-slot : slot ≡ stop_of table k) (is_word : old ≡ info_at table slot) (own : ℕ) (is-own : own ≡ alone size (extent_of size 0 x) at v) (so : fits ≡ true) where
  abbrev e : Entry
  e = entry_in ws 1 0 v x k m at

  falls : (n c : ℕ) → left n ws (cursor_at c (at + (2 + m)) end) ≤ left n ws (cursor_at c at₀ end)
  falls n c = let f = (next-found (power_of size) n ws c at end 1 0 v x k m q).falls in let g = so_far.nearer n c in omega arith

  -- a put of a key that the table does not have, while it has room
  pub run_more : old ≡ 0 → keys < table_room (length table₀) → (table' : List ℕ) → table' ≡ put_at table slot k own
      → Hastened size ws end fits table₀ keys₀ single₀ buffer₀ at₀ table' (keys + 1) single buffer from (at + (2 + m))
  run_more zero room table' is-put = record {
    sized = entered.sized ∙ so_far.sized;
    kept = so_far.kept;
    nearer = falls;
    start = so_far.start;
    farther = let f = so_far.farther in omega arith;
    passes = λ n c words direct inv.
        let before = so_far.passes n c words direct inv in
        let told = next-found (power_of size) n ws c at end 1 0 v x k m q in
        pass-entry size n ws words table keys fits single direct buffer from (at - from) (cursor_at c at end) before _ told direct refl own is-own table' (keys + 1) fits single entered
        buffer from (at + (2 + m) - from) (λ es h inside small held owing t. summed before.passed told.stands told.size small ((held.whole t).0 k) (owing t));
  }
    where
      low : own < 0x8000_0000_0000_0000
      low = rw is-own (alone-low size (extent_of size 0 x) at v)

      summed : (xs : List Entry) → StandsIn ws e → m ≡ words_for 0 x → Bounded size (xs ++ e ∷ []) → get table k ≡ info_of size k xs → Owing size buffer from (at - from) xs → Owing size buffer from (at + (2 + m) - from) (xs ++ e ∷ [])
      summed xs stands is-size small holds owing =
          let f = so_far.farther in
          let g = so_far.start in
          let room = room-entry ws at end 1 0 v x k m q in
          let front = bounded-front size xs (e ∷ []) small in
          let own-small = small.each e (mem-r e xs (e ∷ []) (inl refl)) in
          let none_yet : chosen k xs ≡ none = zero-chosen size k xs front (sym holds ∙ sym (is_word ∙ look_in table k slot is-slot) ∙ zero) in
          let long : length e.value ≡ m = stands.right.words ∙ sym is-size in
          let sum : at + (2 + m) - from ≡ (at - from) + (2 + m) = omega arith in
          let here : word_chunk (power_of size) at ≡ word_chunk (power_of size) from = same-chunk size at from at₀ end so_far.farther so_far.start (omega arith) one in
          rw sum (owing-more size buffer from (at - from) m xs e none_yet own-small.version_low own-small.place-high here refl long owing)

      entered : Entering size table table' keys fits single k own (keys + 1) fits single
      entered =
          rw so (enter-new size table keys true single k own slot old is-slot is_word refl table' own (noted-new size old own zero) is-put single (both-low single _ (lt-ltb own 0x8000_0000_0000_0000 low)) zero (rw so_far.sized room))

  -- a put of a key that it has: what is owed is paid first
  pub run-again : (old ≡ 0 → ⊥) → (paid : List ℕ) → Changed buffer paid (only size from (at - from)) nothing → (w : ℕ) → Weighed 1 m w → (table' buffer' : List ℕ) (single' : Bool)
      → AgainIs size ws paid buffer' table table' single slot old k own w single' → Hastened size ws end fits table₀ keys₀ single₀ buffer₀ at₀ table' keys single' buffer' (at + (2 + m)) (at + (2 + m))
  run-again known-key paid change w weighed table' buffer' single' told-again = record {
    sized = entered.entered.sized ∙ so_far.sized;
    kept = alone-then buffer₀ paid buffer' (alone-then buffer₀ buffer paid so_far.kept change.kept) told-again.renewed.kept;
    nearer = falls;
    start = let f = so_far.farther in let g = so_far.start in omega arith;
    farther = omega arith;
    passes = λ n c words direct inv.
        let before = so_far.passes n c words direct inv in
        let told = next-found (power_of size) n ws c at end 1 0 v x k m q in
        let settled = pass-paid size n ws words table keys fits single direct buffer paid from (at - from) (cursor_at c at end) before change in
        let done = pass-entered size n ws words table keys fits single direct paid (cursor_at c at end) settled _ told direct refl own is-own w weighed table' buffer' keys fits single' entered in
        let z : at + (2 + m) - (at + (2 + m)) ≡ 0 = omega arith in
        rw z (pass-turned size n ws words table' keys fits single' direct buffer' 0 (at + (2 + m)) (cursor_at c (at + (2 + m)) end) done);
  }
    where
      entered : EnteredIs size ws paid buffer' table table' keys fits single k own w keys fits single'
      entered =
          rw so (entered-renewed size ws paid buffer' table table' keys true single k own w keys single' slot old is-slot is_word refl told-again.renewed
          (enter-old size table keys true single k own slot old is-slot is_word refl table' (noted size old own) refl told-again.put single' told-again.low known-key))

-- ## A turn of the pass: padding is skipped, a run is made, and what it owes is paid

module _ (size : Size) (n : ℕ) (ws : List ℕ) (end words : ℕ) (table : List ℕ) (keys : ℕ) (fits single direct : Bool) (buffer : List ℕ) (chunk at at' : ℕ) (inv : Passing size n ws words table keys fits single direct buffer 0 0 (cursor_at chunk at end))
    (skipped : Skipped ws end at at') (table' : List ℕ) (keys' : ℕ) (single' : Bool) (run-buffer : List ℕ) (from place : ℕ) (run : Hastened size ws end fits table keys single buffer at' table' keys' single' run-buffer from place)
    (buffer' : List ℕ) (paid : Changed run-buffer buffer' (only size from (place - from)) nothing) where
  pub turn-passes : Passing size n ws words table' keys' fits single' direct buffer' 0 0 (cursor_at chunk place end)
  turn-passes =
      pass-paid size n ws words table' keys' fits single' direct run-buffer buffer' from (place - from) (cursor_at chunk place end)
      (run.passes n chunk words direct (pass_on size n ws words table keys fits single direct buffer 0 0 (cursor_at chunk at end) (cursor_at chunk at' end) inv (skipped.same (power_of size) n chunk))) paid

  pub turn-alone : (start : List ℕ) → SumsAlone start buffer → SumsAlone start buffer'
  turn-alone start k = alone-then start run-buffer buffer' (alone-then start buffer run-buffer k run.kept) paid.kept

  pub turn-nearer : (m c : ℕ) → left m ws (cursor_at c place end) ≤ left m ws (cursor_at c at end)
  turn-nearer m c = let f = skipped.nearer m c in let g = run.nearer m c in omega arith
