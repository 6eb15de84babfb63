-- The medium and the desk book on short histories, computed: a medium that loses nothing, or a book that forgets
-- nothing, fails here.
-- Assumes nothing.
use mathlib.Core.Bool.{Bool, true, false}
use mathlib.Core.Option.{Option, none, some}
use mathlib.Core.List.{List, [], ◌∷◌, ◌++◌, map}
use Prim.Native.Nat.{ℕ}
use lib.Dec.{T, eqb}
use lib.ListN.{replicate}
use Rattle.spec.specs.Basics.{every, same_list, pick}
use Rattle.spec.specs.Medium.{Action, Store, Flush, Fence, Medium, run, values, cell_at, latest, cut, settled_at}
use Rattle.spec.specs.Contents.{Held, Absent, Value, same_held}
use Rattle.spec.specs.Machine.{Put, Delete, Commit, Abandon, Step}
use Rattle.spec.specs.Book.{Item, Book, new_book, note, note_cut, note_open}
use Rattle.std.specs.declared.option.Option.TheVariants as G
use Rattle.spec.specs.declared.Refusal.TheVariants as N
use Rattle.spec.specs.declared.Report.TheVariants as R

-- THE MEDIUM: two lines of words that are 5; the possible values of word 3, newest first, after some actions
abbrev made : List Action → Medium
made acts = run acts (settled_at (replicate 16 5))

abbrev leaves : List Action → List ℕ → Bool
leaves acts vs = same_list (values (cell_at (made acts) 3)) vs

abbrev media : List Bool
media =
    leaves [] (5 ∷ [])
    -- a store adds a value; a flush or a fence alone drops none, nor does the flush of another line
    ∷ leaves (Store 3 6 ∷ []) (6 ∷ 5 ∷ [])
    ∷ leaves (Store 3 6 ∷ Flush 0 ∷ []) (6 ∷ 5 ∷ [])
    ∷ leaves (Store 3 6 ∷ Fence ∷ []) (6 ∷ 5 ∷ [])
    ∷ leaves (Store 3 6 ∷ Flush 1 ∷ Fence ∷ []) (6 ∷ 5 ∷ [])
    -- a fence drops all before the mark; a store behind the flush is no mark, and both values stay
    ∷ leaves (Store 3 6 ∷ Flush 0 ∷ Fence ∷ []) (6 ∷ [])
    ∷ leaves (Store 3 6 ∷ Store 3 7 ∷ Flush 0 ∷ Fence ∷ []) (7 ∷ [])
    ∷ leaves (Store 3 6 ∷ Flush 0 ∷ Store 3 7 ∷ Fence ∷ []) (7 ∷ 6 ∷ [])
    ∷ leaves (Store 3 6 ∷ Flush 0 ∷ Store 3 7 ∷ Flush 0 ∷ Fence ∷ []) (7 ∷ [])
    ∷ leaves (Store 3 6 ∷ Flush 0 ∷ Fence ∷ Store 3 7 ∷ Fence ∷ []) (7 ∷ 6 ∷ [])
    -- a cut picks for each word; the processor reads the newest; picked values are the only ones
    ∷ same_list (latest (made (Store 0 6 ∷ Store 15 7 ∷ []))) (6 ∷ (replicate 14 5 ++ (7 ∷ [])))
    ∷ same_list (cut (λ i. 1) (made (Store 0 6 ∷ Store 15 7 ∷ []))) (replicate 16 5)
    ∷ same_list (cut (λ i. pick (eqb i 0) 1 0) (made (Store 0 6 ∷ Store 15 7 ∷ []))) (replicate 15 5 ++ (7 ∷ []))
    ∷ same_list (cut (λ i. 2) (made (Store 3 6 ∷ Flush 0 ∷ Store 3 7 ∷ []))) (5 ∷ 5 ∷ 5 ∷ 5 ∷ replicate 12 5)
    ∷ same_list (cut (λ i. 1) (settled_at (cut (λ i. 0) (made (Store 3 6 ∷ []))))) (5 ∷ 5 ∷ 5 ∷ 6 ∷ replicate 12 5)
    ∷ []

-- THE BOOK: what keys 7 and 9 have, the keys in the tray, and those of the batch in hand
abbrev item_keys : List Item → List ℕ
item_keys is = map (λ (i : Item). i.key) is

abbrev same_batch : Option (List Item) → Option (List ℕ) → Bool
same_batch none none = true
same_batch none (some ks) = false
same_batch (some is) none = false
same_batch (some is) (some ks) = same_list (item_keys is) ks

abbrev says : Book → Held → Held → List ℕ → Option (List ℕ) → Bool
says b seven nine tray batch =
    every (same_held (b.register 7) seven ∷ same_held (b.register 9) nine ∷ same_list (item_keys b.staged) tray ∷ same_batch b.in-flight batch ∷ [])

-- key 7 has a byte; its delete and a put of 9 are staged; their commit is begun; its end is reported
abbrev start : Book
start = new_book (λ k. pick (eqb k 7) (Value (104 ∷ [])) Absent)

abbrev staged : Book
staged = note Step (R.End 0) (note (Put G.None 9 (33 ∷ [])) (R.Begun 0) (note Step (R.End 0) (note (Delete G.None 7) (R.Begun 0) start)))

abbrev committing : Book
committing = note Step R.Fence (note Commit (R.Begun 13) staged)

abbrev books : List Bool
books =
    says start (Value (104 ∷ [])) Absent [] none
    ∷ says staged (Value (104 ∷ [])) Absent (7 ∷ 9 ∷ []) none
    ∷ says committing (Value (104 ∷ [])) Absent [] (some (7 ∷ 9 ∷ []))
    ∷ says (note Step (R.End 0) committing) Absent (Value (33 ∷ [])) [] none
    -- refused calls, and a refused step, change nothing
    ∷ says (note (Put G.None 9 []) (R.Refused N.BatchFull) staged) (Value (104 ∷ [])) Absent (7 ∷ 9 ∷ []) none
    ∷ says (note Commit (R.Refused N.NoSpace) staged) (Value (104 ∷ [])) Absent (7 ∷ 9 ∷ []) none
    ∷ says (note Step (R.Refused N.ImageLength) committing) (Value (104 ∷ [])) Absent [] (some (7 ∷ 9 ∷ []))
    -- abandoning empties the tray; so does a cut; a batch in hand stays through a cut
    ∷ says (note Abandon R.Abandoned staged) (Value (104 ∷ [])) Absent [] none
    ∷ says (note_cut staged) (Value (104 ∷ [])) Absent [] none
    ∷ says (note_cut committing) (Value (104 ∷ [])) Absent [] (some (7 ∷ 9 ∷ []))
    -- an opening then does it whole or drops it; one with a tray empties that
    ∷ says (note_open true (note_cut committing)) Absent (Value (33 ∷ [])) [] none
    ∷ says (note_open false (note_cut committing)) (Value (104 ∷ [])) Absent [] none
    ∷ says (note_open true staged) (Value (104 ∷ [])) Absent [] none
    -- items go in order: put 7, delete 7, put 7
    ∷ says (note Step (R.End 0) (note Commit (R.Begun 13) (note (Put G.None 7 (3 ∷ [])) (R.Begun 0) (note (Delete G.None 7) (R.Begun 0) (note (Put G.None 7 (2 ∷ [])) (R.Begun 0) start))))) (Value (3 ∷ [])) Absent [] none
    -- what was staged before a cut is no part of a later commit
    ∷ says (note Step (R.End 0) (note Commit (R.Begun 13) (note (Put G.None 9 []) (R.Begun 0) (note_open false (note_cut staged))))) (Value (104 ∷ [])) (Value []) [] none
    ∷ []

pub computed : T (every (media ++ books))
computed = tt
