-- Scripts: calls on an image of four chunks with a key table of 64 words, each with what it answers and leaves.
-- Assumes nothing.
use Rattle.std.specs.Prelude.{Bool, true, List, [], ◌∷◌, ◌++◌, ℕ, zero, suc, eqb, get_or}
use Rattle.std.proofs.Math.Option.{Option, none, some}
use Rattle.spec.specs.Basics.{pick, both, same_list, up_from}
use Rattle.spec.specs.Places.{base_power}
use Rattle.spec.specs.Log.{Entry}
use Rattle.spec.specs.Contents.{Held, chosen, contents, same_held, entries_in}
use Rattle.spec.specs.Reports.{words_after}
use Rattle.spec.specs.Machine.{Call, Step, State, answer, next}
use Rattle.spec.specs.declared.Report.{Report}
use Rattle.examples.specs.Shown.{Shown, Begun, End, same_shown, shown_report}

abbrev pub image_bytes : ℕ
image_bytes = 16384

abbrev pub table_words : ℕ
table_words = 64

-- the state, and the image's words
pub record Memory : Type 0 where
  pub state : State
  pub words : List ℕ

abbrev pub asked : Call → Memory → Report
asked k m = answer k m.state m.words image_bytes table_words

abbrev pub left : Call → Memory → Memory
left k m = record {
  state = next k m.state m.words image_bytes table_words;
  words = words_after (asked k m) m.words;
}

abbrev pub steps_leave : ℕ → Memory → Memory
steps_leave zero m = m
steps_leave (suc n) m = steps_leave n (left Step m)

-- the directory words of chunks 1 to 3
abbrev pub directory : Memory → List ℕ
directory m = get_or m.words 9 0 ∷ get_or m.words 10 0 ∷ get_or m.words 11 0 ∷ []

abbrev pub chunks : ℕ
chunks = 4

-- the present keys below 16: key, version, length and placement of each that is in the log, as the program `list`
-- prints them
abbrev pub listed_entry : Option Entry → List ℕ
listed_entry none = []
listed_entry (some e) = pick (eqb e.op 1) (e.key ∷ e.version ∷ e.field ∷ e.placement ∷ []) []

abbrev pub listing : List Entry → List ℕ → List ℕ
listing es [] = []
listing es (k ∷ ks) = listed_entry (chosen k es) ++ listing es ks

-- A line of a script: a call that answers directly; a call that is begun with so many actions, after which the
-- directory is this and the end is reported with this count; what a key has; what is listed.
pub data Line : Type 0 where
  Answers : Call → Shown → Line
  Runs : Call → ℕ → List ℕ → ℕ → Line
  Has : ℕ → Held → Line
  Lists : List ℕ → Line

-- after the last action: the directory, a step that reports the end, and what comes then
abbrev pub ended : List ℕ → ℕ → (Memory → Bool) → Memory → Bool
ended words n rest m = both (same_list (directory m) words) (both (same_shown (shown_report (asked Step m)) (End n)) (rest (left Step m)))

abbrev pub holds : List Line → Memory → Bool
holds [] m = true
holds (Answers k s ∷ rest) m = both (same_shown (shown_report (asked k m)) s) (holds rest (left k m))
holds (Runs k a words n ∷ rest) m =
    both (same_shown (shown_report (asked k m)) (Begun a)) (ended words n (λ later. holds rest later) (steps_leave a (left k m)))
holds (Has k h ∷ rest) m = both (same_held (contents base_power chunks m.words k) h) (holds rest m)
holds (Lists xs ∷ rest) m = both (same_list (listing (entries_in base_power chunks m.words) (up_from 0 16)) xs) (holds rest m)
