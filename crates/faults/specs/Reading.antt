-- The log read up to the first entry that is wrong, and the word at which that one stands.
-- Assumes nothing.
use Rattle.std.specs.Prelude.{Option, Some, None, List, [], ◌∷◌, ℕ, zero, suc, ◌+◌, ◌-◌, ◌*◌, length, take, drop}
use Rattle.std.proofs.Math.Seq.{slice}
use Rattle.spec.specs.Places.{base}
use Rattle.spec.specs.Directory.{lines_of}
use Rattle.spec.specs.Log.{Entry, Parsed, Wrong, Entries, step_of}
use Rattle.spec.specs.declared.LogStep.{LogStep}
use Rattle.spec.specs.declared.LogStep.TheVariants as S
use Rattle.faults.specs.declared.Stop.{Stop}

-- all entries, or those before the first wrong one, with the word at which it stands
pub data Reading : Type 0 where
  Whole : List Entry → Reading
  Upto : List Entry → ℕ → Reading

abbrev pub before : Entry → Reading → Reading
before e (Whole es) = Whole (e ∷ es)
before e (Upto es w) = Upto (e ∷ es) w

abbrev pub all_before : List Entry → Reading → Reading
all_before [] r = r
all_before (e ∷ es) r = before e (all_before es r)

-- as `Log.after` and `Log.parse` go, with the place at which they would stop
abbrev pub behind : LogStep → List ℕ → ℕ → (ℕ → Reading) → Reading
behind S.End l at rest = Whole []
behind S.Padding l at rest = rest 0
behind S.Wrong l at rest = Upto [] at
behind (S.Entry op placement version field key words) l at rest =
    before (record { op = op; placement = placement; version = version; field = field; key = key; value = take words (drop 2 l); at = at }) (rest (suc words))

abbrev pub read_words : List ℕ → ℕ → ℕ → Reading
read_words [] skip at = Whole []
read_words (w ∷ ws) zero at = behind (step_of (w ∷ ws)) (w ∷ ws) at (λ n. read_words ws n (suc at))
read_words (w ∷ ws) (suc n) at = read_words ws n (suc at)

abbrev pub read_chunk : ℕ → List ℕ → ℕ → Reading
read_chunk p ws c = read_words (slice (base p c) (base p c + 8 * lines_of p ws c) ws) 0 (base p c)

abbrev pub and_then : Reading → Reading → Reading
and_then (Whole es) r = all_before es r
and_then (Upto es w) r = Upto es w

-- i chunks from chunk c, and an image of n chunks
abbrev pub read_from : ℕ → ℕ → ℕ → List ℕ → Reading
read_from p zero c ws = Whole []
read_from p (suc i) c ws = and_then (read_chunk p ws c) (read_from p i (suc c) ws)

abbrev pub read_image : ℕ → ℕ → List ℕ → Reading
read_image p n ws = read_from p (n - 1) 1 ws

-- where a reading stops, if it does, with so many entries before it
abbrev pub stop_by : ℕ → Reading → Option Stop
stop_by k (Whole es) = None
stop_by k (Upto es w) = Some (record { word = w; before = k + length es })

-- what an opening parses of it
abbrev pub parsed_of : Reading → Parsed
parsed_of (Whole es) = Entries es
parsed_of (Upto es w) = Wrong
