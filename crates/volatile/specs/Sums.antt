-- For each chunk the words of its chosen entries, in one number: what a cleaning of the chunk copies, at least and at
-- most. They stand in the record's buffer, where `buffer.Areas` says.
-- Assumes nothing.
--
--   low 32 bits  | the words of the chunk's chosen puts: a cleaning copies them all
--   high 32 bits | the words of its chosen deletes: a cleaning copies those whose key has an entry elsewhere
use Rattle.std.specs.Prelude.{◌≡◌, ℕ, ◌+◌, ◌*◌, ◌%◌, ◌^◌, ◌<◌, List, [], ◌∷◌, length, ◌==◌, slice_index}
use Rattle.std.proofs.Math.Option.{Option, none, some}
use Rattle.spec.specs.declared.Size.{Size}
use Rattle.places.specs.Sizes.{power_of}
use Rattle.spec.specs.Basics.{pick}
use Rattle.spec.specs.Log.{Entry}
use Rattle.spec.specs.Contents.{chosen, keys_of, in_chunk}
use Rattle.buffer.specs.Areas.{sums_start, sums_count}

-- an entry's words, for a put in the low half, for a delete in the high one
abbrev pub high_half : ℕ
high_half = 0x1_0000_0000

abbrev pub weight_of : (op words : ℕ) → ℕ
weight_of op words = pick (op == 1) (2 + words) (high_half * (2 + words))

abbrev pub weight : Entry → ℕ
weight e = weight_of e.op (length e.value)

-- what a key adds to chunk c: its chosen entry's words, if that stands there
abbrev pub share_in : (size : Size) → ℕ → Option Entry → ℕ
share_in size c none = 0
share_in size c (some e) = pick (in_chunk (power_of size) c e) (weight e) 0

abbrev pub sum_over : (ℕ → ℕ) → List ℕ → ℕ
sum_over f [] = 0
sum_over f (k ∷ ks) = f k + sum_over f ks

-- THE SUM of chunk c
unfoldable pub chosen_sum : (size : Size) → ℕ → List Entry → ℕ
chosen_sum size c es = sum_over (λ k. share_in size c (chosen k es)) (keys_of es)

-- the record's buffer has the sums of these entries
pub record Summed (size : Size) (buffer : List ℕ) (es : List Entry) : Type 0 where
  pub each : (c : ℕ) → c < sums_count → slice_index buffer (sums_start + c) ≡ chosen_sum size c es % 2 ^ 64
