-- What changes of the sums: by an entry that joins, and all of them.
-- Assumes nothing.
use Rattle.std.specs.Prelude.{◌≡◌, ℕ, ◌+◌, ◌-◌, ◌*◌, ◌/◌, ◌%◌, ◌^◌, ◌<◌, ◌≤◌, true, List, length, ◌==◌, ◌≢◌, slice_index}
use Rattle.std.proofs.Math.Option.{some}
use Rattle.spec.specs.declared.Size.{Size}
use Rattle.places.specs.Sizes.{power_of}
use Rattle.spec.specs.Places.{word_chunk}
use Rattle.packing.specs.Packed.{widths_of}
use Rattle.spec.specs.Basics.{pick}
use Rattle.spec.specs.Log.{Entry}
use Rattle.spec.specs.Contents.{chosen, known, highest}
use Rattle.logs.specs.Stands.{StandsIn}
use Rattle.buffer.specs.Areas.{second_room, sums_start, sums_count, buffer_words}
use Rattle.volatile.specs.Known.{extent_of, info_of, own_of, Small, Bounded}
use Rattle.volatile.specs.Sums.{high_half, weight_of, weight, chosen_sum, Summed}

-- so much at the chunk of word `place`, of 512 words each; nothing anywhere
abbrev pub only : (size : Size) → (place weight : ℕ) → ℕ → ℕ
only size place weight c = pick (word_chunk (power_of size) place % sums_count == c) weight 0

abbrev pub nothing : ℕ → ℕ
nothing c = 0

-- both are buffers of the record, and agree at every word that is no sum
pub record SumsAlone (before after : List ℕ) : Type 0 where
  pub size : length before ≡ buffer_words
  pub long : length after ≡ length before
  pub below : (i : ℕ) → i < sums_start → slice_index after i ≡ slice_index before i

-- each sum has so much more and so much less than before, modulo a word
pub record Changed (before after : List ℕ) (more less : ℕ → ℕ) : Type 0 where
  pub kept : SumsAlone before after
  pub sums : (c : ℕ) → c < sums_count → (slice_index after (sums_start + c) + less c) % 2 ^ 64 ≡ (slice_index before (sums_start + c) + more c) % 2 ^ 64
  pub narrow : (c : ℕ) → c < sums_count → slice_index before (sums_start + c) < 2 ^ 64 → slice_index after (sums_start + c) < 2 ^ 64

-- every sum is 0
pub record Cleared (before after : List ℕ) : Type 0 where
  pub kept : SumsAlone before after
  pub zero : (c : ℕ) → c < sums_count → slice_index after (sums_start + c) ≡ 0

-- the weight of a put of which the table says an extent: first word, key, and the words of extent + 1 bytes
abbrev pub extent_weight : ℕ → ℕ
extent_weight extent = 2 + (extent % 0x100 + 8) / 8

-- the weight of an entry with so many words of value, and of the one at a place of the image
pub record Weighed (op words r : ℕ) : Type 0 where
  pub is : words ≤ 512 → r ≡ weight_of op words
  pub fits : r < 2 ^ 64

pub record WeighedAt (size : Size) (ws : List ℕ) (extent place r : ℕ) : Type 0 where
  pub is : (f : Entry) → StandsIn ws f → f.at ≡ place → extent_of size f.placement f.field ≡ extent → extent < 0x100 → r ≡ weight f

-- an entry e joins es, which gives es'; of its key the table holds `old`, and would hold `own` with e alone
pub record Renewing (size : Size) (ws : List ℕ) (old own w : ℕ) (es es' : List Entry) (e : Entry) : Type 0 where
  pub is-old : old ≡ info_of size e.key es
  pub is-own : own ≡ own_of size e
  pub is-weight : w ≡ weight e
  pub small : Bounded size es
  pub own-small : Small size e
  pub present : known e.key es' ≡ true
  pub others : (j : ℕ) → (j ≢ e.key) → chosen j es' ≡ chosen j es
  pub rises : highest e.key es < e.version → chosen e.key es' ≡ some e
  pub stays : e.version ≤ highest e.key es → chosen e.key es' ≡ chosen e.key es
  pub stands : (f : Entry) → chosen e.key es ≡ some f → StandsIn ws f

-- before and after: of any memory, and where the sums were those of the entries
pub record Renewed (size : Size) (ws before after : List ℕ) (old own w : ℕ) : Type 0 where
  pub kept : SumsAlone before after
  pub renews : (es es' : List Entry) (e : Entry) → Renewing size ws old own w es es' e → Summed size before es → Summed size after es'

-- A CLEANED CHUNK with this sum, of which so many words are kept: what they weigh
abbrev pub turned_weight : (sum words : ℕ) → ℕ
turned_weight sum words = sum % high_half + high_half * (words - sum % high_half)

-- the entries es before, out after: those of the chunk are gone, and what is kept of them stands at `place`
pub record Turning (size : Size) (chunk place words : ℕ) (es out : List Entry) : Type 0 where
  pub source : chunk < sums_count
  pub target : place < (widths_of size).place
  pub few : words ≤ second_room
  pub puts : chosen_sum size chunk es % high_half ≤ words
  pub gone : chosen_sum size chunk out ≡ 0
  pub others : (c : ℕ) → (c ≢ chunk) → chosen_sum size c out ≡ chosen_sum size c es + only size place (turned_weight (chosen_sum size chunk es) words) c

pub record TurnedOver (size : Size) (before after : List ℕ) (chunk place words : ℕ) : Type 0 where
  pub kept : SumsAlone before after
  pub turns : (es out : List Entry) → Turning size chunk place words es out → Summed size before es → Summed size after out
