-- One more item behind the staged ones: what adding it leaves in the record's buffer.
-- Assumes nothing.
use Rattle.std.specs.Prelude.{◌≡◌, List, [], ◌∷◌, ◌++◌, ℕ, ◌+◌, ◌^◌, ◌≤◌, ◌<◌, length, get_or}
use Rattle.spec.specs.Log.{Entry, encode_all}
use Rattle.theory_log.specs.Batch.{Right}
use Rattle.buffer.specs.Areas.{batch_start, batch_room, second_start, filter_place, buffer_words}
use Rattle.buffer.specs.Bits.{has_bit}
use Rattle.spec.specs.declared.Size.{Size}
use Rattle.session.specs.State.{buffer_part}
use Rattle.session.specs.Filter.{AllMarked}

-- from `words` words to `next`: the item is behind the others and its key in the filter if there is room for it, and
-- nothing is changed if there is not. The field of an item has 40 bits.
pub record Added (before after : List ℕ) (words next : ℕ) (e : Entry) : Type 0 where
  pub size : length before ≡ buffer_words
  pub long : length after ≡ length before
  pub above : (i : ℕ) → second_start ≤ i → i < filter_place → get_or after i 0 ≡ get_or before i 0
  pub behind : (i : ℕ) → filter_place < i → get_or after i 0 ≡ get_or before i 0
  pub bits : (size : Size) (u : ℕ) → has_bit size after u ≡ has_bit size before u
  pub full : batch_room < words + (2 + length e.value) → (after ≡ before) × (next ≡ words)
  pub count : words + (2 + length e.value) ≤ batch_room → next ≡ words + (2 + length e.value)
  pub written : words + (2 + length e.value) ≤ batch_room → Right e → e.field < 2 ^ 40 → (items : List Entry)
      → buffer_part before batch_start words ≡ encode_all items → buffer_part after batch_start next ≡ encode_all (items ++ (e ∷ []))
  pub marked : words + (2 + length e.value) ≤ batch_room → (items : List Entry) → buffer_part before batch_start words ≡ encode_all items
      → AllMarked (get_or before filter_place 0) items → AllMarked (get_or after filter_place 0) (items ++ (e ∷ []))
