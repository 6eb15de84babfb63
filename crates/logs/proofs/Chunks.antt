-- The first word of a chunk, and the entries of a chunk past the image.
-- Assumes nothing.
use mathlib.Core.Path.{◌≡◌}
use mathlib.Core.List.{List, []}
use Prim.Native.Nat.{ℕ, ◌+◌, ◌*◌, ◌≤◌, ◌<◌}
use native.Mathlib.Omega.{arith}
use lib.ListN.{length, take, length-take, drop_of_length-le}
use Rattle.spec.specs.declared.Size.{Size}
use Rattle.spec.specs.declared.Size.TheVariants as S
use Rattle.spec.specs.Places.{chunk_bytes, chunk_words, chunks_in, base}
use Rattle.places.specs.Sizes.{power_of}
use Rattle.spec.specs.Directory.{lines_of}
use Rattle.spec.specs.Log.{Entries, chunk_entries}

-- the chunks of an image lie within its bytes, and those behind them past its last whole word
pub chunk-within : (s : Size) (bytes c : ℕ) → c ≤ chunks_in (power_of s) bytes → 8 * base (power_of s) c ≤ bytes
unfolding chunks_in chunk_bytes base chunk_words
chunk-within S.Small bytes c h = omega arith
chunk-within S.Large bytes c h = omega arith

pub chunk-behind : (s : Size) (bytes c : ℕ) → chunks_in (power_of s) bytes < c → bytes ≤ 8 * base (power_of s) c
unfolding chunks_in chunk_bytes base chunk_words
chunk-behind S.Small bytes c h = omega arith
chunk-behind S.Large bytes c h = omega arith

-- a chunk past the image has no entries
pub chunk-past : (p : ℕ) (ws : List ℕ) (c : ℕ) → length ws ≤ base p c → chunk_entries p ws c ≡ Entries []
chunk-past p ws c h =
    let k : length (take (base p c + 8 * lines_of p ws c) ws) ≤ base p c = rw length-take (omega arith) in
    rw (drop_of_length-le (take (base p c + 8 * lines_of p ws c) ws) k)
