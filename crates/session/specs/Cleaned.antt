-- The entries of an image before and after one of its chunks is cleaned: those of the chunk are taken out, and those of
-- them that are kept stand anew behind others.
-- Assumes nothing.
use Rattle.std.specs.Prelude.{◌≡◌, List, ◌++◌, true, false, ℕ, ◌+◌, ◌≤◌, ◌<◌, length}
use Rattle.std.proofs.Math.Seq.{slice}
use Rattle.spec.specs.declared.Size.{Size}
use Rattle.spec.specs.Basics.{filter}
use Rattle.spec.specs.Places.{word_chunk}
use Rattle.places.specs.Sizes.{power_of}
use Rattle.spec.specs.Log.{Entry, Entries, parse, placed, encode_all}
use Rattle.spec.specs.Contents.{is_kept, in_chunk}
use Rattle.theory_log.specs.Contents.{Mem}
use Rattle.theory_log.proofs.Places.{Rising}
use Rattle.volatile.specs.Known.{Bounded}
use Rattle.buffer.specs.Areas.{second_room, sums_count}
use Rattle.packing.specs.Packed.{widths_of}

-- `mid` are the entries of the chunk, `xs` and `ys` those below and above; the kept ones stand anew from word `at` on
abbrev pub before : (xs mid ys : List Entry) → List Entry
before xs mid ys = xs ++ (mid ++ ys)

abbrev pub kept_of : (xs mid ys : List Entry) → List Entry
kept_of xs mid ys = filter (is_kept (before xs mid ys) (xs ++ ys)) mid

abbrev pub copies_of : (xs mid ys : List Entry) → ℕ → List Entry
copies_of xs mid ys at = placed at (kept_of xs mid ys)

abbrev pub after : (xs mid ys as' bs : List Entry) → ℕ → List Entry
after xs mid ys as' bs at = as' ++ (copies_of xs mid ys at ++ bs)

-- both lists are those of an image, of the same chunk size; no entry of the new one stands in the cleaned chunk
pub record Cleaned (size : Size) (xs mid ys as' bs : List Entry) (at : ℕ) : Type 0 where
  pub rest : as' ++ bs ≡ xs ++ ys
  pub low : ℕ
  pub high : ℕ
  pub rising : Rising low high (before xs mid ys)
  pub rising-after : Rising low high (after xs mid ys as' bs at)
  pub clear : (e f : Entry) → Mem e mid → Mem f (after xs mid ys as' bs at) → e.at ≡ f.at → ⊥
  pub small : Bounded size (before xs mid ys)
  pub small-after : Bounded size (after xs mid ys as' bs at)
  pub few : length mid + length (after xs mid ys as' bs at) < (widths_of size).entries

-- of the chunks: `mid` are the entries of chunk s, no new one stands there, the copies stand in one chunk, and the kept
-- entries have so many words
pub record Moves (size : Size) (s words : ℕ) (xs mid ys as' bs : List Entry) (at : ℕ) : Type 0 where
  pub source : s < sums_count
  pub target : at < (widths_of size).place
  pub inside : (e : Entry) → Mem e mid → in_chunk (power_of size) s e ≡ true
  pub outside : (e : Entry) → Mem e (after xs mid ys as' bs at) → in_chunk (power_of size) s e ≡ false
  pub together : (e : Entry) → Mem e (copies_of xs mid ys at) → word_chunk (power_of size) e.at ≡ word_chunk (power_of size) at
  pub keeps : words ≡ length (encode_all (kept_of xs mid ys))
  pub few : words ≤ second_room

-- the entries in the words from `at` to `end`
abbrev pub Stand : List ℕ → (at end : ℕ) → List Entry → Type 0
Stand ws at end es = parse (slice at end ws) 0 at ≡ Entries es
