-- Opening: the refusal 1 to 7, or the entries of an accepted image.
-- Assumes nothing.
use Rattle.std.specs.Prelude.{Bool, true, List, ℕ, eqb, leb, length, drop}
use Rattle.std.proofs.Math.Option.{Option, none, some}
use Rattle.spec.specs.Basics.{pick, both, all}
use Rattle.spec.specs.Places.{size_allowed, any_allowed, chunks_in, max_chunks}
use Rattle.spec.specs.Header.{header_right, header_power}
use Rattle.spec.specs.Directory.{directory_from}
use Rattle.spec.specs.Log.{Entry, Parsed, Wrong, Entries, image_entries}
use Rattle.spec.specs.Blocks.{pointed, block_right}
use Rattle.spec.specs.Contents.{is_top, chosen, agree, keys_of, capacity}
use Rattle.spec.specs.declared.Refusal.{Refusal}
use Rattle.spec.specs.declared.Refusal.TheVariants as N

pub data Opening : Type 0 where
  Refused : Refusal → Opening
  Accepted : List Entry → Opening

-- 3: every word of the directory is right
-- R25
abbrev pub directory_test : ℕ → ℕ → List ℕ → Bool
directory_test p n ws = directory_from p n max_chunks 0 (drop 8 ws)

-- a test of the top entries, and of every pair of them
abbrev pub each_top : List Entry → (Entry → Bool) → Bool
each_top es test = all (λ e. pick (is_top es e) (test e) true) es

-- 5: the block of each top put that points to one is right
-- R26
abbrev pub fine : ℕ → ℕ → List ℕ → Entry → Bool
fine p n ws e = pick (pointed e) (block_right p n ws e.field) true

-- R26
abbrev pub blocks_test : ℕ → ℕ → List ℕ → List Entry → Bool
blocks_test p n ws es = each_top es (fine p n ws)

-- 6: each top entry agrees with the chosen one of its key
abbrev pub agree_with : Entry → Option Entry → Bool
agree_with e none = true
agree_with e (some f) = agree e f

-- R27
abbrev pub agree_test : List Entry → Bool
agree_test es = each_top es (λ e. agree_with e (chosen e.key es))

-- 6: no two keys' top puts share a block
abbrev pub sharing : Entry → Entry → Bool
sharing e f = both (pointed e) (both (pointed f) (eqb e.field f.field))

-- R27
abbrev pub apart_test : List Entry → Bool
apart_test es = each_top es (λ e. each_top es (λ f. pick (sharing e f) (eqb e.key f.key) true))

-- not 7: the table of so many words holds the known keys
-- R28
abbrev pub fits_table : ℕ → List Entry → Bool
fits_table table es = leb (length (keys_of es)) (capacity table)

-- 4 to 7, by the parsed log
-- R25
abbrev pub open_log : ℕ → ℕ → List ℕ → ℕ → Parsed → Opening
open_log p n ws table Wrong = Refused N.EntryWrong
open_log p n ws table (Entries es) =
    pick (blocks_test p n ws es)
    (pick (both (agree_test es) (apart_test es))
    (pick (fits_table table es) (Accepted es) (Refused N.TableFull))
    (Refused N.TopsDisagree)) (Refused N.BlockWrong)

-- 2 to 7, of an image of n chunks
abbrev pub open_chunks : ℕ → ℕ → List ℕ → ℕ → Opening
open_chunks p n ws table =
    pick (header_right n ws)
    (pick (directory_test p n ws) (open_log p n ws table (image_entries p n ws)) (Refused N.DirectoryWrong))
    (Refused N.NotOpen)

-- the same with the power that the header says. 2 too where there is no such power, or the length is not that of 4 to
-- 504 such chunks; that they are as many as the header counts is asked with the header.
-- R24
abbrev pub open_power : ℕ → ℕ → List ℕ → ℕ → Opening
open_power p bytes ws table = pick (size_allowed p bytes) (open_chunks p (chunks_in p bytes) ws table) (Refused N.NotOpen)

-- the opening of an image of so many bytes whose words are ws, with a key table of so many words
-- R23
unfoldable pub opening : ℕ → List ℕ → ℕ → Opening
opening bytes ws table = pick (any_allowed bytes) (open_power (header_power ws) bytes ws table) (Refused N.ImageLength)
