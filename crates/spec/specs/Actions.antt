-- The action lists of the calls that write: formatting, staging of a large value, commit, cleaning.
-- Assumes nothing.
use Rattle.std.specs.Prelude.{List, [], ◌∷◌, ◌++◌, ℕ, zero, suc, ◌+◌, ◌-◌, ◌*◌, ◌/◌, length, replicate}
use Rattle.spec.specs.Places.{base, first_line, unit_word, line_of, directory_word, max_chunks}
use Rattle.spec.specs.Medium.{Action, Store, Flush, Fence}
use Rattle.spec.specs.Header.{header_map, header_tail}
use Rattle.spec.specs.Directory.{log_word, data_word, freed_word}
use Rattle.spec.specs.Basics.{Given}

-- words stored from word a on, and n lines flushed from line l on, by rising address
-- R34
abbrev pub writes : ℕ → List ℕ → List Action
writes a [] = []
writes a (v ∷ vs) = Store a v ∷ writes (suc a) vs

-- R34
abbrev pub flushes : ℕ → ℕ → List Action
flushes l zero = []
flushes l (suc n) = Flush l ∷ flushes (suc l) n

-- how many lines so many words take, and the words padded to whole lines
abbrev pub lines_for : ℕ → ℕ
lines_for n = (n + 7) / 8

-- R52
unfoldable pub padded : List ℕ → List ℕ
padded ws = ws ++ replicate (8 * lines_for (length ws) - length ws) 0

-- the words into the b lines behind the l committed lines of chunk c, then a fence
unfoldable pub body_of : ℕ → ℕ → ℕ → ℕ → List ℕ → List Action
body_of p c l b words = writes (base p c + 8 * l) words ++ (flushes (first_line p c + l) b ++ (Fence ∷ []))

-- the directory word of chunk c, flushed and fenced
abbrev pub seal_of : ℕ → ℕ → List Action
seal_of c w = Store (directory_word c) w ∷ Flush (line_of (directory_word c)) ∷ Fence ∷ []

-- COMMIT: the words go behind the l committed lines of chunk c, whose directory word is `old`. With b lines, 9b + 4
-- actions.
-- R53
unfoldable pub commit_of : ℕ → ℕ → ℕ → ℕ → ℕ → List ℕ → List Action
commit_of p c old l b words = body_of p c l b words ++ seal_of c (log_word old (l + b))

-- R53
unfoldable pub append_of : ℕ → ℕ → ℕ → ℕ → List ℕ → List Action
append_of p c old l words = commit_of p c old l (lines_for (length words)) (padded words)

-- FREEING: the directory word of chunk c becomes that of a free chunk. 3 actions.
-- R58
abbrev pub free_of : ℕ → ℕ → List Action
free_of c old = seal_of c (freed_word old)

-- STAGING of a large value: a free chunk becomes one of blocks of s units, with no fence
-- R50
abbrev pub take_of : ℕ → ℕ → ℕ → List Action
take_of c old s = Store (directory_word c) (data_word old s) ∷ Flush (line_of (directory_word c)) ∷ []

-- the length and the value's words into the block at unit u: a store for each, then a flush for each line stored to
-- R14, R51
unfoldable pub block_of : ℕ → List ℕ → List Action
block_of u words = writes (unit_word u) words ++ flushes (line_of (unit_word u)) (lines_for (length words))

-- FORMAT, n chunks of 2^p bytes: word 0 zeroed, flushed, fenced; words 1 to 511 stored, 64 lines flushed, fence; word 0
-- stored, flushed, fenced. 582 actions, all in the first 4,096 bytes.
abbrev pub first_word_of : ℕ → List Action
first_word_of v = Store 0 v ∷ Flush 0 ∷ Fence ∷ []

unfoldable pub fill_of : List ℕ → ℕ → List Action
fill_of words lines = writes 1 words ++ (flushes 0 lines ++ (Fence ∷ []))

-- words 1 to 511 of an empty register: the rest of the header, and no chunk in use
unfoldable pub blank_of : List ℕ → List ℕ
blank_of tail = tail ++ replicate max_chunks 0

-- R42
unfoldable pub format_of : ℕ → ℕ → Given → Given → List Action
format_of p n station centre = first_word_of 0 ++ (fill_of (blank_of (header_tail p n station centre)) 64 ++ first_word_of (header_map p station centre))
