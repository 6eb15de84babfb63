-- What a report did to the image: a store set a word, all else changed nothing; the length stays.
-- Assumes nothing.
use mathlib.Core.Path.{◌≡◌, sym, ◌∙◌, ap}
use mathlib.Core.List.{List}
use mathlib.Core.Option.{Option, none, some}
use Prim.Native.Nat.{ℕ, ◌+◌, ◌-◌, ◌*◌, ◌/◌, ◌<◌}
use native.Mathlib.Decide.{dec_lt}
use native.Mathlib.Omega.{arith}
use lib.ListN.{length, drop, length-drop}
use lib.Seq.{ext_get_or, get_or-drop}
use Rattle.spec.specs.Words.{words_of}
use Rattle.spec.specs.Medium.{Action, Store, Flush, Fence}
use Rattle.spec.specs.Reports.{action_of, stored, words_after}
use Rattle.spec.specs.Contract.{odd_bytes, ChangedBy, Changed}
use Rattle.spec.specs.declared.Report.{Report}
use Rattle.spec.specs.declared.Report.TheVariants as R
use Rattle.words.specs.Image.{Saved}

-- a store leaves the bytes behind the last whole word: it is inside, or does nothing
saved-odd : (bytes bytes' : List ℕ) (w v : ℕ) → Saved bytes bytes' w v → odd_bytes bytes' ≡ odd_bytes bytes
saved-odd bytes bytes' w v s = go (dec_lt w (length bytes / 8))
  where
    at : ℕ
    at = 8 * (length bytes / 8)

    same : 8 * (length bytes' / 8) ≡ at
    same = ap (λ (k : ℕ). 8 * (k / 8)) s.size

    go : Dec (w < length bytes / 8) → odd_bytes bytes' ≡ odd_bytes bytes
    go (no n) = ap odd_bytes (s.past (omega arith))
    go (yes h) =
        ap (λ (k : ℕ). drop k bytes') same
        ∙ ext_get_or 0 (drop at bytes') (drop at bytes) (length-drop at bytes' ∙ ap (λ (k : ℕ). k - at) s.size ∙ sym (length-drop at bytes))
        (λ i q. get_or-drop at bytes' i 0 ∙ s.bytes (at + i) (λ low high. omega arith) ∙ sym (get_or-drop at bytes i 0))

-- WHAT THE CODE SHOWS: a word saved, or nothing done
pub changed-store : (r : Report) (bytes bytes' : List ℕ) (w v : ℕ) → r ≡ R.Store w v → Saved bytes bytes' w v → Changed r bytes bytes'
changed-store r bytes bytes' w v e s = rw e (s.words, s.size, saved-odd bytes bytes' w v s)

-- WHAT CALLERS LEARN
by_length : (a : Option Action) (bytes bytes' : List ℕ) → ChangedBy a bytes bytes' → length bytes' ≡ length bytes
by_length none bytes bytes' e = ap length e
by_length (some (Store w v)) bytes bytes' e = e.1
by_length (some (Flush l)) bytes bytes' e = ap length e
by_length (some Fence) bytes bytes' e = ap length e

pub changed-length : (r : Report) (bytes bytes' : List ℕ) → Changed r bytes bytes' → length bytes' ≡ length bytes
changed-length r bytes bytes' e = by_length (action_of r) bytes bytes' e

by-words : (a : Option Action) (bytes bytes' : List ℕ) → ChangedBy a bytes bytes' → words_of bytes' ≡ stored a (words_of bytes)
by-words none bytes bytes' e = ap words_of e
by-words (some (Store w v)) bytes bytes' e = e.0
by-words (some (Flush l)) bytes bytes' e = ap words_of e
by-words (some Fence) bytes bytes' e = ap words_of e

pub changed-words : (r : Report) (bytes bytes' : List ℕ) → Changed r bytes bytes' → words_of bytes' ≡ words_after r (words_of bytes)
changed-words r bytes bytes' e = by-words (action_of r) bytes bytes' e
