-- How many words the kept entries of a chunk have.
-- Assumes nothing.
use Rattle.std.proofs.Common.{ℕ, ◌≤◌, List, [], ◌∷◌, length, arith, length-append}
use lib.Seq.{slice}
use Rattle.spec.specs.declared.Size.{Size}
use Rattle.places.specs.Sizes.{power_of}
use Rattle.spec.specs.Places.{chunk_words}
use Rattle.spec.specs.Log.{Entry, encode_all}
use Rattle.theory_log.proofs.Walk.{slice-long}
use Rattle.theory_plans.proofs.Cleaning.{parse-words, filter-words}
use Rattle.session.specs.Cleaned.{kept_of}
use Rattle.gathering.specs.Measuring.{Gatherable, kept_test}

pub few_words : (es : List Entry) → length es ≤ length (encode_all es)
few_words [] = omega arith
few_words (e ∷ es) = let r = few_words es in let a = length-append e.value (encode_all es) in omega arith

pub kept-words : (size : Size) → (ws table : List ℕ) (keys at end : ℕ) (xs mid ys : List Entry) → Gatherable size ws table keys at end xs mid ys → length (encode_all (kept_of xs mid ys)) ≤ chunk_words (power_of size)
kept-words size ws table keys at end xs mid ys g =
    let a = filter-words (kept_test xs mid ys) mid in
    let b = parse-words (slice at end ws) 0 at mid g.here in
    let c = slice-long at end ws in
    let d = g.short in
    omega arith
