-- CLOSING CHANGES NOTHING of the known keys, in an unfinished call too: a station reopened and one that was never
-- closed get the same calls, of any kind, and answer the same count behind each.
-- Assumes nothing.
use mathlib.Core.Path.{◌≡◌}
use mathlib.Core.List.{List, [], ◌∷◌}
use Prim.Native.Nat.{ℕ}
use lib.ListN.{length}
use Rattle.spec.specs.Words.{words_of, AreBytes}
use Rattle.spec.specs.Machine.{Call, Open, Rest}
use Rattle.spec.specs.declared.Report.{Report}
use Rattle.session.specs.declared.Session.{Session}
use Rattle.session.specs.State.{state_of}
use Rattle.session.specs.Fits.{Proper, Fits}
use Rattle.session.specs.Promise.{Memory, memory, Does}
use Rattle.theory_histories.proofs.Twins.{alike}
use Rattle.inspect.proofs.KeysAlike.{SameIn, count_in, counts-alike}
use Rattle.store.proofs.Closing.{closing}

-- Whatever the calls answer, as their contracts allow: the same count behind each. (An image is bytes.)
abbrev pub CountAlike : List Call → (m l : Memory) → Type 0
CountAlike [] m l = count_in m ≡ count_in l
CountAlike (k ∷ ks) m l =
    (m' l' : Memory) (r q : Report) → AreBytes m'.image → AreBytes l'.image → Does k m m' r → Does k l l' q → (count_in m' ≡ count_in l') × CountAlike ks m' l'

count-alike : (ks : List Call) (m l : Memory) → SameIn m l → CountAlike ks m l
count-alike [] m l w = counts-alike m l w
count-alike (k ∷ ks) m l w = λ m' l' r q small also d d'.
    let both = alike Proper state_of Fits (λ s ws table f. f.0) (k ∷ []) m.session l.session m.image l.image m.table l.table w
    m'.session l'.session m'.image l'.image m'.table l'.table r q small also d d' in
    (counts-alike m' l' both.1.1, count-alike ks m' l' both.1.1)

-- a register is open, record and table fit the image, nothing is staged or unfinished; the same image is opened with
-- any record, and any table of the same length
pub closing-counts : (s : Session) (p : ℕ) (image table : List ℕ) → AreBytes image → Fits s (words_of image) table → state_of s ≡ Rest p (length image) (length table) []
    → (t t' : Session) (lent table' : List ℕ) (r : Report) → Proper t → length lent ≡ length table → Does Open (memory t image lent) (memory t' image table') r
    → (count_in (memory s image table) ≡ count_in (memory t' image table')) × ((calls : List Call) → CountAlike calls (memory s image table) (memory t' image table'))
closing-counts s p image table small f rests t t' lent table' r proper long d =
    let w : SameIn (memory s image table) (memory t' image table') = (closing s p image table small f rests t t' lent table' r proper long d).1 [] in
    (counts-alike (memory s image table) (memory t' image table') w, λ calls. count-alike calls (memory s image table) (memory t' image table') w)
