-- The known keys are counted alike at two stations with the same state and image, in an unfinished call too: a station
-- reopened counts as one that was never closed. The count is that of the words that look-up reads, which state and
-- image say.
-- Assumes nothing.
use Rattle.std.proofs.Common.{◌≡◌, ℕ, List, sym, ◌∙◌}
use Rattle.spec.specs.Words.{words_of}
use Rattle.spec.specs.Reopening.{Same}
use Rattle.session.specs.declared.Session.{Session}
use Rattle.session.specs.State.{state_of}
use Rattle.session.specs.Fits.{Proper, Fits}
use Rattle.session.specs.Promise.{Memory}
use Rattle.inspect.specs.KnownKeys.{keys_in, Known}
use Rattle.inspect.proofs.Counted.{known-keys-are}

pub keys-alike : (s u : Session) (image other table beside : List ℕ) (n m : ℕ) → Same Proper state_of Fits s u image other table beside → Known s n → Known u m → n ≡ m
keys-alike s u image other table beside n m w x y =
    x.1 (words_of image) table w.fits ∙ (rw (w.state, w.bytes)) ∙ sym (y.1 (words_of other) beside w.also)

-- THE COUNT that is answered, of two stations that are the same
abbrev pub SameIn : (m l : Memory) → Type 0
SameIn m l = Same Proper state_of Fits m.session l.session m.image l.image m.table l.table

abbrev pub count_in : Memory → ℕ
count_in m = keys_in m.session.control

pub counts-alike : (m l : Memory) → SameIn m l → count_in m ≡ count_in l
counts-alike m l w =
    let s = m.session in
    let u = l.session in
    keys-alike s u m.image l.image m.table l.table (count_in m) (count_in l) w (known-keys-are s.control s.setup s.buffer) (known-keys-are u.control u.setup u.buffer)
