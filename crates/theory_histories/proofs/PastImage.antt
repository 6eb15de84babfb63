-- A store or flush that is reported at a place past the lent image changes no byte of it: from the contract alone.
-- Assumes nothing.
use mathlib.Core.Path.{◌≡◌, ◌∙◌}
use mathlib.Core.Option.{Option, none, some}
use mathlib.Core.List.{List}
use Prim.Native.Nat.{ℕ, ◌/◌}
use native.Mathlib.Omega.{arith}
use lib.ListN.{length}
use lib.Seq.{set_out}
use Rattle.spec.specs.Words.{AreBytes, words_of}
use Rattle.spec.specs.Medium.{Action, Store, Flush, Fence}
use Rattle.spec.specs.Reports.{action_of}
use Rattle.spec.specs.Machine.{State}
use Rattle.spec.specs.Contract.{ChangedBy, PastBy, PastImage}
use Rattle.words.specs.Image.{length-words_of}
use Rattle.theory_histories.proofs.Bytes.{same_bytes}

past_by : (a : Option Action) (bytes bytes' : List ℕ) → ChangedBy a bytes bytes' → AreBytes bytes → AreBytes bytes' → PastBy a bytes → bytes' ≡ bytes
past_by none bytes bytes' c b b' h = c
past_by (some (Store w v)) bytes bytes' (words, sized, odd) b b' h =
    let same : words_of bytes' ≡ words_of bytes = words ∙ set_out (words_of bytes) w v (let n : length (words_of bytes) ≡ length bytes / 8 = length-words_of bytes in omega arith) in
    same_bytes bytes' bytes b' b same odd
past_by (some (Flush l)) bytes bytes' c b b' h = c
past_by (some Fence) bytes bytes' c b b' h = c

pub past-image : {S : Type 0} (Proper : S → Type 0) (state_of : S → State) (Fits : S → List ℕ → List ℕ → Type 0) → PastImage Proper state_of Fits
past-image Proper state_of Fits k s s' bytes bytes' table table' r c b b' h = past_by (action_of r) bytes bytes' c.image b b' h
