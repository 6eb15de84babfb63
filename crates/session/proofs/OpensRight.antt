-- What an opening that accepts tells of the words, by the chunk power that the record keeps; and the way back.
-- Assumes nothing.
use mathlib.Core.Path.{◌≡◌, refl}
use mathlib.Core.Bool.{true}
use mathlib.Core.List.{List}
use Prim.Native.Nat.{ℕ, ◌*◌, ◌/◌}
use lib.ListN.{length}
use Rattle.spec.specs.Places.{is_power, base, chunks_in}
use Rattle.spec.specs.Log.{Entry}
use Rattle.spec.specs.Opening.{fits_table}
use Rattle.spec.specs.declared.Size.{Size}
use Rattle.spec.specs.declared.Size.TheVariants as S
use Rattle.places.specs.Sizes.{power_of}
use Rattle.theory_crash.specs.Accepted.{Ok}
use Rattle.theory_crash.proofs.Opening.{opens_at, ok-opens}
use Rattle.session.specs.Fits.{Opens}

pub is-power : (size : Size) → is_power (power_of size) ≡ true
is-power S.Small = refl
is-power S.Large = refl

-- accepted words are right, their keys fit the table, and the length is that of whole chunks
pub opens-right : (p bytes table : ℕ) (ws : List ℕ) (es : List Entry) → length ws ≡ bytes / 8 → Opens p bytes ws table es
    → Ok p (chunks_in p bytes) ws es × (fits_table table es ≡ true) × (bytes ≡ 8 * base p (chunks_in p bytes))
opens-right p bytes table ws es long o = let r = opens_at p bytes table ws es o.power long o.accepts in (r.0, r.1, r.2)

pub right-opens : (size : Size) (n bytes table : ℕ) (ws : List ℕ) (es : List Entry) → bytes ≡ 8 * base (power_of size) n → Ok (power_of size) n ws es → fits_table table es ≡ true
    → Opens (power_of size) bytes ws table es
right-opens size n bytes table ws es e ok fits = record { accepts = ok-opens (power_of size) (is-power size) n bytes table ws es e ok fits; power = ok.power }
