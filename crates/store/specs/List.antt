-- What the listing of the present keys, and of one of them, answers through the station record. Record, image and table
-- are as they were.
-- Assumes nothing.
use Rattle.std.specs.Prelude.{List, ℕ, Result}
use Rattle.session.specs.declared.Session.{Session}
use Rattle.spec.specs.declared.Refusal.{Refusal}
use Rattle.lookup.specs.Listing.{Listed}
use Rattle.lookup.specs.Contract.{ListingKeys, ListingKey}

pub record KeysListed (s : Session) (bytes table keys keys' : List ℕ) (r : Result ℕ Refusal) : Type 0 where
  pub listed : ListingKeys s.control s.setup bytes table keys keys' r

pub record KeyListed (s : Session) (key : ℕ) (bytes table : List ℕ) (r : Listed) : Type 0 where
  pub listed : ListingKey s.control s.setup key bytes table r
