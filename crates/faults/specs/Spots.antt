-- What the passes over ranges of classes find of the top entries, in whatever order they meet them.
-- Assumes nothing.
use Rattle.std.specs.Prelude.{◌≡◌, Bool, true, false, List, [], ◌∷◌, ◌++◌, ℕ, ◌+◌, ◌≤◌, ◌<◌, min, eqb, length, get_or, Option as Maybe, Some, None}
use Rattle.spec.specs.Basics.{pick, both, negate}
use Rattle.spec.specs.Places.{max_chunks}
use Rattle.spec.specs.declared.Size.{Size}
use Rattle.places.specs.Sizes.{power_of, unit_count}
use Rattle.spec.specs.Log.{Entry, Entries, image_entries}
use Rattle.spec.specs.Blocks.{pointed, block_right}
use Rattle.spec.specs.Contents.{is_top, chosen}
use Rattle.spec.specs.Opening.{fine, agree_with}
use Rattle.theory_log.specs.Contents.{Mem}
use Rattle.consistency.specs.Classes.{class_in}
use Rattle.logs.specs.declared.Entry as H
use Rattle.consistency.specs.Heads.{entry_of, points}
use Rattle.consistency.specs.Pass.{ListedIn, AgreedIs}
use Rattle.faults.specs.declared.top.Spots.{Spots}
use Rattle.faults.specs.declared.top.Joined.{Joined}
use Rattle.faults.specs.Tops.{first_top, at_one, place_of}

-- ## Places

-- the lesser of a place found before, if one is, and this one
abbrev pub least : (so : Maybe ℕ) (at : ℕ) → Maybe ℕ
least None at = Some at
least (Some so) at = Some (min so at)

-- a place is found, and not behind this one
abbrev pub Reaches : (so : Maybe ℕ) (at : ℕ) → Type 0
Reaches None at = ⊥
Reaches (Some so) at = so ≤ at

-- a place that is found is that of an entry of es of which the test holds
abbrev pub StandsAt : List Entry → (Entry → Bool) → Maybe ℕ → Type 0
StandsAt es test None = Unit {0}
StandsAt es test (Some so) = (e : Entry) × Mem e es × (test e ≡ true) × (e.at ≡ so)

-- ## Units

-- a word of zero for each unit that an image has at most
pub record Unused (size : Size) (units : List ℕ) : Type 0 where
  pub long : unit_count size ≤ length units
  pub zero : (u : ℕ) → get_or units u 0 ≡ 0

-- the user of a unit to which top entries of several keys point
abbrev pub several_keys : ℕ
several_keys = 1

-- the key of an entry that stands at a word
abbrev pub key_at : List ℕ → ℕ → ℕ
key_at ws at = get_or ws (min at (length ws) + 1) 0

-- a unit's user and the least place of a top entry at odds with others, with one more that points to the unit
abbrev pub joined : List ℕ → (user : ℕ) (tops : Maybe ℕ) (key at : ℕ) → Joined
joined ws user tops key at =
    pick (eqb user 0) (record { user = at; tops = tops })
    (pick (eqb user several_keys) (record { user = user; tops = least tops at })
    (pick (eqb (key_at ws user) key) (record { user = min user at; tops = tops })
    (record { user = several_keys; tops = least (least tops user) at })))

-- an entry of the list xs that points to unit u, and is a top entry of es
pub record Uses (es xs : List Entry) (u : ℕ) (e : Entry) : Type 0 where
  pub member : Mem e xs
  pub top : is_top es e ≡ true
  pub points : pointed e ≡ true
  pub unit : e.field ≡ u

-- a top entry of another key than k points to unit u
pub record OtherUses (es : List Entry) (u k : ℕ) : Type 0 where
  pub other : Entry
  pub uses : Uses es es u other
  pub differs : other.key ≡ k → ⊥

-- top entries of one key point to unit u: the one at word `at`, and none of xs before it
pub record OneKey (es xs : List Entry) (u at : ℕ) : Type 0 where
  pub one : Entry
  pub uses : Uses es es u one
  pub place : one.at ≡ at
  pub same : (e : Entry) → Uses es xs u e → e.key ≡ one.key
  pub behind : (e : Entry) → Uses es xs u e → at ≤ e.at

-- what the user of unit u says after the entries xs
pub record UnitIs (es xs : List Entry) (tops : Maybe ℕ) (u user : ℕ) : Type 0 where
  pub none : user ≡ 0 → (e : Entry) → Uses es xs u e → ⊥
  pub one : (user ≡ 0 → ⊥) → (user ≡ several_keys → ⊥) → OneKey es xs u user
  pub several : user ≡ several_keys → (k : ℕ) → OtherUses es u k
  pub shared : user ≡ several_keys → (e : Entry) → Uses es xs u e → Reaches tops e.at

-- ## What is found

-- the tests of refusals 5 and 6, of which the first top entry that fails is looked for
abbrev pub block_fails : (size : Size) → ℕ → List ℕ → List Entry → Entry → Bool
block_fails size n ws es e = both (is_top es e) (negate (fine (power_of size) n ws e))

abbrev pub top_fails : List Entry → Entry → Bool
top_fails es e = both (is_top es e) (negate (at_one es e))

-- if it is a top entry with a right block or none that disagrees with the chosen one of its key, its place is reached
abbrev pub OddReached : (size : Size) → ℕ → List ℕ → List Entry → (so : Maybe ℕ) → Entry → Type 0
OddReached size n ws es so e = is_top es e ≡ true → fine (power_of size) n ws e ≡ true → agree_with e (chosen e.key es) ≡ false → Reaches so e.at

-- AFTER THE ENTRIES xs, part of all entries es: the least place of a wrong block; of the entries with right blocks the
-- least place of one that disagrees; and the units. An entry that shares its block is found when the other is met.
pub record Found (size : Size) (n : ℕ) (ws : List ℕ) (es xs : List Entry) (units : List ℕ) (s : Spots) : Type 0 where
  pub room : unit_count size ≤ length units
  pub block-stands : StandsAt es (block_fails size n ws es) s.block
  pub block-least : (e : Entry) → Mem e xs → block_fails size n ws es e ≡ true → Reaches s.block e.at
  pub tops-stands : StandsAt es (top_fails es) s.tops
  pub tops-least : (e : Entry) → Mem e xs → OddReached size n ws es s.tops e
  pub units-are : (u : ℕ) → block_right (power_of size) n ws u ≡ true → UnitIs es xs s.tops u (get_or units u 0)

-- ## What the functions tell

-- with one more top entry, compared with the chosen one of its key, which stands at `place`
pub record ComparedIs (ws : List ℕ) (h : H.Entry) (place : ℕ) (tops r : Maybe ℕ) : Type 0 where
  pub same : Bool
  pub agrees : AgreedIs ws true h place same
  pub least-is : r ≡ pick same tops (least tops h.place)

-- with one more top entry, which may point to a unit
pub record SharedIs (ws : List ℕ) (h : H.Entry) (tops : Maybe ℕ) (before after : List ℕ) (r : Maybe ℕ) : Type 0 where
  pub sized : length after ≡ length before
  pub other : points h.op h.placement ≡ false → (after ≡ before) × (r ≡ tops)
  pub own : points h.op h.placement ≡ true → h.field < length before → joined ws (get_or before h.field 0) tops h.key h.place ≡ record { user = get_or after h.field 0; tops = r }
  pub others : (u : ℕ) → (u ≡ h.field → ⊥) → get_or after u 0 ≡ get_or before u 0

-- with one more entry, if its key's class is within the range
pub record VisitedIs (size : Size) (n : ℕ) (ws table : List ℕ) (fits : Bool) (low high : ℕ) (so : Spots) (h : H.Entry) (before after : List ℕ) (r : Spots) : Type 0 where
  pub sized : length after ≡ length before
  pub finds : (es xs : List Entry) (words : ℕ) → ListedIn size n ws table fits low high es → Mem (entry_of ws h words) es → Found size n ws es xs before so
      → Found size n ws es (xs ++ class_in low high (entry_of ws h words ∷ [])) after r

-- with the entries of a range of classes
pub record SweptAs (size : Size) (n : ℕ) (ws table : List ℕ) (fits : Bool) (low high : ℕ) (so : Spots) (before after : List ℕ) (r : Spots) : Type 0 where
  pub sized : length after ≡ length before
  pub finds : (es xs : List Entry) → ListedIn size n ws table fits low high es → Found size n ws es xs before so → Found size n ws es (xs ++ class_in low high es) after r

-- THE PLACES: the first top entry whose block is wrong; where there is none, the first that disagrees or shares
pub record Spotted (size : Size) (n : ℕ) (ws : List ℕ) (r : Spots) : Type 0 where
  pub block-first : (es : List Entry) → n ≤ max_chunks → image_entries (power_of size) n ws ≡ Entries es → r.block ≡ place_of (first_top es (fine (power_of size) n ws))
  pub tops_first : (es : List Entry) → n ≤ max_chunks → image_entries (power_of size) n ws ≡ Entries es → r.block ≡ None → r.tops ≡ place_of (first_top es (at_one es))
