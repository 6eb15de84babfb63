-- First words of entries: what is said of each, made and read.
-- Assumes nothing.
use Rattle.std.specs.Prelude.{◌≡◌, ℕ, ◌+◌, ◌*◌, ◌/◌, ◌%◌, ◌^◌, ◌<◌, ◌≤◌, ◌⊎◌, ◌≢◌, refl}
use Rattle.std.proofs.Common.{arith}
use Rattle.std.proofs.lemmas.Bool.Decides.{nat_tests}
use Rattle.spec.specs.Log.{max_in_log, parts_of, first_of_word}
use Rattle.spec.specs.declared.FirstWord.{FirstWord}
use Rattle.spec.specs.declared.FirstWord.TheVariants as F

-- the first word of an entry with these parts
abbrev pub head_word : ℕ → ℕ → ℕ → ℕ → ℕ
head_word op placement version field = op + 4 * placement + 16 * version + 16777216 * field

-- a put in the log, a put in a block, a delete
abbrev pub Kind : ℕ → ℕ → ℕ → Type 0
Kind op placement field =
    ((op ≡ 1) × (placement ≡ 0) × (field ≤ max_in_log)) ⊎ (((op ≡ 1) × (placement ≡ 1)) ⊎ ((op ≡ 2) × (placement ≡ 0) × (field ≡ 0)))

-- the parts of an entry that is right
pub record RightParts (op placement version field : ℕ) : Type 0 where
  pub low : 1 ≤ version
  pub high : version < 1048576
  pub kind : Kind op placement field

-- the parts of a word that is made
module _ (op placement version field : ℕ) (a : op < 4) (b : placement < 4) (c : version < 1048576) where
  part_op : head_word op placement version field % 4 ≡ op
  part_op = omega arith

  part-placement : head_word op placement version field / 4 % 4 ≡ placement
  part-placement = omega arith

  part-version : head_word op placement version field / 16 % 1048576 ≡ version
  part-version = omega arith

  part_field : head_word op placement version field / 16777216 ≡ field
  part_field = omega arith

-- a word that is made says its parts
by_parts : (op placement version field : ℕ) → op < 4 → placement < 4 → version < 1048576 → (head_word op placement version field ≢ 0)
    → first_of_word (head_word op placement version field) ≡ parts_of op placement version field
unfolding first_of_word
by_parts op placement version field a b c ne = grind (arith, nat_tests)

-- the word that is made of right parts says them
pub first_made : (op placement version field : ℕ) → RightParts op placement version field → first_of_word (head_word op placement version field) ≡ F.Entry op placement version field
unfolding first_of_word
first_made op placement version field r = let k = r.kind in let l = r.low in let h = r.high in grind (arith, nat_tests)

-- such a word fits 64 bits if its field fits 40
pub head-fits : (op placement version field : ℕ) → RightParts op placement version field → field < 2 ^ 40 → head_word op placement version field < 2 ^ 64
head-fits op placement version field r h = let k = r.kind in let v = r.high in grind (arith, nat_tests)

-- what parts have to be, by what they say
abbrev pub Says : ℕ → ℕ → ℕ → ℕ → FirstWord → Type 0
Says op placement version field F.Padding = ⊥
Says op placement version field F.Wrong = Unit {0}
Says op placement version field (F.Entry o p v f) = (o ≡ op) × (p ≡ placement) × (v ≡ version) × (f ≡ field) × (1 ≤ version) × Kind op placement field

said : (op placement version field : ℕ) (w : FirstWord) → parts_of op placement version field ≡ w → Says op placement version field w
said op placement version field F.Padding e = grind (arith, nat_tests)
said op placement version field F.Wrong e = tt
said op placement version field (F.Entry o p v f) e = grind (arith, nat_tests)

says : (op placement version field : ℕ) → Says op placement version field (parts_of op placement version field)
says op placement version field = said op placement version field (parts_of op placement version field) refl

-- a word from its parts
pub split : (w : ℕ) → w ≡ head_word (w % 4) (w / 4 % 4) (w / 16 % 1048576) (w / 16777216)
split w = grind (arith, nat_tests)

-- an entry's word is made again from what it says, and that is right
pub first_read : (w op placement version field : ℕ) → first_of_word w ≡ F.Entry op placement version field
    → RightParts op placement version field × (w ≡ head_word op placement version field)
unfolding first_of_word
first_read w op placement version field e = grind (arith, nat_tests)

-- padding is a whole word of 0
pub padding-read : (w : ℕ) → first_of_word w ≡ F.Padding → w ≡ 0
unfolding first_of_word
padding-read w e = grind (arith, nat_tests)
