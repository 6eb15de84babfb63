-- Images told by what they differ in from one small image, and what an opening says of them.
-- Assumes nothing.
use Rattle.std.specs.Prelude.{Bool, List, [], ◌∷◌, ◌++◌, ℕ, ◌+◌, ◌-◌, ◌*◌, eqb, ltb, set, replicate}
use Rattle.spec.specs.Basics.{both, every}
use Rattle.spec.specs.Opening.{Opening, Refused, Accepted, opening}
use Rattle.spec.specs.Reports.{number}

-- a word that is changed, and its value
pub record Change : Type 0 where
  pub word : ℕ
  pub value : ℕ

infix 70 ◌becomes◌
abbrev pub ◌becomes◌ : ℕ → ℕ → Change
word becomes value = record { word = word; value = value }

abbrev pub changed : List Change → List ℕ → List ℕ
changed [] ws = ws
changed (c ∷ cs) ws = changed cs (set ws c.word c.value)

-- the first word of an entry, and the directory words of log and data chunks
abbrev pub first : ℕ → ℕ → ℕ → ℕ → ℕ
first op placement version field = op + 4 * placement + 16 * version + 16777216 * field

abbrev pub log : ℕ → ℕ
log lines = 1 + 256 * lines

abbrev pub blocks : ℕ → ℕ
blocks size = 2 + 256 * size

-- what makes a sum of n give 0, modulo 2^64
abbrev pub minus : ℕ → ℕ
minus n = 18446744073709551616 - n

-- a block of three units with a value of 257 bytes
abbrev pub block : List ℕ
block = 257 ∷ (replicate 33 1 ++ replicate 62 3)

-- Four chunks: chunk 1 log with six lines, chunk 2 data with blocks of three units, chunk 3 free. Words that mean
-- nothing are 3, which is wrong as a directory word and as an entry's first word; those of chunk 3 are 0.
--
--   word 512 | put 7, version 1, five bytes in the log
--   word 515 | put 9, version 1, in the block at unit 32: word 1024, 257 bytes
--   word 517 | delete 5, version 2
--   word 519 | put 11, version 1, in the block at unit 35: word 1120, 257 bytes, the same as the other
--   word 521 | padding up to word 559
abbrev pub image : List ℕ
image =
    1 ∷ 4 ∷ 0 ∷ 0 ∷ 0 ∷ 0 ∷ 0 ∷ minus 5 ∷ 0 ∷ log 6 ∷ blocks 3 ∷ 0
    ∷ (replicate 500 0
    ++ (first 1 0 1 5 ∷ 7 ∷ 478560413032 ∷ first 1 1 1 32 ∷ 9 ∷ first 2 0 2 0 ∷ 5 ∷ first 1 1 1 35 ∷ 11
    ∷ (replicate 39 0 ++ (replicate 464 3 ++ (block ++ (block ++ (replicate 320 3 ++ replicate 512 0)))))))

-- What is lent: an image, told by what it makes of the one above, its bytes, and the words of the key table.
pub record Lent : Type 0 where
  pub made : List ℕ → List ℕ
  pub bytes : ℕ
  pub table : ℕ

abbrev pub lent : (List ℕ → List ℕ) → ℕ → ℕ → Lent
lent made bytes table = record { made = made; bytes = bytes; table = table }

-- lent as it is: 16,384 bytes, and a table for sixteen keys
abbrev pub with : List Change → Lent
with changes = lent (changed changes) 16384 64

-- the number with which an opening refuses, 0 if it accepts
abbrev pub refusal : Opening → ℕ
refusal (Refused n) = number n
refusal (Accepted es) = 0

abbrev pub opens : List ℕ → Lent → ℕ
opens ws l = refusal (opening l.bytes (l.made ws) l.table)

-- A case: refused with a number, and its nearest neighbour, which is accepted.
pub record Case : Type 0 where
  pub number : ℕ
  pub wrong : Lent
  pub right : Lent

abbrev pub case_holds : List ℕ → Case → Bool
case_holds ws c = both (eqb (opens ws c.wrong) c.number) (eqb (opens ws c.right) 0)

abbrev pub refused : ℕ → Lent → Lent → Case
refused number wrong right = record { number = number; wrong = wrong; right = right }

abbrev pub refuses : ℕ → List Change → List Change → Case
refuses number wrong right = refused number (with wrong) (with right)

-- Two faults, and an image with both: the lower number is answered, wherever each stands.
pub record Faults : Type 0 where
  pub lower : ℕ
  pub one : Lent
  pub higher : ℕ
  pub other : Lent
  pub together : Lent

abbrev pub faults_hold : List ℕ → Faults → Bool
faults_hold ws f =
    every (ltb f.lower f.higher ∷ eqb (opens ws f.one) f.lower ∷ eqb (opens ws f.other) f.higher ∷ eqb (opens ws f.together) f.lower ∷ [])

abbrev pub faults : ℕ → Lent → ℕ → Lent → Lent → Faults
faults lower one higher other together = record { lower = lower; one = one; higher = higher; other = other; together = together }

abbrev pub faulty : ℕ → List Change → ℕ → List Change → Faults
faulty lower one higher other = faults lower (with one) higher (with other) (with (one ++ other))
