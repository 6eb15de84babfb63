-- What staging finds of a key, and whether it admits one more item.
-- Assumes nothing.
use Rattle.std.specs.Prelude.{◌≡◌, Bool, false, List, ℕ, suc, ◌+◌, eqb, leb, ltb, get_or, Option, Some, None, Result, Ok, Err}
use Rattle.spec.specs.Basics.{pick, both}
use Rattle.spec.specs.Log.{Entry, first_of_word}
use Rattle.spec.specs.Plans.{is_named, max_items}
use Rattle.session.specs.declared.Control.{Control}
use Rattle.spec.specs.declared.FirstWord.{FirstWord}
use Rattle.spec.specs.declared.FirstWord.TheVariants as F
use Rattle.spec.specs.declared.Size.{Size}
use Rattle.spec.specs.Basics.{Given}
use Rattle.spec.specs.declared.Refusal.{Refusal}
use Rattle.spec.specs.declared.Refusal.TheVariants as N
use Rattle.index.specs.Index.{get}
use Rattle.packing.specs.Packed.{unpack_of}
use Rattle.buffer.specs.Areas.{batch_room}
use Rattle.batch.specs.declared.Latest.{Latest}
use Rattle.batch.specs.Items.{StagedIn, latest_of}
use Rattle.staging.specs.declared.admit.Newest.{Newest}
use Rattle.staging.specs.declared.admit.Newest.TheVariants.{Unknown, Staged, Committed}

-- by what the last staged item says and by the table's word of the key
abbrev pub committed_by : Size → ℕ → Newest
committed_by size word =
    pick (eqb (unpack_of size word).version 0) Unknown (Committed (unpack_of size word).version (unpack_of size word).place)

abbrev pub newest_by : Size → Option Latest → ℕ → Newest
newest_by size None word = committed_by size word
newest_by size (Some last) word = pick (eqb last.version 0) (committed_by size word) (Staged last.version last.op)

abbrev pub NewestOf : Size → List ℕ → ℕ → List ℕ → ℕ → Newest → Type 0
NewestOf size buffer words table key r = (items : List Entry) → StagedIn buffer words items → r ≡ newest_by size (latest_of key items) (get table key)

-- the version alone
abbrev pub version_in : Newest → ℕ
version_in Unknown = 0
version_in (Staged version op) = version
version_in (Committed version place) = version

abbrev pub VersionOf : Size → List ℕ → ℕ → List ℕ → ℕ → ℕ → Type 0
VersionOf size buffer words table key r = (items : List Entry) → StagedIn buffer words items → r ≡ version_in (newest_by size (latest_of key items) (get table key))

-- a put by its first word; a key that is present
abbrev pub put_in : FirstWord → Bool
put_in F.Padding = false
put_in F.Wrong = false
put_in (F.Entry op placement version field) = eqb op 1

abbrev pub present_by : List ℕ → Newest → Bool
present_by ws Unknown = false
present_by ws (Staged version op) = eqb op 1
present_by ws (Committed version place) = put_in (first_of_word (get_or ws place 0))

-- how many keys an item adds to the known and staged ones, by the highest version of its key so far
abbrev pub new_keys : ℕ → ℕ
new_keys version = pick (eqb version 0) 1 0

-- a refusal, or how many staged keys are not known, then
abbrev pub Admission : Type 0
Admission = Result ℕ Refusal

-- 12, 10, 7 for an item of so many words whose version is at most `most`, with a table that holds `room` keys
unfoldable pub admit_of : Control → ℕ → ℕ → ℕ → ℕ → Admission
admit_of c most version more room =
    pick (leb (suc version) most)
    (pick (both (ltb c.items max_items) (leb (c.words + more) batch_room))
    (pick (leb (c.keys + (c.fresh + new_keys version)) room) (Ok (c.fresh + new_keys version)) (Err N.TableFull))
    (Err N.BatchFull))
    (Err N.VersionSpent)

-- 17 before them, where a version is named
unfoldable pub admit_named : Given → Control → ℕ → ℕ → ℕ → ℕ → Admission
admit_named named c most version more room = pick (is_named named version) (admit_of c most version more room) (Err N.OtherVersion)
