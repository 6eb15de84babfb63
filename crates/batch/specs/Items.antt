-- The staged items in the words of the record's buffer: an item at a word, and the last item of a key.
-- Assumes nothing.
use Rattle.std.specs.Prelude.{◌≡◌, Bool, List, ℕ, ◌+◌, ◌/◌, ◌%◌, min, eqb, get_or, Option, Some, None}
use Rattle.spec.specs.Basics.{pick, all, negate, is_empty}
use Rattle.spec.specs.Log.{Entry, words_for, parse, encode_all}
use Rattle.spec.specs.Contents.{listed}
use Rattle.spec.specs.Plans.{is_delete}
use Rattle.spec.specs.declared.FirstWord.{FirstWord}
use Rattle.spec.specs.declared.FirstWord.TheVariants as F
use Rattle.theory_log.specs.Batch.{AllRight}
use Rattle.theory_log.specs.Fold.{fold_e}
use Rattle.buffer.specs.Areas.{batch_start, batch_room, filter_place}
use Rattle.session.specs.State.{buffer_part}
use Rattle.session.specs.Filter.{AllMarked}
use Rattle.batch.specs.declared.Latest.{Latest}
use Rattle.batch.specs.declared.Item.{Item}

-- the words of the buffer are those of these items, and its filter has their keys
pub record StagedIn (buffer : List ℕ) (words : ℕ) (items : List Entry) : Type 0 where
  pub written : buffer_part buffer batch_start (min words batch_room) ≡ encode_all items
  pub right : AllRight items
  pub marked : AllMarked (get_or buffer filter_place 0) items

-- what a first word and the word behind it say
abbrev pub item_by : FirstWord → ℕ → Item
item_by F.Padding key = record { op = 0; version = 0; key = 0; size = 1 }
item_by F.Wrong key = record { op = 0; version = 0; key = 0; size = 1 }
item_by (F.Entry op placement version field) key = record { op = op; version = version; key = key; size = 2 + words_for placement field }

-- the same of a word that is known to begin an item; of others something, and a size
abbrev pub item_of : (word key : ℕ) → Item
item_of w key = record { op = w % 4; version = w / 16 % 1048576; key = key; size = 2 + words_for (w / 4 % 4) (w / 16777216) }

-- the last item of a key, gathered in one pass
abbrev pub later_of : ℕ → Option Latest → ℕ → ℕ → ℕ → Option Latest
later_of key latest k op version = pick (eqb k key) (Some (record { op = op; version = version })) latest

abbrev pub pass : ℕ → Option Latest → Entry → Option Latest
pass key latest e = later_of key latest e.key e.op e.version

unfoldable pub latest_of : ℕ → List Entry → Option Latest
latest_of key items = fold_e (pass key) None items

-- the contracts of the two passes
abbrev pub LastStaged : List ℕ → ℕ → ℕ → Option Latest → Type 0
LastStaged buffer words key r = (items : List Entry) → StagedIn buffer words items → r ≡ latest_of key items

abbrev pub OnlyDeletes : List ℕ → ℕ → Bool → Type 0
OnlyDeletes buffer words r = (items : List Entry) → StagedIn buffer words items → r ≡ all is_delete items

-- whether the staged words say an item, whatever they are
unfoldable pub any_item : List ℕ → ℕ → Bool
any_item buffer words = negate (is_empty (listed (parse (buffer_part buffer batch_start (min words batch_room)) 0 0)))
