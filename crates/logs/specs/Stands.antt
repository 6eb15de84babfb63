-- An entry that stands in the words of an image: what its own words say of it.
-- Assumes nothing.
use Rattle.std.specs.Prelude.{◌≡◌, true, List, ℕ, ◌+◌, ◌≤◌, length, get_or, take, drop}
use Rattle.std.proofs.Math.Seq.{slice}
use Rattle.spec.specs.declared.FirstWord.TheVariants as F
use Rattle.spec.specs.Log.{Entry, first_of_word, words_for, filled, encode}
use Rattle.theory_log.specs.Batch.{Right}

-- the entry whose first word is word `at`, with so many words behind its key
abbrev pub entry_in : List ℕ → (op placement version field key words at : ℕ) → Entry
entry_in ws op placement version field key words at =
    record { op = op; placement = placement; version = version; field = field; key = key; value = slice (at + 2) (at + 2 + words) ws; at = at }

pub record StandsIn (ws : List ℕ) (e : Entry) : Type 0 where
  pub right : Right e
  pub first : first_of_word (get_or ws e.at 0) ≡ F.Entry e.op e.placement e.version e.field
  pub key : get_or ws (e.at + 1) 0 ≡ e.key
  pub value : e.value ≡ slice (e.at + 2) (e.at + 2 + words_for e.placement e.field) ws
  pub fits : e.at + (2 + words_for e.placement e.field) ≤ length ws
  pub fill : filled e.placement e.field (drop e.at ws) ≡ true
  pub words : take (2 + words_for e.placement e.field) (drop e.at ws) ≡ encode e
