-- `staging::admit::admit_any` meets its contract.
-- Assumes nothing.
use native.Mathlib.Omega.{arith}
use Rattle.staging.proofs.Admits.{new_is, admit-spent, admit-many, admit-full, admit-keys, admit-all}
use Rattle.staging.proofs.admit.admit_any.Goals as goal
use Rattle.staging.proofs.admit.admit_any.Goals.{then-control-ge-MOST_ITEMS-via-then-control-ge-MOST_ITEMS, then-control-ge-MOST_ITEMS-via-else-control-ge-MOST_ITEMS+then-words-gt-BATCH_WORDS, then-control-ge-MOST_ITEMS-via-else-control-ge-MOST_ITEMS+else-words-gt-BATCH_WORDS+then-words-more}
use Rattle.staging.proofs.admit.admit_any.Goals.{then-room-keys-via-then-room-keys, then-room-keys-via-else-room-keys+then-room-keys-2, then-room-keys-via-else-room-keys+else-room-keys-2+then-room-keys-3}

pub returns-then-most-version : goal.returns-then-most-version
returns-then-most-version c = admit-spent _ _ _ _ _ c.if-most-version.true

pub returns-then-control-ge-MOST_ITEMS : goal.returns-then-control-ge-MOST_ITEMS
returns-then-control-ge-MOST_ITEMS c =
    elim c.then-control-ge-MOST_ITEMS.branch [
      | then-control-ge-MOST_ITEMS-via-then-control-ge-MOST_ITEMS w ↦ admit-many _ _ _ _ _ c.if-most-version.false w.if-control-ge-MOST_ITEMS.true
      | then-control-ge-MOST_ITEMS-via-else-control-ge-MOST_ITEMS+then-words-gt-BATCH_WORDS w ↦ admit-full _ _ _ _ _ c.if-most-version.false w.if-control-ge-MOST_ITEMS.false (omega arith)
      | then-control-ge-MOST_ITEMS-via-else-control-ge-MOST_ITEMS+else-words-gt-BATCH_WORDS+then-words-more w ↦ admit-full _ _ _ _ _ c.if-most-version.false w.if-control-ge-MOST_ITEMS.false (omega arith)
    ]

pub returns-then-room-keys : goal.returns-then-room-keys
returns-then-room-keys c =
    let a = c.args in
    let new = new_is a.control a.most a.version a.more a.room _ c.from-new.ensures in
    let full = admit-keys a.control a.most a.version a.more a.room c.if-most-version.false c.if-control-ge-MOST_ITEMS.false (omega arith) _ new in
    elim c.then-room-keys.branch [
      | then-room-keys-via-then-room-keys w ↦ full (omega arith)
      | then-room-keys-via-else-room-keys+then-room-keys-2 w ↦ full (omega arith)
      | then-room-keys-via-else-room-keys+else-room-keys-2+then-room-keys-3 w ↦ full (omega arith)
    ]

pub returns : goal.returns
returns c =
    let a = c.args in
    admit-all _ _ _ _ _ c.if-most-version.false c.if-control-ge-MOST_ITEMS.false (omega arith) _ (new_is a.control a.most a.version a.more a.room _ c.from-new.ensures) (omega arith)
