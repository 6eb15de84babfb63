-- The laws of the first pass: the table after no entry, after one more in each case that the code has, and at the end.
-- Assumes nothing.
use Rattle.std.proofs.Common.{◌≡◌, ℕ, ◌+◌, ◌<◌, ◌≤◌, Bool, true, false, List, [], ◌∷◌, ◌++◌, length, sym, refl, ◌∙◌, arith, le-leb}
use lib.ListN.{length-replicate}
use borrow.Author.Tests.{lt-leb}
use Rattle.spec.specs.declared.Size.{Size}
use Rattle.spec.specs.Log.{Entry}
use Rattle.spec.specs.Contents.{keys_of, capacity}
use Rattle.spec.specs.Opening.{fits_table}
use Rattle.theory_base.proofs.Lists.{not-both}
use Rattle.theory_log.proofs.Contents.{chosen_none}
use Rattle.theory_log.proofs.Keys.{keys-fewer, known-append}
use Rattle.index.specs.Index.{get, insert, zeros}
use Rattle.index.proofs.Laws.{empty-get, empty-probed, empty-used}
use Rattle.volatile.specs.Known.{own_of, noted, Bounded, Indexed, FillInv}
use Rattle.volatile.proofs.Info.{info-none}
use Rattle.volatile.proofs.Grow.{Grows, grows-last, was-unknown, same_length, indexed-old, indexed-new}

-- A table that holds all, and one that cannot.
pub fill_end : (size : Size) → (words : ℕ) (es : List Entry) (table : List ℕ) (keys : ℕ) → FillInv size words es table keys true → Indexed size table keys es
fill_end size words es table keys inv = record {
  probed = inv.probed;
  info = (inv.whole refl).0;
  count = (inv.whole refl).1;
  stored = inv.stored;
  fits = rw inv.sized inv.room;
}

filled : (size : Size) → (words : ℕ) (es : List Entry) (table : List ℕ) (keys : ℕ) → length table ≡ words → Indexed size table keys es → FillInv size words es table keys true
filled size words es table keys n inv = record {
  sized = n;
  probed = inv.probed;
  stored = inv.stored;
  room = rw n at inv.fits;
  whole = λ t. (inv.info, inv.count);
  over = λ f. absurd (not-both true refl f);
}

left : (size : Size) → (words : ℕ) (xs xs' : List Entry) (table : List ℕ) (keys : ℕ) (fits : Bool) → FillInv size words xs table keys fits → capacity words < length (keys_of xs') → FillInv size words xs' table keys false
left size words xs xs' table keys fits inv l = record {
  sized = inv.sized;
  probed = inv.probed;
  stored = inv.stored;
  room = inv.room;
  whole = λ t. absurd (not-both true refl (sym t));
  over = λ f. omega arith;
}

-- The empty table.
pub fill_start : (size : Size) → (words : ℕ) → FillInv size words [] (zeros words) 0 true
fill_start size words =
    filled size words [] (zeros words) 0 (length-replicate words 0) (record {
      probed = empty-probed words;
      info = λ k. empty-get words k ∙ sym (info-none size k [] (chosen_none k [] (λ f m q. m)));
      count = refl;
      stored = empty-used words;
      fits = omega arith;
    })

-- One more entry. `old` is what the table holds of its key, `info` what it gets.
module _ (size : Size) (words : ℕ) (xs : List Entry) (e : Entry) (table table' : List ℕ) (keys old info : ℕ) (inv : FillInv size words xs table keys true) (small : Bounded size (xs ++ e ∷ []))
    (is-old : old ≡ get table e.key) where
  now : Indexed size table keys xs
  now = fill_end size words xs table keys inv

  grows : Grows size xs (xs ++ e ∷ []) e
  grows = grows-last size xs e small

  module _ (is-info : info ≡ noted size old (own_of size e)) (is-table : table' ≡ insert table e.key info) where
    long : length table' ≡ words
    long = same_length size xs (xs ++ e ∷ []) e table table' keys old info now grows is-old is-info is-table ∙ inv.sized

    -- of a key that the table has
    pub fill-old : (old ≡ 0 → ⊥) → FillInv size words (xs ++ e ∷ []) table' keys true
    fill-old n = filled size words (xs ++ e ∷ []) table' keys long (indexed-old size xs (xs ++ e ∷ []) e table table' keys old info now grows is-old is-info is-table n)

    -- of a new key, where there is room
    pub fill-new : old ≡ 0 → keys < capacity words → FillInv size words (xs ++ e ∷ []) table' (keys + 1) true
    fill-new z c = filled size words (xs ++ e ∷ []) table' (keys + 1) long (indexed-new size xs (xs ++ e ∷ []) e table table' keys old info now grows is-old is-info is-table z (rw inv.sized c))

  -- of a new key, where there is none
  pub fill-full : old ≡ 0 → capacity words ≤ keys → FillInv size words (xs ++ e ∷ []) table keys false
  fill-full z c =
      let m = now.count in
      let l = grows.new (was-unknown size xs (xs ++ e ∷ []) e table table' keys old info now grows is-old z) in
      left size words xs (xs ++ e ∷ []) table keys true inv (omega arith)

-- of any key, once there are too many: the table stays
pub fill-over : (size : Size) → (words : ℕ) (xs : List Entry) (e : Entry) (table : List ℕ) (keys : ℕ) → FillInv size words xs table keys false → FillInv size words (xs ++ e ∷ []) table keys false
fill-over size words xs e table keys inv =
    let m = inv.over refl in
    let l = keys-fewer xs (xs ++ e ∷ []) (λ k t. known-append k xs (e ∷ []) ∙ rw t) in
    left size words xs (xs ++ e ∷ []) table keys false inv (omega arith)

-- The end.
pub fill-fits : (size : Size) → (words : ℕ) (es : List Entry) (table : List ℕ) (keys : ℕ) (fits : Bool) → FillInv size words es table keys fits → fits ≡ fits_table words es
fill-fits size words es table keys true inv = let r = inv.room in let l = (inv.whole refl).1 in sym (le-leb (length (keys_of es)) (capacity words) (omega arith))
fill-fits size words es table keys false inv = sym (lt-leb (length (keys_of es)) (capacity words) (inv.over refl))
