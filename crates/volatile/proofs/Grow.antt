-- The laws of a table that holds the entries: what a look-up finds, and one more entry, behind all others or above all
-- of its key.
-- Assumes nothing.
use Rattle.std.proofs.Common.{◌≡◌, ℕ, ◌+◌, ◌<◌, ◌≤◌, Bool, true, false, eqb, ◌⊎◌, List, [], ◌∷◌, ◌++◌, length, sym, refl, ap, ◌∙◌, inl, inr, append-nil, arith, length-append, eq-eqb, ne_eqb, eqb-true}
use mathlib.Core.Logic.{by_cases}
use mathlib.Core.Option.{none, some}
use native.Mathlib.Decide.{ℕ_discrete}
use borrow.Author.Tests.{eqb-false}
use Rattle.spec.specs.declared.Size.{Size}
use Rattle.spec.specs.Basics.{pick, either, is_in}
use Rattle.spec.specs.Log.{Entry}
use Rattle.spec.specs.Contents.{highest, chosen, known, keys_of, capacity}
use Rattle.theory_base.proofs.Lists.{not-both, distinct-is, distinct-old, distinct-new}
use Rattle.theory_log.specs.Contents.{Mem}
use Rattle.theory_log.proofs.Contents.{mem-l, mem-r, mem-cases}
use Rattle.theory_log.proofs.Keys.{key_list, mem-known, keys-known, keys-equal, known-append}
use Rattle.index.specs.Index.{get, room, insert, used, capacity as table_room}
use Rattle.index.proofs.Laws.{capacity-room, room-stored, insert-same, insert-other, insert-probed, insert-old, insert-new, insert-length}
use Rattle.packing.specs.Packed.{widths_of, unpack_of}
use Rattle.volatile.specs.Known.{info_of, own_of, noted, Bounded, Indexed}
use Rattle.volatile.proofs.Info.{said, info-other, info-above, info-next, nonzero-chosen, zero-chosen, zero-unknown, unknown-zero}

-- the table's capacity and that of opening are one number
pub capacity-same : (words : ℕ) → capacity words ≡ table_room words
unfolding capacity
capacity-same words = refl

-- The number of known keys, with one more entry anywhere: of a key that was known, and of a new one.
either-turn : (a b c : Bool) → either a (either b c) ≡ either b (either a c)
either-turn true true c = refl
either-turn true false c = refl
either-turn false true c = refl
either-turn false false c = refl

module _ (xs ys : List Entry) (e : Entry) where
  keys-insert : length (keys_of (xs ++ e ∷ ys)) ≡ length (keys_of (e ∷ (xs ++ ys)))
  keys-insert = keys-equal (xs ++ e ∷ ys) (e ∷ (xs ++ ys)) same
    where
      same : (k : ℕ) → known k (xs ++ e ∷ ys) ≡ known k (e ∷ (xs ++ ys))
      same k =
          known-append k xs (e ∷ ys) ∙ ap (either (known k xs)) (known-append k (e ∷ []) ys) ∙ either-turn (known k xs) (known k (e ∷ [])) (known k ys)
          ∙ sym (known-append k (e ∷ []) (xs ++ ys) ∙ ap (either (known k (e ∷ []))) (known-append k xs ys))

  listed : is_in e.key (key_list (xs ++ ys)) ≡ known e.key (xs ++ ys)
  listed = sym (distinct-is e.key (key_list (xs ++ ys))) ∙ keys-known e.key (xs ++ ys)

  pub keys-old : known e.key (xs ++ ys) ≡ true → length (keys_of (xs ++ e ∷ ys)) ≡ length (keys_of (xs ++ ys))
  keys-old h = keys-insert ∙ ap length (distinct-old e.key (key_list (xs ++ ys)) (listed ∙ h))

  pub keys-new : known e.key (xs ++ ys) ≡ false → length (keys_of (xs ++ e ∷ ys)) ≡ length (keys_of (xs ++ ys)) + 1
  keys-new h = keys-insert ∙ ap length (distinct-new e.key (key_list (xs ++ ys)) (listed ∙ h)) ∙ omega arith

-- ## What a look-up finds

module _ (size : Size) (table : List ℕ) (keys : ℕ) (es : List Entry) (inv : Indexed size table keys es) (small : Bounded size es) (k word : ℕ) (is : word ≡ get table k) where
  pub found_none : word ≡ 0 → chosen k es ≡ none
  found_none z = zero-chosen size k es small (sym (inv.info k) ∙ sym is ∙ z)

  pub found-chosen : (word ≡ 0 → ⊥) → (e : Entry) × (chosen k es ≡ some e) × (unpack_of size word ≡ said size k es e)
  found-chosen n = rw (is ∙ inv.info k) (nonzero-chosen size k es small (λ z. n (is ∙ inv.info k ∙ z)))

-- ## One more entry

-- es' is es with e: what the table holds changes for its key alone
pub record Grows (size : Size) (es es' : List Entry) (e : Entry) : Type 0 where
  pub small : Bounded size es
  pub small' : Bounded size es'
  pub present : known e.key es' ≡ true
  pub info : (k : ℕ) → info_of size k es' ≡ pick (eqb e.key k) (noted size (info_of size k es) (own_of size e)) (info_of size k es)
  pub old : known e.key es ≡ true → length (keys_of es') ≡ length (keys_of es)
  pub new : known e.key es ≡ false → length (keys_of es') ≡ length (keys_of es) + 1

bounded-without : (size : Size) → (xs ys : List Entry) (e : Entry) → Bounded size (xs ++ e ∷ ys) → Bounded size (xs ++ ys)
bounded-without size xs ys e b = record { each = λ f m. b.each f (go f (mem-cases f xs ys m)); few = few }
  where
    go : (f : Entry) → Mem f xs ⊎ Mem f ys → Mem f (xs ++ e ∷ ys)
    go f (inl m) = mem-l f xs (e ∷ ys) m
    go f (inr m) = mem-r f xs (e ∷ ys) (inr m)

    few : length (xs ++ ys) < (widths_of size).entries
    few = let a = length-append xs ys in let c = length-append xs (e ∷ ys) in let l = b.few in omega arith

-- above all of its key, anywhere
pub grows-above : (size : Size) → (xs ys : List Entry) (e : Entry) → Bounded size (xs ++ e ∷ ys) → highest e.key (xs ++ ys) < e.version → Grows size (xs ++ ys) (xs ++ e ∷ ys) e
grows-above size xs ys e b l = record {
  small = bounded-without size xs ys e b;
  small' = b;
  present = mem-known e.key (xs ++ e ∷ ys) e (mem-r e xs (e ∷ ys) (inl refl)) refl;
  info = λ k. go k (eqb e.key k) (eqb-true e.key k) (eqb-false e.key k);
  old = keys-old xs ys e;
  new = keys-new xs ys e;
}
  where
    go : (k : ℕ) (t : Bool) → (t ≡ true → e.key ≡ k) → (t ≡ false → e.key ≡ k → ⊥) → info_of size k (xs ++ e ∷ ys) ≡ pick t (noted size (info_of size k (xs ++ ys)) (own_of size e)) (info_of size k (xs ++ ys))
    go k true y n = info-above size k xs ys e (bounded-without size xs ys e b) (b.each e (mem-r e xs (e ∷ ys) (inl refl))) (y refl) (rw (y refl) at l)
    go k false y n = info-other size k xs ys e (n refl)

-- behind all others
pub grows-last : (size : Size) → (xs : List Entry) (e : Entry) → Bounded size (xs ++ e ∷ []) → Grows size xs (xs ++ e ∷ []) e
grows-last size xs e b =
    let front : Bounded size xs = rw (append-nil xs) at (bounded-without size xs [] e b) in
    record {
      small = front;
      small' = b;
      present = mem-known e.key (xs ++ e ∷ []) e (mem-r e xs (e ∷ []) (inl refl)) refl;
      info = λ k. info-next size k xs e front (b.each e (mem-r e xs (e ∷ []) (inl refl)));
      old = λ h. keys-old xs [] e (rw (append-nil xs) h) ∙ rw (append-nil xs);
      new = λ h. keys-new xs [] e (rw (append-nil xs) h) ∙ rw (append-nil xs);
    }

-- `old` is what the table holds of the key, `info` what it gets
module _ (size : Size) (es es' : List Entry) (e : Entry) (table table' : List ℕ) (keys old info : ℕ) (inv : Indexed size table keys es) (grows : Grows size es es' e)
    (is-old : old ≡ get table e.key) where
  before : old ≡ info_of size e.key es
  before = is-old ∙ inv.info e.key

  pub was-unknown : old ≡ 0 → known e.key es ≡ false
  was-unknown z = zero-unknown size e.key es grows.small (sym before ∙ z)

  was-known : (old ≡ 0 → ⊥) → known e.key es ≡ true
  was-known n = go (known e.key es) refl
    where
      go : (b : Bool) → known e.key es ≡ b → b ≡ true
      go true h = refl
      go false h = absurd (n (before ∙ unknown-zero size e.key es grows.small h))

  module _ (is-info : info ≡ noted size old (own_of size e)) (is-table : table' ≡ insert table e.key info) where
    own : info ≡ info_of size e.key es'
    own = is-info ∙ ap (λ (w : ℕ). noted size w (own_of size e)) before ∙ sym (grows.info e.key ∙ rw (eq-eqb e.key e.key refl))

    nonzero : info ≡ 0 → ⊥
    nonzero z = not-both (known e.key es') grows.present (zero-unknown size e.key es' grows.small' (sym own ∙ z))

    holds : room table e.key ≡ true → (k : ℕ) → get table' k ≡ info_of size k es'
    holds h k =
        rw is-table (by_cases (ℕ_discrete k e.key)
        (λ q. rw q (insert-same table e.key info h ∙ own))
        (λ n. insert-other table e.key info inv.probed nonzero k n ∙ inv.info k ∙ sym (grows.info k ∙ rw (ne_eqb e.key k (λ q. n (sym q))))))

    pub same_length : length table' ≡ length table
    same_length = ap length is-table ∙ insert-length table e.key info

    indexed : (more : ℕ) → room table e.key ≡ true → used table' ≡ more → more ≤ capacity (length table) → more ≡ length (keys_of es') → Indexed size table' more es'
    indexed more h u c l = record {
      probed = rw is-table (insert-probed table e.key info inv.probed nonzero);
      info = holds h;
      count = l;
      stored = u;
      fits = rw same_length c;
    }

    -- a key that the table has
    pub indexed-old : (old ≡ 0 → ⊥) → Indexed size table' keys es'
    indexed-old n =
        let g : (get table e.key ≡ 0 → ⊥) = λ z. n (is-old ∙ z) in
        indexed keys (room-stored table e.key g)
        (ap used is-table ∙ insert-old table e.key info g nonzero ∙ inv.stored) inv.fits
        (inv.count ∙ sym (grows.old (was-known n)))

    -- a new key, where there is room
    pub indexed-new : old ≡ 0 → keys < capacity (length table) → Indexed size table' (keys + 1) es'
    indexed-new z c =
        let h = capacity-room table e.key (rw (inv.stored, ← capacity-same (length table)) c) in
        indexed (keys + 1) h
        (ap used is-table ∙ insert-new table e.key info h (sym is-old ∙ z) nonzero ∙ ap (λ (m : ℕ). m + 1) inv.stored) (omega arith)
        (ap (λ (m : ℕ). m + 1) inv.count ∙ sym (grows.new (was-unknown z)))
