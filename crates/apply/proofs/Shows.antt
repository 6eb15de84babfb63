-- What the code shows of one word and of one entry: one law for each return.
-- Assumes nothing.
use Rattle.std.proofs.Common.{◌≡◌, ℕ, ◌+◌, ◌-◌, ◌%◌, Bool, true, false, eqb, List, [], ◌∷◌, length, sym, refl, ap, ◌∙◌, inl, inr, arith, eqb-true}
use borrow.Author.Tests.{eqb-false}
use Rattle.spec.specs.declared.Size.{Size}
use Rattle.places.specs.Sizes.{power_of}
use Rattle.spec.specs.Basics.{filter}
use Rattle.spec.specs.Log.{Entry, Entries, Wrong, moved, placed}
use Rattle.theory_base.proofs.Lists.{not-both}
use Rattle.theory_log.specs.Contents.{Mem}
use Rattle.theory_log.proofs.Contents.{mem-filter}
use Rattle.theory_log.proofs.Clean.{mem-placed}
use Rattle.logs.specs.declared.Entry as F
use Rattle.std.specs.Prelude.{Some, None}
use Rattle.logs.specs.declared.Cursor.{Cursor}
use Rattle.logs.specs.Cursor.{cursor_at, remaining, with_value, Handed}
use Rattle.packing.specs.declared.Info.{Info}
use Rattle.index.specs.Index.{info_at, stop_of, get, insert, put_at, Spare, Removal}
use Rattle.index.proofs.Laws.{insert-length, capacity-spare, remove-right}
use Rattle.index.proofs.Answers.{look_in, put-insert}
use Rattle.packing.specs.Packed.{pack_of, unpack_of}
use Rattle.volatile.proofs.Grow.{capacity-same}
use Rattle.session.specs.Cleaned.{Stand}
use Rattle.apply.specs.Leaving.{fewer, less_of, turned, turned_of}
use Rattle.apply.specs.Passes.{IsCopied, OneLeft}
use Rattle.apply.proofs.Steps.{zero-says, leaves-absent, leaves-gone, leaves-less, leaves-copied, kept-known, kept-place, kept_by, to_low}
use Rattle.forward.proofs.Walks.{Left, from-here, none_left, not-wrong, one_left}

dropped : (test : Entry → Bool) (e : Entry) → (test e ≡ true → ⊥) → test e ≡ false
dropped test e n = go (test e) refl
  where
    go : (b : Bool) → test e ≡ b → b ≡ false
    go true h = absurd (n h)
    go false h = refl

-- Words.
pub word-turned : (size : Size) → (word place r : ℕ) (i : Info) → i ≡ unpack_of size word → r ≡ pack_of size (turned i place) → r ≡ turned_of size word place
unfolding turned_of
word-turned size word place r i e h = h ∙ ap (λ (j : Info). pack_of size (turned j place)) e

pub word-less : (size : Size) → (word r n : ℕ) (i : Info) → i ≡ unpack_of size word → n ≡ i.entries - 1 → r ≡ pack_of size (record { extent = i.extent; place = i.place; version = i.version; entries = n; several = i.several }) → r ≡ less_of size word
unfolding less_of
word-less size word r n i e m h = h ∙ ap (λ (k : ℕ). pack_of size (record { extent = i.extent; place = i.place; version = i.version; entries = k; several = i.several })) m ∙ ap (λ (j : Info). pack_of size (fewer j)) e

-- Whether the entry has a copy.
module _ (size : Size) (ws : List ℕ) (to until op key : ℕ) where
  pub copied-put : op ≡ 1 → IsCopied ws to until op key true
  copied-put o = record { marks = λ test left e eo ek s. record { by = λ h. inl (eo ∙ o); not = λ h k. not-both true refl h } }

  -- the kept entries are the originals of the copies
  first-of : (test : Entry → Bool) (left : List Entry) (e : Entry) → test e ≡ true → placed to (filter test (e ∷ left)) ≡ moved to e ∷ placed (to + (2 + length e.value)) (filter test left)
  first-of test left e h = rw h

  abbrev cursor : Cursor
  cursor = cursor_at 0 to until

  module _ (lacks : (todo : List Entry) → Left size ws cursor todo → todo ≡ []) where
    pub copied_none : IsCopied ws to until op key false
    copied_none = record {
      marks = λ test left e eo ek s. record {
        by = λ h. absurd (not-both true refl (sym h));
        not = λ h k.
            let z = lacks (placed to (filter test (e ∷ left))) (from-here size ws to until ∙ s) in
            let n = ap length (sym (first-of test left e k) ∙ z) in
            omega arith;
      };
    }

  pub copied-done : remaining (power_of size) 0 ws cursor ≡ Entries [] → IsCopied ws to until op key false
  copied-done told = copied_none (λ todo is. none_left size ws cursor todo is told)

  pub copied-wrong : remaining (power_of size) 0 ws cursor ≡ Wrong → IsCopied ws to until op key false
  copied-wrong told = copied_none (λ todo is. absurd (not-wrong size ws cursor todo is told))

  pub copied_next : (c : F.Entry) → Handed (power_of size) 0 ws cursor c → IsCopied ws to until op key (eqb c.key key)
  copied_next f told = record {
    marks = λ test left e eo ek s. record { by = λ h. inr (yes test left e ek s h); not = λ h t. no' test left e ek s t h };
  }
    where
      first_key : List Entry → ℕ
      first_key [] = 0
      first_key (c ∷ cs) = c.key

      yes : (test : Entry → Bool) (left : List Entry) (e : Entry) → e.key ≡ key → Stand ws to until (placed to (filter test (e ∷ left))) → eqb f.key key ≡ true → (g : Entry) × Mem g (e ∷ left) × (test g ≡ true) × (g.key ≡ e.key)
      yes test left e ek s h =
          let u = one_left size ws cursor (placed to (filter test (e ∷ left))) (from-here size ws to until ∙ s) f told in
          let c = mem-placed (with_value ws f) to (filter test (e ∷ left)) (rw u.2 (inl refl)) in
          let b = mem-filter test c.0 (e ∷ left) c.1 in
          (c.0, b.0, b.1, sym (ap (λ (g : Entry). g.key) c.3) ∙ eqb-true f.key key h ∙ sym ek)

      no' : (test : Entry → Bool) (left : List Entry) (e : Entry) → e.key ≡ key → Stand ws to until (placed to (filter test (e ∷ left))) → test e ≡ true → eqb f.key key ≡ false → ⊥
      no' test left e ek s t h =
          let u = one_left size ws cursor (placed to (filter test (e ∷ left))) (from-here size ws to until ∙ s) f told in
          eqb-false f.key key h (sym (ap first_key (sym (first-of test left e t) ∙ u.2)) ∙ ek)

-- The probing for the key stops at `slot`, where the table holds `word`, which says `i`.
module _ (size : Size) (table : List ℕ) (keys key place to words slot word : ℕ) (copied : Bool) (i : Info) (is-slot : slot ≡ stop_of table key) (is_word : word ≡ info_at table slot) (is-info : i ≡ unpack_of size word) where
  is_get : word ≡ get table key
  is_get = is_word ∙ look_in table key slot is-slot

  inserted : (table' : List ℕ) (v : ℕ) → table' ≡ put_at table slot key v → table' ≡ insert table key v
  inserted table' v h = h ∙ put-insert table key slot is-slot v

  long : (table' : List ℕ) (v : ℕ) → table' ≡ put_at table slot key v → length table' ≡ length table
  long table' v h = ap length (inserted table' v h) ∙ insert-length table key v

  of_entry : (e : Entry) → e.key ≡ key → get table e.key ≡ word
  of_entry e k = ap (get table) k ∙ sym is_get

  info-of : (e : Entry) → e.key ≡ key → unpack_of size (get table e.key) ≡ i
  info-of e k = ap (unpack_of size) (of_entry e k) ∙ sym is-info

  pub entry-twins : OneLeft size table table keys key place to words copied None
  entry-twins = record { sized = refl; leaves = tt }

  pub entry-none : word ≡ 0 → OneLeft size table table keys key place to words copied (Some (record { keys = keys; to = to }))
  entry-none z = record {
    sized = refl;
    leaves = λ ws until es mid out test left e k a s u m l.
        let w : get table e.key ≡ 0 = of_entry e k ∙ z in
        let p : (unpack_of size (get table e.key)).several ≡ 0 = rw w (zero-says size).1 in
        leaves-absent size ws until es mid out test table keys e left to l p (dropped test e (λ t. kept-known size ws until es mid out test table keys e left to l p t w)) w;
  }

  module _ (n : word ≡ 0 → ⊥) (p : i.several ≡ 0) where
    here : (e : Entry) → e.key ≡ key → get table e.key ≡ 0 → ⊥
    here e k z = n (sym (of_entry e k) ∙ z)

    plain : (e : Entry) → e.key ≡ key → (unpack_of size (get table e.key)).several ≡ 0
    plain e k = ap (λ (j : Info). j.several) (info-of e k) ∙ p

    place_of : (e : Entry) → e.key ≡ key → (unpack_of size (get table e.key)).place ≡ i.place
    place_of e k = ap (λ (j : Info). j.place) (info-of e k)

    pub entry-copied : i.place ≡ place → copied ≡ true → (table' : List ℕ) (v to' : ℕ) → v ≡ turned_of size word to → table' ≡ put_at table slot key v → to' ≡ (to + words) % 0x1_0000_0000_0000_0000
        → OneLeft size table table' keys key place to words copied (Some (record { keys = keys; to = to' }))
    entry-copied q c table' v to' is-v h is-to = record {
      sized = long table' v h;
      leaves = λ ws until es mid out test left e k a s u m l.
          let kept = kept_by size ws until es mid out test table keys e left to l (plain e k) (here e k) (place_of e k ∙ q ∙ sym a) (m.by c) in
          let low = to_low size ws until es mid out test table keys e left to l (plain e k) kept in
          let next : to' ≡ to + (2 + length e.value) = omega arith in
          rw next (leaves-copied size ws until es mid out test table keys e left to l (plain e k) kept table' (rw (k, ← is_get, ← is-v) (inserted table' v h)));
    }

    pub entry_gone : i.place ≡ place → copied ≡ false → (table' : List ℕ) (done : Bool) → Removal table table' key done → (keys' : ℕ) → keys' ≡ keys - 1
        → OneLeft size table table' keys key place to words copied (Some (record { keys = keys'; to = to }))
    entry_gone q c table' done r keys' less = record {
      sized = r.sized;
      leaves = λ ws until es mid out test left e k a s u m l.
          let spare : Spare table = capacity-spare table (rw (← capacity-same (length table)) (let s = l.stored in let f = l.fits in omega arith)) in
          rw less (leaves-gone size ws until es mid out test table keys e left to l (plain e k) (dropped test e (m.not c)) (here e k) (place_of e k ∙ q ∙ sym a) table' (rw k (remove-right table table' key done r l.probed spare)) r.sized);
    }

    pub entry-less : (i.place ≡ place → ⊥) → (table' : List ℕ) (v : ℕ) → v ≡ less_of size word → table' ≡ put_at table slot key v
        → OneLeft size table table' keys key place to words copied (Some (record { keys = keys; to = to }))
    entry-less q table' v is-v h = record {
      sized = long table' v h;
      leaves = λ ws until es mid out test left e k a s u m l.
          let not-here : ((unpack_of size (get table e.key)).place ≡ e.at → ⊥) = λ w. q (sym (place_of e k) ∙ w ∙ a) in
          leaves-less size ws until es mid out test table keys e left to l (plain e k) (dropped test e (λ t. not-here (kept-place size ws until es mid out test table keys e left to l (plain e k) t))) (here e k) not-here table' (rw (k, ← is_get, ← is-v) (inserted table' v h));
    }
