-- What the table and the counts of a chunk's keys say of an entry is whether it is kept.
-- Assumes nothing.
use Rattle.std.proofs.Common.{◌≡◌, ℕ, suc, ◌+◌, ◌*◌, ◌%◌, ◌≤◌, Bool, true, false, ltb, List, [], ◌∷◌, ◌++◌, length, sym, refl, ap, ◌∙◌, subst, inl, inr, arith, le-ltb, lt-ltb, eq-eqb, ne_eqb}
use mathlib.Core.Logic.{by_cases}
use mathlib.Core.Option.{Option, none, some}
use native.Mathlib.Decide.{dec_lt, ℕ_discrete}
use lib.ListN.{length-replicate}
use lib.Seq.{slice}
use Rattle.spec.specs.declared.Size.{Size}
use Rattle.places.specs.Sizes.{power_of, power-low, power-high}
use Rattle.spec.specs.Places.{chunk_words}
use Rattle.spec.specs.Log.{Entry}
use Rattle.spec.specs.Contents.{chosen, known}
use Rattle.theory_base.proofs.Places.{words-most}
use Rattle.theory_base.proofs.Lists.{not-both}
use Rattle.theory_log.specs.Contents.{Mem}
use Rattle.theory_log.proofs.Contents.{mem-l, mem-r, none_of}
use Rattle.theory_log.proofs.Keys.{mem-known, known-mem}
use Rattle.theory_log.proofs.Walk.{slice-long}
use Rattle.theory_plans.proofs.Cleaning.{parse-words}
use Rattle.logs.specs.declared.Cursor.{Cursor}
use Rattle.logs.specs.declared.Entry as F
use Rattle.logs.specs.Cursor.{cursor_at, with_value, Handed}
use Rattle.packing.specs.declared.Info.{Info}
use Rattle.index.specs.Index.{get, insert, room, used, zeros, Probed}
use Rattle.index.proofs.Laws.{has_room, insert-same, insert-length, insert-old, insert-new, insert-probed, insert-other, empty-get, empty-probed, empty-used}
use Rattle.packing.specs.Packed.{unpack_of}
use Rattle.volatile.specs.Known.{entry_count}
use Rattle.volatile.proofs.Info.{said, info-says}
use Rattle.session.specs.Cleaned.{before, Stand}
use Rattle.forward.proofs.Sole.{count-append, count-own, count-other, count-known, count_no}
use Rattle.forward.proofs.Walks.{Left, from-here, Ended, one_left}
use Rattle.gathering.specs.Measuring.{Gatherable, Counting, Tells, Decided, KeptTest}
use Rattle.gathering.proofs.SizeWords.{few_words}

-- ## A key has entries exactly if it is known

known-count : (k : ℕ) (es : List Entry) → known k es ≡ ltb 0 (entry_count k es)
known-count k es = go (known k es) refl
  where
    go : (b : Bool) → known k es ≡ b → b ≡ ltb 0 (entry_count k es)
    go true h = let r = known-mem k es h in sym (lt-ltb 0 (entry_count k es) (let c = count-known k es r.0 r.1 r.2 in omega arith))
    go false h = let c = count_no k es (λ e m q. not-both (known k es) (mem-known k es e m q) h) in sym (le-ltb 0 (entry_count k es) (omega arith))

-- ## The entries of each key in the chunk

count-few : (k : ℕ) (es : List Entry) → entry_count k es ≤ length es
count-few k [] = omega arith
count-few k (x ∷ xs) = go (ℕ_discrete x.key k) (count-few k xs)
  where
    go : Dec (x.key ≡ k) → entry_count k xs ≤ length xs → entry_count k (x ∷ xs) ≤ suc (length xs)
    go (yes y) h = let c = count-own k x xs y in omega arith
    go (no n) h = let c = count-other k x xs n in omega arith

-- the counts so far, and those of the entries `left`, are those of all
pub record CountsLeft (counts : List ℕ) (mid left : List Entry) : Type 0 where
  pub probed : Probed counts
  pub few : used counts + length left ≤ length mid
  pub each : (k : ℕ) → get counts k + entry_count k left ≡ entry_count k mid

module _ (size : Size) (counts : List ℕ) (mid left : List Entry) (e : Entry) (so : CountsLeft counts mid (e ∷ left)) (sized : length counts ≡ 2 * chunk_words (power_of size)) (most : length mid ≤ chunk_words (power_of size)) (k more : ℕ) (own : e.key ≡ k) (is : more ≡ (get counts k + 1) % 0x1_0000_0000_0000_0000) where
  one_more : more ≡ get counts k + 1
  one_more = let a = so.each k in let b = count-few k mid in let w = words-most (power_of size) (power-low size) (power-high size) in omega arith

  not-zero : more ≡ 0 → ⊥
  not-zero z = let a = one_more in omega arith

  has-slot : room counts k ≡ true
  has-slot = has_room counts k (let f = so.few in omega arith)

  counts-more : CountsLeft (insert counts k more) mid left
  counts-more = record {
    probed = insert-probed counts k more so.probed not-zero;
    few = go (ℕ_discrete (get counts k) 0);
    each = λ j. by_cases (ℕ_discrete j k) (λ q. rw q same) (λ n. other j n);
  }
    where
      go : Dec (get counts k ≡ 0) → used (insert counts k more) + length left ≤ length mid
      go (yes z) = let u = insert-new counts k more has-slot z not-zero in let f = so.few in omega arith
      go (no z) = let u = insert-old counts k more z not-zero in let f = so.few in omega arith

      same : get (insert counts k more) k + entry_count k left ≡ entry_count k mid
      same = let g = insert-same counts k more has-slot in let a = one_more in let c = count-own k e left own in let h = so.each k in omega arith

      other : (j : ℕ) → (j ≡ k → ⊥) → get (insert counts k more) j + entry_count j left ≡ entry_count j mid
      other j n = let g = insert-other counts k more so.probed not-zero j n in let c = count-other j e left (λ q. n (sym q ∙ own)) in let h = so.each j in omega arith

pub record CountsOn (size : Size) (ws : List ℕ) (at end : ℕ) (counts₀ counts : List ℕ) (c : Cursor) : Type 0 where
  pub sized : length counts ≡ length counts₀
  pub goes : length counts ≡ 2 * chunk_words (power_of size) → (mid : List Entry) → Stand ws at end mid → end ≤ at + chunk_words (power_of size) → (left : List Entry) × Left size ws c left × CountsLeft counts mid left

pub counts_start : (size : Size) → (ws : List ℕ) (at end : ℕ) (counts : List ℕ) (n : ℕ) → counts ≡ zeros n → CountsOn size ws at end counts counts (cursor_at 0 at end)
counts_start size ws at end counts n e = record {
  sized = refl;
  goes = λ l mid s u. (mid, from-here size ws at end ∙ s, rw e (record { probed = empty-probed n; few = let z = empty-used n in omega arith; each = λ k. let z = empty-get n k in omega arith }));
}

module _ (size : Size) (ws : List ℕ) (at end : ℕ) (counts₀ counts : List ℕ) (c : Cursor) (inv : CountsOn size ws at end counts₀ counts c) where
  module _ (entry : List ℕ) (cleared : counts₀ ≡ zeros (length entry)) where
    same_size : length counts ≡ length entry
    same_size = inv.sized ∙ ap length cleared ∙ length-replicate (length entry) 0

    pub counts-end : Ended size ws c → Counting size ws at end entry counts
    counts-end d = record {
      sized = same_size;
      counted = λ l. record {
        says = λ mid s u k.
            let q = inv.goes (same_size ∙ l) mid s u in
            let o : CountsLeft counts mid [] = rw (d q.0 q.1) at q.2 in
            let h = o.each k in
            omega arith;
      };
    }

  pub counts-next : (e : F.Entry) → Handed (power_of size) 0 ws c e → (old more : ℕ) → old ≡ get counts e.key → more ≡ (old + 1) % 0x1_0000_0000_0000_0000
      → (counts' : List ℕ) → counts' ≡ insert counts e.key more → CountsOn size ws at end counts₀ counts' e.behind
  counts-next e d old more io im counts' is = record {
    sized = rw is (insert-length counts e.key more ∙ inv.sized);
    goes = λ l mid s u.
        let z : length counts ≡ 2 * chunk_words (power_of size) = sym (insert-length counts e.key more) ∙ sym (ap length is) ∙ l in
        let q = inv.goes z mid s u in
        let o = one_left size ws c q.0 q.1 e d in
        (o.0, o.1, subst (λ (t : List ℕ). CountsLeft t mid o.0) (sym is) (counts-more size counts mid o.0 (with_value ws e) (rw o.2 at q.2) z (most mid s u) e.key more refl (im ∙ rw io)));
  }
    where
      most : (mid : List Entry) → Stand ws at end mid → end ≤ at + chunk_words (power_of size) → length mid ≤ chunk_words (power_of size)
      most mid s u = let b = parse-words (slice at end ws) 0 at mid s in let g = slice-long at end ws in let f = few_words mid in omega arith

-- nothing is counted at first
pub tells-start : (size : Size) → (ws counts : List ℕ) (at end : ℕ) → length counts ≡ 2 * chunk_words (power_of size) → Tells size ws counts at end false
tells-start size ws counts at end long = (long, λ h. absurd (not-both false h refl))

-- ## The test

module _ (size : Size) (table counts : List ℕ) (op key place : ℕ) (word : ℕ) (info : Info) (is_word : word ≡ get table key) (is-info : info ≡ unpack_of size word) where
  module _ (ws : List ℕ) (at end keys : ℕ) (xs mid ys : List Entry) (e : Entry) (g : Gatherable size ws table keys at end xs mid ys) (m : Mem e mid) (k : e.key ≡ key) where
    abbrev es : List Entry
    es = before xs mid ys

    -- the chosen entry of the key, of which the word speaks
    record Spoken : Type 0 where
      entry : Entry
      is : chosen e.key es ≡ some entry
      place_is : info.place ≡ entry.at
      entries-is : info.entries ≡ entry_count e.key es

    spoken : Spoken
    spoken = go (chosen e.key es) refl
      where
        go : (o : Option Entry) → chosen e.key es ≡ o → Spoken
        go none h = absurd (none_of e.key es e h (mem-r e xs (mid ++ ys) (mem-l e mid ys m)) refl)
        go (some f) h =
            let s : info ≡ said size e.key es f = is-info ∙ ap (unpack_of size) (is_word ∙ ap (get table) (sym k) ∙ g.indexed.info e.key) ∙ info-says size e.key es g.small f h in
            record { entry = f; is = h; place_is = ap (λ (i : Info). i.place) s; entries-is = ap (λ (i : Info). i.entries) s }

    shared : entry_count e.key es ≡ entry_count e.key mid + entry_count e.key (xs ++ ys)
    shared =
        let a = count-append e.key xs (mid ++ ys) in
        let b = count-append e.key mid ys in
        let c = count-append e.key xs ys in
        omega arith

  pub test-other : (info.place ≡ place → ⊥) → KeptTest size table counts op key place false
  test-other n = record {
    kept = λ ws at end keys xs mid ys e g d m o k a.
        let s = spoken ws at end keys xs mid ys e g m k in
        sym (rw (s.is, ne_eqb s.entry.at e.at (λ q. n (s.place_is ∙ q ∙ a))));
  }

  pub test-put : info.place ≡ place → op ≡ 1 → KeptTest size table counts op key place true
  test-put p one = record {
    kept = λ ws at end keys xs mid ys e g d m o k a.
        let s = spoken ws at end keys xs mid ys e g m k in
        sym (rw (s.is, eq-eqb s.entry.at e.at (sym s.place_is ∙ p ∙ sym a), eq-eqb e.op 1 (o ∙ one)));
  }

  -- a delete that is its key's only entry
  pub test-sole : info.place ≡ place → (op ≡ 1 → ⊥) → info.entries ≡ 1 → KeptTest size table counts op key place false
  test-sole p not-one sole = record {
    kept = λ ws at end keys xs mid ys e g d m o k a.
        let s = spoken ws at end keys xs mid ys e g m k in
        let x = s.entries-is in
        let y = shared ws at end keys xs mid ys e g m k in
        let z = count-known e.key mid e m refl in
        let u : entry_count e.key (xs ++ ys) ≡ 0 = omega arith in
        sym (rw (s.is, eq-eqb s.entry.at e.at (sym s.place_is ∙ p ∙ sym a), ne_eqb e.op 1 (λ q. not-one (sym o ∙ q)), known-count e.key (xs ++ ys), u));
  }

  pub test-delete : info.place ≡ place → (op ≡ 1 → ⊥) → (info.entries ≡ 1 → ⊥) → (n : ℕ) → n ≡ get counts key → (r : Bool) → r ≡ ltb n info.entries → KeptTest size table counts op key place r
  test-delete p not-one not-sole n is-n r is-r = record {
    kept = λ ws at end keys xs mid ys e g d m o k a.
        let s = spoken ws at end keys xs mid ys e g m k in
        let x : n ≡ entry_count e.key mid = is-n ∙ here ws at end mid d g.here g.short ∙ ap (λ (i : ℕ). entry_count i mid) (sym k) in
        let y = s.entries-is in
        let z = shared ws at end keys xs mid ys e g m k in
        let u : info.entries ≡ n + entry_count e.key (xs ++ ys) = omega arith in
        sym (rw (s.is, eq-eqb s.entry.at e.at (sym s.place_is ∙ p ∙ sym a), ne_eqb e.op 1 (λ q. not-one (sym o ∙ q)), known-count e.key (xs ++ ys)) (sym (is-r ∙ ap (ltb n) u ∙ more-than n (entry_count e.key (xs ++ ys)))));
  }
    where
      here : (ws : List ℕ) (at end : ℕ) (mid : List Entry) → Decided size ws table counts at end op key → Stand ws at end mid → end ≤ at + chunk_words (power_of size) → get counts key ≡ entry_count key mid
      here ws at end mid (inl e) s u = absurd (not-one e)
      here ws at end mid (inr (inl e)) s u = absurd (not-sole (ap (λ (i : Info). i.entries) (is-info ∙ ap (unpack_of size) is_word) ∙ e))
      here ws at end mid (inr (inr c)) s u = c.says mid s u key

      more-than : (a b : ℕ) → ltb a (a + b) ≡ ltb 0 b
      more-than a b = by_cases (dec_lt 0 b) (λ l. lt-ltb a (a + b) (omega arith) ∙ sym (lt-ltb 0 b l)) (λ l. le-ltb a (a + b) (omega arith) ∙ sym (le-ltb 0 b (omega arith)))
