-- What one step does to what is owed: an entry leaves, and its copy takes its place, if it has one. And the end.
-- Assumes nothing.
use Rattle.std.proofs.Common.{◌≡◌, ℕ, suc, ◌+◌, ◌-◌, ◌<◌, ◌≤◌, Bool, true, false, eqb, ◌⊎◌, List, [], ◌∷◌, length, take, drop, sym, refl, ap, ◌∙◌, subst, inl, inr, arith, length-drop, length-take, eq-eqb, eqb-true}
use mathlib.Core.Logic.{by_cases}
use mathlib.Core.Option.{Option, none, some}
use native.Mathlib.Decide.{ℕ_discrete}
use lib.Seq.{slice}
use Rattle.spec.specs.declared.Size.{Size}
use Rattle.spec.specs.declared.Size.TheVariants as Z
use Rattle.spec.specs.Basics.{both, filter}
use Rattle.spec.specs.Medium.{Mem as Among}
use Rattle.spec.specs.declared.LogStep.{LogStep}
use Rattle.spec.specs.declared.LogStep.TheVariants as S
use Rattle.spec.specs.Log.{Entry, Parsed, Wrong, Entries, step_of, parse, moved, placed}
use Rattle.spec.specs.Contents.{chosen, known, keys_of, capacity}
use Rattle.theory_base.proofs.Lists.{not-both, both_l, both_r, both-i, Once, distinct-once, is_in-mem, mem-is_in}
use Rattle.theory_log.specs.Contents.{Mem}
use Rattle.theory_log.proofs.Contents.{chosen_is, mem-filter, filter-mem}
use Rattle.theory_log.proofs.Keys.{key_list, keys-known, mem-known, known-mem}
use Rattle.theory_log.proofs.Parse.{cons_inv}
use Rattle.theory_log.proofs.Places.{rising-in, rising-apart, parse-sound}
use Rattle.theory_log.proofs.Walk.{slice-more, parse-end, parse-wrong, parse-padding, parse-next, entry_at}
use Rattle.packing.specs.declared.Info.{Info}
use Rattle.index.specs.Index.{get, used, insert, Probed, Removed}
use Rattle.index.proofs.Laws.{room-stored, insert-same, insert-other, insert-probed, insert-old, insert-length}
use Rattle.index.proofs.Keys.{In, Apart, keys-used}
use Rattle.packing.specs.Packed.{widths_of, Narrow, pack_of, unpack_of, place-few, pack-fits, unpack-narrow, unpack-pack, pack-nonzero}
use Rattle.volatile.specs.Known.{entry_count, several, extent_of, info_for, info_of, Small, Bounded, Indexed}
use Rattle.volatile.proofs.Info.{count_most, several-most, zero-unknown, unknown-zero}
use Rattle.session.specs.Cleaned.{Stand}
use Rattle.apply.specs.Leaving.{Singles, Single, NoneKept, owed, Doomed, Told, Awaits, fewer, less_of, turned, turned_of, Leaving}
use Rattle.forward.proofs.Sole.{count-own, count-other, count-known}

-- ## What is owed to one key

-- the word 0 says nothing
pub zero-says : (size : Size) → ((unpack_of size 0).place ≡ 0) × ((unpack_of size 0).several ≡ 0)
zero-says Z.Small = (refl, refl)
zero-says Z.Large = (refl, refl)

-- the most that a word can say of a place
place-most : (size : Size) → (widths_of size).place ≤ 0x40_0000
place-most Z.Small = omega arith
place-most Z.Large = omega arith

module _ (size : Size) (k : ℕ) (left out : List Entry) where
  owed_none : chosen k out ≡ none → owed size k left out ≡ 0
  owed_none h = rw h

  abbrev saying : Entry → Info
  saying g = record { extent = extent_of size g.placement g.field; place = g.at; version = g.version; entries = entry_count k left + entry_count k out; several = several k out }

  owed-some : (g : Entry) → chosen k out ≡ some g → owed size k left out ≡ pack_of size (saying g)
  owed-some g h = rw h

  module _ (b : Bounded size out) (few : length left + length out < (widths_of size).entries) (g : Entry) (h : chosen k out ≡ some g) where
    small : Small size g
    small = b.each g (chosen_is k out g h).in_list

    owed-says : unpack_of size (owed size k left out) ≡ saying g
    owed-says =
        let s = small in
        let x = count_most k left in
        let y = count_most k out in
        ap (unpack_of size) (owed-some g h)
        ∙ unpack-pack size (saying g) (record { extent-fits = s.extent-high; place-fits = s.place-high; version-fits = s.version-high; entries-fits = omega arith; several-fits = several-most k out })

-- ## An entry leaves

value-long : (n : ℕ) (l : List ℕ) → 2 + n ≤ length l → length (take n (drop 2 l)) ≡ n
value-long n l h = simp (length-take, length-drop) (omega arith)

-- the copies that stand behind the first
pub skip-copy : (ws : List ℕ) (to until : ℕ) (e : Entry) (es : List Entry) → Stand ws to until (placed to (e ∷ es)) → Stand ws (to + (2 + length e.value)) until (placed (to + (2 + length e.value)) es)
skip-copy ws to until e es h = go (step_of (slice to until ws)) refl
  where
    never : Parsed → ℕ
    never Wrong = 0
    never (Entries []) = 0
    never (Entries (f ∷ fs)) = 1

    rest : List Entry
    rest = placed (to + (2 + length e.value)) es

    none-such : (q : Parsed) → q ≡ Entries (moved to e ∷ placed (to + (2 + length e.value)) es) → never q ≡ 0 → ⊥
    none-such q a b = let z : never q ≡ 1 = ap never a in omega arith

    go : (s : LogStep) → step_of (slice to until ws) ≡ s → Stand ws (to + (2 + length e.value)) until (placed (to + (2 + length e.value)) es)
    go S.End q = absurd (none-such _ h (ap never (parse-end (slice to until ws) to q)))
    go S.Wrong q = absurd (none-such _ h (ap never (parse-wrong (slice to until ws) to q)))
    go S.Padding q =
        let a = (parse-padding (slice to until ws) to q).1 in
        let b = (parse-sound (drop 1 (slice to until ws)) 0 (to + 1) (placed to (e ∷ es)) (sym a ∙ h)).rising.0 in
        absurd (omega arith)
    go (S.Entry op pl v x k n) q =
        let a = parse-next (slice to until ws) to op pl v x k n q in
        let c = cons_inv (entry_at op pl v x k n (slice to until ws) to) (parse (drop (2 + n) (slice to until ws)) 0 (to + (2 + n))) (placed to (e ∷ es)) (sym a.1 ∙ h) in
        let value : e.value ≡ take n (drop 2 (slice to until ws)) = ap first_value c.2 in
        let long : n ≡ length e.value = sym (value-long n (slice to until ws) a.0) ∙ sym (ap length value) in
        let others : placed (to + (2 + length e.value)) es ≡ c.0 = ap behind_first c.2 in
        rw (← long) (ap (λ (l : List ℕ). parse l 0 (to + (2 + n))) (sym (slice-more to (2 + n) until ws)) ∙ c.1 ∙ ap Entries (sym others) ∙ rw long)
      where
        first_value : List Entry → List ℕ
        first_value [] = []
        first_value (f ∷ fs) = f.value

        behind_first : List Entry → List Entry
        behind_first [] = []
        behind_first (f ∷ fs) = fs

module _ (size : Size) (ws : List ℕ) (until : ℕ) (es mid out : List Entry) (test : Entry → Bool) (table : List ℕ) (keys : ℕ) (e : Entry) (left : List Entry) (to : ℕ)
    (l : Leaving size ws until es mid out test table keys (e ∷ left) to) (plain : (unpack_of size (get table e.key)).several ≡ 0) where
  abbrev word : ℕ
  word = get table e.key

  few-left : length left + length out < (widths_of size).entries
  few-left = let f = l.few in omega arith

  -- its key has one top entry
  single : several e.key es ≡ 0
  single = elim (l.twins e (l.inside e (inl refl))) [ inl s ↦ s | inr n ↦ absurd (n plain) ]

  single_of : (f : Entry) → f.key ≡ e.key → several f.key es ≡ 0
  single_of f q = ap (λ (k : ℕ). several k es) q ∙ single

  behind : (f : Entry) → Mem f left → f.at ≡ e.at → ⊥
  behind f m q = let a = (rising-in (suc e.at) l.high left f l.rising.1 m).0 in omega arith

  -- the word of a kept entry speaks of it
  speaks-of : (f : Entry) → Mem f (e ∷ left) → test f ≡ true → f.key ≡ e.key → (unpack_of size (get table e.key)).place ≡ f.at
  speaks-of f m h q = ap (λ (k : ℕ). (unpack_of size (get table k)).place) (sym q) ∙ ap (λ (i : Info). i.place) (l.awaits f m h (single_of f q)).says

  -- another key is owed the same
  told-other : (k w : ℕ) → (k ≡ e.key → ⊥) → Told size k w (e ∷ left) out → Told size k w left out
  told-other k w n (inl q) = inl (q ∙ rw (count-other k e left (λ p. n (sym p))))
  told-other k w n (inr d) = inr (record { entry = d.entry; member = go d.member; of-key = d.of-key; place = d.place; narrow = d.narrow; delete = d.delete; nowhere = d.nowhere })
    where
      go : Mem d.entry (e ∷ left) → Mem d.entry left
      go (inl p) = absurd (n (sym d.of-key ∙ ap (λ (f : Entry). f.key) p))
      go (inr m) = m

  awaits-other : (f : Entry) (w : ℕ) → (f.key ≡ e.key → ⊥) → Awaits size w (e ∷ left) out f → Awaits size w left out f
  awaits-other f w n a = record { entries = a.entries; says = a.says; known = a.known; narrow = a.narrow; more = a.more ∙ rw (count-other f.key e left (λ p. n (sym p))) }

  -- one more has left, if its own key's word is right
  module _ (table' : List ℕ) (keys' to' : ℕ) where
    passed : Probed table' → used table' ≡ keys' → keys' ≤ capacity (length table') → ((k : ℕ) → (k ≡ e.key → ⊥) → get table' k ≡ get table k)
        → (NoneKept test left e.key → Told size e.key (get table' e.key) left out)
        → ((f : Entry) → Mem f left → test f ≡ true → f.key ≡ e.key → Awaits size (get table' e.key) left out f)
        → ((c : Entry) → Mem c (placed to' (filter test left)) → Mem c (placed to (filter test (e ∷ left))))
        → Stand ws to' until (placed to' (filter test left))
        → Leaving size ws until es mid out test table' keys' left to'
    passed probed stored fits others own-told own-awaits fewer-copies standing = record {
      probed = probed;
      stored = stored;
      fits = fits;
      inside = λ f m. l.inside f (inr m);
      seen = λ f m. seen-left f (l.seen f m);
      twins = λ f m. by_cases (ℕ_discrete f.key e.key) (λ q. inl (single_of f q)) (λ n. rw (others f.key n) (l.twins f m));
      told = λ k s h. by_cases (ℕ_discrete k e.key)
          (λ q. rw q (own-told (rw q at h)))
          (λ n. rw (others k n) (told-other k (get table k) n (l.told k s (λ f m t q. elim m [ inl p ↦ n (sym q ∙ ap (λ (x : Entry). x.key) p) | inr m' ↦ h f m' t q ]))));
      awaits = λ f m h s. by_cases (ℕ_discrete f.key e.key)
          (λ q. subst (λ (w : ℕ). Awaits size w left out f) (ap (get table') (sym q)) (own-awaits f m h q))
          (λ n. rw (others f.key n) (awaits-other f (get table f.key) n (l.awaits f (inr m) h s)));
      copies = λ c m s. l.copies c (fewer-copies c m) s;
      standing = standing;
      low = suc e.at;
      high = l.high;
      rising = l.rising.1;
      small = λ f m. l.small f (inr m);
      small-out = l.small-out;
      clear = λ f g m n. l.clear f g (inr m) n;
      few = few-left;
    }
      where
        seen-left : (f : Entry) → Mem f (e ∷ left) ⊎ (several f.key es ≡ 0) → Mem f left ⊎ (several f.key es ≡ 0)
        seen-left f (inr s) = inr s
        seen-left f (inl (inl p)) = inr (single_of f (ap (λ (x : Entry). x.key) p))
        seen-left f (inl (inr m)) = inl m

  -- what the word of the entry's key speaks of, if no kept one is to come: an entry of the new image, or one that is
  -- still to leave
  pub record Speaks (w : ℕ) (g : Entry) : Type 0 where
    pub is : chosen e.key out ≡ some g
    pub word-is : w ≡ owed size e.key (e ∷ left) out
    pub says : unpack_of size w ≡ saying size e.key (e ∷ left) out g

  speaks : (w : ℕ) → Told size e.key w (e ∷ left) out → (w ≡ 0 → ⊥) → ((g : Entry) × Speaks w g) ⊎ Doomed size e.key w (e ∷ left) out
  speaks w (inr d) n = inr d
  speaks w (inl q) n = go (chosen e.key out) refl
    where
      go : (o : Option Entry) → chosen e.key out ≡ o → ((g : Entry) × Speaks w g) ⊎ Doomed size e.key w (e ∷ left) out
      go none h = absurd (n (q ∙ owed_none size e.key (e ∷ left) out h))
      go (some g) h = inl (g, record { is = h; word-is = q; says = ap (unpack_of size) q ∙ owed-says size e.key (e ∷ left) out l.small-out l.few g h })

  -- ## It is not kept
  module _ (drops : test e ≡ false) where
    same-copies : placed to (filter test (e ∷ left)) ≡ placed to (filter test left)
    same-copies = rw drops

    not-this : NoneKept test left e.key → NoneKept test (e ∷ left) e.key
    not-this h f (inl p) t q = not-both (test e) (ap test (sym p) ∙ t) drops
    not-this h f (inr m) t q = h f m t q

    went_on : (table' : List ℕ) (keys' : ℕ) → Probed table' → used table' ≡ keys' → keys' ≤ capacity (length table') → ((k : ℕ) → (k ≡ e.key → ⊥) → get table' k ≡ get table k)
        → (NoneKept test left e.key → Told size e.key (get table' e.key) left out)
        → ((f : Entry) → Mem f left → test f ≡ true → f.key ≡ e.key → Awaits size (get table' e.key) left out f)
        → Leaving size ws until es mid out test table' keys' left to
    went_on table' keys' p s f o t a = passed table' keys' to p s f o t a (λ c m. rw same-copies m) (rw same-copies at l.standing)

    -- a key that the table does not have: nothing is to be done
    absent : word ≡ 0 → Told size e.key word (e ∷ left) out → Told size e.key word left out
    absent z (inl q) = go (chosen e.key out) refl
      where
        go : (o : Option Entry) → chosen e.key out ≡ o → Told size e.key word left out
        go none h = inl (z ∙ sym (owed_none size e.key left out h))
        go (some g) h =
            let s = small size e.key (e ∷ left) out l.small-out l.few g h in
            absurd (pack-nonzero size (saying size e.key (e ∷ left) out g) s.place-low s.place-high (sym (q ∙ owed-some size e.key (e ∷ left) out g h) ∙ z))
    absent z (inr d) =
        let p : (unpack_of size word).place ≡ 0 = ap (λ (w : ℕ). (unpack_of size w).place) z ∙ (zero-says size).0 in
        let s = (l.small d.entry d.member).place-low in
        let q = d.place in
        absurd (omega arith)

    pub leaves-absent : get table e.key ≡ 0 → Leaving size ws until es mid out test table keys left to
    leaves-absent z =
        went_on table keys l.probed l.stored l.fits (λ k n. refl)
        (λ h. absent z (l.told e.key (inl single) (not-this h)))
        (λ f m h q. absurd ((l.awaits f (inr m) h (single_of f q)).known (ap (get table) q ∙ z)))

    -- the word speaks of this very entry: it is no entry of the new image, so the key is known no more, and is taken
    -- out
    module _ (n : get table e.key ≡ 0 → ⊥) (p : (unpack_of size (get table e.key)).place ≡ e.at) where
      none_kept : NoneKept test (e ∷ left) e.key
      none_kept f (inl q) t k = not-both (test e) (ap test (sym q) ∙ t) drops
      none_kept f (inr m) t k = behind f m (sym (speaks-of f (inr m) t k) ∙ p)

      doomed : Doomed size e.key (get table e.key) (e ∷ left) out
      doomed = go (speaks (get table e.key) (l.told e.key (inl single) none_kept) n)
        where
          go : ((g : Entry) × Speaks (get table e.key) g) ⊎ Doomed size e.key (get table e.key) (e ∷ left) out → Doomed size e.key (get table e.key) (e ∷ left) out
          go (inr d) = d
          go (inl (g, s)) = absurd (l.clear e g (inl refl) (chosen_is e.key out g s.is).in_list (sym p ∙ ap (λ (i : Info). i.place) s.says))

      -- and it is a delete
      pub no-put : e.op ≡ 1 → ⊥
      no-put o =
          let d = doomed in
          let same : d.entry ≡ e = rising-apart l.low l.high (e ∷ left) l.rising d.entry e d.member (inl refl) (sym d.place ∙ p) in
          d.delete (ap (λ (x : Entry). x.op) same ∙ o)

      pub leaves-gone : (table' : List ℕ) → Removed table table' e.key → length table' ≡ length table → Leaving size ws until es mid out test table' (keys - 1) left to
      leaves-gone table' r same =
          let u = r.fewer n in
          let s = l.stored in
          let f = l.fits in
          went_on table' (keys - 1) r.probed (omega arith) (rw same (omega arith)) r.others
          (λ h. inl (r.gone ∙ sym (owed_none size e.key left out doomed.nowhere)))
          (λ f m h q. absurd (none_kept f (inr m) h q))

    -- the word speaks of another entry: one less is counted
    module _ (n : get table e.key ≡ 0 → ⊥) (p : (unpack_of size (get table e.key)).place ≡ e.at → ⊥) where
      i : Info
      i = unpack_of size (get table e.key)

      narrow-less : get table e.key < 0x1_0000_0000_0000_0000 → Narrow size (fewer (unpack_of size (get table e.key)))
      narrow-less w =
          let h = unpack-narrow size (get table e.key) w in
          let x = h.entries-fits in
          record { extent-fits = h.extent-fits; place-fits = h.place-fits; version-fits = h.version-fits; entries-fits = omega arith; several-fits = h.several-fits }

      told-less : ((g : Entry) × Speaks (get table e.key) g) ⊎ Doomed size e.key (get table e.key) (e ∷ left) out → Told size e.key (less_of size (get table e.key)) left out
      unfolding less_of
      told-less (inl (g, s)) =
          let c = count-own e.key e left refl in
          let m : entry_count e.key (e ∷ left) + entry_count e.key out - 1 ≡ entry_count e.key left + entry_count e.key out = omega arith in
          inl (ap (λ (i : Info). pack_of size (fewer i)) s.says ∙ ap (λ (j : ℕ). pack_of size (record { extent = extent_of size g.placement g.field; place = g.at; version = g.version; entries = j; several = several e.key out })) m ∙ sym (owed-some size e.key left out g s.is))
      told-less (inr d) = inr (record { entry = d.entry; member = go d.member; of-key = d.of-key; place = ap (λ (i : Info). i.place) (unpack-pack size (fewer (unpack_of size (get table e.key))) (narrow-less d.narrow)) ∙ d.place; narrow = pack-fits size (fewer (unpack_of size (get table e.key))); delete = d.delete; nowhere = d.nowhere })
        where
          go : Mem d.entry (e ∷ left) → Mem d.entry left
          go (inl q) = absurd (p (d.place ∙ ap (λ (f : Entry). f.at) q))
          go (inr m) = m

      -- the place of which a word speaks is that of an entry
      low_told : ((g : Entry) × Speaks (get table e.key) g) ⊎ Doomed size e.key (get table e.key) (e ∷ left) out → 1 ≤ (unpack_of size (get table e.key)).place
      low_told (inr d) = let s = (l.small d.entry d.member).place-low in let q = d.place in omega arith
      low_told (inl (g, s)) =
          let q : (unpack_of size (get table e.key)).place ≡ g.at = ap (λ (i : Info). i.place) s.says in
          let b = (small size e.key (e ∷ left) out l.small-out l.few g s.is).place-low in
          omega arith

      low-place : 1 ≤ (unpack_of size (get table e.key)).place
      low-place = go (filter (λ (f : Entry). both (test f) (eqb f.key e.key)) left) refl
        where
          go : (fs : List Entry) → filter (λ (f : Entry). both (test f) (eqb f.key e.key)) left ≡ fs → 1 ≤ (unpack_of size (get table e.key)).place
          go (f ∷ fs) h =
              let m = mem-filter (λ (g : Entry). both (test g) (eqb g.key e.key)) f left (rw h (inl refl)) in
              let q = speaks-of f (inr m.0) (both_l (test f) (eqb f.key e.key) m.1) (eqb-true f.key e.key (both_r (test f) (eqb f.key e.key) m.1)) in
              let b = (l.small f (inr m.0)).place-low in
              omega arith
          go [] h = low_told (speaks (get table e.key) (l.told e.key (inl single) (not-this none)) n)
            where
              none : NoneKept test left e.key
              none f m t q = absurd (rw h at (filter-mem (λ (g : Entry). both (test g) (eqb g.key e.key)) f left m (both-i (test f) (eqb f.key e.key) t (eq-eqb f.key e.key q))))

      less-nonzero : less_of size (get table e.key) ≡ 0 → ⊥
      unfolding less_of
      less-nonzero z = pack-nonzero size (fewer (unpack_of size (get table e.key))) low-place (place-few size (get table e.key)) z

      less-says : get table e.key < 0x1_0000_0000_0000_0000 → unpack_of size (less_of size (get table e.key)) ≡ fewer (unpack_of size (get table e.key))
      unfolding less_of
      less-says w = unpack-pack size (fewer (unpack_of size (get table e.key))) (narrow-less w)

      less-fits : less_of size (get table e.key) < 0x1_0000_0000_0000_0000
      unfolding less_of
      less-fits = pack-fits size (fewer (unpack_of size (get table e.key)))

      awaits-less : (f : Entry) → Mem f left → test f ≡ true → f.key ≡ e.key → Awaits size (less_of size (get table e.key)) left out f
      awaits-less f m h q = go (l.awaits f (inr m) h (single_of f q))
        where
          go : Awaits size (get table f.key) (e ∷ left) out f → Awaits size (less_of size (get table e.key)) left out f
          go a =
              let c = count-own f.key e left (sym q) in
              let d = count-known f.key left f m refl in
              let b = a.more in
              let w : get table e.key < 0x1_0000_0000_0000_0000 = subst (λ (k : ℕ). get table k < 0x1_0000_0000_0000_0000) q a.narrow in
              let s : unpack_of size (get table e.key) ≡ record { extent = extent_of size f.placement f.field; place = f.at; version = f.version; entries = a.entries; several = 0 } = ap (λ (k : ℕ). unpack_of size (get table k)) (sym q) ∙ a.says in
              record {
                entries = a.entries - 1;
                says = less-says w ∙ ap fewer s;
                known = less-nonzero;
                narrow = less-fits;
                more = omega arith;
              }

      pub leaves-less : (table' : List ℕ) → table' ≡ insert table e.key (less_of size (get table e.key)) → Leaving size ws until es mid out test table' keys left to
      leaves-less table' is =
          let v = less_of size (get table e.key) in
          let own : get table' e.key ≡ less_of size (get table e.key) = rw is (insert-same table e.key v (room-stored table e.key n)) in
          went_on table' keys (rw is (insert-probed table e.key v l.probed less-nonzero)) (ap used is ∙ insert-old table e.key v n less-nonzero ∙ l.stored) (rw (is, insert-length table e.key v) l.fits)
          (λ k m. rw is (insert-other table e.key v l.probed less-nonzero k m))
          (λ h. rw own (told-less (speaks (get table e.key) (l.told e.key (inl single) (not-this h)) n)))
          (λ f m h q. rw own (awaits-less f m h q))

  -- ## It is kept: the word speaks of its copy
  module _ (keeps : test e ≡ true) where
    own : Awaits size (get table e.key) (e ∷ left) out e
    own = l.awaits e (inl refl) keeps single

    pub kept-known : get table e.key ≡ 0 → ⊥
    kept-known = own.known

    pub kept-place : (unpack_of size (get table e.key)).place ≡ e.at
    kept-place = ap (λ (i : Info). i.place) own.says

    its-copies : placed to (filter test (e ∷ left)) ≡ moved to e ∷ placed (to + (2 + length e.value)) (filter test left)
    its-copies = rw keeps

    is-copy : (chosen e.key out ≡ some (moved to e)) × (several e.key out ≡ 0)
    is-copy = l.copies (moved to e) (rw its-copies (inl refl)) single

    copy-small : Small size (moved to e)
    copy-small = l.small-out.each (moved to e) (chosen_is e.key out (moved to e) is-copy.0).in_list

    pub to_low : to < 0x40_0000
    to_low = let h = copy-small.place-high in let m = place-most size in omega arith

    turned-owed : turned_of size (get table e.key) to ≡ owed size e.key left out
    unfolding turned_of
    turned-owed =
        let a = own.more in
        let b = count-own e.key e left refl in
        let c : own.entries ≡ entry_count e.key left + entry_count e.key out = omega arith in
        ap (λ (i : Info). pack_of size (turned i to)) own.says ∙ sym (owed-some size e.key left out (moved to e) is-copy.0 ∙ rw (is-copy.1, c))

    turned-nonzero : turned_of size (get table e.key) to ≡ 0 → ⊥
    turned-nonzero z =
        let s = copy-small in
        pack-nonzero size (saying size e.key left out (moved to e)) s.place-low s.place-high (sym (turned-owed ∙ owed-some size e.key left out (moved to e) is-copy.0) ∙ z)

    pub leaves-copied : (table' : List ℕ) → table' ≡ insert table e.key (turned_of size (get table e.key) to) → Leaving size ws until es mid out test table' keys left (to + (2 + length e.value))
    leaves-copied table' is =
        let v = turned_of size (get table e.key) to in
        let n = own.known in
        passed table' keys (to + (2 + length e.value)) (rw is (insert-probed table e.key v l.probed turned-nonzero)) (ap used is ∙ insert-old table e.key v n turned-nonzero ∙ l.stored) (rw (is, insert-length table e.key v) l.fits)
        (λ k m. rw is (insert-other table e.key v l.probed turned-nonzero k m))
        (λ h. rw is (inl (insert-same table e.key v (room-stored table e.key n) ∙ turned-owed)))
        (λ f m h q. absurd (behind f m (sym (speaks-of f (inr m) h q) ∙ kept-place)))
        (λ c m. rw its-copies (inr m))
        (skip-copy ws to until e (filter test left) (rw its-copies at l.standing))

  -- ## Whether it is kept
  pub kept_by : (get table e.key ≡ 0 → ⊥) → (unpack_of size (get table e.key)).place ≡ e.at → (e.op ≡ 1) ⊎ ((f : Entry) × Mem f (e ∷ left) × (test f ≡ true) × (f.key ≡ e.key)) → test e ≡ true
  kept_by n p why = go (test e) refl why
    where
      go : (b : Bool) → test e ≡ b → (e.op ≡ 1) ⊎ ((f : Entry) × Mem f (e ∷ left) × (test f ≡ true) × (f.key ≡ e.key)) → b ≡ true
      go true h w = refl
      go false h (inl o) = absurd (no-put h n p o)
      go false h (inr (f, m, t, q)) = absurd (none_kept h n p f m t q)

-- ## Members of lists of numbers, in the index's words

in-among : (k : ℕ) (ks : List ℕ) → In k ks → Among k ks
in-among k [] i = i
in-among k (x ∷ ks) (inl q) = inl (sym q)
in-among k (x ∷ ks) (inr i) = inr (in-among k ks i)

among_in : (k : ℕ) (ks : List ℕ) → Among k ks → In k ks
among_in k [] i = i
among_in k (x ∷ ks) (inl q) = inl (sym q)
among_in k (x ∷ ks) (inr i) = inr (among_in k ks i)

once-apart : (ks : List ℕ) → Once ks → Apart ks
once-apart [] o = tt
once-apart (k ∷ ks) o = (λ i. o.0 (in-among k ks i), once-apart ks o.1)

-- ## All have left: the table is that of the new image

pub leaving-single : (size : Size) → (ws : List ℕ) (until : ℕ) (es mid out : List Entry) (test : Entry → Bool) (table : List ℕ) (keys to : ℕ) → Leaving size ws until es mid out test table keys [] to → Singles mid es
leaving-single size ws until es mid out test table keys to l e m = elim (l.seen e m) [ inl n ↦ absurd n | inr s ↦ s ]

pub leaving-end : (size : Size) → (ws : List ℕ) (until : ℕ) (es mid out : List Entry) (test : Entry → Bool) (table : List ℕ) (keys to : ℕ) → Leaving size ws until es mid out test table keys [] to → Indexed size table keys out
unfolding info_of
leaving-end size ws until es mid out test table keys to l = record {
  probed = l.probed;
  info = info;
  count = sym l.stored ∙ keys-count;
  stored = l.stored;
  fits = l.fits;
}
  where
    info : (k : ℕ) → get table k ≡ info_of size k out
    info k = go (l.told k (one (known k mid) refl) (λ f m t q. m))
      where
        one : (b : Bool) → known k mid ≡ b → Single es mid k
        one true h = let r = known-mem k mid h in inl (ap (λ (j : ℕ). several j es) (sym r.2) ∙ leaving-single size ws until es mid out test table keys to l r.0 r.1)
        one false h = inr (λ e m q. not-both (known k mid) (mem-known k mid e m q) h)

        go : Told size k (get table k) [] out → get table k ≡ info_of size k out
        go (inl q) = q ∙ ap (λ (n : ℕ). info_for size (chosen k out) n (several k out)) (let z : 0 + entry_count k out ≡ entry_count k out = omega arith in z)
        go (inr d) = absurd d.member

    keys-count : used table ≡ length (keys_of out)
    keys-count =
        keys-used table l.probed (keys_of out) (once-apart (keys_of out) (distinct-once (key_list out)))
        (λ k i z. not-both (known k out) (sym (keys-known k out) ∙ mem-is_in k (keys_of out) (in-among k (keys_of out) i)) (zero-unknown size k out l.small-out (sym (info k) ∙ z)))
        (λ k n. among_in k (keys_of out) (is_in-mem k (keys_of out) (keys-known k out ∙ there k n)))
      where
        there : (k : ℕ) → (get table k ≡ 0 → ⊥) → known k out ≡ true
        there k n = go (known k out) refl
          where
            go : (b : Bool) → known k out ≡ b → b ≡ true
            go true h = refl
            go false h = absurd (n (info k ∙ unknown-zero size k out l.small-out h))
