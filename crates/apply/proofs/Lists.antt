-- The entries before and after a cleaning, key by key: what is chosen, how many entries there are, and the live blocks.
-- Assumes nothing.
use Rattle.std.proofs.Common.{◌≡◌, ℕ, suc, ◌+◌, ◌≤◌, Bool, true, false, eqb, ◌⊎◌, List, [], ◌∷◌, ◌++◌, sym, refl, ap, ◌∙◌, inl, inr, arith, eq-eqb}
use mathlib.Core.Logic.{by_cases}
use mathlib.Core.Option.{Option, none, some}
use native.Mathlib.Decide.{ℕ_discrete}
use Rattle.spec.specs.declared.Size.{Size}
use Rattle.spec.specs.Basics.{both, either, is_in}
use Rattle.spec.specs.Log.{Entry, moved}
use Rattle.spec.specs.Blocks.{pointed}
use Rattle.spec.specs.Contents.{chosen, known, is_kept, live_blocks}
use Rattle.theory_base.proofs.Lists.{not-both, both_l, either-no, either_l, either_r}
use Rattle.theory_log.specs.Contents.{Mem, Top, Apart}
use Rattle.theory_log.proofs.Contents.{mem-l, mem-r, mem-filter, filter-mem, chosen_is, none_of, chosen_none}
use Rattle.theory_log.proofs.Keys.{mem-known}
use Rattle.theory_log.proofs.Clean.{mem-placed, placed-mem, is-at}
use Rattle.theory_log.proofs.Tops.{chosen-top, top-chosen}
use Rattle.theory_log.proofs.Places.{Rising, rising-from, rising-apart}
use Rattle.packing.specs.declared.Info.{Info}
use Rattle.index.specs.Index.{get}
use Rattle.packing.specs.Packed.{unpack_of, pack-fits}
use Rattle.volatile.specs.Known.{entry_count, several, info_of, Indexed}
use Rattle.volatile.proofs.Info.{said, info-chosen, info-none, info-says, info-nonzero}
use Rattle.volatile.proofs.Live.{mem-between, mem-around, Holder, live-holder, holder-live}
use Rattle.session.specs.Cleaned.{before, kept_of, copies_of, after, Cleaned, Stand}
use Rattle.forward.specs.Once.{OneEach}
use Rattle.apply.specs.Leaving.{Singles, Single, NoneKept, Told, Awaits, Leaving}
use Rattle.forward.proofs.Sole.{single-sole, sole-chosen, sole-single, once-filter, once-placed, once-same, count-append, count_no, count-one, count-placed, info-without}

module _ (size : Size) (xs mid ys as' bs : List Entry) (at : ℕ) (t : Cleaned size xs mid ys as' bs at) where
  abbrev es : List Entry
  es = before xs mid ys

  abbrev others : List Entry
  others = xs ++ ys

  abbrev test : Entry → Bool
  test = is_kept es others

  abbrev kept : List Entry
  kept = kept_of xs mid ys

  abbrev copies : List Entry
  copies = copies_of xs mid ys at

  abbrev out : List Entry
  out = after xs mid ys as' bs at

  -- ## Members

  pub mid-in : (e : Entry) → Mem e mid → Mem e es
  mid-in e m = mem-r e xs (mid ++ ys) (mem-l e mid ys m)

  pub others-in : (e : Entry) → Mem e others → Mem e es
  others-in e m = mem-around e xs mid ys m

  pub others-out : (e : Entry) → Mem e others → Mem e out
  others-out e m = mem-around e as' copies bs (rw t.rest m)

  copy-out : (e : Entry) → Mem e copies → Mem e out
  copy-out e m = mem-r e as' (copies ++ bs) (mem-l e copies bs m)

  pub before-cases : (e : Entry) → Mem e es → Mem e mid ⊎ Mem e others
  before-cases e m = mem-between e xs mid ys m

  pub after-cases : (e : Entry) → Mem e out → Mem e copies ⊎ Mem e others
  after-cases e m = elim (mem-between e as' copies bs m) [ inl a ↦ inl a | inr b ↦ inr (rw t.rest at b) ]

  -- no entry stands both in the chunk and elsewhere
  not-both-places : (e : Entry) → Mem e mid → Mem e others → ⊥
  not-both-places e m n = t.clear e e m (others-out e n) refl

  pub apart : Apart es
  apart = rising-apart t.low t.high es t.rising

  -- ## What is kept

  -- a kept entry is its key's chosen one
  kept-is : (e : Entry) → Mem e kept → Mem e mid × (chosen e.key es ≡ some e) × (either (eqb e.op 1) (known e.key others) ≡ true)
  kept-is e m =
      let r = mem-filter (is_kept es others) e mid m in
      let i = is-at (chosen e.key es) e.at (both_l _ (either (eqb e.op 1) (known e.key others)) r.1) in
      let same : e ≡ i.0 = apart e i.0 (mid-in e r.0) (chosen_is e.key es i.0 i.1).in_list (sym i.2) in
      (r.0, i.1 ∙ ap some (sym same), needed (eqb i.0.at e.at) _ (rw i.1 at r.1))
    where
      needed : (a b : Bool) → both a b ≡ true → b ≡ true
      needed true b h = h
      needed false b h = absurd (let z : ◌≡◌ {A = ℕ} 0 1 = cc in omega arith)

  -- the chosen entry, if it stands in the chunk: kept, or a delete whose key is not known elsewhere
  pub is-kept : (e : Entry) → Mem e mid → chosen e.key es ≡ some e → either (eqb e.op 1) (known e.key others) ≡ true → Mem e kept
  is-kept e m c h = filter-mem (is_kept es others) e mid m (rw (c, eq-eqb e.at e.at refl) h)

  -- a copy's original
  pub record Origin (c : Entry) : Type 0 where
    pub entry : Entry
    pub place : ℕ
    pub member : Mem entry kept
    pub is-copy : c ≡ moved place entry
    pub is-chosen : chosen c.key es ≡ some entry

  pub origin : (c : Entry) → Mem c copies → Origin c
  origin c m =
      let r = mem-placed c at kept m in
      let q : c.key ≡ r.0.key = ap (λ (e : Entry). e.key) r.3 in
      record { entry = r.0; place = r.2; member = r.1; is-copy = r.3; is-chosen = ap (λ (j : ℕ). chosen j es) q ∙ (kept-is r.0 r.1).1 }

  origin-key : (c : Entry) (o : Origin c) → c.key ≡ o.entry.key
  origin-key c o = ap (λ (e : Entry). e.key) o.is-copy

  -- no key is kept twice
  same_chosen : (j k : ℕ) (e f : Entry) → j ≡ k → chosen j es ≡ some e → chosen k es ≡ some f → e ≡ f
  same_chosen j k e f q a b = let w : chosen j es ≡ some f = ap (λ (i : ℕ). chosen i es) q ∙ b in cc

  pub rising-mid : Rising t.low t.high mid
  rising-mid = front t.low t.high mid (part t.low t.high xs t.rising)
    where
      part : (lo hi : ℕ) (zs : List Entry) → Rising lo hi (zs ++ (mid ++ ys)) → Rising lo hi (mid ++ ys)
      part lo hi [] r = r
      part lo hi (z ∷ zs) r = let a : lo ≤ z.at = r.0 in rising-from (suc z.at) lo hi (mid ++ ys) (omega arith) (part (suc z.at) hi zs r.1)

      ends : (lo hi : ℕ) (zs : List Entry) → Rising lo hi zs → lo ≤ hi
      ends lo hi [] r = r
      ends lo hi (z ∷ zs) r = let a : lo ≤ z.at = r.0 in let b = ends (suc z.at) hi zs r.1 in omega arith

      front : (lo hi : ℕ) (zs : List Entry) → Rising lo hi (zs ++ ys) → Rising lo hi zs
      front lo hi [] r = ends lo hi ys r
      front lo hi (z ∷ zs) r = (r.0, front (suc z.at) hi zs r.1)

  once : OneEach copies
  once = once-placed at kept (once-filter test t.low t.high mid rising-mid (λ e f m n q. same_chosen e.key f.key e f q (kept-is e m).1 (kept-is f n).1))

  -- ## How many

  count-both : (k : ℕ) → entry_count k mid + entry_count k out ≡ entry_count k es + entry_count k kept
  count-both k =
      let a = count-append k xs (mid ++ ys) in
      let b = count-append k mid ys in
      let c = count-append k as' (copies ++ bs) in
      let d = count-append k copies bs in
      let e = count-placed k at kept in
      let f : entry_count k as' + entry_count k bs ≡ entry_count k xs + entry_count k ys = sym (count-append k as' bs) ∙ ap (entry_count k) t.rest ∙ count-append k xs ys in
      omega arith

  -- ## A key that has no copy

  abbrev Uncopied : ℕ → Type 0
  Uncopied k = (c : Entry) → Mem c copies → c.key ≡ k → ⊥

  unkept : (k : ℕ) → Uncopied k → (e : Entry) → Mem e kept → e.key ≡ k → ⊥
  unkept k n e m q = let r = placed-mem e at kept m in n (moved r.0 e) r.1 q

  count-uncopied : (k : ℕ) → Uncopied k → entry_count k mid + entry_count k out ≡ entry_count k es
  count-uncopied k n = let a = count-both k in let b = count_no k kept (unkept k n) in omega arith

  uncopied-out : (k : ℕ) → Uncopied k → (e : Entry) → Mem e out → e.key ≡ k → Mem e others
  uncopied-out k n e m q = elim (after-cases e m) [ inl a ↦ absurd (n e a q) | inr b ↦ b ]

  -- and no entry in the chunk: it stays as it is
  module _ (k : ℕ) (none_here : (e : Entry) → Mem e mid → e.key ≡ k → ⊥) where
    info-same : info_of size k out ≡ info_of size k es
    info-same = info-without size k as' copies bs no_copy ∙ ap (info_of size k) t.rest ∙ sym (info-without size k xs mid ys none_here)
      where
        no_copy : (c : Entry) → Mem c copies → c.key ≡ k → ⊥
        no_copy c m q = let o = origin c m in none_here o.entry (kept-is o.entry o.member).0 (sym (origin-key c o) ∙ q)

  -- ## A key with one top entry

  module _ (k : ℕ) (f : Entry) (c : chosen k es ≡ some f) (s : several k es ≡ 0) where
    f-key : f.key ≡ k
    f-key = (chosen_is k es f c).of-key

    -- where that stands elsewhere, it stays the only one
    module _ (n : Mem f others) where
      elsewhere-sole : (g : Entry) → Mem g out → g.key ≡ k → f.version ≤ g.version → g ≡ f
      elsewhere-sole g m q l = go (after-cases g m)
        where
          go : Mem g copies ⊎ Mem g others → g ≡ f
          go (inr b) = single-sole k es f s c g (others-in g b) q l
          go (inl a) =
              let o = origin g a in
              let e : o.entry ≡ f = same_chosen g.key k o.entry f q o.is-chosen c in
              absurd (not-both-places f (rw e at (kept-is o.entry o.member).0) n)

      pub elsewhere-chosen : chosen k out ≡ some f
      elsewhere-chosen = sole-chosen k out f (others-out f n) f-key elsewhere-sole

      pub elsewhere-single : several k out ≡ 0
      elsewhere-single = sole-single t.low t.high k out f t.rising-after (others-out f n) f-key elsewhere-sole

    -- where it is copied, its copy becomes the only one
    module _ (d : Entry) (m : Mem d copies) (q : d.key ≡ k) where
      copy-version : d.version ≡ f.version
      copy-version =
          let o = origin d m in
          ap (λ (e : Entry). e.version) o.is-copy ∙ ap (λ (e : Entry). e.version) (same_chosen d.key k o.entry f q o.is-chosen c)

      copy-sole : (g : Entry) → Mem g out → g.key ≡ k → d.version ≤ g.version → g ≡ d
      copy-sole g n r l = go (after-cases g n)
        where
          go : Mem g copies ⊎ Mem g others → g ≡ d
          go (inl a) = once-same copies once g d a m (r ∙ sym q)
          go (inr b) =
              let o = origin d m in
              let v = copy-version in
              let e : o.entry ≡ f = same_chosen d.key k o.entry f q o.is-chosen c in
              let h : g ≡ f = single-sole k es f s c g (others-in g b) r (omega arith) in
              absurd (not-both-places f (rw e at (kept-is o.entry o.member).0) (rw h at b))

      pub copy-chosen : chosen k out ≡ some d
      copy-chosen = sole-chosen k out d (copy-out d m) q copy-sole

      pub copy-single : several k out ≡ 0
      copy-single = sole-single t.low t.high k out d t.rising-after (copy-out d m) q copy-sole

    -- where it stands in the chunk and is not kept, the key is known no more
    pub gone : either (eqb f.op 1) (known f.key others) ≡ false → chosen k out ≡ none
    gone h = chosen_none k out (λ g m q. go g q (after-cases g m))
      where
        go : (g : Entry) → g.key ≡ k → Mem g copies ⊎ Mem g others → ⊥
        go g q (inl a) =
            let o = origin g a in
            let e : o.entry ≡ f = same_chosen g.key k o.entry f q o.is-chosen c in
            not-both (either (eqb f.op 1) (known f.key others)) (rw e at (kept-is o.entry o.member).2) h
        go g q (inr b) = not-both (known f.key others) (mem-known f.key others g b (q ∙ sym f-key)) (either-no (eqb f.op 1) (known f.key others) h).1

  -- ## The beginning: what the table holds of the entries before is what is owed, but for the keys that have a copy

  -- a key of which nothing is kept
  pub told-unkept : (k : ℕ) → Single es mid k → NoneKept test mid k → Told size k (info_of size k es) mid out
  unfolding info_of
  told-unkept k single none_kept = go (chosen k es) refl
    where
      n : Uncopied k
      n c m q = let o = origin c m in let r = mem-filter test o.entry mid o.member in none_kept o.entry r.0 r.1 (sym (origin-key c o) ∙ q)

      go : (o : Option Entry) → chosen k es ≡ o → Told size k (info_of size k es) mid out
      go none h =
          let z : chosen k out ≡ none = chosen_none k out (λ g m q. none_of k es g h (others-in g (uncopied-out k n g m q)) q) in
          inl (info-none size k es h ∙ sym (rw z))
      go (some f) h = two single
        where
          three : several k es ≡ 0 → Mem f mid ⊎ Mem f others → Told size k (info_of size k es) mid out
          three s (inr b) =
              inl (info-chosen size k es f h ∙ sym (rw (elsewhere-chosen k f h s b, elsewhere-single k f h s b, count-uncopied k n, s)))
          three s (inl a) = four (either (eqb f.op 1) (known f.key others)) refl
            where
              q : f.key ≡ k
              q = (chosen_is k es f h).of-key

              four : (b : Bool) → either (eqb f.op 1) (known f.key others) ≡ b → Told size k (info_of size k es) mid out
              four true e = absurd (unkept k n f (is-kept f a (ap (λ (j : ℕ). chosen j es) q ∙ h) e) q)
              four false e = inr (record {
                entry = f;
                member = a;
                of-key = q;
                place = ap (λ (i : Info). i.place) (info-says size k es t.small f h);
                narrow = rw (info-chosen size k es f h) (pack-fits size (said size k es f));
                delete = λ o. not-both (eqb f.op 1) (eq-eqb f.op 1 o) (either-no (eqb f.op 1) (known f.key others) e).0;
                nowhere = gone k f h s e;
              })

          two : Single es mid k → Told size k (info_of size k es) mid out
          two (inl s) = three s (before-cases f (chosen_is k es f h).in_list)
          two (inr none_here) =
              let z : entry_count k mid + entry_count k out ≡ entry_count k out = omega (arith, count_no k mid none_here) in
              inl (sym (info-same k none_here) ∙ sym (rw z))

  -- a kept entry
  pub awaits-kept : (f : Entry) → Mem f mid → test f ≡ true → several f.key es ≡ 0 → Awaits size (info_of size f.key es) mid out f
  awaits-kept f i h s =
      let m : Mem f kept = filter-mem test f mid i h in
      let c : chosen f.key es ≡ some f = (kept-is f m).1 in
      let p = placed-mem f at kept m in
      let one : entry_count f.key kept ≡ 1 = sym (count-placed f.key at kept) ∙ count-one f.key copies once (moved p.0 f) p.1 refl in
      record {
        entries = entry_count f.key es;
        says = info-says size f.key es t.small f c ∙ rw s;
        known = info-nonzero size f.key es t.small f c;
        narrow = rw (info-chosen size f.key es f c) (pack-fits size (said size f.key es f));
        more = let b = count-both f.key in omega arith;
      }

  -- a copy
  pub copy-sole-top : (c : Entry) → Mem c copies → several c.key es ≡ 0 → (chosen c.key out ≡ some c) × (several c.key out ≡ 0)
  copy-sole-top c m s = let o = origin c m in (copy-chosen c.key o.entry o.is-chosen s c m refl, copy-single c.key o.entry o.is-chosen s c m refl)

  -- THE BEGINNING
  pub leaving-start : (ws : List ℕ) (until : ℕ) (table : List ℕ) (keys : ℕ) → Indexed size table keys es → Stand ws at until copies → Leaving size ws until es mid out test table keys mid at
  leaving-start ws until table keys i s = record {
    probed = i.probed;
    stored = i.stored;
    fits = i.fits;
    inside = λ e m. m;
    seen = λ e m. inl m;
    twins = λ e m. twins e m (chosen e.key es) refl;
    told = λ k o n. rw (i.info k) (told-unkept k o n);
    awaits = λ f m h o. rw (i.info f.key) (awaits-kept f m h o);
    copies = copy-sole-top;
    standing = s;
    low = t.low;
    high = t.high;
    rising = rising-mid;
    small = λ e m. t.small.each e (mid-in e m);
    small-out = t.small-after;
    clear = t.clear;
    few = t.few;
  }
    where
      twins : (e : Entry) → Mem e mid → (o : Option Entry) → chosen e.key es ≡ o → (several e.key es ≡ 0) ⊎ ((unpack_of size (get table e.key)).several ≡ 0 → ⊥)
      twins e m none h = absurd (none_of e.key es e h (mid-in e m) refl)
      twins e m (some g) h =
          let says : (unpack_of size (get table e.key)).several ≡ several e.key es = ap (λ (w : ℕ). (unpack_of size w).several) (i.info e.key) ∙ ap (λ (j : Info). j.several) (info-says size e.key es t.small g h) in
          by_cases (ℕ_discrete (several e.key es) 0) (λ z. inl z) (λ n. inr (λ z. n (sym says ∙ z)))

  module _ (singles : Singles mid es) where
    -- ## The live blocks stay

    -- an entry of the new list says what one before says
    record From (g : Entry) : Type 0 where
      entry : Entry
      member : Mem entry es
      key : g.key ≡ entry.key
      version : g.version ≡ entry.version

    after-from : (g : Entry) → Mem g out → From g
    after-from g m = go (after-cases g m)
      where
        go : Mem g copies ⊎ Mem g others → From g
        go (inr b) = record { entry = g; member = others-in g b; key = refl; version = refl }
        go (inl a) =
            let o = origin g a in
            record { entry = o.entry; member = mid-in o.entry (kept-is o.entry o.member).0; key = origin-key g o; version = ap (λ (e : Entry). e.version) o.is-copy }

    top-after : (e g : Entry) → Top es e → Mem g out → g.key ≡ e.key → g.version ≤ e.version
    top-after e g h m q = let r = after-from g m in let v = h.1 r.entry r.member (sym r.key ∙ q) in let w = r.version in omega arith

    -- a key that is known elsewhere keeps its highest version
    reached : (k : ℕ) (f : Entry) → chosen k es ≡ some f → known k others ≡ true → (h : Entry) × Mem h out × (h.key ≡ k) × (h.version ≡ f.version)
    reached k f c n = go (before-cases f (chosen_is k es f c).in_list)
      where
        q : f.key ≡ k
        q = (chosen_is k es f c).of-key

        go : Mem f mid ⊎ Mem f others → (h : Entry) × Mem h out × (h.key ≡ k) × (h.version ≡ f.version)
        go (inr b) = (f, others-out f b, q, refl)
        go (inl a) =
            let r = placed-mem f at kept (is-kept f a (ap (λ (j : ℕ). chosen j es) q ∙ c) (either_r (eqb f.op 1) (known f.key others) (ap (λ (j : ℕ). known j others) q ∙ n))) in
            (moved r.0 f, copy-out (moved r.0 f) r.1, q, refl)

    held_after : (u : ℕ) → Holder es u → Holder out u
    held_after u h = go (before-cases h.entry h.top.0)
      where
        go : Mem h.entry mid ⊎ Mem h.entry others → Holder out u
        go (inr b) = record { entry = h.entry; top = (others-out h.entry b, λ g m q. top-after h.entry g h.top m q); puts = h.puts; unit = h.unit }
        go (inl a) =
            let r = top-chosen es h.entry h.top in
            let w = r.4 in
            let same : h.entry ≡ r.0 = single-sole h.entry.key es r.0 (singles h.entry a) r.1 h.entry h.top.0 refl (omega arith) in
            let c : chosen h.entry.key es ≡ some h.entry = r.1 ∙ ap some (sym same) in
            let one : eqb h.entry.op 1 ≡ true = both_l (eqb h.entry.op 1) (eqb h.entry.placement 1) h.puts in
            let k = is-kept h.entry a c (either_l (eqb h.entry.op 1) (known h.entry.key others) one) in
            let p = placed-mem h.entry at kept k in
            record { entry = moved p.0 h.entry; top = (copy-out (moved p.0 h.entry) p.1, λ g m q. top-after h.entry g h.top m q); puts = h.puts; unit = h.unit }

    held-before : (u : ℕ) → Holder out u → Holder es u
    held-before u h = go (after-cases h.entry h.top.0)
      where
        go : Mem h.entry copies ⊎ Mem h.entry others → Holder es u
        go (inl a) =
            let o = origin h.entry a in
            record {
              entry = o.entry;
              top = chosen-top h.entry.key es o.entry o.is-chosen;
              puts = ap pointed (sym o.is-copy) ∙ h.puts;
              unit = ap (λ (e : Entry). e.field) (sym o.is-copy) ∙ h.unit;
            }
        go (inr b) = record { entry = h.entry; top = (others-in h.entry b, above (chosen h.entry.key es) refl); puts = h.puts; unit = h.unit }
          where
            above : (o : Option Entry) → chosen h.entry.key es ≡ o → (g : Entry) → Mem g es → g.key ≡ h.entry.key → g.version ≤ h.entry.version
            above none c g m q = absurd (none_of h.entry.key es g c m q)
            above (some f) c g m q =
                let r = reached h.entry.key f c (mem-known h.entry.key others h.entry b refl) in
                let x = (chosen_is h.entry.key es f c).above g m q in
                let y = h.top.1 r.0 r.1 r.2 in
                let z = r.3 in
                omega arith

    pub live_same : (u : ℕ) → is_in u (live_blocks es) ≡ is_in u (live_blocks out)
    live_same u = go (is_in u (live_blocks es)) refl (is_in u (live_blocks out)) refl
      where
        go : (a : Bool) → is_in u (live_blocks es) ≡ a → (b : Bool) → is_in u (live_blocks out) ≡ b → a ≡ b
        go true p true q = refl
        go false p false q = refl
        go true p false q = absurd (not-both (is_in u (live_blocks out)) (holder-live out u (held_after u (live-holder es u p))) q)
        go false p true q = absurd (not-both (is_in u (live_blocks es)) (holder-live es u (held-before u (live-holder out u q))) p)
