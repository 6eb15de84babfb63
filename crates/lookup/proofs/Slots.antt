-- The slots of the key table one by one: the keys that are taken in are the present keys of the register, each once.
-- Assumes nothing.
use mathlib.Core.Path.{◌≡◌, refl, sym, ◌∙◌, ap}
use mathlib.Core.Logic.{by_cases, ◌⊎◌, inl, inr}
use mathlib.Core.Bool.{Bool, true, false}
use mathlib.Core.Option.{Option, none, some}
use mathlib.Core.List.{List, [], ◌∷◌}
use Prim.Native.Nat.{ℕ, zero, suc, ◌+◌, ◌<◌, ◌≤◌}
use native.Mathlib.Decide.{ℕ_discrete}
use native.Mathlib.Numerals.{add-one}
use native.Mathlib.Omega.{arith}
use lib.ListN.{length, get_or, take}
use lib.Seq.{take_all}
use borrow.Author.Tests.{eq-eqb}
use Rattle.spec.specs.Basics.{pick, filter, is_some}
use Rattle.spec.specs.Medium.{Mem}
use Rattle.spec.specs.Log.{Entry}
use Rattle.spec.specs.declared.Size.{Size}
use Rattle.spec.specs.Contents.{keys_of, known, chosen, held, meaning}
use Rattle.places.specs.Sizes.{power_of}
use Rattle.theory_base.proofs.Lists.{Once, not-both, is_in-mem, distinct-once}
use Rattle.theory_base.proofs.PutBack.{Past}
use Rattle.theory_log.proofs.Keys.{key_list, keys-known}
use Rattle.theory_crash.specs.Accepted.{Ok}
use Rattle.index.specs.Index.{slots, key_at, info_at, stop_of, get, Probed}
use Rattle.index.proofs.Slots.{get-stored, get_at}
use Rattle.volatile.specs.Known.{Indexed}
use Rattle.order.specs.Order.{in_order, Least, Arranging}
use Rattle.order.proofs.Rising.{Rising, order-length, order-member, member-order, order-rising, same-order}
use Rattle.order.proofs.Leasts.{least-none}
use Rattle.lookup.specs.Listing.{is_value, present, present_keys, by_word, is_present, slot_keys}
use Rattle.lookup.specs.Contract.{Lists, Gathering}
use Rattle.lookup.proofs.Entries.{word-listed, listed-present}

-- ## Numbers that a test takes

module _ (p : ℕ → Bool) where
  pub filter-mem : (k : ℕ) (xs : List ℕ) → Mem k (filter p xs) → Mem k xs × (p k ≡ true)
  filter-mem k [] m = absurd m
  filter-mem k (x ∷ xs) m = go (p x) refl m (filter-mem k xs)
    where
      go : (b : Bool) → p x ≡ b → Mem k (pick b (x ∷ filter p xs) (filter p xs)) → (Mem k (filter p xs) → Mem k xs × (p k ≡ true)) → Mem k (x ∷ xs) × (p k ≡ true)
      go true h (inl e) rec = (inl e, ap p e ∙ h)
      go true h (inr q) rec = let r = rec q in (inr r.0, r.1)
      go false h q rec = let r = rec q in (inr r.0, r.1)

  pub mem-filter : (k : ℕ) (xs : List ℕ) → Mem k xs → p k ≡ true → Mem k (filter p xs)
  mem-filter k [] m h = absurd m
  mem-filter k (x ∷ xs) m h = go (p x) refl m (λ q. mem-filter k xs q h)
    where
      go : (b : Bool) → p x ≡ b → Mem k (x ∷ xs) → (Mem k xs → Mem k (filter p xs)) → Mem k (pick b (x ∷ filter p xs) (filter p xs))
      go true q (inl e) rec = inl e
      go true q (inr r) rec = inr (rec r)
      go false q (inl e) rec = absurd (not-both (p x) (sym (ap p e) ∙ h) q)
      go false q (inr r) rec = rec r

  pub filter-once : (xs : List ℕ) → Once xs → Once (filter p xs)
  filter-once [] o = tt
  filter-once (x ∷ xs) o = go (p x) (filter-once xs o.1)
    where
      go : (b : Bool) → Once (filter p xs) → Once (pick b (x ∷ filter p xs) (filter p xs))
      go true r = (λ m. o.0 (filter-mem x xs m).0, r)
      go false r = r

-- a slot's key is taken in if it is present; `more` is 1 then
pub record Taken (size : Size) (ws : List ℕ) (key held : ℕ) (out out' : List ℕ) (kept kept' more : ℕ) : Type 0 where
  pub sized : length out' ≡ length out
  pub counts : more ≡ pick (is_present (by_word size ws held)) 1 0
  pub grows : kept' ≤ kept + more
  pub fits : kept ≤ length out → (kept ≤ kept') × (kept' ≤ length out)
  pub behind : (i : ℕ) → kept' ≤ i → get_or out' i 0 ≡ get_or out i 0
  pub takes : (ks : List ℕ) → Least ks out kept → (is_present (by_word size ws held) ≡ true → Mem key ks → ⊥)
      → Least (pick (is_present (by_word size ws held)) (key ∷ ks) ks) out' kept'

-- a slot has at most one key
pub upto-slots : (size : Size) (ws : List ℕ) (key word : ℕ) (out out' : List ℕ) (kept kept' more : ℕ) → Taken size ws key word out out' kept kept' more → more ≤ 1
upto-slots size ws key word out out' kept kept' more t = let c = t.counts in let z = go (is_present (by_word size ws word)) in omega arith
  where
    go : (b : Bool) → pick b 1 0 ≤ 1
    go true = omega arith
    go false = omega arith

-- ## The present keys of the slots

module _ (size : Size) (ws table : List ℕ) where
  abbrev has : ℕ → Bool
  has s = is_present (by_word size ws (info_at table s))

  -- an empty slot has none
  full : (s : ℕ) → has s ≡ true → info_at table s ≡ 0 → ⊥
  unfolding by_word
  full s h z = let w = rw (eq-eqb (info_at table s) 0 z) at h in let y : ◌≡◌ {A = ℕ} 0 1 = cc in omega arith

  slot_of : (k s : ℕ) → Mem k (slot_keys size ws table s) → (q : ℕ) × (q < s) × (key_at table q ≡ k) × (has q ≡ true)
  slot_of k zero m = absurd m
  slot_of k (suc s) m = go (has s) refl m (slot_of k s)
    where
      go : (b : Bool) → has s ≡ b → Mem k (pick b (key_at table s ∷ slot_keys size ws table s) (slot_keys size ws table s))
          → (Mem k (slot_keys size ws table s) → (q : ℕ) × (q < s) × (key_at table q ≡ k) × (has q ≡ true)) → (q : ℕ) × (q < suc s) × (key_at table q ≡ k) × (has q ≡ true)
      go true h (inl e) rec = (s, omega arith, sym e, h)
      go true h (inr m) rec = let r = rec m in (r.0, omega (arith, r.1), r.2, r.3)
      go false h m rec = let r = rec m in (r.0, omega (arith, r.1), r.2, r.3)

  in-slots : (k s q : ℕ) → q < s → key_at table q ≡ k → has q ≡ true → Mem k (slot_keys size ws table s)
  in-slots k zero q l e h = absurd (omega arith)
  in-slots k (suc s) q l e h = go (has s) refl (by_cases (ℕ_discrete q s) (λ z. inl z) (λ z. inr (in-slots k s q (omega arith) e h)))
    where
      go : (b : Bool) → has s ≡ b → (q ≡ s) ⊎ Mem k (slot_keys size ws table s) → Mem k (pick b (key_at table s ∷ slot_keys size ws table s) (slot_keys size ws table s))
      go true w (inl z) = inl (sym e ∙ ap (key_at table) z)
      go true w (inr m) = inr m
      go false w (inl z) = absurd (not-both (has s) (sym (ap has z) ∙ h) w)
      go false w (inr m) = m

  slot-length : (s : ℕ) → length (slot_keys size ws table s) ≤ s
  slot-length zero = omega arith
  slot-length (suc s) = go (has s) (slot-length s)
    where
      go : (b : Bool) → length (slot_keys size ws table s) ≤ s → length (pick b (key_at table s ∷ slot_keys size ws table s) (slot_keys size ws table s)) ≤ suc s
      go true h = omega arith
      go false h = omega arith

  -- no key stands in two slots
  slot-new : Probed table → (s : ℕ) → s < slots table → has s ≡ true → Mem (key_at table s) (slot_keys size ws table s) → ⊥
  slot-new p s l h m =
      let q = slot_of (key_at table s) s m in
      let e : q.0 ≡ s = sym (p.reached q.0 (omega (arith, q.1)) (full q.0 q.3)) ∙ ap (stop_of table) q.2 ∙ p.reached s l (full s h) in
      omega (arith, q.1)

  slot-once : Probed table → (s : ℕ) → s ≤ slots table → Once (slot_keys size ws table s)
  slot-once p zero l = tt
  slot-once p (suc s) l = go (has s) refl (slot-once p s (omega arith))
    where
      go : (b : Bool) → has s ≡ b → Once (slot_keys size ws table s) → Once (pick b (key_at table s ∷ slot_keys size ws table s) (slot_keys size ws table s))
      go true h o = (slot-new p s (omega arith) h, o)
      go false h o = o

  -- ## One slot after the other

  pub record Slotting (out₀ out : List ℕ) (s kept count : ℕ) : Type 0 where
    pub sized : length out ≡ length out₀
    pub end : s ≤ slots table
    pub counted : count ≡ length (slot_keys size ws table s)
    pub upto : kept ≤ count
    pub fits : kept ≤ length out₀
    pub behind : (i : ℕ) → kept ≤ i → get_or out i 0 ≡ get_or out₀ i 0
    pub least : Probed table → Least (slot_keys size ws table s) out kept

  pub slotting-start : (out : List ℕ) → Slotting out out 0 0 0
  slotting-start out = record { sized = refl; end = omega arith; counted = refl; upto = omega arith; fits = omega arith; behind = λ i l. refl; least = λ p. least-none out }

  slot-more : (b : Bool) (k : ℕ) (ks : List ℕ) → length (pick b (k ∷ ks) ks) ≡ length ks + pick b 1 0
  slot-more true k ks = omega arith
  slot-more false k ks = omega arith

  pub slotting-on : (out₀ out out' : List ℕ) (s kept count kept' more : ℕ) → Slotting out₀ out s kept count → s < slots table
      → Taken size ws (key_at table s) (info_at table s) out out' kept kept' more → Slotting out₀ out' (s + 1) kept' (count + more)
  slotting-on out₀ out out' s kept count kept' more h l t =
      let f = t.fits (rw h.sized h.fits) in
      let z = h.sized in
      let g = t.grows in
      let u = h.upto in
      let m = slot-more (has s) (key_at table s) (slot_keys size ws table s) in
      rw (add-one s) (record {
        sized = t.sized ∙ z;
        end = omega arith;
        counted = omega (arith, h.counted, t.counts, m);
        upto = omega arith;
        fits = omega (arith, f.1);
        behind = λ i b. t.behind i b ∙ h.behind i (omega (arith, f.0));
        least = λ p. t.takes (slot_keys size ws table s) (h.least p) (λ q. slot-new p s l q);
      })

  pub gathered : (out₀ out out' : List ℕ) (s kept count : ℕ) → Slotting out₀ out s kept count → slots table ≤ s → Arranging out out' kept → Gathering size ws table out₀ out' count
  gathered out₀ out out' s kept count h l a =
      let c = h.counted in
      let n = slot-length s in
      let e : s ≡ slots table = omega (arith, h.end) in
      record {
        sized = a.sized ∙ h.sized;
        most = omega arith;
        behind = λ i b. a.behind i (omega (arith, h.upto)) ∙ h.behind i (omega (arith, h.upto));
        lists = λ p. rw (← e) (lists p);
      }
    where
      lists : Probed table → Lists (in_order (slot_keys size ws table s)) out₀ out' count
      lists p = record { all = h.counted ∙ sym (order-length (slot_keys size ws table s)); rising = whole ∙ ordered }
        where
          ordered : take kept out' ≡ take (length out₀) (in_order (slot_keys size ws table s))
          ordered = a.orders (slot_keys size ws table s) (slot-once p s h.end) (h.least p) ∙ ap (λ n. take n (in_order (slot_keys size ws table s))) h.sized

          whole : take count out' ≡ take kept out'
          whole =
              let k = (h.least p).count in
              let c = h.counted in
              let z = a.sized in
              by_cases (ℕ_discrete count kept) (λ e. rw e) (λ e. take_all count out' (omega arith) ∙ sym (take_all kept out' (omega arith)))

-- ## The register's

present-known : (ws : List ℕ) (es : List Entry) (k : ℕ) → present ws es k ≡ true → known k es ≡ true
present-known ws es k h = go (chosen k es) h
  where
    go : (o : Option Entry) → is_value (held (meaning ws) o) ≡ true → is_some o ≡ true
    go none q = absurd (let z : ◌≡◌ {A = ℕ} 0 1 = cc in omega arith)
    go (some e) q = refl

known_member : (ws : List ℕ) (es : List Entry) (k : ℕ) → present ws es k ≡ true → Mem k (filter (present ws es) (keys_of es))
known_member ws es k h = mem-filter (present ws es) k (keys_of es) (is_in-mem k (keys_of es) (keys-known k es ∙ present-known ws es k h)) h

-- THE PRESENT KEYS are exactly those for which the register holds a value, and they rise, so that each stands once
pub keys-present : (ws : List ℕ) (es : List Entry) (k : ℕ) → Mem k (present_keys ws es) → present ws es k ≡ true
unfolding present_keys
keys-present ws es k m = (filter-mem (present ws es) k (keys_of es) (order-member k (filter (present ws es) (keys_of es)) m)).1

pub present-keys : (ws : List ℕ) (es : List Entry) (k : ℕ) → present ws es k ≡ true → Mem k (present_keys ws es)
unfolding present_keys
present-keys ws es k h = member-order k (filter (present ws es) (keys_of es)) (known_member ws es k h)

pub keys-rise : (ws : List ℕ) (es : List Entry) → Rising (present_keys ws es)
unfolding present_keys
keys-rise ws es = order-rising (filter (present ws es) (keys_of es)) (filter-once (present ws es) (keys_of es) (distinct-once (key_list es)))

-- the table of an accepted image with the words vs, which ws are past the directory
module _ (size : Size) (n : ℕ) (ws vs : List ℕ) (es : List Entry) (ok : Ok (power_of size) n vs es) (sees : Past ws vs) (table : List ℕ) (keys : ℕ) (inv : Indexed size table keys es) where
  says : (k : ℕ) → is_present (by_word size ws (get table k)) ≡ present vs es k
  says k = ap is_present (word-listed size n ws vs es ok sees table keys inv k) ∙ listed-present vs es k

  into : (k : ℕ) → Mem k (slot_keys size ws table (slots table)) → Mem k (filter (present vs es) (keys_of es))
  into k m =
      let q = slot_of size ws table k (slots table) m in
      let g : get table k ≡ info_at table q.0 = get_at table k q.0 inv.probed q.1 (full size ws table q.0 q.3) q.2 in
      let h : present vs es k ≡ true = sym (says k) ∙ ap (λ w. is_present (by_word size ws w)) g ∙ q.3 in
      known_member vs es k h

  nonzero : (k : ℕ) → is_present (by_word size ws (get table k)) ≡ true → get table k ≡ 0 → ⊥
  unfolding by_word
  nonzero k h z = let w = rw (eq-eqb (get table k) 0 z) at h in let y : ◌≡◌ {A = ℕ} 0 1 = cc in omega arith

  stored : (k : ℕ) → is_present (by_word size ws (get table k)) ≡ true → Mem k (slot_keys size ws table (slots table))
  unfolding get
  stored k h = let s = get-stored table k (nonzero k h) in in-slots size ws table k (slots table) (stop_of table k) s.0 s.1 h

  out_of : (k : ℕ) → Mem k (filter (present vs es) (keys_of es)) → Mem k (slot_keys size ws table (slots table))
  out_of k m = stored k (says k ∙ (filter-mem (present vs es) k (keys_of es) m).1)

  pub slots-present : in_order (slot_keys size ws table (slots table)) ≡ present_keys vs es
  unfolding present_keys
  slots-present =
      same-order (slot_keys size ws table (slots table)) (filter (present vs es) (keys_of es)) (slot-once size ws table inv.probed (slots table) (omega arith))
      (filter-once (present vs es) (keys_of es) (distinct-once (key_list es))) into out_of

  pub present-listed : (out out' : List ℕ) (count : ℕ) → Gathering size ws table out out' count → Lists (present_keys vs es) out out' count
  present-listed out out' count g = rw (← slots-present) (g.lists inv.probed)
