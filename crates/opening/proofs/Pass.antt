-- What the code shows of the first pass: one law for each return of an entry's insertion, and the steps of the pass.
-- Assumes nothing.
use mathlib.Core.Path.{◌≡◌, refl, sym, ◌∙◌, ap}
use mathlib.Core.Logic.{inl}
use mathlib.Core.Bool.{Bool, true, false}
use mathlib.Core.List.{List, [], ◌∷◌, ◌++◌}
use Prim.Native.Nat.{ℕ, ◌+◌, ◌≤◌, ◌<◌}
use native.Mathlib.Omega.{arith}
use lib.Dec.{eqb, ltb}
use lib.ListN.{length, length-replicate}
use borrow.Author.Tests.{ltb-true}
use Rattle.spec.specs.declared.Size.{Size}
use Rattle.places.specs.Sizes.{power_of, power-low, power-high}
use Rattle.spec.specs.Basics.{pick, both}
use Rattle.spec.specs.Log.{Entry, Parsed, Wrong, Entries, prepend, image_entries}
use Rattle.theory_base.proofs.Lists.{not-both, both_l, both_r}
use Rattle.theory_log.specs.Contents.{Mem}
use Rattle.theory_log.proofs.Contents.{mem-l, mem-r, chosen_is}
use Rattle.theory_log.proofs.Parse.{cons_inv}
use Rattle.index.specs.Index.{info_at, stop_of, get, insert, put_at, zeros, capacity as table_room}
use Rattle.index.proofs.Laws.{insert-length}
use Rattle.index.proofs.Answers.{look_in, put-insert}
use Rattle.volatile.specs.Known.{extent_of, info_of, alone, own_of, noted, Bounded, FillInv}
use Rattle.volatile.proofs.Info.{bounded-front}
use Rattle.volatile.proofs.Grow.{capacity-same}
use Rattle.volatile.proofs.Image.{image_bounded}
use Rattle.volatile.proofs.Fill.{fill_start, fill-old, fill-new, fill-full, fill-over}
use Rattle.volatile.proofs.Plain.{plain-start, plain-next, single-end, direct-end}
use Rattle.logs.specs.declared.Cursor.{Cursor}
use Rattle.logs.specs.declared.Entry as H
use Rattle.logs.specs.Cursor.{start, remaining, with_value, Handed}
use Rattle.logs.proofs.Walk.{remaining-start, passed_entry, passed-done, passed-wrong}
use Rattle.volatile.specs.Sums.{weight}
use Rattle.volatile.specs.Change.{only, nothing, SumsAlone, Changed, Cleared, Weighed, Renewed}
use Rattle.volatile.proofs.Laws.{cleared-summed}
use Rattle.volatile.proofs.Weights.{right-few}
use Rattle.volatile.proofs.Joins.{joins-behind}
use Rattle.logs.proofs.Stands.{image-stands}
use Rattle.opening.specs.Pass.{Entering, AgainIs, EnteredIs, Owing, Passing, Filling}
use Rattle.opening.proofs.Sums.{owing-none, owing-summed, owing-turned, owing-paid}

-- One more entry, of a key whose probing stops at `slot`, where the table holds `old`.
module _ (size : Size) (table : List ℕ) (keys : ℕ) (fits single : Bool) (key own slot old : ℕ) (is-slot : slot ≡ stop_of table key) (is_word : old ≡ info_at table slot) (so : fits ≡ true) where
  is-old : old ≡ get table key
  is-old = is_word ∙ look_in table key slot is-slot

  pub enter-full : old ≡ 0 → table_room (length table) ≤ keys → Entering size table table keys fits single key own keys false false
  enter-full z c = rw so (record {
    sized = refl;
    enters = λ xs e k o b inv. fill-full size (length table) xs e table table keys old 0 inv b (rw k is-old) z (rw (capacity-same (length table)) c);
    singly = λ f. absurd (not-both true refl (sym f));
  })

  module _ (table' : List ℕ) (info : ℕ) (is-info : info ≡ noted size old own) (is-put : table' ≡ put_at table slot key info) (single' : Bool) (is-single : single' ≡ both single (ltb info 0x8000_0000_0000_0000)) where
    is-table : table' ≡ insert table key info
    is-table = is-put ∙ put-insert table key slot is-slot info

    long : length table' ≡ length table
    long = ap length is-table ∙ insert-length table key info

    low : single' ≡ true → (single ≡ true) × (fits ≡ true) × (true ≡ true) × (noted size (get table key) own < 0x8000_0000_0000_0000)
    low t =
        let q : both single (ltb info 0x8000_0000_0000_0000) ≡ true = sym is-single ∙ t in
        let l : info < 0x8000_0000_0000_0000 = ltb-true info 0x8000_0000_0000_0000 (both_r single _ q) in
        (both_l single _ q, so, refl, rw (← is-old, ← is-info) l)

    pub enter-new : old ≡ 0 → keys < table_room (length table) → Entering size table table' keys fits single key own (keys + 1) true single'
    enter-new z c = record {
      sized = long;
      enters = rw so (λ xs e k o b inv. fill-new size (length table) xs e table table' keys old info inv b (rw k is-old) (rw o is-info) (rw k is-table) z (rw (capacity-same (length table)) c));
      singly = low;
    }

    pub enter-old : (old ≡ 0 → ⊥) → Entering size table table' keys fits single key own keys true single'
    enter-old n = record {
      sized = long;
      enters = rw so (λ xs e k o b inv. fill-old size (length table) xs e table table' keys old info inv b (rw k is-old) (rw o is-info) (rw k is-table) n);
      singly = low;
    }

pub enter-over : (size : Size) → (table : List ℕ) (keys : ℕ) (fits single : Bool) (key own : ℕ) → fits ≡ false → Entering size table table keys fits single key own keys false false
enter-over size table keys fits single key own so =
    record { sized = refl; enters = rw so (λ xs e k o b inv. fill-over size (length table) xs e table keys inv); singly = λ f. absurd (not-both true refl (sym f)) }

-- one more entry of a key that the table has
pub again-is : (size : Size) → (ws buffer buffer' table table' : List ℕ) (single : Bool) (slot old key own w : ℕ) (single' : Bool) (info : ℕ) → info ≡ noted size old own → table' ≡ put_at table slot key info
    → single' ≡ both single (ltb info 0x8000_0000_0000_0000) → Renewed size ws buffer buffer' old own w → AgainIs size ws buffer buffer' table table' single slot old key own w single'
again-is size ws buffer buffer' table table' single slot old key own w single' info is-info is-put is-single r =
    record { put = is-put ∙ ap (put_at table slot key) is-info; low = is-single ∙ ap (λ (i : ℕ). both single (ltb i 0x8000_0000_0000_0000)) is-info; renewed = r }

-- with the sums
module _ (size : Size) (ws buffer buffer' table table' : List ℕ) (keys : ℕ) (fits single : Bool) (key own w keys' : ℕ) (single' : Bool) where
  -- they are renewed
  pub entered-renewed : (slot old : ℕ) → slot ≡ stop_of table key → old ≡ info_at table slot → fits ≡ true → Renewed size ws buffer buffer' old own w
      → Entering size table table' keys fits single key own keys' true single' → EnteredIs size ws buffer buffer' table table' keys fits single key own w keys' true single'
  entered-renewed slot old is-slot is_word so r e =
      let q : old ≡ get table key = is_word ∙ look_in table key slot is-slot in
      record { entered = e; kept = r.kept; renewed = λ t. (so, rw q at r) }

  -- or the keys do not fit
  pub entered-over : SumsAlone buffer buffer' → Entering size table table' keys fits single key own keys' false single' → EnteredIs size ws buffer buffer' table table' keys fits single key own w keys' false single'
  entered-over k e = record { entered = e; kept = k; renewed = λ t. absurd (not-both true refl (sym t)) }

-- THE PASS: its steps.
pub pass-start : (size : Size) → (n : ℕ) (ws : List ℕ) (words : ℕ) (table : List ℕ) → table ≡ zeros words → (before buffer : List ℕ) → Cleared before buffer → Passing size n ws (length table) table 0 true true true buffer 0 0 start
pass-start size n ws words table e before buffer cleared = record {
  sized = refl;
  passed = [];
  so_far = sym (remaining-start (power_of size) n ws);
  holds = λ m es h. (rw (e, length-replicate {A = ℕ} words 0) (fill_start size words), plain-start size, λ t. owing-none size buffer 0 [] (cleared-summed size before buffer cleared));
}

-- past padding, or on to the next chunk
pub pass_on : (size : Size) → (n : ℕ) (ws : List ℕ) (words : ℕ) (table : List ℕ) (keys : ℕ) (fits single direct : Bool) (buffer : List ℕ) (place owed : ℕ) (c d : Cursor) → Passing size n ws words table keys fits single direct buffer place owed c
    → remaining (power_of size) n ws c ≡ remaining (power_of size) n ws d → Passing size n ws words table keys fits single direct buffer place owed d
pass_on size n ws words table keys fits single direct buffer place owed c d inv same = record { sized = inv.sized; passed = inv.passed; so_far = inv.so_far ∙ ap (prepend inv.passed) same; holds = inv.holds }

-- what is owed to the sums is paid, or nothing is owed
pub pass-paid : (size : Size) → (n : ℕ) (ws : List ℕ) (words : ℕ) (table : List ℕ) (keys : ℕ) (fits single direct : Bool) (buffer buffer' : List ℕ) (place owed : ℕ) (c : Cursor) → Passing size n ws words table keys fits single direct buffer place owed c
    → Changed buffer buffer' (only size place owed) nothing → Passing size n ws words table keys fits single direct buffer' 0 0 c
pass-paid size n ws words table keys fits single direct buffer buffer' place owed c inv k = record {
  sized = inv.sized;
  passed = inv.passed;
  so_far = inv.so_far;
  holds = λ m es h. let p = inv.holds m es h in (p.0, p.1, λ t. owing-none size buffer' 0 inv.passed (owing-paid size buffer buffer' place owed inv.passed (p.2 t) k));
}

pub pass-turned : (size : Size) → (n : ℕ) (ws : List ℕ) (words : ℕ) (table : List ℕ) (keys : ℕ) (fits single direct : Bool) (buffer : List ℕ) (place other : ℕ) (c : Cursor) → Passing size n ws words table keys fits single direct buffer place 0 c
    → Passing size n ws words table keys fits single direct buffer other 0 c
pass-turned size n ws words table keys fits single direct buffer place other c inv = record {
  sized = inv.sized;
  passed = inv.passed;
  so_far = inv.so_far;
  holds = λ m es h. let p = inv.holds m es h in (p.0, p.1, λ t. owing-turned size buffer place other inv.passed (p.2 t));
}

-- what is passed is a front part of all
prepend-front : (xs : List Entry) (q : Parsed) (es : List Entry) → prepend xs q ≡ Entries es → (rest : List Entry) × (es ≡ xs ++ rest)
prepend-front [] q es h = (es, refl)
prepend-front (x ∷ xs) q es h =
    let a = cons_inv x (prepend xs q) es h in
    let b = prepend-front xs q a.0 a.1 in
    (b.0, a.2 ∙ ap (λ (l : List Entry). x ∷ l) b.1)

-- where values stay direct, an entry points to no block
no_pointer : (op pl : ℕ) (direct : Bool) → pick (eqb pl 1) false direct ≡ true → (direct ≡ true) × (both (eqb op 1) (eqb pl 1) ≡ false)
no_pointer op pl direct h = go (eqb pl 1) h (eqb op 1)
  where
    go : (b : Bool) → pick b false direct ≡ true → (a : Bool) → (direct ≡ true) × (both a b ≡ false)
    go true q a = absurd (not-both true refl (sym q))
    go false q true = (q, refl)
    go false q false = (q, refl)

-- what becomes of the sums with one more entry e behind xs, in an image with the entries es
abbrev pub Summing : (size : Size) → (words : ℕ) (table : List ℕ) (keys : ℕ) (fits fits' : Bool) (buffer : List ℕ) (place owed : ℕ) (buffer' : List ℕ) (place' owed' : ℕ) (xs es : List Entry) (e : Entry) → Type 0
Summing size words table keys fits fits' buffer place owed buffer' place' owed' xs es e = ((f : Entry) → Mem f (xs ++ e ∷ []) → Mem f es) → Bounded size (xs ++ e ∷ []) → FillInv size words xs table keys fits → (fits ≡ true → Owing size buffer place owed xs)
    → fits' ≡ true → Owing size buffer' place' owed' (xs ++ e ∷ [])

module _ (size : Size) (n : ℕ) (ws : List ℕ) (words : ℕ) (table : List ℕ) (keys : ℕ) (fits single direct : Bool) (buffer : List ℕ) (place owed : ℕ) (c : Cursor) (inv : Passing size n ws words table keys fits single direct buffer place owed c) where
  pub pass-entry : (h : H.Entry) → Handed (power_of size) n ws c h → (direct' : Bool) → direct' ≡ pick (eqb h.placement 1) false direct
      → (own : ℕ) → own ≡ alone size (extent_of size h.placement h.field) h.place h.version → (table' : List ℕ) (keys' : ℕ) (fits' single' : Bool) → Entering size table table' keys fits single h.key own keys' fits' single'
      → (buffer' : List ℕ) (place' owed' : ℕ) → ((es : List Entry) → image_entries (power_of size) n ws ≡ Entries es → Summing size words table keys fits fits' buffer place owed buffer' place' owed' inv.passed es (with_value ws h))
      → Passing size n ws words table' keys' fits' single' direct' buffer' place' owed' h.behind
  pass-entry h told direct' is-direct own is-own table' keys' fits' single' entered buffer' place' owed' summing = record {
    sized = entered.sized ∙ inv.sized;
    passed = inv.passed ++ f ∷ [];
    so_far = more;
    holds = λ most es g.
        let front = prepend-front (inv.passed ++ f ∷ []) (remaining (power_of size) n ws h.behind) es (sym more ∙ g) in
        let small = bounded-front size (inv.passed ++ f ∷ []) front.0 (rw front.1 at (image_bounded size n ws es g most)) in
        let held = inv.holds most es g in
        (rw inv.sized at (entered.enters inv.passed f refl (sym is-own) small (rw inv.sized held.0)), plain-next size inv.passed f single direct fits single' direct' fits' small held.1 (singler held.0) (λ t. no_pointer h.op h.placement direct (sym is-direct ∙ t)), summing es g (λ y i. rw front.1 (mem-l y (inv.passed ++ f ∷ []) front.0 i)) small held.0 held.2);
  }
    where
      f : Entry
      f = with_value ws h

      more : image_entries (power_of size) n ws ≡ prepend (inv.passed ++ f ∷ []) (remaining (power_of size) n ws h.behind)
      more = passed_entry (power_of size) n ws c (image_entries (power_of size) n ws) inv.passed inv.so_far h told

      singler : FillInv size words inv.passed table keys fits → single' ≡ true → (single ≡ true) × (fits' ≡ true) × (noted size (info_of size h.key inv.passed) (own_of size f) < 0x8000_0000_0000_0000)
      singler held t = let p = entered.singly t in (p.0, p.2, rw ((held.whole p.1).0 h.key, is-own) at p.3)

-- an entry that is entered
module _ (size : Size) (n : ℕ) (ws : List ℕ) (words : ℕ) (table : List ℕ) (keys : ℕ) (fits single direct : Bool) (buffer : List ℕ) (c : Cursor) (inv : Passing size n ws words table keys fits single direct buffer 0 0 c) where
  pub pass-entered : (h : H.Entry) → Handed (power_of size) n ws c h → (direct' : Bool) → direct' ≡ pick (eqb h.placement 1) false direct
      → (own : ℕ) → own ≡ alone size (extent_of size h.placement h.field) h.place h.version → (w : ℕ) → Weighed h.op h.words w → (table' buffer' : List ℕ) (keys' : ℕ) (fits' single' : Bool) → EnteredIs size ws buffer buffer' table table' keys fits single h.key own w keys' fits' single'
      → Passing size n ws words table' keys' fits' single' direct' buffer' 0 0 h.behind
  pass-entered h told direct' is-direct own is-own w weighed table' buffer' keys' fits' single' all =
      pass-entry size n ws words table keys fits single direct buffer 0 0 c inv h told direct' is-direct own is-own table' keys' fits' single' all.entered buffer' 0 0
      (λ es g inside small held owing t.
      let r = all.renewed t in
      let full = held.whole r.0 in
      let xs = inv.passed in
      owing-none size buffer' 0 (xs ++ e ∷ [])
      (r.1.renews xs (xs ++ e ∷ []) e
      (joins-behind size ws (get table h.key) own w xs e (full.0 h.key) is-own is-weight (bounded-front size xs (e ∷ []) small) (small.each e (mem-r e xs (e ∷ []) (inl refl)))
      (λ f q. image-stands (power_of size) (power-low size) (power-high size) n ws es g f (inside f (mem-l f xs (e ∷ []) (chosen_is h.key xs f q).in_list))))
      (owing-summed size buffer 0 xs (owing r.0))))
    where
      e : Entry
      e = with_value ws h

      is-weight : w ≡ weight (with_value ws h)
      is-weight =
          let right = told.stands.right in
          let size : length (with_value ws h).value ≡ h.words = right.words ∙ sym told.size in
          let few = right-few (with_value ws h) right in
          weighed.is (omega arith) ∙ rw size

  module _ (before start-buffer : List ℕ) (cleared : words ≡ length (zeros (length before))) (kept : SumsAlone start-buffer buffer) where
    same : words ≡ length before
    same = cleared ∙ length-replicate (length before) 0

    pub pass-done : remaining (power_of size) n ws c ≡ Entries [] → Filling size n ws before table start-buffer buffer true fits single direct keys
    pass-done told =
        let all : image_entries (power_of size) n ws ≡ Entries inv.passed = passed-done (power_of size) n ws c (image_entries (power_of size) n ws) inv.passed inv.so_far told in
        record {
          sized = inv.sized ∙ same;
          kept = kept;
          summed = λ most es h t. let q : inv.passed ≡ es = cc in rw (← q) (owing-summed size buffer 0 inv.passed ((inv.holds most es h).2 t));
          wrong = λ w. absurd (let z : ◌≡◌ {A = ℕ} 0 1 = cc in omega arith);
          entries = λ most es h. (refl, let q : inv.passed ≡ es = cc in rw (← q, ← same) (inv.holds most es h).0);
          singly = λ most es h t. let q : inv.passed ≡ es = cc in rw (← q) (single-end size inv.passed single direct fits (inv.holds most es h).1 t);
          directly = λ most es h t. let q : inv.passed ≡ es = cc in rw (← q) (direct-end size inv.passed single direct fits (inv.holds most es h).1 t);
        }

    pub pass-wrong : remaining (power_of size) n ws c ≡ Wrong → Filling size n ws before table start-buffer buffer false false false false 0
    pass-wrong told =
        let all : image_entries (power_of size) n ws ≡ Wrong = passed-wrong (power_of size) n ws c (image_entries (power_of size) n ws) inv.passed inv.so_far told in
        record {
          sized = inv.sized ∙ same;
          kept = kept;
          summed = λ most es h t. absurd (let z : ◌≡◌ {A = ℕ} 0 1 = cc in omega arith);
          wrong = λ w. refl;
          entries = λ most es h. absurd (let z : ◌≡◌ {A = ℕ} 0 1 = cc in omega arith);
          singly = λ most es h t. absurd (let z : ◌≡◌ {A = ℕ} 0 1 = cc in omega arith);
          directly = λ most es h t. absurd (let z : ◌≡◌ {A = ℕ} 0 1 = cc in omega arith);
        }
