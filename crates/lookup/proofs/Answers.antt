-- What the listing calls show: a refusal at the gate, and behind it the register's keys.
-- Assumes nothing.
use mathlib.Core.Path.{◌≡◌, refl, ◌∙◌, ap}
use mathlib.Core.Bool.{Bool, true, false}
use mathlib.Core.Option.{none, some}
use mathlib.Core.List.{List}
use Prim.Native.Nat.{ℕ, ◌+◌, ◌/◌, ◌%◌, ◌≤◌}
use native.Mathlib.Omega.{arith}
use lib.Dec.{eqb, ltb}
use lib.ListN.{length, get_or}
use Rattle.spec.specs.Basics.{pick, filter}
use Rattle.spec.specs.Words.{words_of}
use Rattle.spec.specs.Places.{unit_word, chunks_in}
use Rattle.spec.specs.Log.{Entry, Entries, image_entries}
use Rattle.spec.specs.Contents.{listed, keys_of, capacity, entries_in}
use Rattle.theory_base.proofs.Lists.{filter-length}
use Rattle.theory_base.proofs.PutBack.{Past, past-flip}
use Rattle.spec.specs.Machine.{read_gate}
use Rattle.session.specs.declared.Control.{Control}
use Rattle.session.specs.declared.Setup.{Setup}
use Rattle.spec.specs.declared.Size.{Size}
use Rattle.spec.specs.declared.Refusal.{Refusal}
use Rattle.spec.specs.declared.Refusal.TheVariants as N
use Rattle.places.specs.Sizes.{power_of}
use Rattle.theory_crash.specs.Accepted.{Ok as Accepted}
use Rattle.theory_crash.proofs.Opening.{opens_at}
use Rattle.packing.specs.Packed.{unpack_of}
use Rattle.index.specs.Index.{get}
use Rattle.volatile.specs.Known.{Indexed}
use Rattle.order.specs.Order.{Taking}
use Rattle.order.proofs.Rising.{order-length}
use Rattle.session.specs.State.{size_in, power_in, state_at}
use Rattle.session.specs.Fits.{Fits}
use Rattle.session.specs.Asks.{gate_of, ReadAsking}
use Rattle.lookup.specs.Look.{session_of}
use Rattle.session.proofs.Gates.{read_at_lem}
use Rattle.std.specs.Prelude.{Result, Ok, Err}
use Rattle.lookup.specs.Listing.{Listed, present_key, present, present_keys, by_word, is_present}
use Rattle.lookup.specs.Contract.{Gathering, words_read, ListingKeys, AbsentOr, ListingKey}
use Rattle.lookup.proofs.Looks.{read-power}
use Rattle.lookup.proofs.Entries.{word-listed}
use Rattle.lookup.proofs.Slots.{Taken, present-listed}

-- ## A slot

module _ (size : Size) (ws : List ℕ) (key word kept : ℕ) (out : List ℕ) where
  pub taken_none : is_present (by_word size ws word) ≡ false → Taken size ws key word out out kept kept 0
  taken_none h =
      record { sized = refl; counts = rw h; grows = omega arith; fits = λ l. (omega arith, l); behind = λ i l. refl; takes = λ ks q new. rw h q }

  pub taken-some : (out' : List ℕ) (kept' : ℕ) → is_present (by_word size ws word) ≡ true → Taking out out' kept key kept' → Taken size ws key word out out' kept kept' 1
  taken-some out' kept' h t =
      record {
        sized = t.sized;
        counts = rw h;
        grows = t.grows;
        fits = t.fits;
        behind = t.behind;
        takes = λ ks q new. rw h (t.takes ks q (new h));
      }

-- ## Behind the gate

-- the words of an open register that look-up reads, which are the image's past the directory, and the table of their
-- entries
pub record Register (size : Size) (ws vs : List ℕ) (bytes : ℕ) (table : List ℕ) : Type 0 where
  pub chunks : ℕ
  pub keys : ℕ
  pub entries : List Entry
  pub ok : Accepted (power_of size) chunks vs entries
  pub sees : Past ws vs
  pub indexed : Indexed size table keys entries
  pub same : entries_in (power_of size) (chunks_in (power_of size) bytes) vs ≡ entries

pub register : (c : Control) (k : Setup) (b bytes table : List ℕ) → read_gate (state_at c k b) (length bytes) (length table) ≡ none → Fits (session_of c k b) (words_of bytes) table
    → Register (size_in k) (words_of bytes) (words_read c k b bytes) (length bytes) table
register c k b bytes table g f =
    let a = read_at_lem (session_of c k b) (length bytes) (length table) (words_of bytes) table g f in
    let vs : List ℕ = words_read c k b bytes in
    let o = opens_at (power_in k) k.image k.table vs a.entries a.accepted.power (a.past.long ∙ a.long) a.accepted.accepts in
    let n : chunks_in (power_in k) k.image ≡ chunks_in (power_in k) (length bytes) = ap (chunks_in (power_in k)) a.same_bytes in
    let p : image_entries (power_in k) (chunks_in (power_in k) (length bytes)) vs ≡ Entries a.entries = rw n at o.0.parsed in
    record {
      chunks = chunks_in (power_in k) k.image;
      keys = c.keys;
      entries = a.entries;
      ok = o.0;
      sees = past-flip vs (words_of bytes) a.past;
      indexed = a.built.indexed;
      same = ap listed p;
    }

-- it has no more keys than the table holds
pub present-fit : (size : Size) (ws vs : List ℕ) (bytes : ℕ) (table : List ℕ) → Register size ws vs bytes table → length (present_keys vs (entries_in (power_of size) (chunks_in (power_of size) bytes) vs)) ≤ capacity (length table)
unfolding present_keys
present-fit size ws vs bytes table r =
    let es : List Entry = entries_in (power_of size) (chunks_in (power_of size) bytes) vs in
    let a = order-length (filter (present vs es) (keys_of es)) in
    let b = filter-length (present vs es) (keys_of es) in
    let c : r.keys ≡ length (keys_of es) = rw r.same r.indexed.count in
    let d = r.indexed.fits in
    omega arith

-- 11 alone is refused of a word
word-absent : (size : Size) (ws : List ℕ) (word : ℕ) → AbsentOr (by_word size ws word)
unfolding by_word
word-absent size ws word = go (eqb word 0) (ltb 0 (unpack_of size word).extent) (eqb (w % 16) 1) (eqb (w % 16) 5)
  where
    w : ℕ
    w = get_or ws (unpack_of size word).place 0

    v : ℕ
    v = (unpack_of size word).version

    go : (b1 b2 b3 b4 : Bool) → AbsentOr (pick b1 (Err N.KeyAbsent) (pick b2 (present_key v ((unpack_of size word).extent + 1) false)
        (pick b3 (present_key v (w / 16777216) false) (pick b4 (present_key v (get_or ws (unit_word (w / 16777216)) 0) true) (Err N.KeyAbsent)))))
    go true b2 b3 b4 = refl
    go false true b3 b4 = tt
    go false false true b4 = tt
    go false false false true = tt
    go false false false false = refl

module _ (c : Control) (k : Setup) (bytes table : List ℕ) (g : Result (Unit {0}) Refusal) (asks : ReadAsking c k (length bytes) (length table) g) where
  is-refused : (n : Refusal) → g ≡ Err n → (b : List ℕ) → read_gate (state_at c k b) (length bytes) (length table) ≡ some n
  is-refused n e b = asks.asked b ∙ ap gate_of e

  is_open : g ≡ Ok tt → (b : List ℕ) → read_gate (state_at c k b) (length bytes) (length table) ≡ none
  is_open e b = asks.asked b ∙ ap gate_of e

  -- ## The keys

  pub keys-refused : (out : List ℕ) (n : Refusal) → g ≡ Err n → ListingKeys c k bytes table out out (Err n)
  keys-refused out n e = record { sized = refl; answered = (is-refused n e, refl) }

  pub keys-open : (out out' : List ℕ) (count : ℕ) → g ≡ Ok tt → Gathering (size_in k) (words_of bytes) table out out' count → ListingKeys c k bytes table out out' (Ok count)
  keys-open out out' count e h = record {
    sized = h.sized;
    answered = (
      is_open e,
      h.most,
      h.behind,
      λ b f.
          let r = register c k b bytes table (is_open e b) f in
          rw (read-power (session_of c k b) (length bytes) (length table) (is_open e b), r.same) (present-listed (size_in k) r.chunks (words_of bytes) (words_read c k b bytes) r.entries r.ok r.sees table r.keys r.indexed out out' count h),
    );
  }

  -- ## A key

  pub key-refused : (key : ℕ) (n : Refusal) → g ≡ Err n → ListingKey c k key bytes table (Err n)
  key-refused key n e = record {
    gated = λ b m h. let q = is-refused n e b in cc;
    behind = λ b h. absurd (let q = is-refused n e b in let z : ◌≡◌ {A = ℕ} 0 1 = cc in omega arith);
    listed = λ b h f. absurd (let q = is-refused n e b in let z : ◌≡◌ {A = ℕ} 0 1 = cc in omega arith);
  }

  pub key-open : (key word : ℕ) (r : Listed) → g ≡ Ok tt → word ≡ get table key → r ≡ by_word (size_in k) (words_of bytes) word → ListingKey c k key bytes table r
  key-open key word r e w h = record {
    gated = λ b n q. absurd (let o = is_open e b in let z : ◌≡◌ {A = ℕ} 0 1 = cc in omega arith);
    behind = λ b q. rw h (word-absent (size_in k) (words_of bytes) word);
    listed = λ b q f.
        let s = register c k b bytes table (is_open e b) f in
        h ∙ ap (by_word (size_in k) (words_of bytes)) w ∙ rw (read-power (session_of c k b) (length bytes) (length table) (is_open e b), s.same) (word-listed (size_in k) s.chunks (words_of bytes) (words_read c k b bytes) s.entries s.ok s.sees table s.keys s.indexed key);
  }
