-- What the code shows of the text: piece by piece, line by line, and the whole of an image's.
-- Assumes nothing.
use mathlib.Core.Path.{◌≡◌, refl, sym, ◌∙◌, ap, subst}
use mathlib.Core.Option.{none}
use mathlib.Core.List.{List, [], ◌∷◌, ◌++◌, append_assoc, append-nil}
use Prim.Native.Nat.{ℕ, suc, ◌+◌, ◌*◌, ◌<◌, ◌≤◌}
use native.Mathlib.Nat.{mul-suc, mul-le-mul_left}
use native.Mathlib.Numerals.{add-one}
use native.Mathlib.Omega.{arith}
use lib.ListN.{length, take, get_or, length-append, length-take}
use lib.Seq.{take_all, take-suc}
use borrow.Author.Tests.{eq-eqb}
use Rattle.std.proofs.Common.{Ok, Err, zero-add}
use Rattle.spec.specs.Words.{words_of}
use Rattle.spec.specs.Places.{chunk_bytes, chunks_in, length_allowed, any_allowed}
use Rattle.spec.specs.Header.{header_power}
use Rattle.spec.specs.Log.{Entry}
use Rattle.spec.specs.Contents.{listed, capacity, entries_in}
use Rattle.spec.specs.Opening.{Opening, Refused, Accepted, opening}
use Rattle.spec.specs.Reports.{number}
use Rattle.spec.specs.Machine.{state_power, Open, gate, opened, next}
use Rattle.session.specs.declared.Control.{Control}
use Rattle.session.specs.declared.Setup.{Setup}
use Rattle.spec.specs.declared.Refusal.{Refusal}
use Rattle.spec.specs.declared.Refusal.TheVariants as N
use Rattle.spec.specs.declared.Report.{Report}
use Rattle.spec.specs.declared.Report.TheVariants as R
use Rattle.words.specs.Image.{length-words_of}
use Rattle.theory_crash.proofs.Opening.{opens_at}
use Rattle.buffer.specs.Areas.{buffer_words}
use Rattle.session.specs.State.{state_at, state_of, size_in, power_in}
use Rattle.session.specs.Fits.{Fits}
use Rattle.lookup.specs.Look.{session_of}
use Rattle.text.specs.Text.{Writes}
use Rattle.text.proofs.Texts.{writes-none, writes-on}
use Rattle.lookup.specs.declared.Listing.{Listing}
use Rattle.lookup.specs.Listing.{Listed, present_keys, listed_of}
use Rattle.lookup.specs.Contract.{Lists, entries_of, words_read, ListingKeys, ListingKey}
use Rattle.lookup.proofs.Answers.{Register as Register', register, present-fit}
use Rattle.session.proofs.Gates.{gate-passed, rest-reads}
use Rattle.printing.specs.declared.Layout.{Layout}
use Rattle.printing.specs.declared.Layout.TheVariants as Y
use Rattle.printing.specs.Lines.{refused_text, head_text, entry_text, entry_most}
use Rattle.printing.proofs.Pieces.{entry_length, head-length, number-length}
use Rattle.printing.specs.Print.{listed_text, lines_text, register_text, opened_text, image_text, most_text, read_most, table_words, text_bytes, Opened, Key, Keys, Register, Image}
use Rattle.session.specs.Promise.{Does, memory}

-- the power of a register that is open and at rest is the record's
open-power : (c : Control) (k : Setup) (bytes table : List ℕ) (o : Opened c k bytes table) → state_power (state_at c k o.0) ≡ power_in k
open-power c k bytes table o = ap state_power (gate-passed (session_of c k o.0) (length bytes) (length table) o.1).state

-- ## A key

module _ (n : ℕ) (c : Control) (k : Setup) (key : ℕ) (layout : Layout) (row : ℕ) (bytes table out : List ℕ) (found : Listed) (h : ListingKey c k key bytes table found) where
  same : Opened c k bytes table → found ≡ listed_of (words_of bytes) (entries_of (power_in k) bytes) key
  same o =
      let r = rest-reads (state_at c k o.0) (length bytes) (length table) (words_of bytes) o.1 in
      h.listed o.0 r.0 o.2
      ∙ ap (λ (ws : List ℕ). listed_of ws (entries_in (state_power (state_at c k o.0)) (chunks_in (state_power (state_at c k o.0)) (length bytes)) ws) key) r.1
      ∙ ap (λ (p : ℕ). listed_of (words_of bytes) (entries_in p (chunks_in p (length bytes)) (words_of bytes)) key) (open-power c k bytes table o)

  pub key-none : ((l : Listing) → found ≡ Ok l → ⊥) → Key n c k key layout row bytes table out out
  key-none absent = record { line = λ o. by found refl o }
    where
      by : (f : Listed) → found ≡ f → (o : Opened c k bytes table) → Writes n out out (listed_text layout row key (listed_of (words_of bytes) (entries_of (power_in k) bytes) key))
      by (Ok l) e o = absurd (absent l e)
      by (Err r) e o = rw (sym (same o) ∙ e) (writes-none n out)

  pub key-line : (l : Listing) (out' : List ℕ) → found ≡ Ok l → Writes n out out' (entry_text layout row key l) → Key n c k key layout row bytes table out out'
  key-line l out' e w = record { line = λ o. rw (sym (same o) ∙ e) w }

-- ## The keys

pub lines-append : (layout : Layout) (ws : List ℕ) (es : List Entry) (i : ℕ) (xs ys : List ℕ) → lines_text layout ws es i (xs ++ ys) ≡ lines_text layout ws es i xs ++ lines_text layout ws es (i + length xs) ys
lines-append layout ws es i [] ys = let e : i + 0 ≡ i = omega arith in rw e
lines-append layout ws es i (x ∷ xs) ys =
    let e : suc i + length xs ≡ i + suc (length xs) = omega arith in
    ap (λ (l : List ℕ). listed_text layout i x (listed_of ws es x) ++ l) (lines-append layout ws es (suc i) xs ys ∙ ap (λ (j : ℕ). lines_text layout ws es (suc i) xs ++ lines_text layout ws es j ys) e)
    ∙ sym (append_assoc (listed_text layout i x (listed_of ws es x)) (lines_text layout ws es (suc i) xs) (lines_text layout ws es (i + suc (length xs)) ys))

module _ (n : ℕ) (c : Control) (k : Setup) (bytes table keys : List ℕ) (layout : Layout) (out : List ℕ) where
  -- the lines of the first i keys
  abbrev pub Lining : List ℕ → ℕ → Type 0
  Lining out' i = Keys n c k bytes table (take i keys) layout out out'

  pub lining-start : Lining out 0
  lining-start = record { lines = λ o. writes-none n out }

  pub lining-on : (out' out'' : List ℕ) (i : ℕ) → i < length keys → Lining out' i → Key n c k (get_or keys i 0) layout i bytes table out' out'' → Lining out'' (i + 1)
  lining-on out' out'' i l h q = record {
    lines = λ o.
        let w = writes-on n out out' out'' _ _ (h.lines o) (q.line o) in
        let m : 0 + length (take i keys) ≡ i = (let t = length-take i keys in omega arith) in
        rw (add-one i, take-suc keys i 0 l, lines-append layout (words_of bytes) (entries_of (power_in k) bytes) 0 (take i keys) (get_or keys i 0 ∷ []), m, append-nil) w;
  }

  pub lining-all : (out' : List ℕ) (i : ℕ) → Lining out' i → length keys ≤ i → Keys n c k bytes table keys layout out out'
  lining-all out' i h l = record { lines = λ o. rw (take_all i keys l) at (h.lines o) }

-- ## The register

module _ (n : ℕ) (c : Control) (k : Setup) (layout : Layout) (bytes table keys keys' out : List ℕ) where
  pub register-closed : (r : Refusal) (out' : List ℕ) → ListingKeys c k bytes table keys keys' (Err r) → Register n c k layout bytes table keys out out'
  register-closed r out' h = record {
    prints = λ o m. absurd (let q = h.answered.0 o.0 in let p = (rest-reads (state_at c k o.0) (length bytes) (length table) (words_of bytes) o.1).0 in let z : ◌≡◌ {A = ℕ} 0 1 = cc in omega arith);
  }

  pub register-lines : (count listed : ℕ) (out' out'' : List ℕ) → ListingKeys c k bytes table keys keys' (Ok count) → (count ≤ length keys' → listed ≡ count)
      → Writes n out out' (head_text layout count) → Keys n c k bytes table (take listed keys') layout out' out'' → Register n c k layout bytes table keys out out''
  register-lines count listed out' out'' h all w q = record {
    prints = λ o m.
        let same : words_read c k o.0 bytes ≡ words_of bytes = (rest-reads (state_at c k o.0) (length bytes) (length table) (words_of bytes) o.1).1 in
        let s : Lists (present_keys (words_of bytes) (entries_of (power_in k) bytes)) keys keys' count =
        subst (λ (p : ℕ). Lists (present_keys (words_of bytes) (entries_in p (chunks_in p (length bytes)) (words_of bytes))) keys keys' count) (open-power c k bytes table o)
        (subst (λ (ws : List ℕ). Lists (present_keys ws (entries_in (state_power (state_at c k o.0)) (chunks_in (state_power (state_at c k o.0)) (length bytes)) ws)) keys keys' count) same (h.answered.3 o.0 o.2)) in
        let z = s.all in
        let long = h.sized in
        let e : take listed keys' ≡ present_keys (words_of bytes) (entries_of (power_in k) bytes) =
        ap (λ (i : ℕ). take i keys') (all (omega arith)) ∙ s.rising ∙ take_all (length keys) (present_keys (words_of bytes) (entries_of (power_in k) bytes)) m in
        let x : Writes n out out' (head_text layout (length (present_keys (words_of bytes) (entries_of (power_in k) bytes)))) = rw s.all at w in
        let y : Writes n out' out'' (lines_text layout (words_of bytes) (entries_of (power_in k) bytes) 0 (present_keys (words_of bytes) (entries_of (power_in k) bytes))) = rw e at (q.lines o) in
        writes-on n out out' out'' _ _ x y;
  }

-- ## How long the text is

listed-length : (layout : Layout) (i key : ℕ) (l : Listed) → length (listed_text layout i key l) ≤ entry_most layout
listed-length layout i key (Err n) = omega arith
listed-length layout i key (Ok l) = entry_length layout i key l

lines-length : (layout : Layout) (ws : List ℕ) (es : List Entry) (i : ℕ) (ks : List ℕ) → length (lines_text layout ws es i ks) ≤ entry_most layout * length ks
lines-length layout ws es i [] = omega arith
lines-length layout ws es i (x ∷ ks) =
    let a = length-append (listed_text layout i x (listed_of ws es x)) (lines_text layout ws es (suc i) ks) in
    let b = listed-length layout i x (listed_of ws es x) in
    let c = lines-length layout ws es (suc i) ks in
    let d = mul-suc (entry_most layout) (length ks) in
    omega arith

-- ## The image

module _ (n : ℕ) (layout : Layout) (c₀ : Control) (k₀ : Setup) (c : Control) (k : Setup) (bytes table table' buffer buffer' keys out out' : List ℕ) (report : Report)
    (h : Does Open (memory (session_of c₀ k₀ buffer) bytes table) (memory (session_of c k buffer') bytes table') report) where
  abbrev verdict : Opening
  verdict = opening (length bytes) (words_of bytes) (length table)

  pub image-refused : (r : Refusal) → report ≡ R.Refused r → Writes n out out' (refused_text r) → Image n layout bytes table buffer keys out out'
  unfolding image_text
  image-refused r e w = record {
    prints = λ proper room long. w.writes (let l = number-length (114 ∷ 101 ∷ 102 ∷ 117 ∷ 115 ∷ 101 ∷ 100 ∷ 32 ∷ []) (number r) in omega arith) ∙ ap (λ (x : List ℕ). out ++ x) (sym (go verdict (sym e ∙ (h.exact proper).answered)));
  }
    where
      go : (o : Opening) → R.Refused r ≡ opened o → opened_text layout (words_of bytes) o ≡ refused_text r
      go (Refused m) q = let z : m ≡ r = cc in ap refused_text z
      go (Accepted es) q = absurd (let z : ◌≡◌ {A = ℕ} 0 1 = cc in omega arith)

  pub image-opened : ((r : Refusal) → report ≡ R.Refused r → ⊥) → Register n c k layout bytes table' keys out out' → Image n layout bytes table buffer keys out out'
  unfolding image_text next
  image-opened other w = record {
    prints = λ proper room long. let x = h.exact proper in go verdict refl x.answered x.became x.fits room long;
  }
    where
      go : (o : Opening) → verdict ≡ o → report ≡ opened o → state_of (session_of c k buffer') ≡ next Open (state_of (session_of c₀ k₀ buffer)) (words_of bytes) (length bytes) (length table)
          → Fits (session_of c k buffer') (words_of bytes) table' → capacity (length table) ≤ length keys → length out + most_text layout (capacity (length table)) ≤ n
          → out' ≡ out ++ opened_text layout (words_of bytes) o
      go (Refused r) v a b f room long = absurd (other r a)
      go (Accepted es) v a b f room long =
          let g : gate (state_at c k buffer') (length bytes) (length table') ≡ none = rw (b, v, h.sized, eq-eqb (length bytes) (length bytes) refl, eq-eqb (length table) (length table) refl) in
          let o : Opened c k bytes table' = (buffer', g, f) in
          let said : header_power (words_of bytes) ≡ power_in k = sym (ap state_power (rw v at b)) ∙ open-power c k bytes table' o in
          let e : entries_of (power_in k) bytes ≡ es = ap listed (opens_at (power_in k) (length bytes) (length table) (words_of bytes) es said (length-words_of bytes) v).0.parsed in
          let q = rest-reads (state_at c k buffer') (length bytes) (length table') (words_of bytes) g in
          let n : length (present_keys (words_of bytes) (entries_of (power_in k) bytes)) ≤ capacity (length table') =
          present-fit (size_in k) (words_of bytes) (words_of bytes) (length bytes) table' (subst (λ (ws : List ℕ). Register' (size_in k) (words_of bytes) ws (length bytes) table') q.1 (register c k buffer' bytes table' q.0 f)) in
          let s : capacity (length table') ≡ capacity (length table) = ap capacity h.sized in
          let d = lines-length layout (words_of bytes) (entries_of (power_in k) bytes) 0 (present_keys (words_of bytes) (entries_of (power_in k) bytes)) in
          let m = head-length layout (length (present_keys (words_of bytes) (entries_of (power_in k) bytes))) in
          let r' : entry_most layout * length (present_keys (words_of bytes) (entries_of (power_in k) bytes)) ≤ entry_most layout * capacity (length table) = mul-le-mul_left (entry_most layout) (omega arith) in
          let t = length-append (head_text layout (length (present_keys (words_of bytes) (entries_of (power_in k) bytes)))) (lines_text layout (words_of bytes) (entries_of (power_in k) bytes) 0 (present_keys (words_of bytes) (entries_of (power_in k) bytes))) in
          (w.prints o (omega arith)).writes (omega arith) ∙ ap (λ (x : List Entry). out ++ register_text layout (words_of bytes) x) e

-- ## The programs

-- what the table holds, and the room that the text of so many keys has
pub table-keys : capacity table_words ≡ 2048
unfolding capacity
table-keys = refl

text-room : (layout : Layout) → most_text layout (capacity table_words) ≤ text_bytes
text-room Y.Lines = rw table-keys (omega arith)
text-room Y.Pages = rw table-keys (omega arith)

pub program-text : (layout : Layout) (bytes table buffer keys out : List ℕ) → Image text_bytes layout bytes table buffer keys [] out
    → length table ≡ table_words → length buffer ≡ buffer_words → length keys ≡ 2048 → out ≡ image_text layout bytes table_words
program-text layout bytes table buffer keys out h t b k =
    h.prints b (rw (t, table-keys, k) (omega arith)) (rw (t, zero-add (most_text layout (capacity table_words))) (text-room layout)) ∙ ap (image_text layout bytes) t

-- an image that is longer than what is read has no allowed length
pub longer-refused : (layout : Layout) (bytes : List ℕ) (words : ℕ) → length bytes ≡ suc read_most → image_text layout bytes words ≡ refused_text N.ImageLength
unfolding image_text opening any_allowed length_allowed chunks_in chunk_bytes
longer-refused layout bytes words l = rw l
