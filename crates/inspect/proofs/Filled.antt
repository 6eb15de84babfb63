-- The pass over the log leaves the key's entries in the lent words, as far as they fit, and counts them all.
-- Assumes nothing.
use Rattle.std.proofs.Common.{◌≡◌, ℕ, suc, ◌+◌, ◌-◌, ◌*◌, ◌/◌, ◌%◌, ◌<◌, ◌≤◌, Bool, true, false, eqb, List, [], ◌∷◌, ◌++◌, map, length, drop, sym, refl, ap, ◌∙◌, subst, inl, inr, append_assoc, arith, length-append, length-drop, drop-drop, take_at, ne_eqb, le-leb}
use mathlib.Core.Logic.{by_cases}
use borrow.Rule.Slice.PartMut.{put_mid}
use Rattle.std.proofs.lemmas.Slice.{put_mid-paste}
use Rattle.std.proofs.Math.Seq.{take-length}
use mathlib.Core.Option.{Option, none, some}
use native.Mathlib.Decide.{dec_lt}
use lib.ListN.{length-map}
use lib.Seq.{sets, sets-eq, take-nil, drop-append-add}
use borrow.Author.Tests.{lt-leb}
use Rattle.spec.specs.declared.Size.{Size}
use Rattle.spec.specs.declared.Size.TheVariants as S
use Rattle.places.specs.Sizes.{power_of, power-low, power-high}
use Rattle.spec.specs.Basics.{pick, filter}
use Rattle.spec.specs.Places.{chunk_bytes, chunk_words, chunks_in, base}
use Rattle.spec.specs.Log.{Entry, Parsed, Wrong, Entries, image_entries}
use Rattle.spec.specs.Contents.{chosen, is_at, listed}
use Rattle.theory_base.proofs.Lists.{filter-length}
use Rattle.theory_log.specs.Contents.{Mem}
use Rattle.theory_log.specs.Fold.{fold_e, fold_p}
use Rattle.theory_log.proofs.Contents.{none_of, chosen_is}
use Rattle.theory_log.proofs.Places.{Rising, all_sound}
use Rattle.std.specs.Prelude.{Option as Maybe, Some, None, Result, Ok, Err}
use Rattle.logs.specs.declared.Best.{Best}
use Rattle.logs.specs.declared.Cursor.{Cursor}
use Rattle.logs.specs.declared.Entry as F
use Rattle.logs.specs.declared.WrongEntry.{WrongEntry}
use Rattle.logs.specs.Cursor.{remaining, Advanced}
use Rattle.logs.specs.Best.{best_in, best_of}
use Rattle.logs.proofs.Stands.{image-low}
use Rattle.logs.proofs.Scan.{best-chosen, best-wrong}
use Rattle.inspect.specs.declared.history.KeyEntry.{KeyEntry}
use Rattle.inspect.specs.History.{is_from, entry_with, numbered}
use Rattle.inspect.specs.Numbers.{size_said, power_read, chunks_read}
use Rattle.inspect.specs.KeyEntries.{entries_from, entry_words, spelt, fitting, EntriesListed}
use Rattle.inspect.specs.Filling.{put, Filling, filling, more, pass, Leaves}

-- ## Entries written one behind the other

-- as the code stores the words of one
pub stored : (out : List ℕ) (at k : ℕ) (part words : List ℕ) → part ≡ words → length words ≡ k → at + length words ≤ length out → put_mid at k out part ≡ sets out at words
stored out at k part words e n l = put_mid-paste at k out part words (length words) e n refl ∙ rw (take-length words) (sym (sets-eq words out at l))

-- where the log ends or an entry is wrong, the pass leaves what it has
pub leaves-end : (p n : ℕ) (ws : List ℕ) (c : Cursor) (r : Result (Maybe F.Entry) WrongEntry) → Advanced p n ws c r → ((e : F.Entry) → r ≡ Ok (Some e) → ⊥) → (f : Filling → Entry → Filling) (s : Filling) → Leaves (fold_p f s (remaining p n ws c)) s.words s.count
leaves-end p n ws c (Ok None) told out f s = rw told (refl, refl)
leaves-end p n ws c (Ok (Some e)) told out f s = absurd (out e refl)
leaves-end p n ws c (Err wrong) told out f s = rw told tt

abbrev puts : Filling → List KeyEntry → Filling
puts s [] = s
puts s (e ∷ l) = puts (more s e) l

-- what the words become from the first unwritten one on
abbrev over : List KeyEntry → List ℕ → List ℕ
over l out = fitting (length out) l ++ drop (length (fitting (length out) l)) out

counted : (c : ℕ) → c < 0x1_0000_0000_0000_0000 → c % 0x1_0000_0000_0000_0000 ≡ c
counted c h = omega arith

puts-full : (l : List KeyEntry) (out : List ℕ) (c : ℕ) → length out / entry_words ≤ c → c + length l < 0x1_0000_0000_0000_0000 → puts (filling out c) l ≡ filling out (c + length l)
puts-full [] out c h b = let z : c + 0 ≡ c = omega arith in rw z
puts-full (e ∷ l) out c h b =
    let s : c + 1 + length l ≡ c + suc (length l) = omega arith in
    rw (le-leb (length out / entry_words) c h, counted (c + 1) (omega arith), ← s) (puts-full l out (c + 1) (omega arith) (omega arith))

over-short : (l : List KeyEntry) (out : List ℕ) → length out < entry_words → over l out ≡ out
over-short l out h = let z : length out / entry_words ≡ 0 = omega arith in rw z

over_none : (out : List ℕ) → over [] out ≡ out
over_none out = rw (take-nil {A = KeyEntry} (length out / entry_words))

over-more : (e : KeyEntry) (l : List KeyEntry) (out : List ℕ) → entry_words ≤ length out → over (e ∷ l) out ≡ spelt e ++ over l (drop entry_words out)
over-more e l out h =
    let r : length out / entry_words ≡ suc ((length out - entry_words) / entry_words) = omega arith in
    rw (r, length-drop entry_words out) (rest (fitting (length out - entry_words) l))
  where
    rest : (f : List ℕ) → (spelt e ++ f) ++ drop (length (spelt e ++ f)) out ≡ spelt e ++ (f ++ drop (length f) (drop entry_words out))
    rest f =
        let n : length (spelt e ++ f) ≡ entry_words + length f = length-append (spelt e) f in
        ap (λ (x : List ℕ). spelt e ++ (f ++ x)) (ap (λ (k : ℕ). drop k out) n ∙ sym (drop-drop (length f) entry_words out))

written : (e : KeyEntry) (before out : List ℕ) (c : ℕ) → length before ≡ entry_words * c → entry_words ≤ length out → put (before ++ out) c e ≡ (before ++ spelt e) ++ drop entry_words out
written e before out c b h =
    let n : length (before ++ out) ≡ entry_words * c + length out = length-append before out ∙ rw b in
    let room : c < length (before ++ out) / entry_words = rw n (omega arith) in
    let d : drop (entry_words * c + entry_words) (before ++ out) ≡ drop entry_words out = rw (← b) (drop-append-add before out entry_words) in
    rw (lt-leb (length (before ++ out) / entry_words) c room, sets-eq (spelt e) (before ++ out) (entry_words * c) (rw n (omega arith)), take_at before out (entry_words * c) b, d)

puts-over : (l : List KeyEntry) (before out : List ℕ) (c : ℕ) → length before ≡ entry_words * c → c + length l < 0x1_0000_0000_0000_0000
    → puts (filling (before ++ out) c) l ≡ filling (before ++ over l out) (c + length l)
puts-over [] before out c b h = let z : c + 0 ≡ c = omega arith in rw (z, over_none out)
puts-over (e ∷ l) before out c b h = by_cases (dec_lt (length out) entry_words) (λ q. short q) (λ q. long q (λ x y. puts-over l x y (c + 1)))
  where
    all : length (before ++ out) ≡ entry_words * c + length out
    all = length-append before out ∙ rw b

    short : length out < entry_words → puts (filling (before ++ out) c) (e ∷ l) ≡ filling (before ++ over (e ∷ l) out) (c + suc (length l))
    short q = rw (over-short (e ∷ l) out q) (puts-full (e ∷ l) (before ++ out) c (rw all (omega arith)) h)

    long : (length out < entry_words → ⊥)
        → ((x y : List ℕ) → length x ≡ entry_words * (c + 1) → c + 1 + length l < 0x1_0000_0000_0000_0000 → puts (filling (x ++ y) (c + 1)) l ≡ filling (x ++ over l y) (c + 1 + length l))
        → puts (filling (before ++ out) c) (e ∷ l) ≡ filling (before ++ over (e ∷ l) out) (c + suc (length l))
    long q rec =
        let n : length (before ++ spelt e) ≡ entry_words * (c + 1) = length-append before (spelt e) ∙ rw b (omega arith) in
        let t : c + 1 + length l ≡ c + suc (length l) = omega arith in
        rw (written e before out c b (omega arith), counted (c + 1) (omega arith), rec (before ++ spelt e) (drop entry_words out) n (omega arith), t, over-more e l out (omega arith), append_assoc)

-- ## The pass

abbrev marked : (best : ℕ) → Entry → KeyEntry
marked best e = entry_with (pick (eqb best e.at) 1 0) e

module _ (key from best : ℕ) where
  pass-puts : (es : List Entry) (s : Filling) → fold_e (pass key from best) s es ≡ puts s (map (marked best) (filter (is_from key from) es))
  pass-puts [] s = refl
  pass-puts (e ∷ es) s = go (is_from key from e) (pass-puts es)
    where
      go : (b : Bool) → ((t : Filling) → fold_e (pass key from best) t es ≡ puts t (map (marked best) (filter (is_from key from) es)))
          → fold_e (pass key from best) (pick b (more s (marked best e)) s) es ≡ puts s (map (marked best) (pick b (e ∷ filter (is_from key from) es) (filter (is_from key from) es)))
      go true rec = rec (more s (marked best e))
      go false rec = rec s

  pass-lists : (es : List Entry) (out out' : List ℕ) (count : ℕ) → length es < 0x1_0000_0000_0000_0000 → Leaves (fold_p (pass key from best) (filling out 0) (Entries es)) out' count
      → EntriesListed (map (marked best) (filter (is_from key from) es)) out out' count
  pass-lists es out out' count few h =
      let l = map (marked best) (filter (is_from key from) es) in
      let n : length l ≤ length es = rw (length-map (filter (is_from key from) es) (marked best)) (filter-length (is_from key from) es) in
      let q : fold_e (pass key from best) (filling out 0) es ≡ filling (over l out) (0 + length l) = pass-puts es (filling out 0) ∙ puts-over l [] out 0 (omega arith) (omega arith) in
      record { words = h.0 ∙ ap (λ (s : Filling). s.words) q; all = h.1 ∙ ap (λ (s : Filling). s.count) q ∙ omega arith }

-- ## The entry that the register goes by

rising-few : (lo hi : ℕ) (es : List Entry) → Rising lo hi es → lo + length es ≤ hi
rising-few lo hi [] r = let q : lo ≤ hi = r in omega arith
rising-few lo hi (e ∷ es) r = let q : lo ≤ e.at = r.0 in let m = rising-few (suc e.at) hi es r.1 in omega arith

none_left : (key from : ℕ) (es : List Entry) → ((f : Entry) → Mem f es → f.key ≡ key → ⊥) → filter (is_from key from) es ≡ []
none_left key from [] h = refl
none_left key from (e ∷ es) h = rw (ne_eqb e.key key (h e (inl refl))) (none_left key from es (λ f m. h f (inr m)))

-- no more words before a chunk than a number has values
base-few : (size : Size) (bytes : ℕ) → bytes < 0x1_0000_0000_0000_0000 → base (power_of size) (1 + (chunks_in (power_of size) bytes - 1)) < 0x1_0000_0000_0000_0000
unfolding base chunk_words chunks_in chunk_bytes
base-few S.Small bytes fits = omega arith
base-few S.Large bytes fits = omega arith

-- the size is the one that the header says
pub read_as : (size : Size) (bytes : ℕ) (ws : List ℕ) (key from : ℕ) (out out' : List ℕ) (count : ℕ) → size ≡ size_said ws
    → EntriesListed (entries_from (power_of size) (chunks_in (power_of size) bytes) ws key from) out out' count → EntriesListed (entries_from (power_read ws) (chunks_read bytes ws) ws key from) out out' count
read_as size bytes ws key from out out' count said = subst (λ (w : Size). EntriesListed (entries_from (power_of w) (chunks_in (power_of w) bytes) ws key from) out out' count) said

module _ (size : Size) (bytes : ℕ) (fits : bytes < 0x1_0000_0000_0000_0000) (ws : List ℕ) (key from : ℕ) (best : Best) (is : best ≡ best_in (power_of size) (chunks_in (power_of size) bytes) ws key) where
  abbrev image : Parsed
  image = image_entries (power_of size) (chunks_in (power_of size) bytes) ws

  few : (es : List Entry) → image ≡ Entries es → length es < 0x1_0000_0000_0000_0000
  few es h =
      let n = chunks_in (power_of size) bytes in
      let s = all_sound (power_of size) (power-low size) (power-high size) (n - 1) 1 ws es h in
      let r = rising-few (base (power_of size) 1) (base (power_of size) (1 + (n - 1))) es s.rising in
      let b = base-few size bytes fits in
      omega arith

  chosen-place : (es : List Entry) → image ≡ Entries es → best ≡ best_of (chosen key es)
  chosen-place es h = is ∙ best-chosen (power_of size) (power-low size) (power-high size) (chunks_in (power_of size) bytes) key ws es h

  -- the chosen entry stands behind chunk 0
  pub none-listed : (out : List ℕ) → best.place ≡ 0 → EntriesListed (entries_from (power_of size) (chunks_in (power_of size) bytes) ws key from) out out 0
  unfolding entries_from
  none-listed out z = go image refl
    where
      go : (q : Parsed) → image ≡ q → EntriesListed (map (numbered key (listed q)) (filter (is_from key from) (listed q))) out out 0
      go Wrong h = record { words = sym (over_none out); all = refl }
      go (Entries es) h = by (chosen key es) refl
        where
          by : (q : Option Entry) → chosen key es ≡ q → EntriesListed (map (numbered key es) (filter (is_from key from) es)) out out 0
          by none q = rw (none_left key from es (λ f. none_of key es f q)) (record { words = sym (over_none out); all = refl })
          by (some f) q =
              let c = chosen-place es h in
              let p : f.at ≡ best.place = sym (ap (λ (b : Best). b.place) (c ∙ ap best_of q)) in
              let l = image-low (power_of size) (power-low size) (power-high size) (chunks_in (power_of size) bytes) ws es h f (chosen_is key es f q).in_list in
              absurd (omega arith)

  pub all_listed : (out out' : List ℕ) (count : ℕ) → (best.place ≡ 0 → ⊥) → Leaves (fold_p (pass key from best.place) (filling out 0) image) out' count
      → EntriesListed (entries_from (power_of size) (chunks_in (power_of size) bytes) ws key from) out out' count
  unfolding entries_from
  all_listed out out' count n left = go image refl left
    where
      go : (q : Parsed) → image ≡ q → Leaves (fold_p (pass key from best.place) (filling out 0) q) out' count → EntriesListed (map (numbered key (listed q)) (filter (is_from key from) (listed q))) out out' count
      go Wrong h w = absurd (n (ap (λ (b : Best). b.place) (is ∙ best-wrong (power_of size) (chunks_in (power_of size) bytes) key ws h)))
      go (Entries es) h w = by (chosen key es) refl
        where
          by : (q : Option Entry) → chosen key es ≡ q → EntriesListed (map (numbered key es) (filter (is_from key from) es)) out out' count
          by none q = absurd (n (ap (λ (b : Best). b.place) (chosen-place es h ∙ ap best_of q)))
          by (some f) q =
              let mine = filter (is_from key from) es in
              let p : f.at ≡ best.place = sym (ap (λ (b : Best). b.place) (chosen-place es h ∙ ap best_of q)) in
              let same : map (numbered key es) mine ≡ map (marked best.place) mine = ap (λ (x : Option Entry). map (λ (e : Entry). entry_with (pick (is_at x e.at) 1 0) e) mine) q ∙ ap (λ (a : ℕ). map (marked a) mine) p in
              rw same (pass-lists key from best.place es out out' count (few es h) w)
