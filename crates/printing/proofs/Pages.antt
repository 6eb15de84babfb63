-- The sheet of an accepted image is the pages of its present keys, and each of their rows has 36 columns.
-- Assumes nothing.
use mathlib.Core.Path.{◌≡◌, refl, sym, ◌∙◌, ap, ap₂}
use mathlib.Core.Logic.{by_cases, inl, inr}
use mathlib.Core.Bool.{Bool, true, false}
use Rattle.std.specs.Prelude.{Ok, Err}
use mathlib.Core.Option.{Option, none, some}
use mathlib.Core.List.{List, [], ◌∷◌, ◌++◌, append_assoc}
use Prim.Native.Nat.{ℕ, zero, suc, ◌+◌, ◌%◌, ◌<◌, ◌≤◌}
use native.Mathlib.Omega.{arith}
use native.Mathlib.Decide.{ℕ_discrete, dec_lt}
use lib.Dec.{eqb}
use lib.ListN.{length, take, drop, get_or, length-drop, take-append-drop}
use lib.Seq.{length-take-le}
use borrow.Author.Tests.{ne_eqb}
use Rattle.spec.specs.Basics.{pick, both}
use Rattle.spec.specs.Words.{words_of}
use Rattle.spec.specs.Medium.{Mem}
use Rattle.theory_base.proofs.Places.{power-bounds}
use Rattle.spec.specs.Header.{header_power}
use Rattle.spec.specs.Places.{unit_word, unit_chunk, chunks_in}
use Rattle.spec.specs.Directory.{size_of}
use Rattle.spec.specs.Log.{Entry}
use Rattle.spec.specs.Blocks.{block_right, pointed}
use Rattle.spec.specs.Contents.{chosen}
use Rattle.spec.specs.Opening.{Accepted, opening, fine}
use Rattle.spec.specs.declared.Refusal.TheVariants as N
use Rattle.words.specs.Image.{length-words_of}
use Rattle.theory_base.proofs.Places.{units-most}
use Rattle.theory_log.specs.Batch.{Kind, put, block, delete, Right}
use Rattle.theory_log.specs.Contents.{Top}
use Rattle.theory_log.proofs.Contents.{Chosen, chosen_is}
use Rattle.theory_crash.specs.Accepted.{Ok as Accepts}
use Rattle.theory_crash.proofs.Blocks.{block-fits}
use Rattle.theory_crash.proofs.Opening.{opens-ok}
use Rattle.logs.proofs.Stands.{image-right}
use Rattle.text.proofs.Decimals.{decimal-length, decimal-short}
use Rattle.lookup.specs.Listing.{Listed, present_key, present_keys, listed_or, listed_of, is_present}
use Rattle.lookup.proofs.Entries.{listed-present}
use Rattle.lookup.proofs.Slots.{keys-present}
use Rattle.printing.specs.declared.Layout.TheVariants as Y
use Rattle.printing.specs.Lines.{row_columns, page_rows, line_text, heading_text, page_text}
use Rattle.printing.proofs.Pieces.{row-length}
use Rattle.printing.specs.Print.{listed_text, lines_text, image_text}
use Rattle.printing.specs.Pages.{row_of, rows_text, page_of, Pages, One, More}
use Rattle.printing.proofs.Prints.{lines-append}

-- ## Within a page, and from page to page

none_within : (row : ℕ) → row < page_rows → page_text row ≡ []
none_within row l = go (ℕ_discrete row 0)
  where
    go : Dec (row ≡ 0) → page_text row ≡ []
    go (yes e) = rw e
    go (no e) = let m : row % page_rows ≡ row = omega arith in rw (ne_eqb row 0 e, m, ne_eqb row 0 e)

row_within : (row key : ℕ) (l : Listed) → row < page_rows → listed_text Y.Pages row key l ≡ row_of key l
row_within row key (Err n) h = refl
row_within row key (Ok l) h = ap (λ (x : List ℕ). x ++ line_text Y.Pages key l) (none_within row h)

same-break : (row : ℕ) → 1 ≤ row → page_text (page_rows + row) ≡ page_text row
same-break row h = let m : (page_rows + row) % page_rows ≡ row % page_rows = omega arith in rw (ne_eqb (page_rows + row) 0 (λ e. omega arith), ne_eqb row 0 (λ e. omega arith), m)

same_row : (row key : ℕ) (l : Listed) → 1 ≤ row → listed_text Y.Pages (page_rows + row) key l ≡ listed_text Y.Pages row key l
same_row row key (Err n) h = refl
same_row row key (Ok l) h = ap (λ (x : List ℕ). x ++ line_text Y.Pages key l) (same-break row h)

module _ (ws : List ℕ) (es : List Entry) where
  lines-within : (row : ℕ) (ks : List ℕ) → row + length ks ≤ page_rows → lines_text Y.Pages ws es row ks ≡ rows_text ws es ks
  lines-within row [] h = refl
  lines-within row (k ∷ ks) h = ap₂ (λ (x y : List ℕ). x ++ y) (row_within row k (listed_of ws es k) (omega arith)) (lines-within (suc row) ks (omega arith))

  same_lines : (row : ℕ) (ks : List ℕ) → 1 ≤ row → lines_text Y.Pages ws es (page_rows + row) ks ≡ lines_text Y.Pages ws es row ks
  same_lines row [] h = refl
  same_lines row (k ∷ ks) h =
      let e : suc (page_rows + row) ≡ page_rows + suc row = omega arith in
      ap₂ (λ (x y : List ℕ). x ++ y) (same_row row k (listed_of ws es k) h) (ap (λ (j : ℕ). lines_text Y.Pages ws es j ks) e ∙ same_lines (suc row) ks (omega arith))

  -- behind a full page, a key that is present begins the next, which is as the first page of the rest would be
  next-page : (k : ℕ) (ks : List ℕ) → is_present (listed_of ws es k) ≡ true → lines_text Y.Pages ws es page_rows (k ∷ ks) ≡ 12 ∷ (heading_text ++ lines_text Y.Pages ws es 0 (k ∷ ks))
  next-page k ks h = go (listed_of ws es k) h
    where
      go : (l : Listed) → is_present l ≡ true → listed_text Y.Pages page_rows k l ++ lines_text Y.Pages ws es (suc page_rows) ks ≡ 12 ∷ (heading_text ++ (listed_text Y.Pages 0 k l ++ lines_text Y.Pages ws es 1 ks))
      go (Err n) q = absurd (let z : ◌≡◌ {A = ℕ} 0 1 = cc in omega arith)
      go (Ok l) q =
          ap (λ (x : List ℕ). (12 ∷ (heading_text ++ line_text Y.Pages k l)) ++ x) (same_lines 1 ks (omega arith)) ∙ ap (λ (x : List ℕ). 12 ∷ x) (append_assoc heading_text (line_text Y.Pages k l) (lines_text Y.Pages ws es 1 ks))

  -- ## The pages

  abbrev AllPresent : List ℕ → Type 0
  AllPresent [] = Unit {0}
  AllPresent (k ∷ ks) = (is_present (listed_of ws es k) ≡ true) × AllPresent ks

  all_drop : (i : ℕ) (ks : List ℕ) → AllPresent ks → AllPresent (drop i ks)
  all_drop zero ks h = h
  all_drop (suc i) [] h = tt
  all_drop (suc i) (k ∷ ks) h = all_drop i ks h.1

  all-members : (ks : List ℕ) → ((k : ℕ) → Mem k ks → is_present (listed_of ws es k) ≡ true) → AllPresent ks
  all-members [] h = tt
  all-members (k ∷ ks) h = (h k (inl refl), all-members ks (λ j m. h j (inr m)))

  one : (ks : List ℕ) → length ks ≤ page_rows → Pages ws es ks (heading_text ++ lines_text Y.Pages ws es 0 ks)
  one ks l = One ws es ks _ l (ap (λ (x : List ℕ). heading_text ++ x) (lines-within 0 ks (omega arith)))

  more : (ks : List ℕ) → page_rows < length ks → (k : ℕ) (rest : List ℕ) → drop page_rows ks ≡ k ∷ rest → is_present (listed_of ws es k) ≡ true
      → Pages ws es (k ∷ rest) (heading_text ++ lines_text Y.Pages ws es 0 (k ∷ rest)) → Pages ws es ks (heading_text ++ lines_text Y.Pages ws es 0 ks)
  more ks m k rest e q behind = More ws es ks _ (take page_rows ks) k rest _ full cut behind text
    where
      full : length (take page_rows ks) ≡ page_rows
      full = length-take-le page_rows ks (omega arith)

      cut : ks ≡ take page_rows ks ++ k ∷ rest
      cut = sym (take-append-drop page_rows ks) ∙ ap (λ (x : List ℕ). take page_rows ks ++ x) e

      lines : lines_text Y.Pages ws es 0 ks ≡ rows_text ws es (take page_rows ks) ++ (12 ∷ (heading_text ++ lines_text Y.Pages ws es 0 (k ∷ rest)))
      lines =
          ap (lines_text Y.Pages ws es 0) cut ∙ lines-append Y.Pages ws es 0 (take page_rows ks) (k ∷ rest)
          ∙ ap₂ (λ (x y : List ℕ). x ++ y) (lines-within 0 (take page_rows ks) (omega (arith, full))) (ap (λ (i : ℕ). lines_text Y.Pages ws es i (k ∷ rest)) (let z : 0 + length (take page_rows ks) ≡ page_rows = omega (arith, full) in z) ∙ next-page k rest q)

      text : heading_text ++ lines_text Y.Pages ws es 0 ks ≡ page_of ws es (take page_rows ks) ++ (12 ∷ (heading_text ++ lines_text Y.Pages ws es 0 (k ∷ rest)))
      text = ap (λ (x : List ℕ). heading_text ++ x) lines ∙ sym (append_assoc heading_text (rows_text ws es (take page_rows ks)) (12 ∷ (heading_text ++ lines_text Y.Pages ws es 0 (k ∷ rest))))

  pages : (n : ℕ) (ks : List ℕ) → length ks ≤ n → AllPresent ks → Pages ws es ks (heading_text ++ lines_text Y.Pages ws es 0 ks)
  pages zero ks l h = one ks (omega arith)
  pages (suc n) ks l h = by_cases (dec_lt page_rows (length ks)) (λ m. go m (drop page_rows ks) refl (all_drop page_rows ks h) (pages n)) (λ m. one ks (omega arith))
    where
      go : page_rows < length ks → (rest : List ℕ) → drop page_rows ks ≡ rest → AllPresent rest
          → ((xs : List ℕ) → length xs ≤ n → AllPresent xs → Pages ws es xs (heading_text ++ lines_text Y.Pages ws es 0 xs)) → Pages ws es ks (heading_text ++ lines_text Y.Pages ws es 0 ks)
      go m [] e q again = absurd (let d = length-drop page_rows ks in let z : length (drop page_rows ks) ≡ 0 = ap length e in omega arith)
      go m (k ∷ rest) e q again = more ks m k rest e q.0 (again (k ∷ rest) (let d = length-drop page_rows ks in let z : length (drop page_rows ks) ≡ length (k ∷ rest) = ap length e in omega arith) q)

-- ## The columns

-- a value in the log has no more bytes than an entry holds
field-small : (op placement x : ℕ) → Kind op placement x → both (eqb op 1) (eqb placement 1) ≡ false → x ≤ 256
field-small op placement x (put l) h = l
field-small op placement x block h = absurd (let z : ◌≡◌ {A = ℕ} 0 1 = cc in omega arith)
field-small op placement x delete h = omega arith

abbrev version_in : Listed → ℕ
version_in (Ok l) = l.version
version_in (Err n) = 0

abbrev length_in : Listed → ℕ
length_in (Ok l) = l.length
length_in (Err n) = 0

module _ (p : ℕ) (lo : 12 ≤ p) (hi : p ≤ 16) (n : ℕ) (ws : List ℕ) (es : List Entry) (ok : Accepts p n ws es) where
  block-small : (e : Entry) → fine p n ws e ≡ true → pointed e ≡ true → get_or ws (unit_word e.field) 0 < 100000
  block-small e f h =
      let r : block_right p n ws e.field ≡ true = rw h at f in
      let b = block-fits p n e.field (size_of p ws (unit_chunk p e.field)) (get_or ws (unit_word e.field) 0) _ r in
      let m = units-most p lo hi in
      let x = b.room in
      let y = b.ends in
      omega arith

  -- what is listed of a key of an accepted image fits its columns
  listed_small : (k v m : ℕ) (b : Bool) → listed_of ws es k ≡ present_key v m b → (v < 10000000) × (m < 100000)
  unfolding listed_of
  listed_small k v m b h = by (chosen k es) refl h
    where
      by : (o : Option Entry) → chosen k es ≡ o → listed_or ws o ≡ present_key v m b → (v < 10000000) × (m < 100000)
      by none c q = absurd (let z : ◌≡◌ {A = ℕ} 0 1 = cc in omega arith)
      by (some e) c q = go (eqb e.op 1) (pointed e) refl q
        where
          is : Chosen k es e
          is = chosen_is k es e c

          right : Right e
          right = image-right p lo hi n ws es ok.parsed e is.in_list

          top : Top es e
          top = (is.in_list, λ f m s. is.above f m (s ∙ is.of-key))

          go : (b1 b2 : Bool) → pointed e ≡ b2 → pick b1 (present_key e.version (pick b2 (get_or ws (unit_word e.field) 0) e.field) b2) (Err N.KeyAbsent) ≡ present_key v m b
              → (v < 10000000) × (m < 100000)
          go true true u r =
              let x : e.version ≡ v = ap version_in r in
              let y : get_or ws (unit_word e.field) 0 ≡ m = ap length_in r in
              let w = right.high in
              let z = block-small e (ok.blocks e top) u in
              (omega arith, omega arith)
          go true false u r =
              let x : e.version ≡ v = ap version_in r in
              let y : e.field ≡ m = ap length_in r in
              let w = right.high in
              let z = field-small e.op e.placement e.field right.kind u in
              (omega arith, omega arith)
          go false b2 u r = absurd (let z : ◌≡◌ {A = ℕ} 0 1 = cc in omega arith)

  -- 36 columns and a newline
  row-columns : (k : ℕ) → is_present (listed_of ws es k) ≡ true → length (row_of k (listed_of ws es k)) ≡ suc row_columns
  row-columns k h = go (listed_of ws es k) h (listed_small k)
    where
      go : (l : Listed) → is_present l ≡ true → ((v m : ℕ) (b : Bool) → l ≡ present_key v m b → (v < 10000000) × (m < 100000)) → length (row_of k l) ≡ suc row_columns
      go (Err r) q small = absurd (let z : ◌≡◌ {A = ℕ} 0 1 = cc in omega arith)
      go (Ok l) q small =
          let s = small l.version l.length l.block refl in
          row-length k l (decimal-length k) (decimal-short 6 l.version s.0) (decimal-short 4 l.length s.1)

-- ## The sheet

module _ (bytes : List ℕ) (words : ℕ) (es : List Entry) (accepted : opening (length bytes) (words_of bytes) words ≡ Accepted es) where
  abbrev ws : List ℕ
  ws = words_of bytes

  listed : (k : ℕ) → Mem k (present_keys ws es) → is_present (listed_of ws es k) ≡ true
  listed k m = listed-present ws es k ∙ keys-present ws es k m

  -- THE SHEET IN PAGES
  pub sheet-pages : Pages ws es (present_keys ws es) (image_text Y.Pages bytes words)
  unfolding image_text
  sheet-pages = rw accepted (pages ws es (length (present_keys ws es)) (present_keys ws es) (omega arith) (all-members ws es (present_keys ws es) listed))

  -- EACH ROW has 36 columns and a newline
  pub sheet-columns : (k : ℕ) → Mem k (present_keys ws es) → length (row_of k (listed_of ws es k)) ≡ suc row_columns
  sheet-columns k m =
      let o = opens-ok (length bytes) words ws es (length-words_of bytes) accepted in
      let b = power-bounds (header_power ws) o.3 in
      row-columns (header_power ws) b.0 b.1 (chunks_in (header_power ws) (length bytes)) ws es o.0 k (listed k m)
