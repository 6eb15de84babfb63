-- The begin of a cleaning, on words at rest with nothing staged: the record's actions are the plan's, and memory fits,
-- looking forward.
-- Assumes nothing.
use mathlib.Core.Path.{◌≡◌, refl, sym, ◌∙◌, ap, subst}
use mathlib.Core.Logic.{◌⊎◌, inl, inr}
use mathlib.Core.Bool.{true, false}
use mathlib.Core.Option.{some}
use mathlib.Core.List.{List, [], ◌∷◌, ◌++◌}
use Prim.Native.Nat.{ℕ, ◌+◌, ◌*◌, ◌%◌, ◌≤◌, ◌<◌, min}
use native.Mathlib.Omega.{arith}
use lib.ListN.{length, get_or, drop, length-append}
use Rattle.spec.specs.declared.Size.{Size}
use Rattle.places.specs.Sizes.{power_of, power-low, power-high}
use Rattle.spec.specs.Places.{chunk_words, chunk_lines, directory_word, chunks_in}
use Rattle.spec.specs.Medium.{Action}
use Rattle.spec.specs.Directory.{is_log, role_at, lines_of}
use Rattle.spec.specs.Log.{Entry, encode_all}
use Rattle.spec.specs.Contents.{kept_in}
use Rattle.spec.specs.Actions.{lines_for}
use Rattle.spec.specs.Reports.{run_words}
use Rattle.spec.specs.Plans.{Olds, old_of, log_place, append_to, has_live, free}
use Rattle.session.specs.declared.Control.{Control}
use Rattle.session.specs.declared.Setup.{Setup}
use Rattle.theory_crash.specs.Accepted.{Ok}
use Rattle.session.proofs.OpensRight.{opens-right}
use Rattle.theory_crash.proofs.Append.{padding}
use Rattle.buffer.specs.Bits.{has_bit}
use Rattle.buffer.proofs.Laws.{bits-agree}
use Rattle.buffer.specs.Areas.{second_room, bits_start}
use Rattle.session.specs.State.{size_in, power_in, source_in, kept_words, clean_actions, clean_olds}
use Rattle.session.specs.Fits.{NoneBelow, sole_mark, Built, RestFits, batch_place, CleanFits, Shown, Reads}
use Rattle.session.proofs.Kept.{plain-hint, reads-from}
use Rattle.theory_base.proofs.Places.{words-most, lines-words}
use Rattle.theory_base.proofs.Through.{Each}
use Rattle.theory_crash.proofs.Cells.{each_append}
use Rattle.theory_base.proofs.PutBack.{AreOf, AreLow}
use Rattle.theory_crash.proofs.View.{Shy, append-shy, seal-shy}
use Rattle.forward.proofs.Shown.{begin-ok, shown_by}
use borrow.Author.Tests.{ne_eqb}
use Rattle.session.proofs.Part.{chunk_in_lem, lines-in}
use Rattle.actions.specs.Nth.{nth}
use Rattle.forward.proofs.Freed.{lines-few, cleaned, stands_here, stands-copied}
use Rattle.theory_plans.proofs.LogPlace.{log-place}
use Rattle.volatile.proofs.Sums.{summed_same}
use Rattle.session.specs.Cleaned.{before, kept_of}
use Rattle.forward.proofs.Moving.{nothing-kept, moving}
use Rattle.session.specs.declared.Source.{Source}
use Rattle.forward.specs.Cleaning.{Ahead}
use Rattle.actions.specs.Record.{cleaning, copying_to, source_of}
use Rattle.forward.proofs.Cleaning.{below-ahead, place-small, clean-forward, clean-forward-none, clean-forward-data}
use Rattle.actions.proofs.Acting.{kept-length, copied_some, copied_none, clean-next}

-- the bits stay where the words behind the second area do
back-bits : (size : Size) (b b' : List ℕ) → ((i : ℕ) → bits_start ≤ i → get_or b' i 0 ≡ get_or b i 0) → (u : ℕ) → has_bit size b' u ≡ has_bit size b u
back-bits size b b' back = bits-agree size b b' (λ i l h. back i l)

-- entries that are some have words
some_words : (es : List Entry) → (es ≡ [] → ⊥) → length (encode_all es) ≡ 0 → ⊥
some_words [] h e = h refl
some_words (f ∷ fs) h e = let l = length-append f.value (encode_all fs) in absurd (omega arith)

-- as the code's words, they fit into a chunk
lines-kept : (size : Size) (words : ℕ) (ws : List ℕ) → words ≤ chunk_words (power_of size) → words ≡ length ws → lines_for (length ws) ≤ chunk_lines (power_of size)
lines-kept size words ws h e = let w = lines-words (power_of size) (power-low size) (power-high size) in omega arith

module _ (c : Control) (k : Setup) (b ws table : List ℕ) (r : RestFits (record { control = c; setup = k; buffer = b }) ws table []) (s : ℕ) (low : 1 ≤ s) (high : s < chunks_in (power_in k) k.image)
    (words entries : ℕ) (room : words ≤ chunk_words (power_in k)) (b' : List ℕ) (back : (i : ℕ) → bits_start ≤ i → get_or b' i 0 ≡ get_or b i 0) (g : Source) where
  abbrev es : List Entry
  es = r.entries

  abbrev kept : List Entry
  kept = kept_in (power_in k) s es

  abbrev f : Source
  f = source_of (size_in k) ws s words entries

  ok : Ok (power_in k) (chunks_in (power_in k) k.image) ws es
  ok = (opens-right (power_in k) k.image k.table ws es r.long r.accepted).0

  small : s ≤ 503
  small = let m = ok.most in omega arith

  source_is : source_in f ≡ s
  source_is = let h = small in omega arith

  -- with what is ahead, the record fits
  module _ (chunk old lines first least : ℕ) (in-chunks : chunk ≤ 503) (in_lines : lines ≤ chunk_lines (power_in k)) (fits : 8 * lines + words ≤ chunk_words (power_in k)) (counts : (words ≡ length (encode_all kept)) ⊎ (words ≡ 0)) (d z : ℕ) (below : NoneBelow (power_in k) (chunks_in (power_in k) k.image) ws first least) (under : first ≤ d) (plain : first < sole_mark) where
    abbrev k' : Setup
    k' = copying_to k chunk old lines first least g

    abbrev acts : List Action
    acts = clean_actions k' f b'

    pub begun_first : drop 0 acts ≡ nth acts 0 ∷ drop 1 acts
    begun_first = clean-next k' f b' 0 (omega arith)

    fits_by : (x : Action) (xs : List Action) → Ahead (size_in k) (power-low (size_in k)) (power-high (size_in k)) k.image k.table s (batch_place k') (lines_for words) z d ws (run_words (x ∷ xs) ws) es → CleanFits (cleaning c) k' f b' ws table (x ∷ xs)
    fits_by x xs a = record {
      xs = a.xs;
      mid = a.mid;
      ys = a.ys;
      as' = a.as';
      bs = a.bs;
      chunk = in-chunks;
      lines = in_lines;
      source = small;
      committed = lines-few (size_in k) ws s;
      room = let w = words-most (power_in k) (power-low (size_in k)) (power-high (size_in k)) in omega arith;
      moves = moving (size_in k) (power-low (size_in k)) (power-high (size_in k)) n s (batch_place k') (lines_for words) z ws vs es a.xs a.mid a.ys a.as' a.bs a.freed words chunk lines small in-chunks refl fits (keeps counts);
      accepted = a.accepted;
      long = r.long;
      lent = r.lent;
      cleaned = cleaned (size_in k) (power-low (size_in k)) (power-high (size_in k)) n s (batch_place k') (lines_for words) z ws vs es a.xs a.mid a.ys a.as' a.bs a.freed;
      here = stands_here (size_in k) (power-low (size_in k)) (power-high (size_in k)) n s (batch_place k') (lines_for words) z ws vs es a.xs a.mid a.ys a.as' a.bs a.freed;
      copied = stands-copied (size_in k) (power-low (size_in k)) (power-high (size_in k)) n s (batch_place k') (lines_for words) z ws vs es a.xs a.mid a.ys a.as' a.bs a.freed;
      built = record { indexed = rw a.freed.parts.whole at r.built.indexed; blocks = λ u. back-bits (size_in k) b b' back u ∙ (rw a.freed.parts.whole at r.built.blocks) u; sums = summed_same (size_in k) b b' (before a.xs a.mid a.ys) (λ i l. back i (omega arith)) (rw a.freed.parts.whole at r.built.sums) };
      hint = plain-hint (power_in k) n vs first least plain (below-ahead (size_in k) k.image k.table s (batch_place k') (lines_for words) z d ws vs es a first least under below);
    }
      where
        n : ℕ
        n = chunks_in (power_in k) k.image

        vs : List ℕ
        vs = run_words (x ∷ xs) ws

        keeps : (words ≡ length (encode_all kept)) ⊎ (words ≡ 0) → words ≡ length (encode_all (kept_of a.xs a.mid a.ys))
        keeps (inl e) = e ∙ ap (λ (l : List Entry). length (encode_all l)) (sym a.kept)
        keeps (inr e) = e ∙ sym (nothing-kept (size_in k) (power-low (size_in k)) (power-high (size_in k)) (chunks_in (power_in k) k.image) s (batch_place k') (lines_for words) z ws (run_words (x ∷ xs) ws) es a.xs a.mid a.ys a.as' a.bs a.freed (omega arith))

    fits_all : Ahead (size_in k) (power-low (size_in k)) (power-high (size_in k)) k.image k.table s (batch_place k') (lines_for words) z d ws (run_words acts ws) es → CleanFits (cleaning c) k' f b' ws table (nth acts 0 ∷ drop 1 acts)
    fits_all a = fits_by (nth acts 0) (drop 1 acts) (subst (λ (l : List Action). Ahead (size_in k) (power-low (size_in k)) (power-high (size_in k)) k.image k.table s (batch_place k') (lines_for words) z d ws (run_words l ws) es) begun_first a)

  -- WHAT LOOK-UP READS, by the actions
  built-then : Built (cleaning c) (size_in k) b' table es
  built-then = record { indexed = r.built.indexed; blocks = λ u. back-bits (size_in k) b b' back u ∙ r.built.blocks u; sums = summed_same (size_in k) b b' es (λ i l. back i (omega arith)) r.built.sums }

  reads-by : (chunk old lines first least : ℕ) (olds olds' : Olds) → olds' ≡ olds → (acts acts' : List Action) → acts' ≡ acts → AreOf ws olds → AreLow olds
      → Each (Shy (power_in k) (power-low (size_in k)) (power-high (size_in k)) (chunks_in (power_in k) k.image) ws es (begin-ok (size_in k) k.image k.table ws es r.accepted r.long) olds) acts
      → Reads (record { control = cleaning c; setup = copying_to k chunk old lines first least g; buffer = b' }) olds' acts' ws table
  reads-by chunk old lines first least olds olds' eo acts acts' ea of below shy =
      reads-from (record { control = cleaning c; setup = copying_to k chunk old lines first least g; buffer = b' }) olds' es acts' ws table (rw eo below) r.long
      (subst (λ (o : Olds). Shown (power_in k) k.image k.table o es acts' ws) (sym eo) (subst (λ (l : List Action). Shown (power_in k) k.image k.table olds es l ws) (sym ea)
      (shown_by (size_in k) k.image k.table ws es r.accepted r.long olds acts of shy))) built-then

  -- SOME COPIED, to chunk d
  module _ (log : is_log (role_at (power_in k) ws s) ≡ true) (some-kept : kept ≡ [] → ⊥) (written : kept_words words b' ≡ encode_all kept) (d : ℕ)
      (found : log_place (power_in k) (chunks_in (power_in k) k.image) ws (lines_for (length (encode_all kept))) s 1 ≡ some d) (first least : ℕ) (below : NoneBelow (power_in k) (chunks_in (power_in k) k.image) ws first least) (under : first ≤ d) (plain : first < sole_mark) where
    abbrev old : ℕ
    old = get_or ws (directory_word d) 0

    abbrev lines : ℕ
    lines = lines_of (power_in k) ws d

    abbrev k-copies : Setup
    k-copies = copying_to k d old lines first least g

    in-chunks : d ≤ 503
    in-chunks = place-small (size_in k) k.image k.table ws es r.accepted r.long s 0 low high d found

    counted : words ≡ length (encode_all kept)
    counted = (let w = words-most (power_in k) (power-low (size_in k)) (power-high (size_in k)) in let q : words ≡ min words second_room = omega arith in q) ∙ sym (kept-length words b') ∙ ap length written

    pub copies-acts : clean_actions k-copies f b' ≡ append_to (power_in k) ws (encode_all kept) d ++ free s ws
    unfolding clean_actions
    copies-acts =
        rw (copied_some k-copies words b' (λ e. some_words kept some-kept (sym counted ∙ e)), source_is, chunk_in_lem k-copies in-chunks, lines-in k-copies (lines-few (size_in k) ws d), written)

    -- there is space for them
    space : 8 * lines_of (power_in k) ws d + words ≤ chunk_words (power_in k)
    space =
        let p = (log-place (power_in k) (chunks_in (power_in k) k.image) ws (lines_for (length (encode_all kept))) s 1 d (lines-kept (size_in k) words (encode_all kept) room counted) found).0.fit in
        let q = counted in
        let w = lines-words (power_in k) (power-low (size_in k)) (power-high (size_in k)) in
        omega arith

    pub copies-fit : CleanFits (cleaning c) k-copies f b' ws table (nth (clean_actions k-copies f b') 0 ∷ drop 1 (clean_actions k-copies f b'))
    copies-fit =
        fits_all d old lines first least in-chunks (lines-few (size_in k) ws d) space (inl counted) d (padding kept) below under plain
        (rw (copies-acts, counted) (clean-forward (size_in k) k.image k.table ws es r.accepted r.long s (get_or ws (directory_word s) 0) low high log d old some-kept found))

    pub copies-olds : clean_olds k-copies f ≡ old_of ws d ∷ old_of ws s ∷ []
    copies-olds =
        let w = words-most (power_in k) (power-low (size_in k)) (power-high (size_in k)) in
        let z : min words second_room ≡ words = omega arith in
        rw (z, ne_eqb words 0 (λ e. some_words kept some-kept (sym counted ∙ e)), chunk_in_lem k-copies in-chunks, source_is)

    pub copies-reads : Reads (record { control = cleaning c; setup = k-copies; buffer = b' }) (clean_olds k-copies f) (clean_actions k-copies f b') ws table
    copies-reads =
        let olds : Olds = old_of ws d ∷ old_of ws s ∷ [] in
        let a = in-chunks in
        let o = small in
        let below : AreLow olds = (omega arith, (omega arith, tt)) in
        let p = (log-place (power_in k) (chunks_in (power_in k) k.image) ws (lines_for (length (encode_all kept))) s 1 d (lines-kept (size_in k) words (encode_all kept) room counted) found).0 in
        let e = begin-ok (size_in k) k.image k.table ws es r.accepted r.long in
        reads-by d old lines first least olds (clean_olds k-copies f) copies-olds (append_to (power_in k) ws (encode_all kept) d ++ free s ws) (clean_actions k-copies f b') copies-acts (refl, (refl, tt)) below
        (each_append (Shy (power_in k) (power-low (size_in k)) (power-high (size_in k)) (chunks_in (power_in k) k.image) ws es e olds) (append_to (power_in k) ws (encode_all kept) d) (free s ws)
        (append-shy (power_in k) (power-low (size_in k)) (power-high (size_in k)) (chunks_in (power_in k) k.image) ws es e olds below d old (encode_all kept) p (inl refl)) (seal-shy (power_in k) (power-low (size_in k)) (power-high (size_in k)) (chunks_in (power_in k) k.image) ws es e olds below s _ (inr (inl refl))))

  -- NOTHING COPIED
  module _ (none : words ≡ 0) (chunk old lines : ℕ) (in-chunks : chunk ≤ 503) (in_lines : lines ≤ chunk_lines (power_in k)) where
    abbrev k-none : Setup
    k-none = copying_to k chunk old lines (k.first % sole_mark) k.least g

    pub none-acts : clean_actions k-none f b' ≡ free s ws
    unfolding clean_actions
    none-acts = rw (copied_none k-none words b' none, source_is)

    pub none-olds : clean_olds k-none f ≡ old_of ws s ∷ []
    none-olds = rw (none, source_is)

    pub none_reads : Reads (record { control = cleaning c; setup = k-none; buffer = b' }) (clean_olds k-none f) (clean_actions k-none f b') ws table
    none_reads =
        let o = small in
        let below : AreLow (old_of ws s ∷ []) = (omega arith, tt) in
        reads-by chunk old lines (k.first % sole_mark) k.least (old_of ws s ∷ []) (clean_olds k-none f) none-olds (free s ws) (clean_actions k-none f b') none-acts (refl, tt) below
        (seal-shy (power_in k) (power-low (size_in k)) (power-high (size_in k)) (chunks_in (power_in k) k.image) ws es (begin-ok (size_in k) k.image k.table ws es r.accepted r.long) (old_of ws s ∷ []) below s _ (inl refl))

    freed-fits : Ahead (size_in k) (power-low (size_in k)) (power-high (size_in k)) k.image k.table s (batch_place k-none) 0 0 (k.first % sole_mark) ws (run_words (free s ws) ws) es
        → CleanFits (cleaning c) k-none f b' ws table (nth (clean_actions k-none f b') 0 ∷ drop 1 (clean_actions k-none f b'))
    freed-fits a = fits_all chunk old lines (k.first % sole_mark) k.least in-chunks in_lines (let w = lines-words (power_in k) (power-low (size_in k)) (power-high (size_in k)) in omega arith) (inr none) (k.first % sole_mark) 0 r.hint.below (omega arith) (omega arith) (rw (none-acts, none) a)

    -- a log chunk of which nothing is kept
    pub none-fits : is_log (role_at (power_in k) ws s) ≡ true → kept ≡ [] → CleanFits (cleaning c) k-none f b' ws table (nth (clean_actions k-none f b') 0 ∷ drop 1 (clean_actions k-none f b'))
    none-fits log e = freed-fits (clean-forward-none (size_in k) k.image k.table ws es r.accepted r.long s (get_or ws (directory_word s) 0) low high log (batch_place k-none) (k.first % sole_mark) e)

    -- a data chunk with no live block
    pub data-fits : is_log (role_at (power_in k) ws s) ≡ false → has_live (power_in k) es s ≡ false → CleanFits (cleaning c) k-none f b' ws table (nth (clean_actions k-none f b') 0 ∷ drop 1 (clean_actions k-none f b'))
    data-fits log e = freed-fits (clean-forward-data (size_in k) k.image k.table ws es r.accepted r.long s (get_or ws (directory_word s) 0) low high log (batch_place k-none) (k.first % sole_mark) e)
