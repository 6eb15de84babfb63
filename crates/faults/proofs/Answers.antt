-- The fault is why an opening refuses, and what the code shows of it at each return.
-- Assumes nothing.
use mathlib.Core.Path.{◌≡◌, refl, sym, ◌∙◌, ap}
use mathlib.Core.Logic.{inl, inr}
use mathlib.Core.Bool.{Bool, true, false, not, cond}
use mathlib.Core.Option.{Option, none, some}
use mathlib.Core.List.{List, [], ◌∷◌}
use Prim.Native.Nat.{ℕ, zero, suc, ◌+◌, ◌≤◌, ◌<◌}
use native.Mathlib.Omega.{arith}
use lib.ListN.{length, get_or}
use Rattle.places.specs.Sizes.{power_of, size_by, power-low, power-high}
use Rattle.spec.specs.declared.Size.{Size}
use Rattle.spec.specs.Basics.{pick, both, negate, filter, first, all, up_from}
use Rattle.spec.specs.Words.{words_of}
use Rattle.spec.specs.Places.{is_power, length_allowed, size_allowed, any_allowed, chunks_in, max_chunks}
use Rattle.spec.specs.Header.{header_right, header_power}
use Rattle.spec.specs.Log.{Entry, Entries, image_entries}
use Rattle.spec.specs.Contents.{is_top, chosen}
use Rattle.spec.specs.Opening.{Refused, Accepted, opening, open_log, open_chunks, blocks_test, agree_test, apart_test, fits_table, fine, agree_with}
use Rattle.spec.specs.declared.Refusal.TheVariants as N
use Rattle.theory_base.proofs.Places.{length-allowed, size-allowed}
use Rattle.opening.proofs.Opens.{size-said}
use Rattle.faults.specs.declared.top.Spots.{Spots}
use Rattle.faults.specs.Spots.{Spotted}
use Rattle.faults.specs.Tops.{first_top, apart_from, at_one, place_of}
use Rattle.faults.specs.declared.Fault.{Fault}
use Rattle.faults.specs.declared.Fault.TheVariants as F
use Rattle.faults.specs.declared.Stop.{Stop}
use Rattle.std.specs.Prelude.{Option as Maybe, Some, None, find}
use Rattle.faults.specs.Reading.{Reading, Whole, Upto, read_image, stop_by, parsed_of}
use Rattle.std.specs.Prelude.{is_none as none_found}
use Rattle.directory.specs.Tests.{word_right, directory_fault}
use Rattle.directory.proofs.Tests.{directory-tested}
use Rattle.faults.specs.Faults.{power_word, header_fault, block_fault, log_fault, directory_or, chunks_fault, fault_of, spot_fault, Answers, Located}
use Rattle.faults.proofs.Left.{parsed-image}

-- ## The tests of the top entries, and the first that fails

abbrev is_none : Option Entry → Bool
is_none none = true
is_none (some e) = false

none-fails : (top test : Entry → Bool) (es : List Entry) → all (λ e. pick (top e) (test e) true) es ≡ is_none (first (filter (λ e. both (top e) (negate (test e))) es))
none-fails top test [] = refl
none-fails top test (e ∷ es) = go (top e) (test e) (none-fails top test es)
  where
    xs : List Entry
    xs = filter (λ e. both (top e) (negate (test e))) es

    go : (a b : Bool) → all (λ e. pick (top e) (test e) true) es ≡ is_none (first xs)
        → both (pick a b true) (all (λ e. pick (top e) (test e) true) es) ≡ is_none (first (pick (both a (negate b)) (e ∷ xs) xs))
    go true true h = h
    go true false h = refl
    go false b h = h

each_both : (top a b : Entry → Bool) (es : List Entry)
    → both (all (λ e. pick (top e) (a e) true) es) (all (λ e. pick (top e) (b e) true) es) ≡ all (λ e. pick (top e) (both (a e) (b e)) true) es
each_both top a b [] = refl
each_both top a b (e ∷ es) =
    rw (← each_both top a b es) (go (top e) (a e) (b e) (all (λ e. pick (top e) (a e) true) es) (all (λ e. pick (top e) (b e) true) es))
  where
    go : (t x y p q : Bool) → both (both (pick t x true) p) (both (pick t y true) q) ≡ both (pick t (both x y) true) (both p q)
    go true true true p q = refl
    go true true false true q = refl
    go true true false false q = refl
    go true false y p q = refl
    go false x y p q = refl

module _ (p n : ℕ) (ws : List ℕ) (es : List Entry) where
  blocks-first : blocks_test p n ws es ≡ is_none (first_top es (fine p n ws))
  blocks-first = none-fails (is_top es) (fine p n ws) es

  tops_first : both (agree_test es) (apart_test es) ≡ is_none (first_top es (at_one es))
  tops_first = each_both (is_top es) (λ e. agree_with e (chosen e.key es)) (apart_from es) es ∙ none-fails (is_top es) (at_one es) es

  -- 5 to 7
  tops-answer : (table : ℕ) → Answers (block_fault (first_top es (fine p n ws)) (first_top es (at_one es))) (open_log p n ws table (Entries es))
  tops-answer table = rw (blocks-first, tops_first) (go (first_top es (fine p n ws)) (first_top es (at_one es)) (fits_table table es))
    where
      go : (q r : Option Entry) (b : Bool)
          → Answers (block_fault q r) (pick (is_none q) (pick (is_none r) (pick b (Accepted es) (Refused N.TableFull)) (Refused N.TopsDisagree)) (Refused N.BlockWrong))
      go (some e) r b = refl
      go none (some e) b = refl
      go none none true = inr (es, refl)
      go none none false = inl refl

-- 2 to 7
chunks-answer : (p n table : ℕ) (ws : List ℕ) → Answers (chunks_fault p n ws) (open_chunks p n ws table)
chunks-answer p n table ws = rw (directory-tested p n ws) (go (header_right n ws) (directory_fault p n ws) (read_image p n ws) (parsed-image p n ws))
  where
    go : (a : Bool) (b : Maybe ℕ) (r : Reading) → parsed_of r ≡ image_entries p n ws
        → Answers (pick a (directory_or b (log_fault p n ws r)) (Some (F.Header (header_fault n ws))))
        (pick a (pick (none_found b) (open_log p n ws table (image_entries p n ws)) (Refused N.DirectoryWrong)) (Refused N.NotOpen))
    go false b r e = refl
    go true (Some c) r e = refl
    go true None (Whole es) e = rw (← e) (tops-answer p n ws es table)
    go true None (Upto es w) e = rw (← e)

answers : (bytes table : ℕ) (ws : List ℕ) → Answers (fault_of bytes ws) (opening bytes ws table)
unfolding fault_of opening
answers bytes table ws = go (any_allowed bytes) (size_allowed (header_power ws) bytes)
  where
    p : ℕ
    p = header_power ws

    go : (a b : Bool)
        → Answers (pick a (pick b (chunks_fault p (chunks_in p bytes) ws) (Some (F.Header (power_word (get_or ws 0 0))))) (Some F.Length)) (pick a (pick b (open_chunks p (chunks_in p bytes) ws table) (Refused N.NotOpen)) (Refused N.ImageLength))
    go true true = chunks-answer p (chunks_in p bytes) table ws
    go true false = refl
    go false b = refl

located : (bytes : List ℕ) (r : Maybe Fault) → r ≡ fault_of (length bytes) (words_of bytes) → Located bytes r
located bytes r e = record { place = e; refuses = λ table. rw e (answers (length bytes) table (words_of bytes)) }

-- ## What the code shows of the log

module _ (size : Size) (n : ℕ) (ws : List ℕ) where
  pub stops_at : (s : Stop) → Some s ≡ stop_by 0 (read_image (power_of size) n ws) → Some (F.Entry s.word s.before) ≡ log_fault (power_of size) n ws (read_image (power_of size) n ws)
  stops_at s h = go (read_image (power_of size) n ws) h
    where
      go : (r : Reading) → Some s ≡ stop_by 0 r → Some (F.Entry s.word s.before) ≡ log_fault (power_of size) n ws r
      go (Whole es) q = cc
      go (Upto es v) q =
          let e : ◌≡◌ {A = Stop} s (record { word = v; before = 0 + length es }) = cc in
          let z : 0 + length es ≡ length es = omega arith in
          rw (e, z)

  pub stops_nowhere : n ≤ max_chunks → (s : Spots) (r : Maybe Fault) → None ≡ stop_by 0 (read_image (power_of size) n ws) → Spotted size n ws s → r ≡ spot_fault s.block s.tops → r ≡ log_fault (power_of size) n ws (read_image (power_of size) n ws)
  stops_nowhere few s r h is e = go (read_image (power_of size) n ws) (parsed-image (power_of size) n ws) h
    where
      spots : (q t : Option Entry) → s.block ≡ place_of q → (s.block ≡ None → s.tops ≡ place_of t) → spot_fault s.block s.tops ≡ block_fault q t
      spots (some f) t b k = rw b
      spots none (some f) b k = rw (b, k b)
      spots none none b k = rw (b, k b)

      go : (q : Reading) → parsed_of q ≡ image_entries (power_of size) n ws → None ≡ stop_by 0 q → r ≡ log_fault (power_of size) n ws q
      go (Whole es) p x = e ∙ spots (first_top es (fine (power_of size) n ws)) (first_top es (at_one es)) (is.block-first es few (sym p)) (is.tops_first es few (sym p))
      go (Upto es v) p x = cc

-- ## What it shows of the image

module _ (bytes : List ℕ) (a : Bool) (is-a : a ≡ any_allowed (length bytes)) where
  pub shows-length : a ≡ false → Located bytes (Some F.Length)
  unfolding fault_of
  shows-length h = located bytes (Some F.Length) (sym (rw (← is-a, h)))

  module _ (yes-a : a ≡ true) (p : ℕ) (is-p : p ≡ header_power (words_of bytes)) (s : Bool) (is-s : s ≡ size_allowed p (length bytes)) where
    pub shows-power : (map w : ℕ) → s ≡ false → map ≡ get_or (words_of bytes) 0 0 → w ≡ power_word map → Located bytes (Some (F.Header w))
    unfolding fault_of
    shows-power map w h m e = located bytes (Some (F.Header w)) (ap (λ (x : ℕ). Some (F.Header x)) (e ∙ ap power_word m) ∙ sym (rw (← is-a, yes-a, ← is-p, ← is-s, h)))

    module _ (yes-s : s ≡ true) (size : Size) (is-size : size ≡ size_by p) (n : ℕ) (is-n : n ≡ chunks_in (power_of size) (length bytes)) where
      allowed : (is_power p ≡ true) × (length_allowed p (length bytes) ≡ true)
      allowed = size-allowed p (length bytes) (sym is-s ∙ yes-s)

      by-power : power_of size ≡ p
      by-power = rw is-size (size-said p allowed.0)

      pub few-chunks : n ≤ 504
      few-chunks = let l = length-allowed (power_of size) (power-low size) (power-high size) (length bytes) (rw by-power allowed.1) in let q = is-n in omega arith

      by-chunks : fault_of (length bytes) (words_of bytes) ≡ chunks_fault (power_of size) n (words_of bytes)
      unfolding fault_of
      by-chunks = rw (← is-a, yes-a, ← is-p, ← is-s, yes-s, is-n, by-power)

      module _ (b : Bool) (is_b : b ≡ header_right n (words_of bytes)) where
        pub shows-header : (w : ℕ) → b ≡ false → w ≡ header_fault n (words_of bytes) → Located bytes (Some (F.Header w))
        shows-header w h e = located bytes (Some (F.Header w)) (sym (by-chunks ∙ rw (← is_b, h, ← e)))

        module _ (yes-b : b ≡ true) where
          pub shows-directory : (c : ℕ) → Some c ≡ directory_fault (power_of size) n (words_of bytes) → Located bytes (Some (F.Directory c (8 + c)))
          shows-directory c is_c = located bytes (Some (F.Directory c (8 + c))) (sym (by-chunks ∙ rw (← is_b, yes-b, ← is_c)))

          pub shows-log : None ≡ directory_fault (power_of size) n (words_of bytes) → (r : Maybe Fault) → r ≡ log_fault (power_of size) n (words_of bytes) (read_image (power_of size) n (words_of bytes)) → Located bytes r
          shows-log is_c r e = located bytes r (e ∙ sym (by-chunks ∙ rw (← is_b, yes-b, ← is_c)))

-- a chunk with a wrong word is one of those that the directory has words for
find-below : (test : ℕ → Bool) (a n c : ℕ) → Some c ≡ find test (up_from a n) → c < a + n
find-below test a zero c q = cc
find-below test a (suc n) c q = go (test a) q (find-below test (suc a) n c)
  where
    go : (b : Bool) → Some c ≡ cond b (Some a) (find test (up_from (suc a) n)) → (Some c ≡ find test (up_from (suc a) n) → c < suc a + n) → c < a + suc n
    go true r rest = let e : c ≡ a = cc in omega arith
    go false r rest = let l = rest r in omega arith

pub directory-below : (p n : ℕ) (ws : List ℕ) (c : ℕ) → Some c ≡ directory_fault p n ws → c < 504
unfolding directory_fault
directory-below p n ws c q = find-below (λ x. not (word_right p n ws x)) 0 504 c q
