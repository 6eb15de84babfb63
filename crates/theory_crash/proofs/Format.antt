-- Formatting, action by action, from any medium.
-- Assumes nothing.
use Rattle.std.proofs.lemmas.Bool.Decides.{nat_tests}
use mathlib.Core.Path.{◌≡◌, refl, sym, ◌∙◌, ap, subst}
use mathlib.Core.Logic.{◌⊎◌, inl, inr}
use mathlib.Core.Bool.{Bool, true, false}
use mathlib.Core.List.{List, [], ◌∷◌, ◌++◌}
use Prim.Native.Nat.{ℕ, zero, suc, ◌+◌, ◌-◌, ◌*◌, ◌≤◌, ◌<◌}
use native.Mathlib.Omega.{arith}
use native.Mathlib.Decide.{ℕ_discrete}
use lib.Dec.{eqb}
use lib.ListN.{length, get_or, replicate, length-append}
use lib.Seq.{slice_empty, get_or-append-add}
use borrow.Author.Tests.{eqb-true}
use Rattle.spec.specs.Basics.{pick}
use Rattle.spec.specs.Places.{base_power, base, directory_word, max_chunks}
use Rattle.spec.specs.Medium.{Cell, fresh, values, added, marked, drained, Action, Store, Flush, Fence, step, Medium, apply, run, latest, cell_at, Mem as Among, CanCutTo}
use Rattle.spec.specs.Header.{fields_test, header_test, header_right, power_said, header_power, bit_of, power_bit, power_field, header_map, fields_of, sum, check_word, header_tail}
use Rattle.spec.specs.Directory.{role_of, lines_of, size_of}
use Rattle.spec.specs.Log.{Entries, all_from}
use Rattle.spec.specs.Contents.{contents_by, meaning}
use Rattle.spec.specs.Actions.{writes, flushes, first_word_of, fill_of, blank_of, format_of}
use Rattle.spec.specs.Basics.{Given}
use Rattle.std.specs.declared.option.Option.TheVariants as G
use Rattle.theory_base.proofs.Words as W
use Rattle.theory_base.proofs.Words.{run_cell, run_cell-append}
use Rattle.theory_base.proofs.Through.{Through, Each, through-kept, through-map, through-append}
use Rattle.theory_base.proofs.Places.{base-low}
use Rattle.theory_log.proofs.Contents.{chosen-best}
use Rattle.theory_log.proofs.Directory.{lines-is, size_is}
use Rattle.theory_crash.specs.Accepted.{Ok, Support}
use Rattle.theory_crash.specs.Rest.{AtRest, Flushed, Holds, Rests, empty, NoRegister, FormatCuts}
use Rattle.theory_crash.proofs.Directory.{role-zero, zero_word}
use Rattle.theory_crash.proofs.Opening.{refused-2}
use Rattle.theory_crash.proofs.Rest.{can-from, only, quiet-can}
use Rattle.theory_crash.proofs.Cells.{each_append, each-writes, each-flushes, length-writes, writes-hit, flushes-now, flushes-hit, fenced}

-- word 0 is 0: no register
pub no_register : (n : ℕ) (xs : List ℕ) → get_or xs 0 0 ≡ 0 → header_right n xs ≡ false
unfolding header_test fields_test
no_register n xs e = grind (arith, nat_tests)

-- THE HEADER that the writer makes is right, and says the power.
-- a map with the fields that it needs, the last two words being 0
made : (map n a b c : ℕ) → fields_test map a b c ≡ true → header_test n map n a b c 0 0 (check_word (map + (n + (a + (b + (c + (0 + (0 + 0)))))))) ≡ true
unfolding header_test
made map n a b c h = grind (arith, nat_tests)

-- by what is given, with a power's bit and field or with none
abbrev Made : (p bit x n : ℕ) → Given → Given → List ℕ → Type 0
Made p bit x n station centre rest =
    let map = 1 + bit_of 2 station + bit_of 4 centre + bit in
    let words = map ∷ (((n ∷ fields_of x station centre) ++ (check_word (map + (n + sum (fields_of x station centre))) ∷ [])) ++ rest) in
    (header_right n words ≡ true) × (header_power words ≡ p)

made-small : (n : ℕ) (station centre : Given) (rest : List ℕ) → Made base_power 0 0 n station centre rest
unfolding fields_test power_said
made-small n (G.Some s) (G.Some c) rest = (made 7 n s c 0 refl, refl)
made-small n (G.Some s) G.None rest = (made 3 n s 0 0 refl, refl)
made-small n G.None (G.Some c) rest = (made 5 n c 0 0 refl, refl)
made-small n G.None G.None rest = (made 1 n 0 0 0 refl, refl)

made_other : (p n : ℕ) (station centre : Given) (rest : List ℕ) → Made p 8 p n station centre rest
unfolding fields_test power_said
made_other p n (G.Some s) (G.Some c) rest = (made 15 n s c p refl, refl)
made_other p n (G.Some s) G.None rest = (made 11 n s p 0 refl, refl)
made_other p n G.None (G.Some c) rest = (made 13 n c p 0 refl, refl)
made_other p n G.None G.None rest = (made 9 n p 0 0 refl, refl)

pub header_made : (p n : ℕ) (station centre : Given) (rest : List ℕ)
    → (header_right n (header_map p station centre ∷ (header_tail p n station centre ++ rest)) ≡ true) × (header_power (header_map p station centre ∷ (header_tail p n station centre ++ rest)) ≡ p)
unfolding header_tail power_bit power_field
header_made p n station centre rest = go (eqb p base_power) refl
  where
    go : (b : Bool) → eqb p base_power ≡ b → Made p (pick b 0 8) (pick b 0 p) n station centre rest
    go true e = let q : p ≡ base_power = eqb-true p base_power e in rw q (made-small n station centre rest)
    go false e = made_other p n station centre rest

-- words 1 to 511 of a new register: the header's tail, and zeros
zeros-at : (i k : ℕ) → ◌≡◌ {A = ℕ} (get_or (replicate i 0) k 0) 0
zeros-at zero k = refl
zeros-at (suc i) zero = refl
zeros-at (suc i) (suc k) = zeros-at i k

tail-length : (p n : ℕ) (station centre : Given) → length (header_tail p n station centre) ≡ 7
unfolding header_tail
tail-length p n (G.Some s) (G.Some c) = refl
tail-length p n (G.Some s) G.None = refl
tail-length p n G.None (G.Some c) = refl
tail-length p n G.None G.None = refl

pub blank-length : (p n : ℕ) (station centre : Given) → length (blank_of (header_tail p n station centre)) ≡ 511
unfolding blank_of
blank-length p n station centre = length-append (header_tail p n station centre) (replicate max_chunks 0) ∙ rw (tail-length p n station centre)

blank-free : (p n : ℕ) (station centre : Given) (c : ℕ) → get_or (blank_of (header_tail p n station centre)) (7 + c) 0 ≡ 0
unfolding blank_of
blank-free p n station centre c =
    let e : 7 + c ≡ length (header_tail p n station centre) + c = rw (tail-length p n station centre) in
    rw (e, get_or-append-add (header_tail p n station centre) (replicate max_chunks 0) c 0) (zeros-at max_chunks c)

-- an empty register
all-empty : (p i c : ℕ) (xs : List ℕ) → ((d : ℕ) → c ≤ d → d < c + i → lines_of p xs d ≡ 0) → all_from p i c xs ≡ Entries []
all-empty p zero c xs h = refl
all-empty p (suc i) c xs h =
    let a : base p c + 8 * 0 ≡ base p c = omega arith in
    rw (h c (omega arith) (omega arith), a, slice_empty (base p c) xs) (all-empty p i (suc c) xs (λ d l u. h d (omega arith) (omega arith)))

pub empty-contents : (xs : List ℕ) (k : ℕ) → contents_by (meaning xs) [] k ≡ empty k
empty-contents xs k = rw (chosen-best k [])

module _ (p n : ℕ) (least : 4 ≤ n) (most : n ≤ max_chunks) where
  pub empty-ok : (xs : List ℕ) → length xs ≡ base p n → header_right n xs ≡ true → header_power xs ≡ p → ((c : ℕ) → c < max_chunks → get_or xs (directory_word c) 0 ≡ 0) → Ok p n xs []
  empty-ok xs long header power free = record {
    least = least;
    most = most;
    long = long;
    header = header;
    power = power;
    dirs = λ c l. rw (free c l) (zero_word p n c).0;
    parsed = all-empty p (n - 1) 1 xs (λ d a b. lines-is p xs d ∙ rw (free d (omega arith), role-zero p));
    blocks = λ e t. absurd t.0;
    agree = λ k e f c m q v. absurd m;
    apart = λ e f t. absurd t.0;
  }

-- The words of a new register: h, then `words`.
module _ (p : ℕ) (lo : 12 ≤ p) (hi : p ≤ 16) (n : ℕ) (least : 4 ≤ n) (most : n ≤ max_chunks) (m₀ : Medium) (long : length m₀ ≡ base p n) (h : ℕ) (words : List ℕ) (size : length words ≡ 511)
    (header : header_test n h (get_or words 0 0) (get_or words 1 0) (get_or words 2 0) (get_or words 3 0) (get_or words 4 0) (get_or words 5 0) (get_or words 6 0) ≡ true) (power : power_said h (get_or words 1 0) (get_or words 2 0) (get_or words 3 0) ≡ p)
    (free : (c : ℕ) → get_or words (7 + c) 0 ≡ 0) where
  new_ok : (xs : List ℕ) → length xs ≡ base p n → get_or xs 0 0 ≡ h → ((j : ℕ) → j < 511 → get_or xs (1 + j) 0 ≡ get_or words j 0) → Ok p n xs []
  new_ok xs l e w =
      empty-ok p n least most xs l (rw (e, w 0 (omega arith), w 1 (omega arith), w 2 (omega arith), w 3 (omega arith), w 4 (omega arith), w 5 (omega arith), w 6 (omega arith)) header) (rw (e, w 1 (omega arith), w 2 (omega arith), w 3 (omega arith)) power)
      (λ c q. let r : directory_word c ≡ 1 + (7 + c) = omega arith in rw r (w (7 + c) (omega arith) ∙ free c))

  abbrev B : Medium → Type 0
  B = FormatCuts p n m₀

  in_words : (m : Medium) → length m ≡ base p n → (k : ℕ) → k < 512 → k < length m
  in_words m l k u = let q = base-low p lo hi n (omega arith) in omega arith

  -- WRITING: word 0 is 0
  abbrev Zero : Medium → Type 0
  Zero m = (length m ≡ base p n) × (cell_at m 0 ≡ fresh 0)

  no_cut : (xs : List ℕ) → get_or xs 0 0 ≡ 0 → CanCutTo m₀ xs ⊎ (NoRegister xs ⊎ Holds p n 0 empty xs)
  no_cut xs e = inr (inl (refused-2 xs (λ n'. no_register n' xs e)))

  zero-cuts : (m : Medium) → Zero m → B m
  zero-cuts m (l, e) xs t = no_cut xs (W.can-fresh m xs t 0 0 (in_words m l 0 (omega arith)) e)

  abbrev Past : Action → Type 0
  Past (Store a v) = 1 ≤ a
  Past (Flush l) = Unit {0}
  Past Fence = Unit {0}

  zero-kept : (a : Action) (m : Medium) → Past a → Zero m → Zero (apply a m)
  zero-kept (Store a v) m q (l, e) = (W.length-apply (Store a v) m ∙ l, W.keeps-store a v m 0 (in_words m l 0 (omega arith)) (omega arith) ∙ e)
  zero-kept (Flush x) m q (l, e) = (W.length-apply (Flush x) m ∙ l, W.keeps-flush x m 0 0 (in_words m l 0 (omega arith)) e)
  zero-kept Fence m q (l, e) = (W.length-apply Fence m ∙ l, W.keeps-fence m 0 0 (in_words m l 0 (omega arith)) e)

  past-fill : Each Past (fill_of words 64)
  unfolding fill_of
  past-fill =
      each_append Past (writes 1 words) _ (each-writes Past 1 words (λ k v a b. a)) (each_append Past (flushes 0 64) (Fence ∷ []) (each-flushes Past 0 64 (λ x. tt)) (tt, tt))

  fill-cell : (k j : ℕ) (c : Cell) → k ≡ 1 + j → j < 511 → run_cell (fill_of words 64) k c ≡ fresh (get_or words j 0)
  unfolding fill_of
  fill-cell k j c e q =
      let w : Cell = run_cell (writes 1 words) k c in
      run_cell-append (writes 1 words) (flushes 0 64 ++ (Fence ∷ [])) k c ∙ run_cell-append (flushes 0 64) (Fence ∷ []) k w
      ∙ fenced (run_cell (flushes 0 64) k w) (get_or words j 0) (flushes-now 0 64 k w ∙ writes-hit 1 words k j c e (omega arith)) (flushes-hit 0 64 k w (omega arith) (omega arith))

  -- SWITCHING: word 0 is stored, flushed and fenced
  module _ (v : ℕ) (m : Medium) (l : length m ≡ base p n) where
    abbrev s1 : Medium
    s1 = apply (Store 0 v) m

    abbrev s2 : Medium
    s2 = apply (Flush 0) s1

    abbrev s3 : Medium
    s3 = apply Fence s2

    in-0 : 0 < length m
    in-0 = in_words m l 0 (omega arith)

    cell-1 : cell_at s1 0 ≡ added v (cell_at m 0)
    cell-1 = W.cell-apply (Store 0 v) m 0 in-0

    cell-3 : cell_at s3 0 ≡ fresh v
    cell-3 = W.cell-apply Fence s2 0 (rw (W.length-apply, W.length-apply) in-0) ∙ ap drained (W.cell-apply (Flush 0) s1 0 (rw W.length-apply in-0) ∙ ap marked cell-1)

    long-3 : length s3 ≡ base p n
    long-3 = rw (W.length-apply, W.length-apply, W.length-apply) l

    -- a cut of s1 has the new word 0, or is a cut of m
    new-or-old : (xs : List ℕ) → CanCutTo s1 xs → (get_or xs 0 0 ≡ v) ⊎ CanCutTo m xs
    new-or-old xs t = two (rw cell-1 at (W.can-at s1 xs t 0 (rw W.length-apply in-0)))
      where
        two : (get_or xs 0 0 ≡ v) ⊎ Among (get_or xs 0 0) (values (cell_at m 0)) → (get_or xs 0 0 ≡ v) ⊎ CanCutTo m xs
        two (inl e) = inl e
        two (inr q) = inr (can-from m xs (W.can-length s1 xs t ∙ W.length-apply (Store 0 v) m) (λ k u. each k u (ℕ_discrete k 0)))
          where
            each : (k : ℕ) → k < length m → Dec (k ≡ 0) → Among (get_or xs k 0) (values (cell_at m k))
            each k u (yes e) = subst (λ (i : ℕ). Among (get_or xs i 0) (values (cell_at m i))) (sym e) q
            each k u (no e) = rw (W.keeps-store 0 v m k u e) at (W.can-at s1 xs t k (rw W.length-apply u))

  first : Through B Zero (first_word_of 0) m₀
  first = ((λ xs t. inl t), (b1, ((λ xs t. b1 xs (quiet-can (Flush 0) (s1 0 m₀ long) xs tt t)), (long-3 0 m₀ long, cell-3 0 m₀ long))))
    where
      b1 : B (s1 0 m₀ long)
      b1 xs t = two (new-or-old 0 m₀ long xs t)
        where
          two : (get_or xs 0 0 ≡ 0) ⊎ CanCutTo m₀ xs → CanCutTo m₀ xs ⊎ (NoRegister xs ⊎ Holds p n 0 empty xs)
          two (inl e) = no_cut xs e
          two (inr c) = inl c

  fill : (m : Medium) → Zero m → Through B Zero (fill_of words 64) m
  fill m z = through-map Zero B Zero Zero (fill_of words 64) m zero-cuts (λ t. t) (through-kept Zero Zero Past zero-kept (λ m' t. t) (fill_of words 64) m past-fill z)

  -- the last store of word 0, the others being settled
  module _ (m : Medium) (z : Zero m) (w : (j : ℕ) → j < 511 → cell_at m (1 + j) ≡ fresh (get_or words j 0)) where
    abbrev m1 : Medium
    m1 = s1 h m z.0

    abbrev m2 : Medium
    m2 = s2 h m z.0

    abbrev m3 : Medium
    m3 = s3 h m z.0

    in-m : (j : ℕ) → j < 511 → 1 + j < length m
    in-m j q = in_words m z.0 (1 + j) (omega arith)

    w1 : (j : ℕ) → j < 511 → cell_at m1 (1 + j) ≡ fresh (get_or words j 0)
    w1 j q = W.keeps-store 0 h m (1 + j) (in-m j q) (omega arith) ∙ w j q

    w3 : (j : ℕ) → j < 511 → cell_at m3 (1 + j) ≡ fresh (get_or words j 0)
    w3 j q = W.keeps-fence m2 (1 + j) (get_or words j 0) (rw (W.length-apply, W.length-apply) (in-m j q)) (W.keeps-flush 0 m1 (1 + j) (get_or words j 0) (rw W.length-apply (in-m j q)) (w1 j q))

    c3 : cell_at m3 0 ≡ fresh h
    c3 = cell-3 h m z.0

    b1 : B m1
    b1 xs t = two (new-or-old h m z.0 xs t)
      where
        two : (get_or xs 0 0 ≡ h) ⊎ CanCutTo m xs → CanCutTo m₀ xs ⊎ (NoRegister xs ⊎ Holds p n 0 empty xs)
        two (inr c) = zero-cuts m z xs c
        two (inl e) =
            let l1 : length m1 ≡ base p n = W.length-apply (Store 0 h) m ∙ z.0 in
            inr (inr ([], new_ok xs (W.can-length m1 xs t ∙ l1) e (λ j q. W.can-fresh m1 xs t (1 + j) (get_or words j 0) (rw W.length-apply (in-m j q)) (w1 j q)), omega arith, empty-contents xs))

    word : (k x : ℕ) → cell_at m3 k ≡ fresh x → get_or (latest m3) k 0 ≡ x
    word k x e = W.get_or-latest m3 k ∙ ap (λ (c : Cell). c.now) e

    own : (k x : ℕ) → cell_at m3 k ≡ fresh x → cell_at m3 k ≡ fresh (get_or (latest m3) k 0)
    own k x e = e ∙ ap fresh (sym (word k x e))

    free-cell : (c : ℕ) → c < max_chunks → cell_at m3 (directory_word c) ≡ fresh 0
    free-cell c l = let e : directory_word c ≡ 1 + (7 + c) = omega arith in rw e (w3 (7 + c) (omega arith) ∙ ap fresh (free c))

    free-role : (c : ℕ) → c < max_chunks → role_of p (get_or (latest m3) (directory_word c) 0) ≡ role_of p 0
    free-role c l = ap (role_of p) (word (directory_word c) 0 (free-cell c l))

    low : (k : ℕ) → k < 512 → Dec (k ≡ 0) → cell_at m3 k ≡ fresh (get_or (latest m3) k 0)
    low k q (yes e) = rw e (own 0 h c3)
    low k q (no e) = let j : ℕ = k - 1 in let r : k ≡ 1 + j = omega (arith, e) in rw r (own (1 + j) (get_or words j 0) (w3 j (omega arith)))

    settled : (k : ℕ) → Support p n (latest m3) [] k → cell_at m3 k ≡ fresh (get_or (latest m3) k 0)
    settled k (inl s) = low k (omega arith) (ℕ_discrete k 0)
    settled k (inr (inl (c, a, b, u, e))) = low k (omega arith) (ℕ_discrete k 0)
    settled k (inr (inr (inl (c, a, b, u, v)))) =
        absurd (let y : lines_of p (latest m3) c ≡ 0 = lines-is p (latest m3) c ∙ rw (free-role c (omega arith), role-zero p) in omega arith)
    settled k (inr (inr (inr (e, t, need)))) = absurd t.0

    rest : AtRest p n (latest m3) [] m3
    rest = record {
      ok = new_ok (latest m3) (W.length-latest m3 ∙ long-3 h m z.0) (word 0 h c3) (λ j q. word (1 + j) (get_or words j 0) (w3 j q));
      now = refl;
      settled = settled;
      calm = λ c l y x t. let e = only x 0 (rw (free-cell c l) at t) in rw e (zero_word p n c);
    }

    no-data : Flushed p n m3
    no-data c a b s = absurd (let y : size_of p (latest m3) c ≡ 0 = size_is p (latest m3) c ∙ rw (free-role c (omega arith), role-zero p) in omega arith)

    last : Through B (Rests p n 0 empty) (first_word_of h) m
    last = (zero-cuts m z, (b1, ((λ xs t. b1 xs (quiet-can (Flush 0) m1 xs tt t)), ((latest m3, [], rest, omega arith, empty-contents (latest m3)), no-data))))

  new-through : Through B (Rests p n 0 empty) (first_word_of 0 ++ (fill_of words 64 ++ first_word_of h)) m₀
  new-through =
      through-append B (Rests p n 0 empty) (first_word_of 0) (fill_of words 64 ++ first_word_of h) m₀
      (through-map B B Zero (Through B (Rests p n 0 empty) (fill_of words 64 ++ first_word_of h)) (first_word_of 0) m₀ (λ m' t. t) after first)
    where
      m1 : Medium
      m1 = run (first_word_of 0) m₀

      cells : Zero m1 → (j : ℕ) → j < 511 → cell_at (run (fill_of words 64) m1) (1 + j) ≡ fresh (get_or words j 0)
      cells z j q = W.cell-run (fill_of words 64) m1 (1 + j) (in_words m1 z.0 (1 + j) (omega arith)) ∙ fill-cell (1 + j) j (cell_at m1 (1 + j)) refl q

      after : Zero m1 → Through B (Rests p n 0 empty) (fill_of words 64 ++ first_word_of h) m1
      after z =
          through-append B (Rests p n 0 empty) (fill_of words 64) (first_word_of h) m1
          (through-map B B Zero (Through B (Rests p n 0 empty) (first_word_of h)) (fill_of words 64) m1 (λ m' t. t) (λ z'. last (run (fill_of words 64) m1) z' (cells z)) (fill m1 z))

  -- each directory word is settled then, and 0
  fresh-cell : (c : ℕ) → c < max_chunks → cell_at (run (first_word_of 0 ++ (fill_of words 64 ++ first_word_of h)) m₀) (directory_word c) ≡ fresh 0
  fresh-cell c l =
      let k = directory_word c in
      let x = cell_at m₀ k in
      let y = run_cell (first_word_of 0) k x in
      let e : k ≡ 1 + (7 + c) = omega arith in
      let z : run_cell (fill_of words 64) k y ≡ fresh 0 = fill-cell k (7 + c) y e (omega arith) ∙ ap fresh (free c) in
      W.cell-run (first_word_of 0 ++ (fill_of words 64 ++ first_word_of h)) m₀ k (in_words m₀ long k (omega arith))
      ∙ run_cell-append (first_word_of 0) (fill_of words 64 ++ first_word_of h) k x
      ∙ run_cell-append (fill_of words 64) (first_word_of h) k y
      ∙ ap (run_cell (first_word_of h) k) z
      ∙ ap (λ (q : Cell). drained (step (Flush 0) k q)) (W.step-store-other 0 h k (fresh 0) (omega arith))
      ∙ ap drained (W.step-flush-fresh 0 k 0)

-- FORMATTING an image of n chunks, whatever the medium holds
pub format-through : (p : ℕ) → 12 ≤ p → p ≤ 16 → (n : ℕ) → 4 ≤ n → n ≤ max_chunks → (station centre : Given) (m₀ : Medium) → length m₀ ≡ base p n
    → Through (FormatCuts p n m₀) (Rests p n 0 empty) (format_of p n station centre) m₀
unfolding format_of blank_of
format-through p lo hi n least most station centre m₀ long =
    new-through p lo hi n least most m₀ long (header_map p station centre) (blank_of (header_tail p n station centre)) (blank-length p n station centre)
    (header_made p n station centre (replicate max_chunks 0)).0 (header_made p n station centre (replicate max_chunks 0)).1 (blank-free p n station centre)

pub format-count : (p n : ℕ) (station centre : Given) → length (format_of p n station centre) ≡ 582
unfolding format_of fill_of
format-count p n station centre = simp (length-append, length-writes, blank-length p n station centre)

-- what a formatting leaves in the directory
pub format-fresh : (p : ℕ) → 12 ≤ p → p ≤ 16 → (n : ℕ) → 4 ≤ n → n ≤ max_chunks → (station centre : Given) (m₀ : Medium) → length m₀ ≡ base p n
    → (c : ℕ) → c < max_chunks → cell_at (run (format_of p n station centre) m₀) (directory_word c) ≡ fresh 0
unfolding format_of blank_of
format-fresh p lo hi n least most station centre m₀ long =
    fresh-cell p lo hi n least most m₀ long (header_map p station centre) (blank_of (header_tail p n station centre)) (blank-length p n station centre)
    (header_made p n station centre (replicate max_chunks 0)).0 (header_made p n station centre (replicate max_chunks 0)).1 (blank-free p n station centre)
