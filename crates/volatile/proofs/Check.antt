-- The laws of the second pass: the tests of the top entries after no entry, after one more, and at the end.
-- Assumes nothing.
use Rattle.std.proofs.Common.{◌≡◌, ℕ, suc, ◌<◌, ◌≤◌, Bool, true, false, eqb, List, [], ◌∷◌, ◌++◌, sym, refl, ap, ◌∙◌, arith, ltb-true}
use mathlib.Core.Option.{some}
use Rattle.spec.specs.declared.Size.{Size}
use Rattle.spec.specs.declared.Size.TheVariants as S
use Rattle.spec.specs.Basics.{pick, both, all, is_in}
use Rattle.spec.specs.Log.{Entry, moved}
use Rattle.spec.specs.Places.{max_chunks, chunk_units, first_unit, unit_chunk}
use Rattle.spec.specs.Blocks.{pointed, start_tests, length_tests, block_test, block_right}
use Rattle.spec.specs.Contents.{is_top, highest, chosen, agree, live_blocks}
use Rattle.spec.specs.Opening.{fine, blocks_test, agree_with, agree_test, apart_test}
use Rattle.theory_base.proofs.Lists.{not-both, every_true, pick-e}
use Rattle.theory_base.proofs.Places.{base-next, base-rises, units-words, units-base, unit-in, unit-split}
use Rattle.theory_log.specs.Batch.{AllRight}
use Rattle.theory_log.specs.Contents.{Mem, Apart}
use Rattle.theory_log.proofs.Contents.{chosen_is}
use Rattle.theory_log.proofs.Tops.{all_in, top-highest, chosen-top, top-is}
use Rattle.theory_log.proofs.Agree.{same-agrees, test-agree}
use Rattle.places.specs.Sizes.{power_of, power-low, power-high, unit_count}
use Rattle.volatile.specs.Check.{Marks, CheckInv}
use Rattle.volatile.proofs.Marks.{marks-start, marks-skip, marks-apart, marks-live}

-- A test of each entry, with one more entry.
both-assoc : (a b c : Bool) → both (both a b) c ≡ both a (both b c)
both-assoc true b c = refl
both-assoc false b c = refl

both-comm : (a b : Bool) → both a b ≡ both b a
both-comm true true = refl
both-comm true false = refl
both-comm false true = refl
both-comm false false = refl

pub all-last : (test : Entry → Bool) (xs : List Entry) (e : Entry) → all test (xs ++ e ∷ []) ≡ both (all test xs) (test e)
all-last test [] e = both-comm (test e) true
all-last test (x ∷ xs) e = ap (both (test x)) (all-last test xs e) ∙ sym (both-assoc (test x) (all test xs) (test e))

-- What the tests of an entry are.

-- it is a top entry if its version is that of the chosen one of its key
pub top-test : (es : List Entry) (e f : Entry) → chosen e.key es ≡ some f → is_top es e ≡ eqb e.version f.version
top-test es e f c = ap (eqb e.version) (sym (top-highest es f (chosen-top e.key es f c) ∙ ap (λ (k : ℕ). highest k es) (chosen_is e.key es f c).of-key))

-- the chosen entry agrees with itself, another has to be compared with it
pub agreed-own : (es : List Entry) (e f : Entry) → Apart es → Mem e es → chosen e.key es ≡ some f → f.at ≡ e.at → agree_with e (chosen e.key es) ≡ true
agreed-own es e f a m c q = rw c (same-agrees e f (ap (moved 0) (sym (a f e (chosen_is e.key es f c).in_list m q))))

pub agreed-other : (es : List Entry) (e f : Entry) → chosen e.key es ≡ some f → agree_with e (chosen e.key es) ≡ agree e f
agreed-other es e f c = rw c

-- one wrong block is enough
pub block-wrong : (p n : ℕ) (ws : List ℕ) (es : List Entry) (e : Entry) → Mem e es → is_top es e ≡ true → fine p n ws e ≡ false → blocks_test p n ws es ≡ false
block-wrong p n ws es e m t h = go (blocks_test p n ws es) refl
  where
    go : (b : Bool) → blocks_test p n ws es ≡ b → b ≡ false
    go false q = refl
    go true q = absurd (not-both (fine p n ws e) (pick-e (is_top es e) (fine p n ws e) (all_in _ es q e m) t) h)

-- a right block's unit is one of the image's
block-chunk : (p n u s len last : ℕ) → block_test p n u s len last ≡ true → unit_chunk p u < n
unfolding block_test
block-chunk p n u s len last h = ltb-true (unit_chunk p u) n (every_true (start_tests p n u s ++ length_tests s len last) h).1.0

pub block-unit : (p n : ℕ) (ws : List ℕ) (e : Entry) → 12 ≤ p → p ≤ 16 → fine p n ws e ≡ true → pointed e ≡ true → e.field < first_unit p n
block-unit p n ws e low high h points =
    let u = e.field in
    let c = unit_chunk p u in
    let below : c < n = block-chunk p n u _ _ _ (pick-e (pointed e) (block_right p n ws u) h points) in
    let a = unit-split p low high u in
    let b = unit-in p low high u in
    let d = base-rises p low high (suc c) n below in
    omega (arith, base-next p low high c, units-words p low high, units-base p low high c, units-base p low high n)

units-few : (size : Size) (n u : ℕ) → n ≤ max_chunks → u < first_unit (power_of size) n → u < unit_count size
unfolding first_unit chunk_units
units-few S.Small n u h l = omega arith
units-few S.Large n u h l = omega arith

-- which has a bit
pub block-bit : (size : Size) → (n : ℕ) (ws : List ℕ) (e : Entry) → n ≤ max_chunks → fine (power_of size) n ws e ≡ true → pointed e ≡ true → e.field < unit_count size
block-bit size n ws e most h points = let a = block-unit (power_of size) n ws e (power-low size) (power-high size) h points in units-few size n e.field most a

-- ## No entry

pub check-start : (p n : ℕ) (ws : List ℕ) (es : List Entry) (has : ℕ → Bool) → ((u : ℕ) → has u ≡ false) → CheckInv p n ws es [] has true true true
check-start p n ws es has z = record { right = refl; agreed = refl; marks = marks-start es has z }

-- ## One more entry

module _ (p n : ℕ) (ws : List ℕ) (es xs : List Entry) (e : Entry) (has : ℕ → Bool) (blocks agreeing apart : Bool) (inv : CheckInv p n ws es xs has blocks agreeing apart) where
  -- one that is no top entry
  pub check-skip : is_top es e ≡ false → CheckInv p n ws es (xs ++ e ∷ []) has blocks agreeing apart
  check-skip t = record {
    right = inv.right ∙ kept (fine p n ws);
    agreed = inv.agreed ∙ kept (λ f. agree_with f (chosen f.key es));
    marks = marks-skip es xs e has apart inv.marks (λ c. absurd (not-both (is_top es e) (top-is es e (chosen-top e.key es e c)) t));
  }
    where
      kept : (test : Entry → Bool) → all (λ f. pick (is_top es f) (test f) true) xs ≡ all (λ f. pick (is_top es f) (test f) true) (xs ++ e ∷ [])
      kept test = sym (all-last (λ f. pick (is_top es f) (test f) true) xs e ∙ rw t (both-comm _ true))

  -- a top entry, whose marks the laws of marks give
  pub check-top : (has' : ℕ → Bool) (blocks' agreeing' apart' : Bool) → is_top es e ≡ true → blocks' ≡ both blocks (fine p n ws e) → agreeing' ≡ both agreeing (agree_with e (chosen e.key es))
      → Marks es (xs ++ e ∷ []) has' apart' → CheckInv p n ws es (xs ++ e ∷ []) has' blocks' agreeing' apart'
  check-top has' blocks' agreeing' apart' t b a m = record {
    right = b ∙ ap (λ (x : Bool). both x (fine p n ws e)) inv.right ∙ more (fine p n ws);
    agreed = a ∙ ap (λ (x : Bool). both x (agree_with e (chosen e.key es))) inv.agreed ∙ more (λ f. agree_with f (chosen f.key es));
    marks = m;
  }
    where
      more : (test : Entry → Bool) → both (all (λ f. pick (is_top es f) (test f) true) xs) (test e) ≡ all (λ f. pick (is_top es f) (test f) true) (xs ++ e ∷ [])
      more test = sym (all-last (λ f. pick (is_top es f) (test f) true) xs e ∙ rw t)

-- ## The end

module _ (p n : ℕ) (ws : List ℕ) (es : List Entry) (right : AllRight es) (has : ℕ → Bool) (blocks agreeing apart : Bool) (inv : CheckInv p n ws es es has blocks agreeing apart) where
  pub check-blocks : blocks ≡ blocks_test p n ws es
  check-blocks = inv.right

  -- where the top entries disagree nothing more is asked of the blocks
  pub check-tops : both agreeing apart ≡ both (agree_test es) (apart_test es)
  check-tops = go agreeing inv.agreed
    where
      go : (b : Bool) → b ≡ agree_test es → both b apart ≡ both (agree_test es) (apart_test es)
      go true q = rw (← q) (marks-apart es (test-agree es right (sym q)) has apart inv.marks)
      go false q = rw (← q)

  pub check-live : agreeing ≡ true → (u : ℕ) → has u ≡ is_in u (live_blocks es)
  check-live t = marks-live es (test-agree es right (sym inv.agreed ∙ t)) has apart inv.marks
