-- Parsed entries stand at rising places and are right: they can be copied.
-- Assumes nothing.
use mathlib.Core.Path.{◌≡◌, refl, sym, ◌∙◌, ap}
use mathlib.Core.Logic.{inl, inr}
use mathlib.Core.Bool.{Bool, true, false}
use mathlib.Core.List.{List, [], ◌∷◌, ◌++◌}
use Prim.Native.Nat.{ℕ, zero, suc, ◌+◌, ◌*◌, ◌/◌, ◌%◌, ◌^◌, ◌<◌, ◌≤◌}
use native.Mathlib.Nat.{add-zero}
use native.Mathlib.Omega.{arith}
use lib.Dec.{eqb, leb, ltb}
use lib.ListN.{length, get_or, take, drop, length-take, length-drop}
use lib.Seq.{slice, get_or-take, get_or-drop}
use borrow.Author.Tests.{eqb-false, leb-true}
use Rattle.spec.specs.declared.FirstWord.TheVariants as F
use Rattle.spec.specs.declared.LogStep.{LogStep}
use Rattle.spec.specs.declared.LogStep.TheVariants as S
use Rattle.spec.specs.Basics.{pick, filter}
use Rattle.spec.specs.Log.{parts_of, first_of_word, words_for, filled, step_of, Entry, Entries, after, parse, head_of, chunk_entries, all_from}
use Rattle.spec.specs.Places.{base, chunk_words}
use Rattle.spec.specs.Directory.{lines_of}
use Rattle.theory_log.specs.Batch.{Kind, put, block, delete, Right, AllRight}
use Rattle.theory_log.specs.Contents.{Mem, Apart}
use Rattle.theory_log.proofs.Parse.{found, cons_inv}
use Rattle.theory_log.proofs.Walk.{slice-long}
use Rattle.theory_log.proofs.Contents.{mem-r}
use Rattle.theory_log.proofs.Directory.{lines-most}
use Rattle.theory_base.proofs.Places.{base-next, lines-words}
use Rattle.theory_log.proofs.Image.{Joined, join-inv}

-- Places.
abbrev pub Rising : ℕ → ℕ → List Entry → Type 0
Rising lo hi [] = lo ≤ hi
Rising lo hi (e ∷ es) = (lo ≤ e.at) × Rising (suc e.at) hi es

pub rising-from : (lo lo' hi : ℕ) (es : List Entry) → lo' ≤ lo → Rising lo hi es → Rising lo' hi es
rising-from lo lo' hi [] h r = let q : lo ≤ hi = r in omega arith
rising-from lo lo' hi (e ∷ es) h r = let q : lo ≤ e.at = r.0 in (omega arith, r.1)

pub rising-to : (lo hi hi' : ℕ) (es : List Entry) → hi ≤ hi' → Rising lo hi es → Rising lo hi' es
rising-to lo hi hi' [] h r = let q : lo ≤ hi = r in omega arith
rising-to lo hi hi' (e ∷ es) h r = (r.0, rising-to (suc e.at) hi hi' es h r.1)

pub rising-append : (lo mid hi : ℕ) (xs ys : List Entry) → Rising lo mid xs → Rising mid hi ys → Rising lo hi (xs ++ ys)
rising-append lo mid hi [] ys r s = rising-from mid lo hi ys r s
rising-append lo mid hi (x ∷ xs) ys r s = (r.0, rising-append (suc x.at) mid hi xs ys r.1 s)

rising-end : (lo hi : ℕ) (es : List Entry) → Rising lo hi es → lo ≤ hi
rising-end lo hi [] r = r
rising-end lo hi (e ∷ es) r = let a : lo ≤ e.at = r.0 in let b = rising-end (suc e.at) hi es r.1 in omega arith

pub rising-in : (lo hi : ℕ) (es : List Entry) (f : Entry) → Rising lo hi es → Mem f es → (lo ≤ f.at) × (f.at < hi)
rising-in lo hi [] f r m = absurd m
rising-in lo hi (e ∷ es) f r (inl q) =
    let a : lo ≤ e.at = r.0 in
    let b : f.at ≡ e.at = ap (λ (y : Entry). y.at) q in
    let c = rising-end (suc e.at) hi es r.1 in
    (omega arith, omega arith)
rising-in lo hi (e ∷ es) f r (inr m) = let a : lo ≤ e.at = r.0 in let b = rising-in (suc e.at) hi es f r.1 m in let c = b.0 in (omega arith, b.1)

pub rising-apart : (lo hi : ℕ) (es : List Entry) → Rising lo hi es → Apart es
rising-apart lo hi [] r e f m n q = absurd m
rising-apart lo hi (x ∷ xs) r e f (inl a) (inl b) q = a ∙ sym b
rising-apart lo hi (x ∷ xs) r e f (inl a) (inr n) q =
    let b = (rising-in (suc x.at) hi xs f r.1 n).0 in let c : e.at ≡ x.at = ap (λ (y : Entry). y.at) a in absurd (omega arith)
rising-apart lo hi (x ∷ xs) r e f (inr m) (inl b) q =
    let a = (rising-in (suc x.at) hi xs e r.1 m).0 in let c : f.at ≡ x.at = ap (λ (y : Entry). y.at) b in absurd (omega arith)
rising-apart lo hi (x ∷ xs) r e f (inr m) (inr n) q = rising-apart (suc x.at) hi xs r.1 e f m n q

-- what stands before an entry in the list is another
pub rising-before : (lo hi : ℕ) (xs ys : List Entry) (e f : Entry) → Rising lo hi (xs ++ e ∷ ys) → Mem f xs → f.at < e.at
rising-before lo hi [] ys e f r m = absurd m
rising-before lo hi (x ∷ xs) ys e f r (inr m) = rising-before (suc x.at) hi xs ys e f r.1 m
rising-before lo hi (x ∷ xs) ys e f r (inl q) =
    let a = (rising-in (suc x.at) hi (xs ++ e ∷ ys) e r.1 (mem-r e xs (e ∷ ys) (inl refl))).0 in
    let b : f.at ≡ x.at = ap (λ (y : Entry). y.at) q in
    omega arith

-- Rightness of a first word.
fields-right : (op pl v x op' pl' v' x' : ℕ) → v < 1048576 → parts_of op pl v x ≡ F.Entry op' pl' v' x' → Kind op' pl' x' × (1 ≤ v') × (v' < 1048576)
fields-right op pl v x op' pl' v' x' small h = go (eqb v 0) (eqb-false v 0) (eqb op 1) (eqb pl 0) (eqb pl 1) (eqb op 2) (leb x 256) (leb-true x 256) (eqb x 0) h
  where
    Goal : Type 0
    Goal = Kind op' pl' x' × (1 ≤ v') × (v' < 1048576)

    made : (o p y : ℕ) → (v ≡ 0 → ⊥) → Kind o p y → F.Entry o p v y ≡ F.Entry op' pl' v' x' → Goal
    made o p y n k e =
        let a : op' ≡ o = cc in
        let b : pl' ≡ p = cc in
        let c : x' ≡ y = cc in
        let d : v' ≡ v = cc in
        (rw (a, b, c) k, omega arith, omega arith)

    wrong : F.Wrong ≡ F.Entry op' pl' v' x' → Goal
    wrong e = absurd (let z : ◌≡◌ {A = ℕ} 0 1 = cc in omega arith)

    go : (b0 : Bool) → (b0 ≡ false → v ≡ 0 → ⊥) → (b1 b2 b3 b4 b5 : Bool) → (b5 ≡ true → x ≤ 256) → (b6 : Bool)
        → pick b0 F.Wrong (pick b1 (pick b2 (pick b5 (F.Entry 1 0 v x) F.Wrong) (pick b3 (F.Entry 1 1 v x) F.Wrong)) (pick b4 (pick b2 (pick b6 (F.Entry 2 0 v 0) F.Wrong) F.Wrong) F.Wrong))
        ≡ F.Entry op' pl' v' x' → Goal
    go true n b1 b2 b3 b4 b5 l b6 e = wrong e
    go false n true true b3 b4 true l b6 e = made 1 0 x (n refl) (put (l refl)) e
    go false n true true b3 b4 false l b6 e = wrong e
    go false n true false true b4 b5 l b6 e = made 1 1 x (n refl) block e
    go false n true false false b4 b5 l b6 e = wrong e
    go false n false true b3 true b5 l true e = made 2 0 0 (n refl) delete e
    go false n false true b3 true b5 l false e = wrong e
    go false n false true b3 false b5 l b6 e = wrong e
    go false n false false b3 true b5 l b6 e = wrong e
    go false n false false b3 false b5 l b6 e = wrong e

pub first-inv : (w op pl v x : ℕ) → first_of_word w ≡ F.Entry op pl v x → Kind op pl x × (1 ≤ v) × (v < 1048576)
unfolding first_of_word
first-inv w op pl v x h = go (eqb w 0) h
  where
    go : (b : Bool) → pick b F.Padding (parts_of (w % 4) (w / 4 % 4) (w / 16 % 1048576) (w / 16777216)) ≡ F.Entry op pl v x → Kind op pl x × (1 ≤ v) × (v < 1048576)
    go true e = absurd (let z : ◌≡◌ {A = ℕ} 0 1 = cc in omega arith)
    go false e = fields-right (w % 4) (w / 4 % 4) (w / 16 % 1048576) (w / 16777216) op pl v x (omega arith) e

-- the fill is seen in the entry's own words
fill-own : (pl x w k n : ℕ) (ws : List ℕ) → words_for pl x ≡ n → (h : ℕ) → filled pl x (w ∷ ws) ≡ true → filled pl x (h ∷ k ∷ take n (drop 1 ws)) ≡ true
fill-own pl x w k n ws e h f = go (eqb pl 0) (eqb (x % 8) 0) (eqb-false (x % 8) 0) e f
  where
    go : (b d : Bool) → (d ≡ false → x % 8 ≡ 0 → ⊥) → pick b ((x + 7) / 8) 0 ≡ n
        → pick b (pick d true (ltb (get_or (w ∷ ws) (2 + x / 8) 0) (256 ^ (x % 8)))) true ≡ true
        → pick b (pick d true (ltb (get_or (h ∷ k ∷ take n (drop 1 ws)) (2 + x / 8) 0) (256 ^ (x % 8)))) true ≡ true
    go false d u m q = refl
    go true true u m q = refl
    go true false u m q =
        let o = u refl in
        let s : 2 + x / 8 ≡ suc (suc (x / 8)) = omega arith in
        let p : 1 + x / 8 ≡ suc (x / 8) = omega arith in
        let l : x / 8 < n = omega arith in
        let r : get_or (take n (drop 1 ws)) (x / 8) 0 ≡ get_or ws (suc (x / 8)) 0 = get_or-take n (drop 1 ws) (x / 8) 0 l ∙ get_or-drop 1 ws (x / 8) 0 ∙ rw p in
        rw (s, r) (rw s at q)

pub record Sound (lo hi : ℕ) (es : List Entry) : Type 0 where
  pub rising : Rising lo hi es
  pub right : AllRight es

pub parse-sound : (l : List ℕ) (skip at : ℕ) (es : List Entry) → parse l skip at ≡ Entries es → Sound at (at + length l) es
parse-sound [] skip at es h = let q : es ≡ [] = cc in rw q (record { rising = omega arith; right = tt })
parse-sound (w ∷ ws) (suc n) at es h = lower (parse-sound ws n (suc at) es h)
  where
    lower : Sound (suc at) (suc at + length ws) es → Sound at (at + suc (length ws)) es
    lower s = record { rising = rising-to at (suc at + length ws) (at + suc (length ws)) es (omega arith) (rising-from (suc at) at (suc at + length ws) es (omega arith) s.rising); right = s.right }
parse-sound (w ∷ ws) zero at es h = go (step_of (w ∷ ws)) refl h (λ n fs. parse-sound ws n (suc at) fs)
  where
    lower : (fs : List Entry) → Sound (suc at) (suc at + length ws) fs → Sound (suc at) (at + suc (length ws)) fs
    lower fs s = record { rising = rising-to (suc at) (suc at + length ws) (at + suc (length ws)) fs (omega arith) s.rising; right = s.right }

    go : (s : LogStep) → step_of (w ∷ ws) ≡ s → after s (w ∷ ws) at (λ n. parse ws n (suc at)) ≡ Entries es
        → ((n : ℕ) (fs : List Entry) → parse ws n (suc at) ≡ Entries fs → Sound (suc at) (suc at + length ws) fs) → Sound at (at + suc (length ws)) es
    go S.End q a rec = let e : es ≡ [] = cc in rw e (record { rising = omega arith; right = tt })
    go S.Wrong q a rec = absurd (let z : ◌≡◌ {A = ℕ} 0 1 = cc in omega arith)
    go S.Padding q a rec = let s = lower es (rec 0 es a) in record { rising = rising-from (suc at) at (at + suc (length ws)) es (omega arith) s.rising; right = s.right }
    go (S.Entry op pl v x k n) q a rec =
        let f = found op pl v x k n w ws q in
        let c = cons_inv _ (parse ws (suc n) (suc at)) es a in
        let s = lower c.0 (rec (suc n) c.0 c.1) in
        let i = first-inv w op pl v x f.first in
        let m : suc n ≤ length ws = f.fits in
        let e : Entry = record { op = op; placement = pl; version = v; field = x; key = k; value = take n (drop 1 ws); at = at } in
        let g : Right e = record {
          kind = i.0;
          low = i.1;
          high = i.2;
          words = rw (length-take, length-drop, f.words) (omega arith);
          fill = fill-own pl x w k n ws f.words (head_of e) f.fill;
        } in
        rw c.2 (record { rising = (omega arith, s.rising); right = (g, s.right) })

-- Right entries of a list.
pub right-in : (es : List Entry) (e : Entry) → AllRight es → Mem e es → Right e
right-in [] e r m = absurd m
right-in (x ∷ xs) e r (inl q) = rw q r.0
right-in (x ∷ xs) e r (inr m) = right-in xs e r.1 m

pub right-filter : (test : Entry → Bool) (es : List Entry) → AllRight es → AllRight (filter test es)
right-filter test [] r = tt
right-filter test (e ∷ es) r = go (test e) (right-filter test es r.1)
  where
    go : (b : Bool) → AllRight (filter test es) → AllRight (pick b (e ∷ filter test es) (filter test es))
    go true t = (r.0, t)
    go false t = t

pub right-append : (xs ys : List Entry) → AllRight xs → AllRight ys → AllRight (xs ++ ys)
right-append [] ys r s = s
right-append (x ∷ xs) ys r s = (r.0, right-append xs ys r.1 s)

-- The entries of a chunk and of all chunks.
module _ (p : ℕ) (low : 12 ≤ p) (high : p ≤ 16) where
  -- the entries of a chunk stand in it
  pub chunk-sound : (c : ℕ) (ws : List ℕ) (es : List Entry) → chunk_entries p ws c ≡ Entries es → Sound (base p c) (base p c + chunk_words p) es
  chunk-sound c ws es h =
      let a = parse-sound (slice (base p c) (base p c + 8 * lines_of p ws c) ws) 0 (base p c) es h in
      let l = lines-most p ws c in
      let w = lines-words p low high in
      let s = slice-long (base p c) (base p c + 8 * lines_of p ws c) ws in
      let top : base p c + length (slice (base p c) (base p c + 8 * lines_of p ws c) ws) ≤ base p c + chunk_words p = rw s (omega arith) in
      record { rising = rising-to (base p c) _ (base p c + chunk_words p) es top a.rising; right = a.right }

  pub all_sound : (n c : ℕ) (ws : List ℕ) (es : List Entry) → all_from p n c ws ≡ Entries es → Sound (base p c) (base p (c + n)) es
  all_sound zero c ws es q = let e : es ≡ [] = cc in rw (e, add-zero) (record { rising = omega arith; right = tt })
  all_sound (suc n) c ws es q = go (join-inv (chunk_entries p ws c) (all_from p n (suc c) ws) es q) (λ fs. all_sound n (suc c) ws fs)
    where
      go : Joined (chunk_entries p ws c) (all_from p n (suc c) ws) es → ((fs : List Entry) → all_from p n (suc c) ws ≡ Entries fs → Sound (base p (suc c)) (base p (suc c + n)) fs) → Sound (base p c) (base p (c + suc n)) es
      go j rec =
          let a : Sound (base p c) (base p (suc c)) j.left = rw (base-next p low high c) (chunk-sound c ws j.left j.is-left) in
          let b = rec j.right j.is_right in
          let t : suc c + n ≡ c + suc n = omega arith in
          rw (j.whole, ← t) (record {
            rising = rising-append (base p c) (base p (suc c)) (base p (suc c + n)) j.left j.right a.rising b.rising;
            right = right-append j.left j.right a.right b.right;
          })
