-- A loop that looks at the numbers from a on, one by one, and the list of those that a test takes.
-- Assumes nothing.
use mathlib.Core.Path.{◌≡◌, refl, ◌∙◌, ap}
use mathlib.Core.Logic.{by_cases}
use mathlib.Core.Bool.{Bool, true, false}
use mathlib.Core.Option.{some}
use mathlib.Core.List.{List, [], ◌∷◌, ◌++◌}
use Prim.Native.Nat.{ℕ, zero, suc, ◌+◌, ◌-◌, ◌≤◌, ◌<◌}
use native.Mathlib.Nat.{add-zero, zero-add}
use native.Mathlib.Omega.{arith}
use native.Mathlib.Decide.{dec_le, ℕ_discrete}
use lib.ListN.{length, length-append}
use Rattle.spec.specs.Basics.{pick, up_from, filter, first}
use Rattle.theory_base.proofs.Lists.{filter-append}

pub up_from-split : (a m k : ℕ) → up_from a (m + k) ≡ up_from a m ++ up_from (a + m) k
up_from-split a zero k = rw (zero-add k, add-zero a)
up_from-split a (suc m) k =
    let e : suc m + k ≡ suc (m + k) = omega arith in
    let f : a + suc m ≡ suc a + m = omega arith in
    rw (e, f) (ap (λ (l : List ℕ). a ∷ l) (up_from-split (suc a) m k))

pub empty : (xs : List ℕ) → length xs ≡ 0 → xs ≡ []
empty [] e = refl
empty (x ∷ xs) e = absurd (omega arith)

module _ (test : ℕ → Bool) (a : ℕ) where
  -- the numbers from a on and below n that the test takes
  abbrev pub taken : ℕ → List ℕ
  taken n = filter test (up_from a (n - a))

  pub taken_start : taken a ≡ []
  taken_start = let z : a - a ≡ 0 = omega arith in rw z

  pub taken-part : (c n : ℕ) → a ≤ c → c ≤ n → taken n ≡ taken c ++ filter test (up_from c (n - c))
  taken-part c n l u =
      let e : n - a ≡ c - a + (n - c) = omega arith in
      let f : a + (c - a) ≡ c = omega arith in
      ap (λ (k : ℕ). filter test (up_from a k)) e
      ∙ ap (filter test) (up_from-split a (c - a) (n - c))
      ∙ filter-append test (up_from a (c - a)) (up_from (a + (c - a)) (n - c))
      ∙ ap (λ (k : ℕ). taken c ++ filter test (up_from k (n - c))) f

  -- one turn of the loop
  pub taken_more : (c : ℕ) (b : Bool) → a ≤ c → test c ≡ b → taken (c + 1) ≡ taken c ++ pick b (c ∷ []) []
  taken_more c b l h =
      let z : c + 1 - c ≡ 1 = omega arith in
      taken-part c (c + 1) l (omega arith) ∙ ap (λ (k : ℕ). taken c ++ filter test (up_from c k)) z ∙ ap (λ (t : Bool). taken c ++ pick t (c ∷ []) []) h

  pub taken_none : (c : ℕ) → a ≤ c → test c ≡ false → taken c ≡ [] → taken (c + 1) ≡ []
  taken_none c l h e = taken_more c false l h ∙ rw e

  -- the first number that the test takes, where there was none before; and none, where there was none up to the end
  pub first-here : (c n : ℕ) → a ≤ c → c < n → taken c ≡ [] → test c ≡ true → first (taken n) ≡ some c
  first-here c n l u e h =
      let z : n - c ≡ suc (n - suc c) = omega arith in
      rw (taken-part c n l (omega arith), e, z, h)

  pub taken-fewer : (n c : ℕ) → a ≤ c → n ≤ c → length (taken n) ≤ length (taken c)
  taken-fewer n c l u =
      by_cases (dec_le a n)
      (λ h. rw (taken-part n c h u, length-append (taken n) (filter test (up_from n (c - n)))) (omega arith))
      (λ h. let z : n - a ≡ 0 = omega arith in rw z (omega arith))

  pub taken-end : (c n : ℕ) → a ≤ c → n ≤ c → taken c ≡ [] → taken n ≡ []
  taken-end c n l u e = let f = taken-fewer n c l u in empty (taken n) (let z = ap length e in omega arith)

  -- the same, said of each number before c
  pub taken-before : (c : ℕ) → ((d : ℕ) → d < c → a ≤ d → test d ≡ false) → taken c ≡ []
  taken-before c h = go (c - a) a (λ d l u. h d (omega arith) l)
    where
      go : (m b : ℕ) → ((d : ℕ) → b ≤ d → d < b + m → test d ≡ false) → filter test (up_from b m) ≡ []
      go zero b k = refl
      go (suc m) b k = rw (k b (omega arith) (omega arith)) (go m (suc b) (λ d l u. k d (omega arith) (omega arith)))

-- one more number that the test does not take
pub before_more : (test : ℕ → Bool) (a c : ℕ) → ((d : ℕ) → a ≤ d → d < c → test d ≡ false) → test c ≡ false → (d : ℕ) → a ≤ d → d < c + 1 → test d ≡ false
before_more test a c h e d l u = go (ℕ_discrete d c)
  where
    go : Dec (d ≡ c) → test d ≡ false
    go (yes q) = ap test q ∙ e
    go (no n) = h d l (omega arith)
