-- Where room comes from: a formatting leaves it, a roomy image that opening accepts or a cut leaves has it; and a
-- medium that stands with it is not stuck.
-- Assumes nothing.
use mathlib.Core.Path.{◌≡◌, refl, ap₂}
use mathlib.Core.Logic.{inl, inr}
use mathlib.Core.List.{List, [], ◌∷◌}
use Prim.Native.Nat.{ℕ, ◌≤◌, ◌<◌}
use native.Mathlib.Omega.{arith}
use lib.ListN.{length, get_or}
use Rattle.spec.specs.Places.{base, directory_word}
use Rattle.spec.specs.Medium.{Medium, run, latest, settled_at, CanCutTo}
use Rattle.spec.specs.Log.{Entry}
use Rattle.spec.specs.Contents.{Held}
use Rattle.spec.specs.Actions.{format_of}
use Rattle.spec.specs.Book.{Item}
use Rattle.spec.specs.Unstuck.{Roomy, Unstuck}
use Rattle.spec.specs.Basics.{Given}
use Rattle.theory_base.proofs.Words as W
use Rattle.theory_base.proofs.Places.{base-low}
use Rattle.theory_crash.proofs.Directory.{role-zero}
use Rattle.theory_crash.proofs.Format.{format-fresh}
use Rattle.theory_crash.proofs.Rest.{rest-long, rest-cut}
use Rattle.theory_crash.proofs.Room.{Says, says-fresh, IsFree, Room, can-latest, free-roomy}
use Rattle.theory_plans.specs.Standing.{Standing}
use Rattle.theory_plans.proofs.Unstuck.{roomy-unstuck}

-- a settled medium has one cut
can-settled : (xs ys : List ℕ) → CanCutTo (settled_at xs) ys → ys ≡ xs
can-settled [] [] t = refl
can-settled [] (y ∷ ys) t = absurd t
can-settled (x ∷ xs) [] t = absurd t
can-settled (x ∷ xs) (y ∷ ys) (inl e, t) = ap₂ (λ (a : ℕ) (l : List ℕ). a ∷ l) e (can-settled xs ys t)
can-settled (x ∷ xs) (y ∷ ys) (inr e, t) = absurd e

module _ (p : ℕ) (lo : 12 ≤ p) (hi : p ≤ 16) (n table : ℕ) (C : ℕ → Held) (book : List Item) (items : List Entry) where
  stand-long : (m : Medium) → Standing p n table C book items m → 512 ≤ length m
  stand-long m s =
      let a = rest-long p lo hi n s.words s.entries m s.rest in
      let l = s.rest.ok.least in
      let b = base-low p lo hi n (omega arith) in
      omega arith

  -- NOT STUCK, as the calls read it
  pub stand-unstuck : (m : Medium) → Standing p n table C book items m → Room p n m → Unstuck p n (latest m)
  stand-unstuck m s room =
      let r : Roomy p n (latest m) = room.1 (latest m) (can-latest m) in
      rw s.rest.now (roomy-unstuck p lo hi n s.words s.entries s.rest.ok (rw s.rest.now at r))

  -- A SETTLED IMAGE that is roomy
  pub settled-room : (xs : List ℕ) → Standing p n table C book items (settled_at xs) → Roomy p n xs → Room p n (settled_at xs)
  settled-room xs s r = (
    (λ c low high f.
        let most = s.rest.ok.most in
        let long = stand-long (settled_at xs) s in
        says-fresh (IsFree p) c (settled_at xs) (get_or xs (directory_word c) 0) (omega arith) (W.cell-settled xs (directory_word c)) (rw (W.latest-settled xs) at f)),
    λ ys t. rw (can-settled xs ys t) r,
  )

  -- A FORMATTING at its end
  pub format-room : (station centre : Given) (m : Medium) → length m ≡ base p n → Standing p n table C book items (run (format_of p n station centre) m) → Room p n (run (format_of p n station centre) m)
  format-room station centre m size s = ((λ c low high f. free c low high), free-roomy p lo hi n 1 (omega arith) (let l = s.rest.ok.least in omega arith) m' (λ xs t. (s.entries, (rest-cut p lo hi n s.words s.entries m' s.rest xs t).0)) (free 1 (omega arith) (let l = s.rest.ok.least in omega arith)))
    where
      m' : Medium
      m' = run (format_of p n station centre) m

      free : (c : ℕ) → 1 ≤ c → c < n → Says (IsFree p) c m'
      free c low high =
          let most = s.rest.ok.most in
          let long = stand-long m' s in
          says-fresh (IsFree p) c m' 0 (omega arith) (format-fresh p lo hi n s.rest.ok.least s.rest.ok.most station centre m size c (omega arith)) (rw (role-zero p) refl)
