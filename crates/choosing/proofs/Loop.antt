-- The loop over the chunks: before it, after one more chunk, and at its end.
-- Assumes nothing.
use mathlib.Core.Path.{◌≡◌, refl, sym, ◌∙◌, ap}
use mathlib.Core.Logic.{◌⊎◌, inl, inr}
use mathlib.Core.Bool.{Bool, true, false}
use mathlib.Core.Option as maybe
use mathlib.Core.Option.{none}
use Rattle.std.specs.Prelude.{Option, Some, None}
use Rattle.std.proofs.lemmas.Option.{none-some}
use mathlib.Core.List.{List, [], ◌∷◌, ◌++◌}
use Prim.Native.Nat.{ℕ, ◌+◌, ◌≤◌, ◌<◌}
use native.Mathlib.Omega.{arith}
use Rattle.spec.specs.declared.Size.{Size}
use Rattle.places.specs.Sizes.{power_of}
use Rattle.spec.specs.Basics.{pick}
use Rattle.spec.specs.Log.{Entry}
use Rattle.spec.specs.Plans.{worth_cleaning, better, best, chosen_chunk}
use Rattle.theory_crash.specs.Accepted.{Ok}
use Rattle.volatile.specs.Known.{Indexed}
use Rattle.volatile.specs.Sums.{Summed}
use Rattle.directory.proofs.Search.{taken, taken_start, taken_more}
use Rattle.choosing.specs.declared.Candidate.{Candidate}
use Rattle.choosing.specs.Choices.{best_so_far, Known, BetteredAt, Chooses}

-- THE BEST of the chunks from 1 on and below c
module _ (size : Size) (ws : List ℕ) (es : List Entry) where
  abbrev best_below : ℕ → maybe.Option ℕ
  best_below c = best (power_of size) ws es none (taken (worth_cleaning (power_of size) ws es) 1 c)

  best-append : (d : maybe.Option ℕ) (xs ys : List ℕ) → best (power_of size) ws es d (xs ++ ys) ≡ best (power_of size) ws es (best (power_of size) ws es d xs) ys
  best-append d [] ys = refl
  best-append d (x ∷ xs) ys = best-append (better (power_of size) ws es d x) xs ys

  best-more : (c : ℕ) → 1 ≤ c → best_below (c + 1) ≡ pick (worth_cleaning (power_of size) ws es c) (better (power_of size) ws es (best_below c) c) (best_below c)
  best-more c l =
      ap (best (power_of size) ws es none) (taken_more (worth_cleaning (power_of size) ws es) 1 c (worth_cleaning (power_of size) ws es c) l refl)
      ∙ best-append none (taken (worth_cleaning (power_of size) ws es) 1 c) (pick (worth_cleaning (power_of size) ws es c) (c ∷ []) [])
      ∙ go (worth_cleaning (power_of size) ws es c) (best_below c)
    where
      go : (b : Bool) (d : maybe.Option ℕ) → best (power_of size) ws es d (pick b (c ∷ []) []) ≡ pick b (better (power_of size) ws es d c) d
      go true d = refl
      go false d = refl

  chosen-best : (n : ℕ) → chosen_chunk (power_of size) n ws es ≡ best_below n
  unfolding chosen_chunk
  chosen-best n = refl

-- THE LOOP: x is the best of the chunks below c
pub record SoFar (size : Size) (ws : List ℕ) (es : List Entry) (n c : ℕ) (x : Option Candidate) : Type 0 where
  pub high : c ≤ n
  pub known : Known size ws es x
  pub says : best_so_far x ≡ best (power_of size) ws es none (taken (worth_cleaning (power_of size) ws es) 1 c)

pub record Looked (size : Size) (ws table buffer : List ℕ) (n c : ℕ) (x : Option Candidate) : Type 0 where
  pub past : 1 ≤ c
  pub inside : (y : Candidate) → x ≡ Some y → (1 ≤ y.chunk) × (y.chunk < n)
  pub exact : (keys : ℕ) (es : List Entry) → Ok (power_of size) n ws es → Indexed size table keys es → Summed size buffer es → SoFar size ws es n c x

pub looked-start : (size : Size) → (ws table buffer : List ℕ) (n : ℕ) → Looked size ws table buffer n 1 None
looked-start size ws table buffer n = record {
  past = omega arith;
  inside = λ y e. absurd (none-some y e);
  exact = λ keys es ok indexed sums. record {
    high = let l = ok.least in omega arith;
    known = tt;
    says = sym (ap (best (power_of size) ws es none) (taken_start (worth_cleaning (power_of size) ws es) 1));
  };
}

module _ (size : Size) (ws table buffer : List ℕ) (n c : ℕ) (x : Option Candidate) (so : Looked size ws table buffer n c x) where
  pub looked-next : c < n → (z : Option Candidate) → BetteredAt size ws table buffer x c z → Looked size ws table buffer n (c + 1) z
  looked-next u z b = record {
    past = let l = so.past in omega arith;
    inside = in_one b.either;
    exact = λ keys es ok indexed sums.
        let s = so.exact keys es ok indexed sums in
        let r = b.says n keys es ok indexed sums so.past u s.known in
        record { high = omega arith; known = r.0; says = r.1 ∙ rw s.says (sym (best-more size ws es c so.past)) };
  }
    where
      in_one : (z ≡ x) ⊎ ((y : Candidate) × (z ≡ Some y) × (y.chunk ≡ c)) → (y : Candidate) → z ≡ Some y → (1 ≤ y.chunk) × (y.chunk < n)
      in_one (inl e) y is = so.inside y (sym e ∙ is)
      in_one (inr (v, e, h)) y is = let s : v ≡ y = cc in rw (← s, h) (so.past, u)

  module _ (end : n ≤ c) where
    at-end : (keys : ℕ) (es : List Entry) → Ok (power_of size) n ws es → Indexed size table keys es → Summed size buffer es → best_so_far x ≡ chosen_chunk (power_of size) n ws es
    at-end keys es ok indexed sums =
        let s = so.exact keys es ok indexed sums in
        let e : c ≡ n = let h = s.high in omega arith in
        s.says ∙ ap (λ (m : ℕ). best (power_of size) ws es none (taken (worth_cleaning (power_of size) ws es) 1 m)) e ∙ sym (chosen-best size ws es n)

    pub looked-nothing : x ≡ None → Chooses size ws table buffer n None
    looked-nothing is = record { inside = tt; exact = λ keys es ok indexed sums. rw (← at-end keys es ok indexed sums, is) }

    pub looked-found : (y : Candidate) → x ≡ Some y → Chooses size ws table buffer n (Some y.chunk)
    looked-found y is = record { inside = so.inside y is; exact = λ keys es ok indexed sums. rw (← at-end keys es ok indexed sums, is) }
