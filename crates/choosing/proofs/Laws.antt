-- One chunk, and two: what the code shows is what the definition asks.
-- Assumes nothing.
use mathlib.Core.Path.{◌≡◌, refl, sym, ◌∙◌, ap}
use mathlib.Core.Logic.{◌⊎◌, inl, inr, by_cases}
use mathlib.Core.Bool.{Bool, true, false}
use mathlib.Core.Option.{some}
use Rattle.std.specs.Prelude.{Option, Some}
use mathlib.Core.List.{List}
use Prim.Native.Nat.{ℕ, ◌+◌, ◌*◌, ◌%◌, ◌≤◌, ◌<◌}
use lib.ListN.{get_or}
use native.Mathlib.Decide.{dec_le}
use native.Mathlib.Omega.{arith}
use lib.Dec.{eqb, leb, ltb}
use borrow.Author.Tests.{ne_eqb, le-leb, lt-leb, le-ltb}
use Rattle.spec.specs.declared.Size.{Size}
use Rattle.places.specs.Sizes.{power_of}
use Rattle.spec.specs.Basics.{pick, both, either}
use Rattle.spec.specs.Places.{base}
use Rattle.spec.specs.Directory.{lines_of}
use Rattle.spec.specs.Log.{Entry}
use Rattle.spec.specs.Actions.{lines_for}
use Rattle.spec.specs.Plans.{copy_words, worth_cleaning, better}
use Rattle.theory_crash.specs.Accepted.{Ok}
use Rattle.buffer.specs.Areas.{sums_start, sums_count}
use Rattle.volatile.specs.Known.{Indexed}
use Rattle.volatile.specs.Sums.{high_half, Summed}
use Rattle.choosing.proofs.Bounds.{least-copied, all-copied}
use Rattle.directory.proofs.Roles.{log-lines}
use Rattle.gathering.specs.declared.measure.Tally.{Tally}
use Rattle.gathering.specs.Measuring.{Measured}
use Rattle.gathering.proofs.Sizes.{chunk-measured}
use Rattle.choosing.specs.declared.Candidate.{Candidate}
use Rattle.choosing.specs.Choices.{Describes, Weighed, Counted, Worth, Compared, Known, Bettered, BetteredAt}

-- ONE CHUNK
pub weighed : (size : Size) → (ws table : List ℕ) (c lines at end : ℕ) (t : Tally) → lines ≡ lines_of (power_of size) ws c → at ≡ base (power_of size) (c % 512) → end ≡ at + 8 * lines → Measured size ws table at end t
    → Weighed size ws table c (record { chunk = c; lines = lines; words = t.words })
weighed size ws table c lines at end t el ea ee m = record {
  chunk = refl;
  describes = λ n keys es ok indexed low high.
      record { lines = el; words = (chunk-measured size n c at end keys ws table es ok indexed low high ea (ee ∙ ap (λ (x : ℕ). at + 8 * x) el) t m).0 };
}

-- a chunk that is no log chunk has no committed lines, and so none to give back
worth-lines : (size : Size) → (ws : List ℕ) (es : List Entry) (c : ℕ) → worth_cleaning (power_of size) ws es c ≡ ltb (lines_for (copy_words (power_of size) es c)) (lines_of (power_of size) ws c)
worth-lines size ws es c = rw (log-lines (power_of size) ws c) (go (lines_for (copy_words (power_of size) es c)) (lines_of (power_of size) ws c))
  where
    go : (a l : ℕ) → both (leb 1 l) (ltb a l) ≡ ltb a l
    go a l = by_cases (dec_le 1 l) (λ h. rw (le-leb 1 l h)) (λ h. rw (lt-leb 1 l (omega arith), le-ltb a l (omega arith)))

pub worth : (x : Candidate) (b : ℕ) → b ≡ lines_for x.words → Worth x (ltb b x.lines)
worth x b e = record { says = λ size ws es d. rw (e, d.words, d.lines) (sym (worth-lines size ws es x.chunk)) }

-- TWO CHUNKS
pub compared-by : (x y : Candidate) (r : Bool) → r ≡ either (ltb x.words y.words) (both (eqb x.words y.words) (leb y.lines x.lines)) → Compared x y r
compared-by x y r is = record { says = λ size ws es d e. is ∙ rw (d.words, e.words, d.lines, e.lines) }

pub not-worth : (x : Option Candidate) (y : Candidate) → Worth y false → Bettered x y x
not-worth x y w = record { either = inl refl; says = λ size ws es k d. rw (← w.says size ws es d) }

-- THE BEST SO FAR AND CHUNK c, by its sum
module _ (size : Size) (ws table buffer : List ℕ) (x : Option Candidate) (c : ℕ) where
  better-by : (y : Candidate) (z : Option Candidate) → y.chunk ≡ c → ((n keys : ℕ) (es : List Entry) → Ok (power_of size) n ws es → Indexed size table keys es → Summed size buffer es → 1 ≤ c → c < n → Describes size ws es y) → Bettered x y z → BetteredAt size ws table buffer x c z
  better-by y z here describes b = record {
    either = elim b.either [ inl e ↦ inl e | inr e ↦ inr (y, e, here) ];
    says = λ n keys es ok indexed sums low high k.
        let d = describes n keys es ok indexed sums low high in
        (known es b.either k d, b.says size ws es k d ∙ rw here);
  }
    where
      known : (es : List Entry) → (z ≡ x) ⊎ (z ≡ Some y) → Known size ws es x → Describes size ws es y → Known size ws es z
      known es (inl e) k d = rw e k
      known es (inr e) k d = rw e d

  -- its entries are read
  pub better-weighed : (y : Candidate) (z : Option Candidate) → Weighed size ws table c y → Bettered x y z → BetteredAt size ws table buffer x c z
  better-weighed y z w b = better-by y z w.chunk (λ n keys es ok indexed sums low high. w.describes n keys es ok indexed low high) b

  module _ (sum least : ℕ) (is_sum : sum ≡ get_or buffer (sums_start + c % sums_count) 0) (is-least : least ≡ sum % high_half) where
    -- it has no chosen delete
    pub better-counted : (y : Candidate) (z : Option Candidate) → sum < high_half → Counted size ws c least y → Bettered x y z → BetteredAt size ws table buffer x c z
    better-counted y z l w b =
        better-by y z w.chunk (λ n keys es ok indexed sums low high. record {
          lines = w.lines ∙ ap (lines_of (power_of size) ws) (sym w.chunk);
          words = w.words ∙ is-least ∙ sym (all-copied size n c ws es ok low high buffer sums sum is_sum l) ∙ ap (copy_words (power_of size) es) (sym w.chunk);
        }) b

    -- its puts are more than the best one's words
    pub better-none : (v : Candidate) → x ≡ Some v → v.words < least → BetteredAt size ws table buffer x c x
    better-none v is more = record { either = inl refl; says = λ m keys es ok indexed sums low high k. (k, rw is (stays es (rw is at k) (least-copied size m c ws es ok low high buffer sums sum is_sum))) }
      where
        stays : (es : List Entry) → Describes size ws es v → sum % high_half ≤ copy_words (power_of size) es c → some v.chunk ≡ pick (worth_cleaning (power_of size) ws es c) (better (power_of size) ws es (some v.chunk) c) (some v.chunk)
        stays es k h =
            let a = copy_words (power_of size) es c in
            let b = copy_words (power_of size) es v.chunk in
            let q = k.words in
            let l : b < a = omega arith in
            rw (le-ltb a b (omega arith), ne_eqb a b (λ e. omega arith)) (go (worth_cleaning (power_of size) ws es c))
          where
            go : (t : Bool) → some v.chunk ≡ pick t (some v.chunk) (some v.chunk)
            go true = refl
            go false = refl
