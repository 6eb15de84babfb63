-- What the answers of the searches say: where the definitions find a block, a free chunk, or nothing.
-- Assumes nothing.
use mathlib.Core.Path.{◌≡◌, refl, sym, ◌∙◌, ap}
use mathlib.Core.Option as maybe
use mathlib.Core.Option.{none, some}
use mathlib.Core.List.{List}
use Prim.Native.Nat.{ℕ, ◌≤◌, min}
use native.Mathlib.Omega.{arith}
use lib.ListN.{length}
use Rattle.spec.specs.Words.{words_of}
use Rattle.spec.specs.Places.{chunks_in}
use Rattle.spec.specs.Log.{Entry}
use Rattle.spec.specs.Plans.{free_chunk, or_free, slot_for}
use Rattle.spec.specs.declared.Size.{Size}
use Rattle.places.specs.Sizes.{power_of}
use Rattle.codec.specs.declared.Unit.{Unit as UnitNumber}
use Rattle.directory.specs.Found.{found_of}
use Rattle.directory.proofs.Answer.{found_at}
use Rattle.directory.proofs.Answer as P
use Rattle.std.specs.Prelude.{Option, Some, None}
use Rattle.std.proofs.lemmas.Option.{none-some, same_Some}
use Rattle.theory_plans.proofs.LogPlace.{free-chunk}
use Rattle.placing.specs.declared.blocks.Slot.TheVariants as S
use Rattle.placing.specs.Blocks.{Says, first_spare, unit, block_by, InImage, BlockFound, slot_by, SlotFound}

module _ (size : Size) (image : List ℕ) (n count s : ℕ) (b : List ℕ) (words : ℕ) where
  abbrev ws : List ℕ
  ws = words_of image

  abbrev Finds : maybe.Option ℕ → Type 0
  Finds q = (es items : List Entry) → Says size b words es items → first_spare (power_of size) n ws es items s ≡ q

  -- in the chunks that the image has
  all-chunks : (q : maybe.Option ℕ) → n ≡ min count (chunks_in (power_of size) (length image)) → Finds q → count ≤ chunks_in (power_of size) (length image) → (es items : List Entry) → Says size b words es items → first_spare (power_of size) count ws es items s ≡ q
  all-chunks q e f h es items g = let k : count ≡ n = omega arith in ap (λ (m : ℕ). first_spare (power_of size) m ws es items s) k ∙ f es items g

  pub found_nothing : n ≡ min count (chunks_in (power_of size) (length image)) → Finds none → BlockFound size image count s b words None
  found_nothing e f = record {
    exact = λ h es items g. sym (ap block_by (all-chunks none e f h es items g));
    anyway = λ u z. absurd (none-some u z);
  }

  pub found_here : (u : ℕ) → n ≡ min count (chunks_in (power_of size) (length image)) → Finds (some u) → InImage (power_of size) image count s u → BlockFound size image count s b words (Some (unit u))
  found_here u e f i = record {
    exact = λ h es items g. sym (ap block_by (all-chunks (some u) e f h es items g));
    anyway = λ v z. rw (ap (λ (x : UnitNumber). x.0) (same_Some (unit u) v z)) at i;
  }

-- THE SLOT
block_at : (q : maybe.Option ℕ) (u : UnitNumber) → Some u ≡ block_by q → q ≡ some u.0
block_at none u h = absurd (none-some u (sym h))
block_at (some v) u h = ap some (sym (ap (λ (x : UnitNumber). x.0) (same_Some u (unit v) h)))

block-nothing : (q : maybe.Option ℕ) → None ≡ block_by q → q ≡ none
block-nothing none h = refl
block-nothing (some v) h = absurd (none-some (unit v) h)

module _ (size : Size) (image : List ℕ) (count s : ℕ) (b : List ℕ) (words : ℕ) (block : Option UnitNumber) (f : BlockFound size image count s b words block) where
  pub slot-data : (u : UnitNumber) → block ≡ Some u → SlotFound size image count s b words (Some (S.Data u))
  unfolding slot_for
  slot-data u e = record {
    exact = λ h es items g. sym (ap (λ (q : maybe.Option ℕ). slot_by (or_free q (free_chunk (power_of size) count (words_of image) 3))) (block_at (first_spare (power_of size) count (words_of image) es items s) u (sym e ∙ f.exact h es items g)));
    data' = λ v z. let y : u ≡ v = cc in f.anyway v (e ∙ ap Some y);
    free = λ c z. absurd (let y : ◌≡◌ {A = ℕ} 0 1 = cc in omega arith);
  }

  -- no block was found
  none_found : block ≡ None → (o : maybe.Option ℕ) → free_chunk (power_of size) count (words_of image) 3 ≡ o → count ≤ chunks_in (power_of size) (length image) → (es items : List Entry) → Says size b words es items
      → slot_for (power_of size) count (words_of image) es items s ≡ or_free none o
  unfolding slot_for
  none_found e o k h es items g =
      ap (λ (q : maybe.Option ℕ). or_free q (free_chunk (power_of size) count (words_of image) 3)) (block-nothing (first_spare (power_of size) count (words_of image) es items s) (sym e ∙ f.exact h es items g)) ∙ ap (or_free none) k

  pub slot-free : (free : Option ℕ) → block ≡ None → free ≡ found_of (free_chunk (power_of size) count (words_of image) 3) → (c : ℕ) → free ≡ Some c → SlotFound size image count s b words (Some (S.Free c))
  slot-free free e k c q =
      let o = found_at (free_chunk (power_of size) count (words_of image) 3) c (sym k ∙ q) in
      record {
        exact = λ h es items g. sym (ap slot_by (none_found e (some c) o h es items g));
        data' = λ v z. absurd (let y : ◌≡◌ {A = ℕ} 0 1 = cc in omega arith);
        free = λ d z. let y : c ≡ d = cc in rw y at (free-chunk (power_of size) count (words_of image) 3 c o);
      }

  pub slot-nowhere : (free : Option ℕ) → block ≡ None → free ≡ found_of (free_chunk (power_of size) count (words_of image) 3) → free ≡ None → SlotFound size image count s b words None
  slot-nowhere free e k q =
      let o = P.found_nothing (free_chunk (power_of size) count (words_of image) 3) (sym k ∙ q) in
      record {
        exact = λ h es items g. sym (ap slot_by (none_found e none o h es items g));
        data' = λ v z. absurd (none-some (S.Data v) z);
        free = λ d z. absurd (none-some (S.Free d) z);
      }
