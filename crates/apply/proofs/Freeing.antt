-- What the code shows of the blocks that leave the bits: those of single entries, and of the top entries of a key.
-- Assumes nothing.
use Rattle.std.proofs.Common.{◌≡◌, ℕ, ◌<◌, Bool, true, false, eqb, List, ◌++◌, length, get_or, sym, refl, ap, ◌∙◌, arith, eq-eqb, ne_eqb}
use mathlib.Core.Logic.{by_cases}
use mathlib.Core.Option.{Option, some}
use native.Mathlib.Decide.{dec_lt, ℕ_discrete}
use Rattle.spec.specs.declared.Size.{Size}
use Rattle.spec.specs.declared.Size.TheVariants as S
use Rattle.spec.specs.Basics.{both}
use Rattle.spec.specs.declared.FirstWord.{FirstWord}
use Rattle.spec.specs.declared.FirstWord.TheVariants as F
use Rattle.spec.specs.Log.{Entry, Entries, first_of_word, image_entries}
use Rattle.spec.specs.Contents.{chosen}
use Rattle.theory_log.proofs.Contents.{chosen_is}
use Rattle.logs.proofs.Stands.{image-stands}
use Rattle.packing.specs.declared.Info.{Info}
use Rattle.buffer.specs.Areas.{buffer_words}
use Rattle.places.specs.Sizes.{power_of, power-low, power-high, unit_count}
use Rattle.buffer.specs.Bits.{has_bit, BitWritten}
use Rattle.buffer.proofs.Laws.{bit-beyond, kept-all}
use Rattle.volatile.specs.Known.{extent_of}
use Rattle.volatile.proofs.Info.{said}
use Rattle.volatile.specs.Blocks.{points, named_by, block_of, top_block, Freed}
use Rattle.apply.specs.Joining.{Superseded}
use Rattle.volatile.proofs.Live.{mem-around}

-- Tests.
pub both-none : (b : Bool) → both b false ≡ false
both-none true = refl
both-none false = refl

pub both_true : (b : Bool) → both b true ≡ b
both_true true = refl
both_true false = refl

-- Blocks that leave: none, one, the same, some and then others.
pub freed-none : (size : Size) → (b : List ℕ) → length b ≡ buffer_words → (gone : ℕ → Bool) → ((u : ℕ) → gone u ≡ false) → Freed size b b gone
freed-none size b n gone z = record { bits = λ u. rw (z u) (sym (both_true (has_bit size b u))); kept = kept-all b n }

pub freed-one : (size : Size) → (b d : List ℕ) (u : ℕ) → BitWritten size b d u false → Freed size b d (eqb u)
freed-one size b d u w = record {
  bits = λ v. by_cases (ℕ_discrete v u)
      (λ q. rw (eq-eqb u v (sym q), both-none (has_bit size b v)) (by_cases (dec_lt u (unit_count size)) (λ l. ap (has_bit size d) q ∙ w.at l) (λ l. bit-beyond size d v (omega arith))))
      (λ n. rw (ne_eqb u v (λ q. n (sym q)), both_true (has_bit size b v)) (w.other v n));
  kept = w.kept;
}

pub freed-as : (size : Size) → (b d : List ℕ) (gone gone' : ℕ → Bool) → ((u : ℕ) → gone u ≡ gone' u) → Freed size b d gone → Freed size b d gone'
freed-as size b d gone gone' same f = record { bits = λ u. f.bits u ∙ rw (same u); kept = f.kept }

-- those of an entry that passes two tests, or fails one
module _ (size : Size) (a x b y : ℕ) (gone : ℕ → Bool) where
  pub freed-both : (before after : List ℕ) → a ≡ x → b ≡ y → Freed size before after gone → Freed size before after (λ u. both (both (eqb a x) (eqb b y)) (gone u))
  freed-both before after p q f = freed-as size before after gone _ (λ u. rw (eq-eqb a x p, eq-eqb b y q)) f

  pub unlike-first : (before : List ℕ) → length before ≡ buffer_words → (a ≡ x → ⊥) → Freed size before before (λ u. both (both (eqb a x) (eqb b y)) (gone u))
  unlike-first before long n = freed-none size before long _ (λ u. rw (ne_eqb a x n))

  pub unlike-second : (before : List ℕ) → length before ≡ buffer_words → (b ≡ y → ⊥) → Freed size before before (λ u. both (both (eqb a x) (eqb b y)) (gone u))
  unlike-second before long n = freed-none size before long _ (λ u. rw (ne_eqb b y n, both-none (eqb a x)))

-- ## The entry at a place

module _ (size : Size) (ws : List ℕ) (place w : ℕ) (r : FirstWord) (is_word : w ≡ get_or ws place 0) (is-first : r ≡ first_of_word w) where
  named : (u : ℕ) → named_by r u ≡ named_by (first_of_word (get_or ws place 0)) u
  named u = ap (λ (f : FirstWord). named_by f u) (is-first ∙ ap first_of_word is_word)

  pub at-padding : (b : List ℕ) → length b ≡ buffer_words → r ≡ F.Padding → Freed size b b (named_by (first_of_word (get_or ws place 0)))
  at-padding b n e = freed-none size b n _ (λ u. sym (named u) ∙ ap (λ (f : FirstWord). named_by f u) e)

  pub at-wrong : (b : List ℕ) → length b ≡ buffer_words → r ≡ F.Wrong → Freed size b b (named_by (first_of_word (get_or ws place 0)))
  at-wrong b n e = freed-none size b n _ (λ u. sym (named u) ∙ ap (λ (f : FirstWord). named_by f u) e)

  pub at_entry : (b d : List ℕ) (op pl v x : ℕ) → r ≡ F.Entry op pl v x → Freed size b d (named_by (F.Entry op pl v x)) → Freed size b d (named_by (first_of_word (get_or ws place 0)))
  at_entry b d op pl v x e f = freed-as size b d _ _ (λ u. sym (ap (λ (g : FirstWord). named_by g u) e) ∙ named u) f

-- ## The top entries of a key

-- the table says no extent of a value that is not in the log
no-extent : (size : Size) (placement field : ℕ) → (placement ≡ 0 → ⊥) → extent_of size placement field ≡ 0
no-extent S.Small placement field n = rw (ne_eqb placement 0 n)
no-extent S.Large placement field n = refl

-- the chosen entry has its value in the log: no block leaves
module _ (size : Size) (ws before : List ℕ) (info : Info) where
  pub tops-in-log : length before ≡ buffer_words → 0 < info.extent → Superseded size ws before before info
  tops-in-log long x = record { kept = kept-all before long; freed = λ n key xs more ys t shown c i. freed-none size before long _ (λ u. ap (λ (q : Option Entry). block_of q u) c ∙ clear key (xs ++ ys) t i u) }
    where
      clear : (key : ℕ) (es : List Entry) (t : Entry) → info ≡ said size key es t → (u : ℕ) → points u t ≡ false
      clear key es t i u =
          let told : info.extent ≡ extent_of size t.placement t.field = ap (λ (j : Info). j.extent) i in
          let away : t.placement ≡ 1 → ⊥ = λ q. let z : info.extent ≡ 0 = told ∙ no-extent size t.placement t.field (λ p. omega arith) in omega arith in
          rw (ne_eqb t.placement 1 away, both-none (eqb t.op 1))

-- its block leaves
module _ (size : Size) (ws before after : List ℕ) (info : Info) where
  pub tops-at : Freed size before after (named_by (first_of_word (get_or ws info.place 0))) → Superseded size ws before after info
  tops-at f = record { kept = f.kept; freed = λ n key xs more ys t shown c i. freed-as size before after _ _ (same n key xs more ys t shown c i) f }
    where
      same : (n key : ℕ) (xs more ys : List Entry) (t : Entry) → image_entries (power_of size) n ws ≡ Entries (xs ++ (more ++ ys)) → chosen key (xs ++ ys) ≡ some t → info ≡ said size key (xs ++ ys) t
          → (u : ℕ) → named_by (first_of_word (get_or ws info.place 0)) u ≡ top_block key (xs ++ ys) u
      same n key xs more ys t shown c i u =
          let m = mem-around t xs more ys (chosen_is key (xs ++ ys) t c).in_list in
          let stands = image-stands (power_of size) (power-low size) (power-high size) n ws (xs ++ (more ++ ys)) shown t m in
          let place : info.place ≡ t.at = ap (λ (j : Info). j.place) i in
          rw (place, stands.first) (sym (ap (λ (q : Option Entry). block_of q u) c))
