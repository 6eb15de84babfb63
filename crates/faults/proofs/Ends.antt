-- When all entries are met, the least places are those of the first entries that fail the tests.
-- Assumes nothing.
use mathlib.Core.Path.{◌≡◌, refl, sym, ◌∙◌, subst}
use mathlib.Core.Bool.{Bool, true, false}
use mathlib.Core.List.{List}
use Rattle.std.specs.Prelude.{Option as Maybe, Some, None}
use Prim.Native.Nat.{ℕ, ◌+◌, ◌-◌, ◌≤◌}
use native.Mathlib.Decide.{ℕ_discrete, dec_le}
use lib.Dec.{eqb}
use lib.ListN.{get_or}
use borrow.Author.Tests.{eqb-true, eq-eqb}
use Rattle.places.specs.Sizes.{power_of, power-low, power-high}
use Rattle.spec.specs.declared.Size.{Size}
use Rattle.spec.specs.Basics.{pick, both, negate}
use Rattle.spec.specs.Places.{base, max_chunks}
use Rattle.spec.specs.Log.{Entry, Entries, image_entries}
use Rattle.spec.specs.Blocks.{pointed}
use Rattle.spec.specs.Contents.{is_top, chosen}
use Rattle.spec.specs.Opening.{fine, agree_with, sharing}
use Rattle.theory_base.proofs.Lists.{not-both, both_l, both_r, both-i, pick-i}
use Rattle.theory_log.specs.Contents.{Mem, Top}
use Rattle.theory_log.proofs.Places.{Rising, all_sound}
use Rattle.theory_log.proofs.Tops.{top-is, is-top, each-top}
use Rattle.consistency.proofs.Classes.{class-all}
use Rattle.faults.specs.declared.top.Spots.{Spots}
use Rattle.faults.specs.Tops.{first_top, apart_from, at_one, place_of}
use Rattle.faults.specs.Spots.{Reaches, Uses, UnitIs, block_fails, top_fails, Found, Spotted}
use Rattle.faults.proofs.Places.{first-least}
use Rattle.faults.proofs.Sweeps.{Done}

not-false : (b : Bool) → (b ≡ false → ⊥) → b ≡ true
not-false true h = refl
not-false false h = absurd (h refl)

reaches-or : (so : Maybe ℕ) (at : ℕ) → Dec (Reaches so at)
reaches-or None at = no (λ r. r)
reaches-or (Some so) at = dec_le so at

module _ (size : Size) (n : ℕ) (ws : List ℕ) (es : List Entry) (h : image_entries (power_of size) n ws ≡ Entries es) (units : List ℕ) (s : Spots) (inv : Found size n ws es es units s) where
  rises : Rising (base (power_of size) 1) (base (power_of size) (1 + (n - 1))) es
  rises = (all_sound (power_of size) (power-low size) (power-high size) (n - 1) 1 ws es h).rising

  pub block-end : s.block ≡ place_of (first_top es (fine (power_of size) n ws))
  block-end = first-least (block_fails size n ws es) s.block (base (power_of size) 1) (base (power_of size) (1 + (n - 1))) es rises inv.block-stands inv.block-least

  module _ (none : s.block ≡ None) where
    right : (e : Entry) → Top es e → fine (power_of size) n ws e ≡ true
    right e t = not-false (fine (power_of size) n ws e) (λ f. subst (λ (so : Maybe ℕ). Reaches so e.at) none (inv.block-least e t.0 (both-i (is_top es e) (negate (fine (power_of size) n ws e)) (top-is es e t) (rw f))))

    -- two keys' entries that point to one unit: the place found is not behind either
    alone : (e f : Entry) → Top es e → Top es f → (Reaches s.tops e.at → ⊥) → sharing e f ≡ true → e.key ≡ f.key
    alone e f te tf behind q = go (ℕ_discrete user 0)
      where
        points : pointed e ≡ true
        points = both_l (pointed e) _ q

        user : ℕ
        user = get_or units e.field 0

        unit : UnitIs es es s.tops e.field user
        unit = inv.units-are e.field (rw points at (right e te))

        own : Uses es es e.field e
        own = record { member = te.0; top = top-is es e te; points = points; unit = refl }

        other : Uses es es e.field f
        other =
            let r = both_r (pointed e) (both (pointed f) (eqb e.field f.field)) q in
            record { member = tf.0; top = top-is es f tf; points = both_l (pointed f) _ r; unit = sym (eqb-true e.field f.field (both_r (pointed f) _ r)) }

        one : (user ≡ 0 → ⊥) → Dec (user ≡ 1) → e.key ≡ f.key
        one a (yes z) = absurd (behind (unit.shared z e own))
        one a (no b) = let k = unit.one a b in k.same e own ∙ sym (k.same f other)

        go : Dec (user ≡ 0) → e.key ≡ f.key
        go (yes z) = absurd (unit.none z e own)
        go (no a) = one a (ℕ_discrete user 1)

    apart : (e : Entry) → Top es e → (Reaches s.tops e.at → ⊥) → apart_from es e ≡ true
    apart e t behind =
        each-top es (λ f. pick (sharing e f) (eqb e.key f.key) true) (λ f u. pick-i (sharing e f) (eqb e.key f.key) (λ q. eq-eqb e.key f.key (alone e f t u behind q)))

    least-top : (e : Entry) → Mem e es → top_fails es e ≡ true → Reaches s.tops e.at
    least-top e m t = go (reaches-or s.tops e.at)
      where
        top : is_top es e ≡ true
        top = both_l (is_top es e) _ t

        is : Top es e
        is = is-top es e m top

        agrees : (Reaches s.tops e.at → ⊥) → agree_with e (chosen e.key es) ≡ true
        agrees behind = not-false (agree_with e (chosen e.key es)) (λ f. behind (inv.tops-least e m top (right e is) f))

        go : Dec (Reaches s.tops e.at) → Reaches s.tops e.at
        go (yes r) = r
        go (no r) = absurd (not-both (negate (at_one es e)) (both_r (is_top es e) _ t) (rw (agrees r, apart e is r)))

    pub tops-end : s.tops ≡ place_of (first_top es (at_one es))
    tops-end = first-least (top_fails es) s.tops (base (power_of size) 1) (base (power_of size) (1 + (n - 1))) es rises inv.tops-stands least-top

pub spotted : (size : Size) → (n : ℕ) (ws units : List ℕ) (s : Spots) (low : ℕ) → Done size n ws units s low → low ≡ 0x1_0000_0000 → Spotted size n ws s
spotted size n ws units s low inv q = record {
  block-first = λ es few h. block-end size n ws es h units s (found es few h);
  tops_first = λ es few h z. tops-end size n ws es h units s (found es few h) z;
}
  where
    found : (es : List Entry) → n ≤ max_chunks → image_entries (power_of size) n ws ≡ Entries es → Found size n ws es es units s
    found es few h = rw (q, class-all es) at (inv.finds es few h)
