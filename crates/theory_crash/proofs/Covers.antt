-- The entries of the other chunks, with copies of the kept ones among them, cover the chunk that is cleaned.
-- Assumes nothing.
use mathlib.Core.Path.{◌≡◌, refl, sym, ◌∙◌, ap}
use mathlib.Core.Logic.{◌⊎◌, inl, inr}
use mathlib.Core.Bool.{Bool, true, false}
use mathlib.Core.Option.{Option, none, some}
use mathlib.Core.List.{List}
use Prim.Native.Nat.{ℕ}
use native.Mathlib.Omega.{arith}
use lib.Dec.{eqb}
use borrow.Author.Tests.{eq-eqb}
use Rattle.spec.specs.Basics.{either, filter}
use Rattle.spec.specs.Log.{Entry, moved, placed}
use Rattle.spec.specs.Contents.{chosen, known, is_kept}
use Rattle.theory_log.specs.Contents.{Mem, Agree, Apart, Top}
use Rattle.theory_base.proofs.Lists.{both_l, either-no}
use Rattle.theory_log.proofs.Contents.{mem-filter, filter-mem, Chosen, chosen_is, none_of}
use Rattle.theory_log.proofs.Tops.{tops-same}
use Rattle.theory_log.proofs.Clean.{mem-placed, placed-mem, is-at, unknown}
use Rattle.theory_crash.specs.Clean.{Covers}

-- es: the entries before; gs: with the copies; new: without the chunk
module _ (es gs rest chunk new : List Entry) (at : ℕ)
    (es-cases : (f : Entry) → Mem f es → Mem f rest ⊎ Mem f chunk) (chunk-es : (f : Entry) → Mem f chunk → Mem f es)
    (gs-cases : (f : Entry) → Mem f gs → Mem f es ⊎ Mem f (placed at (filter (is_kept es rest) chunk))) (es-gs : (f : Entry) → Mem f es → Mem f gs)
    (rest-new : (f : Entry) → Mem f rest → Mem f new) (copy-new : (f : Entry) → Mem f (placed at (filter (is_kept es rest) chunk)) → Mem f new)
    (new-cases : (f : Entry) → Mem f new → Mem f rest ⊎ Mem f (placed at (filter (is_kept es rest) chunk))) (apart : Apart es) (agree : Agree gs) where
  abbrev cs : List Entry
  cs = filter (is_kept es rest) chunk

  pub covers : Covers gs new
  covers e (m, above) = go (gs-cases e m)
    where
      Goal : Type 0
      Goal = ((f : Entry) × Mem f new × (f.key ≡ e.key) × (f.version ≡ e.version)) ⊎ ((eqb e.op 1 ≡ false) × ((f : Entry) → Mem f new → f.key ≡ e.key → ⊥))

      gone : (c : Entry) → chosen e.key es ≡ some c → is_kept es rest c ≡ false → known c.key rest ≡ false → (f : Entry) → Mem f new → f.key ≡ e.key → ⊥
      gone c h q un f mf fk = six (new-cases f mf)
        where
          ck : c.key ≡ e.key
          ck = (chosen_is e.key es c h).of-key

          six : Mem f rest ⊎ Mem f (placed at cs) → ⊥
          six (inl r) = none_of c.key rest f (unknown c.key rest un) r (fk ∙ sym ck)
          six (inr b) =
              let r = mem-placed f at cs b in
              let g = r.0 in
              let fi = mem-filter (is_kept es rest) g chunk r.1 in
              let gk : g.key ≡ e.key = sym (ap (λ (y : Entry). y.key) r.3) ∙ fk in
              let i = is-at (chosen g.key es) g.at (both_l _ (either (eqb g.op 1) (known g.key rest)) fi.1) in
              let p : chosen e.key es ≡ some i.0 = sym (ap (λ (j : ℕ). chosen j es) gk) ∙ i.1 in
              let same : c ≡ i.0 = cc in
              let eq : g ≡ c = apart g c (chunk-es g fi.0) (chosen_is e.key es c h).in_list (sym i.2 ∙ sym (ap (λ (y : Entry). y.at) same)) in
              let kept : is_kept es rest c ≡ true = sym (ap (is_kept es rest) eq) ∙ fi.1 in
              let z : ◌≡◌ {A = ℕ} 0 1 = cc in omega arith

      go : Mem e es ⊎ Mem e (placed at cs) → Goal
      go (inr b) = inl (e, copy-new e b, refl, refl)
      go (inl o) = two (es-cases e o)
        where
          three : (q : Option Entry) → chosen e.key es ≡ q → Goal
          three none h = absurd (none_of e.key es e h o refl)
          three (some c) h = four (es-cases c d.in_list)
            where
              d : Chosen e.key es c
              d = chosen_is e.key es c h

              eqv : c.version ≡ e.version
              eqv = let x = d.above e o refl in let y = above c (es-gs c d.in_list) d.of-key in omega arith

              mine : chosen c.key es ≡ some c
              mine = ap (λ (j : ℕ). chosen j es) d.of-key ∙ h

              top-c : Top gs c
              top-c = (es-gs c d.in_list, λ f mf fk. let x = above f mf (fk ∙ d.of-key) in let y = eqv in omega arith)

              five : Mem c chunk → (t : Bool) → either (eqb c.op 1) (known c.key rest) ≡ t → Goal
              five mc true q =
                  let k : is_kept es rest c ≡ true = rw (mine, eq-eqb c.at c.at refl) q in
                  let p = placed-mem c at cs (filter-mem (is_kept es rest) c chunk mc k) in
                  inl (moved p.0 c, copy-new (moved p.0 c) p.1, d.of-key, eqv)
              five mc false q =
                  let k : is_kept es rest c ≡ false = rw (mine, eq-eqb c.at c.at refl) q in
                  let n = either-no (eqb c.op 1) (known c.key rest) q in
                  inr (ap (λ (x : Entry). eqb x.op 1) (tops-same gs agree e c (m, above) top-c (sym d.of-key)) ∙ n.0, gone c h k n.1)

              four : Mem c rest ⊎ Mem c chunk → Goal
              four (inl r) = inl (c, rest-new c r, d.of-key, eqv)
              four (inr mc) = five mc (either (eqb c.op 1) (known c.key rest)) refl

          two : Mem e rest ⊎ Mem e chunk → Goal
          two (inl r) = inl (e, rest-new e r, refl, refl)
          two (inr mc) = three (chosen e.key es) refl
