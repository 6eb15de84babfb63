-- The pass over the log finds the chosen top entry of a key.
-- Assumes nothing.
use mathlib.Core.Path.{◌≡◌, refl, ◌∙◌, ap}
use mathlib.Core.Bool.{Bool, true, false}
use mathlib.Core.Option.{Option, none, some}
use mathlib.Core.List.{List, [], ◌∷◌}
use Prim.Native.Nat.{ℕ, ◌≤◌}
use native.Mathlib.Omega.{arith}
use lib.Dec.{eqb, leb, ltb}
use borrow.Author.Tests.{leb-true, leb-false, ltb-true, ltb-false, lt-ltb, le-ltb}
use Rattle.spec.specs.Basics.{pick}
use Rattle.spec.specs.Log.{Entry, Entries, Wrong, image_entries}
use Rattle.spec.specs.Contents.{chosen, highest}
use Rattle.theory_log.specs.Contents.{Mem}
use Rattle.theory_log.specs.Fold.{fold_e}
use Rattle.theory_log.proofs.Contents.{better, best, version_of, chosen-best, highest-best, chosen_is}
use Rattle.logs.specs.declared.Best.{Best}
use Rattle.logs.specs.Best.{nothing, pass, best_in, best_of}
use Rattle.logs.proofs.Stands.{image-right}

abbrev over : Best → Option Entry → Best
over b none = b
over b (some e) = pick (ltb b.version e.version) (best_of (some e)) b

over-better : (b : Best) (e : Entry) (q : Option Entry) → over (pick (ltb b.version e.version) (best_of (some e)) b) q ≡ over b (better (some e) q)
over-better b e none = refl
over-better b e (some f) = go (ltb b.version e.version) refl (leb f.version e.version) refl
  where
    go : (s : Bool) → ltb b.version e.version ≡ s → (t : Bool) → leb f.version e.version ≡ t
        → over (pick s (best_of (some e)) b) (some f) ≡ over b (pick t (some e) (some f))
    go true x true y = let u = leb-true f.version e.version y in rw (le-ltb e.version f.version u, x)
    go true x false y =
        let u = ltb-true b.version e.version x in
        let v = leb-false f.version e.version y in
        rw (lt-ltb e.version f.version v, lt-ltb b.version f.version (omega arith))
    go false x true y =
        let u = ltb-false b.version e.version x in
        let v = leb-true f.version e.version y in
        rw (x, le-ltb b.version f.version (omega arith))
    go false x false y = refl

fold_over : (k : ℕ) (b : Best) (es : List Entry) → fold_e (pass k) b es ≡ over b (best k es)
fold_over k b [] = refl
fold_over k b (e ∷ es) = fold_over k (pass k b e) es ∙ go (eqb e.key k)
  where
    go : (t : Bool) → over (pick t (pick (ltb b.version e.version) (best_of (some e)) b) b) (best k es) ≡ over b (better (pick t (some e) none) (best k es))
    go true = over-better b e (best k es)
    go false = refl

-- versions count from 1, so an entry is better than none
pub scan-chosen : (k : ℕ) (es : List Entry) → ((e : Entry) → Mem e es → 1 ≤ e.version) → fold_e (pass k) nothing es ≡ best_of (chosen k es)
scan-chosen k es low = fold_over k nothing es ∙ rw (← chosen-best k es) (go (chosen k es) refl)
  where
    go : (q : Option Entry) → chosen k es ≡ q → over nothing q ≡ best_of q
    go none h = refl
    go (some e) h = rw (lt-ltb 0 e.version (low e (chosen_is k es e h).in_list))

pub best-wrong : (p n k : ℕ) (ws : List ℕ) → image_entries p n ws ≡ Wrong → best_in p n ws k ≡ nothing
unfolding best_in
best-wrong p n k ws h = rw h

module _ (p : ℕ) (low : 12 ≤ p) (high : p ≤ 16) (n k : ℕ) (ws : List ℕ) (es : List Entry) (h : image_entries p n ws ≡ Entries es) where
  pub best-chosen : best_in p n ws k ≡ best_of (chosen k es)
  unfolding best_in
  best-chosen = rw h (scan-chosen k es (λ e m. (image-right p low high n ws es h e m).low))

  pub best-highest : (best_in p n ws k).version ≡ highest k es
  best-highest = ap (λ (b : Best). b.version) best-chosen ∙ version (chosen k es) ∙ ap version_of (chosen-best k es) ∙ highest-best k es
    where
      version : (q : Option Entry) → (best_of q).version ≡ version_of q
      version none = refl
      version (some e) = refl
