-- The staged items as the record's words say them: a batch that was written is read back.
-- Assumes nothing.
use mathlib.Core.Path.{◌≡◌, refl, sym, ◌∙◌, ap}
use mathlib.Core.Logic.{inl, inr, ⊎_elim}
use mathlib.Core.List.{List, [], ◌∷◌, ◌++◌, map, append-nil}
use Prim.Native.Nat.{ℕ, ◌+◌}
use lib.ListN.{length}
use Rattle.spec.specs.Log.{Entry, Entries, Parsed, parse, encode_all, moved, placed}
use Rattle.spec.specs.Contents.{listed}
use Rattle.session.specs.declared.Control.{Control}
use Rattle.theory_log.specs.Batch.{Right, AllRight}
use Rattle.theory_log.specs.Contents.{Mem}
use Rattle.theory_log.proofs.Contents.{mem-cases}
use Rattle.theory_log.proofs.Batch.{parse-batch}
use Rattle.session.specs.State.{batch_words, batch_items}

-- staged items have no place yet
abbrev pub AtZero : List Entry → Type 0
AtZero items = (e : Entry) → Mem e items → e.at ≡ 0

pub zero-none : AtZero []
zero-none e m = absurd m

pub zero_more : (items : List Entry) (e : Entry) → AtZero items → e.at ≡ 0 → AtZero (items ++ (e ∷ []))
zero_more items e z q f m = ⊎_elim (z f) (⊎_elim (λ s. ap (λ (x : Entry). x.at) s ∙ q) (λ n. absurd n)) (mem-cases f items (e ∷ []) m)

moved-zero : (xs : List Entry) → AtZero (map (moved 0) xs)
moved-zero [] e m = absurd m
moved-zero (x ∷ xs) e (inl q) = ap (λ (y : Entry). y.at) q
moved-zero (x ∷ xs) e (inr m) = moved-zero xs e m

pub items-zero : (c : Control) (b : List ℕ) → AtZero (batch_items c b)
unfolding batch_items
items-zero c b = moved-zero (listed (parse (batch_words c b) 0 0))

-- back from their places in the batch
moved_back : (items : List Entry) (at : ℕ) → AtZero items → map (moved 0) (placed at items) ≡ items
moved_back [] at z = refl
moved_back (e ∷ items) at z =
    let here : moved 0 e ≡ e = ap (λ (n : ℕ). moved n e) (sym (z e (inl refl))) in
    let rest = moved_back items (at + (2 + length e.value)) (λ f m. z f (inr m)) in
    cc

pub items-read : (c : Control) (b : List ℕ) (items : List Entry) → batch_words c b ≡ encode_all items → AllRight items → AtZero items → batch_items c b ≡ items
unfolding batch_items
items-read c b items w r z =
    let p : parse (batch_words c b) 0 0 ≡ Entries (placed 0 items) = ap (λ (l : List ℕ). parse l 0 0) (w ∙ sym (append-nil (encode_all items))) ∙ parse-batch items 0 0 r in
    ap (λ (q : Parsed). map (moved 0) (listed q)) p ∙ moved_back items 0 z

pub right-more : (items : List Entry) (e : Entry) → AllRight items → Right e → AllRight (items ++ (e ∷ []))
right-more [] e a r = (r, tt)
right-more (x ∷ items) e a r = (a.0, right-more items e a.1 r)
