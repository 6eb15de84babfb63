-- The batch that a record holds: what its passes find, whether one more item fits, and the batch with that item.
-- Assumes nothing.
use mathlib.Core.Path.{◌≡◌, refl, sym, ◌∙◌, ap}
use mathlib.Core.Logic.{◌⊎◌, inl, inr, ⊎_elim}
use mathlib.Core.Bool.{Bool, true, false}
use mathlib.Core.List.{List, [], ◌∷◌, ◌++◌, append-nil}
use Prim.Native.Nat.{ℕ, suc, ◌+◌, ◌*◌, ◌^◌, ◌≤◌, ◌<◌}
use native.Mathlib.Omega.{arith}
use native.Mathlib.Decide.{dec_le}
use lib.Dec.{eqb, leb, ltb}
use lib.ListN.{length, length-append}
use borrow.Author.Tests.{le-leb, lt-leb}
use Rattle.spec.specs.Basics.{both}
use Rattle.spec.specs.Log.{Entry, encode_all}
use Rattle.spec.specs.Blocks.{pointed}
use Rattle.spec.specs.Contents.{highest}
use Rattle.spec.specs.Plans.{max_items, fits_batch}
use Rattle.session.specs.declared.Control.{Control}
use Rattle.theory_base.proofs.Lists.{not-both}
use Rattle.theory_log.specs.Batch.{Kind, put, block, delete, Right}
use Rattle.theory_log.specs.Contents.{Mem, CountsOn}
use Rattle.theory_log.proofs.Contents.{mem-cases, highest-insert}
use Rattle.buffer.specs.Areas.{batch_room}
use Rattle.session.specs.State.{batch_words}
use Rattle.session.specs.Fits.{ItemsFit, BatchFits}
use Rattle.session.proofs.Part.{words-within, words-counted}
use Rattle.batch.specs.Items.{StagedIn}
use Rattle.batch.specs.Added.{Added}
use Rattle.batch.proofs.Items.{right-more}
use Rattle.batch.proofs.Count.{is_old, fresh_with, keys-more}

-- one more item counts on
pub counts-more : (es items : List Entry) (e : Entry) → CountsOn es items → e.version ≡ suc (highest e.key (es ++ items)) → CountsOn es (items ++ (e ∷ []))
counts-more es [] e c v = (v ∙ ap (λ (l : List Entry). suc (highest e.key l)) (append-nil es), tt)
counts-more es (x ∷ items) e c v = (c.0, counts-more (x ∷ es) items e c.1 (v ∙ ap suc (sym (highest-insert e.key es items x))))

-- the length of a value in the log
in-log-small : (op pl x : ℕ) → Kind op pl x → pl ≡ 0 → x < 2 ^ 40
in-log-small op pl x (put h) z = omega arith
in-log-small op pl x block z = absurd (omega arith)
in-log-small op pl x delete z = omega arith

lines-bytes : (n : ℕ) → leb (8 * n) 4096 ≡ leb n batch_room
lines-bytes n = go (dec_le n batch_room)
  where
    go : Dec (n ≤ batch_room) → leb (8 * n) 4096 ≡ leb n batch_room
    go (yes h) = le-leb (8 * n) 4096 (omega arith) ∙ sym (le-leb n batch_room h)
    go (no h) = lt-leb (8 * n) 4096 (omega arith) ∙ sym (lt-leb n batch_room (omega arith))

-- an item in the log has no block
items_more : (p n : ℕ) (ws : List ℕ) (es items : List Entry) (e : Entry) → e.placement ≡ 0 → ItemsFit p n ws es items → ItemsFit p n ws es (items ++ (e ∷ []))
items_more p n ws es items e log f = record {
  blocks = λ g m. ⊎_elim (f.blocks g) (λ s. rw (plain g s)) (which g m);
  dead = λ g h m t y q z. ⊎_elim (λ i. f.dead g h i t y q z) (λ s. absurd (not-both (pointed g) y (plain g s))) (which g m);
  own = λ g h m l y q z.
      ⊎_elim (λ i. ⊎_elim (λ j. f.own g h i j y q z) (λ s. absurd (not-both (pointed h) q (plain h s))) (which h l)) (λ s. absurd (not-both (pointed g) y (plain g s))) (which g m);
}
  where
    which : (g : Entry) → Mem g (items ++ (e ∷ [])) → Mem g items ⊎ (g ≡ e)
    which g m = ⊎_elim inl (⊎_elim inr (λ z. absurd z)) (mem-cases g items (e ∷ []) m)

    plain : (g : Entry) → g ≡ e → pointed g ≡ false
    plain g s = rw (ap (λ (x : Entry). x.placement) s ∙ log) (none (eqb g.op 1))
      where
        none : (t : Bool) → both t false ≡ false
        none true = refl
        none false = refl

module _ (c : Control) (b : List ℕ) (p n : ℕ) (ws : List ℕ) (es items : List Entry) (fits : BatchFits c b p n ws es items) where
  pub fits-staged : StagedIn b c.words items
  unfolding batch_words
  fits-staged = record { written = fits.written; right = fits.right; marked = fits.marked }

  -- 10, as the code asks it
  pub fits-batch : (m : ℕ) → fits_batch items m ≡ both (ltb c.items max_items) (leb (c.words + m) batch_room)
  fits-batch m =
      ap (λ (t : Bool). both (ltb (length items) max_items) t) (lines-bytes (length (encode_all items) + m))
      ∙ ap (λ (k : ℕ). both (ltb (length items) max_items) (leb (k + m) batch_room)) (sym (words-counted c b p n ws es items fits))
      ∙ ap (λ (k : ℕ). both (ltb k max_items) (leb (c.words + m) batch_room)) (sym fits.count)

  -- THE BATCH WITH ONE MORE ITEM, whose value is in the log
  pub batch-more : (c' : Control) (b' : List ℕ) (e : Entry) → Added b b' c.words c'.words e
      → c.words + (2 + length e.value) ≤ batch_room → c.items < max_items → Right e → e.placement ≡ 0 → e.version ≡ suc (highest e.key (es ++ items))
      → c'.items ≡ c.items + 1 → c'.keys ≡ c.keys → c'.fresh ≡ fresh_with (is_old e.key es items) c.fresh
      → BatchFits c' b' p n ws es (items ++ (e ∷ []))
  batch-more c' b' e a room less r log v ni k f =
      let q : c'.words ≡ c.words + (2 + length e.value) = a.count room in
      let i : c.items ≡ length items = fits.count in
      let m : length (items ++ (e ∷ [])) ≡ length items + 1 = length-append items (e ∷ []) in
      let within : c'.words ≤ batch_room = omega arith in
      record {
        room = within;
        written = words-within c' b' within
            ∙ a.written room r (in-log-small e.op e.placement e.field r.kind log) items (sym (words-within c b fits.room) ∙ fits.written);
        count = omega arith;
        few = omega arith;
        right = right-more items e fits.right r;
        counts = counts-more es items e fits.counts v;
        fit = items_more p n ws es items e log fits.fit;
        marked = a.marked room items (sym (words-within c b fits.room) ∙ fits.written) fits.marked;
        keys = rw (k, f) (keys-more c.keys c.fresh es items fits.keys e);
      }
