-- What new entries do to the contents: items that count on are done in order; copies change nothing.
-- Assumes nothing.
use mathlib.Core.Path.{◌∙◌}
use mathlib.Core.List.{List}
use Prim.Native.Nat.{ℕ}
use Rattle.spec.specs.Log.{Entry, placed}
use Rattle.theory_log.specs.Contents.{done, CountsOn, Mem}
use Rattle.theory_log.proofs.Contents.{contents-batch, done-same}
use Rattle.theory_log.proofs.Agree.{agree-batch, contents-publish, agree-publish}
use Rattle.theory_crash.specs.Batch.{Effect}
use Rattle.theory_crash.proofs.Publish.{done-mean}

pub items : (es batch : List Entry) → CountsOn es batch → Effect es batch (λ mean c. done mean batch c)
items es batch counts = record {
  agrees = λ xs ys e a. agree-batch batch xs ys (rw e at counts) (rw e at a);
  gives = λ mean free xs ys e a k. contents-batch mean batch xs ys (rw e at counts) k ∙ done-same mean batch _ _ (λ j. rw e) k;
  extends = λ mean mean' c c' h g k. done-same mean' batch c' c g k ∙ done-mean mean mean' batch h c k;
}

pub copies : (es cs : List Entry) (at : ℕ) → ((e : Entry) → Mem e cs → Mem e es) → Effect es (placed at cs) (λ mean c. c)
copies es cs at are = record {
  agrees = λ xs ys e a. agree-publish xs ys cs at (rw e at a) (λ f m. rw (← e) (are f m));
  gives = λ mean free xs ys e a k. contents-publish xs ys cs at (rw e at a) (λ f m. rw (← e) (are f m)) mean free k ∙ rw e;
  extends = λ mean mean' c c' h g k. g k;
}
