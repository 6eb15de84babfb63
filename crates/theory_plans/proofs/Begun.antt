-- What a plan that begins has met: each of its tests, and what it then begins.
-- Assumes nothing.
use Rattle.std.proofs.lemmas.Bool.Decides.{nat_tests}
use mathlib.Core.Path.{◌≡◌, refl}
use mathlib.Core.Bool.{Bool, true, false}
use mathlib.Core.List.{List, [], ◌∷◌, ◌++◌}
use Prim.Native.Nat.{ℕ}
use native.Mathlib.Omega.{arith}
use lib.Dec.{leb}
use lib.ListN.{length}
use Rattle.spec.specs.Medium.{Action}
use Rattle.spec.specs.Log.{Entry}
use Rattle.spec.specs.Blocks.{block_limit}
use Rattle.spec.specs.Plans.{Task, Staging, Plan, Begin, need, next_version, present, fits_version, fits_batch, fits_keys, max_put_version, max_version, entry, put_words, stage_put, plan_put, plan_delete}
use Rattle.spec.specs.Basics.{Given}
use Rattle.spec.specs.declared.Refusal.{Refusal}

pub need-begin : (b : Bool) (r : Refusal) (q : Plan) (items : List Entry) (task : Task) (acts : List Action) → need b r q ≡ Begin items task acts → (b ≡ true) × (q ≡ Begin items task acts)
need-begin true r q items task acts h = (refl, h)
need-begin false r q items task acts h = absurd (let z : ◌≡◌ {A = ℕ} 0 1 = cc in omega arith)

-- a put
pub record PutBegun (p n : ℕ) (ws : List ℕ) (table : ℕ) (es items : List Entry) (x : Given) (k : ℕ) (v : List ℕ) (items' : List Entry) (task : Task) (acts : List Action) : Type 0 where
  pub short : leb (length v) (block_limit p) ≡ true
  pub named : fits_version x k es items ≡ true
  pub unspent : leb (next_version k es items) max_put_version ≡ true
  pub batch : fits_batch items (put_words (length v)) ≡ true
  pub keys : fits_keys table es items k ≡ true
  pub staged : stage_put p n ws es items (next_version k es items) k v ≡ Begin items' task acts

pub put-begun : (p n : ℕ) (ws : List ℕ) (table : ℕ) (es items : List Entry) (x : Given) (k : ℕ) (v : List ℕ) (items' : List Entry) (task : Task) (acts : List Action)
    → plan_put p n ws table es items x k v ≡ Begin items' task acts → PutBegun p n ws table es items x k v items' task acts
unfolding plan_put
put-begun p n ws table es items x k v items' task acts h = grind (arith, nat_tests)

-- a delete
pub record DeleteBegun (table : ℕ) (es items : List Entry) (x : Given) (k : ℕ) (items' : List Entry) (task : Task) (acts : List Action) : Type 0 where
  pub there : present k es items ≡ true
  pub named : fits_version x k es items ≡ true
  pub unspent : leb (next_version k es items) max_version ≡ true
  pub batch : fits_batch items 2 ≡ true
  pub keys : fits_keys table es items k ≡ true
  pub staged : Begin (items ++ (entry 2 0 (next_version k es items) 0 k [] ∷ [])) Staging [] ≡ Begin items' task acts

pub delete-begun : (table : ℕ) (es items : List Entry) (x : Given) (k : ℕ) (items' : List Entry) (task : Task) (acts : List Action)
    → plan_delete table es items x k ≡ Begin items' task acts → DeleteBegun table es items x k items' task acts
unfolding plan_delete
delete-begun table es items x k items' task acts h = grind (arith, nat_tests)
