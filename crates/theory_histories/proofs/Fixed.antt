-- A cleaning is fixed at its begin: from the contracts of its begin and of a step alone.
-- Assumes nothing.
use mathlib.Core.Path.{◌≡◌, sym, ◌∙◌, ap}
use mathlib.Core.Logic.{◌⊎◌, inl, inr}
use mathlib.Core.Bool.{Bool, true, false}
use mathlib.Core.Option.{Option, none, some}
use mathlib.Core.List.{List, []}
use Prim.Native.Nat.{ℕ}
use native.Mathlib.Omega.{arith}
use lib.Dec.{eqb}
use lib.ListN.{length}
use Rattle.spec.specs.Basics.{pick, both}
use Rattle.spec.specs.Words.{words_of}
use Rattle.spec.specs.Places.{chunks_in}
use Rattle.spec.specs.Medium.{Action}
use Rattle.spec.specs.Contents.{entries_in}
use Rattle.spec.specs.Plans.{Olds, Cleaning, Plan, Refuse, Begin, plan_clean, planned}
use Rattle.spec.specs.Machine.{Clean, State, Closed, Rest, Busy, Formatting, items_of, state_power, gate, gated, begun, answer, next}
use Rattle.spec.specs.Contract.{Exact, Refuses, Begins, CleansIn}
use Rattle.spec.specs.Fixed.{FixedAt, Fixed}
use Rattle.spec.specs.declared.Refusal.{Refusal}
use Rattle.spec.specs.declared.Refusal.TheVariants as N
use Rattle.spec.specs.declared.Report.TheVariants as R
use Rattle.theory_histories.proofs.Ends.{never-refused, busy-goes, ends-so-far, ends-whole}

-- an accepted plan is the state's: what is begun is what the plan has
plan-is : (q : Plan) (σ : State) (bytes table a p b t : ℕ) (count : ℕ) (olds : Olds) (acts : List Action) → R.Begun a ≡ gated (gate σ bytes table) (planned q) → Busy p b t [] (Cleaning count olds) acts ≡ begun q σ → q ≡ Begin [] (Cleaning count olds) acts
plan-is (Refuse x) σ bytes table a p b t count olds acts h e = absurd (go (gate σ bytes table) h)
  where
    go : (g : Option Refusal) → R.Begun a ≡ gated g (R.Refused x) → ⊥
    go none k = never-refused a x k
    go (some y) k = never-refused a y k
plan-is (Begin items task acts') Closed bytes table a p b t count olds acts h e = absurd (let z : ◌≡◌ {A = ℕ} 0 1 = cc in omega arith)
plan-is (Begin items task acts') (Rest p' b' t' before) bytes table a p b t count olds acts h e =
    let i : items ≡ [] = cc in
    let k : task ≡ Cleaning count olds = cc in
    let l : acts' ≡ acts = cc in
    rw (i, k, l)
plan-is (Begin items task acts') (Busy p' b' t' before task' rest) bytes table a p b t count olds acts h e = absurd (go (both (eqb b' bytes) (eqb t' table)) h)
  where
    go : (g : Bool) → R.Begun a ≡ gated (pick g (some N.Unfinished) (some N.ImageLength)) (planned (Begin items task acts')) → ⊥
    go true k = never-refused a N.Unfinished k
    go false k = never-refused a N.ImageLength k
plan-is (Begin items task acts') (Formatting o b' t' rest) bytes table a p b t count olds acts h e = absurd (let z : ◌≡◌ {A = ℕ} 0 1 = cc in omega arith)

next-begun : (c : ℕ) (σ : State) (ws : List ℕ) (bytes table a : ℕ) → answer (Clean c) σ ws bytes table ≡ R.Begun a
    → next (Clean c) σ ws bytes table ≡ begun (plan_clean (state_power σ) (chunks_in (state_power σ) bytes) ws (entries_in (state_power σ) (chunks_in (state_power σ) bytes) ws) (items_of σ) c) σ
unfolding next
next-begun c σ ws bytes table a h = rw h

module _ {S : Type 0} (Proper : S → Type 0) (state_of : S → State) (Fits : S → List ℕ → List ℕ → Type 0) where
  pub fixed : Fixed Proper state_of Fits
  fixed c s s' bytes bytes' table table' a called = go called.anyway
    where
      go : Refuses (R.Begun a) ⊎ Begins (CleansIn (state_power (state_of s)) (length bytes) (length table)) (state_of s') (R.Begun a) → FixedAt Proper state_of Fits c s s' bytes table a
      go (inl (x, h)) = absurd (never-refused a x h)
      go (inr (acts, ((count, (olds, busy)), said))) =
          let long : length acts ≡ a = let e = said in let q : a ≡ length acts = cc in sym q in
          record {
            acts = acts;
            count = count;
            olds = olds;
            long = long;
            so_far = λ rs w h. ends-so-far Proper state_of Fits (length bytes) (length table) count (λ l. Busy (state_power (state_of s)) (length bytes) (length table) [] (Cleaning count olds) l) (busy-goes (state_power (state_of s)) (length bytes) (length table) [] (Cleaning count olds)) s' acts rs busy w (omega arith);
            whole = λ rs w h. ends-whole Proper state_of Fits (length bytes) (length table) count (λ l. Busy (state_power (state_of s)) (length bytes) (length table) [] (Cleaning count olds) l) (busy-goes (state_power (state_of s)) (length bytes) (length table) [] (Cleaning count olds)) s' acts rs busy w (omega arith);
            planned = λ f. ap some (plan-of acts count olds busy (called.exact f));
          }
        where
          plan-of : (acts : List Action) (count : ℕ) (olds : Olds) → state_of s' ≡ Busy (state_power (state_of s)) (length bytes) (length table) [] (Cleaning count olds) acts → Exact Proper state_of Fits (Clean c) s s' bytes bytes' table table' (R.Begun a)
              → plan_clean (state_power (state_of s)) (chunks_in (state_power (state_of s)) (length bytes)) (words_of bytes) (entries_in (state_power (state_of s)) (chunks_in (state_power (state_of s)) (length bytes)) (words_of bytes)) (items_of (state_of s)) c ≡ Begin [] (Cleaning count olds) acts
          plan-of acts count olds busy x =
              plan-is (plan_clean (state_power (state_of s)) (chunks_in (state_power (state_of s)) (length bytes)) (words_of bytes) (entries_in (state_power (state_of s)) (chunks_in (state_power (state_of s)) (length bytes)) (words_of bytes)) (items_of (state_of s)) c) (state_of s) (length bytes) (length table) a (state_power (state_of s)) (length bytes) (length table) count olds acts x.answered
              (sym busy ∙ x.became ∙ next-begun c (state_of s) (words_of bytes) (length bytes) (length table) a (sym x.answered))
