-- The last action of every commit and of every cleaning is a fence: until it is reported the call's last fence is not
-- done. A staging has no fence.
-- Assumes nothing.
use mathlib.Core.Path.{◌≡◌, refl, sym, ◌∙◌, ap}
use mathlib.Core.Bool.{Bool, true, false}
use mathlib.Core.Option.{Option, none, some}
use mathlib.Core.List.{List, [], ◌∷◌, ◌++◌, append_assoc}
use Prim.Native.Nat.{ℕ}
use native.Mathlib.Omega.{arith}
use lib.Dec.{leb}
use lib.ListN.{length, get_or}
use Rattle.spec.specs.Basics.{pick, negate, is_empty}
use Rattle.spec.specs.Words.{packed}
use Rattle.spec.specs.Places.{line_of, first_unit, unit_word, directory_word}
use Rattle.spec.specs.Medium.{Action, Store, Flush, Fence}
use Rattle.spec.specs.Directory.{is_log, role_at, lines_of, freed_word}
use Rattle.spec.specs.Log.{Entry, encode_all, max_in_log}
use Rattle.spec.specs.Blocks.{block_size}
use Rattle.spec.specs.Contents.{kept_in}
use Rattle.spec.specs.Actions.{lines_for, padded, writes, body_of, seal_of, commit_of, append_of, take_of, block_of}
use Rattle.spec.specs.Plans.{Task, Cleaning, old_of, Begin, append_to, free_needed, log_place, commit_at, plan_commit, in_use, has_live, free, clean_to, clean_log, clean_data, plan_clean, Staging, Slot, InData, InFree, Nowhere, entry, next_version, slot_for, stage_large, plan_put, plan_delete}
use Rattle.spec.specs.Basics.{Given}
use Rattle.spec.specs.declared.Refusal.TheVariants as N
use Rattle.theory_base.proofs.Through.{Each}
use Rattle.theory_crash.proofs.Cells.{each_append, each-writes, each-flushes}
use Rattle.theory_plans.proofs.Begun.{need-begin, put-begun, delete-begun}

abbrev pub EndsFenced : List Action → Type 0
EndsFenced acts = (xs : List Action) × (acts ≡ xs ++ (Fence ∷ []))

before : (xs ys : List Action) → EndsFenced ys → EndsFenced (xs ++ ys)
before xs ys (zs, e) = (xs ++ zs, ap (λ (l : List Action). xs ++ l) e ∙ sym (append_assoc xs zs (Fence ∷ [])))

seal-fenced : (c w : ℕ) → EndsFenced (seal_of c w)
seal-fenced c w = (Store (directory_word c) w ∷ Flush (line_of (directory_word c)) ∷ [], refl)

append-fenced : (p d old l : ℕ) (words : List ℕ) → EndsFenced (append_of p d old l words)
unfolding append_of commit_of
append-fenced p d old l words = before (body_of p d l (lines_for (length words)) (padded words)) (seal_of d _) (seal-fenced d _)

same-acts : (items items' : List Entry) (task task' : Task) (acts acts' : List Action) → Begin items task acts ≡ Begin items' task' acts' → EndsFenced acts → EndsFenced acts'
same-acts items items' task task' acts acts' h (xs, e) = let q : acts' ≡ acts = cc in (xs, q ∙ e)

pub commit-fenced : (p n : ℕ) (ws : List ℕ) (items items' : List Entry) (task : Task) (acts : List Action) → plan_commit p n ws items ≡ Begin items' task acts → EndsFenced acts
unfolding plan_commit
commit-fenced p n ws items items' task acts h =
    go (log_place p n ws (lines_for (length (encode_all items))) 0 (free_needed items)) (need-begin (negate (is_empty items)) N.NothingStaged _ items' task acts h).1
  where
    go : (q : Option ℕ) → commit_at p ws items q ≡ Begin items' task acts → EndsFenced acts
    go none k = absurd (let z : ◌≡◌ {A = ℕ} 0 1 = cc in omega arith)
    go (some d) k = same-acts items items' _ task (append_to p ws (encode_all items) d) acts k (append-fenced p d (get_or ws (directory_word d) 0) (lines_of p ws d) (encode_all items))

pub clean-fenced : (p n : ℕ) (ws : List ℕ) (es items items' : List Entry) (task : Task) (acts : List Action) (c : ℕ) → plan_clean p n ws es items c ≡ Begin items' task acts → EndsFenced acts
unfolding plan_clean
clean-fenced p n ws es items items' task acts c h =
    go (is_log (role_at p ws c)) (need-begin (in_use p n ws c) N.NotCleanable _ items' task acts (need-begin (is_empty items) N.BatchStaged _ items' task acts h).1).1
  where
    kept : List Entry
    kept = kept_in p c es

    freed : EndsFenced (free c ws)
    freed = seal-fenced c (freed_word (get_or ws (directory_word c) 0))

    to : (q : Option ℕ) → clean_to p ws c kept q ≡ Begin items' task acts → EndsFenced acts
    to none k = absurd (let z : ◌≡◌ {A = ℕ} 0 1 = cc in omega arith)
    to (some d) k = same-acts [] items' _ task (append_to p ws (encode_all kept) d ++ free c ws) acts k (before (append_to p ws (encode_all kept) d) (free c ws) freed)

    log : (b : Bool) → pick b (Begin [] (Cleaning 0 (old_of ws c ∷ [])) (free c ws)) (clean_to p ws c kept (log_place p n ws (lines_for (length (encode_all kept))) c 1)) ≡ Begin items' task acts → EndsFenced acts
    log true k = same-acts [] items' _ task (free c ws) acts k freed
    log false k = to (log_place p n ws (lines_for (length (encode_all kept))) c 1) k

    go : (b : Bool) → pick b (clean_log p n ws c kept) (clean_data p ws es c) ≡ Begin items' task acts → EndsFenced acts
    go true k = log (is_empty kept) k
    go false k = same-acts [] items' _ task (free c ws) acts (need-begin (negate (has_live p es c)) N.NotCleanable _ items' task acts k).1 freed

-- A STAGING, of a put or a delete
abbrev pub NoFence : Action → Type 0
NoFence (Store w v) = Unit {0}
NoFence (Flush l) = Unit {0}
NoFence Fence = ⊥

same-unfenced : (items items' : List Entry) (task task' : Task) (acts acts' : List Action) → Begin items task acts ≡ Begin items' task' acts' → Each NoFence acts → Each NoFence acts'
same-unfenced items items' task task' acts acts' h u = let q : acts' ≡ acts = cc in rw q u

block-unfenced : (u : ℕ) (words : List ℕ) → Each NoFence (block_of u words)
unfolding block_of
block-unfenced u words =
    each_append NoFence (writes (unit_word u) words) _ (each-writes NoFence (unit_word u) words (λ k v x y. tt)) (each-flushes NoFence (line_of (unit_word u)) (lines_for (length words)) (λ x. tt))

pub put-unfenced : (p n : ℕ) (ws : List ℕ) (table : ℕ) (es items : List Entry) (x : Given) (k : ℕ) (v : List ℕ) (items' : List Entry) (task : Task) (acts : List Action)
    → plan_put p n ws table es items x k v ≡ Begin items' task acts → Each NoFence acts
put-unfenced p n ws table es items x k v items' task acts h =
    go (leb (length v) max_in_log) (slot_for p n ws es items (block_size p (length v))) (put-begun p n ws table es items x k v items' task acts h).staged
  where
    version : ℕ
    version = next_version k es items

    go : (short : Bool) (slot : Slot) → pick short (Begin (items ++ (entry 1 0 version (length v) k (packed v) ∷ [])) Staging []) (stage_large p ws items version k v slot) ≡ Begin items' task acts → Each NoFence acts
    go true slot e = same-unfenced _ items' Staging task [] acts e tt
    go false (InData u) e = same-unfenced _ items' Staging task (block_of u (length v ∷ packed v)) acts e (block-unfenced u (length v ∷ packed v))
    go false (InFree c) e =
        same-unfenced _ items' Staging task (take_of c (get_or ws (directory_word c) 0) (block_size p (length v)) ++ block_of (first_unit p c) (length v ∷ packed v)) acts e
        (tt, (tt, block-unfenced (first_unit p c) (length v ∷ packed v)))
    go false Nowhere e = absurd (let z : ◌≡◌ {A = ℕ} 0 1 = cc in omega arith)

pub delete-unfenced : (table : ℕ) (es items : List Entry) (x : Given) (k : ℕ) (items' : List Entry) (task : Task) (acts : List Action)
    → plan_delete table es items x k ≡ Begin items' task acts → Each NoFence acts
delete-unfenced table es items x k items' task acts h = same-unfenced _ items' Staging task [] acts (delete-begun table es items x k items' task acts h).staged tt
