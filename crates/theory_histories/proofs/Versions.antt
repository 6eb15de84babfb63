-- A version in hand: what look-up hands out is the version that a staging must name, and of two windows that name the
-- same version at most one is served: the item of the first has the version behind it, and the second gets 17, or 9 or
-- 11 before it, while that item is staged and when its commit has ended, whatever was staged with it. A cleaning leaves
-- a present key its version.
-- Assumes nothing.
use Rattle.std.proofs.lemmas.Bool.Decides.{nat_tests}
use mathlib.Core.Path.{◌≡◌, refl, sym, ◌∙◌, ap}
use mathlib.Core.Logic.{◌⊎◌, inl, inr}
use mathlib.Core.Bool.{Bool, true, false}
use mathlib.Core.Option.{some}
use mathlib.Core.List.{List, [], ◌∷◌, ◌++◌, append_assoc}
use Prim.Native.Nat.{ℕ, suc, ◌+◌, ◌≤◌, ◌<◌}
use native.Mathlib.Omega.{arith}
use lib.Dec.{eqb, leb}
use lib.ListN.{length}
use borrow.Author.Tests.{eqb-true, eq-eqb, ne_eqb, le-leb, lt-leb}
use Rattle.spec.specs.Basics.{pick, larger}
use Rattle.spec.specs.Words.{packed}
use Rattle.spec.specs.Medium.{Action, Medium, run, latest, CanCutTo}
use Rattle.spec.specs.Log.{Entry, Parsed, max_in_log}
use Rattle.spec.specs.Blocks.{block_limit}
use Rattle.spec.specs.Blocks.{block_size}
use Rattle.spec.specs.Contents.{Held, highest, chosen, listed, entries_in}
use Rattle.spec.specs.Plans.{Task, Plan, Refuse, Begin, Slot, InData, InFree, Nowhere, Staging, need, next_version, present, fits_version, entry, slot_for, stage_large, stage_put, plan_put, plan_delete, plan_commit, plan_clean, look_up}
use Rattle.spec.specs.Book.{Item}
use Rattle.std.specs.declared.option.Option.TheVariants as G
use Rattle.spec.specs.declared.Refusal.{Refusal}
use Rattle.spec.specs.declared.Refusal.TheVariants as N
use Rattle.spec.specs.declared.Report.TheVariants as R
use Rattle.theory_log.specs.Contents.{Mem}
use Rattle.theory_log.proofs.Contents.{version_of, larger-zero, chosen-best, highest-best, highest-append, highest-none, chosen_is}
use Rattle.theory_log.proofs.Tops.{chosen-top}
use Rattle.theory_base.proofs.Through.{through-end, through-prefix}
use Rattle.theory_crash.specs.Accepted.{Ok}
use Rattle.theory_crash.specs.Rest.{CutsTo}
use Rattle.theory_crash.proofs.Room.{can-latest}
use Rattle.theory_plans.specs.Standing.{Standing}
use Rattle.theory_plans.proofs.Begun.{put-begun, delete-begun}
use Rattle.theory_plans.proofs.Committing.{commit-versions}
use Rattle.theory_plans.proofs.KeptVersions.{SameVersions, clean-versions}

-- ## What look-up hands out

-- the entry whose part it is: a put, and the key's chosen one
pub record Looked (es : List Entry) (k v : ℕ) : Type 0 where
  pub entry' : Entry
  pub is-chosen : chosen k es ≡ some entry'
  pub is-put : eqb entry'.op 1 ≡ true
  pub has : entry'.version ≡ v

looked : (ws : List ℕ) (es : List Entry) (k a n v : ℕ) → look_up ws es k ≡ R.Part a n v → Looked es k v
unfolding look_up
looked ws es k a n v h = grind (arith, nat_tests)

pub looked-version : (ws : List ℕ) (es : List Entry) (k a n v : ℕ) → look_up ws es k ≡ R.Part a n v → highest k es ≡ v
looked-version ws es k a n v h = let l = looked ws es k a n v h in sym (highest-best k es) ∙ ap version_of (sym (chosen-best k es) ∙ l.is-chosen) ∙ l.has

-- so the one that a staging has to name while no item of the key is staged
pub looked-named : (ws : List ℕ) (es items : List Entry) (k a n v : ℕ) → look_up ws es k ≡ R.Part a n v → ((e : Entry) → Mem e items → e.key ≡ k → ⊥) → highest k (es ++ items) ≡ v
looked-named ws es items k a n v h unstaged =
    highest-append k es items ∙ ap (larger (highest k es)) (highest-none k items unstaged) ∙ larger-zero (highest k es) ∙ looked-version ws es k a n v h

-- ## One item more

-- an item that counts on is its key's highest
counts-on : (k : ℕ) (es items : List Entry) (e : Entry) → e.key ≡ k → e.version ≡ suc (highest k (es ++ items)) → highest k (es ++ (items ++ (e ∷ []))) ≡ suc (highest k (es ++ items))
counts-on k es items e of-key next =
    ap (highest k) (sym (append_assoc es items (e ∷ [])))
    ∙ highest-append k (es ++ items) (e ∷ [])
    ∙ ap (λ (b : Bool). larger (highest k (es ++ items)) (pick b (larger e.version 0) 0)) (eq-eqb e.key k of-key)
    ∙ last (highest k (es ++ items)) e.version (omega arith)
    ∙ next
  where
    last : (h w : ℕ) → h < w → larger h (larger w 0) ≡ w
    last h w l = rw (lt-leb w 0 (omega arith), le-leb h w (omega arith))

-- the items of a plan that begins are one more: of the key, with the next version
More : (k : ℕ) (es items items' : List Entry) → Type 0
More k es items items' = highest k (es ++ items') ≡ suc (highest k (es ++ items))

one_more : (k : ℕ) (es items items₁ items' : List Entry) (task task₁ : Task) (acts acts₁ : List Action) (e : Entry) → items₁ ≡ items ++ (e ∷ []) → e.key ≡ k → e.version ≡ suc (highest k (es ++ items))
    → Begin items₁ task₁ acts₁ ≡ Begin items' task acts → More k es items items'
unfolding More
one_more k es items items₁ items' task task₁ acts acts₁ e is of-key next h =
    let q : items₁ ≡ items' = cc in
    ap (λ (l : List Entry). highest k (es ++ l)) (sym q ∙ is) ∙ counts-on k es items e of-key next

staged-more : (p n : ℕ) (ws : List ℕ) (k : ℕ) (es items items' : List Entry) (task : Task) (acts : List Action) (bytes : List ℕ)
    → stage_put p n ws es items (next_version k es items) k bytes ≡ Begin items' task acts → More k es items items'
staged-more p n ws k es items items' task acts bytes h = go (leb (length bytes) max_in_log) (slot_for p n ws es items (block_size p (length bytes))) h
  where
    go : (b : Bool) (q : Slot) → pick b (Begin (items ++ (entry 1 0 (next_version k es items) (length bytes) k (packed bytes) ∷ [])) Staging []) (stage_large p ws items (next_version k es items) k bytes q) ≡ Begin items' task acts
        → More k es items items'
    go true q g = one_more k es items _ items' task _ acts _ (entry 1 0 (next_version k es items) (length bytes) k (packed bytes)) refl refl refl g
    go false (InData u) g = one_more k es items _ items' task _ acts _ (entry 1 1 (next_version k es items) u k []) refl refl refl g
    go false (InFree c) g = one_more k es items _ items' task _ acts _ _ refl refl refl g
    go false Nowhere g = absurd (let o : ◌≡◌ {A = ℕ} 0 1 = cc in omega arith)

-- ## For a version named

-- an accepted staging leaves the version behind the one that it named
pub put-named : (p n : ℕ) (ws : List ℕ) (table : ℕ) (es items items' : List Entry) (task : Task) (acts : List Action) (v k : ℕ) (bytes : List ℕ)
    → plan_put p n ws table es items (G.Some v) k bytes ≡ Begin items' task acts → highest k (es ++ items') ≡ v + 1
unfolding More
put-named p n ws table es items items' task acts v k bytes h =
    let b = put-begun p n ws table es items (G.Some v) k bytes items' task acts h in
    let q : v ≡ highest k (es ++ items) = eqb-true v (highest k (es ++ items)) b.named in
    let m = staged-more p n ws k es items items' task acts bytes b.staged in
    m ∙ omega arith

pub delete-named : (table : ℕ) (es items items' : List Entry) (task : Task) (acts : List Action) (v k : ℕ)
    → plan_delete table es items (G.Some v) k ≡ Begin items' task acts → highest k (es ++ items') ≡ v + 1
unfolding More
delete-named table es items items' task acts v k h =
    let b = delete-begun table es items (G.Some v) k items' task acts h in
    let q : v ≡ highest k (es ++ items) = eqb-true v (highest k (es ++ items)) b.named in
    let m = one_more k es items _ items' task _ acts _ (entry 2 0 (next_version k es items) 0 k []) refl refl refl b.staged in
    m ∙ omega arith

-- and one that names another version than the highest is refused
refused-either : (a b : Bool) (x y : Refusal) (q : Plan) → b ≡ false → (need a x (need b y q) ≡ Refuse x) ⊎ (need a x (need b y q) ≡ Refuse y)
refused-either true true x y q h = absurd (let o : ◌≡◌ {A = ℕ} 0 1 = cc in omega arith)
refused-either true false x y q h = inr refl
refused-either false b x y q h = inl refl

module _ (es items : List Entry) (v k : ℕ) (other : highest k (es ++ items) ≡ v → ⊥) where
  unlike : fits_version (G.Some v) k es items ≡ false
  unlike = ne_eqb v (highest k (es ++ items)) (λ q. other (sym q))

  pub put_other : (p n : ℕ) (ws : List ℕ) (table : ℕ) (bytes : List ℕ)
      → (plan_put p n ws table es items (G.Some v) k bytes ≡ Refuse N.TooLong) ⊎ (plan_put p n ws table es items (G.Some v) k bytes ≡ Refuse N.OtherVersion)
  unfolding plan_put
  put_other p n ws table bytes = refused-either (leb (length bytes) (block_limit p)) (fits_version (G.Some v) k es items) N.TooLong N.OtherVersion _ unlike

  pub delete-other : (table : ℕ) → (plan_delete table es items (G.Some v) k ≡ Refuse N.KeyAbsent) ⊎ (plan_delete table es items (G.Some v) k ≡ Refuse N.OtherVersion)
  unfolding plan_delete
  delete-other table = refused-either (present k es items) (fits_version (G.Some v) k es items) N.KeyAbsent N.OtherVersion _ unlike

-- TWO WINDOWS that name the same version: behind an accepted put or delete of the first the second gets 17, or 9 or 11
pub second-put : (p n : ℕ) (ws : List ℕ) (table : ℕ) (es items : List Entry) (v k : ℕ) (bytes : List ℕ) → highest k (es ++ items) ≡ v + 1
    → (plan_put p n ws table es items (G.Some v) k bytes ≡ Refuse N.TooLong) ⊎ (plan_put p n ws table es items (G.Some v) k bytes ≡ Refuse N.OtherVersion)
second-put p n ws table es items v k bytes h = put_other es items v k (λ q. omega arith) p n ws table bytes

pub second-delete : (table : ℕ) (es items : List Entry) (v k : ℕ) → highest k (es ++ items) ≡ v + 1
    → (plan_delete table es items (G.Some v) k ≡ Refuse N.KeyAbsent) ⊎ (plan_delete table es items (G.Some v) k ≡ Refuse N.OtherVersion)
second-delete table es items v k h = delete-other es items v k (λ q. omega arith) table

-- ## Behind a commit

-- what counted as staged counts when the commit has ended: every version but the highest, staged items counted, is
-- refused then, too; so is the one that an item of the batch was staged for, however many stood behind it
module _ (p : ℕ) (lo : 12 ≤ p) (hi : p ≤ 16) (n table : ℕ) (C : ℕ → Held) (book : List Item) (items items' : List Entry) (task : Task) (acts : List Action) (m : Medium)
    (s : Standing p n table C book items m) (h : plan_commit p n (latest m) items ≡ Begin items' task acts) (v k : ℕ) (other : highest k (entries_in p n (latest m) ++ items) ≡ v → ⊥) where
  abbrev ws' : List ℕ
  ws' = latest (run acts m)

  abbrev es' : List Entry
  es' = entries_in p n ws'

  counted : highest k (es' ++ []) ≡ highest k (entries_in p n (latest m) ++ items)
  counted = highest-append k es' [] ∙ larger-zero (highest k es') ∙ commit-versions p lo hi n table C book items items' task acts m s h k

  pub committed-put : (bytes : List ℕ)
      → (plan_put p n ws' table es' [] (G.Some v) k bytes ≡ Refuse N.TooLong) ⊎ (plan_put p n ws' table es' [] (G.Some v) k bytes ≡ Refuse N.OtherVersion)
  committed-put bytes = put_other es' [] v k (λ q. other (sym counted ∙ q)) p n ws' table bytes

  pub committed-delete : (plan_delete table es' [] (G.Some v) k ≡ Refuse N.KeyAbsent) ⊎ (plan_delete table es' [] (G.Some v) k ≡ Refuse N.OtherVersion)
  committed-delete = delete-other es' [] v k (λ q. other (sym counted ∙ q)) table

-- ## Behind a cleaning

-- what look-up handed out is the key's version in whatever a cut in a cleaning leaves, and when it has ended
module _ (p : ℕ) (lo : 12 ≤ p) (hi : p ≤ 16) (n table : ℕ) (C : ℕ → Held) (book : List Item) (items items' : List Entry) (task : Task) (acts : List Action) (m : Medium) (c : ℕ)
    (s : Standing p n table C book items m) (h : plan_clean p n (latest m) (entries_in p n (latest m)) items c ≡ Begin items' task acts) (k a l v : ℕ)
    (found : look_up (latest m) (entries_in p n (latest m)) k ≡ R.Part a l v) where
  abbrev es : List Entry
  es = entries_in p n (latest m)

  same : (xs : List ℕ) (fs : List Entry) → Ok p n xs fs → SameVersions es fs → highest k (entries_in p n xs) ≡ v
  same xs fs ok kept =
      let e = looked (latest m) es k a l v found in
      let of-key = (chosen_is k es e.entry' e.is-chosen).of-key in
      ap (λ (q : Parsed). highest k (listed q)) ok.parsed ∙ ap (λ (j : ℕ). highest j fs) (sym of-key) ∙ kept e.entry' (chosen-top k es e.entry' e.is-chosen) e.is-put ∙ e.has

  pub cut-cleaned : (done todo : List Action) → acts ≡ done ++ todo → (xs : List ℕ) → CanCutTo (run done m) xs → highest k (entries_in p n xs) ≡ v
  cut-cleaned done todo split xs can =
      let t = through-prefix (CutsTo p n (SameVersions es)) (CutsTo p n (SameVersions es)) (λ m' x. x) done todo m (rw split at (clean-versions p lo hi n table C book items items' task acts m c s h)) xs can in
      same xs t.0 t.1.0 t.1.1

  pub cleaned-version : highest k (entries_in p n (latest (run acts m))) ≡ v
  cleaned-version =
      let t = through-end (CutsTo p n (SameVersions es)) (CutsTo p n (SameVersions es)) acts m (clean-versions p lo hi n table C book items items' task acts m c s h) (latest (run acts m)) (can-latest (run acts m)) in
      same (latest (run acts m)) t.0 t.1.0 t.1.1
