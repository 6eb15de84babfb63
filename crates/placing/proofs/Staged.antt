-- The blocks to which staged items point, asked by a pass over the staged words; and a block that is neither live nor
-- staged.
-- Assumes nothing.
use mathlib.Core.Path.{◌≡◌, refl, sym, ◌∙◌, ap}
use mathlib.Core.Bool.{Bool, true, false}
use mathlib.Core.List.{List, [], ◌∷◌, ◌++◌, map}
use Prim.Native.Nat.{ℕ, suc, ◌+◌, ◌-◌, ◌≤◌, ◌<◌, min}
use native.Mathlib.Omega.{arith}
use lib.Dec.{eqb}
use lib.ListN.{get_or}
use Rattle.spec.specs.Basics.{pick, both, either, negate, filter, is_in}
use Rattle.spec.specs.Log.{Entry, first_of_word, head_of, encode_all}
use Rattle.spec.specs.Blocks.{pointed}
use Rattle.spec.specs.Contents.{pointers, live_blocks}
use Rattle.spec.specs.declared.FirstWord.{FirstWord}
use Rattle.spec.specs.declared.FirstWord.TheVariants as F
use Rattle.theory_log.proofs.Batch.{first-right}
use Rattle.buffer.specs.Areas.{batch_room}
use Rattle.session.specs.State.{buffer_part}
use Rattle.batch.specs.Items.{StagedIn, item_by}
use Rattle.batch.proofs.Pass.{Reached, reached-start, reached-end, reached-next}
use Rattle.placing.specs.declared.blocks.Met.{Met}
use Rattle.placing.specs.Blocks.{met_by, spare}

-- THE PASS
-- what the first word of the first item left says
reads : (b : List ℕ) (end at : ℕ) (e : Entry) (items : List Entry) → at < end → Reached b end at (e ∷ items)
    → first_of_word (get_or b at 0) ≡ F.Entry e.op e.placement e.version e.field
reads b end at e items l r =
    let w = r.written in
    let m : end - at ≡ suc (end - suc at) = omega arith in
    let one : get_or b at 0 ∷ buffer_part b (suc at) (end - suc at) ≡ encode_all (e ∷ items) = rw m at w in
    let head : get_or b at 0 ≡ head_of e = cc in
    ap first_of_word head ∙ first-right e.op e.placement e.version e.field r.right.0.kind r.right.0.low r.right.0.high

-- one item among those pointed to
points : (u : ℕ) (e : Entry) (items : List Entry) → is_in u (pointers (e ∷ items)) ≡ either (both (pointed e) (eqb e.field u)) (is_in u (pointers items))
points u e items = go (pointed e)
  where
    go : (b : Bool) → is_in u (map (λ (x : Entry). x.field) (pick b (e ∷ filter pointed items) (filter pointed items))) ≡ either (both b (eqb e.field u)) (is_in u (pointers items))
    go true = refl
    go false = refl

module _ (b : List ℕ) (words u : ℕ) where
  -- whether all items point there is whether those not yet reached do
  abbrev pub Passing : ℕ → Type 0
  Passing at = (items : List Entry) → StagedIn b words items → (tail : List Entry) × Reached b (min words batch_room) at tail × (is_in u (pointers items) ≡ is_in u (pointers tail))

  pub pass-start : Passing 0
  pass-start items s = (items, reached-start b words items s, refl)

  pub pass-end : (at : ℕ) → min words batch_room ≤ at → Passing at → (items : List Entry) → StagedIn b words items → false ≡ is_in u (pointers items)
  pass-end at l p items s = let q = p items s in sym (q.2 ∙ ap (λ (t : List Entry). is_in u (pointers t)) (reached-end b (min words batch_room) at q.0 l q.1))

  module _ (at : ℕ) (met : Met) (l : at < min words batch_room) (told : met ≡ met_by u (first_of_word (get_or b at 0))) (p : Passing at) where
    -- the item here, and what is left behind it
    record Here (items : List Entry) : Type 0 where
      tail : List Entry
      behind : Reached b (min words batch_room) (at + met.size) tail
      whole : is_in u (pointers items) ≡ either met.here (is_in u (pointers tail))

    at_head : (items left : List Entry) → Reached b (min words batch_room) at left → is_in u (pointers items) ≡ is_in u (pointers left) → Here items
    at_head items left r e =
        let i = item_by (first_of_word (get_or b at 0)) (get_or b (at + 1) 0) in
        let n = reached-next b (min words batch_room) at left i l refl r in
        let r' : Reached b (min words batch_room) at (n.head ∷ n.tail) = rw n.split at r in
        let f = reads b (min words batch_room) at n.head n.tail l r' in
        let m : met ≡ met_by u (F.Entry n.head.op n.head.placement n.head.version n.head.field) = told ∙ ap (met_by u) f in
        let s : i.size ≡ met.size = ap (λ (x : FirstWord). (item_by x (get_or b (at + 1) 0)).size) f ∙ sym (ap (λ (x : Met). x.size) m) in
        let h : met.here ≡ both (pointed n.head) (eqb n.head.field u) = ap (λ (x : Met). x.here) m in
        record {
          tail = n.tail;
          behind = rw s at n.behind;
          whole = e ∙ ap (λ (t : List Entry). is_in u (pointers t)) n.split ∙ points u n.head n.tail ∙ ap (λ (x : Bool). either x (is_in u (pointers n.tail))) (sym h);
        }

    pub pass-next : met.here ≡ false → Passing (at + met.size)
    pass-next e items s =
        let q = p items s in
        let h = at_head items q.0 q.1 q.2 in
        (h.tail, h.behind, h.whole ∙ ap (λ (x : Bool). either x (is_in u (pointers h.tail))) e)

    pub pass-stop : met.here ≡ true → (items : List Entry) → StagedIn b words items → true ≡ is_in u (pointers items)
    pass-stop e items s =
        let q = p items s in
        let h = at_head items q.0 q.1 q.2 in
        sym (h.whole ∙ ap (λ (x : Bool). either x (is_in u (pointers h.tail))) e)

-- A BLOCK neither live nor staged
is_in-append : (u : ℕ) (xs ys : List ℕ) → is_in u (xs ++ ys) ≡ either (is_in u xs) (is_in u ys)
is_in-append u [] ys = refl
is_in-append u (x ∷ xs) ys = go (eqb x u) (is_in-append u xs ys)
  where
    go : (b : Bool) → is_in u (xs ++ ys) ≡ either (is_in u xs) (is_in u ys) → either b (is_in u (xs ++ ys)) ≡ either (either b (is_in u xs)) (is_in u ys)
    go true q = refl
    go false q = q

pub spare-by : (u : ℕ) (es items : List Entry) (live staged : Bool) → live ≡ is_in u (live_blocks es) → staged ≡ is_in u (pointers items) → spare es items u ≡ negate (either live staged)
spare-by u es items live staged e f =
    let r : either (is_in u (live_blocks es)) (is_in u (pointers items)) ≡ either live staged = rw (e, f) in
    ap negate (is_in-append u (live_blocks es) (pointers items) ∙ r)
