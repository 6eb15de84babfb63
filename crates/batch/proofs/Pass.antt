-- A pass over the words of the batch: at each item's first word stands what the item says, and the other items stand
-- behind it.
-- Assumes nothing.
use mathlib.Core.Path.{◌≡◌, refl, sym, ◌∙◌, ap}
use mathlib.Core.List.{List, [], ◌∷◌, ◌++◌}
use Prim.Native.Nat.{ℕ, suc, ◌+◌, ◌-◌, ◌*◌, ◌/◌, ◌%◌, ◌≤◌, ◌<◌, min}
use native.Mathlib.Omega.{arith}
use lib.ListN.{length, get_or, length-append}
use Rattle.spec.specs.Log.{Entry, first_of_word, words_for, head_of, encode, encode_all}
use Rattle.spec.specs.declared.FirstWord.{FirstWord}
use Rattle.spec.specs.declared.FirstWord.TheVariants as F
use Rattle.theory_log.specs.Batch.{Kind, put, block, delete, Right, AllRight}
use Rattle.theory_log.specs.Fold.{fold_e}
use Rattle.theory_log.proofs.Batch.{first-right}
use Rattle.buffer.specs.Areas.{batch_room}
use Rattle.session.specs.State.{buffer_part}
use Rattle.session.proofs.Part.{length_part}
use Rattle.batch.specs.declared.Item.{Item}
use Rattle.std.specs.Prelude.{Option}
use Rattle.batch.specs.declared.Latest.{Latest}
use Rattle.batch.specs.Items.{StagedIn, item_by, item_of, later_of, pass}
use Rattle.batch.proofs.Part.{part-behind}

-- from word `at` to word `end` stand these items
pub record Reached (b : List ℕ) (end at : ℕ) (items : List Entry) : Type 0 where
  pub before : at ≤ end
  pub written : buffer_part b at (end - at) ≡ encode_all items
  pub right : AllRight items

pub reached-start : (b : List ℕ) (words : ℕ) (items : List Entry) → StagedIn b words items → Reached b (min words batch_room) 0 items
reached-start b words items s =
    let z : min words batch_room - 0 ≡ min words batch_room = omega arith in
    record { before = omega arith; written = rw z s.written; right = s.right }

pub reached-end : (b : List ℕ) (end at : ℕ) (items : List Entry) → end ≤ at → Reached b end at items → items ≡ []
reached-end b end at [] l r = refl
reached-end b end at (e ∷ items) l r =
    let q : length (buffer_part b at (end - at)) ≡ length (encode_all (e ∷ items)) = ap length r.written in
    let n = length_part b at (end - at) in
    absurd (omega arith)

-- the item that stands at a word, and what is reached behind it
pub record Headed (b : List ℕ) (end at : ℕ) (items : List Entry) (i : Item) : Type 0 where
  pub head : Entry
  pub tail : List Entry
  pub split : items ≡ head ∷ tail
  pub op : i.op ≡ head.op
  pub version : i.version ≡ head.version
  pub key : i.key ≡ head.key
  pub behind : Reached b end (at + i.size) tail

-- an item read at that word, as the words of an entry say it
abbrev item_for : Entry → Item
item_for e = record { op = e.op; version = e.version; key = e.key; size = 2 + words_for e.placement e.field }

headed : (b : List ℕ) (end at : ℕ) (items : List Entry) (i : Item) → at < end
    → ((e : Entry) → Right e → get_or b at 0 ≡ head_of e → get_or b (at + 1) 0 ≡ e.key → i ≡ item_for e)
    → Reached b end at items → Headed b end at items i
headed b end at [] i l q r = absurd (let n = length_part b at (end - at) in let z = ap length r.written in omega arith)
headed b end at (e ∷ items) i l q r =
    let n : length e.value ≡ words_for e.placement e.field = r.right.0.words in
    let w = r.written in
    let m : end - at ≡ suc (end - suc at) = omega arith in
    let one : get_or b at 0 ∷ buffer_part b (suc at) (end - suc at) ≡ encode_all (e ∷ items) = rw m at w in
    let first : get_or b at 0 ≡ head_of e = cc in
    let more : buffer_part b (suc at) (end - suc at) ≡ e.key ∷ (e.value ++ encode_all items) = cc in
    let long = ap length more ∙ ap suc (length-append e.value (encode_all items)) in
    let k = length_part b (suc at) (end - suc at) in
    let m2 : end - suc at ≡ suc (end - suc (suc at)) = omega arith in
    let two : get_or b (suc at) 0 ∷ buffer_part b (suc (suc at)) (end - suc (suc at)) ≡ e.key ∷ (e.value ++ encode_all items) = rw m2 at more in
    let second : get_or b (suc at) 0 ≡ e.key = cc in
    let behind = part-behind b at (end - at) (encode e) (encode_all items) w in
    let s : at + 1 ≡ suc at = omega arith in
    let next : get_or b (at + 1) 0 ≡ e.key = ap (λ (j : ℕ). get_or b j 0) s ∙ second in
    let says : i ≡ item_for e = q e r.right.0 first next in
    let size : i.size ≡ 2 + words_for e.placement e.field = ap (λ (x : Item). x.size) says in
    let from : at + i.size ≡ at + suc (suc (length e.value)) = omega arith in
    let left : end - (at + i.size) ≡ end - at - suc (suc (length e.value)) = omega arith in
    record {
      head = e;
      tail = items;
      split = refl;
      op = ap (λ (x : Item). x.op) says;
      version = ap (λ (x : Item). x.version) says;
      key = ap (λ (x : Item). x.key) says;
      behind = record {
        before = omega arith;
        written = ap (buffer_part b (at + i.size)) left ∙ ap (λ (j : ℕ). buffer_part b j (end - at - suc (suc (length e.value)))) from ∙ behind;
        right = r.right.1;
      };
    }

-- read through the first word's parts, each tested
pub reached-next : (b : List ℕ) (end at : ℕ) (items : List Entry) (i : Item) → at < end → i ≡ item_by (first_of_word (get_or b at 0)) (get_or b (at + 1) 0)
    → Reached b end at items → Headed b end at items i
reached-next b end at items i l q r =
    headed b end at items i l
    (λ e right first next.
    q
    ∙ ap (λ (w : ℕ). item_by (first_of_word w) (get_or b (at + 1) 0)) first
    ∙ ap (λ (f : FirstWord). item_by f (get_or b (at + 1) 0)) (first-right e.op e.placement e.version e.field right.kind right.low right.high)
    ∙ ap (item_by (F.Entry e.op e.placement e.version e.field)) next)
    r

-- read as if the word began an item
parts : (op pl v x key : ℕ) → op < 4 → pl < 4 → v < 1048576
    → item_of (op + 4 * pl + 16 * v + 16777216 * x) key ≡ record { op = op; version = v; key = key; size = 2 + words_for pl x }
parts op pl v x key ho hp hv =
    let w = op + 4 * pl + 16 * v + 16777216 * x in
    let a : w % 4 ≡ op = omega arith in
    let q : w / 4 ≡ pl + 4 * (v + 1048576 * x) = omega arith in
    let b : w / 4 % 4 ≡ pl = rw q (omega arith) in
    let s : w / 16 ≡ v + 1048576 * x = omega arith in
    let c : w / 16 % 1048576 ≡ v = rw s (omega arith) in
    let d : w / 16777216 ≡ x = omega arith in
    rw (a, b, c, d)

item-right : (op pl v x key : ℕ) → Kind op pl x → v < 1048576
    → item_of (op + 4 * pl + 16 * v + 16777216 * x) key ≡ record { op = op; version = v; key = key; size = 2 + words_for pl x }
item-right op pl v x key (put h) u = parts 1 0 v x key (omega arith) (omega arith) u
item-right op pl v x key block u = parts 1 1 v x key (omega arith) (omega arith) u
item-right op pl v x key delete u = parts 2 0 v 0 key (omega arith) (omega arith) u

pub reached-by : (b : List ℕ) (end at : ℕ) (items : List Entry) (i : Item) → at < end → i ≡ item_of (get_or b at 0) (get_or b (at + 1) 0)
    → Reached b end at items → Headed b end at items i
reached-by b end at items i l q r =
    headed b end at items i l
    (λ e right first next.
    q
    ∙ ap (λ (w : ℕ). item_of w (get_or b (at + 1) 0)) first
    ∙ ap (item_of (head_of e)) next
    ∙ item-right e.op e.placement e.version e.field e.key right.kind right.high)
    r

-- A pass: what is sought of all items is what is sought of those not yet reached.
module _ {S : Type 0} (b : List ℕ) (words : ℕ) (whole : List Entry → S) where
  abbrev pub Passing : ℕ → (List Entry → S) → Type 0
  Passing at rest = (items : List Entry) → StagedIn b words items → (tail : List Entry) × Reached b (min words batch_room) at tail × (whole items ≡ rest tail)

  pub pass-start : Passing 0 whole
  pass-start items s = (items, reached-start b words items s, refl)

  pub pass-end : (at : ℕ) (rest : List Entry → S) → min words batch_room ≤ at → Passing at rest → (items : List Entry) → StagedIn b words items → whole items ≡ rest []
  pass-end at rest l p items s = let q = p items s in q.2 ∙ ap rest (reached-end b (min words batch_room) at q.0 l q.1)

  -- at the next item
  module _ (at : ℕ) (rest : List Entry → S) (i : Item) (l : at < min words batch_room) (told : i ≡ item_of (get_or b at 0) (get_or b (at + 1) 0)) (p : Passing at rest) where
    pub pass-next : (rest' : List Entry → S) → ((e : Entry) (tail : List Entry) → i.op ≡ e.op → i.version ≡ e.version → i.key ≡ e.key → rest (e ∷ tail) ≡ rest' tail)
        → Passing (at + i.size) rest'
    pass-next rest' h items s =
        let q = p items s in
        let n = reached-by b (min words batch_room) at q.0 i l told q.1 in
        (n.tail, n.behind, q.2 ∙ ap rest n.split ∙ h n.head n.tail n.op n.version n.key)

    pub pass-stop : (r : S) → ((e : Entry) (tail : List Entry) → i.op ≡ e.op → rest (e ∷ tail) ≡ r) → (items : List Entry) → StagedIn b words items → whole items ≡ r
    pass-stop r h items s =
        let q = p items s in
        let n = reached-by b (min words batch_room) at q.0 i l told q.1 in
        q.2 ∙ ap rest n.split ∙ h n.head n.tail n.op

-- what the code does with the item: the last of a key
pub later-pass : (key : ℕ) (latest next : Option Latest) (i : Item) → next ≡ later_of key latest i.key i.op i.version
    → (e : Entry) (tail : List Entry) → i.op ≡ e.op → i.version ≡ e.version → i.key ≡ e.key → fold_e (pass key) latest (e ∷ tail) ≡ fold_e (pass key) next tail
later-pass key latest next i told e tail o v k = ap (λ (l : Option Latest). fold_e (pass key) l tail) (sym (told ∙ rw (o, v, k)))
