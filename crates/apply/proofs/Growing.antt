-- What the code shows of one item that joins: one law for each return.
-- Assumes nothing.
use Rattle.std.proofs.Common.{◌≡◌, ℕ, ◌+◌, ◌<◌, ◌≤◌, Bool, false, List, [], ◌∷◌, ◌++◌, length, sym, refl, ap, ◌∙◌, inl, arith, length-append}
use lib.Seq.{append_snoc}
use Rattle.spec.specs.declared.Size.{Size}
use Rattle.places.specs.Sizes.{power_of, power-low, power-high}
use Rattle.spec.specs.Basics.{both, negate}
use Rattle.spec.specs.Log.{Entry}
use Rattle.spec.specs.Contents.{keys_of, capacity}
use Rattle.theory_log.proofs.Contents.{mem-r, chosen_is}
use Rattle.theory_log.proofs.Keys.{mem-known, known-mem, keys-fewer}
use Rattle.packing.specs.declared.Info.{Info}
use Rattle.index.specs.Index.{info_at, stop_of, get, insert, put_at, capacity as table_room}
use Rattle.index.proofs.Laws.{insert-length}
use Rattle.index.proofs.Answers.{look_in, put-insert}
use Rattle.packing.specs.Packed.{unpack_of}
use Rattle.buffer.specs.Bits.{has_bit}
use Rattle.buffer.proofs.Laws.{front_kept, front-then}
use Rattle.logs.proofs.Stands.{image-stands}
use Rattle.volatile.specs.Sums.{weight, Summed}
use Rattle.volatile.proofs.Sums.{summed_same}
use Rattle.volatile.specs.Change.{Renewed}
use Rattle.volatile.proofs.Laws.{alone-front, alone-bits}
use Rattle.volatile.proofs.Joins.{joins-above}
use Rattle.volatile.specs.Known.{own_of, noted, Bounded}
use Rattle.volatile.proofs.Image.{image_bounded}
use Rattle.volatile.proofs.Grow.{Grows, grows-above, capacity-same, found_none, found-chosen, was-unknown, indexed-old, indexed-new}
use Rattle.volatile.specs.Blocks.{top_block}
use Rattle.apply.specs.Joining.{Superseded, Shown, Awaited, OneJoined}
use Rattle.volatile.proofs.Live.{mem-around}
use Rattle.apply.proofs.Freeing.{both_true}

-- Entries put anywhere into a list: numbers stay small without them, and keys are more with them.
bounded-around : (size : Size) → (xs more ys : List Entry) → Bounded size (xs ++ (more ++ ys)) → Bounded size (xs ++ ys)
bounded-around size xs more ys b =
    let p = length-append xs ys in
    let q = length-append xs (more ++ ys) in
    let r = length-append more ys in
    let f = b.few in
    record { each = λ e m. b.each e (mem-around e xs more ys m); few = omega arith }

keys-around : (xs more ys : List Entry) → length (keys_of (xs ++ ys)) ≤ length (keys_of (xs ++ (more ++ ys)))
keys-around xs more ys = keys-fewer (xs ++ ys) (xs ++ (more ++ ys)) (λ k t. let r = known-mem k (xs ++ ys) t in mem-known k (xs ++ (more ++ ys)) r.0 (mem-around r.0 xs more ys r.1) r.2)

-- An entry of a key whose probing stops at `slot`, where the table holds `old`; in `middle` its sums are renewed.
module _ (size : Size) (ws buffer middle buffer' table table' : List ℕ) (keys key own w slot old info : ℕ) (is-slot : slot ≡ stop_of table key) (is_word : old ≡ info_at table slot) (is-info : info ≡ noted size old own)
    (renewed : Renewed size ws buffer middle old own w) where
  is-old : old ≡ get table key
  is-old = is_word ∙ look_in table key slot is-slot

  -- what the entry, its place and its key give
  module _ (n : ℕ) (xs more ys : List Entry) (e : Entry) (k : e.key ≡ key) (o : own_of size e ≡ own) (awaits : Awaited size n ws table xs more ys e) (shown : Shown size buffer table keys (xs ++ ys)) where
    whole : Bounded size (xs ++ (e ∷ (more ++ ys)))
    whole = image_bounded size n ws (xs ++ (e ∷ (more ++ ys))) awaits.shown awaits.most

    small : Bounded size (xs ++ e ∷ ys)
    small = rw (append_snoc xs e ys) at (bounded-around size (xs ++ e ∷ []) more ys (rw (append_snoc xs e (more ++ ys)) whole))

    grows : Grows size (xs ++ ys) (xs ++ e ∷ ys) e
    grows = grows-above size xs ys e small (awaits.later e (inl refl))

    old-here : old ≡ get table e.key
    old-here = rw k is-old

    info-here : info ≡ noted size old (own_of size e)
    info-here = rw o is-info

    -- a new key has room
    room : old ≡ 0 → keys < capacity (length table)
    room z =
        let c = shown.indexed.count in
        let m = grows.new (was-unknown size (xs ++ ys) (xs ++ e ∷ ys) e table table' keys old info shown.indexed grows old-here z) in
        let l = rw (append_snoc xs e (more ++ ys), append_snoc xs e ys) at (keys-around (xs ++ e ∷ []) more ys) in
        let r = awaits.room in
        omega arith

    -- the sums
    summed : w ≡ weight e → Summed size middle (xs ++ e ∷ ys)
    summed is-w =
        renewed.renews (xs ++ ys) (xs ++ e ∷ ys) e
        (joins-above size ws old own w xs ys e (old-here ∙ shown.indexed.info e.key) (sym o) is-w grows.small (grows.small'.each e (mem-r e xs (e ∷ ys) (inl refl))) (awaits.later e (inl refl))
        (λ f c. image-stands (power_of size) (power-low size) (power-high size) n ws (xs ++ (e ∷ (more ++ ys))) awaits.shown f (mem-around f xs (e ∷ more) ys (chosen_is e.key (xs ++ ys) f c).in_list)))
        shown.sums

    -- and no block
    no_blocks : old ≡ 0 → (u : ℕ) → top_block e.key (xs ++ ys) u ≡ false
    no_blocks z u = rw (found_none size table keys (xs ++ ys) shown.indexed grows.small e.key old old-here z)

  module _ (is-put : table' ≡ put_at table slot key info) where
    is-table : table' ≡ insert table key info
    is-table = is-put ∙ put-insert table key slot is-slot info

    long : length table' ≡ length table
    long = ap length is-table ∙ insert-length table key info

    -- a key that the table has
    pub joined-old : (i : Info) → i ≡ unpack_of size old → Superseded size ws middle buffer' i → (old ≡ 0 → ⊥) → OneJoined size ws buffer buffer' table table' keys key own w keys
    joined-old i is-i freed no_zero = record {
      kept = front-then buffer middle buffer' (alone-front buffer middle renewed.kept) (front_kept middle buffer' freed.kept);
      sized = long;
      joins = λ n xs more ys e k o is-w awaits shown.
          let small = (grows n xs more ys e k o awaits shown).small in
          let found = found-chosen size table keys (xs ++ ys) shown.indexed small key old is-old no_zero in (
            indexed-old size (xs ++ ys) (xs ++ e ∷ ys) e table table' keys old info shown.indexed (grows n xs more ys e k o awaits shown) (rw k is-old) (rw o is-info) (rw k is-table) no_zero,
            λ u. rw k ((freed.freed n key xs (e ∷ more) ys found.0 awaits.shown found.1 (is-i ∙ found.2)).bits u ∙ ap (λ (t : Bool). both t (negate (top_block key (xs ++ ys) u))) (alone-bits size buffer middle renewed.kept u)),
            summed_same size middle buffer' (xs ++ e ∷ ys) (λ i l. freed.kept.above i (omega arith)) (summed n xs more ys e k o awaits shown is-w),
          );
    }

  -- a new key
  pub joined-new : buffer' ≡ middle → table' ≡ put_at table slot key info → old ≡ 0 → OneJoined size ws buffer buffer' table table' keys key own w (keys + 1)
  joined-new same is-put z = record {
    kept = rw same (alone-front buffer middle renewed.kept);
    sized = long is-put;
    joins = λ n xs more ys e k o is-w awaits shown. (
      indexed-new size (xs ++ ys) (xs ++ e ∷ ys) e table table' keys old info shown.indexed (grows n xs more ys e k o awaits shown) (rw k is-old) (rw o is-info) (rw k (is-table is-put)) z (room n xs more ys e k o awaits shown z),
      λ u. rw (same, no_blocks n xs more ys e k o awaits shown z u) (alone-bits size buffer middle renewed.kept u ∙ sym (both_true (has_bit size buffer u))),
      rw same (summed n xs more ys e k o awaits shown is-w),
    );
  }

  -- a new key where the table is full: there is room, so this is never the case
  pub joined-full : buffer' ≡ middle → table' ≡ table → old ≡ 0 → table_room (length table) ≤ keys → OneJoined size ws buffer buffer' table table' keys key own w keys
  joined-full same kept z full = record {
    kept = rw same (alone-front buffer middle renewed.kept);
    sized = ap length kept;
    joins = λ n xs more ys e k o is-w awaits shown. let r = room n xs more ys e k o awaits shown z in let c = capacity-same (length table) in absurd (omega arith);
  }
