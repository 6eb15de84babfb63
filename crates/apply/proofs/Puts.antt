-- What the code shows of the pass over the common items: one put that joins without the image, and the pass on its way.
-- Assumes nothing.
use Rattle.std.proofs.Common.{◌≡◌, ℕ, ◌+◌, ◌*◌, ◌/◌, ◌%◌, ◌<◌, ◌≤◌, List, length, sym, refl, ap, ◌∙◌, arith}
use Rattle.spec.specs.declared.Size.{Size}
use Rattle.spec.specs.declared.Size.TheVariants as S
use Rattle.spec.specs.Places.{chunk_words, word_chunk}
use Rattle.places.specs.Sizes.{power_of}
use Rattle.packing.specs.declared.Info.{Info}
use Rattle.index.specs.Index.{info_at, stop_of, put_at}
use Rattle.packing.specs.Packed.{unpack_of}
use Rattle.buffer.specs.Areas.{batch_room, sums_count, buffer_words}
use Rattle.volatile.specs.Known.{extent_of, alone, noted}
use Rattle.volatile.proofs.Info.{noted-new}
use Rattle.volatile.specs.Change.{only, nothing, extent_weight, Changed}
use Rattle.volatile.proofs.Laws.{changed-place}
use Rattle.volatile.proofs.Weights.{weighed-put, at-extent}
use Rattle.volatile.proofs.Renews.{renewed-new, renewed-high}
use Rattle.std.specs.Prelude.{Some}
use Rattle.logs.specs.declared.ShortPut.{ShortPut}
use Rattle.apply.specs.Joining.{OneJoined, PutJoined, PutsJoined}
use Rattle.batch.specs.Staged.{put_of, ShortStaged}
use Rattle.apply.proofs.Freeing.{tops-in-log}
use Rattle.apply.proofs.Claiming.{no_block}
use Rattle.apply.proofs.Growing.{joined-new, joined-old}
use Rattle.apply.proofs.Batch.{going_start, going_next}

-- ## One put, of small chunks

-- the chunk of a word, as the sums count it
abbrev sum_of : ℕ → ℕ
sum_of place = word_chunk (power_of S.Small) place % sums_count

-- the word of a key with one entry has the chunk of its place
alone-place : (extent place version : ℕ) → sum_of place ≡ sum_of (unpack_of S.Small (alone S.Small extent place version)).place
unfolding alone word_chunk chunk_words
alone-place extent place version =
    let low : ℕ = extent % 0x100 in
    let high : ℕ = version % 0x10_0000 + 0x10_0000 in
    let w : alone S.Small extent place version ≡ low + 0x100 * (place % 0x4_0000 + 0x4_0000 * high) = omega arith in
    let a : alone S.Small extent place version / 0x100 ≡ place % 0x4_0000 + 0x4_0000 * high = rw w (omega arith) in
    let p : alone S.Small extent place version / 0x100 % 0x4_0000 ≡ place % 0x4_0000 = rw a (omega arith) in
    rw p (omega arith)

module _ (buffer table : List ℕ) (keys key extent place version own w slot old : ℕ) (is-own : own ≡ alone S.Small extent place version) (is-slot : slot ≡ stop_of table key) (is_word : old ≡ info_at table slot) where
  own-chunk : sum_of place ≡ sum_of (unpack_of S.Small own).place
  own-chunk = alone-place extent place version ∙ ap (λ (x : ℕ). sum_of (unpack_of S.Small x).place) (sym is-own)

  -- of a new key
  pub put-new : (d table' : List ℕ) → old ≡ 0 → Changed buffer d (only S.Small place w) nothing → table' ≡ put_at table slot key own
      → PutJoined S.Small buffer d table table' keys key (alone S.Small extent place version) w (Some (keys + 1))
  put-new d table' z k is-put ws =
      rw (← is-own)
      (joined-new S.Small ws buffer d d table table' keys key own w slot old own is-slot is_word (noted-new S.Small old own z) (renewed-new S.Small ws buffer old own w (unpack_of S.Small own) refl d z (changed-place S.Small buffer d place (unpack_of S.Small own).place w own-chunk k)) refl
      is-put z)

  -- over a lower entry with its value in the log
  pub put-over : (i j : Info) → i ≡ unpack_of S.Small old → j ≡ unpack_of S.Small own → 0 < i.extent → i.version < j.version → (gone : ℕ) → gone ≡ extent_weight i.extent → (d f table' : List ℕ) → Changed buffer d nothing (only S.Small i.place gone)
      → Changed d f (only S.Small place w) nothing → (info : ℕ) → info ≡ noted S.Small old own → table' ≡ put_at table slot key info → PutJoined S.Small buffer f table table' keys key (alone S.Small extent place version) w (Some keys)
  put-over i j is-i is-j x v gone is-gone d f table' k m info is-info is-put ws =
      rw (← is-own)
      (joined-old S.Small ws buffer f f table table' keys key own w slot old info is-slot is_word is-info
      (renewed-high S.Small ws buffer old own w j is-j i is-i no_zero d f gone v (at-extent S.Small ws i.extent i.place gone x is-gone) k (changed-place S.Small d f place j.place w (own-chunk ∙ ap (λ (y : Info). sum_of y.place) (sym is-j)) m)) is-put i is-i
      (tops-in-log S.Small ws f i (m.kept.long ∙ m.kept.size) x) no_zero)
    where
      no_zero : old ≡ 0 → ⊥
      no_zero z = let e : i.extent ≡ old % 0x100 = ap (λ (y : Info). y.extent) is-i in omega arith

-- ## The pass

pub puts-start : (size : Size) (place end : ℕ) (buffer table : List ℕ) (keys at : ℕ) → length buffer ≡ buffer_words → PutsJoined size place end buffer table keys at buffer table keys at
puts-start size place end buffer table keys at long = record { farther = omega arith; goes = λ ws. going_start size ws buffer table keys place at end long }

module _ (size : Size) (place end : ℕ) (buffer₀ table₀ : List ℕ) (keys₀ at₀ : ℕ) (buffer table : List ℕ) (keys at : ℕ) (inv : PutsJoined size place end buffer₀ table₀ keys₀ at₀ buffer table keys at) where
  pub puts-next : (t : ShortPut) → ShortStaged buffer at end (Some t) → end ≤ batch_room → (extent : ℕ) → extent ≡ extent_of size 0 t.field → (w : ℕ) → w ≡ 2 + t.words
      → (buffer' table' : List ℕ) (keys' : ℕ) → ((ws : List ℕ) → OneJoined size ws buffer buffer' table table' keys t.key (alone size extent (place + at) t.version) w keys')
      → PutsJoined size place end buffer₀ table₀ keys₀ at₀ buffer' table' keys' (at + (2 + t.words))
  puts-next t told short extent is-extent w is-w buffer' table' keys' one = record {
    farther = let f = inv.farther in omega arith;
    goes = λ ws.
        let k = (one ws).kept in
        let f : at + (2 + t.words) ≤ end = told.0 in
        going_next size ws buffer₀ table₀ keys₀ place at₀ end buffer table keys at (inv.goes ws) (put_of t) told short extent (alone size extent (place + at) t.version) is-extent refl
        w (weighed-put 1 t.words w refl (omega arith) is-w) buffer' table' keys' (one ws) buffer' (no_block size 1 0 t.field buffer' (k.long ∙ k.size) (λ q. omega arith));
  }

  -- a put that is left
  pub puts-left : (buffer' table' : List ℕ) → (buffer' ≡ buffer) × (table' ≡ table) → PutsJoined size place end buffer₀ table₀ keys₀ at₀ buffer' table' keys at
  puts-left buffer' table' same = rw (same.0, same.1) inv
