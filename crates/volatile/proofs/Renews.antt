-- What the code shows of an entry that joins: one law for each return.
-- Assumes nothing.
use Rattle.std.proofs.Common.{◌≡◌, ℕ, ◌+◌, ◌%◌, ◌<◌, ◌≤◌, List, length, sym, ap, ◌∙◌, arith}
use mathlib.Core.Option.{none, some}
use Rattle.spec.specs.declared.Size.{Size}
use Rattle.spec.specs.Log.{Entry}
use Rattle.spec.specs.Contents.{chosen, highest}
use Rattle.packing.specs.declared.Info.{Info}
use Rattle.packing.specs.Packed.{widths_of, unpack_of, extent-few, place-few}
use Rattle.volatile.specs.Known.{extent_of, info_of}
use Rattle.volatile.proofs.Info.{said, chosen-version, own-says, zero-chosen, nonzero-chosen}
use Rattle.buffer.specs.Areas.{buffer_words}
use Rattle.volatile.specs.Sums.{weight, share_in, chosen_sum}
use Rattle.volatile.proofs.Sums.{sum-turned}
use Rattle.volatile.specs.Change.{only, nothing, Changed, WeighedAt, Renewing, Renewed}
use Rattle.volatile.proofs.Laws.{alone-self, changed_then, changed-summed, share-only}

module _ (size : Size) (ws b : List ℕ) (old own w : ℕ) where
  module _ (es es' : List Entry) (e : Entry) (r : Renewing size ws old own w es es' e) where
    -- of the entry itself
    own-place : (unpack_of size own).place ≡ e.at
    own-place = ap (λ (x : ℕ). (unpack_of size x).place) r.is-own ∙ ap (λ (i : Info). i.place) (own-says size e r.own-small)

    own-version : (unpack_of size own).version ≡ e.version
    own-version = ap (λ (x : ℕ). (unpack_of size x).version) r.is-own ∙ ap (λ (i : Info). i.version) (own-says size e r.own-small)

    own-share : (c : ℕ) → only size (unpack_of size own).place w c ≡ share_in size c (some e)
    own-share c = rw (own-place, r.is-weight) (sym (share-only size c e r.own-small.place-high))

    turned : (c : ℕ) → chosen_sum size c es' + share_in size c (chosen e.key es) ≡ chosen_sum size c es + share_in size c (chosen e.key es')
    turned c = sum-turned size c e.key es es' r.present r.others

    -- of the entry that was chosen
    module _ (no_zero : old ≡ 0 → ⊥) where
      found : (f : Entry) × (chosen e.key es ≡ some f) × (unpack_of size (info_of size e.key es) ≡ said size e.key es f)
      found = nonzero-chosen size e.key es r.small (λ z. no_zero (r.is-old ∙ z))

      abbrev was : Entry
      was = found.0

      was-chosen : chosen e.key es ≡ some was
      was-chosen = found.1

      was-place : (unpack_of size old).place ≡ was.at
      was-place = ap (λ (x : ℕ). (unpack_of size x).place) r.is-old ∙ ap (λ (i : Info). i.place) found.2

      was-version : (unpack_of size old).version ≡ highest e.key es
      was-version = ap (λ (x : ℕ). (unpack_of size x).version) r.is-old ∙ ap (λ (i : Info). i.version) found.2 ∙ chosen-version e.key es (some was) was-chosen

      was-extent : (unpack_of size old).extent ≡ extent_of size was.placement was.field
      was-extent = ap (λ (x : ℕ). (unpack_of size x).extent) r.is-old ∙ ap (λ (i : Info). i.extent) found.2

      was-share : (gone : ℕ) → WeighedAt size ws (unpack_of size old).extent (unpack_of size old).place gone → (c : ℕ) → only size (unpack_of size old).place gone c ≡ share_in size c (some was)
      was-share gone told c =
          let g : gone ≡ weight was = told.is was (r.stands was was-chosen) (sym was-place) (sym was-extent) (extent-few size old) in
          let l : was.at < (widths_of size).place = rw (← was-place) (place-few size old) in
          rw (was-place, g) (sym (share-only size c was l))

  -- a new key
  new-key : (d : List ℕ) → old ≡ 0 → Changed b d (only size (unpack_of size own).place w) nothing → Renewed size ws b d old own w
  new-key d z k = record { kept = k.kept; renews = λ es es' e r s. changed-summed size b d (only size (unpack_of size own).place w) nothing es es' k (λ c l. step es es' e r c) s }
    where
      step : (es es' : List Entry) (e : Entry) → Renewing size ws old own w es es' e → (c : ℕ) → chosen_sum size c es' + 0 ≡ chosen_sum size c es + only size (unpack_of size own).place w c
      step es es' e r c =
          let n : chosen e.key es ≡ none = zero-chosen size e.key es r.small (sym r.is-old ∙ z) in
          let v : 0 ≡ highest e.key es = chosen-version e.key es none n in
          let low = r.own-small.version_low in
          let h : chosen e.key es' ≡ some e = r.rises (omega arith) in
          let t : chosen_sum size c es' + 0 ≡ chosen_sum size c es + share_in size c (some e) = rw (n, h) at (turned es es' e r c) in
          t ∙ ap (λ (x : ℕ). chosen_sum size c es + x) (sym (own-share es es' e r c))

  -- a known key, whose chosen entry is lower
  higher : (d f : List ℕ) (gone : ℕ) → (old ≡ 0 → ⊥) → (unpack_of size old).version < (unpack_of size own).version → WeighedAt size ws (unpack_of size old).extent (unpack_of size old).place gone
      → Changed b d nothing (only size (unpack_of size old).place gone) → Changed d f (only size (unpack_of size own).place w) nothing → Renewed size ws b f old own w
  higher d f gone z v told k m =
      let both = changed_then b d f nothing (only size (unpack_of size old).place gone) (only size (unpack_of size own).place w) nothing k m in
      record { kept = both.kept; renews = λ es es' e r s. changed-summed size b f _ _ es es' both (λ c l. step es es' e r c) s }
    where
      step : (es es' : List Entry) (e : Entry) → Renewing size ws old own w es es' e → (c : ℕ)
          → chosen_sum size c es' + (only size (unpack_of size old).place gone c + 0) ≡ chosen_sum size c es + (0 + only size (unpack_of size own).place w c)
      step es es' e r c =
          let low = was-version es es' e r z in
          let high = own-version es es' e r in
          let h : chosen e.key es' ≡ some e = r.rises (omega arith) in
          let t : chosen_sum size c es' + share_in size c (some (was es es' e r z)) ≡ chosen_sum size c es + share_in size c (some e) = rw (was-chosen es es' e r z, h) at (turned es es' e r c) in
          let x = was-share es es' e r z gone told c in
          let y = own-share es es' e r c in
          omega (arith, x, y, t)

  -- a known key, whose chosen entry is no lower: nothing changes
  no-higher : length b ≡ buffer_words → (old ≡ 0 → ⊥) → (unpack_of size own).version ≤ (unpack_of size old).version → Renewed size ws b b old own w
  no-higher n z v = record { kept = alone-self b n; renews = λ es es' e r s. record { each = λ c l. s.each c l ∙ ap (λ (x : ℕ). x % 18446744073709551616) (step es es' e r c) } }
    where
      step : (es es' : List Entry) (e : Entry) → Renewing size ws old own w es es' e → (c : ℕ) → chosen_sum size c es ≡ chosen_sum size c es'
      step es es' e r c =
          let low = was-version es es' e r z in
          let high = own-version es es' e r in
          let h : chosen e.key es' ≡ chosen e.key es = r.stays (omega arith) in
          let t = rw h at (turned es es' e r c) in
          omega arith

  -- the same, by what the code has unpacked
  module _ (j : Info) (is-new : j ≡ unpack_of size own) where
    pub renewed-new : (d : List ℕ) → old ≡ 0 → Changed b d (only size j.place w) nothing → Renewed size ws b d old own w
    renewed-new d z k = new-key d z (rw is-new at k)

    module _ (i : Info) (is-old : i ≡ unpack_of size old) (no_zero : old ≡ 0 → ⊥) where
      pub renewed-high : (d f : List ℕ) (gone : ℕ) → i.version < j.version → WeighedAt size ws i.extent i.place gone → Changed b d nothing (only size i.place gone) → Changed d f (only size j.place w) nothing
          → Renewed size ws b f old own w
      renewed-high d f gone v told k m = higher d f gone no_zero (rw (is-old, is-new) at v) (rw is-old at told) (rw is-old at k) (rw is-new at m)

      pub renewed-low : length b ≡ buffer_words → j.version ≤ i.version → Renewed size ws b b old own w
      renewed-low n v = no-higher n no_zero (rw (is-new, is-old) at v)
