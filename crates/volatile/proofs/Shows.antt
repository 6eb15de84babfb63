-- What the code shows of a key's word with one more entry: one law for each return.
-- Assumes nothing.
use Rattle.std.proofs.Common.{◌≡◌, ℕ, ◌+◌, ◌<◌, ◌≤◌, sym, ap, ◌∙◌, le-ltb, lt-ltb, eq-eqb, ne_eqb}
use Rattle.spec.specs.declared.Size.{Size}
use Rattle.packing.specs.declared.Info.{Info}
use Rattle.packing.specs.Packed.{pack_of, unpack_of}
use Rattle.volatile.specs.Known.{extent_of, alone, raised, noted}

-- what an entry of the log would give alone
pub own_alone : (size : Size) → (pl x extent a v own : ℕ) → extent ≡ extent_of size pl x → own ≡ alone size extent a v → own ≡ alone size (extent_of size pl x) a v
own_alone size pl x extent a v own is-extent is-own = is-own ∙ ap (λ (y : ℕ). alone size y a v) is-extent

module _ (size : Size) (word own r : ℕ) (i j : Info) (is-i : i ≡ unpack_of size word) (is-j : j ≡ unpack_of size own) (some_word : word ≡ 0 → ⊥) where
  shows-raised : r ≡ pack_of size (raised i j) → r ≡ noted size word own
  unfolding noted
  shows-raised e =
      e ∙ ap (λ (x : Info). pack_of size (raised x j)) is-i ∙ ap (λ (x : Info). pack_of size (raised (unpack_of size word) x)) is-j ∙ sym (rw (ne_eqb word 0 some_word))

  -- of a higher version than all others, of the highest, and of a lower one
  pub shows-higher : i.version < j.version → r ≡ pack_of size (record { extent = j.extent; place = j.place; version = j.version; entries = i.entries + 1; several = 0 })
      → r ≡ noted size word own
  shows-higher l e = shows-raised (e ∙ sym (rw (lt-ltb i.version j.version l)))

  pub shows-twin : j.version ≤ i.version → i.version ≡ j.version
      → r ≡ pack_of size (record { extent = i.extent; place = i.place; version = i.version; entries = i.entries + 1; several = 1 }) → r ≡ noted size word own
  shows-twin l q e = shows-raised (e ∙ sym (rw (le-ltb i.version j.version l, eq-eqb i.version j.version q)))

  pub shows-lower : j.version ≤ i.version → (i.version ≡ j.version → ⊥)
      → r ≡ pack_of size (record { extent = i.extent; place = i.place; version = i.version; entries = i.entries + 1; several = i.several }) → r ≡ noted size word own
  shows-lower l q e = shows-raised (e ∙ sym (rw (le-ltb i.version j.version l, ne_eqb i.version j.version q)))
