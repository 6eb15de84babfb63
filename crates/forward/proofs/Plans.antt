-- The plan of a large value, looking forward from words at rest, wherever its block is.
-- Assumes nothing.
use mathlib.Core.Path.{◌≡◌, refl, sym}
use mathlib.Core.Bool.{true}
use mathlib.Core.List.{List, [], ◌∷◌, ◌++◌}
use Prim.Native.Nat.{ℕ, ◌/◌, ◌≤◌}
use native.Mathlib.Omega.{arith}
use lib.ListN.{length, get_or}
use Rattle.spec.specs.declared.Size.{Size}
use Rattle.places.specs.Sizes.{power_of}
use Rattle.spec.specs.Words.{AreBytes, packed}
use Rattle.spec.specs.Places.{chunks_in, directory_word, first_unit}
use Rattle.spec.specs.Medium.{Action}
use Rattle.spec.specs.Log.{Entry}
use Rattle.spec.specs.Blocks.{block_limit, block_size}
use Rattle.spec.specs.Directory.{is_size}
use Rattle.spec.specs.Actions.{take_of, block_of}
use Rattle.spec.specs.Plans.{Slot, InData, InFree, Nowhere, Staging, Begin, entry, slot_for, stage_large}
use Rattle.theory_base.proofs.Sizes.{block_size_lem}
use Rattle.theory_crash.specs.Stage.{BlockWords}
use Rattle.theory_plans.proofs.Large.{block_words}
use Rattle.session.specs.Fits.{Opens, ItemsFit}
use Rattle.forward.specs.Ahead.{Ahead}
use Rattle.forward.proofs.Staged.{data-ahead, free-ahead}

module _ (sz : Size) (bytes table : ℕ) (ws : List ℕ) (es items : List Entry) (accepted : Opens (power_of sz) bytes ws table es) (long : length ws ≡ bytes / 8)
    (fit : ItemsFit (power_of sz) (chunks_in (power_of sz) bytes) ws es items) (v : List ℕ) (are : AreBytes v) (low : 257 ≤ length v) (high : length v ≤ block_limit (power_of sz)) (version key : ℕ) where
  abbrev size : ℕ
  size = block_size (power_of sz) (length v)

  is : is_size (power_of sz) size ≡ true
  is = (block_size_lem (power_of sz) (length v) low high).0

  words : BlockWords size (length v ∷ packed v)
  words = block_words v are size low (block_size_lem (power_of sz) (length v) low high).1

  abbrev Goes : List Entry → List Action → Type 0
  Goes its acts = (u : ℕ) × (its ≡ items ++ (entry 1 1 version u key [] ∷ [])) × Ahead sz bytes table ws es its acts

  pub plan-ahead : (its : List Entry) (acts : List Action) → stage_large (power_of sz) ws items version key v (slot_for (power_of sz) (chunks_in (power_of sz) bytes) ws es items size) ≡ Begin its Staging acts → Goes its acts
  plan-ahead its acts = go (slot_for (power_of sz) (chunks_in (power_of sz) bytes) ws es items size) refl
    where
      go : (q : Slot) → slot_for (power_of sz) (chunks_in (power_of sz) bytes) ws es items size ≡ q → stage_large (power_of sz) ws items version key v q ≡ Begin its Staging acts → Goes its acts
      go (InData u) e p =
          let a : items ++ (entry 1 1 version u key [] ∷ []) ≡ its = cc in
          let b : block_of u (length v ∷ packed v) ≡ acts = cc in
          (u, sym a, rw (← a, ← b) (data-ahead sz bytes table ws es items accepted long fit v size is words version key u e))
      go (InFree c) e p =
          let a : items ++ (entry 1 1 version (first_unit (power_of sz) c) key [] ∷ []) ≡ its = cc in
          let b : take_of c (get_or ws (directory_word c) 0) size ++ block_of (first_unit (power_of sz) c) (length v ∷ packed v) ≡ acts = cc in
          (first_unit (power_of sz) c, sym a, rw (← a, ← b) (free-ahead sz bytes table ws es items accepted long fit v size is words version key c e))
      go Nowhere e p = absurd (let z : ◌≡◌ {A = ℕ} 0 1 = cc in omega arith)
