-- The tests 12, 10 and 7 on the record's numbers are those of the definitions on the entries and the staged items.
-- Assumes nothing.
use mathlib.Core.Path.{◌≡◌, refl, sym, ◌∙◌, ap}
use mathlib.Core.Logic.{◌⊎◌, inl, inr}
use mathlib.Core.Bool.{Bool, true, false}
use mathlib.Core.List.{List, ◌∷◌, ◌++◌}
use Prim.Native.Nat.{ℕ, suc, ◌+◌, ◌≤◌, ◌<◌}
use native.Mathlib.Omega.{arith}
use lib.Dec.{eqb, leb, ltb}
use borrow.Author.Tests.{leb-true, ltb-true, le-leb, lt-leb, lt-ltb, le-ltb}
use Rattle.spec.specs.Basics.{pick, both, negate}
use Rattle.spec.specs.Log.{Entry}
use Rattle.spec.specs.Contents.{highest, capacity}
use Rattle.spec.specs.Plans.{is_named, fits_version, Plan, Refuse, need, next_version, fits_batch, fits_keys, max_items}
use Rattle.spec.specs.Machine.{version_asked}
use Rattle.spec.specs.Contract.{MemRefusal}
use Rattle.session.specs.declared.Control.{Control}
use Rattle.spec.specs.Basics.{Given}
use Rattle.std.specs.declared.option.Option.TheVariants as G
use Rattle.spec.specs.declared.Refusal.{Refusal}
use Rattle.spec.specs.declared.Refusal.TheVariants as N
use Rattle.theory_base.proofs.Lists.{both_l, both_r}
use Rattle.index.specs.Index.{capacity as table_room}
use Rattle.volatile.proofs.Grow.{capacity-same}
use Rattle.buffer.specs.Areas.{batch_room}
use Rattle.session.specs.Fits.{BatchFits}
use Rattle.batch.proofs.Count.{is_old, fresh_with, fits-keys}
use Rattle.batch.proofs.Fits.{fits-batch}
use Rattle.std.specs.Prelude.{Ok, Err}
use Rattle.std.specs.Int.{from_bool}
use Rattle.staging.specs.Admitting.{Admission, admit_named, new_keys, admit_of}

-- an admission as a plan
abbrev pub plan_by : Admission → Plan → Plan
plan_by (Ok f) q = q
plan_by (Err n) q = Refuse n

-- ## What an answer says

module _ (c : Control) (most version more room : ℕ) where
  pub record Admitting (fresh : ℕ) : Type 0 where
    pub unspent : suc version ≤ most
    pub few : c.items < max_items
    pub fits : c.words + more ≤ batch_room
    pub counted : fresh ≡ c.fresh + new_keys version
    pub keys : c.keys + fresh ≤ room

  abbrev versions : Bool
  versions = leb (suc version) most

  abbrev batches : Bool
  batches = both (ltb c.items max_items) (leb (c.words + more) batch_room)

  abbrev tables : Bool
  tables = leb (c.keys + (c.fresh + new_keys version)) room

  abbrev admission : Bool → Bool → Bool → Admission
  admission v b t = pick v (pick b (pick t (Ok (c.fresh + new_keys version)) (Err N.TableFull)) (Err N.BatchFull)) (Err N.VersionSpent)

  pub admitted : (fresh : ℕ) → admit_of c most version more room ≡ Ok fresh → Admitting fresh
  unfolding admit_of
  admitted fresh h = go versions refl batches refl tables refl h
    where
      go : (v : Bool) → versions ≡ v → (b : Bool) → batches ≡ b → (t : Bool) → tables ≡ t → admission v b t ≡ Ok fresh → Admitting fresh
      go true x true y true z e =
          let q : c.fresh + new_keys version ≡ fresh = cc in
          let k = leb-true (c.keys + (c.fresh + new_keys version)) room z in
          record {
            unspent = leb-true (suc version) most x;
            few = ltb-true c.items max_items (both_l (ltb c.items max_items) (leb (c.words + more) batch_room) y);
            fits = leb-true (c.words + more) batch_room (both_r (ltb c.items max_items) (leb (c.words + more) batch_room) y);
            counted = sym q;
            keys = omega arith;
          }
      go true x true y false z e = absurd (let o : ◌≡◌ {A = ℕ} 0 1 = cc in omega arith)
      go true x false y t z e = absurd (let o : ◌≡◌ {A = ℕ} 0 1 = cc in omega arith)
      go false x b y t z e = absurd (let o : ◌≡◌ {A = ℕ} 0 1 = cc in omega arith)

  -- it is one of these three numbers
  pub turned : {T : Type 0} (n : Refusal) → admit_of c most version more room ≡ Err n → (n ≡ N.VersionSpent) ⊎ ((n ≡ N.BatchFull) ⊎ ((n ≡ N.TableFull) ⊎ T))
  unfolding admit_of
  turned {T} n h = go versions batches tables h
    where
      go : (v b t : Bool) → admission v b t ≡ Err n → (n ≡ N.VersionSpent) ⊎ ((n ≡ N.BatchFull) ⊎ ((n ≡ N.TableFull) ⊎ T))
      go true true true e = absurd (let o : ◌≡◌ {A = ℕ} 0 1 = cc in omega arith)
      go true true false e = inr (inr (inl cc))
      go true false t e = inr (inl cc)
      go false b t e = inl cc

  -- the table's own capacity is that of the definitions
  pub told-room : (words : ℕ) (a : Admission) → room ≡ table_room words → a ≡ admit_of c most version more room → a ≡ admit_of c most version more (capacity words)
  told-room words a r e = e ∙ ap (admit_of c most version more) (r ∙ sym (capacity-same words))

  -- ## What the code shows

  -- one more key, if the version is the key's first
  pub new_is : (new : ℕ) → new ≡ from_bool (eqb version 0) → new ≡ new_keys version
  new_is new h = h ∙ go (eqb version 0)
    where
      go : (t : Bool) → from_bool t ≡ pick t 1 0
      go true = refl
      go false = refl

  pub admit-spent : most ≤ version → Err N.VersionSpent ≡ admit_of c most version more room
  unfolding admit_of
  admit-spent h = sym (rw (lt-leb (suc version) most (omega arith)))

  module _ (x : version < most) where
    yes-version : versions ≡ true
    yes-version = le-leb (suc version) most (omega arith)

    pub admit-many : 16 ≤ c.items → Err N.BatchFull ≡ admit_of c most version more room
    unfolding admit_of
    admit-many h = sym (rw (yes-version, le-ltb c.items max_items h))

    module _ (y : c.items < 16) where
      pub admit-full : batch_room < c.words + more → Err N.BatchFull ≡ admit_of c most version more room
      unfolding admit_of
      admit-full h = sym (rw (yes-version, lt-ltb c.items max_items y, lt-leb (c.words + more) batch_room h))

      module _ (z : c.words + more ≤ batch_room) where
        yes-batch : batches ≡ true
        yes-batch = rw (lt-ltb c.items max_items y, le-leb (c.words + more) batch_room z)

        pub admit-keys : (new : ℕ) → new ≡ new_keys version → room < c.keys + (c.fresh + new) → Err N.TableFull ≡ admit_of c most version more room
        unfolding admit_of
        admit-keys new e h = sym (rw (yes-version, yes-batch, lt-leb (c.keys + (c.fresh + new_keys version)) room (rw e at h)))

        pub admit-all : (new : ℕ) → new ≡ new_keys version → c.keys + (c.fresh + new) ≤ room → Ok (c.fresh + new) ≡ admit_of c most version more room
        unfolding admit_of
        admit-all new e h = sym (rw (yes-version, yes-batch, le-leb (c.keys + (c.fresh + new_keys version)) room (rw e at h), e))

-- ## The definitions' tests

-- the staged keys not known, then
pub fresh-then : (old : Bool) (version fresh : ℕ) → old ≡ negate (eqb version 0) → fresh_with old fresh ≡ fresh + new_keys version
fresh-then old version fresh h = rw h (go (eqb version 0))
  where
    go : (t : Bool) → fresh_with (negate t) fresh ≡ fresh + pick t 1 0
    go true = refl
    go false = omega arith

module _ (c : Control) (b : List ℕ) (p n : ℕ) (ws : List ℕ) (es items : List Entry) (fits : BatchFits c b p n ws es items) (most key version more table : ℕ)
    (highest-is : version ≡ highest key (es ++ items)) (old-is : is_old key es items ≡ negate (eqb version 0)) where
  keys-fit : fits_keys table es items key ≡ leb (c.keys + (c.fresh + new_keys version)) (capacity table)
  keys-fit = fits-keys c.keys c.fresh es items fits.keys table key ∙ rw (fresh-then (is_old key es items) version c.fresh old-is)

  version-fits : leb (next_version key es items) most ≡ leb (suc version) most
  version-fits = rw highest-is

  pub plan-admits : (q : Plan)
      → need (leb (next_version key es items) most) N.VersionSpent (need (fits_batch items more) N.BatchFull (need (fits_keys table es items key) N.TableFull q))
      ≡ plan_by (admit_of c most version more (capacity table)) q
  unfolding admit_of
  plan-admits q =
      rw (version-fits, fits-batch c b p n ws es items fits more, keys-fit)
      (go (leb (suc version) most) (both (ltb c.items max_items) (leb (c.words + more) batch_room)) (leb (c.keys + (c.fresh + new_keys version)) (capacity table)))
    where
      go : (v w t : Bool) → need v N.VersionSpent (need w N.BatchFull (need t N.TableFull q)) ≡ plan_by (admission c most version more (capacity table) v w t) q
      go true true true = refl
      go true true false = refl
      go true false t = refl
      go false w t = refl

-- ## With a version named

module _ (named : Given) (c : Control) (most version more room : ℕ) where
  pub named-admitted : (fresh : ℕ) → admit_named named c most version more room ≡ Ok fresh → Admitting c most version more room fresh
  unfolding admit_named
  named-admitted fresh h = go (is_named named version) h
    where
      go : (t : Bool) → pick t (admit_of c most version more room) (Err N.OtherVersion) ≡ Ok fresh → Admitting c most version more room fresh
      go true e = admitted c most version more room fresh e
      go false e = absurd (let o : ◌≡◌ {A = ℕ} 0 1 = cc in omega arith)

  pub named-turned : (rest : List Refusal) (n : Refusal) → admit_named named c most version more room ≡ Err n → MemRefusal n (version_asked named (N.VersionSpent ∷ N.BatchFull ∷ N.TableFull ∷ rest))
  unfolding admit_named
  named-turned rest n h = by named h
    where
      asked : (v : ℕ) (t : Bool) → pick t (admit_of c most version more room) (Err N.OtherVersion) ≡ Err n → MemRefusal n (version_asked (G.Some v) (N.VersionSpent ∷ N.BatchFull ∷ N.TableFull ∷ rest))
      asked v true e = inr (turned c most version more room n e)
      asked v false e = inl cc

      by : (x : Given) → pick (is_named x version) (admit_of c most version more room) (Err N.OtherVersion) ≡ Err n → MemRefusal n (version_asked x (N.VersionSpent ∷ N.BatchFull ∷ N.TableFull ∷ rest))
      by G.None e = turned c most version more room n e
      by (G.Some v) e = asked v (eqb v version) e

  -- what the code shows
  pub named-yes : (a : Admission) → is_named named version ≡ true → a ≡ admit_of c most version more room → a ≡ admit_named named c most version more room
  unfolding admit_named
  named-yes a h e = e ∙ sym (rw h)

  pub named-no : is_named named version ≡ false → Err N.OtherVersion ≡ admit_named named c most version more room
  unfolding admit_named
  named-no h = sym (rw h)

  pub named-room : (words : ℕ) (a : Admission) → room ≡ table_room words → a ≡ admit_named named c most version more room → a ≡ admit_named named c most version more (capacity words)
  named-room words a r e = e ∙ ap (admit_named named c most version more) (r ∙ sym (capacity-same words))

module _ (named : Given) (c : Control) (b : List ℕ) (p n : ℕ) (ws : List ℕ) (es items : List Entry) (fits : BatchFits c b p n ws es items) (most key version more table : ℕ)
    (highest-is : version ≡ highest key (es ++ items)) (old-is : is_old key es items ≡ negate (eqb version 0)) where
  pub plan-named : (q : Plan)
      → need (fits_version named key es items) N.OtherVersion
      (need (leb (next_version key es items) most) N.VersionSpent (need (fits_batch items more) N.BatchFull (need (fits_keys table es items key) N.TableFull q)))
      ≡ plan_by (admit_named named c most version more (capacity table)) q
  unfolding admit_named
  plan-named q =
      ap (λ (h : ℕ). need (is_named named h) N.OtherVersion (need (leb (next_version key es items) most) N.VersionSpent (need (fits_batch items more) N.BatchFull (need (fits_keys table es items key) N.TableFull q)))) (sym highest-is)
      ∙ go (is_named named version)
    where
      go : (t : Bool) → need t N.OtherVersion (need (leb (next_version key es items) most) N.VersionSpent (need (fits_batch items more) N.BatchFull (need (fits_keys table es items key) N.TableFull q)))
          ≡ plan_by (pick t (admit_of c most version more (capacity table)) (Err N.OtherVersion)) q
      go true = plan-admits c b p n ws es items fits most key version more table highest-is old-is q
      go false = refl

-- what is asked behind 17 may be answered, a version named or not
pub asked-behind : (x : Given) (n : Refusal) (rs : List Refusal) → MemRefusal n rs → MemRefusal n (version_asked x rs)
asked-behind G.None n rs h = h
asked-behind (G.Some v) n rs h = inr h
