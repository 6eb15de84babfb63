-- What the user of a unit says with one more top entry that points to the unit.
-- Assumes nothing.
use mathlib.Core.Path.{◌≡◌, refl, sym, ◌∙◌, ap, subst}
use mathlib.Core.Logic.{◌⊎◌, inl, inr}
use mathlib.Core.Bool.{Bool, true, false}
use mathlib.Core.List.{List, [], ◌∷◌, ◌++◌}
use Rattle.std.specs.Prelude.{Option as Maybe}
use Prim.Native.Nat.{ℕ, ◌≤◌, ◌<◌, min}
use native.Mathlib.Decide.{ℕ_discrete, dec_le}
use native.Mathlib.Omega.{arith}
use lib.Dec.{eqb}
use lib.ListN.{length, get_or, set, length-set}
use lib.Seq.{get_or-set_same, get_or-set_other}
use borrow.Author.Tests.{eqb-true, eq-eqb, ne_eqb}
use Rattle.places.specs.Sizes.{power_of, power-low, power-high}
use Rattle.spec.specs.declared.Size.{Size}
use Rattle.spec.specs.Basics.{pick, both, negate}
use Rattle.spec.specs.Log.{Entry, Entries, image_entries}
use Rattle.spec.specs.Contents.{is_top, chosen}
use Rattle.spec.specs.Opening.{agree_with, sharing}
use Rattle.theory_base.proofs.Lists.{not-both, both-i, pick-e}
use Rattle.theory_log.specs.Contents.{Mem}
use Rattle.theory_log.proofs.Contents.{mem-cases}
use Rattle.theory_log.proofs.Tops.{is-top, top-each}
use Rattle.logs.proofs.Stands.{image-stands, image-low}
use Rattle.logs.specs.declared.Entry as H
use Rattle.consistency.specs.Heads.{points}
use Rattle.faults.specs.declared.top.Joined.{Joined}
use Rattle.faults.specs.Tops.{apart_from}
use Rattle.faults.specs.Spots.{least, Reaches, StandsAt, key_at, joined, Uses, OtherUses, OneKey, UnitIs, top_fails, SharedIs}
use Rattle.faults.proofs.Places.{least-own, least-keeps, least-stands, reaches-behind}

-- ## Entries that point to a unit

pub last_or : (xs : List Entry) (e g : Entry) → Mem g (xs ++ e ∷ []) → Mem g xs ⊎ (g ≡ e)
last_or xs e g m = go (mem-cases g xs (e ∷ []) m)
  where
    go : Mem g xs ⊎ Mem g (e ∷ []) → Mem g xs ⊎ (g ≡ e)
    go (inl i) = inl i
    go (inr (inl q)) = inr q
    go (inr (inr z)) = absurd z

module _ (es : List Entry) (u : ℕ) where
  pub uses-in : (xs ys : List Entry) (e : Entry) → (Mem e ys → Mem e xs) → Uses es ys u e → Uses es xs u e
  uses-in xs ys e part i = record { member = part i.member; top = i.top; points = i.points; unit = i.unit }

  pub uses-last : (xs : List Entry) (e g : Entry) → Uses es (xs ++ e ∷ []) u g → Uses es xs u g ⊎ (g ≡ e)
  uses-last xs e g i = go (last_or xs e g i.member)
    where
      go : Mem g xs ⊎ (g ≡ e) → Uses es xs u g ⊎ (g ≡ e)
      go (inl m) = inl (uses-in xs (xs ++ e ∷ []) g (λ k. m) i)
      go (inr q) = inr q

  -- a top entry that shares its block with another key's
  shares : (e f : Entry) → Uses es es u e → Uses es es u f → sharing e f ≡ true
  shares e f ue uf = rw (ue.points, uf.points) (eq-eqb e.field f.field (ue.unit ∙ sym uf.unit))

  pub shares-fails : (e f : Entry) → Uses es es u e → Uses es es u f → (e.key ≡ f.key → ⊥) → top_fails es e ≡ true
  shares-fails e f ue uf n = both-i (is_top es e) _ ue.top (go (apart_from es e) refl)
    where
      neither : (a : Bool) → negate (both a false) ≡ true
      neither true = refl
      neither false = refl

      go : (b : Bool) → apart_from es e ≡ b → negate (both (agree_with e (chosen e.key es)) b) ≡ true
      go false q = neither (agree_with e (chosen e.key es))
      go true q =
          let t = top-each es (λ g. pick (sharing e g) (eqb e.key g.key) true) q f (is-top es f uf.member uf.top) in
          absurd (n (eqb-true e.key f.key (pick-e (sharing e f) (eqb e.key f.key) t (shares e f ue uf))))

-- ## The user, with one more

-- a place may fall
abbrev pub Falls : (so so' : Maybe ℕ) → Type 0
Falls so so' = (x : ℕ) → Reaches so x → Reaches so' x

module _ (es xs : List Entry) (tops : Maybe ℕ) (u user : ℕ) (inv : UnitIs es xs tops u user) where
  pub unit-falls : (tops' : Maybe ℕ) → Falls tops tops' → UnitIs es xs tops' u user
  unit-falls tops' falls = record { none = inv.none; one = inv.one; several = inv.several; shared = λ q e i. falls e.at (inv.shared q e i) }

  -- of other entries, where those that point to the unit are among the old ones
  pub unit-among : (ys : List Entry) → ((e : Entry) → Uses es ys u e → Uses es xs u e) → UnitIs es ys tops u user
  unit-among ys part = record {
    none = λ q e i. inv.none q e (part e i);
    one = λ a b. let f = inv.one a b in record { one = f.one; uses = f.uses; place = f.place; same = λ e i. f.same e (part e i); behind = λ e i. f.behind e (part e i) };
    several = inv.several;
    shared = λ q e i. inv.shared q e (part e i);
  }

pub record Joins (es xs : List Entry) (tops : Maybe ℕ) (u : ℕ) (j : Joined) : Type 0 where
  pub unit-is : UnitIs es xs j.tops u j.user
  pub falls : Falls tops j.tops
  pub stands : StandsAt es (top_fails es) j.tops

module _ (size : Size) (n : ℕ) (ws : List ℕ) (es : List Entry) (h : image_entries (power_of size) n ws ≡ Entries es) where
  low : (e : Entry) → Mem e es → 2 ≤ e.at
  low e m = let l = image-low (power_of size) (power-low size) (power-high size) n ws es h e m in omega arith

  key-at : (e : Entry) → Mem e es → key_at ws e.at ≡ e.key
  key-at e m =
      let s = image-stands (power_of size) (power-low size) (power-high size) n ws es h e m in
      let f = s.fits in
      let i : min e.at (length ws) ≡ e.at = omega arith in
      rw i s.key

  module _ (xs : List Entry) (tops : Maybe ℕ) (u user : ℕ) (inv : UnitIs es xs tops u user) (before : StandsAt es (top_fails es) tops) (e : Entry) (uses : Uses es es u e) where
    place-low : 2 ≤ e.at
    place-low = low e uses.member

    abbrev After : ℕ → Maybe ℕ → Type 0
    After user tops' = Joins es (xs ++ e ∷ []) tops u (record { user = user; tops = tops' })

    -- what holds of the old ones and of the new one
    each : (P : Entry → Type 0) → ((g : Entry) → Uses es xs u g → P g) → P e → (g : Entry) → Uses es (xs ++ e ∷ []) u g → P g
    each P old new g i = go (uses-last es u xs e g i)
      where
        go : Uses es xs u g ⊎ (g ≡ e) → P g
        go (inl j) = old g j
        go (inr q) = subst P (sym q) new

    only : (at : ℕ) → 2 ≤ at → (f : Entry) → Uses es es u f → f.at ≡ at → ((g : Entry) → Uses es (xs ++ e ∷ []) u g → (g.key ≡ f.key) × (at ≤ g.at)) → After at tops
    only at l f uf p all = record {
      unit-is = record {
        none = λ q. absurd (omega arith);
        one = λ a b. record { one = f; uses = uf; place = p; same = λ g i. (all g i).0; behind = λ g i. (all g i).1 };
        several = λ q. absurd (omega arith);
        shared = λ q. absurd (omega arith);
      };
      falls = λ x r. r;
      stands = before;
    }

    joins-none : user ≡ 0 → After e.at tops
    joins-none z = only e.at place-low e uses refl (each (λ g. (g.key ≡ e.key) × (e.at ≤ g.at)) (λ g i. absurd (inv.none z g i)) (refl, omega arith))

    joins-several : user ≡ 1 → After user (least tops e.at)
    joins-several z = record {
      unit-is = record {
        none = λ q. absurd (omega arith);
        one = λ a b. absurd (b z);
        several = λ q. inv.several z;
        shared = λ q. each (λ g. Reaches (least tops e.at) g.at) (λ g i. least-keeps tops e.at g.at (inv.shared z g i)) (least-own tops e.at);
      };
      falls = least-keeps tops e.at;
      stands = let o = inv.several z e.key in least-stands es (top_fails es) tops e uses.member (shares-fails es u e o.other uses o.uses (λ q. o.differs (sym q))) before;
    }

    module _ (f : OneKey es xs u user) where
      other-low : 2 ≤ user
      other-low = let l = low f.one f.uses.member in let p = f.place in omega arith

      one_key : key_at ws user ≡ f.one.key
      one_key = ap (key_at ws) (sym f.place) ∙ key-at f.one f.uses.member

      joins-same : key_at ws user ≡ e.key → After (min user e.at) tops
      joins-same k = go (dec_le user e.at)
        where
          key : e.key ≡ f.one.key
          key = sym k ∙ one_key

          go : Dec (user ≤ e.at) → After (min user e.at) tops
          go (yes l) =
              let i : min user e.at ≡ user = omega arith in
              rw i (only user other-low f.one f.uses f.place (each (λ g. (g.key ≡ f.one.key) × (user ≤ g.at)) (λ g j. (f.same g j, f.behind g j)) (key, l)))
          go (no l) =
              let i : min user e.at ≡ e.at = omega arith in
              rw i (only e.at place-low e uses refl (each (λ g. (g.key ≡ e.key) × (e.at ≤ g.at)) (λ g j. (f.same g j ∙ sym key, let b = f.behind g j in omega arith)) (refl, omega arith)))

      module _ (k : key_at ws user ≡ e.key → ⊥) where
        differ : e.key ≡ f.one.key → ⊥
        differ q = k (one_key ∙ sym q)

        falls-twice : Falls tops (least (least tops user) e.at)
        falls-twice x r = least-keeps (least tops user) e.at x (least-keeps tops user x r)

        other-of : (j : ℕ) → Dec (f.one.key ≡ j) → OtherUses es u j
        other-of j (yes q) = record { other = e; uses = uses; differs = λ z. differ (z ∙ sym q) }
        other-of j (no q) = record { other = f.one; uses = f.uses; differs = q }

        joins-other : After 1 (least (least tops user) e.at)
        joins-other = record {
          unit-is = record {
            none = λ q. absurd (omega arith);
            one = λ a b. absurd (b refl);
            several = λ q j. other-of j (ℕ_discrete f.one.key j);
            shared = λ q.
                each (λ g. Reaches (least (least tops user) e.at) g.at)
                (λ g i. least-keeps (least tops user) e.at g.at (reaches-behind (least tops user) user g.at (least-own tops user) (f.behind g i)))
                (least-own (least tops user) e.at);
          };
          falls = falls-twice;
          stands =
              least-stands es (top_fails es) (least tops user) e uses.member (shares-fails es u e f.one uses f.uses differ)
              (subst (λ at. StandsAt es (top_fails es) (least tops at)) f.place (least-stands es (top_fails es) tops f.one f.uses.member (shares-fails es u f.one e f.uses uses (λ q. differ (sym q))) before));
        }

    pub joins : Joins es (xs ++ e ∷ []) tops u (joined ws user tops e.key e.at)
    joins = go (ℕ_discrete user 0)
      where
        named : (a : user ≡ 0 → ⊥) (b : user ≡ 1 → ⊥) → Dec (key_at ws user ≡ e.key) → Joins es (xs ++ e ∷ []) tops u (joined ws user tops e.key e.at)
        named a b (yes k) = rw (ne_eqb user 0 a, ne_eqb user 1 b, eq-eqb (key_at ws user) e.key k) (joins-same (inv.one a b) k)
        named a b (no k) = rw (ne_eqb user 0 a, ne_eqb user 1 b, ne_eqb (key_at ws user) e.key k) (joins-other (inv.one a b) k)

        used : (a : user ≡ 0 → ⊥) → Dec (user ≡ 1) → Joins es (xs ++ e ∷ []) tops u (joined ws user tops e.key e.at)
        used a (yes z) = rw (ne_eqb user 0 a, eq-eqb user 1 z) (joins-several z)
        used a (no b) = named a b (ℕ_discrete (key_at ws user) e.key)

        go : Dec (user ≡ 0) → Joins es (xs ++ e ∷ []) tops u (joined ws user tops e.key e.at)
        go (yes z) = rw (eq-eqb user 0 z) (joins-none z)
        go (no a) = used a (ℕ_discrete user 1)

-- ## What the code shows

module _ (ws : List ℕ) (h : H.Entry) (tops : Maybe ℕ) (units : List ℕ) where
  pub shared-stored : h.field < length units → (j : Joined) → j ≡ joined ws (get_or units h.field 0) tops h.key h.place → points h.op h.placement ≡ true
      → SharedIs ws h tops units (set units h.field j.user) j.tops
  shared-stored l j is t = record {
    sized = length-set units h.field j.user;
    other = λ f. absurd (not-both (points h.op h.placement) t f);
    own = λ p m. sym is ∙ rw (get_or-set_same units h.field j.user 0 l);
    others = λ u n. get_or-set_other units h.field u j.user 0 n;
  }

  pub shared-past : length units ≤ h.field → points h.op h.placement ≡ true → SharedIs ws h tops units units tops
  shared-past l t = record { sized = refl; other = λ f. absurd (not-both (points h.op h.placement) t f); own = λ p m. absurd (omega arith); others = λ u n. refl }

  pub shared-direct : points h.op h.placement ≡ false → SharedIs ws h tops units units tops
  shared-direct f = record { sized = refl; other = λ g. (refl, refl); own = λ p m. absurd (not-both (points h.op h.placement) p f); others = λ u n. refl }
