-- What is found with one more entry, or of fewer entries.
-- Assumes nothing.
use mathlib.Core.Path.{◌≡◌, refl, sym, ◌∙◌, subst}
use mathlib.Core.Logic.{◌⊎◌, inl, inr}
use mathlib.Core.Bool.{Bool, true, false}
use mathlib.Core.List.{List, [], ◌∷◌, ◌++◌, append-nil}
use Rattle.std.specs.Prelude.{Option as Maybe, None}
use Prim.Native.Nat.{ℕ, ◌≤◌, ◌<◌}
use native.Mathlib.Decide.{ℕ_discrete}
use native.Mathlib.Omega.{arith}
use lib.ListN.{length, get_or}
use Rattle.places.specs.Sizes.{power_of, unit_count}
use Rattle.spec.specs.declared.Size.{Size}
use Rattle.spec.specs.Basics.{pick, negate}
use Rattle.spec.specs.Log.{Entry, Entries, image_entries}
use Rattle.spec.specs.Blocks.{pointed, block_right}
use Rattle.spec.specs.Contents.{is_top, chosen}
use Rattle.spec.specs.Opening.{fine, agree_with}
use Rattle.theory_base.proofs.Lists.{not-both, both_l, both_r, both-i}
use Rattle.theory_log.specs.Contents.{Mem}
use Rattle.logs.specs.declared.Best.{Best}
use Rattle.volatile.proofs.Check.{block-bit}
use Rattle.consistency.specs.Classes.{within, class_in}
use Rattle.logs.specs.declared.Entry as H
use Rattle.consistency.specs.Heads.{entry_of, points}
use Rattle.consistency.specs.Pass.{ListedIn, TopIs, Part}
use Rattle.consistency.proofs.Visits.{is_below, is-highest, agreement}
use Rattle.faults.specs.declared.top.Spots.{Spots}
use Rattle.faults.specs.Spots.{least, Reaches, StandsAt, Uses, UnitIs, block_fails, top_fails, OddReached, Found, ComparedIs, SharedIs, VisitedIs}
use Rattle.faults.proofs.Places.{least-own, least-keeps, least-stands}
use Rattle.faults.proofs.Units.{last_or, uses-in, uses-last, Falls, unit-falls, unit-among, Joins, joins}

-- ## None, and fewer

module _ (size : Size) (n : ℕ) (ws : List ℕ) (es : List Entry) where
  pub found_none : (units : List ℕ) → unit_count size ≤ length units → ((u : ℕ) → get_or units u 0 ≡ 0) → Found size n ws es [] units (record { block = None; tops = None })
  found_none units long zero = record {
    room = long;
    block-stands = tt;
    block-least = λ e m. absurd m;
    tops-stands = tt;
    tops-least = λ e m. absurd m;
    units-are = λ u r. rw (zero u) (record { none = λ q e i. i.member; one = λ a b. absurd (a refl); several = λ q. absurd (omega arith); shared = λ q. absurd (omega arith) });
  }

  module _ (xs : List Entry) (units : List ℕ) (s : Spots) (inv : Found size n ws es xs units s) where
    pub found-fewer : (ys : List Entry) → Part ys xs → Found size n ws es ys units s
    found-fewer ys part = record {
      room = inv.room;
      block-stands = inv.block-stands;
      block-least = λ e m. inv.block-least e (part e m);
      tops-stands = inv.tops-stands;
      tops-least = λ e m. inv.tops-least e (part e m);
      units-are = λ u r. unit-among es xs s.tops u (get_or units u 0) (inv.units-are u r) ys (λ e i. uses-in es u xs ys e (part e) i);
    }

    -- ## One more

    module _ (e : Entry) where
      -- what holds of the old ones and of the new one
      each : (P : Entry → Type 0) → ((g : Entry) → Mem g xs → P g) → P e → (g : Entry) → Mem g (xs ++ e ∷ []) → P g
      each P old new g m = go (last_or xs e g m)
        where
          go : Mem g xs ⊎ (g ≡ e) → P g
          go (inl i) = old g i
          go (inr q) = subst P (sym q) new

      -- a unit to which it does not point
      unit_kept : (tops : Maybe ℕ) (u user : ℕ) → (Uses es (xs ++ e ∷ []) u e → ⊥) → UnitIs es xs tops u user → UnitIs es (xs ++ e ∷ []) tops u user
      unit_kept tops u user n i = unit-among es xs tops u user i (xs ++ e ∷ []) (λ g j. go g j (uses-last es u xs e g j))
        where
          go : (g : Entry) → Uses es (xs ++ e ∷ []) u g → Uses es xs u g ⊎ (g ≡ e) → Uses es xs u g
          go g j (inl k) = k
          go g j (inr q) = absurd (n (subst (Uses es (xs ++ e ∷ []) u) q j))

      -- one that is no top entry
      pub found_below : is_top es e ≡ false → Found size n ws es (xs ++ e ∷ []) units s
      found_below f = record {
        room = inv.room;
        block-stands = inv.block-stands;
        block-least = each (λ g. block_fails size n ws es g ≡ true → Reaches s.block g.at) inv.block-least (λ t. absurd (not-both (is_top es e) (both_l (is_top es e) _ t) f));
        tops-stands = inv.tops-stands;
        tops-least = each (OddReached size n ws es s.tops) inv.tops-least (λ t. absurd (not-both (is_top es e) t f));
        units-are = λ u r. unit_kept s.tops u (get_or units u 0) (λ i. not-both (is_top es e) i.top f) (inv.units-are u r);
      }

      module _ (h : image_entries (power_of size) n ws ≡ Entries es) (member : Mem e es) (top : is_top es e ≡ true) where
        -- one with a wrong block
        pub found-wrong : fine (power_of size) n ws e ≡ false → Found size n ws es (xs ++ e ∷ []) units (record { block = least s.block e.at; tops = s.tops })
        found-wrong f = record {
          room = inv.room;
          block-stands = least-stands es (block_fails size n ws es) s.block e member (both-i (is_top es e) (negate (fine (power_of size) n ws e)) top (rw f)) inv.block-stands;
          block-least = each (λ g. block_fails size n ws es g ≡ true → Reaches (least s.block e.at) g.at)
              (λ g m t. least-keeps s.block e.at g.at (inv.block-least g m t)) (λ t. least-own s.block e.at);
          tops-stands = inv.tops-stands;
          tops-least = each (OddReached size n ws es s.tops) inv.tops-least (λ t r. absurd (not-both (fine (power_of size) n ws e) r f));
          units-are = λ u r. unit_kept s.tops u (get_or units u 0) (wrong-unit u r) (inv.units-are u r);
        }
          where
            wrong-unit : (u : ℕ) → block_right (power_of size) n ws u ≡ true → Uses es (xs ++ e ∷ []) u e → ⊥
            wrong-unit u r i = not-both (block_right (power_of size) n ws u) r (rw (i.points, i.unit) at f)

        -- one with a right block or none
        module _ (right : fine (power_of size) n ws e ≡ true) (same : Bool) (compares : same ≡ agree_with e (chosen e.key es)) where
          abbrev odd : Maybe ℕ
          odd = pick same s.tops (least s.tops e.at)

          odd-falls : Falls s.tops odd
          odd-falls = go same
            where
              go : (b : Bool) → Falls s.tops (pick b s.tops (least s.tops e.at))
              go true = λ x r. r
              go false = least-keeps s.tops e.at

          odd-own : agree_with e (chosen e.key es) ≡ false → Reaches odd e.at
          odd-own f = go same (compares ∙ f)
            where
              go : (b : Bool) → b ≡ false → Reaches (pick b s.tops (least s.tops e.at)) e.at
              go true q = absurd (not-both true refl q)
              go false q = least-own s.tops e.at

          odd-stands : StandsAt es (top_fails es) odd
          odd-stands = go same refl
            where
              go : (b : Bool) → same ≡ b → StandsAt es (top_fails es) (pick b s.tops (least s.tops e.at))
              go true q = inv.tops-stands
              go false q = least-stands es (top_fails es) s.tops e member (rw (top, sym compares ∙ q)) inv.tops-stands

          -- the units and the place after it
          module _ (after : List ℕ) (long : length after ≡ length units) (tops : Maybe ℕ) (falls : Falls odd tops) (stands : StandsAt es (top_fails es) tops)
              (are : (u : ℕ) → block_right (power_of size) n ws u ≡ true → UnitIs es (xs ++ e ∷ []) tops u (get_or after u 0)) where
            top-found : Found size n ws es (xs ++ e ∷ []) after (record { block = s.block; tops = tops })
            top-found = record {
              room = let r = inv.room in omega arith;
              block-stands = inv.block-stands;
              block-least = each (λ g. block_fails size n ws es g ≡ true → Reaches s.block g.at) inv.block-least (λ t. absurd (not-both (negate (fine (power_of size) n ws e)) (both_r (is_top es e) _ t) (rw right)));
              tops-stands = stands;
              tops-least = each (OddReached size n ws es tops)
                  (λ g m t r f. falls g.at (odd-falls g.at (inv.tops-least g m t r f))) (λ t r f. falls e.at (odd-own f));
              units-are = are;
            }

          -- the old units, with the place as it is after the comparison
          unit-odd : (u : ℕ) → block_right (power_of size) n ws u ≡ true → UnitIs es xs odd u (get_or units u 0)
          unit-odd u r = unit-falls es xs s.tops u (get_or units u 0) (inv.units-are u r) odd odd-falls

-- ## What the code shows

module _ (size : Size) (n : ℕ) (ws table : List ℕ) (fits : Bool) (low high : ℕ) (h : H.Entry) where
  -- of another class
  pub visited-out : within low high h.key ≡ false → (so : Spots) (before : List ℕ) → VisitedIs size n ws table fits low high so h before before so
  visited-out o so before = record { sized = refl; finds = λ es xs words l m inv. rw (o, append-nil xs) inv }

  module _ (own : within low high h.key ≡ true) (top : Best) (is-top-of : TopIs size n ws table fits h.key top) (so : Spots) (before : List ℕ) where
    one_of : (words : ℕ) → class_in low high (entry_of ws h words ∷ []) ≡ entry_of ws h words ∷ []
    one_of words = rw own

    pub visited-below : (h.version ≡ top.version → ⊥) → VisitedIs size n ws table fits low high so h before before so
    visited-below b = record {
      sized = refl;
      finds = λ es xs words l m inv. rw (one_of words) (found_below size n ws es xs before so inv (entry_of ws h words) (is_below size n ws table fits low high h own top is-top-of es words l m b));
    }

    module _ (q : h.version ≡ top.version) where
      pub visited-wrong : pick (points h.op h.placement) (block_right (power_of size) n ws h.field) true ≡ false → (block : Maybe ℕ) → block ≡ least so.block h.place
          → VisitedIs size n ws table fits low high so h before before (record { block = block; tops = so.tops })
      visited-wrong f block is = record {
        sized = refl;
        finds = λ es xs words l m inv.
            rw (one_of words, is) (found-wrong size n ws es xs before so inv (entry_of ws h words) l.entries m (is-highest size n ws table fits low high h own top is-top-of es words l m q) f);
      }

      module _ (right : pick (points h.op h.placement) (block_right (power_of size) n ws h.field) true ≡ true) (compared tops : Maybe ℕ) (after : List ℕ) (compares : ComparedIs ws h top.place so.tops compared)
          (shares : SharedIs ws h compared before after tops) (es xs : List Entry) (words : ℕ) (l : ListedIn size n ws table fits low high es) (member : Mem (entry_of ws h words) es) (inv : Found size n ws es xs before so) where
        abbrev e : Entry
        e = entry_of ws h words

        is-top : is_top es e ≡ true
        is-top = is-highest size n ws table fits low high h own top is-top-of es words l member q

        agrees : compares.same ≡ agree_with e (chosen h.key es)
        agrees = agreement size n ws table fits low high h own top is-top-of es words l member q true compares.same compares.agrees

        found : (falls : Falls compared tops) → StandsAt es (top_fails es) tops → ((u : ℕ) → block_right (power_of size) n ws u ≡ true → UnitIs es (xs ++ e ∷ []) tops u (get_or after u 0))
            → Found size n ws es (xs ++ e ∷ []) after (record { block = so.block; tops = tops })
        found falls stands are =
            top-found size n ws es xs before so inv e l.entries member is-top right compares.same agrees after shares.sized tops (subst (λ x. Falls x tops) compares.least-is falls) stands are

        -- the units and the place as they are after the comparison
        compared-stands : StandsAt es (top_fails es) compared
        compared-stands = subst (StandsAt es (top_fails es)) (sym compares.least-is) (odd-stands size n ws es xs before so inv e l.entries member is-top right compares.same agrees)

        unit-before : (u : ℕ) → block_right (power_of size) n ws u ≡ true → UnitIs es xs compared u (get_or before u 0)
        unit-before u r = subst (λ x. UnitIs es xs x u (get_or before u 0)) (sym compares.least-is) (unit-odd size n ws es xs before so inv e l.entries member is-top right compares.same agrees u r)

        -- no unit
        found-direct : pointed e ≡ false → Found size n ws es (xs ++ e ∷ []) after (record { block = so.block; tops = tops })
        found-direct f =
            let o = shares.other f in
            let t : compared ≡ tops = sym o.1 in
            found (λ x r. subst (λ y. Reaches y x) t r) (subst (StandsAt es (top_fails es)) t compared-stands)
            (λ u r. rw o.0 (subst (λ y. UnitIs es (xs ++ e ∷ []) y u (get_or before u 0)) t (unit_kept size n ws es xs before so inv e compared u (get_or before u 0) (λ i. not-both (pointed e) i.points f) (unit-before u r))))

        -- a unit
        module _ (t : pointed e ≡ true) where
          own-right : block_right (power_of size) n ws h.field ≡ true
          own-right = rw t at right

          inside : h.field < length before
          inside = let b = block-bit size n ws e l.few right t in let r = inv.room in omega arith

          joined-so : Joins es (xs ++ e ∷ []) compared h.field (record { user = get_or after h.field 0; tops = tops })
          joined-so =
              subst (Joins es (xs ++ e ∷ []) compared h.field) (shares.own t inside)
              (joins size n ws es l.entries xs compared h.field (get_or before h.field 0) (unit-before h.field own-right) compared-stands e (record { member = member; top = is-top; points = t; unit = refl }))

          unit-after : (u : ℕ) → block_right (power_of size) n ws u ≡ true → Dec (u ≡ h.field) → UnitIs es (xs ++ e ∷ []) tops u (get_or after u 0)
          unit-after u r (yes z) = rw z joined-so.unit-is
          unit-after u r (no z) =
              rw (shares.others u z)
              (unit-falls es (xs ++ e ∷ []) compared u (get_or before u 0) (unit_kept size n ws es xs before so inv e compared u (get_or before u 0) (λ i. z (sym i.unit)) (unit-before u r)) tops joined-so.falls)

          found-shared : Found size n ws es (xs ++ e ∷ []) after (record { block = so.block; tops = tops })
          found-shared = found joined-so.falls joined-so.stands (λ u r. unit-after u r (ℕ_discrete u h.field))

        found-top : (b : Bool) → pointed e ≡ b → Found size n ws es (xs ++ e ∷ []) after (record { block = so.block; tops = tops })
        found-top true t = found-shared t
        found-top false f = found-direct f

      pub visited-top : pick (points h.op h.placement) (block_right (power_of size) n ws h.field) true ≡ true → (compared tops : Maybe ℕ) (after : List ℕ) → ComparedIs ws h top.place so.tops compared
          → SharedIs ws h compared before after tops → VisitedIs size n ws table fits low high so h before after (record { block = so.block; tops = tops })
      visited-top right compared tops after compares shares = record {
        sized = shares.sized;
        finds = λ es xs words l m inv. rw (one_of words) (found-top right compared tops after compares shares es xs words l m inv (points h.op h.placement) refl);
      }
