-- What the code shows of the tests of the top entries with one more entry.
-- Assumes nothing.
use mathlib.Core.Path.{◌≡◌, refl, sym, ◌∙◌, ap}
use mathlib.Core.Bool.{Bool, true, false}
use mathlib.Core.Option.{some}
use mathlib.Core.List.{List, [], ◌∷◌, ◌++◌, append-nil}
use Prim.Native.Nat.{ℕ}
use native.Mathlib.Decide.{ℕ_discrete}
use lib.Dec.{eqb}
use borrow.Author.Tests.{eq-eqb, ne_eqb}
use Rattle.spec.specs.declared.Size.{Size}
use Rattle.places.specs.Sizes.{power_of, power-low, power-high}
use Rattle.spec.specs.Basics.{pick, both}
use Rattle.spec.specs.Log.{Entry}
use Rattle.spec.specs.Blocks.{block_right}
use Rattle.spec.specs.Contents.{is_top, chosen}
use Rattle.spec.specs.Opening.{fine, agree_with}
use Rattle.theory_base.proofs.Lists.{not-both}
use Rattle.theory_log.specs.Contents.{Mem}
use Rattle.theory_log.proofs.Contents.{chosen_is}
use Rattle.theory_log.proofs.Tops.{is-top, top-chosen}
use Rattle.buffer.specs.Bits.{has_bit}
use Rattle.logs.specs.declared.Best.{Best}
use Rattle.logs.specs.Best.{best_of}
use Rattle.logs.specs.Stands.{StandsIn}
use Rattle.logs.specs.declared.Entry as H
use Rattle.logs.proofs.Stands.{image-stands, image-apart}
use Rattle.volatile.specs.Check.{Marks}
use Rattle.volatile.proofs.Check.{agreed-own, agreed-other, block-bit, block-wrong, check-skip, check-top}
use Rattle.consistency.specs.Classes.{within, class_in}
use Rattle.consistency.specs.declared.Checked.{Checked}
use Rattle.consistency.specs.Heads.{entry_of, points}
use Rattle.consistency.specs.Pass.{ListedIn, AgreesWith, TopIs, AgreedIs, Part, MarkedIs, VisitedIs}
use Rattle.consistency.proofs.Blocks.{both_true}
use Rattle.consistency.proofs.Found.{version-highest}

-- ## Agreement

module _ (ws : List ℕ) (so : Bool) (h : H.Entry) (place : ℕ) where
  pub agreed-not : so ≡ false → AgreedIs ws so h place false
  agreed-not f = record { own = λ p. sym f; before = λ g. refl; other = λ m t. absurd (not-both so t f) }

  module _ (t : so ≡ true) where
    pub agreed-chosen : h.place ≡ place → AgreedIs ws so h place true
    agreed-chosen q = record { own = λ p. sym t; before = λ f. absurd (not-both so t f); other = λ n. absurd (n q) }

    pub agreed-compared : (h.place ≡ place → ⊥) → (r : Bool) → AgreesWith ws h place r → AgreedIs ws so h place r
    agreed-compared n r is = record { own = λ p. absurd (n p); before = λ f. absurd (not-both so t f); other = λ m u. is }

-- ## One more entry

module _ (size : Size) (n : ℕ) (ws table : List ℕ) (fits : Bool) (low high : ℕ) (h : H.Entry) where
  -- of another class
  pub visited-out : within low high h.key ≡ false → (s : Checked) (before : List ℕ) → VisitedIs size n ws table fits low high s h before before s
  visited-out o s before = record {
    kept = λ k. k;
    right = λ es xs words l m part fresh inv t. rw (o, append-nil xs) inv;
    wrong = λ es words l m t f. absurd (not-both s.blocks t f);
  }

  module _ (own : within low high h.key ≡ true) (top : Best) (is-top-of : TopIs size n ws table fits h.key top) where
    one_of : (words : ℕ) → class_in low high (entry_of ws h words ∷ []) ≡ entry_of ws h words ∷ []
    one_of words = rw own

    module _ (es : List Entry) (words : ℕ) (l : ListedIn size n ws table fits low high es) (member : Mem (entry_of ws h words) es) where
      best : top ≡ best_of (chosen h.key es)
      best = is-top-of low high es l own

      tested : is_top es (entry_of ws h words) ≡ eqb h.version top.version
      tested = sym (ap (λ (b : Best). eqb h.version b.version) best ∙ ap (eqb h.version) (version-highest h.key es))

      pub is_below : (h.version ≡ top.version → ⊥) → is_top es (entry_of ws h words) ≡ false
      is_below m = tested ∙ ne_eqb h.version top.version m

      pub is-highest : h.version ≡ top.version → is_top es (entry_of ws h words) ≡ true
      is-highest q = tested ∙ eq-eqb h.version top.version q

      -- the chosen entry of its key, and where it stands
      pick_chosen : h.version ≡ top.version → (f : Entry) × (chosen h.key es ≡ some f) × (f.at ≡ top.place)
      pick_chosen q =
          let t = top-chosen es (entry_of ws h words) (is-top es (entry_of ws h words) member (is-highest q)) in
          (t.0, t.1, sym (ap (λ (b : Best). b.place) (best ∙ ap best_of t.1)))

      -- agreement with it
      pub agreement : h.version ≡ top.version → (agreeing r : Bool) → AgreedIs ws agreeing h top.place r → r ≡ both agreeing (agree_with (entry_of ws h words) (chosen h.key es))
      agreement q agreeing r is = go (pick_chosen q) (ℕ_discrete h.place top.place) agreeing refl
        where
          read : (f : Entry) → Mem f es → StandsIn ws f
          read f m = image-stands (power_of size) (power-low size) (power-high size) n ws es l.entries f m

          go : ((f : Entry) × (chosen h.key es ≡ some f) × (f.at ≡ top.place)) → Dec (h.place ≡ top.place) → (so : Bool) → agreeing ≡ so
              → r ≡ both so (agree_with (entry_of ws h words) (chosen h.key es))
          go t (no p) false a = is.before a
          go t (yes p) so a =
              let own = agreed-own es (entry_of ws h words) t.0 (image-apart (power_of size) (power-low size) (power-high size) n ws es l.entries) member t.1 (t.2 ∙ sym p) in
              is.own p ∙ a ∙ sym (ap (both so) own ∙ both_true so)
          go t (no p) true a =
              let f = t.0 in
              let c = t.1 in
              is.other p a words f (read (entry_of ws h words) member) (read f (chosen_is h.key es f c).in_list) t.2 ∙ sym (agreed-other es (entry_of ws h words) f c)

      -- the marks, with its block
      marking : h.version ≡ top.version → (xs : List Entry) → Part xs es → (Mem (entry_of ws h words) xs → ⊥) → (before after : List ℕ) (apart r : Bool) → MarkedIs size apart h top.place before after r
          → fine (power_of size) n ws (entry_of ws h words) ≡ true → Marks es xs (has_bit size before) apart → Marks es (xs ++ entry_of ws h words ∷ []) (has_bit size after) r
      marking q xs part fresh before after apart r is b m =
          let c = pick_chosen q in
          is.marks ws es xs words c.0 (image-apart (power_of size) (power-low size) (power-high size) n ws es l.entries) member part fresh c.1 c.2 (λ p. block-bit size n ws (entry_of ws h words) l.few b p) m

    module _ (s : Checked) (before : List ℕ) where
      pub visited-below : (h.version ≡ top.version → ⊥) → VisitedIs size n ws table fits low high s h before before s
      visited-below m = record {
        kept = λ k. k;
        right = λ es xs words l member part fresh inv t. rw (one_of words) (check-skip (power_of size) n ws es xs (entry_of ws h words) (has_bit size before) true s.agreeing s.apart inv (is_below es words l member m));
        wrong = λ es words l member t f. absurd (not-both s.blocks t f);
      }

      module _ (q : h.version ≡ top.version) where
        pub visited-wrong : pick (points h.op h.placement) (block_right (power_of size) n ws h.field) true ≡ false → VisitedIs size n ws table fits low high s h before before (record { blocks = false; agreeing = s.agreeing; apart = s.apart })
        visited-wrong b = record {
          kept = λ k. k;
          right = λ es xs words l member part fresh inv t. absurd (not-both true refl (sym t));
          wrong = λ es words l member t f. block-wrong (power_of size) n ws es (entry_of ws h words) member (is-highest es words l member q) b;
        }

        pub visited-top : pick (points h.op h.placement) (block_right (power_of size) n ws h.field) true ≡ true → (agreeing apart : Bool) (after : List ℕ) → AgreedIs ws s.agreeing h top.place agreeing
            → MarkedIs size s.apart h top.place before after apart → VisitedIs size n ws table fits low high s h before after (record { blocks = true; agreeing = agreeing; apart = apart })
        visited-top b agreeing apart after agrees marked = record {
          kept = marked.kept;
          right = λ es xs words l member part fresh inv t.
              rw (one_of words)
              (check-top (power_of size) n ws es xs (entry_of ws h words) (has_bit size before) true s.agreeing s.apart inv (has_bit size after) true agreeing apart (is-highest es words l member q) (sym b)
              (agreement es words l member q s.agreeing agreeing agrees) (marking es words l member q xs part (fresh own) before after s.apart apart marked b inv.marks));
          wrong = λ es words l member t f. absurd (not-both true refl f);
        }
