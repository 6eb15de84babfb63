-- What the code shows of a pass over a range of classes: its steps, and how it ends.
-- Assumes nothing.
use mathlib.Core.Path.{◌≡◌, refl, sym, ◌∙◌, ap}
use mathlib.Core.Logic.{◌⊎◌, inl, inr}
use mathlib.Core.Bool.{Bool, true, false}
use mathlib.Core.List.{List, [], ◌∷◌, ◌++◌, append-nil, append_assoc}
use Prim.Native.Nat.{ℕ, ◌+◌, ◌-◌, ◌<◌}
use native.Mathlib.Decide.{dec_lt}
use native.Mathlib.Omega.{arith}
use Rattle.spec.specs.declared.Size.{Size}
use Rattle.places.specs.Sizes.{power_of, power-low, power-high}
use Rattle.spec.specs.Basics.{pick, both, all}
use Rattle.spec.specs.Places.{base}
use Rattle.spec.specs.Log.{Entry, Wrong, Entries}
use Rattle.spec.specs.Blocks.{pointed}
use Rattle.spec.specs.Contents.{is_top, chosen}
use Rattle.spec.specs.Opening.{fine, agree_with}
use Rattle.theory_base.proofs.Lists.{not-both, pick-i, filter-append}
use Rattle.theory_log.specs.Contents.{Mem}
use Rattle.theory_log.proofs.Places.{rising-before, all_sound}
use Rattle.theory_log.proofs.Contents.{mem-l, mem-r, mem-cases, mem-filter}
use Rattle.theory_log.proofs.Tops.{all_in, in_all}
use Rattle.buffer.specs.Bits.{has_bit, WordsKept}
use Rattle.buffer.proofs.Laws.{kept-all, kept_then}
use Rattle.index.specs.Index.{get}
use Rattle.logs.specs.declared.Cursor.{Cursor}
use Rattle.logs.specs.declared.Entry as H
use Rattle.logs.specs.Cursor.{start, cursor_at, remaining, with_value, Handed}
use Rattle.volatile.specs.Check.{Live, CheckInv}
use Rattle.volatile.specs.Known.{several}
use Rattle.volatile.specs.Plain.{Single}
use Rattle.volatile.proofs.Plain.{low-single, single-agrees}
use Rattle.consistency.specs.Classes.{within, marked, class_in}
use Rattle.consistency.specs.Passing.{Passed, PassedOver, TwinsMarked}
use Rattle.consistency.proofs.Classes.{class-several}
use Rattle.consistency.proofs.Passed.{passed_start, passed-done, passed-wrong, passed-split, passed-next}
use Rattle.consistency.proofs.Collects.{marked-none}
use Rattle.consistency.specs.declared.Checked.{Checked}
use Rattle.consistency.specs.Pass.{Part, VisitedIs, Ahead, Noted, SweptAs, ClassChecked}

-- ## Entries of which there is nothing to find

abbrev pub Harmless : ℕ → ℕ → List ℕ → List Entry → Entry → Type 0
Harmless p n ws es e = (is_top es e ≡ true → (fine p n ws e ≡ true) × (agree_with e (chosen e.key es) ≡ true)) × (pointed e ≡ false)

-- what is checked is checked of more entries, where those that are new are such
module _ (p n : ℕ) (ws : List ℕ) (es ys zs : List Entry) (has : ℕ → Bool) (blocks agreeing apart : Bool) (inv : CheckInv p n ws es ys has blocks agreeing apart) (more : Part ys zs)
    (new : (e : Entry) → Mem e zs → Mem e ys ⊎ Harmless p n ws es e) where
  each : (test : Entry → Bool) → ((e : Entry) → Harmless p n ws es e → test e ≡ true) → all test ys ≡ all test zs
  each test h = go (all test ys) refl (all test zs) refl
    where
      one : all test ys ≡ true → (e : Entry) → Mem e ys ⊎ Harmless p n ws es e → test e ≡ true
      one q e (inl m) = all_in test ys q e m
      one q e (inr m) = h e m

      go : (a : Bool) → all test ys ≡ a → (b : Bool) → all test zs ≡ b → a ≡ b
      go true q true r = refl
      go true q false r = absurd (not-both (all test zs) (in_all test zs (λ e m. one q e (new e m))) r)
      go false q true r = absurd (not-both (all test ys) (in_all test ys (λ e m. all_in test zs r e (more e m))) q)
      go false q false r = refl

  back : (e : Entry) → Live es zs e → Live es ys e
  back e l = go (new e l.member)
    where
      go : Mem e ys ⊎ Harmless p n ws es e → Live es ys e
      go (inl m) = record { member = m; first = l.first; points = l.points }
      go (inr h) = absurd (not-both (pointed e) l.points h.1)

  pub check-more : CheckInv p n ws es zs has blocks agreeing apart
  check-more = record {
    right = inv.right ∙ each (λ e. pick (is_top es e) (fine p n ws e) true) (λ e h. pick-i (is_top es e) (fine p n ws e) (λ t. (h.0 t).0));
    agreed = inv.agreed ∙ each (λ e. pick (is_top es e) (agree_with e (chosen e.key es)) true) (λ e h. pick-i (is_top es e) _ (λ t. (h.0 t).1));
    marks = record {
      marked = λ e l. inv.marks.marked e (back e l);
      only = λ u h. let r = inv.marks.only u h in (r.0, record { member = more r.0 r.1.member; first = r.1.first; points = r.1.points }, r.2);
      alone = λ t e f l m. inv.marks.alone t e f (back e l) (back f m);
      clash = inv.marks.clash;
    };
  }

-- ## The steps

pub class-grown : (low high : ℕ) (xs ps qs : List Entry) → xs ++ class_in low high (ps ++ qs) ≡ (xs ++ class_in low high ps) ++ class_in low high qs
class-grown low high xs ps qs = ap (xs ++◌) (filter-append (λ (e : Entry). within low high e.key) ps qs) ∙ sym (append_assoc xs (class_in low high ps) (class_in low high qs))

class-part : (low high : ℕ) (es xs ps : List Entry) → Part xs es → Part ps es → Part (xs ++ class_in low high ps) es
class-part low high es xs ps a b e m = go (mem-cases e xs (class_in low high ps) m)
  where
    go : Mem e xs ⊎ Mem e (class_in low high ps) → Mem e es
    go (inl i) = a e i
    go (inr i) = b e (mem-filter (λ (f : Entry). within low high f.key) e ps i).0

-- at a cursor: the tests are those of the entries xs and of those of the range that are passed
pub record Going (size : Size) (n : ℕ) (ws table : List ℕ) (fits single : Bool) (marks : List ℕ) (low high : ℕ) (so : Checked) (before now : List ℕ) (s : Checked) (c : Cursor) : Type 0 where
  pub kept : WordsKept before before → WordsKept before now
  pub sound : so.blocks ≡ true → s.blocks ≡ true
  pub tests : (es xs : List Entry) → Ahead size n ws table fits low high es xs → Noted single marks low high es → CheckInv (power_of size) n ws es xs (has_bit size before) true so.agreeing so.apart
      → (ps : List Entry) × Passed (power_of size) n ws c es ps × CheckInv (power_of size) n ws es (xs ++ class_in low high ps) (has_bit size now) true s.agreeing s.apart

module _ (size : Size) (n : ℕ) (ws table : List ℕ) (fits single : Bool) (marks : List ℕ) (low high : ℕ) (so : Checked) (before : List ℕ) where
  pub going_start : (c : Cursor) → c ≡ start → Going size n ws table fits single marks low high so before before so c
  going_start c q = record { kept = λ k. k; sound = λ t. t; tests = λ es xs a singly inv. ([], passed_start (power_of size) n ws c es q a.listed.entries, rw (append-nil xs) inv) }

  -- past entries of which there is nothing to find
  pub going-over : (now : List ℕ) (s : Checked) (chunk at end : ℕ) → Going size n ws table fits single marks low high so before now s (cursor_at chunk at end) → (at' : ℕ) → PassedOver ws end single marks low high at at'
      → Going size n ws table fits single marks low high so before now s (cursor_at chunk at' end)
  going-over now s chunk at end inv at' run = record {
    kept = inv.kept;
    sound = inv.sound;
    tests = λ es xs a singly first.
        let i = inv.tests es xs a singly first in
        let p = run.passes (power_of size) n chunk es i.0 i.1 in (
          i.0 ++ run.over,
          p,
          rw (class-grown low high xs i.0 run.over) (check-more (power_of size) n ws es (xs ++ class_in low high i.0) ((xs ++ class_in low high i.0) ++ class_in low high run.over) (has_bit size now) true s.agreeing s.apart i.2
              (λ e m. mem-l e (xs ++ class_in low high i.0) (class_in low high run.over) m)
              (λ e m. new es singly (xs ++ class_in low high i.0) (λ f q. rw p.split (mem-l f (i.0 ++ run.over) p.rest (mem-r f i.0 run.over q))) e (mem-cases e (xs ++ class_in low high i.0) (class_in low high run.over) m))),
        );
  }
    where
      new : (es : List Entry) → Noted single marks low high es → (ys : List Entry) → Part run.over es → (e : Entry) → Mem e ys ⊎ Mem e (class_in low high run.over) → Mem e ys ⊎ Harmless (power_of size) n ws es e
      new es singly ys part e (inl m) = inl m
      new es singly ys part e (inr m) =
          let f = mem-filter (λ (x : Entry). within low high x.key) e run.over m in
          let z = run.unpointed e f.0 in
          inr (λ t. (rw z, single-agrees es e (singly e.key f.1 (run.unasked e f.0)) (part e f.0) t), z)

  -- on to a cursor from which the same remains
  pub going_on : (now : List ℕ) (s : Checked) (c d : Cursor) → Going size n ws table fits single marks low high so before now s c → remaining (power_of size) n ws c ≡ remaining (power_of size) n ws d
      → Going size n ws table fits single marks low high so before now s d
  going_on now s c d inv q = record {
    kept = inv.kept;
    sound = inv.sound;
    tests = λ es xs a singly first. let i = inv.tests es xs a singly first in let p = i.1 in (i.0, record { rest = p.rest; split = p.split; remains = sym q ∙ p.remains }, i.2);
  }

  module _ (now : List ℕ) (s : Checked) (c : Cursor) (inv : Going size n ws table fits single marks low high so before now s c) where
    pub going_done : remaining (power_of size) n ws c ≡ Entries [] → SweptAs size n ws table fits single marks low high so before now s
    going_done q = record {
      kept = inv.kept;
      right = λ es xs a singly first t. let i = inv.tests es xs a singly first in rw (passed-done (power_of size) n ws c es i.0 i.1 q) at i.2;
      wrong = λ es xs a singly t first f. absurd (not-both s.blocks (inv.sound t) f);
    }

    pub going-wrong : remaining (power_of size) n ws c ≡ Wrong → SweptAs size n ws table fits single marks low high so before now s
    going-wrong q = record {
      kept = inv.kept;
      right = λ es xs a singly first t. let i = inv.tests es xs a singly first in absurd (passed-wrong (power_of size) n ws c es i.0 i.1 q);
      wrong = λ es xs a singly t first f. absurd (not-both s.blocks (inv.sound t) f);
    }

    module _ (h : H.Entry) (given : Handed (power_of size) n ws c h) (after : List ℕ) (s' : Checked) (visited : VisitedIs size n ws table fits low high s h now after s') where
      more : WordsKept before before → WordsKept before after
      more k = let w = inv.kept k in kept_then before now after w (visited.kept (kept-all now (w.long ∙ w.size)))

      abbrev e : Entry
      e = with_value ws h

      module _ (es xs : List Entry) (ahead : Ahead size n ws table fits low high es xs) (ps : List Entry) (passed : Passed (power_of size) n ws c es ps) where
        split : (ys : List Entry) × (es ≡ ps ++ e ∷ ys)
        split = passed-split (power_of size) n ws c es ps passed h given

        member : Mem e es
        member = rw split.1 (mem-r e ps (e ∷ split.0) (inl refl))

        fresh : within low high h.key ≡ true → Mem e (xs ++ class_in low high ps) → ⊥
        fresh w i = go (mem-cases e xs (class_in low high ps) i)
          where
            go : Mem e xs ⊎ Mem e (class_in low high ps) → ⊥
            go (inl j) = not-both (within low high h.key) w (ahead.others e j)
            go (inr j) =
                let rises = rw split.1 at (all_sound (power_of size) (power-low size) (power-high size) (n - 1) 1 ws es ahead.listed.entries).rising in
                let z = rising-before (base (power_of size) 1) (base (power_of size) (1 + (n - 1))) ps split.0 e e rises (mem-filter (λ (f : Entry). within low high f.key) e ps j).0 in
                omega arith

        part : Part (xs ++ class_in low high ps) es
        part = class-part low high es xs ps ahead.inside (λ f i. rw split.1 (mem-l f ps (e ∷ split.0) i))

      pub going_next : s'.blocks ≡ true → Going size n ws table fits single marks low high so before after s' h.behind
      going_next t = record {
        kept = more;
        sound = λ u. t;
        tests = λ es xs ahead singly first.
            let i = inv.tests es xs ahead singly first in (
              _,
              passed-next (power_of size) n ws c es i.0 i.1 h given,
              rw (class-grown low high xs i.0 (e ∷ []))
                  (visited.right es (xs ++ class_in low high i.0) h.words ahead.listed (member es xs ahead i.0 i.1) (part es xs ahead i.0 i.1) (fresh es xs ahead i.0 i.1) i.2 t),
            );
      }

      pub going-stop : s'.blocks ≡ false → SweptAs size n ws table fits single marks low high so before after s'
      going-stop f = record {
        kept = more;
        right = λ es xs ahead singly first t. absurd (not-both s'.blocks t f);
        wrong = λ es xs ahead singly t first g. let i = inv.tests es xs ahead singly first in visited.wrong es h.words ahead.listed (member es xs ahead i.0 i.1) (inv.sound t) f;
      }

-- ## A range

-- a key of the range that is not asked for where some have twins has no mark
not-marked : (a b : Bool) → both a b ≡ false → a ≡ true → b ≡ false
not-marked true b h t = h
not-marked false b h t = absurd (not-both true refl (sym t))

module _ (size : Size) (n : ℕ) (ws table : List ℕ) (fits single : Bool) (low high : ℕ) (so : Checked) (before after : List ℕ) (r : Checked) where
  -- with the marks of its table
  pub class-marked : fits ≡ true → (marks : List ℕ) → TwinsMarked table marks → SweptAs size n ws table fits false marks low high so before after r → ClassChecked size n ws table fits single low high so before after r
  class-marked t marks twins swept = record {
    kept = swept.kept;
    right = λ es xs a s first. swept.right es xs a (noted es xs a) first;
    wrong = λ es xs a s b first. swept.wrong es xs a (noted es xs a) b first;
  }
    where
      noted : (es xs : List Entry) → Ahead size n ws table fits low high es xs → Noted false marks low high es
      noted es xs a k w u = go (dec_lt (get table k) 0x8000_0000_0000_0000)
        where
          go : Dec (get table k < 0x8000_0000_0000_0000) → several k es ≡ 0
          go (yes l) = sym (class-several low high k w es) ∙ low-single size k (class_in low high es) (rw ((a.listed.indexed t).info k) at l)
          go (no l) = absurd (not-both (marked marks k) (twins.twins k (omega arith)) (not-marked (within low high k) (marked marks k) u w))

  -- with none
  pub class-unmarked : (marks : List ℕ) → marks ≡ [] → SweptAs size n ws table fits single marks low high so before after r → ClassChecked size n ws table fits single low high so before after r
  class-unmarked marks z swept = record {
    kept = swept.kept;
    right = λ es xs a s first. swept.right es xs a (noted es s) first;
    wrong = λ es xs a s b first. swept.wrong es xs a (noted es s) b first;
  }
    where
      noted : (es : List Entry) → (single ≡ true → Single es) → Noted single marks low high es
      noted es s k w u = go single refl
        where
          go : (b : Bool) → single ≡ b → several k es ≡ 0
          go true q = (s q).each k
          go false q = absurd (not-both (marked [] k) (marked-none k) (not-marked (within low high k) (marked [] k) (rw (z, q) at u) w))
