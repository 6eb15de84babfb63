-- What the code shows of the tests of all classes, one range after the other, and of their end.
-- Assumes nothing.
use mathlib.Core.Path.{◌≡◌, refl, sym, ◌∙◌, ap}
use mathlib.Core.Logic.{◌⊎◌, inl, inr}
use mathlib.Core.Bool.{Bool, true, false}
use Rattle.std.specs.Prelude.{Option, Some, None, unwrap_or}
use Rattle.std.specs.Option.{option_and}
use mathlib.Core.List.{List, [], ◌++◌}
use Prim.Native.Nat.{ℕ, ◌-◌, ◌≤◌}
use native.Mathlib.Omega.{arith}
use Rattle.spec.specs.declared.Size.{Size}
use Rattle.places.specs.Sizes.{power_of, power-low, power-high}
use Rattle.spec.specs.Basics.{negate}
use Rattle.spec.specs.Places.{max_chunks}
use Rattle.spec.specs.Log.{Entry, Entries, image_entries}
use Rattle.spec.specs.Opening.{blocks_test}
use Rattle.theory_base.proofs.Lists.{not-both, filter_none}
use Rattle.theory_log.specs.Batch.{AllRight}
use Rattle.theory_log.specs.Contents.{Mem}
use Rattle.theory_log.proofs.Places.{all_sound}
use Rattle.theory_log.proofs.Contents.{mem-l, mem-r, mem-cases, mem-filter, filter-mem}
use Rattle.theory_log.proofs.Tops.{in_all}
use Rattle.buffer.specs.Bits.{has_bit, WordsKept, BitsCleared}
use Rattle.buffer.proofs.Laws.{kept-all, kept_then}
use Rattle.volatile.specs.Check.{CheckInv}
use Rattle.volatile.specs.Plain.{Single}
use Rattle.volatile.proofs.Check.{check-start, check-blocks, check-tops, check-live}
use Rattle.volatile.proofs.Plain.{plain-check}
use Rattle.std.specs.Borrow.{Bor}
use Rattle.consistency.specs.Classes.{within, class_in, table_in, holds_keys}
use Rattle.consistency.specs.Passing.{Collecting}
use Rattle.consistency.proofs.Classes.{not_within, within-other, within_first, within-second, within-either, class-all}
use Rattle.consistency.specs.declared.Checked.{Checked}
use Rattle.consistency.specs.Pass.{Listed, Part, Ahead, ClassChecked, Tested, AllChecked, Examined}
use Rattle.consistency.proofs.Sweeps.{check-more}

-- ## The end

right-all : (size : Size) → (n : ℕ) (ws : List ℕ) (es : List Entry) → image_entries (power_of size) n ws ≡ Entries es → AllRight es
right-all size n ws es h = (all_sound (power_of size) (power-low size) (power-high size) (n - 1) 1 ws es h).right

told-right : (size : Size) → (n : ℕ) (ws : List ℕ) (es : List Entry) → image_entries (power_of size) n ws ≡ Entries es → (after : List ℕ) (r : Checked) → r.blocks ≡ true
    → CheckInv (power_of size) n ws es es (has_bit size after) true r.agreeing r.apart → Tested size n ws es after r
told-right size n ws es h after r b inv = record {
  blocks = b ∙ check-blocks (power_of size) n ws es (right-all size n ws es h) (has_bit size after) true r.agreeing r.apart inv;
  tops = λ t. check-tops (power_of size) n ws es (right-all size n ws es h) (has_bit size after) true r.agreeing r.apart inv;
  bits = λ t. check-live (power_of size) n ws es (right-all size n ws es h) (has_bit size after) true r.agreeing r.apart inv;
}

told-wrong : (size : Size) → (n : ℕ) (ws : List ℕ) (es : List Entry) (after : List ℕ) (r : Checked) → r.blocks ≡ false → blocks_test (power_of size) n ws es ≡ false → Tested size n ws es after r
told-wrong size n ws es after r f w = record { blocks = f ∙ sym w; tops = λ t. absurd (not-both r.blocks t f); bits = λ t. absurd (not-both r.blocks t f) }

-- ## One range after the other

pub class-none : (es : List Entry) → class_in 0 0 es ≡ []
class-none es = filter_none (λ (e : Entry). within 0 0 e.key) es (in_all _ es (λ e m. ap negate (not_within 0 0 e.key (λ l h. omega arith))))

-- two ranges side by side
class-both : (low high : ℕ) (es : List Entry) → low ≤ high → Part (class_in 0 low es ++ class_in low high es) (class_in 0 high es)
class-both low high es h e m = go (mem-cases e (class_in 0 low es) (class_in low high es) m)
  where
    go : Mem e (class_in 0 low es) ⊎ Mem e (class_in low high es) → Mem e (class_in 0 high es)
    go (inl i) = let f = mem-filter (λ (x : Entry). within 0 low x.key) e es i in filter-mem (λ (x : Entry). within 0 high x.key) e es f.0 (within_first low high e.key h f.1)
    go (inr i) = let f = mem-filter (λ (x : Entry). within low high x.key) e es i in filter-mem (λ (x : Entry). within 0 high x.key) e es f.0 (within-second low high e.key h f.1)

pub class-either : (low high : ℕ) (es : List Entry) → low ≤ high → Part (class_in 0 high es) (class_in 0 low es ++ class_in low high es)
class-either low high es h e m = let f = mem-filter (λ (x : Entry). within 0 high x.key) e es m in go f.0 (within-either low high e.key h f.1)
  where
    go : Mem e es → (within 0 low e.key ≡ true) ⊎ (within low high e.key ≡ true) → Mem e (class_in 0 low es ++ class_in low high es)
    go i (inl w) = mem-l e (class_in 0 low es) (class_in low high es) (filter-mem (λ (x : Entry). within 0 low x.key) e es i w)
    go i (inr w) = mem-r e (class_in 0 low es) (class_in low high es) (filter-mem (λ (x : Entry). within low high x.key) e es i w)

-- a table is known to hold the keys if it has room for them
abbrev pub Known : Option ℕ → List ℕ → Bool → List ℕ → Type 0
Known keys held fits table = fits ≡ true → (keys ≡ Some (unwrap_or keys 0)) × (table ≡ held)

pub known_of : (keys : Option ℕ) (own : Bor (List ℕ)) (known : Option (Bor (List ℕ))) → known ≡ option_and keys (Some own) → Known keys own.now (holds_keys known) (table_in known)
known_of keys own known q = rw q (go keys)
  where
    go : (k : Option ℕ) → Known k own.now (holds_keys (option_and k (Some own))) (table_in (option_and k (Some own)))
    go None = λ t. absurd (not-both true refl (sym t))
    go (Some k) = λ t. (refl, refl)

-- the classes below `low` are done, and no block was wrong
pub record Done (size : Size) (n : ℕ) (ws : List ℕ) (before now : List ℕ) (s : Checked) (low : ℕ) : Type 0 where
  pub kept : WordsKept before before → WordsKept before now
  pub sound : s.blocks ≡ true
  pub tests : (es : List Entry) → n ≤ max_chunks → image_entries (power_of size) n ws ≡ Entries es → ((u : ℕ) → has_bit size before u ≡ false) → CheckInv (power_of size) n ws es (class_in 0 low es) (has_bit size now) true s.agreeing s.apart

module _ (size : Size) (n : ℕ) (ws : List ℕ) (before : List ℕ) where
  pub done_none : Done size n ws before before (record { blocks = true; agreeing = true; apart = true }) 0
  done_none = record { kept = λ k. k; sound = refl; tests = λ es few h z. rw (class-none es) (check-start (power_of size) n ws es (has_bit size before) z) }

  module _ (now : List ℕ) (s : Checked) (low : ℕ) (inv : Done size n ws before now s low) where
    pub done_all : low ≡ 0x1_0000_0000 → AllChecked size n ws before now s
    done_all q = record {
      kept = inv.kept;
      tested = λ es few h z. told-right size n ws es h now s inv.sound (rw (q, class-all es) at (inv.tests es few h z));
    }

    module _ (high : ℕ) (rises : low ≤ high) (own held table : List ℕ) (fits : Bool) (keys : Option ℕ) (collected : Collecting size n ws own held low high keys) (known : Known keys held fits table) (after : List ℕ) (s' : Checked)
        (checked : ClassChecked size n ws table fits false low high s now after s') where
      ahead : (es : List Entry) → n ≤ max_chunks → image_entries (power_of size) n ws ≡ Entries es → Ahead size n ws table fits low high es (class_in 0 low es)
      ahead es few h = record {
        listed = record { few = few; entries = h; keys = unwrap_or keys 0; indexed = λ t. let k = known t in rw k.1 (collected.holds few es h (unwrap_or keys 0) k.0) };
        inside = λ e m. (mem-filter (λ (x : Entry). within 0 low x.key) e es m).0;
        others = λ e m. within-other low high e.key rises (mem-filter (λ (x : Entry). within 0 low x.key) e es m).1;
      }

      more : WordsKept before before → WordsKept before after
      more k = let w = inv.kept k in kept_then before now after w (checked.kept (kept-all now (w.long ∙ w.size)))

      pub done_next : s'.blocks ≡ true → Done size n ws before after s' high
      done_next t = record {
        kept = more;
        sound = t;
        tests = λ es few h z.
            check-more (power_of size) n ws es (class_in 0 low es ++ class_in low high es) (class_in 0 high es) (has_bit size after) true s'.agreeing s'.apart
            (checked.right es (class_in 0 low es) (ahead es few h) (λ t. absurd (not-both true refl (sym t))) (inv.tests es few h z) t) (class-both low high es rises) (λ e m. inl (class-either low high es rises e m));
      }

      pub done-wrong : s'.blocks ≡ false → AllChecked size n ws before after s'
      done-wrong f = record {
        kept = more;
        tested = λ es few h z. told-wrong size n ws es after s' f (checked.wrong es (class_in 0 low es) (ahead es few h) (λ t. absurd (not-both true refl (sym t))) inv.sound (inv.tests es few h z) f);
      }

-- ## With the table, with none, and without a pass

module _ (size : Size) (n : ℕ) (ws table : List ℕ) (fits single direct : Bool) (before cleared : List ℕ) (clear : BitsCleared size before cleared) where
  whole : (after : List ℕ) → (WordsKept cleared cleared → WordsKept cleared after) → WordsKept before after
  whole after k = kept_then before cleared after clear.kept (k (kept-all cleared (clear.kept.long ∙ clear.kept.size)))

  pub examined-plain : single ≡ true → direct ≡ true → Examined size n ws table fits single direct before cleared (record { blocks = true; agreeing = true; apart = true })
  examined-plain s d = record {
    kept = clear.kept;
    tested = λ es l singly directly. told-right size n ws es l.entries cleared (record { blocks = true; agreeing = true; apart = true }) refl (plain-check (power_of size) n ws es (has_bit size cleared) clear.none (singly s) (directly d));
  }

  pub examined-classes : (after : List ℕ) (r : Checked) → AllChecked size n ws cleared after r → Examined size n ws table fits single direct before after r
  examined-classes after r checked = record { kept = whole after checked.kept; tested = λ es l s d. checked.tested es l.few l.entries clear.none }

  pub examined-table : (after : List ℕ) (r : Checked) → ClassChecked size n ws table fits single 0 0x1_0000_0000 (record { blocks = true; agreeing = true; apart = true }) cleared after r
      → Examined size n ws table fits single direct before after r
  examined-table after r checked = record { kept = whole after checked.kept; tested = λ es l s d. go es l s r.blocks refl }
    where
      ahead : (es : List Entry) → Listed size n ws table fits es → Ahead size n ws table fits 0 0x1_0000_0000 es []
      ahead es l = record {
        listed = record { few = l.few; entries = l.entries; keys = l.keys; indexed = λ t. rw (class-all es) (l.indexed t) };
        inside = λ e m. absurd m;
        others = λ e m. absurd m;
      }

      go : (es : List Entry) → Listed size n ws table fits es → (single ≡ true → Single es) → (b : Bool) → r.blocks ≡ b → Tested size n ws es after r
      go es l s true q = told-right size n ws es l.entries after r q (rw (class-all es) at (checked.right es [] (ahead es l) s (check-start (power_of size) n ws es (has_bit size cleared) clear.none) q))
      go es l s false q = told-wrong size n ws es after r q (checked.wrong es [] (ahead es l) s refl (check-start (power_of size) n ws es (has_bit size cleared) clear.none) q)
