-- What the code shows of marks: one is set, and those of all slots that were seen.
-- Assumes nothing.
use mathlib.Core.Path.{◌≡◌, refl, sym, ◌∙◌, ap}
use mathlib.Core.Bool.{Bool, true, false}
use mathlib.Core.List.{List}
use Prim.Native.Nat.{ℕ, ◌+◌, ◌*◌, ◌/◌, ◌≤◌, ◌<◌}
use native.Mathlib.Decide.{ℕ_discrete, dec_lt}
use native.Mathlib.Omega.{arith}
use lib.Bits.{bit_or, or_add_and, and_le_l, and_le_r}
use lib.Dec.{ltb}
use lib.ListN.{length, get_or, set, length-set}
use lib.Seq.{get_or-set_same, get_or-set_other}
use borrow.Author.Tests.{lt-ltb, le-ltb, ltb-true}
use Rattle.theory_base.proofs.Lists.{not-both}
use Rattle.index.specs.Index.{key_at, info_at, slots, stop_of, get}
use Rattle.index.proofs.Slots.{get-stored}
use Rattle.consistency.specs.Classes.{class_of, mark_at, marked}
use Rattle.consistency.specs.Passing.{OneMarked, QuietFrom, TwinsMarked}

-- ## One mark

module _ (marks : List ℕ) (key info at : ℕ) (is_at : at ≡ class_of key / 0x4_0000) where
  pub mark_set : at < length marks → OneMarked marks (set marks at 1) key info
  mark_set l = record {
    own = λ h. rw (← is_at, length-set marks at 1, lt-ltb at (length marks) l, get_or-set_same marks at 1 0 l);
    others = λ k h. go (class_of k / 0x4_0000) h (ℕ_discrete (class_of k / 0x4_0000) at);
  }
    where
      go : (i : ℕ) → mark_at marks i ≡ true → Dec (i ≡ at) → mark_at (set marks at 1) i ≡ true
      go i h (yes q) = rw (q, length-set marks at 1, lt-ltb at (length marks) l, get_or-set_same marks at 1 0 l)
      go i h (no q) = rw (length-set marks at 1, get_or-set_other marks at i 1 0 q) h

  pub mark-none : length marks ≤ at → OneMarked marks marks key info
  mark-none l = record { own = λ h. rw (← is_at, le-ltb at (length marks) l); others = λ k h. h }

pub mark-low : (marks : List ℕ) (key info : ℕ) → info < 0x8000_0000_0000_0000 → OneMarked marks marks key info
mark-low marks key info l = record { own = λ h. absurd (omega arith); others = λ k h. h }

-- ## All slots

-- the slots below s are seen
pub record Seen (table marks : List ℕ) (s : ℕ) : Type 0 where
  pub each : (j : ℕ) → j < s → 0x8000_0000_0000_0000 ≤ info_at table j → marked marks (key_at table j) ≡ true

pub seen_none : (table marks : List ℕ) → Seen table marks 0
seen_none table marks = record { each = λ j l h. absurd (omega arith) }

pub seen_next : (table marks marks' : List ℕ) (s key info : ℕ) → Seen table marks s → key ≡ key_at table s → info ≡ info_at table s → OneMarked marks marks' key info → Seen table marks' (s + 1)
seen_next table marks marks' s key info seen is_key is-info one = record { each = λ j l h. go j l h (ℕ_discrete j s) }
  where
    go : (j : ℕ) → j < s + 1 → 0x8000_0000_0000_0000 ≤ info_at table j → Dec (j ≡ s) → marked marks' (key_at table j) ≡ true
    go j l h (yes q) = let m = ap (info_at table) q in ap (λ (i : ℕ). marked marks' (key_at table i)) q ∙ ap (marked marks') (sym is_key) ∙ one.own (omega arith)
    go j l h (no q) = one.others (key_at table j) (seen.each j (omega arith) h)

-- ## Four slots at once

or-upper : (a b : ℕ) → (a ≤ bit_or a b) × (b ≤ bit_or a b)
or-upper a b = let s = or_add_and a b in let l = and_le_l a b in let r = and_le_r a b in (omega arith, omega arith)

pub quiet_short : (table : List ℕ) (s : ℕ) → QuietFrom table s false
quiet_short table s = record { fits = λ t. absurd (not-both true refl (sym t)); low = λ t. absurd (not-both true refl (sym t)) }

pub quiet_told : (table : List ℕ) (s at : ℕ) → at ≡ 2 * s → at + 8 ≤ length table
    → QuietFrom table s (ltb (bit_or (bit_or (get_or table (at + 1) 0) (get_or table (at + 3) 0)) (bit_or (get_or table (at + 5) 0) (get_or table (at + 7) 0))) 0x8000_0000_0000_0000)
quiet_told table s at is_at l = record { fits = λ t. omega arith; low = λ t j a b. all (ltb-true _ 0x8000_0000_0000_0000 t) j a b }
  where
    x : ℕ → ℕ
    x i = get_or table (at + i) 0

    here : (j i : ℕ) → 2 * j + 1 ≡ at + i → info_at table j ≡ x i
    here j i q = ap (λ (k : ℕ). get_or table k 0) q

    all : bit_or (bit_or (x 1) (x 3)) (bit_or (x 5) (x 7)) < 0x8000_0000_0000_0000 → (j : ℕ) → s ≤ j → j < s + 4 → info_at table j < 0x8000_0000_0000_0000
    all h j a b = go (ℕ_discrete j s) (ℕ_discrete j (s + 1)) (ℕ_discrete j (s + 2))
      where
        u : (bit_or (x 1) (x 3) < 0x8000_0000_0000_0000) × (bit_or (x 5) (x 7) < 0x8000_0000_0000_0000)
        u = let o = or-upper (bit_or (x 1) (x 3)) (bit_or (x 5) (x 7)) in let m = o.0 in let n = o.1 in (omega arith, omega arith)

        go : Dec (j ≡ s) → Dec (j ≡ s + 1) → Dec (j ≡ s + 2) → info_at table j < 0x8000_0000_0000_0000
        go (yes q) d e = let y = here j 1 (omega arith) in let p = u.0 in let r = (or-upper (x 1) (x 3)).0 in omega arith
        go (no n) (yes q) e = let y = here j 3 (omega arith) in let p = u.0 in let r = (or-upper (x 1) (x 3)).1 in omega arith
        go (no n) (no m) (yes q) = let y = here j 5 (omega arith) in let p = u.1 in let r = (or-upper (x 5) (x 7)).0 in omega arith
        go (no n) (no m) (no o) = let y = here j 7 (omega arith) in let p = u.1 in let r = (or-upper (x 5) (x 7)).1 in omega arith

pub seen-quiet : (table marks : List ℕ) (s : ℕ) → Seen table marks s → (r : Bool) → QuietFrom table s r → r ≡ true → Seen table marks (s + 4)
seen-quiet table marks s seen r quiet t = record { each = λ j l h. go j l h (dec_lt j s) }
  where
    go : (j : ℕ) → j < s + 4 → 0x8000_0000_0000_0000 ≤ info_at table j → Dec (j < s) → marked marks (key_at table j) ≡ true
    go j l h (yes q) = seen.each j q h
    go j l h (no q) = let z = quiet.low t j (omega arith) l in absurd (omega arith)

-- ## The end

pub seen_all : (table marks : List ℕ) (s : ℕ) → Seen table marks s → slots table ≤ s → TwinsMarked table marks
unfolding get
seen_all table marks s seen l = record {
  twins = λ k h.
      let a = get-stored table k (λ z. omega arith) in
      let b = a.0 in
      ap (marked marks) (sym a.1) ∙ seen.each (stop_of table k) (omega arith) h;
}
