-- Look-up shows the contents: the part of the image that it answers is the value that the chosen entry says.
-- Assumes nothing.
use mathlib.Core.Path.{◌≡◌, refl, sym, ◌∙◌, ap}
use mathlib.Core.Bool.{Bool, true, false}
use mathlib.Core.Option.{Option, none, some}
use mathlib.Core.List.{List, [], ◌∷◌}
use Prim.Native.Nat.{ℕ, zero, suc, ◌+◌, ◌-◌, ◌*◌, ◌/◌, ◌≤◌, min}
use native.Mathlib.Nat.{zero-add, suc-add}
use native.Mathlib.Omega.{arith}
use lib.Dec.{eqb}
use lib.ListN.{length, get_or, take, drop, length-take, length-drop}
use lib.Seq.{slice, take-nil, drop-drop}
use Rattle.spec.specs.Basics.{pick, both}
use Rattle.spec.specs.Words.{AreBytes, words_of, value_bytes}
use Rattle.spec.specs.Places.{unit_chunk, unit_word, max_chunks}
use Rattle.spec.specs.Medium.{Medium, latest}
use Rattle.spec.specs.Directory.{size_of}
use Rattle.spec.specs.Log.{Entry, encode}
use Rattle.spec.specs.Blocks.{pointed, block_bytes}
use Rattle.spec.specs.Contents.{Held, Absent, Value, chosen, held, contents_by, meaning, entries_in}
use Rattle.spec.specs.Plans.{part_or, look_up}
use Rattle.spec.specs.Book.{Item}
use Rattle.spec.specs.History.{shows}
use Rattle.spec.specs.declared.Refusal.TheVariants as N
use Rattle.spec.specs.declared.Report.TheVariants as R
use Rattle.words.specs.Image.{length-words_of}
use Rattle.words.proofs.Parts.{value-part}
use Rattle.theory_base.proofs.Lists.{both_l, not-both}
use Rattle.theory_log.specs.Batch.{Kind, put, block, delete, Right}
use Rattle.theory_log.proofs.Contents.{chosen_is}
use Rattle.theory_log.proofs.Places.{right-in, all_sound}
use Rattle.theory_log.proofs.Batch.{slice-agree}
use Rattle.theory_base.proofs.PutBack.{Past, past-own}
use Rattle.theory_log.proofs.Stands.{all-stands}
use Rattle.theory_log.proofs.Tops.{chosen-top}
use Rattle.theory_crash.specs.Accepted.{Ok}
use Rattle.theory_crash.proofs.Far.{entry-far, block-far}
use Rattle.theory_crash.proofs.Blocks.{Fits, fits_in}
use Rattle.theory_crash.proofs.Frame.{live-fits}
use Rattle.theory_plans.specs.Standing.{Standing}
use Rattle.theory_plans.proofs.Between.{stand-entries}

-- a part by its first place and its length
slice-take : (a n : ℕ) (l : List ℕ) → slice a (a + n) l ≡ take n (drop a l)
slice-take zero n l = rw zero-add
slice-take (suc a) n [] = rw (take-nil (suc a + n), take-nil n)
slice-take (suc a) n (x ∷ l) = rw suc-add (slice-take a n l)

-- the value of n bytes whose words start at word a of the image
value-at : (image ws : List ℕ) (a n : ℕ) → AreBytes image → Past (words_of image) ws → max_chunks + 8 ≤ a → a + (n + 7) / 8 ≤ length ws
    → slice (8 * a) (8 * a + n) image ≡ value_bytes n (slice a (a + (n + 7) / 8) ws)
value-at image ws a n small w far h =
    slice-take (8 * a) n image
    ∙ value-part image a n small (rw (← length-words_of image, w.long) h)
    ∙ ap (value_bytes n) (slice-agree a (a + (n + 7) / 8) (words_of image) ws (rw w.long h) h (λ i x y. w.same i (omega arith)))

-- the value's words of an entry that stands in the log
value-words : (ws : List ℕ) (e : Entry) → take (2 + length e.value) (drop e.at ws) ≡ encode e
    → (slice (e.at + 2) (e.at + 2 + length e.value) ws ≡ e.value) × (e.at + 2 + length e.value ≤ length ws)
value-words ws e h =
    let l = length e.value in
    let size : min (2 + l) (length ws - e.at) ≡ 2 + l = sym (rw (length-take, length-drop)) ∙ ap length h ∙ omega arith in (
      slice-take (e.at + 2) l ws ∙ rw (← drop-drop 2 e.at ws) (sym (slice-take 2 l (drop e.at ws)) ∙ ap (drop 2) h),
      omega arith,
    )

-- a put that points to no block is in the log
in-log : (op pl x : ℕ) → Kind op pl x → eqb op 1 ≡ true → both (eqb op 1) (eqb pl 1) ≡ false → eqb pl 0 ≡ true
in-log op pl x (put l) h g = refl
in-log op pl x block h g = absurd (not-both true refl g)
in-log op pl x delete h g = absurd (not-both false h refl)

module _ (p : ℕ) (lo : 12 ≤ p) (hi : p ≤ 16) where
  pub looked : (n : ℕ) (ws : List ℕ) (es : List Entry) (image : List ℕ) → Ok p n ws es → AreBytes image → Past (words_of image) ws → (k : ℕ)
      → shows (look_up ws es k) image ≡ some (contents_by (meaning ws) es k)
  unfolding look_up
  looked n ws es image ok small w k = go (chosen k es) refl
    where
      one : (e : Entry) → chosen k es ≡ some e → (b : Bool) → eqb e.op 1 ≡ b → (q : Bool) → pointed e ≡ q
          → shows (pick b (pick q (R.Part (8 * (unit_word e.field + 1)) (get_or ws (unit_word e.field) 0) e.version) (R.Part (8 * (e.at + 2)) e.field e.version)) (R.Refused N.KeyAbsent)) image
          ≡ some (pick q (Value (block_bytes ws e.field)) (pick b (Value (value_bytes e.field e.value)) Absent))
      one e c true h true g = ap (λ (l : List ℕ). some (Value l)) (value-at image ws (unit_word u + 1) len small w far end)
        where
          u : ℕ
          u = e.field

          len : ℕ
          len = get_or ws (unit_word u) 0

          fits : Fits p n u (size_of p ws (unit_chunk p u)) len
          fits = live-fits p lo hi n ws es ok e (chosen-top k es e c) g

          far : max_chunks + 8 ≤ unit_word u + 1
          far = let a = block-far p lo hi n ws es ok e (chosen-top k es e c) g in omega arith

          end : unit_word u + 1 + (len + 7) / 8 ≤ length ws
          end = let i = (fits_in p lo hi n u _ len (unit_word u + (len + 7) / 8) fits (omega arith) (omega arith)).2 in let l = ok.long in omega arith
      one e c true h false g = ap (λ (l : List ℕ). some (Value l)) (value-at image ws (e.at + 2) e.field small w far end ∙ ap (value_bytes e.field) (rw size at stands.0))
        where
          right : Right e
          right = right-in es e (all_sound p lo hi (n - 1) 1 ws es ok.parsed).right (chosen_is k es e c).in_list

          size : length e.value ≡ (e.field + 7) / 8
          size = right.words ∙ rw (in-log e.op e.placement e.field right.kind h g)

          stands : (slice (e.at + 2) (e.at + 2 + length e.value) ws ≡ e.value) × (e.at + 2 + length e.value ≤ length ws)
          stands = value-words ws e (all-stands p (n - 1) 1 ws es e ok.parsed (chosen_is k es e c).in_list)

          far : max_chunks + 8 ≤ e.at + 2
          far = let a = entry-far p lo hi n ws es ok e (chosen_is k es e c).in_list in omega arith

          end : e.at + 2 + (e.field + 7) / 8 ≤ length ws
          end = let a = stands.1 in let b = size in omega arith
      one e c false h true g = absurd (not-both (eqb e.op 1) (both_l (eqb e.op 1) (eqb e.placement 1) g) h)
      one e c false h false g = refl

      go : (q : Option Entry) → chosen k es ≡ q → shows (part_or ws q) image ≡ some (held (meaning ws) q)
      go none c = refl
      go (some e) c = one e c (eqb e.op 1) refl (pointed e) refl

  pub look-shows : (n table : ℕ) (C : ℕ → Held) (book : List Item) (items : List Entry) (m : Medium) (image : List ℕ) → AreBytes image → words_of image ≡ latest m
      → Standing p n table C book items m → (k : ℕ) → shows (look_up (latest m) (entries_in p n (latest m)) k) image ≡ some (C k)
  look-shows n table C book items m image small w s k =
      ap (λ (es : List Entry). shows (look_up (latest m) es k) image) (stand-entries p lo hi n table C book items m s)
      ∙ ap (λ (ws : List ℕ). shows (look_up ws s.entries k) image) s.rest.now
      ∙ looked n s.words s.entries image s.rest.ok small (rw (w, s.rest.now) (past-own s.words)) k
      ∙ ap some (s.holds k)
