-- A cleaning keeps the contents.
-- Assumes nothing.
use Rattle.std.proofs.lemmas.Bool.Decides.{nat_tests}
use mathlib.Core.Path.{◌≡◌, refl, sym, ◌∙◌, ap}
use mathlib.Core.Logic.{inl, inr}
use mathlib.Core.Bool.{Bool, true, false}
use mathlib.Core.Option.{Option, none, some}
use mathlib.Core.List.{List, [], ◌∷◌, ◌++◌, map}
use Prim.Native.Nat.{ℕ, zero, suc, ◌+◌, ◌-◌, ◌*◌, ◌≤◌, ◌<◌}
use native.Mathlib.Omega.{arith}
use lib.Dec.{eqb}
use lib.ListN.{length, get_or, take, drop, length-append, length-take, length-drop}
use lib.Seq.{slice}
use borrow.Author.Tests.{eq-eqb}
use Rattle.spec.specs.declared.LogStep.{LogStep}
use Rattle.spec.specs.declared.LogStep.TheVariants as S
use Rattle.spec.specs.declared.Refusal.TheVariants as N
use Rattle.spec.specs.Basics.{pick, negate, filter, any}
use Rattle.spec.specs.Places.{base, chunk_lines, unit_chunk, directory_word, max_chunks}
use Rattle.spec.specs.Medium.{Action, Medium, latest, Mem as Among}
use Rattle.spec.specs.Directory.{is_free, is_log, role_at, lines_of, size_of, freed_word}
use Rattle.spec.specs.Log.{Entry, Entries, step_of, after, parse, encode, encode_all}
use Rattle.spec.specs.Blocks.{pointed}
use Rattle.spec.specs.Contents.{Held, is_top, capacity, keys_of, entries_in, live_blocks, is_kept, kept_in}
use Rattle.spec.specs.Actions.{lines_for}
use Rattle.spec.specs.Plans.{Task, Cleaning, Olds, old_of, olds_of, Begin, need, log_place, append_to, in_use, has_live, free, clean_to, clean_log, clean_data, plan_clean}
use Rattle.spec.specs.Book.{Item}
use Rattle.theory_base.proofs.Lists.{either-no, not-both}
use Rattle.theory_base.proofs.PutBack.{AreOf, AreLow}
use Rattle.theory_base.proofs.Through.{Through, Each}
use Rattle.theory_log.specs.Contents.{Mem, Top}
use Rattle.theory_log.proofs.Contents.{filter-mem}
use Rattle.theory_log.proofs.Directory.{lines-is, size_is, lines-most}
use Rattle.theory_log.proofs.Kept.{parts, kept-is}
use Rattle.theory_log.proofs.Parse.{found, cons_inv}
use Rattle.theory_log.proofs.Tops.{top-is}
use Rattle.theory_log.proofs.Walk.{slice-long}
use Rattle.theory_crash.specs.Rest.{Rests, Cuts}
use Rattle.theory_crash.proofs.Append.{some-lines, clean-append}
use Rattle.theory_crash.proofs.Clean.{clean-free-through}
use Rattle.theory_crash.proofs.Directory.{log-says, not-log-says}
use Rattle.theory_crash.proofs.Free.{free-data}
use Rattle.theory_crash.proofs.Cells.{each_append}
use Rattle.theory_crash.proofs.View.{Shy, append-shy, seal-shy}
use Rattle.theory_plans.specs.Standing.{Standing, Going, Reading}
use Rattle.theory_plans.proofs.Begun.{need-begin}
use Rattle.theory_plans.proofs.LogPlace.{log-place}
use Rattle.theory_plans.proofs.Committing.{rests-going}
use Rattle.theory_plans.proofs.Reading.{same_reads}

-- Parsed entries take no more words than they were parsed from, so those of a chunk fit into a chunk.
pub parse-words : (l : List ℕ) (skip at : ℕ) (es : List Entry) → parse l skip at ≡ Entries es → length (encode_all es) ≤ length l - skip
parse-words [] skip at es h = let q : es ≡ [] = cc in rw q (omega arith)
parse-words (w ∷ ws) (suc n) at es h = let r = parse-words ws n (suc at) es h in omega arith
parse-words (w ∷ ws) zero at es h = go (step_of (w ∷ ws)) refl h (λ n fs. parse-words ws n (suc at) fs)
  where
    go : (s : LogStep) → step_of (w ∷ ws) ≡ s → after s (w ∷ ws) at (λ n. parse ws n (suc at)) ≡ Entries es
        → ((n : ℕ) (fs : List Entry) → parse ws n (suc at) ≡ Entries fs → length (encode_all fs) ≤ length ws - n) → length (encode_all es) ≤ suc (length ws) - 0
    go S.End q a rec = let e : es ≡ [] = cc in rw e (omega arith)
    go S.Wrong q a rec = absurd (let z : ◌≡◌ {A = ℕ} 0 1 = cc in omega arith)
    go S.Padding q a rec = let r = rec 0 es a in omega arith
    go (S.Entry op pl v x k n) q a rec =
        let m : suc n ≤ length ws = (found op pl v x k n w ws q).fits in
        let c = cons_inv _ (parse ws (suc n) (suc at)) es a in
        let r = rec (suc n) c.0 c.1 in
        let l : length (take n (drop 1 ws)) ≡ n = rw (length-take, length-drop) (omega arith) in
        rw (c.2, length-append) (omega arith)

pub filter-words : (test : Entry → Bool) (es : List Entry) → length (encode_all (filter test es)) ≤ length (encode_all es)
filter-words test [] = omega arith
filter-words test (e ∷ es) = go (test e) (filter-words test es)
  where
    go : (b : Bool) → length (encode_all (filter test es)) ≤ length (encode_all es) → length (encode_all (pick b (e ∷ filter test es) (filter test es))) ≤ length (encode e ++ encode_all es)
    go true h = rw (length-append (encode e) (encode_all (filter test es)), length-append (encode e) (encode_all es)) (omega arith)
    go false h = rw length-append (omega arith)

-- The block of a top put that points to one is live.
field-mem : (e : Entry) (es : List Entry) → Mem e es → Among e.field (map (λ (f : Entry). f.field) es)
field-mem e [] m = absurd m
field-mem e (x ∷ xs) (inl q) = inl (ap (λ (f : Entry). f.field) q)
field-mem e (x ∷ xs) (inr m) = inr (field-mem e xs m)

pub top-live : (es : List Entry) (e : Entry) → Top es e → pointed e ≡ true → Among e.field (live_blocks es)
top-live es e t q = field-mem e (filter pointed (filter (is_top es) es)) (filter-mem pointed e (filter (is_top es) es) (filter-mem (is_top es) e es t.0 (top-is es e t)) q)

none-such : (test : ℕ → Bool) (xs : List ℕ) (x : ℕ) → any test xs ≡ false → Among x xs → test x ≡ false
none-such test [] x h m = absurd m
none-such test (y ∷ ys) x h (inl e) = ap test e ∙ (either-no (test y) (any test ys) h).0
none-such test (y ∷ ys) x h (inr m) = none-such test ys x (either-no (test y) (any test ys) h).1 m

pub no-live : (p c : ℕ) (es : List Entry) → has_live p es c ≡ false → (e : Entry) → Top es e → pointed e ≡ true → unit_chunk p e.field ≡ c → ⊥
no-live p c es h e t q s =
    not-both (eqb (unit_chunk p e.field) c) (eq-eqb (unit_chunk p e.field) c s) (none-such (λ u. eqb (unit_chunk p u) c) (live_blocks es) e.field h (top-live es e t q))

module _ (p : ℕ) (lo : 12 ≤ p) (hi : p ≤ 16) (n table : ℕ) (C : ℕ → Held) (book : List Item) (m : Medium) (s : Standing p n table C book [] m) (c : ℕ) (low : 1 ≤ c) (high : c < n) where
  abbrev ws : List ℕ
  ws = s.words

  abbrev es : List Entry
  es = s.entries

  abbrev kept : List Entry
  kept = kept_in p c es

  abbrev old : ℕ
  old = get_or ws (directory_word c) 0

  few : length (keys_of es) ≤ capacity table
  few = s.keys

  -- what is kept fits into a free chunk
  pub kept-fits : lines_for (length (encode_all kept)) ≤ chunk_lines p
  kept-fits =
      let q = parts p lo hi n c ws es low high s.rest.ok.parsed in
      let e = kept-is p lo hi n c ws es q.0 q.1 q.2 q.3 in
      let a = filter-words (is_kept es (q.0 ++ q.2)) q.1 in
      let b = parse-words (slice (base p c) (base p c + 8 * lines_of p ws c) ws) 0 (base p c) q.1 q.3.mine in
      let l = slice-long (base p c) (base p c + 8 * lines_of p ws c) ws in
      let k = lines-most p ws c in
      rw e (omega arith)

  abbrev Goal : List Entry → Task → List Action → Type 0
  Goal items' task acts =
      ((count : ℕ) × ((olds : Olds) × (task ≡ Cleaning count olds))) × ((items' ≡ []) × (Going p n table C C [] [] acts m × Reading p n table C ws (olds_of task) acts m))

  planned : (items' : List Entry) (task : Task) (acts : List Action) (count : ℕ) (olds : Olds) (acts' : List Action) → Begin [] (Cleaning count olds) acts' ≡ Begin items' task acts
      → AreOf ws olds → AreLow olds → Each (Shy p lo hi n ws es s.rest.ok olds) acts'
      → Through (Cuts p n (capacity table) C C) (Rests p n (capacity table) C) acts' m → Goal items' task acts
  planned items' task acts count olds acts' h of below shy t =
      let a : items' ≡ [] = cc in
      let b : task ≡ Cleaning count olds = cc in
      let d : acts ≡ acts' = cc in (
        (count, (olds, b)),
        (a, (rw d (rests-going p n table C C C acts' m (λ k. refl) t), rw (b, d) (same_reads p lo hi n table C book [] m s olds acts' (Rests p n (capacity table) C) of below shy t))),
      )

  here : c < max_chunks
  here = let a = s.rest.ok.most in omega arith

  -- the chunk is only freed
  pub free-shy : Each (Shy p lo hi n ws es s.rest.ok (old_of ws c ∷ [])) (free c ws)
  free-shy = seal-shy p lo hi n ws es s.rest.ok (old_of ws c ∷ []) (here, tt) c (freed_word old) (inl refl)

  -- a log chunk
  log-goes : (items' : List Entry) (task : Task) (acts : List Action) → is_free (role_at p ws c) ≡ false → is_log (role_at p ws c) ≡ true → clean_log p n ws c kept ≡ Begin items' task acts → Goal items' task acts
  log-goes items' task acts used log h = go kept refl h
    where
      no-data : size_of p ws c ≡ 0
      no-data = size_is p ws c ∙ log-says (role_at p ws c) log

      go : (fs : List Entry) → kept ≡ fs → clean_log p n ws c fs ≡ Begin items' task acts → Goal items' task acts
      go [] e k = planned items' task acts 0 (old_of ws c ∷ []) (free c ws) k (refl, tt) (here, tt) free-shy (clean-free-through p lo hi n c old (capacity table) C ws es m s.rest s.holds few s.flushed low high no-data e)
      go (f ∷ fs) e k = two (log_place p n ws (lines_for (length (encode_all (f ∷ fs)))) c 1) refl k
        where
          two : (q : Option ℕ) → log_place p n ws (lines_for (length (encode_all (f ∷ fs)))) c 1 ≡ q → clean_to p ws c (f ∷ fs) q ≡ Begin items' task acts → Goal items' task acts
          two none r k' = absurd (let z : ◌≡◌ {A = ℕ} 0 1 = cc in omega arith)
          two (some d) r k' =
              let place = log-place p n ws (lines_for (length (encode_all (f ∷ fs)))) c 1 d (rw e at kept-fits) r in
              let t = clean-append p lo hi n (capacity table) C ws es m s.rest s.holds s.flushed c d (get_or ws (directory_word d) 0) old low high no-data few (place.1 used) in
              let there : d < max_chunks = (let a = place.0.high in let b = s.rest.ok.most in omega arith) in
              let olds : Olds = old_of ws d ∷ old_of ws c ∷ [] in
              planned items' task acts (length (f ∷ fs)) olds (append_to p ws (encode_all (f ∷ fs)) d ++ free c ws) k' (refl, (refl, tt)) (there, (here, tt))
              (each_append (Shy p lo hi n ws es s.rest.ok olds) (append_to p ws (encode_all (f ∷ fs)) d) (free c ws)
              (append-shy p lo hi n ws es s.rest.ok olds (there, (here, tt)) d (get_or ws (directory_word d) 0) (encode_all (f ∷ fs)) place.0 (inl refl))
              (seal-shy p lo hi n ws es s.rest.ok olds (there, (here, tt)) c (freed_word old) (inr (inl refl))))
              ((rw e at t) place.0 (some-lines f fs))

  -- a data chunk
  data-goes : (items' : List Entry) (task : Task) (acts : List Action) → is_log (role_at p ws c) ≡ false → clean_data p ws es c ≡ Begin items' task acts → Goal items' task acts
  data-goes items' task acts log h = go (has_live p es c) refl h
    where
      go : (b : Bool) → has_live p es c ≡ b → need (negate b) N.NotCleanable (Begin [] (Cleaning 0 (old_of ws c ∷ [])) (free c ws)) ≡ Begin items' task acts → Goal items' task acts
      go true e k = absurd (let z : ◌≡◌ {A = ℕ} 0 1 = cc in omega arith)
      go false e k =
          planned items' task acts 0 (old_of ws c ∷ []) (free c ws) k (refl, tt) (here, tt) free-shy
          (free-data p lo hi n c old ws es s.rest.ok low high m s.rest (lines-is p ws c ∙ not-log-says (role_at p ws c) log) (no-live p c es e) (capacity table) C s.holds few s.flushed)

  -- a chunk in use is one or the other
  chunk-goes : (items' : List Entry) (task : Task) (acts : List Action) → is_free (role_at p ws c) ≡ false
      → pick (is_log (role_at p ws c)) (clean_log p n ws c kept) (clean_data p ws es c) ≡ Begin items' task acts → Goal items' task acts
  chunk-goes items' task acts used h = go (is_log (role_at p ws c)) refl h
    where
      go : (b : Bool) → is_log (role_at p ws c) ≡ b → pick b (clean_log p n ws c kept) (clean_data p ws es c) ≡ Begin items' task acts → Goal items' task acts
      go true e k = log-goes items' task acts used e k
      go false e k = data-goes items' task acts e k

pub in_use_lem : (p n : ℕ) (ws : List ℕ) (c : ℕ) → in_use p n ws c ≡ true → (1 ≤ c) × (c < n) × (is_free (role_at p ws c) ≡ false)
in_use_lem p n ws c h = grind (arith, nat_tests)

clean-plan : (p : ℕ) → 12 ≤ p → p ≤ 16 → (n table : ℕ) (C : ℕ → Held) (book : List Item) (items items' : List Entry) (task : Task) (acts : List Action) (m : Medium) (c : ℕ)
    → (s : Standing p n table C book items m) → plan_clean p n s.words s.entries items c ≡ Begin items' task acts
    → ((count : ℕ) × ((olds : Olds) × (task ≡ Cleaning count olds))) × ((book ≡ []) × ((items' ≡ []) × (Going p n table C C [] [] acts m × Reading p n table C s.words (olds_of task) acts m)))
unfolding plan_clean
clean-plan p lo hi n table C book [] items' task acts m c s h =
    let q = need-begin (in_use p n s.words c) N.NotCleanable _ items' task acts h in
    let u = in_use_lem p n s.words c q.0 in
    let r = chunk-goes p lo hi n table C book m s c u.0 u.1 items' task acts u.2 q.1 in
    (r.0, (sym s.booked, r.1))
clean-plan p lo hi n table C book (f ∷ fs) items' task acts m c s h = absurd (let z : ◌≡◌ {A = ℕ} 0 1 = cc in omega arith)

-- CLEANING
pub clean-goes : (p : ℕ) → 12 ≤ p → p ≤ 16 → (n table : ℕ) (C : ℕ → Held) (book : List Item) (items items' : List Entry) (task : Task) (acts : List Action) (m : Medium) (c : ℕ)
    → Standing p n table C book items m → plan_clean p n (latest m) (entries_in p n (latest m)) items c ≡ Begin items' task acts
    → ((count : ℕ) × ((olds : Olds) × (task ≡ Cleaning count olds))) × ((book ≡ []) × ((items' ≡ []) × Going p n table C C [] [] acts m))
clean-goes p lo hi n table C book items items' task acts m c s h =
    let g = clean-plan p lo hi n table C book items items' task acts m c s (rw (s.rest.now, s.rest.ok.parsed) at h) in (g.0, (g.1.0, (g.1.1.0, g.1.1.1.0)))

pub clean-reads : (p : ℕ) → 12 ≤ p → p ≤ 16 → (n table : ℕ) (C : ℕ → Held) (book : List Item) (items items' : List Entry) (task : Task) (acts : List Action) (m : Medium) (c : ℕ)
    → Standing p n table C book items m → plan_clean p n (latest m) (entries_in p n (latest m)) items c ≡ Begin items' task acts
    → Reading p n table C (latest m) (olds_of task) acts m
clean-reads p lo hi n table C book items items' task acts m c s h =
    rw s.rest.now (clean-plan p lo hi n table C book items items' task acts m c s (rw (s.rest.now, s.rest.ok.parsed) at h)).1.1.1.1
