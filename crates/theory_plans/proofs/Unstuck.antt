-- A roomy image is not stuck: a free chunk stands, or choosing names a chunk that cleaning only frees; and cleaning
-- takes whatever chunk choosing names.
-- Assumes nothing.
use Rattle.std.proofs.lemmas.Bool.Decides.{nat_tests}
use mathlib.Core.Path.{◌≡◌, refl, sym, ◌∙◌, ap, subst}
use mathlib.Core.Logic.{◌⊎◌, inl, inr}
use mathlib.Core.Bool.{Bool, true, false}
use mathlib.Core.Option.{Option, none, some}
use mathlib.Core.List.{List, [], ◌∷◌, ◌++◌}
use Prim.Native.Nat.{ℕ, zero, suc, ◌+◌, ◌-◌, ◌≤◌, ◌<◌}
use native.Mathlib.Omega.{arith}
use native.Mathlib.Decide.{dec_lt}
use lib.Dec.{eqb, leb, ltb}
use lib.ListN.{length, get_or}
use borrow.Author.Tests.{le-leb, lt-ltb, ltb-false}
use Rattle.spec.specs.Basics.{pick, both, negate, up_from, filter, first}
use Rattle.spec.specs.Places.{directory_word, max_chunks}
use Rattle.spec.specs.Medium.{Action, Medium, run, latest, settled_at, Mem as Among}
use Rattle.spec.specs.Directory.{is_free, is_log, role_at, lines_of, size_of, free_chunks, freed_word}
use Rattle.spec.specs.Log.{Entry, encode_all}
use Rattle.spec.specs.Contents.{kept_in}
use Rattle.spec.specs.Actions.{lines_for, free_of}
use Rattle.spec.specs.Plans.{Cleaning, Olds, old_of, Plan, Begin, free_chunk, has_space, or_else, log_place, append_to, in_use, free, clean_log, plan_clean, copy_words, worth_cleaning, is_better, best, chosen_chunk}
use Rattle.spec.specs.Unstuck.{FreeStands, Roomy, Unstuck}
use Rattle.spec.specs.declared.Role.{Role}
use Rattle.spec.specs.declared.Role.TheVariants as R
use Rattle.theory_base.proofs.Lists.{both-i, both_l, either-no}
use Rattle.theory_log.proofs.Directory.{lines-is, size_is, role-freed}
use Rattle.theory_crash.specs.Accepted.{Ok}
use Rattle.theory_base.proofs.Words as W
use Rattle.theory_crash.proofs.Append.{some-lines}
use Rattle.theory_crash.proofs.Frame.{directory-in}
use Rattle.theory_crash.proofs.Room.{sealed, now-is}
use Rattle.theory_crash.proofs.Directory.{not-log-says, word-free, right-role}
use Rattle.theory_plans.proofs.LogPlace.{up_from-in}

-- Numbers that a test takes.
among-filter : (test : ℕ → Bool) (xs : List ℕ) (c : ℕ) → Among c (filter test xs) → Among c xs × (test c ≡ true)
among-filter test [] c m = absurd m
among-filter test (x ∷ xs) c m = go (test x) refl m (among-filter test xs c)
  where
    go : (b : Bool) → test x ≡ b → Among c (pick b (x ∷ filter test xs) (filter test xs)) → (Among c (filter test xs) → Among c xs × (test c ≡ true)) → Among c (x ∷ xs) × (test c ≡ true)
    go true q (inl e) rec = (inl e, ap test e ∙ q)
    go true q (inr t) rec = (inr (rec t).0, (rec t).1)
    go false q t rec = (inr (rec t).0, (rec t).1)

filter-among : (test : ℕ → Bool) (xs : List ℕ) (c : ℕ) → Among c xs → test c ≡ true → Among c (filter test xs)
filter-among test [] c m h = absurd m
filter-among test (x ∷ xs) c (inl e) h = rw (sym (ap test e) ∙ h) (inl e)
filter-among test (x ∷ xs) c (inr m) h = go (test x) (filter-among test xs c m h)
  where
    go : (b : Bool) → Among c (filter test xs) → Among c (pick b (x ∷ filter test xs) (filter test xs))
    go true t = inr t
    go false t = t

among-up_from : (a k c : ℕ) → a ≤ c → c < a + k → Among c (up_from a k)
among-up_from a zero c l h = absurd (omega arith)
among-up_from a (suc k) c l h = go (dec_lt a c) (among-up_from (suc a) k c)
  where
    go : Dec (a < c) → (suc a ≤ c → c < suc a + k → Among c (up_from (suc a) k)) → (c ≡ a) ⊎ Among c (up_from (suc a) k)
    go (yes q) rec = inr (rec q (omega arith))
    go (no q) rec = inl (omega arith)

among-some : (xs : List ℕ) (c : ℕ) → Among c xs → 1 ≤ length xs
among-some [] c m = absurd m
among-some (x ∷ xs) c m = omega arith

pub free-stands : (p n : ℕ) (ws : List ℕ) (f : ℕ) → 1 ≤ f → f < n → is_free (role_at p ws f) ≡ true → FreeStands p n ws
free-stands p n ws f low high h = among-some (free_chunks p n ws) f (filter-among (λ c. is_free (role_at p ws c)) (up_from 1 (n - 1)) f (among-up_from 1 (n - 1) f low (omega arith)) h)

-- the end of a cleaning, whatever came before the freeing: its chunk is free
pub freed-stands : (p n c old : ℕ) (pre : List Action) (m : Medium) → 1 ≤ c → c < n → directory_word c < length m → FreeStands p n (latest (run (pre ++ free_of c old) m))
freed-stands p n c old pre m low high inside =
    rw (W.run-append pre (free_of c old) m)
    (free-stands p n (latest (run (free_of c old) (run pre m))) c low high
    (rw (now-is (run (free_of c old) (run pre m)) c (freed_word old) (sealed c (freed_word old) (run pre m) (rw (W.length_run pre m) inside)), role-freed) refl))

log-not-free : (r : Role) → is_log r ≡ true → is_free r ≡ false
log-not-free R.Free h = absurd (let z : ◌≡◌ {A = ℕ} 0 1 = cc in omega arith)
log-not-free (R.Log k) h = refl
log-not-free (R.Data k) h = refl
log-not-free R.Wrong h = refl

-- THE BEST of a list has no more to copy than any of it
module _ (p : ℕ) (ws : List ℕ) (es : List Entry) where
  abbrev cost : ℕ → ℕ
  cost c = copy_words p es c

  better-less : (c d : ℕ) → is_better p ws es c d ≡ true → cost c ≤ cost d
  better-less c d h = grind (arith, nat_tests)

  worse-more : (c d : ℕ) → is_better p ws es c d ≡ false → cost d ≤ cost c
  worse-more c d h = ltb-false (cost c) (cost d) (either-no (ltb (cost c) (cost d)) (both (eqb (cost c) (cost d)) (leb (lines_of p ws d) (lines_of p ws c))) h).0

  abbrev Least : ℕ → List ℕ → ℕ → Type 0
  Least d cs c = (cost c ≤ cost d) × (((e : ℕ) → Among e cs → cost c ≤ cost e) × ((c ≡ d) ⊎ Among c cs))

  best-least : (cs : List ℕ) (d : ℕ) → (c : ℕ) × ((best p ws es (some d) cs ≡ some c) × Least d cs c)
  best-least [] d = (d, (refl, (omega arith, ((λ e m. absurd m), inl refl))))
  best-least (x ∷ cs) d = go (is_better p ws es x d) refl (best-least cs x) (best-least cs d)
    where
      go : (b : Bool) → is_better p ws es x d ≡ b → (c : ℕ) × ((best p ws es (some x) cs ≡ some c) × Least x cs c) → (c : ℕ) × ((best p ws es (some d) cs ≡ some c) × Least d cs c)
          → (c : ℕ) × ((best p ws es (pick b (some x) (some d)) cs ≡ some c) × Least d (x ∷ cs) c)
      go true q (c, (e, (l, (r, i)))) other = (c, (e, ((let k = better-less x d q in omega arith), ((λ y m. each y m), in_list i))))
        where
          each : (y : ℕ) → (y ≡ x) ⊎ Among y cs → cost c ≤ cost y
          each y (inl s) = rw s l
          each y (inr m) = r y m

          in_list : (c ≡ x) ⊎ Among c cs → (c ≡ d) ⊎ ((c ≡ x) ⊎ Among c cs)
          in_list j = inr j
      go false q other (c, (e, (l, (r, i)))) = (c, (e, (l, ((λ y m. each y m), in_list i))))
        where
          each : (y : ℕ) → (y ≡ x) ⊎ Among y cs → cost c ≤ cost y
          each y (inl s) = rw s (let k = worse-more x d q in omega arith)
          each y (inr m) = r y m

          in_list : (c ≡ d) ⊎ Among c cs → (c ≡ d) ⊎ ((c ≡ x) ⊎ Among c cs)
          in_list (inl j) = inl j
          in_list (inr j) = inr (inr j)

  -- of the log chunks worth cleaning
  abbrev Named : ℕ → ℕ → Type 0
  Named n c = (1 ≤ c) × ((c < n) × (is_log (role_at p ws c) ≡ true))

  list-best : (cs : List ℕ) (z : ℕ) → Among z cs → (c : ℕ) × ((best p ws es none cs ≡ some c) × ((cost c ≤ cost z) × Among c cs))
  list-best [] z m = absurd m
  list-best (x ∷ cs) z m = let r = best-least cs x in (r.0, (r.1.0, (low m, r.1.1.1.1)))
    where
      low : (z ≡ x) ⊎ Among z cs → cost (best-least cs x).0 ≤ cost z
      low (inl e) = rw e (best-least cs x).1.1.0
      low (inr t) = (best-least cs x).1.1.1.0 z t

  list-named : (n : ℕ) (cs : List ℕ) (c : ℕ) → best p ws es none cs ≡ some c → Among c cs
  list-named n [] c h = absurd (let z : ◌≡◌ {A = ℕ} 0 1 = cc in omega arith)
  list-named n (x ∷ cs) c h = let r = best-least cs x in let s : r.0 ≡ c = cc in subst (λ (d : ℕ). (d ≡ x) ⊎ Among d cs) s r.1.1.1.1

  worth-named : (n c : ℕ) → Among c (filter (worth_cleaning p ws es) (up_from 1 (n - 1))) → Named n c
  worth-named n c m =
      let f = among-filter (worth_cleaning p ws es) (up_from 1 (n - 1)) c m in
      let i = up_from-in 1 (n - 1) c f.0 in
      let l = i.0 in
      let u = i.1 in
      (l, (omega arith, both_l (is_log (role_at p ws c)) (ltb (lines_for (cost c)) (lines_of p ws c)) f.1))

  pub chosen-named : (n c : ℕ) → chosen_chunk p n ws es ≡ some c → Named n c
  unfolding chosen_chunk
  chosen-named n c h = worth-named n c (list-named n (filter (worth_cleaning p ws es) (up_from 1 (n - 1))) c h)

  -- a log chunk of which nothing is kept is worth cleaning, and so one is named that has nothing to copy
  pub chosen_none : (n z : ℕ) → 1 ≤ z → z < n → is_log (role_at p ws z) ≡ true → 1 ≤ lines_of p ws z → kept_in p z es ≡ []
      → (c : ℕ) × ((chosen_chunk p n ws es ≡ some c) × (Named n c × (kept_in p c es ≡ [])))
  unfolding chosen_chunk
  chosen_none n z low high log lines kept =
      let nothing : cost z ≡ 0 = ap (λ (l : List Entry). length (encode_all l)) kept in
      let worth : worth_cleaning p ws es z ≡ true = both-i (is_log (role_at p ws z)) (ltb (lines_for (cost z)) (lines_of p ws z)) log (lt-ltb (lines_for (cost z)) (lines_of p ws z) (rw nothing lines)) in
      let m = filter-among (worth_cleaning p ws es) (up_from 1 (n - 1)) z (among-up_from 1 (n - 1) z low (omega arith)) worth in
      let b = list-best (filter (worth_cleaning p ws es) (up_from 1 (n - 1))) z m in
      let l = b.1.1.0 in
      (b.0, (b.1.0, (worth-named n b.0 b.1.1.1, empty (kept_in p b.0 es) (omega arith))))
    where
      empty : (fs : List Entry) → length (encode_all fs) ≡ 0 → fs ≡ []
      empty [] e = refl
      empty (x ∷ xs) e = absurd (let l = some-lines x xs in let k : lines_for 0 ≡ 0 = refl in let l' : 1 ≤ lines_for 0 = rw e at l in omega arith)

  -- CLEANING a chunk that is named
  in-use-is : (n c : ℕ) → Named n c → in_use p n ws c ≡ true
  in-use-is n c (low, (high, log)) =
      both-i (leb 1 c) (both (ltb c n) (negate (is_free (role_at p ws c)))) (le-leb 1 c low)
      (both-i (ltb c n) (negate (is_free (role_at p ws c))) (lt-ltb c n high) (ap negate (log-not-free (role_at p ws c) log)))

  pub plan-none : (n c : ℕ) → Named n c → kept_in p c es ≡ [] → plan_clean p n ws es [] c ≡ Begin [] (Cleaning 0 (old_of ws c ∷ [])) (free c ws)
  unfolding plan_clean
  plan-none n c named kept = rw (in-use-is n c named, named.1.1, kept) refl

  freed-now : (n c : ℕ) (pre : List Action) → 1 ≤ c → c < n → directory_word c < length ws → FreeStands p n (latest (run (pre ++ free c ws) (settled_at ws)))
  freed-now n c pre low high inside = freed-stands p n c (get_or ws (directory_word c) 0) pre (settled_at ws) low high (rw (W.length-settled ws) inside)

  abbrev Accepted : ℕ → Plan → Type 0
  Accepted n q = (count : ℕ) × ((olds : Olds) × ((acts : List Action) × ((q ≡ Begin [] (Cleaning count olds) acts) × FreeStands p n (latest (run acts (settled_at ws))))))

  plan-some : (n c : ℕ) → Named n c → directory_word c < length ws → FreeStands p n ws → Accepted n (plan_clean p n ws es [] c)
  unfolding plan_clean log_place
  plan-some n c named inside stands = rw (in-use-is n c named, named.1.1) (go (kept_in p c es))
    where
      place : (b : ℕ) → (d : ℕ) × (or_else (first (filter (has_space p ws b c) (up_from 1 (n - 1)))) (free_chunk p n ws 1) ≡ some d)
      place b = two (first (filter (has_space p ws b c) (up_from 1 (n - 1)))) (free_chunks p n ws) refl
        where
          two : (q : Option ℕ) (fs : List ℕ) → free_chunks p n ws ≡ fs → (d : ℕ) × (or_else q (free_chunk p n ws 1) ≡ some d)
          two (some d) fs e = (d, refl)
          two none [] e = absurd (let l : 1 ≤ length (free_chunks p n ws) = stands in let k : length (free_chunks p n ws) ≡ 0 = ap length e in omega arith)
          two none (f ∷ fs) e = (f, rw (le-leb 1 (length (free_chunks p n ws)) stands) (ap first e))

      go : (fs : List Entry) → Accepted n (clean_log p n ws c fs)
      go [] = (0, (old_of ws c ∷ [], (free c ws, (refl, freed-now n c [] named.0 named.1.0 inside))))
      go (x ∷ xs) =
          let (d, found) = place (lines_for (length (encode_all (x ∷ xs)))) in
          let copies : List Action = append_to p ws (encode_all (x ∷ xs)) d in
          (length (x ∷ xs), (old_of ws d ∷ old_of ws c ∷ [], (copies ++ free c ws, (rw found refl, freed-now n c copies named.0 named.1.0 inside))))

-- NOT STUCK
module _ (p : ℕ) (lo : 12 ≤ p) (hi : p ≤ 16) (n : ℕ) (ws : List ℕ) (es : List Entry) (ok : Ok p n ws es) where
  abbrev Said : Type 0
  Said = (FreeStands p n ws ⊎ ((c : ℕ) × ((chosen_chunk p n ws es ≡ some c) × (plan_clean p n ws es [] c ≡ Begin [] (Cleaning 0 (old_of ws c ∷ [])) (free c ws)))))
      × ((c : ℕ) → chosen_chunk p n ws es ≡ some c → Accepted p ws es n (plan_clean p n ws es [] c))

  word_in : (c : ℕ) → c < n → directory_word c < length ws
  word_in c high = directory-in p lo hi n ws es ok c (let m = ok.most in omega arith)

  unstuck : (z : ℕ) → 1 ≤ z → z < n → size_of p ws z ≡ 0 → kept_in p z es ≡ [] → Said
  unstuck z low high size kept = go (is_log (role_at p ws z)) refl (dec_lt 0 (lines_of p ws z))
    where
      inside : z < max_chunks
      inside = let m = ok.most in omega arith

      stands : lines_of p ws z ≡ 0 → FreeStands p n ws
      stands e =
          free-stands p n ws z low high
          (word-free p (get_or ws (directory_word z) 0) (right-role p n z (get_or ws (directory_word z) 0) low high (ok.dirs z inside)) (sym (size_is p ws z) ∙ size) (sym (lines-is p ws z) ∙ e))

      from-free : FreeStands p n ws → Said
      from-free f = (inl f, λ c h. let named = chosen-named p ws es n c h in plan-some p ws es n c named (word_in c named.1.0) f)

      go : (b : Bool) → is_log (role_at p ws z) ≡ b → Dec (0 < lines_of p ws z) → Said
      go true e (yes l) =
          let r = chosen_none p ws es n z low high e l kept in
          let plan = plan-none p ws es n r.0 r.1.1.0 r.1.1.1 in
          (inr (r.0, (r.1.0, plan)), λ c h. let s : r.0 ≡ c = same r.0 c (sym r.1.0 ∙ h) in (0, (old_of ws c ∷ [], (free c ws, ((rw s at plan), (rw s at (freed-now p ws es n r.0 [] r.1.1.0.0 r.1.1.0.1.0 (word_in r.0 r.1.1.0.1.0))))))))
        where
          same : (a c : ℕ) → some a ≡ some c → a ≡ c
          same a c h = cc
      go true e (no l) = from-free (stands (omega arith))
      go false e d = from-free (stands (lines-is p ws z ∙ not-log-says (role_at p ws z) e))

  pub roomy-unstuck : Roomy p n ws → Unstuck p n ws
  roomy-unstuck (z, (low, (high, (size, kept)))) = rw ok.parsed (unstuck z low high size (rw ok.parsed at kept))
