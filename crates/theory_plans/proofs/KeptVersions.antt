-- A cleaning, cut anywhere or not, keeps the version of every present key: what look-up handed out before it is the
-- version that a staging has to name behind it.
-- Assumes nothing.
use mathlib.Core.Path.{◌≡◌, refl, sym, ◌∙◌, ap}
use mathlib.Core.Logic.{◌⊎◌, inl, inr}
use mathlib.Core.Bool.{Bool, true, false}
use mathlib.Core.Option.{Option, none, some}
use mathlib.Core.List.{List, [], ◌∷◌, ◌++◌}
use Prim.Native.Nat.{ℕ, ◌+◌, ◌*◌, ◌≤◌, ◌<◌}
use native.Mathlib.Omega.{arith}
use lib.Dec.{eqb}
use lib.ListN.{length, get_or}
use Rattle.spec.specs.Basics.{pick, negate, filter}
use Rattle.spec.specs.Places.{base, directory_word}
use Rattle.spec.specs.Medium.{Action, Medium, latest}
use Rattle.spec.specs.Directory.{is_free, is_log, role_at, lines_of, size_of}
use Rattle.spec.specs.Log.{Entry, encode_all, placed}
use Rattle.spec.specs.Contents.{Held, highest, capacity, keys_of, entries_in, in_chunk, elsewhere, is_kept, kept_in}
use Rattle.spec.specs.Actions.{lines_for}
use Rattle.spec.specs.Plans.{Task, Begin, has_live, in_use, log_place, append_to, clean_to, clean_log, clean_data, plan_clean, free}
use Rattle.spec.specs.Book.{Item}
use Rattle.spec.specs.declared.Refusal.TheVariants as N
use Rattle.theory_base.proofs.Through.{Through}
use Rattle.theory_log.specs.Contents.{Mem, Top}
use Rattle.theory_log.proofs.Clean.{mem-placed}
use Rattle.theory_log.proofs.Contents.{mem-l, mem-r, mem-cases, mem-filter, below-highest, highest-most}
use Rattle.theory_log.proofs.Directory.{lines-is, size_is}
use Rattle.theory_log.proofs.Tops.{top-highest}
use Rattle.theory_crash.specs.Batch.{Place}
use Rattle.theory_crash.specs.Clean.{Carries}
use Rattle.theory_crash.specs.Rest.{CutsTo}
use Rattle.theory_crash.proofs.Append.{some-lines, clean-append-to}
use Rattle.theory_crash.proofs.Clean.{clean-free-to}
use Rattle.theory_crash.proofs.Directory.{log-says, not-log-says}
use Rattle.theory_crash.proofs.Free.{free-data-to}
use Rattle.theory_plans.specs.Standing.{Standing}
use Rattle.theory_plans.proofs.Begun.{need-begin}
use Rattle.theory_plans.proofs.Between.{stand-entries}
use Rattle.theory_plans.proofs.LogPlace.{negate-true, log-place}
use Rattle.theory_plans.proofs.Cleaning.{in_use_lem, kept-fits, no-live}
use Rattle.theory_plans.proofs.Room.{begun-acts}

-- the puts that es goes by have their versions in hs
abbrev pub SameVersions : (es hs : List Entry) → Type 0
SameVersions es hs = (e : Entry) → Top es e → eqb e.op 1 ≡ true → highest e.key hs ≡ e.version

carried : (es hs : List Entry) → Carries es hs → SameVersions es hs
carried es hs c e t o =
    let f = c.there e t o in
    let low = below-highest e.key hs f.0 f.1.0 f.1.1.0 in
    let same = f.1.1.1 in
    let high = highest-most e.key e.version hs (λ g mg gk. let u = c.from g mg in let a = t.1 u.0 u.1.0 (sym u.1.1.0 ∙ gk) in let b = u.1.1.1 in omega arith) in
    omega arith

-- copies among the entries
joined-carries : (es before behind kept : List Entry) (at : ℕ) → es ≡ before ++ behind → ((f : Entry) → Mem f kept → Mem f es) → Carries es (before ++ (placed at kept ++ behind))
joined-carries es before behind kept at split kept_in_lem = record {
  there = λ e t o. (e, (widen e (mem-cases e before behind (rw split at t.0)), (refl, refl)));
  from = λ f mf. go f (mem-cases f before (placed at kept ++ behind) mf);
}
  where
    widen : (e : Entry) → Mem e before ⊎ Mem e behind → Mem e (before ++ (placed at kept ++ behind))
    widen e (inl a) = mem-l e before (placed at kept ++ behind) a
    widen e (inr a) = mem-r e before (placed at kept ++ behind) (mem-r e (placed at kept) behind a)

    two : (f : Entry) → Mem f (placed at kept) ⊎ Mem f behind → (e : Entry) × (Mem e es × ((f.key ≡ e.key) × (f.version ≡ e.version)))
    two f (inl a) = let o = mem-placed f at kept a in (o.0, (kept_in_lem o.0 o.1, (ap (λ (y : Entry). y.key) o.3, ap (λ (y : Entry). y.version) o.3)))
    two f (inr a) = (f, (rw split (mem-r f before behind a), (refl, refl)))

    go : (f : Entry) → Mem f before ⊎ Mem f (placed at kept ++ behind) → (e : Entry) × (Mem e es × ((f.key ≡ e.key) × (f.version ≡ e.version)))
    go f (inl a) = (f, (rw split (mem-l f before behind a), (refl, refl)))
    go f (inr a) = two f (mem-cases f (placed at kept) behind a)

kept-entries : (p c : ℕ) (es : List Entry) (f : Entry) → Mem f (kept_in p c es) → Mem f es
unfolding kept_in
kept-entries p c es f t = (mem-filter (in_chunk p c) f es (mem-filter (is_kept es (filter (elsewhere p c) es)) f (filter (in_chunk p c) es) t).0).0

module _ (p : ℕ) (lo : 12 ≤ p) (hi : p ≤ 16) (n table : ℕ) (C : ℕ → Held) (book : List Item) (m : Medium) (s : Standing p n table C book [] m) (c : ℕ) (low : 1 ≤ c) (high : c < n)
    (used : is_free (role_at p s.words c) ≡ false) where
  abbrev ws : List ℕ
  ws = s.words

  abbrev es : List Entry
  es = s.entries

  abbrev old : ℕ
  old = get_or ws (directory_word c) 0

  abbrev Goes : List Action → Type 0
  Goes acts = Through (CutsTo p n (SameVersions es)) (CutsTo p n (SameVersions es)) acts m

  few : length (keys_of es) ≤ capacity table
  few = s.keys

  own : SameVersions es es
  own e t o = sym (top-highest es e t)

  data-plan : (items' : List Entry) (task : Task) (acts : List Action) → is_log (role_at p ws c) ≡ false → clean_data p ws es c ≡ Begin items' task acts → Goes acts
  data-plan items' task acts log h =
      let a = need-begin (negate (has_live p es c)) N.NotCleanable _ items' task acts h in
      rw (begun-acts _ _ _ _ _ _ a.1)
      (free-data-to p lo hi n c old ws es s.rest.ok low high m s.rest (lines-is p ws c ∙ not-log-says (role_at p ws c) log) (no-live p c es (negate-true (has_live p es c) a.0)) (SameVersions es) own)

  log-plan : (items' : List Entry) (task : Task) (acts : List Action) → is_log (role_at p ws c) ≡ true → clean_log p n ws c (kept_in p c es) ≡ Begin items' task acts → Goes acts
  log-plan items' task acts log h = go (kept_in p c es) refl h
    where
      no-data : size_of p ws c ≡ 0
      no-data = size_is p ws c ∙ log-says (role_at p ws c) log

      goes_to : (x : Entry) (xs : List Entry) → kept_in p c es ≡ x ∷ xs → (d : ℕ) → (c ≡ d → ⊥) → Place p n d (lines_for (length (encode_all (kept_in p c es)))) ws → Goes (append_to p ws (encode_all (kept_in p c es)) d ++ free c ws)
      goes_to x xs e d ne place =
          clean-append-to p lo hi n (capacity table) C ws es m s.rest s.holds s.flushed c d (get_or ws (directory_word d) 0) old low high no-data few ne place (rw e (some-lines x xs)) (SameVersions es) own
          (λ ys before behind split parsed. carried es _ (joined-carries es before behind (kept_in p c es) (base p d + 8 * lines_of p ws d) split (kept-entries p c es))) (λ hs o k. carried es hs k)

      go : (fs : List Entry) → kept_in p c es ≡ fs → clean_log p n ws c fs ≡ Begin items' task acts → Goes acts
      go [] e k =
          rw (begun-acts _ _ _ _ _ _ k)
          (clean-free-to p lo hi n c old (capacity table) C ws es m s.rest s.holds few s.flushed low high no-data e (SameVersions es) own (λ hs o y. carried es hs y))
      go (x ∷ xs) e k = two (log_place p n ws (lines_for (length (encode_all (x ∷ xs)))) c 1) refl k
        where
          two : (q : Option ℕ) → log_place p n ws (lines_for (length (encode_all (x ∷ xs)))) c 1 ≡ q → clean_to p ws c (x ∷ xs) q ≡ Begin items' task acts → Goes acts
          two none r k' = absurd (let o : ◌≡◌ {A = ℕ} 0 1 = cc in omega arith)
          two (some d) r k' =
              let place = log-place p n ws (lines_for (length (encode_all (x ∷ xs)))) c 1 d (rw e at (kept-fits p lo hi n table C book m s c low high)) r in
              let t : Goes (append_to p ws (encode_all (kept_in p c es)) d ++ free c ws) = goes_to x xs e d (place.1 used) (rw e place.0) in
              rw (begun-acts _ _ _ _ _ _ k') (rw e at t)

  chunk-plan : (items' : List Entry) (task : Task) (acts : List Action) → pick (is_log (role_at p ws c)) (clean_log p n ws c (kept_in p c es)) (clean_data p ws es c) ≡ Begin items' task acts → Goes acts
  chunk-plan items' task acts h = go (is_log (role_at p ws c)) refl h
    where
      go : (b : Bool) → is_log (role_at p ws c) ≡ b → pick b (clean_log p n ws c (kept_in p c es)) (clean_data p ws es c) ≡ Begin items' task acts → Goes acts
      go true e k = log-plan items' task acts e k
      go false e k = data-plan items' task acts e k

pub clean-versions : (p : ℕ) → 12 ≤ p → p ≤ 16 → (n table : ℕ) (C : ℕ → Held) (book : List Item) (items items' : List Entry) (task : Task) (acts : List Action) (m : Medium) (c : ℕ)
    → Standing p n table C book items m → plan_clean p n (latest m) (entries_in p n (latest m)) items c ≡ Begin items' task acts
    → Through (CutsTo p n (SameVersions (entries_in p n (latest m)))) (CutsTo p n (SameVersions (entries_in p n (latest m)))) acts m
unfolding plan_clean
clean-versions p lo hi n table C book [] items' task acts m c s h =
    let g = rw (s.rest.now, s.rest.ok.parsed) at h in
    let q = need-begin (in_use p n s.words c) N.NotCleanable _ items' task acts g in
    let u = in_use_lem p n s.words c q.0 in
    rw (stand-entries p lo hi n table C book [] m s) (chunk-plan p lo hi n table C book m s c u.0 u.1 u.2 items' task acts q.1)
clean-versions p lo hi n table C book (f ∷ fs) items' task acts m c s h = absurd (let z : ◌≡◌ {A = ℕ} 0 1 = cc in omega arith)
