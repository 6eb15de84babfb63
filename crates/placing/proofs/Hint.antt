-- A search that starts at a hint finds what a search from chunk 1 on finds, where the hint holds; and tells the next
-- hint.
-- Assumes nothing.
use mathlib.Core.Path.{◌≡◌, refl, sym, ◌∙◌, ap}
use mathlib.Core.Logic.{⊎_elim, by_cases}
use mathlib.Core.Bool.{Bool, true, false}
use mathlib.Core.Option.{none, some}
use mathlib.Core.List.{List, [], ◌∷◌}
use Prim.Native.Nat.{ℕ, zero, suc, ◌+◌, ◌-◌, ◌%◌, ◌≤◌, ◌<◌, min}
use native.Mathlib.Omega.{arith}
use native.Mathlib.Decide.{dec_lt, ℕ_discrete}
use lib.Dec.{eqb, leb}
use lib.ListN.{length, get_or}
use borrow.Author.Tests.{leb-false, lt-leb}
use Rattle.spec.specs.Basics.{pick, both, negate, up_from, filter, first}
use Rattle.spec.specs.Places.{chunk_lines, directory_word}
use Rattle.spec.specs.Directory.{is_log, is_free, role_at, lines_of, free_chunks}
use Rattle.spec.specs.Plans.{has_space, free_chunk, log_place}
use Rattle.theory_base.proofs.Lists.{not-both}
use Rattle.std.specs.Prelude.{Option, Some, None}
use Rattle.std.proofs.lemmas.Option.{none-some, same_Some}
use Rattle.session.specs.Fits.{NoneBelow, NoneAbove, NoneFree, sole_mark, Hint}
use Rattle.directory.specs.Found.{found_of, Stops, FreeFound}
use Rattle.directory.proofs.Search.{taken, taken-before, first-here}
use Rattle.directory.proofs.Answer.{found_at, found_nothing}
use Rattle.placing.specs.declared.lines.Place.{Place}
use Rattle.placing.specs.declared.lines.Placed.{Placed}
use Rattle.placing.specs.declared.lines.Start.{Start}
use Rattle.placing.specs.Found.{place_in, place_of, Sought, Near, Started, FreeStart, Hinted, Searched, Searching}

-- no space for some lines is none for more
pub less-space : (p : ℕ) (ws : List ℕ) (a b c : ℕ) → a ≤ b → has_space p ws a 0 c ≡ false → has_space p ws b 0 c ≡ false
less-space p ws a b c h = go (is_log (role_at p ws c)) (negate (eqb c 0)) (leb (lines_of p ws c + a) (chunk_lines p)) refl
  where
    go : (x y z : Bool) → leb (lines_of p ws c + a) (chunk_lines p) ≡ z → both x (both y z) ≡ false → both x (both y (leb (lines_of p ws c + b) (chunk_lines p))) ≡ false
    go true true z e q = lt-leb (lines_of p ws c + b) (chunk_lines p) (let l = leb-false (lines_of p ws c + a) (chunk_lines p) (e ∙ q) in omega arith)
    go true false z e q = refl
    go false y z e q = refl

-- space is told by the directory word alone
pub same-space : (p : ℕ) (ws ws' : List ℕ) (b x c : ℕ) → get_or ws' (directory_word c) 0 ≡ get_or ws (directory_word c) 0 → has_space p ws' b x c ≡ has_space p ws b x c
unfolding lines_of
same-space p ws ws' b x c e = rw e

-- a search for as many lines
pub stops_same : (p : ℕ) (ws : List ℕ) (a b from count r : ℕ) → a ≡ b → Stops (has_space p ws a 0) from count r → Stops (has_space p ws b 0) from count r
stops_same p ws a b from count r e s = rw e at s

-- THE NUMBER OF A HINT, and what it says
hint-by : (p n : ℕ) (ws : List ℕ) (chunk least : ℕ) (sole : Bool) (r : ℕ) → Hinted chunk sole r → NoneBelow p n ws chunk least → (sole ≡ true → NoneAbove p n ws chunk least) → (sole ≡ true → NoneFree p n ws chunk)
    → Hint p n ws r least
hint-by p n ws chunk least sole r h below above taken' = record {
  below = λ c l u m. let q = h.under in below c l (omega arith) m;
  above = λ s c l m. let q = h.marked s in let z = q.1 in above q.0 c (omega arith) m;
  taken = λ s c l u m. let q = h.marked s in let z = q.1 in taken' q.0 c l (omega arith) m;
}

-- the first free chunk lies in the image, and no chunk below it is free
abbrev FirstOf : (ℕ → Bool) → (a m c : ℕ) → Type 0
FirstOf test a m c = (c < a + m) × ((d : ℕ) → a ≤ d → d < c → test d ≡ false)

first_taken : (test : ℕ → Bool) (a m c : ℕ) → first (filter test (up_from a m)) ≡ some c → FirstOf test a m c
first_taken test a zero c e = absurd (let z : ◌≡◌ {A = ℕ} 0 1 = cc in omega arith)
first_taken test a (suc m) c e = go (first_taken test (suc a) m c) (test a) refl e
  where
    go : (first (filter test (up_from (suc a) m)) ≡ some c → FirstOf test (suc a) m c) → (b : Bool) → test a ≡ b
        → first (pick b (a ∷ filter test (up_from (suc a) m)) (filter test (up_from (suc a) m))) ≡ some c → FirstOf test a (suc m) c
    go more true t q = let z : a ≡ c = cc in (omega arith, λ d l u. absurd (omega arith))
    go more false t q =
        let r = more q in
        let z = r.0 in
        (omega arith, λ d l u. by_cases (ℕ_discrete d a) (λ w. ap test w ∙ t) (λ w. r.1 d (omega arith) u))

lowest-free : (p : ℕ) (ws : List ℕ) (count needed c : ℕ) → free_chunk p count ws needed ≡ some c → (c < count) × ((d : ℕ) → 1 ≤ d → d < c → is_free (role_at p ws d) ≡ false)
lowest-free p ws count needed c e = go count (leb needed (length (free_chunks p count ws))) e
  where
    free : ℕ → Bool
    free d = is_free (role_at p ws d)

    go : (n : ℕ) (b : Bool) → pick b (first (filter free (up_from 1 (n - 1)))) none ≡ some c → (c < n) × ((d : ℕ) → 1 ≤ d → d < c → free d ≡ false)
    go n false q = absurd (let z : ◌≡◌ {A = ℕ} 0 1 = cc in omega arith)
    go zero true q = absurd (let z : ◌≡◌ {A = ℕ} 0 1 = cc in omega arith)
    go (suc n) true q = let m : suc n - 1 ≡ n = omega arith in let r = first_taken free 1 n c (rw m at q) in let z = r.0 in (omega arith, r.1)

-- THE SEARCH, by a hint that holds
module _ (p : ℕ) (ws : List ℕ) (count lines needed first' least : ℕ) (start : Start) (next : ℕ) (hint : Hint p count ws first' least) (st : Started first' least lines start)
    (near : Near p ws start.from count (min least lines) start.sole next) where
  abbrev room : ℕ
  room = min least lines

  -- before the start, and behind it where it is the only chunk
  started : NoneBelow p count ws start.from room
  started c l u m = ⊎_elim (λ e. absurd (omega arith)) go st.at
    where
      go : (least ≤ lines) × (start.from ≡ first' % sole_mark) → has_space p ws room 0 c ≡ false
      go q = let e : room ≡ least = let w = q.0 in omega arith in let w = q.1 in rw e (hint.below c l (omega arith) m)

  alone : start.sole ≡ true → NoneAbove p count ws start.from room
  alone s c l m =
      let q = st.sole s in
      let e : room ≡ least = let w = q.0 in omega arith in
      let w = q.2 in
      rw e (hint.above q.1 c (omega arith) m)

  all-taken : start.sole ≡ true → NoneFree p count ws start.from
  all-taken s c l u m = let q = st.sole s in let w = q.2 in hint.taken q.1 c l (omega arith) m

  stops : Stops (has_space p ws room 0) start.from count next
  stops = near.stops alone

  -- before the chunk that is next
  none-next : NoneBelow p count ws next room
  none-next c l u m = go (dec_lt c start.from)
    where
      go : Dec (c < start.from) → has_space p ws room 0 c ≡ false
      go (yes h) = started c l h m
      go (no h) = stops.before c (omega arith) u

  -- the only chunk is the next one, if any has space
  only : (c : ℕ) → start.sole ≡ true → start.from ≤ c → c < count → has_space p ws room 0 c ≡ true → c ≡ start.from
  only c s l m h = by_cases (ℕ_discrete c start.from) (λ e. e) (λ n. absurd (not-both (has_space p ws room 0 c) h (alone s c (omega arith) m)))

  -- the chunk with space for all the lines
  module _ (at' : ℕ) (wide : Stops (has_space p ws lines 0) next count at') where
    nowhere-before : (m : ℕ) → m ≤ at' → m ≤ count → taken (has_space p ws lines 0) 1 m ≡ []
    nowhere-before m s t = taken-before (has_space p ws lines 0) 1 m (λ d u l. go d l u (dec_lt d next))
      where
        go : (d : ℕ) → 1 ≤ d → d < m → Dec (d < next) → has_space p ws lines 0 d ≡ false
        go d l u (yes h) = less-space p ws room lines d (omega arith) (none-next d l h (omega arith))
        go d l u (no h) = wide.before d (omega arith) (omega arith)

    low' : 1 ≤ at'
    low' = let a = st.low in let b = stops.behind in let c = wide.behind in omega arith

    in-log : at' < count → log_place p count ws lines 0 needed ≡ some at'
    unfolding log_place
    in-log h = rw (first-here (has_space p ws lines 0) 1 at' count low' h (nowhere-before at' (omega arith) (omega arith)) (wide.here h))

    in-free : count ≤ at' → log_place p count ws lines 0 needed ≡ free_chunk p count ws needed
    unfolding log_place
    in-free h = rw (nowhere-before count h (omega arith))

    -- THE PLACE, and the next hint
    more_room : has_space p ws lines 0 at' ≡ true → has_space p ws room 0 at' ≡ true
    more_room h = go (has_space p ws room 0 at') refl
      where
        go : (b : Bool) → has_space p ws room 0 at' ≡ b → b ≡ true
        go true e = refl
        go false e = absurd (not-both (has_space p ws lines 0 at') h (less-space p ws room lines at' (omega arith) e))

    pub placed-log : (r : Placed) → at' < count → r.place ≡ place_of p ws (some at') → Hinted next start.sole r.first → r.least ≡ room → Searched p ws count lines needed r
    placed-log r h pl f l = record {
      place = pl ∙ sym (ap (place_of p ws) (in-log h));
      hint = rw l (hint-by p count ws next room start.sole r.first f none-next (λ s. let e = is-start s in λ c u m. alone s c (omega arith) m) (λ s. let e = is-start s in λ c v u m. all-taken s c v (omega arith) m));
      low = λ q t. let e = chunk-is q t in let b = wide.behind in let z = f.under in omega arith;
      sole = λ q t s. let e = chunk-is q t in let z = (f.marked s).1 in let y = is-start (f.marked s).0 in let x = at-start (f.marked s).0 in omega arith;
    }
      where
        chunk-is : (q : Place) → r.place ≡ Some q → q.chunk ≡ at'
        chunk-is q t = ap (λ (x : Place). x.chunk) (same_Some q (place_in p ws at') (sym t ∙ pl))

        at-start : start.sole ≡ true → at' ≡ start.from
        at-start s = let a = stops.behind in let b = wide.behind in only at' s (omega arith) h (more_room (wide.here h))

        is-start : start.sole ≡ true → next ≡ start.from
        is-start s = let a = stops.behind in let b = wide.behind in let c = at-start s in omega arith

    module _ (free : Option ℕ) (told : free ≡ found_of (free_chunk p count ws needed)) where
      pub placed-free : (r : Placed) (c chunk : ℕ) (full : Bool) → (full ≡ true → count ≤ next) → count ≤ at' → free ≡ Some c → r.place ≡ place_of p ws (some c) → chunk ≡ min next c → Hinted chunk full r.first → r.least ≡ room
          → Searched p ws count lines needed r
      placed-free r c chunk full fe h q pl ec f l = record {
        place = pl ∙ sym (ap (place_of p ws) (in-free h ∙ found));
        hint = rw l (hint-by p count ws chunk room full r.first f (λ d v u m. none-next d v (omega arith) m)
            (λ s. let a = fe s in λ d u m. none-next d (omega arith) (omega arith) m)
            (λ s. λ d v u m. low_free.1 d v (omega arith)));
        low = λ q t. let e = chunk-is q t in let z = f.under in omega arith;
        sole = λ q t s. let e = chunk-is q t in let z = (f.marked s).1 in let y = fe (f.marked s).0 in let x = low_free.0 in omega arith;
      }
        where
          found : free_chunk p count ws needed ≡ some c
          found = found_at (free_chunk p count ws needed) c (sym told ∙ q)

          low_free : (c < count) × ((d : ℕ) → 1 ≤ d → d < c → is_free (role_at p ws d) ≡ false)
          low_free = lowest-free p ws count needed c found

          chunk-is : (q : Place) → r.place ≡ Some q → q.chunk ≡ c
          chunk-is q t = ap (λ (x : Place). x.chunk) (same_Some q (place_in p ws c) (sym t ∙ pl))

      pub placed-nowhere : (r : Placed) → count ≤ at' → free ≡ None → r.place ≡ None → Hinted next false r.first → r.least ≡ room → Searched p ws count lines needed r
      placed-nowhere r h q pl f l = record {
        place = pl ∙ sym (ap (place_of p ws) (in-free h ∙ found_nothing (free_chunk p count ws needed) (sym told ∙ q)));
        hint = rw l (hint-by p count ws next room false r.first f none-next (λ s. absurd (not-both false s refl)) (λ s. absurd (not-both false s refl)));
        low = λ q t. absurd (none-some q (sym pl ∙ t));
        sole = λ q t. absurd (none-some q (sym pl ∙ t));
      }

-- WHAT THE CODE SHOWS at each return
module _ (p : ℕ) (ws : List ℕ) (count lines needed first' least : ℕ) (start : Start) (room next at' : ℕ) (st : Started first' least lines start) (er : room ≡ min least lines)
    (near : Near p ws start.from count room start.sole next) (wide : Stops (has_space p ws room 0) next count next → Stops (has_space p ws lines 0) next count at') where
  near' : Near p ws start.from count (min least lines) start.sole next
  near' = rw er at near

  module _ (hint : Hint p count ws first' least) where
    wide' : Stops (has_space p ws lines 0) next count at'
    wide' =
        let s = stops p ws count lines needed first' least start next hint st near' in
        wide (record { behind = omega arith; before = λ c l u. absurd (omega arith); here = λ h. rw er (s.here h) })

  pub shows-log : (place : Place) (first'' : ℕ) → at' < count → place ≡ place_in p ws at' → Hinted next start.sole first'' → Searching p ws count lines needed first' least (record { place = Some place; first = first''; least = room })
  shows-log place first'' h pl f hint = placed-log p ws count lines needed first' least start next hint st near' at' (wide' hint) (record { place = Some place; first = first''; least = room }) h (ap Some pl) f er

  module _ (low : ℕ) (from : FreeStart start count low) (free : Option ℕ) (looked : FreeFound p ws low count needed free) where
    module _ (hint : Hint p count ws first' least) where
      told : free ≡ found_of (free_chunk p count ws needed)
      told = looked (λ c l u. ⊎_elim (λ e. absurd (omega arith)) (λ q. let a = q.1 in let b = q.2 in all-taken p ws count lines needed first' least start next hint st near' q.0 c l (omega arith) (omega arith)) from.at)

    pub shows-free : (place : Place) (c chunk : ℕ) (full : Bool) (first'' : ℕ) → (full ≡ true → count ≤ next) → count ≤ at' → free ≡ Some c → place ≡ place_in p ws c → chunk ≡ min next c → Hinted chunk full first''
        → Searching p ws count lines needed first' least (record { place = Some place; first = first''; least = room })
    shows-free place c chunk full first'' fe h q pl e f hint =
        placed-free p ws count lines needed first' least start next hint st near' at' (wide' hint) free (told hint) (record { place = Some place; first = first''; least = room }) c chunk full fe h q (ap Some pl) e f er

    pub shows-nowhere : (first'' : ℕ) → count ≤ at' → free ≡ None → Hinted next false first''
        → Searching p ws count lines needed first' least (record { place = None; first = first''; least = room })
    shows-nowhere first'' h q f hint =
        placed-nowhere p ws count lines needed first' least start next hint st near' at' (wide' hint) free (told hint)
        (record { place = None; first = first''; least = room }) h q refl f er

-- a search that is over: it found a number, or stopped past all
module _ (test : ℕ → Bool) (from count : ℕ) where
  pub sought-at : (c : ℕ) → from ≤ c → c < count → ((d : ℕ) → from ≤ d → d < c → test d ≡ false) → test c ≡ true → Sought test from count (Some c)
  sought-at c l u before here = record {
    stops = record { behind = l; before = before; here = λ h. here };
    inside = λ d e. let z = same_Some c d e in omega arith;
  }

  pub sought-none : ((d : ℕ) → from ≤ d → d < count → test d ≡ false) → Sought test from count None
  sought-none before = record {
    stops = record { behind = omega arith; before = λ d l u. before d l (omega arith); here = λ h. absurd (omega arith) };
    inside = λ d e. absurd (none-some d e);
  }
