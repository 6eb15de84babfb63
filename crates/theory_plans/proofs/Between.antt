-- Between calls: what stands rests, every cut of it stands again, it opens, and an image that opening accepted stands.
-- Assumes nothing.
use Rattle.std.proofs.lemmas.Bool.Decides.{nat_tests}
use mathlib.Core.Path.{◌≡◌, refl, sym, ◌∙◌, ap}
use mathlib.Core.Logic.{◌⊎◌, inl, inr}
use mathlib.Core.Bool.{true}
use mathlib.Core.List.{List, [], ◌++◌}
use Prim.Native.Nat.{ℕ, ◌*◌, ◌/◌, ◌≤◌}
use native.Mathlib.Omega.{arith}
use lib.ListN.{length}
use Rattle.spec.specs.Places.{is_power, base, chunks_in, max_chunks}
use Rattle.spec.specs.Header.{header_power}
use Rattle.spec.specs.Medium.{Medium, latest, cut, settled_at}
use Rattle.spec.specs.Log.{Entry}
use Rattle.spec.specs.Contents.{Held, keys_of, capacity, contents, entries_in, listed}
use Rattle.spec.specs.Opening.{Accepted, fits_table, open_chunks, opening}
use Rattle.spec.specs.Book.{Item}
use Rattle.theory_base.proofs.Lists.{number-r, distinct-fewer}
use Rattle.theory_base.proofs.Words.{can-cut}
use Rattle.theory_base.proofs.Places.{chunks-bytes}
use Rattle.theory_crash.specs.Accepted.{Ok}
use Rattle.theory_crash.specs.Rest.{Holds, Rests, Cuts}
use Rattle.theory_crash.proofs.Opening.{capacity-rises, fits-keys, keys-fit, ok-taken, taken-ok, ok-opens, opens_at, ok-contents}
use Rattle.theory_crash.proofs.Rest.{rest-long, stays-old}
use Rattle.theory_crash.proofs.Crash.{cut-rests, holds-rests}
use Rattle.theory_plans.specs.Standing.{Staged, Standing, key_list}

-- nothing staged
pub none-staged : (p n : ℕ) (ws : List ℕ) (es : List Entry) (m : Medium) → Staged p n ws es [] m
none-staged p n ws es m = grind (arith, nat_tests)

-- A medium at rest with its contents stands, and what stands rests.
pub rests-stand : (p n table : ℕ) (C : ℕ → Held) (m : Medium) → Rests p n (capacity table) C m → Standing p n table C [] [] m
rests-stand p n table C m ((ws, es, r, few, h), fl) =
    record { words = ws; entries = es; rest = r; flushed = fl; holds = h; keys = few; staged = none-staged p n ws es m; booked = refl }

module _ (p : ℕ) (lo : 12 ≤ p) (hi : p ≤ 16) where
  module _ (n table : ℕ) (C : ℕ → Held) (book : List Item) (items : List Entry) (m : Medium) (s : Standing p n table C book items m) where
    pub known-few : length (keys_of s.entries) ≤ capacity table
    known-few =
        let a = distinct-fewer (key_list s.entries) (key_list items ++ key_list s.entries) (λ k t. number-r k (key_list items) (key_list s.entries) t) in
        let b = s.keys in
        omega arith

    pub stand-rests : Rests p n (capacity table) C m
    stand-rests = ((s.words, s.entries, s.rest, known-few, s.holds), s.flushed)

    -- its entries, as the calls read them
    pub stand-entries : entries_in p n (latest m) ≡ s.entries
    stand-entries = ap (λ (l : List ℕ). entries_in p n l) s.rest.now ∙ ap listed s.rest.ok.parsed

    pub abandon-stands : Standing p n table C [] [] m
    abandon-stands = rests-stand p n table C m stand-rests

    pub stand-cuts : Cuts p n (capacity table) C C m
    stand-cuts = stays-old p lo hi n (capacity table) C C m stand-rests.0

    pub stand-length : (length m ≡ base p n) × (chunks_in p (8 * base p n) ≡ n)
    stand-length = (rest-long p lo hi n s.words s.entries m s.rest, (chunks-bytes p lo hi n).0)

    pub stand-power : header_power (latest m) ≡ p
    stand-power = ap header_power s.rest.now ∙ s.rest.ok.power

    pub open-takes : (es : List Entry) × (open_chunks p n (latest m) table ≡ Accepted es)
    open-takes = (s.entries, rw s.rest.now (ok-taken p n table s.words s.entries s.rest.ok (fits-keys table s.entries known-few)))

    pub open-accepts : is_power p ≡ true → (es : List Entry) × (opening (8 * base p n) (latest m) table ≡ Accepted es)
    open-accepts power = (s.entries, rw s.rest.now (ok-opens p power n (8 * base p n) table s.words s.entries refl s.rest.ok (fits-keys table s.entries known-few)))

  pub cut_stands : (n table : ℕ) (C D : ℕ → Held) (m : Medium) (chooses : ℕ → ℕ) → Cuts p n (capacity table) C D m
      → Standing p n table C [] [] (settled_at (cut chooses m)) ⊎ Standing p n table D [] [] (settled_at (cut chooses m))
  cut_stands n table C D m chooses h = go (cut-rests p n (capacity table) C D m h (cut chooses m) (can-cut chooses m))
    where
      go : Rests p n (capacity table) C (settled_at (cut chooses m)) ⊎ Rests p n (capacity table) D (settled_at (cut chooses m))
          → Standing p n table C [] [] (settled_at (cut chooses m)) ⊎ Standing p n table D [] [] (settled_at (cut chooses m))
      go (inl r) = inl (rests-stand p n table C (settled_at (cut chooses m)) r)
      go (inr r) = inr (rests-stand p n table D (settled_at (cut chooses m)) r)

  pub larger-table : (n table table' : ℕ) (C : ℕ → Held) (book : List Item) (items : List Entry) (m : Medium) → table ≤ table' → Standing p n table C book items m → Standing p n table' C book items m
  larger-table n table table' C book items m l s = record {
    words = s.words;
    entries = s.entries;
    rest = s.rest;
    flushed = s.flushed;
    holds = s.holds;
    keys = let a = s.keys in let b = capacity-rises table table' l in omega arith;
    staged = s.staged;
    booked = s.booked;
  }

  -- an image that is right, and whose keys fit the table
  ok-stands : (n table : ℕ) (ws : List ℕ) (es : List Entry) → Ok p n ws es → fits_table table es ≡ true → Standing p n table (contents p n ws) [] [] (settled_at ws)
  ok-stands n table ws es ok fits =
      let holds : Holds p n (capacity table) (contents p n ws) ws = (es, ok, keys-fit table es fits, λ k. sym (ok-contents p n ws es ok k)) in
      rests-stand p n table (contents p n ws) (settled_at ws) (holds-rests p n (capacity table) (contents p n ws) ws holds)

  pub taken-stands : (n table : ℕ) (ws : List ℕ) (es : List Entry) → 4 ≤ n → n ≤ max_chunks → length ws ≡ base p n → header_power ws ≡ p → open_chunks p n ws table ≡ Accepted es
      → Standing p n table (contents p n ws) [] [] (settled_at ws)
  taken-stands n table ws es least most long said h = let o = taken-ok p lo hi n table ws es least most long said h in ok-stands n table ws es o.0 o.1

  pub accepted-stands : (bytes table : ℕ) (ws : List ℕ) (es : List Entry) → length ws ≡ bytes / 8 → header_power ws ≡ p → opening bytes ws table ≡ Accepted es
      → Standing p (chunks_in p bytes) table (contents p (chunks_in p bytes) ws) [] [] (settled_at ws) × (bytes ≡ 8 * base p (chunks_in p bytes))
  accepted-stands bytes table ws es size said h =
      let o = opens_at p bytes table ws es said size h in (ok-stands (chunks_in p bytes) table ws es o.0 o.1, o.2)
