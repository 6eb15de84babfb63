-- Opening accepts exactly the images that are `Ok` at the power that their header says, 12 or 16, and whose known keys
-- fit the table. Refusals 2 to 7 are asked so at every chunk power from 12 to 16.
-- Assumes nothing.
use Rattle.std.proofs.lemmas.Bool.Decides.{nat_tests}
use mathlib.Core.Path.{◌≡◌, refl, ◌∙◌}
use mathlib.Core.Bool.{Bool, true, false}
use mathlib.Core.List.{List}
use Prim.Native.Nat.{ℕ, ◌-◌, ◌*◌, ◌/◌, ◌≤◌}
use native.Mathlib.Omega.{arith}
use lib.Dec.{eqb}
use lib.ListN.{length}
use borrow.Author.Tests.{eqb-true, eq-eqb, leb-true, le-leb}
use Rattle.spec.specs.Basics.{pick, both}
use Rattle.spec.specs.Places.{base, chunks_in, size_allowed, any_allowed, is_power, max_chunks}
use Rattle.spec.specs.Header.{header_right, header_power}
use Rattle.spec.specs.Log.{Entry, Parsed, Wrong, Entries, image_entries}
use Rattle.spec.specs.Blocks.{pointed}
use Rattle.spec.specs.Contents.{Held, meaning, contents_by, contents, keys_of, capacity}
use Rattle.spec.specs.Opening.{Refused, Accepted, directory_test, each_top, fine, blocks_test, agree_test, sharing, apart_test, fits_table, open_log, open_chunks, opening}
use Rattle.spec.specs.declared.Refusal.{Refusal}
use Rattle.spec.specs.declared.Refusal.TheVariants as N
use Rattle.theory_log.specs.Contents.{Top}
use Rattle.theory_base.proofs.Lists.{both_l, both_r, both-i, pick-i, pick-e}
use Rattle.theory_base.proofs.Places.{length-allowed, allowed-length, power-bounds, size-allowed, allowed-size}
use Rattle.theory_log.proofs.Places.{all_sound}
use Rattle.theory_log.proofs.Tops.{top-each, each-top}
use Rattle.theory_log.proofs.Agree.{agree-test, test-agree}
use Rattle.theory_crash.specs.Accepted.{Ok}
use Rattle.theory_crash.specs.Rest.{Holds, NoRegister}
use Rattle.theory_crash.proofs.Directory.{test-each, each-test}

-- 6: no two keys share a block.
pub apart-test : (es : List Entry) → ((e f : Entry) → Top es e → Top es f → pointed e ≡ true → pointed f ≡ true → e.field ≡ f.field → e.key ≡ f.key) → apart_test es ≡ true
apart-test es h =
    each-top es (λ e. each_top es (λ f. pick (sharing e f) (eqb e.key f.key) true)) (λ e te.
    each-top es (λ f. pick (sharing e f) (eqb e.key f.key) true) (λ f tf. pick-i (sharing e f) (eqb e.key f.key) (one e f te tf)))
  where
    one : (e f : Entry) → Top es e → Top es f → sharing e f ≡ true → eqb e.key f.key ≡ true
    one e f te tf s =
        let a = both_l (pointed e) (both (pointed f) (eqb e.field f.field)) s in
        let r = both_r (pointed e) (both (pointed f) (eqb e.field f.field)) s in
        let b = both_l (pointed f) (eqb e.field f.field) r in
        let c = both_r (pointed f) (eqb e.field f.field) r in
        eq-eqb e.key f.key (h e f te tf a b (eqb-true e.field f.field c))

pub test-apart : (es : List Entry) → apart_test es ≡ true → (e f : Entry) → Top es e → Top es f → pointed e ≡ true → pointed f ≡ true → e.field ≡ f.field → e.key ≡ f.key
test-apart es h e f te tf a b c =
    let q = top-each es (λ g. each_top es (λ i. pick (sharing g i) (eqb g.key i.key) true)) h e te in
    let r = top-each es (λ i. pick (sharing e i) (eqb e.key i.key) true) q f tf in
    let s : sharing e f ≡ true = both-i (pointed e) _ a (both-i (pointed f) _ b (eq-eqb e.field f.field c)) in
    eqb-true e.key f.key (pick-e (sharing e f) (eqb e.key f.key) r s)

-- 7: a larger bound is met by a larger table
pub fits-keys : (table : ℕ) (es : List Entry) → length (keys_of es) ≤ capacity table → fits_table table es ≡ true
fits-keys table es h = le-leb (length (keys_of es)) (capacity table) h

pub keys-fit : (table : ℕ) (es : List Entry) → fits_table table es ≡ true → length (keys_of es) ≤ capacity table
keys-fit table es h = leb-true (length (keys_of es)) (capacity table) h

pub capacity-rises : (a b : ℕ) → a ≤ b → capacity a ≤ capacity b
unfolding capacity
capacity-rises a b h = omega arith

-- 2 to 7 take what is right and fits the table, whatever the chunk power
pub ok-taken : (p n table : ℕ) (ws : List ℕ) (es : List Entry) → Ok p n ws es → fits_table table es ≡ true → open_chunks p n ws table ≡ Accepted es
ok-taken p n table ws es ok fits =
    rw (
      ok.header,
      each-test p n ws ok.dirs,
      ok.parsed,
      each-top es (fine p n ws) ok.blocks,
      agree-test es ok.agree,
      apart-test es ok.apart,
      fits,
    )

pub holds-taken : (p n keys table : ℕ) (C : ℕ → Held) (ws : List ℕ) → keys ≤ capacity table → Holds p n keys C ws
    → (es : List Entry) × (open_chunks p n ws table ≡ Accepted es) × ((k : ℕ) → contents p n ws k ≡ C k)
unfolding contents
holds-taken p n keys table C ws h (es, ok, few, holds) =
    (es, ok-taken p n table ws es ok (fits-keys table es (omega arith)), λ k. rw ok.parsed (holds k))

-- 2 to 7 take only what is right, and fits the table, at every power from 12 to 16
pub taken-ok : (p : ℕ) → 12 ≤ p → p ≤ 16 → (n table : ℕ) (ws : List ℕ) (es : List Entry) → 4 ≤ n → n ≤ max_chunks → length ws ≡ base p n → header_power ws ≡ p
    → open_chunks p n ws table ≡ Accepted es → Ok p n ws es × (fits_table table es ≡ true)
taken-ok p lo hi n table ws es least most long said h = go (header_right n ws) refl (directory_test p n ws) refl (image_entries p n ws) refl h
  where
    Goal : Type 0
    Goal = Ok p n ws es × (fits_table table es ≡ true)

    wrong : (x : Refusal) → Refused x ≡ Accepted es → Goal
    wrong x q = absurd (let z : ◌≡◌ {A = ℕ} 0 1 = cc in omega arith)

    last : (fs : List Entry) → header_right n ws ≡ true → directory_test p n ws ≡ true → image_entries p n ws ≡ Entries fs
        → (b5 : Bool) → blocks_test p n ws fs ≡ b5 → (b6 : Bool) → both (agree_test fs) (apart_test fs) ≡ b6 → (b7 : Bool) → fits_table table fs ≡ b7
        → pick b5 (pick b6 (pick b7 (Accepted fs) (Refused N.TableFull)) (Refused N.TopsDisagree)) (Refused N.BlockWrong) ≡ Accepted es → Goal
    last fs s2 s3 s4 false s5 b6 s6 b7 s7 q = wrong N.BlockWrong q
    last fs s2 s3 s4 true s5 false s6 b7 s7 q = wrong N.TopsDisagree q
    last fs s2 s3 s4 true s5 true s6 false s7 q = wrong N.TableFull q
    last fs s2 s3 s4 true s5 true s6 true s7 q =
        let e : fs ≡ es = cc in
        let t6 : both (agree_test es) (apart_test es) ≡ true = rw e at s6 in
        let t5 : blocks_test p n ws es ≡ true = rw e at s5 in
        let t7 : fits_table table es ≡ true = rw e at s7 in (
          record {
            least = least;
            most = most;
            long = long;
            header = s2;
            power = said;
            dirs = test-each p n ws s3;
            parsed = rw e at s4;
            blocks = top-each es (fine p n ws) t5;
            agree = test-agree es (all_sound p lo hi (n - 1) 1 ws es (rw e at s4)).right (both_l (agree_test es) (apart_test es) t6);
            apart = test-apart es (both_r (agree_test es) (apart_test es) t6);
          },
          t7,
        )

    go : (b2 : Bool) → header_right n ws ≡ b2 → (b3 : Bool) → directory_test p n ws ≡ b3 → (q : Parsed) → image_entries p n ws ≡ q
        → pick b2 (pick b3 (open_log p n ws table q) (Refused N.DirectoryWrong)) (Refused N.NotOpen) ≡ Accepted es → Goal
    go false s2 b3 s3 q s4 t = wrong N.NotOpen t
    go true s2 false s3 q s4 t = wrong N.DirectoryWrong t
    go true s2 true s3 Wrong s4 t = wrong N.EntryWrong t
    go true s2 true s3 (Entries fs) s4 t = last fs s2 s3 s4 (blocks_test p n ws fs) refl (both (agree_test fs) (apart_test fs)) refl (fits_table table fs) refl t

-- Used at 12 and at 16, the powers that an opening takes: there it is 2 to 7 at that power.
module _ (p : ℕ) (power : is_power p ≡ true) where
  pub opens_as : (n bytes table : ℕ) (ws : List ℕ) (es : List Entry) → bytes ≡ 8 * base p n → Ok p n ws es → opening bytes ws table ≡ open_chunks p n ws table
  unfolding opening
  opens_as n bytes table ws es size ok =
      let b = power-bounds p power in
      let a = allowed-length p b.0 b.1 n bytes ok.least ok.most size in
      let s = allowed-size p bytes power a.0 in
      rw (s.1, ok.power, s.0, a.1)

  -- what is right, and fits the table, is accepted
  pub ok-opens : (n bytes table : ℕ) (ws : List ℕ) (es : List Entry) → bytes ≡ 8 * base p n → Ok p n ws es → fits_table table es ≡ true → opening bytes ws table ≡ Accepted es
  ok-opens n bytes table ws es size ok fits = opens_as n bytes table ws es size ok ∙ ok-taken p n table ws es ok fits

  -- an image that holds contents opens, with any table that has space for its keys
  pub holds-opens : (n keys table : ℕ) (C : ℕ → Held) (ws : List ℕ) → keys ≤ capacity table → Holds p n keys C ws
      → (es : List Entry) × (opening (8 * base p n) ws table ≡ Accepted es) × ((k : ℕ) → contents p n ws k ≡ C k)
  holds-opens n keys table C ws h t =
      let o = holds-taken p n keys table C ws h t in (o.0, opens_as n (8 * base p n) table ws t.0 refl t.1 ∙ o.1, o.2)

-- what is accepted is right, of the power that its header says, which is 12 or 16, and fits the table
pub opens-ok : (bytes table : ℕ) (ws : List ℕ) (es : List Entry) → length ws ≡ bytes / 8 → opening bytes ws table ≡ Accepted es
    → Ok (header_power ws) (chunks_in (header_power ws) bytes) ws es × (fits_table table es ≡ true) × (bytes ≡ 8 * base (header_power ws) (chunks_in (header_power ws) bytes)) × (is_power (header_power ws) ≡ true)
unfolding opening
opens-ok bytes table ws es size h = go (any_allowed bytes) (size_allowed p bytes) refl h
  where
    p : ℕ
    p = header_power ws

    n : ℕ
    n = chunks_in p bytes

    Goal : Type 0
    Goal = Ok p n ws es × (fits_table table es ≡ true) × (bytes ≡ 8 * base p n) × (is_power p ≡ true)

    go : (b0 b1 : Bool) → size_allowed p bytes ≡ b1 → pick b0 (pick b1 (open_chunks p n ws table) (Refused N.NotOpen)) (Refused N.ImageLength) ≡ Accepted es → Goal
    go false b1 s1 t = absurd (let z : ◌≡◌ {A = ℕ} 0 1 = cc in omega arith)
    go true false s1 t = absurd (let z : ◌≡◌ {A = ℕ} 0 1 = cc in omega arith)
    go true true s1 t =
        let i = size-allowed p bytes s1 in
        let lim = power-bounds p i.0 in
        let u = length-allowed p lim.0 lim.1 bytes i.1 in
        let v = u.2 in
        let o = taken-ok p lim.0 lim.1 n table ws es u.0 u.1 (omega arith) refl t in
        (o.0, o.1, v, i.0)

-- the same where the power is known
pub opens_at : (p bytes table : ℕ) (ws : List ℕ) (es : List Entry) → header_power ws ≡ p → length ws ≡ bytes / 8 → opening bytes ws table ≡ Accepted es
    → Ok p (chunks_in p bytes) ws es × (fits_table table es ≡ true) × (bytes ≡ 8 * base p (chunks_in p bytes)) × (is_power p ≡ true)
opens_at p bytes table ws es said size h = rw said at (opens-ok bytes table ws es size h)

-- a wrong header alone refuses with 2, whatever power it says
pub refused-2 : (ws : List ℕ) → ((n : ℕ) → header_right n ws ≡ false) → NoRegister ws
unfolding opening
refused-2 ws h bytes table any = grind (arith, nat_tests)

-- an accepted image's contents, by its entries
pub ok-contents : (p n : ℕ) (ws : List ℕ) (es : List Entry) → Ok p n ws es → (k : ℕ) → contents p n ws k ≡ contents_by (meaning ws) es k
unfolding contents
ok-contents p n ws es ok k = rw ok.parsed
