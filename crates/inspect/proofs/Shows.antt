-- What the code shows of a chunk and of a search, and the answers of the calls on chunks.
-- Assumes nothing.
use Rattle.std.proofs.Common.{◌≡◌, ℕ, ◌-◌, ◌<◌, ◌≤◌, Bool, true, false, eqb, ltb, leb, ◌⊎◌, List, [], ◌∷◌, length, sym, refl, ap, ◌∙◌, subst, inl, inr, arith, ltb-true, le-ltb, lt-ltb, le-leb, leb-true}
use mathlib.Core.Logic.{by_cases}
use mathlib.Core.Option.{none, some}
use native.Mathlib.Decide.{dec_lt}
use borrow.Author.Tests.{lt-leb}
use Rattle.spec.specs.declared.Size.{Size}
use Rattle.places.specs.Sizes.{power_of}
use Rattle.spec.specs.Basics.{pick, both, filter, first, up_from}
use Rattle.spec.specs.Words.{words_of}
use Rattle.spec.specs.Places.{chunks_in}
use Rattle.spec.specs.Directory.{role_at, is_data}
use Rattle.spec.specs.Log.{Entry}
use Rattle.spec.specs.Contents.{listed}
use Rattle.spec.specs.Reports.{number}
use Rattle.spec.specs.Machine.{state_power, gate}
use Rattle.spec.specs.declared.Role.{Role}
use Rattle.spec.specs.declared.Role.TheVariants as D
use Rattle.spec.specs.declared.Refusal.{Refusal}
use Rattle.spec.specs.declared.Refusal.TheVariants as N
use Rattle.spec.specs.declared.Report.{Report}
use Rattle.spec.specs.declared.Report.TheVariants as R
use Rattle.theory_crash.specs.Accepted.{Ok}
use Rattle.volatile.specs.Known.{Indexed, Bounded}
use Rattle.volatile.proofs.Image.{image_bounded}
use Rattle.session.specs.declared.Control.{Control}
use Rattle.session.specs.declared.Setup.{Setup}
use Rattle.session.specs.State.{size_in, power_in, state_at}
use Rattle.session.specs.Fits.{Fits}
use Rattle.std.specs.Prelude.{Result, Ok as Passes, Err}
use Rattle.std.specs.Prelude.{Option as Found, unwrap_or, max}
use Rattle.session.specs.Asks.{gate_of, Asking}
use Rattle.directory.specs.Found.{Stops}
use Rattle.directory.proofs.Search.{taken, first-here, taken-before, taken-end}
use Rattle.lookup.specs.Look.{session_of}
use Rattle.lookup.specs.Contract.{entries_of}
use Rattle.session.proofs.Gates.{gate-passed, at_rest}
use Rattle.theory_crash.proofs.Opening.{opens_at}
use Rattle.inspect.specs.declared.ChunkRow.{ChunkRow}
use Rattle.inspect.specs.Rows.{used_in, plain_row, log_row, data_row, row_for, row_of, is_empty_data, empty_chunk}
use Rattle.inspect.specs.ChunkCounts.{blocks_by}
use Rattle.inspect.specs.ByTable.{row_by, row_at, empty_by, found_by}
use Rattle.inspect.specs.Contract.{count_in, row_in, report_of, empty_in, DescribedBy, StoppedAt, EmptyFound, EmptiedBy}
use Rattle.inspect.proofs.Tallies.{tally-exact, blocks-exact, live-counted}

-- ## A row

module _ (size : Size) (bytes : ℕ) (ws table : List ℕ) (c : ℕ) where
  pub row_inside : (role : Role) (r : ChunkRow) → 1 ≤ c → c < chunks_in (power_of size) bytes → role ≡ role_at (power_of size) ws c → r ≡ row_by size ws table (chunks_in (power_of size) bytes) c role → r ≡ row_at size ws table (chunks_in (power_of size) bytes) c
  unfolding row_at
  row_inside role r l h er e = e ∙ sym (rw (le-leb 1 c l, lt-ltb c (chunks_in (power_of size) bytes) h, ← er))

  pub row-outside : (c < 1) ⊎ (chunks_in (power_of size) bytes ≤ c) → plain_row 16 0 ≡ row_at size ws table (chunks_in (power_of size) bytes) c
  unfolding row_at
  row-outside (inl l) = sym (rw (lt-leb 1 c l))
  row-outside (inr h) = sym (rw (le-ltb c (chunks_in (power_of size) bytes) h) (both-no (leb 1 c)))
    where
      both-no : (b : Bool) → pick (both b false) (row_by size ws table (chunks_in (power_of size) bytes) c (role_at (power_of size) ws c)) (plain_row 16 0) ≡ plain_row 16 0
      both-no true = refl
      both-no false = refl

-- ## A search

same_numbers : (p q : ℕ → Bool) (xs : List ℕ) → ((c : ℕ) → p c ≡ q c) → filter p xs ≡ filter q xs
same_numbers p q [] h = refl
same_numbers p q (c ∷ cs) h = rw (h c, same_numbers p q cs h)

stops_first : (test : ℕ → Bool) (n c : ℕ) → Stops test 1 n c → report_of (first (filter test (up_from 1 (n - 1)))) ≡ found_by c n
stops_first test n c s = by_cases (dec_lt c n)
    (λ l. ap report_of (first-here test 1 c n s.behind l before (s.here l)) ∙ sym (rw (lt-ltb c n l)))
    (λ l. let h : n ≤ c = omega arith in ap (λ (xs : List ℕ). report_of (first xs)) (taken-end test 1 c n s.behind h before) ∙ sym (rw (le-ltb c n h)))
  where
    before : taken test 1 c ≡ []
    before = taken-before test 1 c (λ d l u. s.before d u l)

-- ## On memory as our calls left it

-- the accepted image of an open register at rest, and its table
record Open (size : Size) (bytes table : List ℕ) : Type 0 where
  keys : ℕ
  entries : List Entry
  ok : Ok (power_of size) (count_in (power_of size) bytes) (words_of bytes) entries
  indexed : Indexed size table keys entries
  same : entries_of (power_of size) bytes ≡ entries

opened : (c : Control) (k : Setup) (b bytes table : List ℕ) → gate (state_at c k b) (length bytes) (length table) ≡ none → Fits (session_of c k b) (words_of bytes) table → Open (size_in k) bytes table
opened c k b bytes table g f =
    let a = at_rest (session_of c k b) (length bytes) (length table) (words_of bytes) table g f in
    let rest = a.fits in
    let o = opens_at (power_in k) k.image k.table (words_of bytes) rest.entries rest.accepted.power rest.long rest.accepted.accepts in
    let n : chunks_in (power_in k) k.image ≡ count_in (power_in k) bytes = ap (chunks_in (power_in k)) a.same_bytes in
    let ok : Ok (power_in k) (count_in (power_in k) bytes) (words_of bytes) rest.entries = rw n at o.0 in
    record { keys = c.keys; entries = rest.entries; ok = ok; indexed = rest.built.indexed; same = ap listed ok.parsed }

-- behind the gate the state has the record's chunk power
rest-power : (c : Control) (k : Setup) (b : List ℕ) (bytes words : ℕ) → gate (state_at c k b) bytes words ≡ none → state_power (state_at c k b) ≡ power_in k
rest-power c k b bytes words g = ap state_power (gate-passed (session_of c k b) bytes words g).state

module _ (size : Size) (bytes table : List ℕ) (o : Open size bytes table) where
  small : Bounded size o.entries
  small = image_bounded size (count_in (power_of size) bytes) (words_of bytes) o.entries o.ok.parsed o.ok.most

  used-same : (c : ℕ) → blocks_by size (words_of bytes) table (count_in (power_of size) bytes) c ≡ used_in (power_of size) o.entries c
  used-same c = blocks-exact size table o.keys o.entries small o.indexed (words_of bytes) (count_in (power_of size) bytes) c o.ok.parsed

  row_same : (c : ℕ) → 1 ≤ c → c < count_in (power_of size) bytes → (role : Role) → row_by size (words_of bytes) table (count_in (power_of size) bytes) c role ≡ row_for (power_of size) o.entries c role
  row_same c low high D.Free = refl
  row_same c low high (D.Log lines) = ap (log_row lines) (tally-exact size table o.keys o.entries small o.indexed (words_of bytes) (count_in (power_of size) bytes) c low high o.ok.parsed)
  row_same c low high (D.Data units) = ap (data_row (power_of size) units) (used-same c)
  row_same c low high D.Wrong = refl

  row-exact : (c : ℕ) → row_at size (words_of bytes) table (count_in (power_of size) bytes) c ≡ row_of (power_of size) (words_of bytes) (entries_of (power_of size) bytes) (count_in (power_of size) bytes) c
  unfolding row_at row_of
  row-exact c = rw o.same (go (leb 1 c) refl (ltb c (count_in (power_of size) bytes)) refl)
    where
      go : (a : Bool) → leb 1 c ≡ a → (b : Bool) → ltb c (count_in (power_of size) bytes) ≡ b
          → pick (both a b) (row_by size (words_of bytes) table (count_in (power_of size) bytes) c (role_at (power_of size) (words_of bytes) c)) (plain_row 16 0) ≡ pick (both a b) (row_for (power_of size) o.entries c (role_at (power_of size) (words_of bytes) c)) (plain_row 16 0)
      go true x true y = row_same c (leb-true 1 c x) (ltb-true c (count_in (power_of size) bytes) y) (role_at (power_of size) (words_of bytes) c)
      go true x false y = refl
      go false x b y = refl

  empty-same : (from c : ℕ) → empty_by size (words_of bytes) table (count_in (power_of size) bytes) from c ≡ is_empty_data (power_of size) (words_of bytes) o.entries from c
  empty-same from c = ap (both (leb from c)) (ap (both (is_data (role_at (power_of size) (words_of bytes) c))) (ap (λ (k : ℕ). eqb k 0) (used-same c) ∙ live-counted size (count_in (power_of size) bytes) (words_of bytes) o.entries o.ok c))

  empty-exact : (from : ℕ) (r : Report) → StoppedAt size (words_of bytes) table (count_in (power_of size) bytes) from r → r ≡ report_of (empty_chunk (power_of size) (words_of bytes) (entries_of (power_of size) bytes) (count_in (power_of size) bytes) from)
  unfolding empty_chunk
  empty-exact from r s =
      s.told ∙ sym (stops_first (empty_by size (words_of bytes) table (count_in (power_of size) bytes) from) (count_in (power_of size) bytes) s.chunk s.stops)
      ∙ rw o.same (ap (λ (xs : List ℕ). report_of (first xs)) (same_numbers (empty_by size (words_of bytes) table (count_in (power_of size) bytes) from) (is_empty_data (power_of size) (words_of bytes) o.entries from) (up_from 1 (count_in (power_of size) bytes - 1)) (empty-same from)))

-- ## The calls

module _ (c : Control) (k : Setup) (bytes table : List ℕ) (g : Result (Unit {0}) Refusal) (asks : Asking c k (length bytes) (length table) g) where
  is-refused : (n : Refusal) → g ≡ Err n → (b : List ℕ) → gate (state_at c k b) (length bytes) (length table) ≡ some n
  is-refused n e b = asks.asked b ∙ ap gate_of e

  is_open : g ≡ Passes tt → (b : List ℕ) → gate (state_at c k b) (length bytes) (length table) ≡ none
  is_open e b = asks.asked b ∙ ap gate_of e

  pub row-refused : (chunk : ℕ) (n : Refusal) (m : ℕ) (r : ChunkRow) → g ≡ Err n → m ≡ number n → r ≡ plain_row m 0 → DescribedBy c k chunk bytes table r
  row-refused chunk n m r e em er b = record {
    gated = λ x h. let q = is-refused n e b in let y : n ≡ x = cc in er ∙ ap (λ (k : ℕ). plain_row k 0) (em ∙ ap number y);
    behind = λ h. absurd (let q = is-refused n e b in let z : ◌≡◌ {A = ℕ} 0 1 = cc in omega arith);
    exact = λ h f. absurd (let q = is-refused n e b in let z : ◌≡◌ {A = ℕ} 0 1 = cc in omega arith);
  }

  pub row_open : (chunk : ℕ) (r : ChunkRow) → g ≡ Passes tt → r ≡ row_at (size_in k) (words_of bytes) table (count_in (power_in k) bytes) chunk → DescribedBy c k chunk bytes table r
  row_open chunk r e er b = record {
    gated = λ x h. absurd (let q = is_open e b in let z : ◌≡◌ {A = ℕ} 0 1 = cc in omega arith);
    behind = λ h. er;
    exact = λ h f. er ∙ row-exact (size_in k) bytes table (opened c k b bytes table h f) chunk ∙ ap (λ (p : ℕ). row_in p bytes chunk) (sym (rest-power c k b (length bytes) (length table) h));
  }

  pub empty-refused : (from : ℕ) (n : Refusal) → g ≡ Err n → EmptiedBy c k from bytes table (R.Refused n)
  empty-refused from n e b = record {
    gated = λ x h. let q = is-refused n e b in let y : n ≡ x = cc in ap R.Refused y;
    behind = λ h. absurd (let q = is-refused n e b in let z : ◌≡◌ {A = ℕ} 0 1 = cc in omega arith);
    exact = λ h f. absurd (let q = is-refused n e b in let z : ◌≡◌ {A = ℕ} 0 1 = cc in omega arith);
  }

  pub empty-open : (from : ℕ) (q : Found ℕ) (r : Report) (size : Size) (n : ℕ) → g ≡ Passes tt → size ≡ size_in k → n ≡ count_in (power_of size) bytes → EmptyFound size (words_of bytes) table n from q → r ≡ found_by (unwrap_or q (max 1 n)) n
      → EmptiedBy c k from bytes table r
  empty-open from q r size n e es en found t b =
      let m : n ≡ count_in (power_in k) bytes = en ∙ ap (λ (z : Size). count_in (power_of z) bytes) es in
      let own : StoppedAt size (words_of bytes) table n from r = record { chunk = unwrap_or q (max 1 n); stops = found.stops; told = t } in
      let sized : StoppedAt (size_in k) (words_of bytes) table n from r = subst (λ (z : Size). StoppedAt z (words_of bytes) table n from r) es own in
      let stopped : StoppedAt (size_in k) (words_of bytes) table (count_in (power_in k) bytes) from r = subst (λ (z : ℕ). StoppedAt (size_in k) (words_of bytes) table z from r) m sized in
      record {
        gated = λ x h. absurd (let q = is_open e b in let z : ◌≡◌ {A = ℕ} 0 1 = cc in omega arith);
        behind = λ h. stopped;
        exact = λ h f. empty-exact (size_in k) bytes table (opened c k b bytes table h f) from r stopped ∙ ap (λ (p : ℕ). empty_in p bytes from) (sym (rest-power c k b (length bytes) (length table) h));
      }

-- what a search reports, where it finds a chunk and where it finds none
pub chosen-found : (n c : ℕ) → c < n → R.Chosen c ≡ found_by c n
chosen-found n c l = rw (lt-ltb c n l)

pub none-found : (n : ℕ) → R.Refused N.NotCleanable ≡ found_by (max 1 n) n
none-found n = rw (le-ltb (max 1 n) n (omega arith))
