-- What the code shows of an opening: one law for each return.
-- Assumes nothing.
use mathlib.Core.Path.{◌≡◌, refl, sym, ◌∙◌, ap}
use mathlib.Core.Logic.{inl, inr, ⊎_elim}
use mathlib.Core.Bool.{Bool, true, false}
use mathlib.Core.List.{List, []}
use Prim.Native.Nat.{ℕ, ◌≤◌}
use native.Mathlib.Omega.{arith}
use lib.ListN.{length, length-replicate}
use Rattle.spec.specs.declared.Size.{Size}
use Rattle.spec.specs.declared.Size.TheVariants as Z
use Rattle.places.specs.Sizes.{power_of, size_by, power-low, power-high}
use Rattle.spec.specs.Basics.{pick, both, is_in}
use Rattle.spec.specs.Words.{words_of}
use Rattle.spec.specs.Places.{is_power, max_chunks, base, chunks_in, length_allowed, size_allowed, any_allowed}
use Rattle.spec.specs.Header.{header_right, header_power}
use Rattle.spec.specs.Log.{Entry, Parsed, Wrong, Entries, image_entries}
use Rattle.spec.specs.Contents.{keys_of, capacity, live_blocks}
use Rattle.spec.specs.Opening.{Opening, Refused, Accepted, directory_test, blocks_test, agree_test, apart_test, fits_table, open_log, open_chunks, opening}
use Rattle.spec.specs.Machine.{Closed, Rest, Open, next}
use Rattle.session.specs.declared.Control.{Control}
use Rattle.session.specs.declared.Setup.{Setup}
use Rattle.session.specs.declared.Session.{Session}
use Rattle.spec.specs.declared.Refusal.{Refusal}
use Rattle.spec.specs.declared.Refusal.TheVariants as N
use Rattle.spec.specs.declared.Report.TheVariants as R
use Rattle.words.specs.Image.{length-words_of}
use Rattle.theory_base.proofs.Lists.{not-both, both_l}
use Rattle.theory_base.proofs.Places.{power-is, length-allowed, size-allowed}
use Rattle.theory_crash.proofs.Opening.{opens-ok}
use Rattle.index.specs.Index.{zeros}
use Rattle.buffer.specs.Bits.{has_bit}
use Rattle.volatile.specs.Known.{Indexed, FillInv}
use Rattle.volatile.proofs.Fill.{fill_end, fill-fits}
use Rattle.volatile.specs.Sums.{Summed}
use Rattle.volatile.proofs.Sums.{summed_same}
use Rattle.consistency.specs.declared.Checked.{Checked}
use Rattle.consistency.specs.Pass.{Listed, Tested, Examined}
use Rattle.session.specs.State.{batch_words, batch_items, state_at, state_of}
use Rattle.session.specs.Fits.{RestFits}
use Rattle.session.proofs.Kept.{none-fit}
use Rattle.std.specs.Prelude.{Option, Some, Result, Ok, Err}
use Rattle.std.specs.Option.{option_and, ok_or}
use Rattle.std.specs.Bool.{then_some}
use Rattle.std.specs.Borrow.{Bor}
use Rattle.logs.specs.declared.WrongEntry.{WrongEntry}
use Rattle.consistency.specs.Classes.{table_in, holds_keys}
use Rattle.opening.specs.declared.fill.Filled.{Filled}
use Rattle.opening.specs.Pass.{Filling, FilledIs}
use Rattle.opening.specs.Judged.{Judged, JudgingLog, Judging}
use Rattle.session.specs.Promise.{Does, memory}
use Rattle.session.specs.Numbers.{closed, opened, opened_setup}

-- ## The log

-- what the first pass says of the parsed log
module _ (size : Size) (n : ℕ) (ws table table' start buffer : List ℕ) (fits single direct : Bool) (keys : ℕ) where
  fill-wrong : Filling size n ws table table' start buffer false fits single direct keys → n ≤ max_chunks → image_entries (power_of size) n ws ≡ Wrong
  fill-wrong f most = go (image_entries (power_of size) n ws) refl
    where
      go : (q : Parsed) → image_entries (power_of size) n ws ≡ q → q ≡ Wrong
      go Wrong h = refl
      go (Entries es) h = absurd (not-both false (f.entries most es h).0 refl)

  fill-right : Filling size n ws table table' start buffer true fits single direct keys → n ≤ max_chunks → (es : List Entry) × (image_entries (power_of size) n ws ≡ Entries es) × FillInv size (length table) es table' keys fits
  fill-right f most = go (image_entries (power_of size) n ws) refl
    where
      go : (q : Parsed) → image_entries (power_of size) n ws ≡ q → (es : List Entry) × (q ≡ Entries es) × FillInv size (length table) es table' keys fits
      go Wrong h = absurd (not-both true refl (f.wrong h))
      go (Entries es) h = (es, refl, (f.entries most es h).1)

-- a table is known to hold the keys if it has room for them
known_by : (fits : Bool) (keys : ℕ) (own : Bor (List ℕ)) (held : Option (Bor (List ℕ))) → held ≡ option_and (then_some fits keys) (Some own) → holds_keys held ≡ true → (fits ≡ true) × (table_in held ≡ own.now)
known_by true keys own held e t = (refl, ap table_in e)
known_by false keys own held e t = absurd (not-both (holds_keys held) t (ap holds_keys e))

module _ (size : Size) (n : ℕ) (ws table table' start buffer : List ℕ) where
  -- 4
  pub log-wrong : (r : Result Filled WrongEntry) → FilledIs size n ws table table' start buffer r → ((f : Filled) → r ≡ Ok f → ⊥) → JudgingLog size n ws table table' start buffer (Err N.EntryWrong)
  log-wrong (Ok f) told out = absurd (out f refl)
  log-wrong (Err wrong) told out = record {
    sized = told.sized;
    kept = told.kept.long;
    judged = λ most long. (rw (fill-wrong size n ws table table' start buffer false false false 0 told most), inr (inr (inr (inl refl))));
  }

module _ (size : Size) (n : ℕ) (ws table : List ℕ) (own : Bor (List ℕ)) (start buffer : List ℕ) (f : Filled) (told : FilledIs size n ws table own.now start buffer (Ok f)) (held : Option (Bor (List ℕ))) (is-held : held ≡ option_and f.keys (Some own))
    (buffer' : List ℕ) (r : Checked) (checked : Examined size n ws (table_in held) (holds_keys held) f.single f.direct buffer buffer' r) where
  abbrev many : ℕ
  many = told.0

  abbrev fit : Bool
  fit = told.1

  filled : Filling size n ws table own.now start buffer true fit f.single f.direct many
  filled = told.2

  -- the entries, with what both passes say of them
  module _ (most : n ≤ max_chunks) (long : base (power_of size) n ≤ length ws) where
    found : (es : List Entry) × (image_entries (power_of size) n ws ≡ Entries es) × FillInv size (length table) es own.now many fit
    found = fill-right size n ws table own.now start buffer fit f.single f.direct many filled most

    abbrev es : List Entry
    es = found.0

    indexed : (t : Bool) → FillInv size (length table) es own.now many t → t ≡ true → Indexed size own.now many es
    indexed true inv e = fill_end size (length table) es own.now many inv
    indexed false inv e = absurd (not-both false e refl)

    listed : Listed size n ws (table_in held) (holds_keys held) es
    listed = record {
      few = most;
      whole = long;
      entries = found.1;
      keys = many;
      indexed = λ t. let k = known_by fit many own held (is-held ∙ ap (λ (x : Option ℕ). option_and x (Some own)) told.3) t in rw k.1 (indexed fit found.2 k.0);
    }

    tested : Tested size n ws es buffer' r
    tested = checked.tested es listed (filled.singly most es found.1) (filled.directly most es found.1)

    space : fit ≡ fits_table (length table) es
    space = fill-fits size (length table) es own.now many fit found.2

  -- 5
  pub log-block : r.blocks ≡ false → JudgingLog size n ws table own.now start buffer' (Err N.BlockWrong)
  log-block b = record {
    sized = filled.sized;
    kept = checked.kept.long ∙ filled.kept.long;
    judged = λ most long.
        let t : blocks_test (power_of size) n ws (es most long) ≡ false = sym (tested most long).blocks ∙ b in
        (rw ((found most long).1, t), inr (inr (inr (inr (inl refl)))));
  }

  module _ (b : r.blocks ≡ true) where
    module _ (most : n ≤ max_chunks) (long : base (power_of size) n ≤ length ws) where
      five : blocks_test (power_of size) n ws (es most long) ≡ true
      five = sym (tested most long).blocks ∙ b

      six : both (agree_test (es most long)) (apart_test (es most long)) ≡ both r.agreeing r.apart
      six = sym ((tested most long).tops b)

    -- 6
    pub log-tops : both r.agreeing r.apart ≡ false → JudgingLog size n ws table own.now start buffer' (Err N.TopsDisagree)
    log-tops h = record {
      sized = filled.sized;
      kept = checked.kept.long ∙ filled.kept.long;
      judged = λ most long. (rw ((found most long).1, five most long, six most long ∙ h), inr (inr (inr (inr (inr (inl refl))))));
    }

    -- 7, or accepted
    pub log-end : both r.agreeing r.apart ≡ true → (v : Result ℕ Refusal) → v ≡ ok_or f.keys N.TableFull → JudgingLog size n ws table own.now start buffer' v
    log-end h v e = record { sized = filled.sized; kept = checked.kept.long ∙ filled.kept.long; judged = λ most long. rw (e, told.3) (last most long fit refl) }
      where
        last : (most : n ≤ max_chunks) (long : base (power_of size) n ≤ length ws) (u : Bool) → fit ≡ u
            → Judged size (open_log (power_of size) n ws (length table) (image_entries (power_of size) n ws)) own.now buffer' (ok_or (then_some u many) N.TableFull)
        last most long false i = (rw ((found most long).1, five most long, six most long ∙ h, sym (space most long) ∙ i), inr (inr (inr (inr (inr (inr (inl refl)))))))
        last most long true i = (
          es most long,
          rw ((found most long).1, five most long, six most long ∙ h, sym (space most long) ∙ i),
          indexed most long fit (found most long).2 i,
          (tested most long).bits b (both_l r.agreeing r.apart h),
          summed_same size buffer buffer' (es most long) (λ j l. checked.kept.above j (omega arith)) (filled.summed most (es most long) (found most long).1 i),
        )

-- ## The image

-- the size that a number stands for, where there are chunks of that power
pub size-said : (p : ℕ) → is_power p ≡ true → power_of (size_by p) ≡ p
size-said p h = ⊎_elim (λ e. rw e) (λ e. rw e) (power-is p h)

size_back : (size : Size) → size_by (power_of size) ≡ size
size_back Z.Small = refl
size_back Z.Large = refl

module _ (bytes table : List ℕ) where
  abbrev whole : Opening
  whole = opening (length bytes) (words_of bytes) (length table)

  -- 1
  pub judge-length : (buffer : List ℕ) (a : Bool) → a ≡ any_allowed (length bytes) → a ≡ false → Judging bytes table table buffer buffer (Err N.ImageLength)
  unfolding opening
  judge-length buffer a is-a e = record { sized = refl; kept = refl; judged = (rw (sym is-a ∙ e), inl refl) }

  module _ (a : Bool) (is-a : a ≡ any_allowed (length bytes)) (yes-a : a ≡ true) (p : ℕ) (is-p : p ≡ header_power (words_of bytes)) (s : Bool) (is-s : s ≡ size_allowed p (length bytes)) where
    -- 2, by the power
    pub judge-power : (buffer : List ℕ) → s ≡ false → Judging bytes table table buffer buffer (Err N.NotOpen)
    unfolding opening
    judge-power buffer e = record { sized = refl; kept = refl; judged = (rw (sym is-a ∙ yes-a, ← is-p, sym is-s ∙ e), inr (inl refl)) }

    module _ (yes-s : s ≡ true) (size : Size) (is-size : size ≡ size_by p) (count : ℕ) (is-count : count ≡ chunks_in (power_of size) (length bytes)) (b : Bool) (is_b : b ≡ header_right count (words_of bytes)) where
      allowed : (is_power p ≡ true) × (length_allowed p (length bytes) ≡ true)
      allowed = size-allowed p (length bytes) (sym is-s ∙ yes-s)

      by-power : power_of size ≡ p
      by-power = rw is-size (size-said p allowed.0)

      by-chunks : whole ≡ open_chunks (power_of size) count (words_of bytes) (length table)
      unfolding opening
      by-chunks = rw (sym is-a ∙ yes-a, ← is-p, sym is-s ∙ yes-s, is-count, by-power)

      -- 2
      pub judge-header : (buffer : List ℕ) → b ≡ false → Judging bytes table table buffer buffer (Err N.NotOpen)
      judge-header buffer e = record { sized = refl; kept = refl; judged = (by-chunks ∙ rw (sym is_b ∙ e), inr (inl refl)) }

      -- by the next two tests
      abbrev open_by : Bool → Bool → Opening
      open_by x y = pick x (pick y (open_log (power_of size) count (words_of bytes) (length table) (image_entries (power_of size) count (words_of bytes))) (Refused N.DirectoryWrong)) (Refused N.NotOpen)

      module _ (yes-b : b ≡ true) (d : Bool) (is-d : d ≡ directory_test (power_of size) count (words_of bytes)) where
        by_tests : whole ≡ open_by b d
        by_tests = by-chunks ∙ rw (is_b, is-d)

        -- 3
        pub judge-directory : (buffer : List ℕ) → d ≡ false → Judging bytes table table buffer buffer (Err N.DirectoryWrong)
        judge-directory buffer e = record { sized = refl; kept = refl; judged = (by_tests ∙ rw (yes-b, e), inr (inr (inl refl))) }

        -- 4 to 7
        pub judge-rest : d ≡ true → (table' buffer buffer' : List ℕ) (r : Result ℕ Refusal) → JudgingLog size count (words_of bytes) table table' buffer buffer' r → Judging bytes table table' buffer buffer' r
        judge-rest e table' buffer buffer' r j =
            let l = length-allowed (power_of size) (power-low size) (power-high size) (length bytes) (rw by-power allowed.1) in
            let w = length-words_of bytes in
            let q = is-count in
            let f : count ≤ max_chunks = omega arith in
            let g : base (power_of size) count ≤ length (words_of bytes) = rw is-count (omega arith) in
            let same : whole ≡ open_log (power_of size) count (words_of bytes) (length table) (image_entries (power_of size) count (words_of bytes)) = by_tests ∙ rw (yes-b, e) in
            let t : Judged size whole table' buffer' r = rw same (j.judged f g) in
            record { sized = j.sized; kept = j.kept; judged = rw (is-size ∙ ap size_by is-p) at t }

-- ## The call

abbrev session : Control → Setup → List ℕ → Session
session c k b = record { control = c; setup = k; buffer = b }

state-closed : (k : Setup) (b : List ℕ) → state_of (session closed k b) ≡ Closed
unfolding state_at
state-closed k b = refl

no_words : (keys : ℕ) (b : List ℕ) → batch_words (opened keys) b ≡ []
unfolding batch_words
no_words keys b = refl

no_items : (keys : ℕ) (b : List ℕ) → batch_items (opened keys) b ≡ []
unfolding batch_items
no_items keys b = rw (no_words keys b)

state-rest : (keys bytes words : ℕ) (size : Size) (b : List ℕ) → state_of (session (opened keys) (opened_setup bytes words size) b) ≡ Rest (power_of size) bytes words []
unfolding state_at
state-rest keys bytes words size b = rw (size_back size, no_items keys b)

-- nothing is barred, and the image stays
module _ (c : Control) (k : Setup) (buffer bytes table table' buffer' : List ℕ) (v : Result ℕ Refusal) (judging : Judging bytes table table' buffer buffer' v) where
  pub opens-refused : (n : Refusal) → v ≡ Err n → (table'' : List ℕ) → table'' ≡ zeros (length table')
      → Does Open (memory (session c k buffer) bytes table) (memory (session closed k buffer') bytes table'') (R.Refused n)
  unfolding next
  opens-refused n e table'' z =
      let j : Judged (size_by (header_power (words_of bytes))) (opening (length bytes) (words_of bytes) (length table)) table' buffer' (Err n) = rw e at judging.judged in
      let t : table'' ≡ zeros (length table) = z ∙ ap zeros judging.sized in
      record {
        exact = λ proper. record {
          answered = sym (rw j.0);
          became = state-closed k buffer' ∙ sym (rw j.0);
          fits = (judging.kept ∙ proper, rw (state-closed k buffer') tt);
        };
        first = λ r h. absurd (let x : ◌≡◌ {A = ℕ} 0 1 = cc in omega arith);
        image = refl;
        sized = ap length t ∙ length-replicate (length table) 0;
        outcome = (j.1, (state-closed k buffer', t));
        anyway = inl (n, refl);
      }

  -- of chunks of the size that the header says
  module _ (size : Size) (is-size : size ≡ size_by (header_power (words_of bytes))) where
    said : (es : List Entry) → opening (length bytes) (words_of bytes) (length table) ≡ Accepted es → header_power (words_of bytes) ≡ power_of size
    said es o = sym (rw is-size (size-said (header_power (words_of bytes)) (opens-ok (length bytes) (length table) (words_of bytes) es (length-words_of bytes) o).3))

    fits : (keys : ℕ) (es : List Entry) → opening (length bytes) (words_of bytes) (length table) ≡ Accepted es → Indexed size table' keys es → ((u : ℕ) → has_bit size buffer' u ≡ is_in u (live_blocks es))
        → Summed size buffer' es → RestFits (session (opened keys) (opened_setup (length bytes) (length table) size) buffer') (words_of bytes) table' []
    fits keys es o ix bits sums =
        let m : keys ≡ length (keys_of es) = ix.count in
        let l : keys ≤ capacity (length table) = rw judging.sized at ix.fits in
        record {
          entries = es;
          accepted = rw (size_back size) (record { accepts = o; power = said es o });
          long = length-words_of bytes;
          lent = judging.sized;
          built = rw (size_back size) (record { indexed = ix; blocks = bits; sums = sums });
          batch = record {
            room = omega arith;
            written = no_words keys buffer';
            count = refl;
            few = omega arith;
            right = tt;
            counts = tt;
            fit = none-fit _ _ (words_of bytes) es;
            marked = tt;
            keys = omega arith;
          };
          table-room = omega arith;
          hint = record { below = λ c l u m. absurd (omega arith); above = λ l. absurd (omega arith); taken = λ l. absurd (omega arith) };
        }

    opens : (keys : ℕ) → v ≡ Ok keys → Does Open (memory (session c k buffer) bytes table) (memory (session (opened keys) (opened_setup (length bytes) (length table) size) buffer') bytes table') R.Opened
    unfolding next
    opens keys e =
        let j : Judged size (opening (length bytes) (words_of bytes) (length table)) table' buffer' (Ok keys) = rw (e, ← is-size) at judging.judged in
        let rest = state-rest keys (length bytes) (length table) size buffer' in
        let power = ap (λ (p : ℕ). Rest p (length bytes) (length table) []) (sym (said j.0 j.1)) in
        record {
          exact = λ proper. record {
            answered = sym (rw j.1);
            became = rest ∙ sym (rw (j.1, said j.0 j.1));
            fits = (judging.kept ∙ proper, rw rest (fits keys j.0 j.1 j.2 j.3 j.4));
          };
          first = λ r h. absurd (let x : ◌≡◌ {A = ℕ} 0 1 = cc in omega arith);
          image = refl;
          sized = judging.sized;
          outcome = rw rest;
          anyway = inr (refl, rest ∙ power);
        }

    pub opens-accepted : (keys : ℕ) (c' : Control) (k' : Setup) → v ≡ Ok keys → c' ≡ opened keys → k' ≡ opened_setup (length bytes) (length table) size
        → Does Open (memory (session c k buffer) bytes table) (memory (session c' k' buffer') bytes table') R.Opened
    opens-accepted keys c' k' e p q = rw (p, q) (opens keys e)
