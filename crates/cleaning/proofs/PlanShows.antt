-- What the code of a cleaning's plan shows at each return is what the contract says.
-- Assumes nothing.
use mathlib.Core.Path.{◌≡◌, refl, sym, ◌∙◌, ap}
use mathlib.Core.Logic.{inl, inr}
use mathlib.Core.Bool.{Bool, true, false}
use mathlib.Core.Option.{none, some}
use mathlib.Core.List.{List, [], ◌∷◌, ◌++◌}
use Prim.Native.Nat.{ℕ, ◌+◌, ◌*◌, ◌%◌, ◌≤◌, ◌<◌, min}
use native.Mathlib.Omega.{arith}
use lib.Dec.{leb, ltb}
use lib.ListN.{length, get_or}
use borrow.Author.Tests.{le-leb, lt-ltb, le-ltb}
use Rattle.spec.specs.declared.Size.{Size}
use Rattle.places.specs.Sizes.{power_of}
use Rattle.spec.specs.Basics.{both, is_empty}
use Rattle.spec.specs.Words.{words_of}
use Rattle.spec.specs.Places.{base, chunk_units, directory_word, chunks_in, first_unit}
use Rattle.spec.specs.Directory.{is_free, is_log, role_at, lines_of}
use Rattle.spec.specs.Log.{Entry, encode_all}
use Rattle.spec.specs.Contents.{kept_in}
use Rattle.spec.specs.Actions.{lines_for}
use Rattle.spec.specs.Plans.{old_of, Cleaning, Refuse, Begin, log_place, append_to, in_use, has_live, free, plan_clean}
use Rattle.spec.specs.Machine.{Clean, refusals}
use Rattle.spec.specs.Contract.{MemRefusal}
use Rattle.session.specs.declared.Control.{Control}
use Rattle.session.specs.declared.Setup.{Setup}
use Rattle.spec.specs.declared.Refusal.{Refusal}
use Rattle.spec.specs.declared.Refusal.TheVariants as N
use Rattle.theory_crash.specs.Accepted.{Ok}
use Rattle.session.proofs.OpensRight.{opens-right}
use Rattle.volatile.specs.Known.{Indexed}
use Rattle.session.specs.State.{size_in, power_in}
use Rattle.session.specs.Fits.{sole_mark, RestFits, Built}
use Rattle.placing.specs.declared.lines.Place.{Place}
use Rattle.placing.specs.Found.{place_of}
use Rattle.placing.proofs.PlaceFound.{placed_at, placed-nowhere}
use Rattle.directory.proofs.Roles.{log-lines}
use Rattle.gathering.specs.declared.measure.Tally.{Tally}
use Rattle.gathering.specs.Measuring.{Measured}
use Rattle.gathering.specs.Reading.{Collected}
use Rattle.gathering.proofs.Words.{collected-measured}
use Rattle.gathering.proofs.Sizes.{chunk-measured}
use Rattle.session.specs.declared.Source.{Source}
use Rattle.actions.specs.Record.{clean_count, source_of}
use Rattle.actions.proofs.Acting.{count_none}
use Rattle.cleaning.specs.declared.CleanPlan.{CleanPlan}
use Rattle.std.specs.declared.result.Result.TheVariants as P
use Rattle.std.specs.Prelude.{Result, Some, None}
use Rattle.cleaning.specs.Plans.{any_bit, Right, KeptAt, LogPlanned, DataPlanned, CleanPlanned}
use Rattle.cleaning.proofs.Finding.{bits-live}

-- THE PLAN, by what was found
module _ (size : Size) (n : ℕ) (ws : List ℕ) (es : List Entry) (s : ℕ) where
  abbrev kept : List Entry
  kept = kept_in (power_of size) s es

  pub plan-staged : (i : Entry) (items : List Entry) → plan_clean (power_of size) n ws es (i ∷ items) s ≡ Refuse N.BatchStaged
  unfolding plan_clean
  plan-staged i items = refl

  pub plan-unused : in_use (power_of size) n ws s ≡ false → plan_clean (power_of size) n ws es [] s ≡ Refuse N.NotCleanable
  unfolding plan_clean
  plan-unused h = rw h

  module _ (low : 1 ≤ s) (high : s < n) (used : is_free (role_at (power_of size) ws s) ≡ false) where
    in_use_lem : in_use (power_of size) n ws s ≡ true
    in_use_lem = rw (le-leb 1 s low, lt-ltb s n high, used)

    pub plan-none : is_log (role_at (power_of size) ws s) ≡ true → kept ≡ [] → plan_clean (power_of size) n ws es [] s ≡ Begin [] (Cleaning 0 (old_of ws s ∷ [])) (free s ws)
    unfolding plan_clean
    plan-none log e = rw (in_use_lem, log, e)

    some-kept : (fs : List Entry) → (fs ≡ [] → ⊥) → is_empty fs ≡ false
    some-kept [] h = absurd (h refl)
    some-kept (f ∷ fs) h = refl

    pub plan-copies : is_log (role_at (power_of size) ws s) ≡ true → (kept ≡ [] → ⊥) → (d : ℕ) → log_place (power_of size) n ws (lines_for (length (encode_all kept))) s 1 ≡ some d
        → plan_clean (power_of size) n ws es [] s ≡ Begin [] (Cleaning (length kept) (old_of ws d ∷ old_of ws s ∷ [])) (append_to (power_of size) ws (encode_all kept) d ++ free s ws)
    unfolding plan_clean
    plan-copies log h d found = rw (in_use_lem, log, some-kept kept h, found)

    pub plan-full : is_log (role_at (power_of size) ws s) ≡ true → (kept ≡ [] → ⊥) → log_place (power_of size) n ws (lines_for (length (encode_all kept))) s 1 ≡ none → plan_clean (power_of size) n ws es [] s ≡ Refuse N.NoSpace
    unfolding plan_clean
    plan-full log h found = rw (in_use_lem, log, some-kept kept h, found)

    pub plan-live : is_log (role_at (power_of size) ws s) ≡ false → has_live (power_of size) es s ≡ true → plan_clean (power_of size) n ws es [] s ≡ Refuse N.NotCleanable
    unfolding plan_clean
    plan-live log h = rw (in_use_lem, log, h)

    pub plan-dead : is_log (role_at (power_of size) ws s) ≡ false → has_live (power_of size) es s ≡ false → plan_clean (power_of size) n ws es [] s ≡ Begin [] (Cleaning 0 (old_of ws s ∷ [])) (free s ws)
    unfolding plan_clean
    plan-dead log h = rw (in_use_lem, log, h)

-- A LOG CHUNK
no_words : (fs : List Entry) → length (encode_all fs) ≡ 0 → fs ≡ []
no_words [] h = refl
no_words (f ∷ fs) h = absurd (omega arith)

module _ (size : Size) (ws table : List ℕ) (n s hint : ℕ) (old lines at end : ℕ) (t : Tally) (eo : old ≡ get_or ws (directory_word s) 0) (el : lines ≡ lines_of (power_of size) ws s) (ea : at ≡ base (power_of size) (s % 512)) (ee : end ≡ at + 8 * lines) (few : lines ≤ 1024) (words : List ℕ) (g : Collected size ws table words at end t) where
  m : Measured size ws table at end t
  m = collected-measured size ws table words at end t g

  abbrev f : Source
  f = record { chunk = s; old = old; lines = lines; words = t.words; entries = t.entries }

  f-is : f ≡ source_of size ws s t.words t.entries
  f-is = rw (eo, el)

  kept_at : KeptAt size f ws table words
  kept_at = record { at = at; end = end; tally = t; at-is = ea; end_is = ee ∙ (let q : at + 8 * lines ≡ at + 8 * (lines % 2048) = omega arith in q); words = refl; collected = g }

  module _ (keys : ℕ) (es : List Entry) (ok : Ok (power_of size) n ws es) (indexed : Indexed size table keys es) (low : 1 ≤ s) (high : s < n) where
    measured : (t.words ≡ length (encode_all (kept_in (power_of size) s es))) × (t.entries ≡ length (kept_in (power_of size) s es))
    measured = chunk-measured size n s at end keys ws table es ok indexed low high ea (ee ∙ ap (λ (x : ℕ). at + 8 * x) el) t m

    none_kept : t.words ≡ 0 → kept_in (power_of size) s es ≡ []
    none_kept z = no_words (kept_in (power_of size) s es) (let q = measured.0 in omega arith)

    kept-some : (t.words ≡ 0 → ⊥) → kept_in (power_of size) s es ≡ [] → ⊥
    kept-some z e = z (measured.0 ∙ ap (λ (l : List Entry). length (encode_all l)) e)

  pub log-bare : t.words ≡ 0 → LogPlanned size ws table words n s hint (P.Ok (record { chunk = 0; old = 0; lines = 0; first = hint; source = f; actions = 3 }))
  log-bare z = record {
    sound = rw (count_none t.words z);
    keeps = inl z;
    plans = λ keys es ok indexed low high used log. (
      refl,
      record {
        low = low;
        high = high;
        used = used;
        source = f-is;
        room = m.bound;
        count = rw (count_none t.words z);
        how =
            inr (record {
              words = z;
              entries = (measured keys es ok indexed low high).1 ∙ ap length (none_kept keys es ok indexed low high z);
              chunk-is = refl;
              old-is = refl;
              lines-is = refl;
              same = refl;
              why = inl (log, none_kept keys es ok indexed low high z);
            });
      },
    );
  }

  module _ (z : t.words ≡ 0 → ⊥) (b : ℕ) (eb : b ≡ lines_for t.words) where
    lines_are : (keys : ℕ) (es : List Entry) → Ok (power_of size) n ws es → Indexed size table keys es → 1 ≤ s → s < n → b ≡ lines_for (length (encode_all (kept_in (power_of size) s es)))
    lines_are keys es ok indexed low high = eb ∙ ap lines_for (measured keys es ok indexed low high).0

    pub log-copies : (place : Place) → Some place ≡ place_of (power_of size) ws (log_place (power_of size) n ws b s 1) → (actions first : ℕ) → actions ≡ clean_count t.words → first ≡ min hint place.chunk
        → LogPlanned size ws table words n s hint (P.Ok (record { chunk = place.chunk; old = place.old; lines = place.committed; first = first; source = f; actions = actions }))
    log-copies place ep actions first ec ef =
        let q = placed_at (power_of size) ws (log_place (power_of size) n ws b s 1) place ep in
        record {
          sound = ec;
          keeps = inr kept_at;
          plans = λ keys es ok indexed low high used log. (
            refl,
            record {
              low = low;
              high = high;
              used = used;
              source = f-is;
              room = m.bound;
              count = ec;
              how =
                  inl (record {
                    log = log;
                    some-kept = kept-some keys es ok indexed low high z;
                    words = (measured keys es ok indexed low high).0;
                    entries = (measured keys es ok indexed low high).1;
                    found = rw (← lines_are keys es ok indexed low high) q.chunk;
                    old-is = q.old;
                    lines-is = q.committed;
                    below = omega arith;
                    under = omega arith;
                  });
            },
          );
        }

    pub log-full : None ≡ place_of (power_of size) ws (log_place (power_of size) n ws b s 1) → LogPlanned size ws table words n s hint (P.Err N.NoSpace)
    log-full ep = record {
      sound = inr (inr (inr (inr (inr (inl refl)))));
      keeps = tt;
      plans = λ keys es ok indexed low high used log.
          plan-full size n ws es s low high used log (kept-some keys es ok indexed low high z) (rw (← lines_are keys es ok indexed low high) (placed-nowhere (power_of size) ws (log_place (power_of size) n ws b s 1) ep));
    }

-- ANOTHER CHUNK
module _ (size : Size) (ws buffer : List ℕ) (s hint : ℕ) (live : Bool) (ev : live ≡ any_bit size buffer (first_unit (power_of size) (s % 512)) (chunk_units (power_of size))) where
  live-is : (c : Control) (table : List ℕ) (es : List Entry) (n : ℕ) → Ok (power_of size) n ws es → Built c size buffer table es → s < n → live ≡ has_live (power_of size) es s
  live-is c table es n ok built high =
      let e : s % 512 ≡ s = let m = ok.most in omega arith in
      ev ∙ ap (λ (x : ℕ). any_bit size buffer (first_unit (power_of size) x) (chunk_units (power_of size))) e ∙ bits-live size buffer es built.blocks s

  pub data-live : live ≡ true → DataPlanned size ws buffer s hint (P.Err N.NotCleanable)
  data-live h = record { sound = inr (inr (inr (inr (inl refl)))); keeps = λ table kept. tt; plans = λ c table es n ok built low high used log. plan-live size n ws es s low high used log (sym (live-is c table es n ok built high) ∙ h) }

  pub data-dead : live ≡ false → (old lines : ℕ) → old ≡ get_or ws (directory_word s) 0 → lines ≡ lines_of (power_of size) ws s
      → DataPlanned size ws buffer s hint (P.Ok (record { chunk = 0; old = 0; lines = 0; first = hint; source = record { chunk = s; old = old; lines = lines; words = 0; entries = 0 }; actions = 3 }))
  data-dead h old lines eo el = record {
    sound = refl;
    keeps = λ table kept. inl refl;
    plans = λ c table es n ok built low high used log. (
      refl,
      record {
        low = low;
        high = high;
        used = used;
        source = rw (eo, el);
        room = omega arith;
        count = refl;
        how =
            inr (record {
              words = refl;
              entries = refl;
              chunk-is = refl;
              old-is = refl;
              lines-is = refl;
              same = refl;
              why = inr (log, sym (live-is c table es n ok built high) ∙ h);
            });
      },
    );
  }

-- THE CALL
module _ (c : Control) (k : Setup) (buffer image table words : List ℕ) (s : ℕ) where
  abbrev ws : List ℕ
  ws = words_of image

  -- 15
  pub staged : (c.items ≡ 0 → ⊥) → CleanPlanned c k buffer image table words s (P.Err N.BatchStaged)
  staged h = record { sound = inr (inr (inr (inl refl))); keeps = tt; plans = λ e items q. go items q }
    where
      go : (items : List Entry) (q : RestFits (record { control = c; setup = k; buffer = buffer }) ws table items) → plan_clean (power_in k) (chunks_in (power_in k) k.image) ws q.entries items s ≡ Refuse N.BatchStaged
      go [] q = absurd (h q.batch.count)
      go (i ∷ items) q = plan-staged (size_in k) (chunks_in (power_in k) k.image) ws q.entries s i items

  module _ (z : c.items ≡ 0) where
    nothing : (items : List Entry) → length items ≡ 0 → items ≡ []
    nothing [] e = refl
    nothing (i ∷ items) e = absurd (omega arith)

    none-staged : (items : List Entry) → RestFits (record { control = c; setup = k; buffer = buffer }) ws table items → items ≡ []
    none-staged items q = nothing items (let n = q.batch.count in omega arith)

    chunks-are : (n : ℕ) → n ≡ chunks_in (power_in k) (length image) → k.image ≡ length image → chunks_in (power_in k) k.image ≡ n
    chunks-are n e q = ap (chunks_in (power_in k)) q ∙ sym e

    refused : (x : Refusal) → MemRefusal x (refusals (Clean 0)) → ((items : List Entry) (q : RestFits (record { control = c; setup = k; buffer = buffer }) ws table items) → k.image ≡ length image → plan_clean (power_in k) (chunks_in (power_in k) k.image) ws q.entries [] s ≡ Refuse x)
        → CleanPlanned c k buffer image table words s (P.Err x)
    refused x listed h = record { sound = listed; keeps = tt; plans = λ e items q. rw (none-staged items q) (h items q e) }

    right : (r : Result CleanPlan Refusal) (es items : List Entry) (n hint : ℕ) → items ≡ [] → Right (size_in k) ws es [] n s hint r → Right (size_in k) ws es items n s hint r
    right (P.Err x) es items n hint e h = rw e h
    right (P.Ok p) es items n hint e h = (e, h.1)

    -- 16
    pub chunk-zero : s ≡ 0 → CleanPlanned c k buffer image table words s (P.Err N.NotCleanable)
    chunk-zero e = refused N.NotCleanable (inr (inr (inr (inr (inl refl))))) (λ items q same. plan-unused (size_in k) (chunks_in (power_in k) k.image) ws q.entries s (rw e))

    -- with the size that the code has
    module _ (size : Size) (is : size ≡ size_in k) (n : ℕ) (counted : n ≡ chunks_in (power_of size) (length image)) where
      en : n ≡ chunks_in (power_in k) (length image)
      en = rw is at counted

      pub past-count : n ≤ s → CleanPlanned c k buffer image table words s (P.Err N.NotCleanable)
      past-count h = refused N.NotCleanable (inr (inr (inr (inr (inl refl))))) (λ items q same. plan-unused (size_in k) (chunks_in (power_in k) k.image) ws q.entries s (rw (chunks-are n en same, le-ltb s n h) (go (leb 1 s))))
        where
          go : (t : Bool) → both t false ≡ false
          go true = refl
          go false = refl

      pub chunk-free : true ≡ is_free (role_at (power_of size) ws s) → CleanPlanned c k buffer image table words s (P.Err N.NotCleanable)
      chunk-free h =
          let g : true ≡ is_free (role_at (power_in k) ws s) = rw is at h in
          refused N.NotCleanable (inr (inr (inr (inr (inl refl))))) (λ items q same. plan-unused (size_in k) (chunks_in (power_in k) k.image) ws q.entries s (rw (← g) (go (leb 1 s) (ltb s (chunks_in (power_in k) k.image)))))
        where
          go : (t u : Bool) → both t (both u false) ≡ false
          go true true = refl
          go true false = refl
          go false u = refl

      module _ (low : s ≡ 0 → ⊥) (high : s < n) (taken : false ≡ is_free (role_at (power_of size) ws s)) where
        used : false ≡ is_free (role_at (power_in k) ws s)
        used = rw is at taken

        ok : (items : List Entry) (q : RestFits (record { control = c; setup = k; buffer = buffer }) ws table items) → Ok (power_in k) (chunks_in (power_in k) k.image) ws q.entries
        ok items q = (opens-right (power_in k) k.image k.table ws q.entries q.long q.accepted).0

        pub chunk-data : (lines : ℕ) → lines ≡ lines_of (power_of size) ws s → lines ≡ 0 → (r : Result CleanPlan Refusal) → DataPlanned size ws buffer s (k.first % sole_mark) r → CleanPlanned c k buffer image table words s r
        chunk-data lines el' e r d' =
            let el : lines ≡ lines_of (power_in k) ws s = rw is at el' in
            let d : DataPlanned (size_in k) ws buffer s (k.first % sole_mark) r = rw is at d' in
            record {
              sound = d.sound;
              keeps = d.keeps table words;
              plans = λ same items q.
                  right r q.entries items (chunks_in (power_in k) k.image) (k.first % sole_mark) (none-staged items q)
                  (d.plans c table q.entries (chunks_in (power_in k) k.image) (ok items q) q.built (omega (arith, low)) (rw (chunks-are n en same) high) (sym used) (rw (log-lines (power_in k) ws s, ← el, e)));
            }

        pub chunk-log : (lines : ℕ) → lines ≡ lines_of (power_of size) ws s → (lines ≡ 0 → ⊥) → (r : Result CleanPlan Refusal) → LogPlanned size ws table words n s (k.first % sole_mark) r → CleanPlanned c k buffer image table words s r
        chunk-log lines el' ne r d' =
            let el : lines ≡ lines_of (power_in k) ws s = rw is at el' in
            let d : LogPlanned (size_in k) ws table words n s (k.first % sole_mark) r = rw is at d' in
            record {
              sound = d.sound;
              keeps = d.keeps;
              plans = λ same items q.
                  right r q.entries items (chunks_in (power_in k) k.image) (k.first % sole_mark) (none-staged items q)
                  (rw (chunks-are n en same) (d.plans c.keys q.entries (rw (chunks-are n en same) at (ok items q)) q.built.indexed (omega (arith, low)) high (sym used)
                  (log-lines (power_in k) ws s ∙ le-leb 1 (lines_of (power_in k) ws s) (omega (arith, ne)))));
            }
