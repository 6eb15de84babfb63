-- From the plan to the begin: with the kept words gathered, the record's actions are those of the definition's plan, as
-- many as the plan said, and memory fits, looking forward.
-- Assumes nothing.
use mathlib.Core.Path.{◌≡◌, refl, sym, ◌∙◌, ap, subst}
use mathlib.Core.Logic.{◌⊎◌, inl, inr}
use mathlib.Core.Bool.{true, false}
use mathlib.Core.List.{List, [], ◌∷◌, ◌++◌}
use Prim.Native.Nat.{ℕ, ◌+◌, ◌*◌, ◌%◌, ◌≤◌, ◌<◌, min}
use native.Mathlib.Omega.{arith}
use lib.ListN.{length, get_or, drop, length-append}
use Rattle.places.specs.Sizes.{power-low, power-high}
use Rattle.spec.specs.Places.{base, chunk_lines, directory_word, chunks_in}
use Rattle.spec.specs.Directory.{is_log, role_at, lines_of}
use Rattle.spec.specs.Log.{Entry, encode_all}
use Rattle.spec.specs.Contents.{kept_in}
use Rattle.spec.specs.Plans.{old_of, Cleaning, Begin, append_to, has_live, free, plan_clean}
use Rattle.session.specs.declared.Control.{Control}
use Rattle.session.specs.declared.Setup.{Setup}
use Rattle.theory_base.proofs.Places.{words-most, lines-words}
use Rattle.theory_crash.specs.Accepted.{Ok}
use Rattle.session.proofs.OpensRight.{opens-right}
use Rattle.buffer.specs.Areas.{second_room, second_start}
use Rattle.session.specs.State.{size_in, power_in, buffer_part, source_in, source_lines, kept_words, clean_actions, clean_olds}
use Rattle.session.specs.Fits.{NoneBelow, sole_mark, RestFits, CleanFits, Reads}
use Rattle.session.proofs.Part.{length_part}
use Rattle.actions.specs.Nth.{nth}
use Rattle.forward.proofs.Freed.{lines-few}
use Rattle.gathering.specs.declared.measure.Tally.{Tally}
use Rattle.gathering.specs.Gathering.{Gathered}
use Rattle.gathering.proofs.Chunks.{chunk-gathered}
use Rattle.session.specs.declared.Source.{Source}
use Rattle.actions.specs.Record.{cleaning, copying_to, source_of}
use Rattle.actions.proofs.Acting.{length-clean, clean-next}
use Rattle.cleaning.proofs.Starts.{copies-acts, copies-olds, copies-reads, copies-fit, none-acts, none-olds, none_reads, none-fits, data-fits}
use Rattle.cleaning.specs.Plans.{Copies, Bare, Beginning}
use Rattle.cleaning.specs.Begun.{Begun}
use Rattle.cleaning.proofs.PlanShows.{plan-none, plan-copies, plan-dead}

module _ (c : Control) (k : Setup) (b ws table : List ℕ) (r : RestFits (record { control = c; setup = k; buffer = b }) ws table []) (s chunk old lines first : ℕ) (f : Source) (actions : ℕ)
    (q : Beginning (size_in k) ws r.entries (chunks_in (power_in k) k.image) s chunk old lines (k.first % sole_mark) first f actions) where
  abbrev n : ℕ
  n = chunks_in (power_in k) k.image

  abbrev es : List Entry
  es = r.entries

  abbrev kept : List Entry
  kept = kept_in (power_in k) s es

  abbrev k' : Setup
  k' = copying_to k chunk old lines first k.least f

  abbrev g : Source
  g = source_of (size_in k) ws s f.words f.entries

  ok : Ok (power_in k) n ws es
  ok = (opens-right (power_in k) k.image k.table ws es r.long r.accepted).0

  all : (b' : List ℕ) → plan_clean (power_in k) n ws es [] s ≡ Begin [] (Cleaning f.entries (clean_olds k' g)) (clean_actions k' g b')
      → Reads (record { control = cleaning c; setup = k'; buffer = b' }) (clean_olds k' g) (clean_actions k' g b') ws table → CleanFits (cleaning c) k' g b' ws table (nth (clean_actions k' g b') 0 ∷ drop 1 (clean_actions k' g b'))
      → Begun c k' f b' ws table es n s actions
  all b' p d t = record {
    plan = subst (λ (x : Source). plan_clean (power_in k) n ws es [] s ≡ Begin [] (Cleaning f.entries (clean_olds k' x)) (clean_actions k' x b')) (sym q.source) p;
    count = q.count ∙ sym (length-clean k' f b');
    first = clean-next k' f b' 0 (omega arith);
    fits = subst (λ (x : Source). CleanFits (cleaning c) k' x b' ws table (nth (clean_actions k' x b') 0 ∷ drop 1 (clean_actions k' x b'))) (sym q.source) t;
    reads = subst (λ (x : Source). Reads (record { control = cleaning c; setup = k'; buffer = b' }) (clean_olds k' x) (clean_actions k' x b') ws table) (sym q.source) d;
  }

  -- NOTHING COPIED: the buffer stays
  begun-bare : Bare (size_in k) ws es s chunk old lines (k.first % sole_mark) first f → Begun c k' f b ws table es n s actions
  begun-bare a = all b (plan a.why) reads (fit a.why)
    where
      small-chunk : chunk ≤ 503
      small-chunk = let e = a.chunk-is in omega arith

      small-lines : lines ≤ chunk_lines (power_in k)
      small-lines = let e = a.lines-is in omega arith

      k-is : k' ≡ copying_to k chunk old lines (k.first % sole_mark) k.least f
      k-is = ap (λ (x : ℕ). copying_to k chunk old lines x k.least f) a.same

      acts-are : clean_actions k' g b ≡ free s ws
      acts-are = ap (λ (x : Setup). clean_actions x g b) k-is ∙ none-acts c k b ws table r s q.low q.high f.words f.entries q.room b (λ i l. refl) f a.words chunk old lines small-chunk small-lines

      olds-are : clean_olds k' g ≡ old_of ws s ∷ []
      olds-are = none-olds c k b ws table r s q.low q.high f.words f.entries q.room b (λ i l. refl) f a.words chunk old lines small-chunk small-lines

      reads : Reads (record { control = cleaning c; setup = k'; buffer = b }) (clean_olds k' g) (clean_actions k' g b) ws table
      reads =
          subst (λ (x : Setup). Reads (record { control = cleaning c; setup = x; buffer = b }) (clean_olds x g) (clean_actions x g b) ws table) (sym k-is)
          (none_reads c k b ws table r s q.low q.high f.words f.entries q.room b (λ i l. refl) f a.words chunk old lines small-chunk small-lines)

      plan : ((is_log (role_at (power_in k) ws s) ≡ true) × (kept ≡ [])) ⊎ ((is_log (role_at (power_in k) ws s) ≡ false) × (has_live (power_in k) es s ≡ false)) → plan_clean (power_in k) n ws es [] s ≡ Begin [] (Cleaning f.entries (clean_olds k' g)) (clean_actions k' g b)
      plan (inl (log, e)) = rw (acts-are, olds-are, a.entries) (plan-none (size_in k) n ws es s q.low q.high q.used log e)
      plan (inr (log, e)) = rw (acts-are, olds-are, a.entries) (plan-dead (size_in k) n ws es s q.low q.high q.used log e)

      fit : ((is_log (role_at (power_in k) ws s) ≡ true) × (kept ≡ [])) ⊎ ((is_log (role_at (power_in k) ws s) ≡ false) × (has_live (power_in k) es s ≡ false)) → CleanFits (cleaning c) k' g b ws table (nth (clean_actions k' g b) 0 ∷ drop 1 (clean_actions k' g b))
      fit (inl (log, e)) = rw k-is (none-fits c k b ws table r s q.low q.high f.words f.entries q.room b (λ i l. refl) f a.words chunk old lines small-chunk small-lines log e)
      fit (inr (log, e)) = rw k-is (data-fits c k b ws table r s q.low q.high f.words f.entries q.room b (λ i l. refl) f a.words chunk old lines small-chunk small-lines log e)

  some_words : (fs : List Entry) → (fs ≡ [] → ⊥) → length (encode_all fs) ≡ 0 → ⊥
  some_words [] h e = h refl
  some_words (e ∷ fs) h z = let l = length-append e.value (encode_all fs) in absurd (omega arith)

  -- THE BEGIN, where the plan keeps no words
  pub begins-bare : f.words ≡ 0 → Begun c k' f b ws table es n s actions
  begins-bare z = go q.how
    where
      go : Copies (size_in k) ws es n s chunk old lines (k.first % sole_mark) first f ⊎ Bare (size_in k) ws es s chunk old lines (k.first % sole_mark) first f → Begun c k' f b ws table es n s actions
      go (inl a) = absurd (some_words kept a.some-kept (sym a.words ∙ z))
      go (inr a) = begun-bare a

  -- SOME COPIED: their words are gathered
  module _ (b' : List ℕ) (at end : ℕ) (t : Tally) (ea : at ≡ base (power_in k) (source_in f)) (ee : end ≡ at + 8 * source_lines f) (gathered : Gathered (size_in k) ws table b b' at end t) where
    at-is : at ≡ base (power_in k) (s % 512)
    at-is = ea ∙ ap (λ (x : Source). base (power_in k) (source_in x)) q.source

    end_is : end ≡ at + 8 * lines_of (power_in k) ws s
    end_is = let l = lines-few (size_in k) ws s in let w = words-most (power_in k) (power-low (size_in k)) (power-high (size_in k)) in let v = lines-words (power_in k) (power-low (size_in k)) (power-high (size_in k)) in let e : source_lines f ≡ lines_of (power_in k) ws s % 2048 = ap source_lines q.source in omega arith

    words_are : (buffer_part b' second_start t.words ≡ encode_all kept) × (t.entries ≡ length kept)
    words_are = chunk-gathered (size_in k) n s at end c.keys ws table es ok r.built.indexed q.low q.high at-is end_is b b' t gathered

    begun-copies : Copies (size_in k) ws es n s chunk old lines (k.first % sole_mark) first f → Begun c k' f b' ws table es n s actions
    unfolding kept_words
    begun-copies a = all b' plan reads fit
      where
        same-words : t.words ≡ f.words
        same-words = sym (length_part b' second_start t.words) ∙ ap length words_are.0 ∙ sym a.words

        written : buffer_part b' second_start (min f.words second_room) ≡ encode_all kept
        written = ap (buffer_part b' second_start) (let h = q.room in let w = words-most (power_in k) (power-low (size_in k)) (power-high (size_in k)) in let e = same-words in let z : min f.words second_room ≡ t.words = omega arith in z) ∙ words_are.0

        k-is : k' ≡ copying_to k chunk (get_or ws (directory_word chunk) 0) (lines_of (power_in k) ws chunk) first k.least f
        k-is = rw (a.old-is, a.lines-is)

        plain : first < sole_mark
        plain = let h = a.below in omega arith

        below : NoneBelow (power_in k) (chunks_in (power_in k) k.image) ws first k.least
        below d l u m = r.hint.below d l (let h = a.below in omega arith) m

        acts-are : clean_actions k' g b' ≡ append_to (power_in k) ws (encode_all kept) chunk ++ free s ws
        acts-are =
            ap (λ (x : Setup). clean_actions x g b') k-is
            ∙ copies-acts c k b ws table r s q.low q.high f.words f.entries q.room b' gathered.area.above f a.log a.some-kept written chunk a.found first k.least below a.under plain

        olds-are : clean_olds k' g ≡ old_of ws chunk ∷ old_of ws s ∷ []
        olds-are =
            ap (λ (x : Setup). clean_olds x g) k-is
            ∙ copies-olds c k b ws table r s q.low q.high f.words f.entries q.room b' gathered.area.above f a.log a.some-kept written chunk a.found first k.least below a.under plain

        reads : Reads (record { control = cleaning c; setup = k'; buffer = b' }) (clean_olds k' g) (clean_actions k' g b') ws table
        reads =
            subst (λ (x : Setup). Reads (record { control = cleaning c; setup = x; buffer = b' }) (clean_olds x g) (clean_actions x g b') ws table) (sym k-is)
            (copies-reads c k b ws table r s q.low q.high f.words f.entries q.room b' gathered.area.above f a.log a.some-kept written chunk a.found first k.least below a.under plain)

        plan : plan_clean (power_in k) n ws es [] s ≡ Begin [] (Cleaning f.entries (clean_olds k' g)) (clean_actions k' g b')
        plan = rw (acts-are, olds-are, a.entries) (plan-copies (size_in k) n ws es s q.low q.high q.used a.log a.some-kept chunk a.found)

        fit : CleanFits (cleaning c) k' g b' ws table (nth (clean_actions k' g b') 0 ∷ drop 1 (clean_actions k' g b'))
        fit = rw k-is (copies-fit c k b ws table r s q.low q.high f.words f.entries q.room b' gathered.area.above f a.log a.some-kept written chunk a.found first k.least below a.under plain)

    -- THE BEGIN, where it keeps some, and they were gathered
    pub begins-copies : (f.words ≡ 0 → ⊥) → Begun c k' f b' ws table es n s actions
    begins-copies z = go q.how
      where
        go : Copies (size_in k) ws es n s chunk old lines (k.first % sole_mark) first f ⊎ Bare (size_in k) ws es s chunk old lines (k.first % sole_mark) first f → Begun c k' f b' ws table es n s actions
        go (inl a) = begun-copies a
        go (inr a) = absurd (z a.words)
