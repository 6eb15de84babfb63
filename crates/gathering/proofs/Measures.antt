-- The pass that measures: one entry, and what is left from a cursor on.
-- Assumes nothing.
use Rattle.std.proofs.Common.{◌≡◌, ℕ, suc, ◌+◌, ◌<◌, ◌≤◌, Bool, true, false, List, [], ◌∷◌, ◌++◌, length, sym, refl, ◌∙◌, inl, inr, arith, length-append}
use lib.Seq.{slice}
use Rattle.spec.specs.declared.Size.{Size}
use Rattle.places.specs.Sizes.{power_of}
use Rattle.spec.specs.Places.{chunk_words}
use Rattle.spec.specs.Basics.{filter}
use Rattle.spec.specs.Log.{Entry, step_of, encode, encode_all}
use Rattle.spec.specs.declared.LogStep.TheVariants as S
use Rattle.theory_log.proofs.Contents.{mem-l, mem-r}
use Rattle.theory_log.proofs.Parse.{cons_inv}
use Rattle.logs.specs.declared.Cursor.{Cursor}
use Rattle.logs.specs.declared.Entry as F
use Rattle.logs.specs.declared.ShortPut.{ShortPut}
use Rattle.logs.specs.Stands.{entry_in}
use Rattle.logs.specs.Cursor.{cursor_at, remaining, with_value, Handed}
use Rattle.logs.proofs.Walk.{next-found}
use Rattle.forward.proofs.Walks.{Left, from-here, Ended, one_left}
use Rattle.gathering.specs.declared.measure.Tally.{Tally}
use Rattle.gathering.specs.Measuring.{Gatherable, Decided, KeptTest, kept_test, Room, Weighing, OneWeighed, Hastened, Measured}
use Rattle.gathering.proofs.Leaves.{place-most}
use Rattle.gathering.proofs.SizeWords.{few_words, kept-words}

-- ## One entry

module _ (size : Size) (test : Entry → Bool) (mid left : List Entry) (t : Tally) (e : Entry) (o : Weighing test mid t (e ∷ left)) where
  weighing-skip : test e ≡ false → Weighing test mid t left
  weighing-skip h = record { words = o.words ∙ rw h; count = o.count ∙ rw h; inside = λ f m. o.inside f (inr m) }

  module _ (h : test e ≡ true) where
    with-words : length (encode_all (filter test mid)) ≡ t.words + (2 + length e.value + length (encode_all (filter test left)))
    with-words =
        let a = length-append e.value (encode_all (filter test left)) in
        let b : length (encode_all (filter test mid)) ≡ t.words + length (encode e ++ encode_all (filter test left)) = o.words ∙ rw h in
        omega arith

    with-count : length (filter test mid) ≡ t.entries + suc (length (filter test left))
    with-count = o.count ∙ rw h

    weighing-take : (n : ℕ) → n ≡ 2 + length e.value → Weighing test mid (record { words = t.words + n; entries = t.entries + 1 }) left
    weighing-take n is = record {
      words = let a = with-words in omega arith;
      count = let c = with-count in omega arith;
      inside = λ f m. o.inside f (inr m);
    }

    weighing-room : length (encode_all (filter test mid)) ≤ chunk_words (power_of size) → (t.words + (2 + length e.value) ≤ chunk_words (power_of size)) × (t.entries < chunk_words (power_of size))
    weighing-room l = let a = with-words in let c = with-count in let f = few_words (filter test mid) in (omega arith, omega arith)

module _ (size : Size) (t : Tally) (place value : ℕ) where
  pub weigh-not : OneWeighed size t false place value t
  weigh-not = record { bound = λ l. l; adds = λ ws table at end keys xs mid ys left e g h ea ev o. weighing-skip size (kept_test xs mid ys) mid left t e o (sym h) }

  pub weigh-full : Room size t.words t.entries place value false → OneWeighed size t true place value t
  weigh-full r = record {
    bound = λ l. l;
    adds = λ ws table at end keys xs mid ys left e g h ea ev o.
        let f = weighing-room size (kept_test xs mid ys) mid left t e o (sym h) (kept-words size ws table keys at end xs mid ys g) in
        let p = (g.small.each e (mem-r e xs (mid ++ ys) (mem-l e mid ys (o.inside e (inl refl))))).place-high in
        let w = place-most size in
        let x = f.0 in
        let y = f.1 in
        absurd (r.lacks refl (omega arith) (omega arith) (omega arith));
  }

  pub weigh-kept : Room size t.words t.entries place value true → OneWeighed size t true place value (record { words = t.words + (2 + value); entries = t.entries + 1 })
  weigh-kept r = record {
    bound = λ l. (r.fits refl).0;
    adds = λ ws table at end keys xs mid ys left e g h ea ev o. weighing-take size (kept_test xs mid ys) mid left t e o (sym h) (2 + value) (omega arith);
  }

-- ## The pass

pub record MeasuresOn (size : Size) (ws table : List ℕ) (at end : ℕ) (t : Tally) (c : Cursor) : Type 0 where
  pub bound : t.words ≤ chunk_words (power_of size)
  pub goes : (keys : ℕ) (xs mid ys : List Entry) → Gatherable size ws table keys at end xs mid ys → (left : List Entry) × Left size ws c left × Weighing (kept_test xs mid ys) mid t left

pub measures-start : (size : Size) → (ws table : List ℕ) (at end : ℕ) → MeasuresOn size ws table at end (record { words = 0; entries = 0 }) (cursor_at 0 at end)
measures-start size ws table at end = record {
  bound = omega arith;
  goes = λ keys xs mid ys g. (mid, from-here size ws at end ∙ g.here, record { words = omega arith; count = omega arith; inside = λ e m. m });
}

-- a run of puts: at its beginning, after one more, and what it comes to
module _ (size : Size) (ws table : List ℕ) (until from : ℕ) (t : Tally) where
  pub run-start : Hastened size ws table until from t from t
  run-start = record { nearer = λ n c. omega arith; bound = λ l. l; passes = λ c at end keys xs mid ys es g is o. (es, is, o) }

  module _ (a : ℕ) (s : Tally) (so : Hastened size ws table until from t a s) where
    pub run_more : (put : ShortPut) → step_of (slice a until ws) ≡ S.Entry 1 0 put.version put.field put.key put.words → (counts : List ℕ) (kept : Bool) → KeptTest size table counts 1 put.key a kept → (s' : Tally) → OneWeighed size s kept a put.words s'
        → Hastened size ws table until from t (a + (2 + put.words)) s'
    run_more put q counts kept test s' one = record {
      nearer = λ n c. let f = (next-found (power_of size) n ws c a until 1 0 put.version put.field put.key put.words q).falls in let g = so.nearer n c in omega arith;
      bound = λ l. one.bound (so.bound l);
      passes = λ c at end keys xs mid ys es g is o.
          let p = so.passes c at end keys xs mid ys es g is o in
          let h = next-found (power_of size) 0 ws c a until 1 0 put.version put.field put.key put.words q in
          let e = entry_in ws 1 0 put.version put.field put.key put.words a in
          let u = cons_inv e (remaining (power_of size) 0 ws (cursor_at c (a + (2 + put.words)) until)) p.0 (sym h.whole ∙ p.1) in
          let w : Weighing (kept_test xs mid ys) mid s (e ∷ u.0) = rw u.2 at p.2 in
          let is-kept = test.kept ws at end keys xs mid ys e g (inl refl) (w.inside e (inl refl)) refl refl refl in
          (u.0, u.1, one.adds ws table at end keys xs mid ys u.0 e g is-kept refl (h.stands.right.words ∙ sym h.size) w);
    }

    pub run-measures : (at end c : ℕ) → MeasuresOn size ws table at end t (cursor_at c from until) → MeasuresOn size ws table at end s (cursor_at c a until)
    run-measures at end c inv = record {
      bound = so.bound inv.bound;
      goes = λ keys xs mid ys g. let q = inv.goes keys xs mid ys g in so.passes c at end keys xs mid ys q.0 g q.1 q.2;
    }

module _ (size : Size) (ws table : List ℕ) (at end : ℕ) (t : Tally) (c : Cursor) (inv : MeasuresOn size ws table at end t c) where
  pub measures-end : Ended size ws c → Measured size ws table at end t
  measures-end d = record {
    bound = inv.bound;
    measures = λ keys xs mid ys g.
        let q = inv.goes keys xs mid ys g in
        let o : Weighing (kept_test xs mid ys) mid t [] = rw (d q.0 q.1) at q.2 in
        (let w = o.words in omega arith, let n = o.count in omega arith);
  }

  pub measures-next : (f : F.Entry) → Handed (power_of size) 0 ws c f → (counts : List ℕ) → Decided size ws table counts at end f.op f.key → (kept : Bool) → KeptTest size table counts f.op f.key f.place kept
      → (t' : Tally) → OneWeighed size t kept f.place f.words t' → MeasuresOn size ws table at end t' f.behind
  measures-next f h counts decided kept test t' one = record {
    bound = one.bound inv.bound;
    goes = λ keys xs mid ys g.
        let q = inv.goes keys xs mid ys g in
        let o = one_left size ws c q.0 q.1 f h in
        let e = with_value ws f in
        let w : Weighing (kept_test xs mid ys) mid t (e ∷ o.0) = rw o.2 at q.2 in
        let is = test.kept ws at end keys xs mid ys e g decided (w.inside e (inl refl)) refl refl refl in
        (o.0, o.1, one.adds ws table at end keys xs mid ys o.0 e g is refl (h.stands.right.words ∙ sym h.size) w);
  }
