-- A run is answered alike at two stations with the same state and image, and they stay the same: a station reopened
-- runs as one that was never closed.
-- Assumes nothing.
use mathlib.Core.Path.{◌≡◌, sym, ◌∙◌, ap, subst}
use mathlib.Core.Bool.{false}
use mathlib.Core.List.{List}
use Prim.Native.Nat.{ℕ, zero, suc}
use native.Mathlib.Omega.{arith}
use lib.ListN.{length}
use Rattle.spec.specs.Words.{AreBytes, words_of}
use Rattle.spec.specs.Machine.{State, Step, answer, next}
use Rattle.spec.specs.Contract.{odd_bytes, Changed, Exact}
use Rattle.spec.specs.declared.Report.{Report}
use Rattle.spec.specs.declared.Report.TheVariants as R
use Rattle.theory_histories.proofs.Bytes.{same_bytes}
use Rattle.session.specs.State.{state_of}
use Rattle.session.specs.Fits.{Proper, Fits}
use Rattle.session.specs.Promise.{Memory, Does}
use Rattle.running.specs.Run.{Ran, is_store, RunsOn}
use Rattle.inspect.proofs.KeysAlike.{SameIn, count_in, counts-alike}

-- What two stations have in common between the steps of a run, of whose images nothing says there that they are bytes:
-- the words, and the bytes that belong to none.
record Near (m l : Memory) : Type 0 where
  words : words_of m.image ≡ words_of l.image
  odd : odd_bytes m.image ≡ odd_bytes l.image
  long : length m.image ≡ length l.image
  state : state_of m.session ≡ state_of l.session
  lengths : length m.table ≡ length l.table
  fits : Fits m.session (words_of m.image) m.table
  also : Fits l.session (words_of l.image) l.table

-- the same report on images alike leaves images alike
changed-near : (r : Report) (image other image' other' : List ℕ) → words_of image ≡ words_of other → odd_bytes image ≡ odd_bytes other → length image ≡ length other
    → Changed r image image' → Changed r other other' → (words_of image' ≡ words_of other') × ((odd_bytes image' ≡ odd_bytes other') × (length image' ≡ length other'))
changed-near (R.Refused n) image other image' other' w o l c d = rw (c, d) (w, (o, l))
changed-near (R.Begun n) image other image' other' w o l c d = rw (c, d) (w, (o, l))
changed-near (R.Store a v) image other image' other' w o l c d = (c.0 ∙ rw w (sym d.0), (c.2 ∙ o ∙ sym d.2, c.1 ∙ l ∙ sym d.1))
changed-near (R.Flush n) image other image' other' w o l c d = rw (c, d) (w, (o, l))
changed-near R.Fence image other image' other' w o l c d = rw (c, d) (w, (o, l))
changed-near (R.End n) image other image' other' w o l c d = rw (c, d) (w, (o, l))
changed-near R.Idle image other image' other' w o l c d = rw (c, d) (w, (o, l))
changed-near R.Opened image other image' other' w o l c d = rw (c, d) (w, (o, l))
changed-near R.Abandoned image other image' other' w o l c d = rw (c, d) (w, (o, l))
changed-near (R.Chosen n) image other image' other' w o l c d = rw (c, d) (w, (o, l))
changed-near (R.Part a n v) image other image' other' w o l c d = rw (c, d) (w, (o, l))

-- answer and next state are functions of what is alike
alike-in : {A : Type 0} (f : State → List ℕ → ℕ → ℕ → A) (m l : Memory) → Near m l
    → f (state_of m.session) (words_of m.image) (length m.image) (length m.table) ≡ f (state_of l.session) (words_of l.image) (length l.image) (length l.table)
alike-in f m l n = rw (n.state, n.words, n.long, n.lengths)

-- a step
step-near : (m l m' l' : Memory) (r q : Report) → Near m l → Does Step m m' r → Does Step l l' q → (r ≡ q) × Near m' l'
step-near m l m' l' r q n c d =
    let x : Exact Proper state_of Fits Step m.session m'.session m.image m'.image m.table m'.table r = c.exact n.fits in
    let y : Exact Proper state_of Fits Step l.session l'.session l.image l'.image l.table l'.table q = d.exact n.also in
    let e : r ≡ q = x.answered ∙ alike-in (answer Step) m l n ∙ sym y.answered in
    let i = changed-near r m.image l.image m'.image l'.image n.words n.odd n.long c.image (rw e d.image) in (
      e,
      record {
        words = i.0;
        odd = i.1.0;
        long = i.1.1;
        state = x.became ∙ alike-in (next Step) m l n ∙ sym y.became;
        lengths = c.sized ∙ n.lengths ∙ sym d.sized;
        fits = x.fits;
        also = y.fits;
      },
    )

-- a store is told of at both, or at neither
never-store : (r : Report) (w v : ℕ) → is_store r ≡ false → r ≡ R.Store w v → ⊥
never-store r w v h e = let t : is_store (R.Store w v) ≡ false = subst (λ (x : Report). is_store x ≡ false) e h in let z : ◌≡◌ {A = ℕ} 0 1 = cc in omega arith

runs-near : (i j : ℕ) (m l m' l' : Memory) (r q : Report) → Near m l → Ran i m m' r → Ran j l l' q → is_store r ≡ false → is_store q ≡ false → (r ≡ q) × Near m' l'
runs-near zero zero m l m' l' r q n c d f g = step-near m l m' l' r q n c d
runs-near zero (suc j) m l m' l' r q n c (l₁, (w, (v, (d, more)))) f g = absurd (never-store r w v f (step-near m l m' l₁ r (R.Store w v) n c d).0)
runs-near (suc i) zero m l m' l' r q n (m₁, (w, (v, (c, more)))) d f g = absurd (never-store q w v g (sym (step-near m l m₁ l' (R.Store w v) q n c d).0))
runs-near (suc i) (suc j) m l m' l' r q n (m₁, (w, (v, (c, more)))) (l₁, (w', (v', (d, others)))) f g =
    runs-near i j m₁ l₁ m' l' r q (step-near m l m₁ l₁ (R.Store w v) (R.Store w' v') n c d).1 more others f g

-- THE RUN. (An image is bytes.)
pub run-alike : (m l m' l' : Memory) (r q : Report) → AreBytes m'.image → AreBytes l'.image → SameIn m l → RunsOn m m' r → RunsOn l l' q → (r ≡ q) × SameIn m' l'
run-alike m l m' l' r q small also w ((i, x), f) ((j, y), g) =
    let start : Near m l = record { words = ap words_of w.bytes; odd = ap odd_bytes w.bytes; long = ap length w.bytes; state = w.state; lengths = w.lengths; fits = w.fits; also = w.also } in
    let end = runs-near i j m l m' l' r q start x y f g in
    let n : Near m' l' = end.1 in (
      end.0,
      record {
        bytes = same_bytes m'.image l'.image small also n.words n.odd;
        state = n.state;
        lengths = n.lengths;
        fits = n.fits;
        also = n.also;
      },
    )

-- so the known keys are counted alike behind it
pub runs-count : (m l m' l' : Memory) (r q : Report) → AreBytes m'.image → AreBytes l'.image → SameIn m l → RunsOn m m' r → RunsOn l l' q → count_in m' ≡ count_in l'
runs-count m l m' l' r q small also w d d' = counts-alike m' l' (run-alike m l m' l' r q small also w d d').1
