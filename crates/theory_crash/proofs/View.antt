-- What look-up reads while a call is unfinished: the words with the directory words put back that the call stores to.
-- They say what the image before the call says, after every action, since all else that the call stores is needed by
-- nobody.
-- Assumes nothing.
use mathlib.Core.Path.{◌≡◌, refl, sym, ◌∙◌, ap}
use mathlib.Core.Logic.{◌⊎◌, inl, inr}
use mathlib.Core.Bool.{Bool, true, false}
use mathlib.Core.Option.{Option, none, some}
use mathlib.Core.List.{List, [], ◌∷◌, ◌++◌}
use Prim.Native.Nat.{ℕ, ◌+◌, ◌*◌, ◌≤◌, ◌<◌}
use native.Mathlib.Omega.{arith}
use native.Mathlib.Decide.{ℕ_discrete}
use lib.Dec.{eqb}
use lib.ListN.{length, get_or, set, length-set}
use lib.Seq.{get_or-set_same, get_or-set_other}
use Rattle.spec.specs.Basics.{pick}
use Rattle.spec.specs.Places.{chunk_words, chunk_units, base, first_line, first_unit, unit_chunk, unit_word, line_of, directory_word, max_chunks}
use Rattle.spec.specs.Medium.{Action, Store, Flush, Fence, Medium, apply, latest}
use Rattle.spec.specs.Directory.{lines_of, size_of, log_word, is_free, role_at}
use Rattle.spec.specs.Log.{Entry}
use Rattle.spec.specs.Blocks.{pointed}
use Rattle.spec.specs.Contents.{chosen, entries_in, listed}
use Rattle.spec.specs.Actions.{lines_for, padded, writes, flushes, body_of, seal_of, commit_of, append_of, block_of}
use Rattle.spec.specs.Plans.{Olds, put_back, part_of, part_or, look_up}
use Rattle.spec.specs.declared.Refusal.TheVariants as N
use Rattle.spec.specs.declared.Report.{Report}
use Rattle.spec.specs.declared.Report.TheVariants as R
use Rattle.theory_base.proofs.Words as W
use Rattle.theory_base.proofs.PutBack.{Hit, AreOf, AreLow, back-other, back-hit, back_start, hit-low}
use Rattle.theory_base.proofs.Through.{Through, Each}
use Rattle.theory_base.proofs.Places.{lines-words, past-directory, block_in, units-words, units-base}
use Rattle.theory_log.proofs.Directory.{lines-is, size_is}
use Rattle.theory_log.proofs.Tops.{chosen-top}
use Rattle.theory_crash.specs.Accepted.{Calm, Ok, Support, Framed}
use Rattle.theory_crash.specs.Batch.{Place}
use Rattle.theory_crash.specs.Stage.{Slot}
use Rattle.theory_crash.proofs.Frame.{frame-ok, chunk_in}
use Rattle.theory_crash.proofs.Blocks.{needs-first}
use Rattle.theory_crash.proofs.Rest.{latest-quiet}
use Rattle.theory_crash.proofs.Cells.{each_append, each-writes, each-flushes}
use Rattle.theory_crash.proofs.Body.{free-area}
use Rattle.theory_crash.proofs.Stage.{free-block}
use Rattle.theory_crash.proofs.Directory.{free-says}
use Rattle.theory_crash.proofs.Append.{padded-length}

module _ (p : ℕ) (lo : 12 ≤ p) (hi : p ≤ 16) (n : ℕ) (ws : List ℕ) (es : List Entry) (ok : Ok p n ws es) where
  own-framed : Framed p n ws es ws
  own-framed = record { long = refl; same = λ k s. refl; calm = λ c l z. (ok.dirs c l, sym (lines-is p ws c) ∙ z) }

  -- one more store that nobody needs
  framed-store : (vs : List ℕ) (a v : ℕ) → Framed p n ws es vs → a < length ws → (Support p n ws es a → ⊥) → ((c : ℕ) → c < max_chunks → a ≡ directory_word c → Calm p n c v) → Framed p n ws es (set vs a v)
  framed-store vs a v f inside out says = record {
    long = length-set vs a v ∙ f.long;
    same = λ k s. get_or-set_other vs a k v 0 (λ e. out (rw e at s)) ∙ f.same k s;
    calm = λ c l z. calm' c l z (ℕ_discrete (directory_word c) a);
  }
    where
      calm' : (c : ℕ) → c < max_chunks → lines_of p ws c ≡ 0 → Dec (directory_word c ≡ a) → Calm p n c (get_or (set vs a v) (directory_word c) 0)
      calm' c l z (yes e) = rw (e, get_or-set_same vs a v 0 (rw f.long inside)) (says c l (sym e))
      calm' c l z (no e) = rw (get_or-set_other vs a (directory_word c) v 0 e) (f.calm c l z)

  -- ## After every action

  -- what look-up reads says what ws says
  abbrev pub Seen : Olds → List ℕ → Type 0
  Seen olds vs = Framed p n ws es (put_back olds vs)

  -- an action stores to a word that is put back, or to one that nobody needs; there, if it is a directory word, one
  -- that says free or data
  abbrev pub Shy : Olds → Action → Type 0
  Shy olds (Store a v) = Hit a olds ⊎ ((Hit a olds → ⊥) × ((a < length ws) × ((Support p n ws es a → ⊥) × ((c : ℕ) → c < max_chunks → a ≡ directory_word c → Calm p n c v))))
  Shy olds (Flush l) = Unit {0}
  Shy olds Fence = Unit {0}

  seen-kept : (olds : Olds) (a : Action) (m : Medium) → Shy olds a → Seen olds (latest m) → Seen olds (latest (apply a m))
  seen-kept olds (Store a v) m (inl h) f = rw (W.latest-store a v m, back-hit olds a v (latest m) h) f
  seen-kept olds (Store a v) m (inr (o, (i, (out, says)))) f = rw (W.latest-store a v m, back-other olds a v (latest m) o) (framed-store (put_back olds (latest m)) a v f i out says)
  seen-kept olds (Flush l) m s f = rw (latest-quiet (Flush l) m tt) f
  seen-kept olds Fence m s f = rw (latest-quiet Fence m tt) f

  pub seen-through : (olds : Olds) (acts : List Action) (m : Medium) → latest m ≡ ws → AreOf ws olds → Each (Shy olds) acts → Through (λ m'. Seen olds (latest m')) (λ m'. Seen olds (latest m')) acts m
  seen-through olds acts m now of shy = go acts m shy (rw (now, back_start olds ws of) own-framed)
    where
      go : (acts : List Action) (m : Medium) → Each (Shy olds) acts → Seen olds (latest m) → Through (λ m'. Seen olds (latest m')) (λ m'. Seen olds (latest m')) acts m
      go [] m shy f = f
      go (a ∷ rest) m shy f = (f, go rest (apply a m) shy.1 (seen-kept olds a m shy.0 f))

  -- ## What is read

  module _ (vs : List ℕ) (f : Framed p n ws es vs) where
    part_same : (e : Entry) → (pointed e ≡ true → get_or vs (unit_word e.field) 0 ≡ get_or ws (unit_word e.field) 0) → part_of vs e ≡ part_of ws e
    part_same e h = go (pointed e) h
      where
        go : (q : Bool) → (q ≡ true → get_or vs (unit_word e.field) 0 ≡ get_or ws (unit_word e.field) 0)
            → pick q (R.Part (8 * (unit_word e.field + 1)) (get_or vs (unit_word e.field) 0) e.version) (R.Part (8 * (e.at + 2)) e.field e.version)
            ≡ pick q (R.Part (8 * (unit_word e.field + 1)) (get_or ws (unit_word e.field) 0) e.version) (R.Part (8 * (e.at + 2)) e.field e.version)
        go true s = ap (λ (x : ℕ). R.Part (8 * (unit_word e.field + 1)) x e.version) (s refl)
        go false s = refl

    -- the very answer: the same place and length
    pub seen-looks : (k : ℕ) → look_up vs (entries_in p n vs) k ≡ look_up ws (entries_in p n ws) k
    unfolding look_up
    seen-looks k =
        ap (λ (l : List Entry). part_or vs (chosen k l)) (ap listed (frame-ok p lo hi n ws es vs ok f).parsed)
        ∙ go (chosen k es) refl
        ∙ sym (ap (λ (l : List Entry). part_or ws (chosen k l)) (ap listed ok.parsed))
      where
        go : (q : Option Entry) → chosen k es ≡ q → part_or vs q ≡ part_or ws q
        go none c = refl
        go (some e) c =
            ap (λ (r : Report). pick (eqb e.op 1) r (R.Refused N.KeyAbsent)) (part_same e (λ q. f.same (unit_word e.field) (inr (inr (inr (e, chosen-top k es e c, needs-first p ws e q))))))

  -- ## The calls' actions

  module _ (olds : Olds) (low : AreLow olds) where
    -- a word of a chunk that nobody needs
    far-shy : (a v : ℕ) → max_chunks + 8 ≤ a → a < length ws → (Support p n ws es a → ⊥) → Shy olds (Store a v)
    far-shy a v far inside out = inr (
      (λ h. let q = hit-low olds a low h in omega arith),
      (inside, (out, λ c l e. absurd (omega arith))),
    )

    pub seal-shy : (c w : ℕ) → Hit (directory_word c) olds → Each (Shy olds) (seal_of c w)
    seal-shy c w h = (inl h, (tt, (tt, tt)))

    -- behind the committed lines of a chunk that is no data chunk
    area-shy : (d l : ℕ) → 1 ≤ d → d < n → size_of p ws d ≡ 0 → lines_of p ws d ≡ l → (k v : ℕ) → base p d + 8 * l ≤ k → k < base p d + chunk_words p → Shy olds (Store k v)
    area-shy d l a b z e k v x y =
        let far = past-directory p lo hi d k a (omega arith) in
        far-shy k v (omega arith) (chunk_in p lo hi n ws es ok d k b y) (free-area p lo hi n ws es d ok a b z k (rw e x) y)

    pub append-shy : (d old : ℕ) (words : List ℕ) → Place p n d (lines_for (length words)) ws → Hit (directory_word d) olds → Each (Shy olds) (append_of p d old (lines_of p ws d) words)
    unfolding append_of commit_of body_of
    append-shy d old words place h =
        let q = lines-words p lo hi in
        let f = place.fit in
        let e = padded-length words in
        each_append (Shy olds) (body_of p d (lines_of p ws d) (lines_for (length words)) (padded words)) (seal_of d (log_word old (lines_of p ws d + lines_for (length words))))
        (each_append (Shy olds) (writes (base p d + 8 * lines_of p ws d) (padded words)) (flushes (first_line p d + lines_of p ws d) (lines_for (length words)) ++ (Fence ∷ []))
        (each-writes (Shy olds) (base p d + 8 * lines_of p ws d) (padded words) (λ k v x y. area-shy d (lines_of p ws d) place.low place.high place.no-data refl k v x (omega arith)))
        (each_append (Shy olds) (flushes (first_line p d + lines_of p ws d) (lines_for (length words))) (Fence ∷ []) (each-flushes (Shy olds) (first_line p d + lines_of p ws d) (lines_for (length words)) (λ x. tt)) (tt, tt)))
        (seal-shy d (log_word old (lines_of p ws d + lines_for (length words))) h)

    -- a block of words that nobody needs
    pub block-shy : (u : ℕ) (words : List ℕ) → ((k v : ℕ) → unit_word u ≤ k → k < unit_word u + length words → Shy olds (Store k v)) → Each (Shy olds) (block_of u words)
    unfolding block_of
    block-shy u words h =
        each_append (Shy olds) (writes (unit_word u) words) _ (each-writes (Shy olds) (unit_word u) words h)
        (each-flushes (Shy olds) (line_of (unit_word u)) (lines_for (length words)) (λ x. tt))

    pub slot-shy : (u s : ℕ) (words : List ℕ) → Slot p n ws es u s → length words ≤ 32 * s → Each (Shy olds) (block_of u words)
    slot-shy u s words sl fit = block-shy u words (λ k v x y.
        let i = block_in p lo hi u s k sl.ends x (omega arith) in
        let far = past-directory p lo hi (unit_chunk p u) k sl.low i.0 in
        far-shy k v (omega arith) (chunk_in p lo hi n ws es ok (unit_chunk p u) k sl.high i.1) (free-block p lo hi n ws es u s ok sl k x (omega arith)))

    -- the first block of a free chunk
    pub free-shy : (c s : ℕ) (words : List ℕ) → 1 ≤ c → c < n → is_free (role_at p ws c) ≡ true → s ≤ chunk_units p → length words ≤ 32 * s → Each (Shy olds) (block_of (first_unit p c) words)
    free-shy c s words a b free most fit = block-shy (first_unit p c) words (λ k v x y.
        let z = units-words p lo hi in
        let g = units-base p lo hi c in
        let r = free-says (role_at p ws c) free in
        area-shy c 0 a b (size_is p ws c ∙ r.1) (lines-is p ws c ∙ r.0) k v (omega arith) (omega arith))
