-- What the record says of its batch and of memory stays so where the staged words do; a commit whose actions are done
-- leaves memory at rest.
-- Assumes nothing.
use mathlib.Core.Path.{◌≡◌, refl, ◌∙◌, ap}
use mathlib.Core.List.{List, [], ◌∷◌, ◌++◌, map}
use Prim.Native.Nat.{ℕ, ◌+◌, ◌/◌, ◌<◌, min}
use native.Mathlib.Omega.{arith}
use lib.ListN.{length, get_or, length-set}
use Rattle.spec.specs.Medium.{Action, Store, Flush, Fence}
use Rattle.spec.specs.Reports.{as_report, words_after}
use Rattle.spec.specs.Plans.{Olds}
use Rattle.spec.specs.Places.{chunks_in}
use Rattle.spec.specs.declared.Size.{Size}
use Rattle.spec.specs.Log.{Entry, moved, placed, parse}
use Rattle.spec.specs.Contents.{listed}
use Rattle.spec.specs.Actions.{append_of}
use Rattle.session.specs.declared.Control.{Control}
use Rattle.session.specs.declared.Setup.{Setup}
use Rattle.session.specs.declared.Session.{Session}
use Rattle.buffer.specs.Bits.{FrontKept}
use Rattle.buffer.specs.Areas.{batch_room, filter_place}
use Rattle.session.specs.State.{size_in, power_in, batch_words, batch_items, chunk_in, lines_in, commit_actions}
use Rattle.session.specs.Numbers.{ended_empty, ended}
use Rattle.session.specs.Fits.{NoneBelow, sole_mark, Hint, ItemsFit, BatchFits, Built, RestFits, batch_place, CommitFits, Shown, Reads}
use Rattle.theory_base.proofs.PutBack.{AreLow}
use Rattle.session.proofs.Part.{part-agree}

-- THE STAGED WORDS stay where the buffer's first words do.
pub words-kept : (c c' : Control) (b b' : List ℕ) → FrontKept b b' → c'.words ≡ c.words → batch_words c' b' ≡ batch_words c b
unfolding batch_words
words-kept c c' b b' w e = rw e (part-agree b' b 0 (min c.words batch_room) (λ j l u. w.below j (omega arith)))

-- so do the items that they say, and a commit's actions
pub same-items : (c c' : Control) (b b' : List ℕ) → batch_words c' b' ≡ batch_words c b → batch_items c' b' ≡ batch_items c b
unfolding batch_items
same-items c c' b b' e = ap (λ (l : List ℕ). map (moved 0) (listed (parse l 0 0))) e

pub same-acts : (c c' : Control) (k : Setup) (b b' : List ℕ) → batch_words c' b' ≡ batch_words c b → commit_actions c' k b' ≡ commit_actions c k b
unfolding commit_actions
same-acts c c' k b b' e = ap (append_of (power_in k) (chunk_in k) k.old (lines_in k)) e

-- no items
pub none-fit : (p n : ℕ) (ws : List ℕ) (es : List Entry) → ItemsFit p n ws es []
none-fit p n ws es = record { blocks = λ e m. absurd m; dead = λ e f m. absurd m; own = λ e f m. absurd m }

-- a batch in another record with the same words, items and filter, and as many keys
pub batch-kept : (c c' : Control) (b b' : List ℕ) (p n : ℕ) (ws : List ℕ) (es items : List Entry) → c'.words ≡ c.words → c'.items ≡ c.items → batch_words c' b' ≡ batch_words c b
    → get_or b' filter_place 0 ≡ get_or b filter_place 0 → c'.keys + c'.fresh ≡ c.keys + c.fresh → BatchFits c b p n ws es items → BatchFits c' b' p n ws es items
batch-kept c c' b b' p n ws es items ew ei e em ek f = record {
  room = rw ew f.room;
  written = e ∙ f.written;
  count = ei ∙ f.count;
  few = f.few;
  right = f.right;
  counts = f.counts;
  fit = f.fit;
  marked = rw em f.marked;
  keys = ek ∙ f.keys;
}

pub built-kept : (c c' : Control) (size : Size) (b table : List ℕ) (es : List Entry) → c'.keys ≡ c.keys → Built c size b table es → Built c' size b table es
built-kept c c' size b table es e f = record { indexed = rw e f.indexed; blocks = f.blocks; sums = f.sums }

-- WHAT LOOK-UP READS, at a begin, and after an action that is not the last
pub reads-from : (s : Session) (olds : Olds) (es : List Entry) (acts : List Action) (ws table : List ℕ) → AreLow olds → length ws ≡ s.setup.image / 8
    → Shown (power_in s.setup) s.setup.image s.setup.table olds es acts ws → Built s.control (size_in s.setup) s.buffer table es → Reads s olds acts ws table
reads-from s olds es [] ws table low long shown built = tt
reads-from s olds es (a ∷ rest) ws table low long shown built = record { entries = es; low = low; long = long; shown = shown; built = built }

words_long : (a : Action) (ws : List ℕ) → length (words_after (as_report a) ws) ≡ length ws
words_long (Store w v) ws = length-set ws w v
words_long (Flush l) ws = refl
words_long Fence ws = refl

pub reads_kept : (c c' : Control) (k : Setup) (b table ws : List ℕ) (olds : Olds) (a : Action) (rest : List Action) → c'.keys ≡ c.keys
    → Reads (record { control = c; setup = k; buffer = b }) olds (a ∷ rest) ws table → Reads (record { control = c'; setup = k; buffer = b }) olds rest (words_after (as_report a) ws) table
reads_kept c c' k b table ws olds a rest e r =
    reads-from (record { control = c'; setup = k; buffer = b }) olds r.entries rest (words_after (as_report a) ws) table r.low (words_long a ws ∙ r.long) r.shown.1 (built-kept c c' (size_in k) b table r.entries e r.built)

-- a hint that says nothing of the chunks behind it
pub plain-hint : (p n : ℕ) (ws : List ℕ) (first least : ℕ) → first < sole_mark → NoneBelow p n ws first least → Hint p n ws first least
plain-hint p n ws first least l h =
    record { below = λ c a b m. h c a (omega arith) m; above = λ s. absurd (omega arith); taken = λ s. absurd (omega arith) }

module _ (c : Control) (k : Setup) (b ws table : List ℕ) (items : List Entry) where
  abbrev s : Session
  s = record { control = c; setup = k; buffer = b }

  -- A COMMIT'S END
  pub end_kept : CommitFits s ws table items [] → RestFits (record { control = ended_empty c; setup = k; buffer = b }) ws table []
  unfolding batch_words
  end_kept f =
      let n = f.built.indexed.count in
      let r = f.table-room in
      record {
        entries = f.front ++ (placed (batch_place k) items ++ f.back);
        accepted = f.accepted;
        long = f.long;
        lent = f.lent;
        built = record { indexed = f.built.indexed; blocks = f.built.blocks; sums = f.built.sums };
        batch = record { room = omega arith; written = refl; count = refl; few = omega arith; right = tt; counts = tt; fit = none-fit (power_in k) (chunks_in (power_in k) k.image) ws (f.front ++ (placed (batch_place k) items ++ f.back)); marked = tt; keys = omega arith };
        table-room = omega arith;
        hint = f.hint;
      }

  -- A STAGING'S END
  pub staging-kept : RestFits s ws table items → RestFits (record { control = ended c; setup = k; buffer = b }) ws table items
  unfolding batch_words
  staging-kept f = record {
    entries = f.entries;
    accepted = f.accepted;
    long = f.long;
    lent = f.lent;
    built = record { indexed = f.built.indexed; blocks = f.built.blocks; sums = f.built.sums };
    batch = batch-kept c (ended c) b b (power_in k) (chunks_in (power_in k) k.image) ws f.entries items refl refl refl refl refl f.batch;
    table-room = f.table-room;
    hint = f.hint;
  }
