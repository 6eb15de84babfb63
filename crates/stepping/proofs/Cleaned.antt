-- Memory in a cleaning stays as the calls left it in every step: one action, the last with the chunk's entries leaving,
-- and the end.
-- Assumes nothing.
use mathlib.Core.Path.{◌≡◌, refl, ◌∙◌, ap}
use mathlib.Core.List.{List, [], ◌∷◌}
use Prim.Native.Nat.{ℕ, ◌+◌, ◌*◌, ◌/◌, ◌≤◌}
use native.Mathlib.Omega.{arith}
use lib.ListN.{length}
use Rattle.spec.specs.Places.{chunk_lines, base, word_chunk, chunks_in}
use Rattle.spec.specs.Medium.{Action}
use Rattle.spec.specs.Log.{Entry}
use Rattle.spec.specs.Contents.{capacity}
use Rattle.spec.specs.Actions.{lines_for}
use Rattle.spec.specs.Reports.{as_report, words_after}
use Rattle.session.specs.declared.Control.{Control}
use Rattle.session.specs.declared.Setup.{Setup}
use Rattle.theory_crash.specs.Accepted.{Ok}
use Rattle.places.specs.Sizes.{power-low, power-high}
use Rattle.theory_base.proofs.Places.{words-least, words-most, lines-words, chunk-of-word}
use Rattle.session.specs.State.{size_in, power_in, batch_words, chunk_in, source_in}
use Rattle.session.specs.Fits.{RestFits, batch_place, CleanFits}
use Rattle.session.proofs.OpensRight.{opens-right}
use Rattle.session.proofs.Part.{chunk_in_lem, lines-in}
use Rattle.session.proofs.Kept.{none-fit}
use Rattle.session.specs.Cleaned.{after}
use Rattle.apply.specs.Passes.{Emptied, Emptying, Holds}
use Rattle.forward.proofs.Freed.{opened-log}
use Rattle.session.specs.declared.Source.{Source}
use Rattle.stepping.specs.Ends.{Ends, acted}
use Rattle.forward.proofs.Cleaning.{action-length}
use Rattle.session.specs.Numbers.{ended_empty}

module _ (c : Control) (k : Setup) (f : Source) (b ws table : List ℕ) where
  lo : 12 ≤ power_in k
  lo = power-low (size_in k)

  hi : power_in k ≤ 16
  hi = power-high (size_in k)

  -- AN ACTION that is not the last
  pub action-kept : (x y : Action) (ys : List Action) → CleanFits c k f b ws table (x ∷ y ∷ ys) → CleanFits (acted c c.keys) k f b (words_after (as_report x) ws) table (y ∷ ys)
  action-kept x y ys t = record {
    xs = t.xs;
    mid = t.mid;
    ys = t.ys;
    as' = t.as';
    bs = t.bs;
    chunk = t.chunk;
    lines = t.lines;
    source = t.source;
    committed = t.committed;
    room = t.room;
    moves = t.moves;
    accepted = t.accepted;
    long = action-length x ws ∙ t.long;
    lent = t.lent;
    cleaned = t.cleaned;
    here = t.here;
    copied = t.copied;
    built = record { indexed = t.built.indexed; blocks = t.built.blocks; sums = t.built.sums };
    hint = t.hint;
  }

  -- THE LAST: the chunk's entries leave
  module _ (x : Action) (t : CleanFits c k f b ws table (x ∷ [])) (n at end from until : ℕ) (en : n ≡ chunks_in (power_in k) k.image) (ends : Ends k f at end from until) where
    abbrev ws' : List ℕ
    ws' = words_after (as_report x) ws

    abbrev out : List Entry
    out = after t.xs t.mid t.ys t.as' t.bs (batch_place k)

    long' : length ws' ≡ k.image / 8
    long' = action-length x ws ∙ t.long

    ok : Ok (power_in k) (chunks_in (power_in k) k.image) ws' out
    ok = (opens-right (power_in k) k.image k.table ws' out long' t.accepted).0

    lines-most : chunk_lines (power_in k) ≤ 1024
    lines-most = let w = words-most (power_in k) lo hi in let l = lines-words (power_in k) lo hi in omega arith

    at-is : at ≡ base (power_in k) f.chunk
    at-is = ends.at-is ∙ ap (base (power_in k)) (let h = t.source in let q : source_in f ≡ f.chunk = omega arith in q)

    end_is : end ≡ base (power_in k) f.chunk + 8 * f.lines
    end_is = let a = ends.end_is in let h = t.committed in let m = lines-most in let q = at-is in omega arith

    from_is : from ≡ batch_place k
    from_is =
        let a = ends.from_is in
        let q : base (power_in k) (chunk_in k) ≡ base (power_in k) k.chunk = ap (base (power_in k)) (chunk_in_lem k t.chunk) in
        let l = lines-in k t.lines in
        omega arith

    until-is : until ≡ batch_place k + 8 * lines_for f.words
    until-is = let a = ends.until-is in let h = t.room in let q = from_is in omega arith

    chunk-is : word_chunk (power_in k) at ≡ f.chunk
    chunk-is = let a = at-is in let w = words-least (power_in k) lo hi in chunk-of-word (power_in k) lo hi f.chunk at (omega arith) (omega arith)

    pub last-emptied : Emptied (size_in k) n ws' b table c.keys at end from until f.words t.xs t.mid t.ys t.as' t.bs
    last-emptied =
        rw (en, at-is, end_is, from_is, until-is) (record {
          cleaned = t.cleaned;
          moves = rw (← at-is, chunk-is) t.moves;
          here = t.here;
          copied = t.copied;
          most = ok.most;
          long = let q = ok.long in omega arith;
          accepted = rw t.lent (opened-log (size_in k) k.image (chunks_in (power_in k) k.image) ws' k.table out refl long' t.accepted);
          holds = record { indexed = t.built.indexed; blocks = t.built.blocks; sums = t.built.sums };
        })

    pub last-kept : (b' table' : List ℕ) (keys : ℕ) → Emptying (size_in k) n ws' b b' table table' c.keys at end from until f.words keys → CleanFits (acted c keys) k f b' ws' table' []
    last-kept b' table' keys e =
        let q : Holds (size_in k) b' table' keys out = rw from_is at (e.leaves t.xs t.mid t.ys t.as' t.bs last-emptied) in
        record {
          xs = t.xs;
          mid = t.mid;
          ys = t.ys;
          as' = t.as';
          bs = t.bs;
          chunk = t.chunk;
          lines = t.lines;
          source = t.source;
          committed = t.committed;
          room = t.room;
          moves = t.moves;
          accepted = t.accepted;
          long = long';
          lent = e.sized ∙ t.lent;
          cleaned = t.cleaned;
          here = t.here;
          copied = t.copied;
          built = record { indexed = q.indexed; blocks = q.blocks; sums = q.sums };
          hint = t.hint;
        }

  -- THE END: at rest with nothing staged
  pub end_kept : CleanFits c k f b ws table [] → RestFits (record { control = ended_empty c; setup = k; buffer = b }) ws table []
  unfolding batch_words
  end_kept t =
      let n = t.built.indexed.count in
      let h = t.built.indexed.fits in
      let l = t.lent in
      let r : c.keys ≤ capacity k.table = rw l at h in
      record {
        entries = after t.xs t.mid t.ys t.as' t.bs (batch_place k);
        accepted = t.accepted;
        long = t.long;
        lent = t.lent;
        built = record { indexed = t.built.indexed; blocks = t.built.blocks; sums = t.built.sums };
        batch = record { room = omega arith; written = refl; count = refl; few = omega arith; right = tt; counts = tt; fit = none-fit (power_in k) (chunks_in (power_in k) k.image) ws (after t.xs t.mid t.ys t.as' t.bs (batch_place k)); marked = tt; keys = omega arith };
        table-room = omega arith;
        hint = t.hint;
      }
