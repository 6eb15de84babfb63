-- What the code of a cleaning's step shows at each return is what the contract says.
-- Assumes nothing.
use mathlib.Core.Path.{◌≡◌, refl, sym, ◌∙◌, ap}
use mathlib.Core.Logic.{inl, inr}
use mathlib.Core.List.{List, [], ◌∷◌}
use Prim.Native.Nat.{ℕ, ◌+◌, ◌*◌, ◌≤◌, ◌<◌, min}
use native.Mathlib.Omega.{arith}
use lib.ListN.{drop}
use Rattle.spec.specs.Places.{base, chunks_in}
use Rattle.spec.specs.declared.Size.{Size}
use Rattle.places.specs.Sizes.{power_of}
use Rattle.spec.specs.Words.{words_of}
use Rattle.spec.specs.Medium.{Action}
use Rattle.spec.specs.Actions.{lines_for}
use Rattle.spec.specs.Reports.{as_report, words_after}
use Rattle.spec.specs.Contract.{Changed}
use Rattle.session.specs.declared.Control.{Control}
use Rattle.session.specs.declared.Setup.{Setup}
use Rattle.spec.specs.declared.Report.{Report}
use Rattle.spec.specs.declared.Report.TheVariants as R
use Rattle.buffer.specs.Areas.{second_room}
use Rattle.session.specs.State.{size_in, power_in, chunk_in, lines_in, source_in, source_lines, clean_actions}
use Rattle.actions.specs.Nth.{nth, nth_report}
use Rattle.actions.proofs.Performed.{changed-words}
use Rattle.apply.specs.Passes.{Emptying}
use Rattle.session.specs.declared.Source.{Source}
use Rattle.actions.specs.Record.{clean_count}
use Rattle.actions.proofs.Acting.{clean-done, clean-next}
use Rattle.stepping.specs.Ends.{acted}
use Rattle.stepping.proofs.Cleaned.{action-kept, last-kept, end_kept}
use Rattle.stepping.specs.Moves.{ChunkLeft, CleanStepped}
use Rattle.session.specs.Numbers.{ended_empty}
use Rattle.session.proofs.Kept.{reads_kept}

pub shows_left : (k : Setup) (f : Source) (size : Size) (ws b b' table table' : List ℕ) (keys keys' lines at end from until count : ℕ) → size ≡ size_in k → lines ≡ lines_for (min f.words second_room)
    → at ≡ base (power_of size) (source_in f) → end ≡ at + 8 * source_lines f → from ≡ base (power_in k) (chunk_in k) + 8 * lines_in k → until ≡ from + 8 * lines → count ≡ chunks_in (power_of size) k.image
    → Emptying size count ws b b' table table' keys at end from until f.words keys' → ChunkLeft k f ws b b' table table' keys keys'
shows_left k f size ws b b' table table' keys keys' lines at end from until count z el ea ee ef eu ec e = record {
  at = at;
  end = end;
  from = from;
  until = until;
  ends = record { at-is = rw z at ea; end_is = ee; from_is = ef; until-is = eu ∙ ap (λ (x : ℕ). from + 8 * x) el };
  empties = rw (ec, z) at e;
}

module _ (c : Control) (k : Setup) (f : Source) (b image table : List ℕ) where
  abbrev acts : List Action
  acts = clean_actions k f b

  -- THE END
  pub shows-over : clean_count f.words ≤ c.next → CleanStepped c (ended_empty c) k f b b image image table table (R.End f.entries)
  shows-over h =
      inr (record {
        past = h;
        report = refl;
        control = refl;
        buffer = refl;
        unchanged = refl;
        same = refl;
        fits = λ t. end_kept c k f b (words_of image) table (rw (clean-done k f b c.next h) at t);
      })

  module _ (image' : List ℕ) (r : Report) (er : r ≡ nth_report acts c.next) (changed : Changed r image image') where
    words : words_of image' ≡ words_after (as_report (nth acts c.next)) (words_of image)
    words = changed-words (as_report (nth acts c.next)) image image' (rw er at changed)

    -- an action that is not the last
    pub shows-acts : c.next + 1 < clean_count f.words → CleanStepped c (acted c c.keys) k f b b image image' table table r
    shows-acts h =
        inl (record {
          here = omega arith;
          report = er;
          changed = changed;
          control = refl;
          behind = refl;
          sized = refl;
          kept = refl;
          fits = λ t. rw (more, words) (action-kept c k f b (words_of image) table (nth acts c.next) (nth acts (c.next + 1)) (drop (c.next + 1 + 1) acts) (rw (here, more) at t));
          reads = λ olds t. rw words (reads_kept c (acted c c.keys) k b table (words_of image) olds (nth acts c.next) (drop (c.next + 1) acts) refl (rw here at t));
        })
      where
        here : drop c.next acts ≡ nth acts c.next ∷ drop (c.next + 1) acts
        here = clean-next k f b c.next (omega arith)

        more : drop (c.next + 1) acts ≡ nth acts (c.next + 1) ∷ drop (c.next + 1 + 1) acts
        more = clean-next k f b (c.next + 1) h

    -- the last
    pub shows-last : (b' table' : List ℕ) (keys : ℕ) → c.next + 1 ≡ clean_count f.words → ChunkLeft k f (words_of image') b b' table table' c.keys keys → CleanStepped c (acted c keys) k f b b' image image' table table' r
    shows-last b' table' keys h l =
        inl (record {
          here = omega arith;
          report = er;
          changed = changed;
          control = refl;
          behind = none b' ∙ sym (none b);
          sized = l.empties.sized;
          kept = l.empties.kept;
          fits = λ t. rw (none b', words) (last-kept c k f b (words_of image) table (nth acts c.next) (rw (here, none b) at t) (chunks_in (power_in k) k.image) l.at l.end l.from l.until refl l.ends b' table' keys (rw words at l.empties));
          reads = λ olds t. rw (none b') tt;
        })
      where
        here : drop c.next acts ≡ nth acts c.next ∷ drop (c.next + 1) acts
        here = clean-next k f b c.next (omega arith)

        none : (d : List ℕ) → drop (c.next + 1) (clean_actions k f d) ≡ []
        none d = clean-done k f d (c.next + 1) (omega arith)
