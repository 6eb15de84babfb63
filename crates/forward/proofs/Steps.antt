-- What the record says of memory in a staging of a large value: as it is begun, from step to step, and at its end.
-- Assumes nothing.
use mathlib.Core.Path.{◌≡◌, sym, ◌∙◌}
use mathlib.Core.List.{List, [], ◌∷◌, ◌++◌}
use Prim.Native.Nat.{ℕ, ◌+◌, ◌≤◌, ◌<◌}
use native.Mathlib.Omega.{arith}
use lib.ListN.{length, get_or, drop}
use Rattle.spec.specs.Basics.{distinct}
use Rattle.spec.specs.Medium.{Action}
use Rattle.spec.specs.Log.{Entry, encode_all}
use Rattle.spec.specs.Contents.{capacity}
use Rattle.spec.specs.Reports.{words_after, run_words}
use Rattle.spec.specs.Plans.{max_items}
use Rattle.session.specs.declared.Control.{Control}
use Rattle.session.specs.declared.Setup.{Setup}
use Rattle.session.specs.declared.Session.{Session}
use Rattle.theory_log.specs.Batch.{AllRight}
use Rattle.theory_log.specs.Contents.{CountsOn}
use Rattle.buffer.specs.Bits.{has_bit}
use Rattle.volatile.proofs.Sums.{summed_same}
use Rattle.actions.specs.Nth.{nth_report}
use Rattle.actions.proofs.Nth.{run-nth, drop_past}
use Rattle.buffer.specs.Areas.{batch_room, filter_place}
use Rattle.session.specs.State.{size_in, batch_words}
use Rattle.session.specs.Filter.{AllMarked}
use Rattle.session.specs.Fits.{key_list, RestFits, StageFits}
use Rattle.forward.specs.Ahead.{Ahead}

abbrev session : Control → Setup → List ℕ → Session
session c k b = record { control = c; setup = k; buffer = b }

-- A STAGING BEGUN: the record has the new item behind the others, the value's place in its setup and the value in its
-- buffer
module _ (c c' : Control) (k k' : Setup) (b b' ws table : List ℕ) (items : List Entry) (e : Entry) (acts : List Action) (f : RestFits (session c k b) ws table items)
    (ahead : Ahead (size_in k) k.image k.table ws f.entries (items ++ (e ∷ [])) acts) (power : k'.power ≡ k.power) (bytes : k'.image ≡ k.image) (lent : k'.table ≡ k.table) (first : k'.first ≡ k.first) (least : k'.least ≡ k.least)
    (bits : (u : ℕ) → has_bit (size_in k) b' u ≡ has_bit (size_in k) b u) (behind : (i : ℕ) → filter_place < i → get_or b' i 0 ≡ get_or b i 0) (known : c'.keys ≡ c.keys) (room : c'.words ≤ batch_room) (written : batch_words c' b' ≡ encode_all (items ++ (e ∷ [])))
    (count : c'.items ≡ length (items ++ (e ∷ []))) (few : length (items ++ (e ∷ [])) ≤ max_items) (right : AllRight (items ++ (e ∷ []))) (counts : CountsOn f.entries (items ++ (e ∷ []))) (marked : AllMarked (get_or b' filter_place 0) (items ++ (e ∷ [])))
    (keys : c'.keys + c'.fresh ≡ length (distinct (key_list (items ++ (e ∷ [])) ++ key_list f.entries))) (space : c'.keys + c'.fresh ≤ capacity k.table) where
  pub stage-begun : StageFits (session c' k' b') ws table (items ++ (e ∷ [])) acts
  stage-begun = record {
    entries = f.entries;
    accepted = rw (power, bytes, lent) ahead.accepted;
    long = rw bytes ahead.long;
    lent = f.lent ∙ sym lent;
    built = rw power (record { indexed = rw known f.built.indexed; blocks = λ u. bits u ∙ f.built.blocks u; sums = summed_same (size_in k) b b' f.entries (λ i l. behind i (omega arith)) f.built.sums });
    batch = record { room = room; written = written; count = count; few = few; right = right; counts = counts; fit = rw (power, bytes) ahead.placed; marked = marked; keys = keys };
    table-room = rw lent space;
    hint = rw (power, bytes, first, least) (ahead.hint k.first k.least f.hint);
  }

-- A STEP: the next action done on the words, another number of the next one in the record
module _ (c c' : Control) (k : Setup) (b table : List ℕ) (items : List Entry) (same : (c'.words ≡ c.words) × (c'.items ≡ c.items) × (c'.keys ≡ c.keys) × (c'.fresh ≡ c.fresh)) where
  pub rest-same : (ws : List ℕ) → RestFits (session c k b) ws table items → RestFits (session c' k b) ws table items
  unfolding batch_words
  rest-same ws f =
      let a = same.0 in
      let d = same.1 in
      let g = same.2 in
      let h = same.3 in
      let r = f.batch.room in
      let x = f.batch.keys in
      let y = f.table-room in
      record {
        entries = f.entries;
        accepted = f.accepted;
        long = f.long;
        lent = f.lent;
        built = record { indexed = rw g f.built.indexed; blocks = f.built.blocks; sums = f.built.sums };
        batch = record { room = omega arith; written = rw a f.batch.written; count = d ∙ f.batch.count; few = f.batch.few; right = f.batch.right; counts = f.batch.counts; fit = f.batch.fit; marked = f.batch.marked; keys = omega arith };
        table-room = omega arith;
        hint = f.hint;
      }

  pub stage-step : (acts : List Action) (at : ℕ) (ws : List ℕ) → at < length acts → StageFits (session c k b) ws table items (drop at acts)
      → StageFits (session c' k b) (words_after (nth_report acts at) ws) table items (drop (at + 1) acts)
  stage-step acts at ws h f = rw (run-nth acts at h ws) (rest-same (run_words (drop at acts) ws) f)

  -- THE END
  pub stage-end : (acts : List Action) (at : ℕ) (ws : List ℕ) → length acts ≤ at → StageFits (session c k b) ws table items (drop at acts) → RestFits (session c' k b) ws table items
  stage-end acts at ws h f = rest-same ws (rw (drop_past acts at h) at f)
