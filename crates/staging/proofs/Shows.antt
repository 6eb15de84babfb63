-- What the code shows at the gate, and at each return of an abandoning, is what the contract says.
-- Assumes nothing.
use mathlib.Core.Path.{◌≡◌, refl, sym, ◌∙◌, ap}
use mathlib.Core.Logic.{inl, inr}
use mathlib.Core.Bool.{true, false}
use mathlib.Core.Option.{none, some}
use mathlib.Core.List.{List, [], ◌∷◌, map}
use Prim.Native.Nat.{ℕ, min}
use native.Mathlib.Omega.{arith}
use lib.ListN.{length}
use Rattle.spec.specs.Basics.{pick, negate, is_empty}
use Rattle.spec.specs.Words.{words_of}
use Rattle.spec.specs.Places.{chunks_in}
use Rattle.spec.specs.Log.{Entry, moved, parse}
use Rattle.spec.specs.Contents.{listed}
use Rattle.spec.specs.Machine.{Rest, Call, Abandon, gate, refused_by, answer, next}
use Rattle.session.specs.declared.Control.{Control}
use Rattle.session.specs.declared.Setup.{Setup}
use Rattle.session.specs.declared.Session.{Session}
use Rattle.spec.specs.declared.Refusal.{Refusal}
use Rattle.spec.specs.declared.Refusal.TheVariants as N
use Rattle.spec.specs.declared.Report.{Report}
use Rattle.spec.specs.declared.Report.TheVariants as R
use Rattle.buffer.specs.Areas.{batch_room}
use Rattle.session.specs.State.{buffer_part, batch_words, batch_items, power_in, state_at, state_of}
use Rattle.batch.specs.Items.{any_item}
use Rattle.session.specs.Fits.{RestFits, Fits}
use Rattle.session.proofs.Kept.{none-fit}
use Rattle.std.specs.Prelude.{Result, Ok, Err}
use Rattle.session.specs.Asks.{gate_of, Asking}
use Rattle.session.proofs.Gates.{refused, Gating, turned_down, AtRest, at_rest, Passed, gate-passed}
use Rattle.session.specs.Promise.{Does, memory}
use Rattle.session.specs.Numbers.{ended_empty}

module _ (c : Control) (k : Setup) (b bytes table : List ℕ) where
  abbrev s : Session
  s = record { control = c; setup = k; buffer = b }

  -- ## The gate

  module _ (g : Result (Unit {0}) Refusal) (asks : Asking c k (length bytes) (length table) g) where
    pub at-gate : (call : Call) → Gating call → (n : Refusal) → g ≡ Err n → Does call (memory s bytes table) (memory s bytes table) (R.Refused n)
    at-gate call t n e = turned_down s bytes table n (asks.asked b ∙ ap gate_of e) call t

    module _ (passes : g ≡ Ok tt) where
      pub opened : gate (state_of s) (length bytes) (length table) ≡ none
      opened = asks.asked b ∙ ap gate_of passes

      -- the gate bars nothing
      pub passed : (r r' : Report) → refused_by (gate (state_of s) (length bytes) (length table)) ≡ some r' → r ≡ r'
      passed r r' h = absurd (let q : none ≡ some r' = rw opened at h in let z : ◌≡◌ {A = ℕ} 0 1 = cc in omega arith)

      pub rests : Fits s (words_of bytes) table → AtRest s (length bytes) (length table) (words_of bytes) table
      rests f = at_rest s (length bytes) (length table) (words_of bytes) table opened f

      lengths : Passed s (length bytes) (length table)
      lengths = gate-passed s (length bytes) (length table) opened

      -- ## Abandoning

      -- the items of the record's state are those that its words say, for any memory
      says : is_empty (batch_items c b) ≡ negate (any_item b c.words)
      unfolding batch_items batch_words any_item
      says = go (listed (parse (buffer_part b 0 (min c.words batch_room)) 0 0))
        where
          go : (es : List Entry) → is_empty (map (moved 0) es) ≡ negate (negate (is_empty es))
          go [] = refl
          go (e ∷ es) = refl

      abandons : (r : Report) → pick (is_empty (batch_items c b)) (R.Refused N.NothingStaged) R.Abandoned ≡ r → answer Abandon (state_of s) (words_of bytes) (length bytes) (length table) ≡ r
      abandons r h = rw (opened, lengths.state) h

      pub abandon-none : any_item b c.words ≡ false → Does Abandon (memory s bytes table) (memory s bytes table) (R.Refused N.NothingStaged)
      unfolding next
      abandon-none h =
          refused s bytes table N.NothingStaged Abandon refl (λ f. f) (λ f. sym answered) (passed (R.Refused N.NothingStaged)) (inr (inr (inr (inl refl)))) (refl, refl) (sym answered, sym (rw answered))
        where
          answered : answer Abandon (state_of s) (words_of bytes) (length bytes) (length table) ≡ R.Refused N.NothingStaged
          answered = abandons (R.Refused N.NothingStaged) (rw (says, h))

      -- the record with nothing staged
      abbrev bare : Session
      bare = record { control = ended_empty c; setup = k; buffer = b }

      bare-fits : (items : List Entry) → RestFits s (words_of bytes) table items → RestFits bare (words_of bytes) table []
      unfolding batch_words
      bare-fits items f =
          let n = f.built.indexed.count in
          let r = f.table-room in
          record {
            entries = f.entries;
            accepted = f.accepted;
            long = f.long;
            lent = f.lent;
            built = record { indexed = f.built.indexed; blocks = f.built.blocks; sums = f.built.sums };
            batch = record { room = omega arith; written = refl; count = refl; few = omega arith; right = tt; counts = tt; fit = none-fit (power_in k) (chunks_in (power_in k) k.image) (words_of bytes) f.entries; marked = tt; keys = omega arith };
            table-room = omega arith;
            hint = f.hint;
          }

      bare-state : state_of bare ≡ Rest (power_in k) k.image k.table []
      unfolding state_at batch_items batch_words
      bare-state = refl

      pub abandon-done : any_item b c.words ≡ true → Does Abandon (memory s bytes table) (memory bare bytes table) R.Abandoned
      unfolding next
      abandon-done h = record {
        exact = λ f. record { answered = sym answered; became = became; fits = (f.0, rw bare-state (bare-fits (rests f).items (rests f).fits)) };
        first = passed R.Abandoned;
        image = refl;
        sized = refl;
        outcome = (rw bare-state, refl);
        anyway = (sym answered, became);
      }
        where
          answered : answer Abandon (state_of s) (words_of bytes) (length bytes) (length table) ≡ R.Abandoned
          answered = abandons R.Abandoned (rw (says, h))

          became : state_of bare ≡ next Abandon (state_of s) (words_of bytes) (length bytes) (length table)
          became =
              bare-state
              ∙ ap (λ (i : ℕ). Rest (power_in k) i k.table []) lengths.same_bytes
              ∙ ap (λ (i : ℕ). Rest (power_in k) (length bytes) i []) lengths.same-words
              ∙ sym (rw (answered, lengths.state))
