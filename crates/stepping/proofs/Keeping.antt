-- Memory as the calls left it stays so in every step: one action of a commit, and the last with its batch joined.
-- Assumes nothing.
use mathlib.Core.Path.{◌≡◌, refl, ◌∙◌, ap}
use mathlib.Core.Logic.{◌⊎◌, inl, inr}
use mathlib.Core.List.{List, [], ◌∷◌, ◌++◌, map-append}
use Prim.Native.Nat.{ℕ, ◌+◌, ◌*◌, ◌/◌}
use native.Mathlib.Omega.{arith}
use lib.ListN.{length}
use Rattle.spec.specs.Basics.{distinct}
use Rattle.spec.specs.Places.{base, chunks_in}
use Rattle.spec.specs.Medium.{Action, Mem as Among}
use Rattle.spec.specs.Log.{Entry, placed}
use Rattle.spec.specs.Contents.{keys_of}
use Rattle.spec.specs.Reports.{as_report, words_after}
use Rattle.session.specs.declared.Control.{Control}
use Rattle.session.specs.declared.Setup.{Setup}
use Rattle.session.specs.declared.Session.{Session}
use Rattle.theory_base.proofs.Lists.{number-l, number-r, number-cases, distinct-equal}
use Rattle.theory_crash.specs.Accepted.{Ok}
use Rattle.theory_crash.proofs.Opening.{keys-fit}
use Rattle.session.specs.State.{size_in, power_in, batch_words, chunk_in, lines_in}
use Rattle.buffer.specs.Areas.{filter_place}
use Rattle.session.specs.Fits.{key_list, batch_place, CommitFits}
use Rattle.session.proofs.OpensRight.{opens-right}
use Rattle.session.proofs.Part.{chunk_in_lem, lines-in}
use Rattle.session.proofs.Kept.{words-kept, batch-kept, built-kept}
use Rattle.apply.specs.Joining.{Shown, Fenced, Joining}
use Rattle.forward.proofs.Staged.{action-length}
use Rattle.session.specs.Numbers.{with_keys}

-- THE KNOWN KEYS, with a batch placed among the entries.
placed-keys : (at : ℕ) (items : List Entry) → key_list (placed at items) ≡ key_list items
placed-keys at [] = refl
placed-keys at (e ∷ items) = ap (λ (l : List ℕ). e.key ∷ l) (placed-keys (at + (2 + length e.value)) items)

joined-keys : (at : ℕ) (front back items : List Entry) → length (keys_of (front ++ (placed at items ++ back))) ≡ length (distinct (key_list items ++ key_list (front ++ back)))
joined-keys at front back items =
    rw (map-append (λ (e : Entry). e.key) front (placed at items ++ back), map-append (λ (e : Entry). e.key) (placed at items) back, placed-keys at items, map-append (λ (e : Entry). e.key) front back)
    (distinct-equal (key_list front ++ (key_list items ++ key_list back)) (key_list items ++ (key_list front ++ key_list back)) (turned (key_list front) (key_list items) (key_list back))
    (turned (key_list items) (key_list front) (key_list back)))
  where
    turned : (xs ys zs : List ℕ) (k : ℕ) → Among k (xs ++ (ys ++ zs)) → Among k (ys ++ (xs ++ zs))
    turned xs ys zs k m = go (number-cases k xs (ys ++ zs) m)
      where
        inner : Among k ys ⊎ Among k zs → Among k (ys ++ (xs ++ zs))
        inner (inl t) = number-l k ys (xs ++ zs) t
        inner (inr t) = number-r k ys (xs ++ zs) (number-r k xs zs t)

        go : Among k xs ⊎ Among k (ys ++ zs) → Among k (ys ++ (xs ++ zs))
        go (inl t) = number-r k ys (xs ++ zs) (number-l k xs zs t)
        go (inr t) = inner (number-cases k ys zs t)

-- after an action of a commit: its number counted on, so many known keys, so many fresh ones
abbrev pub acted : Control → ℕ → ℕ → Control
acted c keys fresh = with_keys 3 (c.next + 1) keys fresh c

module _ (c : Control) (k : Setup) (b : List ℕ) where
  abbrev s : Session
  s = record { control = c; setup = k; buffer = b }

  module _ (ws table : List ℕ) (items : List Entry) where
    -- A COMMIT'S ACTION that is not the last
    pub action-kept : (x y : Action) (ys : List Action) → CommitFits s ws table items (x ∷ y ∷ ys)
        → CommitFits (record { control = acted c c.keys c.fresh; setup = k; buffer = b }) (words_after (as_report x) ws) table items (y ∷ ys)
    unfolding batch_words
    action-kept x y ys f = record {
      front = f.front;
      back = f.back;
      chunk = f.chunk;
      lines = f.lines;
      accepted = f.accepted;
      long = action-length x ws ∙ f.long;
      lent = f.lent;
      batch = batch-kept c (acted c c.keys c.fresh) b b (power_in k) (chunks_in (power_in k) k.image) _ (f.front ++ f.back) items refl refl refl refl refl f.batch;
      agree = f.agree;
      apart = f.apart;
      built = built-kept c (acted c c.keys c.fresh) (size_in k) b table (f.front ++ f.back) refl f.built;
      table-room = f.table-room;
      hint = f.hint;
    }

    -- ITS LAST: the batch joins
    module _ (x : Action) (f : CommitFits s ws table items (x ∷ [])) where
      abbrev ws' : List ℕ
      ws' = words_after (as_report x) ws

      abbrev after : List Entry
      after = f.front ++ (placed (batch_place k) items ++ f.back)

      long' : length ws' ≡ k.image / 8
      long' = action-length x ws ∙ f.long

      ok : Ok (power_in k) (chunks_in (power_in k) k.image) ws' after
      ok = (opens-right (power_in k) k.image k.table ws' after long' f.accepted).0

      -- the batch begins at this word, as the code counts it
      module _ (place : ℕ) (is-place : place ≡ base (power_in k) (chunk_in k) + 8 * lines_in k) where
        at_place : place ≡ batch_place k
        at_place =
            let a : base (power_in k) (chunk_in k) ≡ base (power_in k) k.chunk = ap (base (power_in k)) (chunk_in_lem k f.chunk) in
            let l = lines-in k f.lines in
            omega arith

        fenced : Fenced (size_in k) (chunks_in (power_in k) k.image) place c.words c.keys b ws' table f.front f.back items
        unfolding batch_words
        fenced = rw at_place (record {
          most = ok.most;
          written = f.batch.written;
          right = f.batch.right;
          counts = f.batch.counts;
          fit = f.batch.fit;
          image = ok.parsed;
          shown = record { indexed = f.built.indexed; blocks = f.built.blocks; sums = f.built.sums; agree = f.agree; apart = f.apart };
          room = rw f.lent (keys-fit k.table after (opens-right (power_in k) k.image k.table ws' after long' f.accepted).1);
        })

        pub last-kept : (b' table' : List ℕ) (keys : ℕ) → Joining (size_in k) place c.words c.keys b b' ws' table table' keys
            → CommitFits (record { control = acted c keys 0; setup = k; buffer = b' }) ws' table' items []
        last-kept b' table' keys j =
            let q : Shown (size_in k) b' table' keys after = rw at_place at (j.joins (chunks_in (power_in k) k.image) f.front f.back items fenced) in
            let e : keys + 0 ≡ c.keys + c.fresh = let x = q.indexed.count in let y = joined-keys (batch_place k) f.front f.back items in let z = f.batch.keys in omega arith in
            let r = f.table-room in
            record {
              front = f.front;
              back = f.back;
              chunk = f.chunk;
              lines = f.lines;
              accepted = f.accepted;
              long = long';
              lent = j.sized ∙ f.lent;
              batch = batch-kept c (acted c keys 0) b b' (power_in k) (chunks_in (power_in k) k.image) _ (f.front ++ f.back) items refl refl (words-kept c (acted c keys 0) b b' j.kept refl) (j.kept.between filter_place (omega arith) (omega arith)) e f.batch;
              agree = f.agree;
              apart = f.apart;
              built = record { indexed = q.indexed; blocks = q.blocks; sums = q.sums };
              table-room = omega arith;
              hint = f.hint;
            }
