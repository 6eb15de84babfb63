-- What the code shows of the staged words: the entry that stands at a place of them, and the words behind it.
-- Assumes nothing.
use mathlib.Core.Path.{◌≡◌, refl, sym, ◌∙◌, ap}
use mathlib.Core.List.{List, [], ◌∷◌}
use Rattle.std.specs.Prelude.{Option, Some, None}
use Prim.Native.Nat.{ℕ, zero, suc, ◌+◌, ◌-◌, ◌*◌, ◌/◌, ◌%◌, ◌≤◌, ◌<◌}
use native.Mathlib.Nat.{zero-add, add-zero}
use native.Mathlib.Omega.{arith}
use lib.ListN.{length, get_or, drop, length-append}
use lib.Seq.{drop_at}
use Rattle.spec.specs.declared.FirstWord.{FirstWord}
use Rattle.spec.specs.declared.FirstWord.TheVariants as F
use Rattle.spec.specs.Log.{Entry, first_of_word, words_for, encode, encode_all}
use Rattle.theory_log.specs.Batch.{Kind, put, block, delete, Right}
use Rattle.theory_log.proofs.Batch.{first-right}
use Rattle.session.specs.State.{buffer_part}
use Rattle.session.proofs.Part.{length_part}
use Rattle.logs.specs.declared.ShortPut.{ShortPut}
use Rattle.logs.specs.Short.{ToldAt}
use Rattle.batch.specs.declared.StagedEntry.{StagedEntry}
use Rattle.batch.specs.Staged.{Taken, StagedFrom, Staged, ShortStaged, put_of}

-- A part of the buffer.
part-drop : (b : List ℕ) (i m n : ℕ) → drop m (buffer_part b i (m + n)) ≡ buffer_part b (i + m) n
part-drop b i zero n = rw (zero-add n, add-zero i)
part-drop b i (suc m) n =
    let p : suc m + n ≡ suc (m + n) = omega arith in
    let q : i + suc m ≡ suc i + m = omega arith in
    rw (p, q) (part-drop b (suc i) m n)

-- an entry at its head
record Headed (b : List ℕ) (at end : ℕ) (e : Entry) (es : List Entry) : Type 0 where
  fits : at + (2 + length e.value) ≤ end
  word : get_or b at 0 ≡ e.op + 4 * e.placement + 16 * e.version + 16777216 * e.field
  first : first_of_word (get_or b at 0) ≡ F.Entry e.op e.placement e.version e.field
  key : get_or b (at + 1) 0 ≡ e.key
  behind : buffer_part b (at + (2 + length e.value)) (end - (at + (2 + length e.value))) ≡ encode_all es

headed : (b : List ℕ) (at end : ℕ) (e : Entry) (es : List Entry) → Right e → buffer_part b at (end - at) ≡ encode_all (e ∷ es) → Headed b at end e es
headed b at end e es r h =
    let m = 2 + length e.value in
    let n = ap length h in
    let l = length_part b at (end - at) in
    let k = length-append e.value (encode_all es) in
    let fits : at + m ≤ end = omega arith in
    let two : end - at ≡ suc (suc (end - at - 2)) = omega arith in
    let first_two : buffer_part b at (suc (suc (end - at - 2))) ≡ encode_all (e ∷ es) = rw two at h in
    let head : get_or b at 0 ≡ e.op + 4 * e.placement + 16 * e.version + 16777216 * e.field = ap (λ (xs : List ℕ). get_or xs 0 0) first_two in
    let next : get_or b (suc at) 0 ≡ e.key = ap (λ (xs : List ℕ). get_or xs 1 0) first_two in
    let one : at + 1 ≡ suc at = omega arith in
    let rest : end - at ≡ m + (end - (at + m)) = omega arith in
    record {
      fits = fits;
      word = head;
      first = rw head (first-right e.op e.placement e.version e.field r.kind r.low r.high);
      key = rw one next;
      behind = sym (part-drop b at m (end - (at + m))) ∙ ap (drop m) (sym (ap (buffer_part b at) rest) ∙ h) ∙ drop_at (encode e) (encode_all es) m (omega arith);
    }

module _ (b : List ℕ) (at end : ℕ) where
  -- nothing stands behind the end,
  pub staged-end : end ≤ at → Staged b at end None
  staged-end l [] s = refl
  staged-end l (e ∷ es) s = let f = (headed b at end e es s.0.0 s.1).fits in absurd (omega arith)

  module _ (w : FirstWord) (is-first : w ≡ first_of_word (get_or b at 0)) where
    -- and no word of entries is padding, or wrong,
    pub staged-padding : w ≡ F.Padding → Staged b at end None
    staged-padding q [] s = refl
    staged-padding q (e ∷ es) s = let f = (headed b at end e es s.0.0 s.1).first in absurd (let z : ◌≡◌ {A = ℕ} 0 1 = cc in omega arith)

    pub staged-wrong : w ≡ F.Wrong → Staged b at end None
    staged-wrong q [] s = refl
    staged-wrong q (e ∷ es) s = let f = (headed b at end e es s.0.0 s.1).first in absurd (let z : ◌≡◌ {A = ℕ} 0 1 = cc in omega arith)

    module _ (op pl v x words : ℕ) (is-entry : w ≡ F.Entry op pl v x) (size : words ≡ words_for pl x) where
      own-size : (e : Entry) (es : List Entry) → Right e → Headed b at end e es → length e.value ≡ words
      own-size e es r h =
          let f = h.first in
          let p : pl ≡ e.placement = cc in
          let q : x ≡ e.field = cc in
          r.words ∙ sym (size ∙ rw (p, q))

      -- nor is one too long
      pub staged-long : end - at < 2 + words → Staged b at end None
      staged-long l [] s = refl
      staged-long l (e ∷ es) s = let d = headed b at end e es s.0.0 s.1 in let m = own-size e es s.0.0 d in let f = d.fits in absurd (omega arith)

      pub staged-entry : at < end → 2 + words ≤ end - at → Staged b at end (Some (record { op = op; placement = pl; version = v; field = x; key = get_or b (at + 1) 0; words = words }))
      staged-entry l m = (omega arith, entry)
        where
          entry : (rest : List Entry) → StagedFrom b at end rest → Taken b at end (record { op = op; placement = pl; version = v; field = x; key = get_or b (at + 1) 0; words = words }) rest
          entry [] s = let n = ap length s.1 in let k = length_part b at (end - at) in absurd (omega arith)
          entry (e ∷ es) s =
              let d = headed b at end e es s.0.0 s.1 in
              let m = own-size e es s.0.0 d in
              let f = d.first in
              record {
                entry = e;
                others = es;
                all = refl;
                of-op = cc;
                of-placement = cc;
                of-version = cc;
                of_field = cc;
                of-key = sym d.key;
                size = m;
                behind = rw (← m) d.behind;
              }

-- a word that says a put with its value in the log
put_word : (op pl v x w : ℕ) → Kind op pl x → v < 1048576 → w ≡ op + 4 * pl + 16 * v + 16777216 * x → w % 16 ≡ 1 → (op ≡ 1) × (pl ≡ 0) × (v ≡ w / 16 % 1048576) × (x ≡ w / 16777216)
put_word _ _ v x w (put l) h e q = let a : w / 16 ≡ v + 1048576 * x = omega arith in (refl, refl, rw a (omega arith), omega arith)
put_word _ _ v x w block h e q = absurd (omega arith)
put_word _ _ v _ w delete h e q = absurd (omega arith)

pub short-staged : (b : List ℕ) (at end : ℕ) (r : Option ShortPut) → ToldAt b at end r → ShortStaged b at end r
short-staged b at end None told = tt
short-staged b at end (Some p) told = (told.within, entry)
  where
    entry : (rest : List Entry) → StagedFrom b at end rest → Taken b at end (put_of p) rest
    entry [] s = let n = ap length s.1 in let k = length_part b at (end - at) in let w = told.within in absurd (omega arith)
    entry (e ∷ es) s =
        let r = s.0.0 in
        let d = headed b at end e es r s.1 in
        let q = put_word e.op e.placement e.version e.field (get_or b at 0) r.kind r.high d.word told.low in
        let x : e.field ≡ p.field = q.3 ∙ sym told.field in
        let n : length e.value ≡ p.words = r.words ∙ rw (q.1, x) (sym told.words) in
        record {
          entry = e;
          others = es;
          all = refl;
          of-op = q.0;
          of-placement = q.1;
          of-version = q.2 ∙ sym told.version;
          of_field = x;
          of-key = sym d.key ∙ sym told.key;
          size = n;
          behind = rw (← n) d.behind;
        }

-- what the answer says, for a caller that goes by its case
pub told-short : (b : List ℕ) (at end : ℕ) (r : Option ShortPut) → ShortStaged b at end r → (p : ShortPut) → r ≡ Some p → Staged b at end (Some (put_of p))
told-short b at end r told p e = rw e at told

module _ (b : List ℕ) (at end : ℕ) (r : Option StagedEntry) (told : Staged b at end r) where
  pub told_none : r ≡ None → (rest : List Entry) → StagedFrom b at end rest → rest ≡ []
  told_none e = rw e at told

  module _ (t : StagedEntry) (e : r ≡ Some t) where
    pub told-fits : at + (2 + t.words) ≤ end
    told-fits = (rw e at told).0

    pub told-entry : (rest : List Entry) → StagedFrom b at end rest → Taken b at end t rest
    told-entry = (rw e at told).1
