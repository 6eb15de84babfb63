-- What the code shows of an entry's weight.
-- Assumes nothing.
use Rattle.std.proofs.Common.{◌≡◌, ℕ, ◌+◌, ◌/◌, ◌<◌, ◌≤◌, List, length, get_or, sym, refl, ap, ◌∙◌, arith, eq-eqb}
use Rattle.spec.specs.declared.Size.{Size}
use Rattle.spec.specs.declared.Size.TheVariants as S
use Rattle.spec.specs.declared.FirstWord.{FirstWord}
use Rattle.spec.specs.declared.FirstWord.TheVariants as F
use Rattle.spec.specs.Log.{Entry, first_of_word, words_for}
use Rattle.theory_log.specs.Batch.{Kind, put, block, delete, Right}
use Rattle.logs.specs.Stands.{StandsIn}
use Rattle.volatile.specs.Known.{extent_of}
use Rattle.volatile.specs.Change.{extent_weight, Weighed, WeighedAt}

pub weighed-put : (op words r : ℕ) → op ≡ 1 → words ≤ 512 → r ≡ 2 + words → Weighed op words r
weighed-put op words r q l e = record { is = λ h. rw (eq-eqb op 1 q) e; fits = omega arith }

-- an entry's words are few
kind-words : (op pl x : ℕ) → Kind op pl x → words_for pl x ≤ 32
kind-words _ _ x (put l) = omega arith
kind-words _ _ x block = omega arith
kind-words _ _ _ delete = omega arith

pub right-few : (e : Entry) → Right e → length e.value ≤ 32
right-few e r = let k = kind-words e.op e.placement e.field r.kind in let w = r.words in omega arith

-- a value in the log that is longer than a byte is a put's
kind-put : (size : Size) → (op pl x : ℕ) → Kind op pl x → 0 < extent_of size pl x → (op ≡ 1) × (pl ≡ 0) × (x ≡ extent_of size pl x + 1)
kind-put S.Small _ _ x (put l) h = (refl, refl, omega arith)
kind-put S.Small _ _ x block h = absurd (omega arith)
kind-put S.Small _ _ _ delete h = absurd (omega arith)
kind-put S.Large op pl x k h = absurd (omega arith)

-- THE ENTRY AT A PLACE
module _ (size : Size) (ws : List ℕ) (extent place : ℕ) where
  pub at-extent : (r : ℕ) → 0 < extent → r ≡ extent_weight extent → WeighedAt size ws extent place r
  at-extent r l is-weight = record {
    is = λ f stands here tells narrow.
        let k = kind-put size f.op f.placement f.field stands.right.kind (rw tells l) in
        let x : f.field ≡ extent + 1 = k.2 ∙ ap (λ (i : ℕ). i + 1) tells in
        let n : length f.value ≡ (extent + 1 + 7) / 8 = stands.right.words ∙ rw (k.1, x) in
        is-weight ∙ sym (rw (k.0, n) (omega arith));
  }

  module _ (v : ℕ) (first : FirstWord) (is_word : v ≡ get_or ws place 0) (is-first : first ≡ first_of_word v) where
    read : (f : Entry) → StandsIn ws f → f.at ≡ place → first ≡ F.Entry f.op f.placement f.version f.field
    read f stands here = is-first ∙ ap first_of_word (is_word ∙ ap (λ (i : ℕ). get_or ws i 0) (sym here)) ∙ stands.first

    pub at-padding : first ≡ F.Padding → WeighedAt size ws extent place 0
    at-padding e = record { is = λ f stands here tells narrow. let q = read f stands here in absurd (let z : ◌≡◌ {A = ℕ} 0 1 = cc in omega arith) }

    pub at-wrong : first ≡ F.Wrong → WeighedAt size ws extent place 0
    at-wrong e = record { is = λ f stands here tells narrow. let q = read f stands here in absurd (let z : ◌≡◌ {A = ℕ} 0 1 = cc in omega arith) }

    pub at_entry : (op pl version x words r : ℕ) → first ≡ F.Entry op pl version x → words ≡ words_for pl x → Weighed op words r → WeighedAt size ws extent place r
    at_entry op pl version x words r e is-words w = record {
      is = λ f stands here tells narrow.
          let q = read f stands here in
          let a : f.op ≡ op = cc in
          let b : f.placement ≡ pl = cc in
          let d : f.field ≡ x = cc in
          let n : length f.value ≡ words = stands.right.words ∙ rw (b, d) (sym is-words) in
          let m = right-few f stands.right in
          w.is (omega arith) ∙ sym (rw (a, n));
    }
