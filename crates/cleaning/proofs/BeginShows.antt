-- What the code of a cleaning's begin shows at each return is what the contract says.
-- Assumes nothing.
use mathlib.Core.Path.{◌≡◌, refl, sym, ◌∙◌, ap, subst}
use mathlib.Core.Logic.{◌⊎◌, inl, inr}
use mathlib.Core.List.{List, [], ◌∷◌}
use Prim.Native.Nat.{ℕ, ◌%◌, min}
use native.Mathlib.Omega.{arith}
use lib.ListN.{length}
use Rattle.spec.specs.Words.{words_of}
use Rattle.spec.specs.Places.{chunks_in}
use Rattle.spec.specs.Log.{Entry}
use Rattle.buffer.specs.Areas.{second_start, buffer_words}
use Rattle.session.specs.declared.Control.{Control}
use Rattle.session.specs.declared.Setup.{Setup}
use Rattle.spec.specs.declared.Refusal.{Refusal}
use Rattle.spec.specs.declared.Report.TheVariants as R
use Rattle.session.specs.State.{size_in, power_in}
use Rattle.session.specs.Fits.{sole_mark, RestFits}
use Rattle.gathering.specs.Gathering.{Copied}
use Rattle.gathering.proofs.Words.{stored-gathered}
use Rattle.session.specs.declared.Source.{Source}
use Rattle.actions.specs.Record.{cleaning, copying_to}
use Rattle.actions.proofs.Acting.{length-clean}
use Rattle.cleaning.specs.declared.CleanPlan.{CleanPlan}
use Rattle.std.specs.declared.result.Result.TheVariants as P
use Rattle.std.specs.Prelude.{Result}
use Rattle.cleaning.specs.Plans.{Beginning, KeptAt, CleanPlanned}
use Rattle.cleaning.specs.Begun.{Begun}
use Rattle.cleaning.proofs.Begun.{begins-bare, begins-copies}
use Rattle.cleaning.specs.Outsets.{KeptStored, Outsets}

module _ (f : Source) (kept b : List ℕ) where
  pub stored-none : f.words ≡ 0 → KeptStored f kept b b
  stored-none z = inl (z, refl)

  pub stored_some : (b' : List ℕ) (n : ℕ) → (f.words ≡ 0 → ⊥) → length b ≡ buffer_words → n ≡ min f.words (length kept) → Copied kept b b' 0 second_start n → KeptStored f kept b b'
  stored_some b' n z long is c = inr (z, long, n, is, c)

module _ (c : Control) (k : Setup) (b image table words : List ℕ) (s : ℕ) (plan : Result CleanPlan Refusal) (right : CleanPlanned c k b image table words s plan) where
  abbrev ws : List ℕ
  ws = words_of image

  pub turned : (x : Refusal) → plan ≡ P.Err x → Outsets c c k k b b image table s (R.Refused x)
  turned x e =
      let p : CleanPlanned c k b image table words s (P.Err x) = rw e at right in
      inl (record { number = x; report = refl; listed = p.sound; control = refl; setup = refl; buffer = refl; right = p.plans })

  module _ (pl : CleanPlan) (e : plan ≡ P.Ok pl) (b' : List ℕ) (kept : KeptStored pl.source words b b') where
    abbrev k' : Setup
    k' = copying_to k pl.chunk pl.old pl.lines pl.first k.least pl.source

    p : CleanPlanned c k b image table words s (P.Ok pl)
    p = rw e at right

    long : length b' ≡ length b
    long = go kept
      where
        go : KeptStored pl.source words b b' → length b' ≡ length b
        go (inl a) = ap length a.1
        go (inr a) = a.4.long

    began : (r : RestFits (record { control = c; setup = k; buffer = b }) ws table []) → Beginning (size_in k) ws r.entries (chunks_in (power_in k) k.image) s pl.chunk pl.old pl.lines (k.first % sole_mark) pl.first pl.source pl.actions → KeptStored pl.source words b b'
        → (pl.source.words ≡ 0) ⊎ KeptAt (size_in k) pl.source ws table words → Begun c k' pl.source b' ws table r.entries (chunks_in (power_in k) k.image) s pl.actions
    began r q (inl a) h = subst (λ (x : List ℕ). Begun c k' pl.source x ws table r.entries (chunks_in (power_in k) k.image) s pl.actions) (sym a.1) (begins-bare c k b ws table r s pl.chunk pl.old pl.lines pl.first pl.source pl.actions q a.0)
    began r q (inr a) (inl z) = absurd (a.0 z)
    began r q (inr (z, sized, n, is, copied)) (inr h) =
        let low = h.collected.bound in
        let full = h.collected.long in
        let w = h.words in
        let n-is : n ≡ h.tally.words = omega arith in
        begins-copies c k b ws table r s pl.chunk pl.old pl.lines pl.first pl.source pl.actions q b' h.at h.end h.tally h.at-is h.end_is (stored-gathered (size_in k) ws table words b b' h.at h.end n h.tally h.collected n-is sized copied) z

    all : (items : List Entry) (q : RestFits (record { control = c; setup = k; buffer = b }) ws table items) → (items ≡ []) × Beginning (size_in k) ws q.entries (chunks_in (power_in k) k.image) s pl.chunk pl.old pl.lines (k.first % sole_mark) pl.first pl.source pl.actions
        → (items ≡ []) × Begun c k' pl.source b' ws table q.entries (chunks_in (power_in k) k.image) s pl.actions
    all [] q h = (h.0, began q h.1 kept p.keeps)
    all (i ∷ items) q h = absurd (let z : ◌≡◌ {A = ℕ} 0 1 = let y = h.0 in cc in omega arith)

    pub set : Outsets c (cleaning c) k k' b b' image table s (R.Begun pl.actions)
    set =
        inr (record {
          actions = pl.actions;
          report = refl;
          count = p.sound ∙ sym (length-clean k' pl.source b');
          control = refl;
          power-same = refl;
          image-same = refl;
          table_same = refl;
          kept = long;
          right = λ same items q. all items q (p.plans same items q);
        })
