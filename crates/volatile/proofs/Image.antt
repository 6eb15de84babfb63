-- The entries of an image are few and their numbers small, and no two have one place.
-- Assumes nothing.
use Rattle.std.proofs.Common.{◌≡◌, ℕ, zero, suc, ◌+◌, ◌-◌, ◌*◌, ◌<◌, ◌≤◌, List, [], ◌∷◌, length, refl, ap, ◌∙◌, arith, length-append}
use lib.Seq.{slice}
use Rattle.spec.specs.declared.Size.{Size}
use Rattle.spec.specs.declared.Size.TheVariants as Z
use Rattle.places.specs.Sizes.{power_of, power-low, power-high}
use Rattle.packing.specs.Packed.{widths_of}
use Rattle.spec.specs.declared.LogStep.{LogStep}
use Rattle.spec.specs.declared.LogStep.TheVariants as S
use Rattle.spec.specs.Places.{chunk_words, base, max_chunks}
use Rattle.spec.specs.Directory.{lines_of}
use Rattle.spec.specs.Log.{Entry, Entries, step_of, after, parse, chunk_entries, all_from, image_entries}
use Rattle.theory_base.proofs.Places.{base-low, base-next, lines-words}
use Rattle.theory_log.specs.Batch.{Kind, put, block, delete}
use Rattle.theory_log.specs.Contents.{Apart}
use Rattle.theory_log.proofs.Parse.{found, cons_inv}
use Rattle.theory_log.proofs.Walk.{slice-long}
use Rattle.theory_log.proofs.Directory.{lines-most}
use Rattle.theory_log.proofs.Image.{Joined, join-inv}
use Rattle.theory_log.proofs.Places.{Sound, all_sound, rising-in, rising-apart, right-in}
use Rattle.volatile.specs.Known.{extent_of, Bounded}

-- an entry takes two words at least
parse-few : (l : List ℕ) (skip at : ℕ) (es : List Entry) → skip ≤ length l → parse l skip at ≡ Entries es → 2 * length es + skip ≤ length l
parse-few [] skip at es s h = let q : es ≡ [] = cc in rw q (omega arith)
parse-few (w ∷ ws) (suc n) at es s h = let r = parse-few ws n (suc at) es (omega arith) h in omega arith
parse-few (w ∷ ws) zero at es s h = go (step_of (w ∷ ws)) refl h (λ n fs. parse-few ws n (suc at) fs)
  where
    go : (t : LogStep) → step_of (w ∷ ws) ≡ t → after t (w ∷ ws) at (λ n. parse ws n (suc at)) ≡ Entries es
        → ((n : ℕ) (fs : List Entry) → n ≤ length ws → parse ws n (suc at) ≡ Entries fs → 2 * length fs + n ≤ length ws) → 2 * length es + 0 ≤ suc (length ws)
    go S.End q a rec = let e : es ≡ [] = cc in rw e (omega arith)
    go S.Wrong q a rec = absurd (let z : ◌≡◌ {A = ℕ} 0 1 = cc in omega arith)
    go S.Padding q a rec = let r = rec 0 es (omega arith) a in omega arith
    go (S.Entry op pl v x k n) q a rec =
        let f = found op pl v x k n w ws q in
        let m : suc n ≤ length ws = f.fits in
        let c = cons_inv _ (parse ws (suc n) (suc at)) es a in
        let r = rec (suc n) c.0 m c.1 in
        rw c.2 (omega arith)

module _ (p : ℕ) (low : 12 ≤ p) (high : p ≤ 16) where
  pub all-few : (n c : ℕ) (ws : List ℕ) (es : List Entry) → all_from p n c ws ≡ Entries es → base p c + 2 * length es ≤ base p (c + n)
  all-few zero c ws es h = let q : es ≡ [] = cc in let z : c + 0 ≡ c = omega arith in rw (q, z) (omega arith)
  all-few (suc n) c ws es h = go (join-inv (chunk_entries p ws c) (all_from p n (suc c) ws) es h) (λ fs. all-few n (suc c) ws fs)
    where
      go : Joined (chunk_entries p ws c) (all_from p n (suc c) ws) es → ((fs : List Entry) → all_from p n (suc c) ws ≡ Entries fs → base p (suc c) + 2 * length fs ≤ base p (suc c + n)) → base p c + 2 * length es ≤ base p (c + suc n)
      go j rec =
          let end = base p c + 8 * lines_of p ws c in
          let a = parse-few (slice (base p c) end ws) 0 (base p c) j.left (omega arith) j.is-left in
          let b = rec j.right j.is_right in
          let s = slice-long (base p c) end ws in
          let l = lines-most p ws c in
          let w = lines-words p low high in
          let x = base-next p low high c in
          let t : suc c + n ≡ c + suc n = omega arith in
          let m = ap length j.whole ∙ length-append j.left j.right in
          rw (← t) (omega arith)

  module _ (n : ℕ) (ws : List ℕ) (es : List Entry) (h : image_entries p n ws ≡ Entries es) where
    sound : Sound (base p 1) (base p (1 + (n - 1))) es
    sound = all_sound p low high (n - 1) 1 ws es h

    pub image-apart : Apart es
    image-apart = rising-apart (base p 1) (base p (1 + (n - 1))) es sound.rising

-- the numbers of the table's word are wide enough
extent-most : (size : Size) → (op pl x : ℕ) → Kind op pl x → extent_of size pl x < (widths_of size).extent
extent-most Z.Small op pl x (put l) = omega arith
extent-most Z.Small op pl x block = omega arith
extent-most Z.Small op pl x delete = omega arith
extent-most Z.Large op pl x k = omega arith

version-few : (size : Size) (v : ℕ) → v < 0x10_0000 → v < (widths_of size).version
version-few Z.Small v h = h
version-few Z.Large v h = h

pub base-most : (size : Size) → (c : ℕ) → c ≤ max_chunks → (base (power_of size) c < (widths_of size).place) × (base (power_of size) c < 2 * (widths_of size).entries)
unfolding base chunk_words
base-most Z.Small c h = (omega arith, omega arith)
base-most Z.Large c h = (omega arith, omega arith)

pub image_bounded : (size : Size) → (n : ℕ) (ws : List ℕ) (es : List Entry) → image_entries (power_of size) n ws ≡ Entries es → n ≤ max_chunks → Bounded size es
image_bounded size n ws es h most =
    let lo = power-low size in
    let hi = power-high size in
    let end = base-most size (1 + (n - 1)) (omega arith) in
    let first = base-low (power_of size) lo hi 1 (omega arith) in
    let few = all-few (power_of size) lo hi (n - 1) 1 ws es h in
    let s = sound (power_of size) lo hi n ws es h in
    record {
      each = λ e m.
          let a = rising-in (base (power_of size) 1) (base (power_of size) (1 + (n - 1))) es e s.rising m in
          let r = right-in es e s.right m in
          record { extent-high = extent-most size e.op e.placement e.field r.kind; place-low = omega arith; place-high = omega arith; version_low = r.low; version-high = version-few size e.version r.high };
      few = omega arith;
    }
