-- What is measured of a whole chunk is what a cleaning of it keeps.
-- Assumes nothing.
use Rattle.std.proofs.Common.{◌≡◌, ℕ, ◌+◌, ◌*◌, ◌%◌, ◌<◌, ◌≤◌, List, length, sym, ◌∙◌, arith}
use Rattle.spec.specs.declared.Size.{Size}
use Rattle.places.specs.Sizes.{power_of, power-low, power-high}
use Rattle.spec.specs.Places.{base}
use Rattle.spec.specs.Directory.{lines_of}
use Rattle.spec.specs.Log.{Entry, encode_all}
use Rattle.spec.specs.Contents.{kept_in}
use Rattle.theory_base.proofs.Places.{lines-words}
use Rattle.theory_log.proofs.Kept.{Parts, parts, kept-is}
use Rattle.theory_crash.specs.Accepted.{Ok}
use Rattle.volatile.specs.Known.{Indexed}
use Rattle.volatile.proofs.Image.{image_bounded}
use Rattle.session.specs.Cleaned.{kept_of}
use Rattle.forward.proofs.Freed.{lines-few}
use Rattle.gathering.specs.declared.measure.Tally.{Tally}
use Rattle.gathering.specs.Measuring.{Gatherable, Measured}

words-from : (size : Size) → (s m : ℕ) → s < m → m ≤ 504 → base (power_of size) (s % 512) ≡ base (power_of size) s
words-from size s m h l = let e : s % 512 ≡ s = omega arith in rw e

-- what is kept of chunk c is what the definition keeps
pub gathered-kept : (size : Size) → (lo : 12 ≤ power_of size) (hi : power_of size ≤ 16) (n c : ℕ) (ws : List ℕ) (es xs mid ys : List Entry) → Parts (power_of size) lo hi n c ws es xs mid ys → kept_of xs mid ys ≡ kept_in (power_of size) c es
gathered-kept size lo hi n c ws es xs mid ys p = sym (kept-is (power_of size) lo hi n c ws es xs mid ys p ∙ rw p.whole)

-- chunk s, whose committed words are those from `at` to `end`
module _ (size : Size) (n s at end keys : ℕ) (ws table : List ℕ) (es : List Entry) (ok : Ok (power_of size) n ws es) (indexed : Indexed size table keys es) (low : 1 ≤ s) (high : s < n) (ea : at ≡ base (power_of size) (s % 512)) (ee : end ≡ at + 8 * lines_of (power_of size) ws s) where
  at-is : at ≡ base (power_of size) s
  at-is = ea ∙ words-from size s n high ok.most

  end_is : end ≡ base (power_of size) s + 8 * lines_of (power_of size) ws s
  end_is = let a = at-is in omega arith

  pub gatherable : (xs mid ys : List Entry) → Parts (power_of size) (power-low size) (power-high size) n s ws es xs mid ys → Gatherable size ws table keys at end xs mid ys
  gatherable xs mid ys p = record {
    here = rw (end_is, at-is) p.mine;
    short = let l = lines-few size ws s in let w = lines-words (power_of size) (power-low size) (power-high size) in omega arith;
    indexed = rw p.whole at indexed;
    small = rw p.whole at (image_bounded size n ws es ok.parsed ok.most);
  }

  pub chunk-measured : (t : Tally) → Measured size ws table at end t → (t.words ≡ length (encode_all (kept_in (power_of size) s es))) × (t.entries ≡ length (kept_in (power_of size) s es))
  chunk-measured t m = go (parts (power_of size) (power-low size) (power-high size) n s ws es low high ok.parsed)
    where
      go : (xs : List Entry) × (mid : List Entry) × (ys : List Entry) × Parts (power_of size) (power-low size) (power-high size) n s ws es xs mid ys → (t.words ≡ length (encode_all (kept_in (power_of size) s es))) × (t.entries ≡ length (kept_in (power_of size) s es))
      go (xs, mid, ys, p) = rw (gathered-kept size (power-low size) (power-high size) n s ws es xs mid ys p) at (m.measures keys xs mid ys (gatherable xs mid ys p))
