-- A word of fields in the widths that fit it: no part is too large.
-- Assumes nothing.
use Rattle.std.proofs.Common.{ℕ, ◌+◌, ◌*◌, ◌%◌, ◌^◌, ◌<◌, ◌≤◌, arith, mod-lt}
use Rattle.std.proofs.Math.Nat.{mul-le-mul_left}
use Rattle.packing.specs.declared.Info.{Info}
use Rattle.packing.specs.Packed.{Widths, WordFits}

digit : (k a r m : ℕ) → a < k → r < m → a + k * r < k * m
digit k a r m h l = let q : r + 1 ≤ m = omega arith in omega (arith, mul-le-mul_left k q)

some-times : (k m : ℕ) → 0 < k → m ≤ k * m
some-times k m h = let q : 1 ≤ k = omega arith in omega (arith, mul-le-mul_left m q)

below : (a b c : ℕ) → a < b → b ≤ c → a < c
below a b c l m = omega arith

under : (a b c : ℕ) → a ≤ b → b ≤ c → a ≤ c
under a b c l m = omega arith

module _ (w : Widths) (i : Info) (f : WordFits w) where
  abbrev counts : ℕ
  counts = i.entries % w.entries + w.entries * (i.several % 2)

  abbrev versions : ℕ
  versions = i.version % w.version + w.version * counts

  abbrev places : ℕ
  places = i.place % w.place + w.place * versions

  versions-in : versions < w.version * (w.entries * 2)
  versions-in = digit w.version (i.version % w.version) counts (w.entries * 2) (mod-lt i.version f.version-some) (digit w.entries (i.entries % w.entries) (i.several % 2) 2 (mod-lt i.entries f.entries-some) (omega arith))

  places-in : places < w.place * (w.version * (w.entries * 2))
  places-in = digit w.place (i.place % w.place) versions (w.version * (w.entries * 2)) (mod-lt i.place f.place-some) versions-in

  pub word-fits : i.extent % w.extent + w.extent * places < 2 ^ 64
  word-fits = below _ _ _ (digit w.extent (i.extent % w.extent) places (w.place * (w.version * (w.entries * 2))) (mod-lt i.extent f.extent-some) places-in) f.word

  places-most : w.place * (w.version * (w.entries * 2)) ≤ 2 ^ 64
  places-most = under _ _ _ (some-times w.extent (w.place * (w.version * (w.entries * 2))) f.extent-some) f.word

  pub places-fit : places < 2 ^ 64
  places-fit = below _ _ _ places-in places-most

  pub versions-fit : versions < 2 ^ 64
  versions-fit = below _ _ _ versions-in (under _ _ _ (some-times w.place (w.version * (w.entries * 2)) f.place-some) places-most)
