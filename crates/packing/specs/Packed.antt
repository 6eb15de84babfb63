-- The word that the key table holds of a key: five numbers packed into 64 bits, each with so many values. Its widths
-- are those of the chunks' size; the laws hold of any.
-- Assumes nothing.
--     field   | small  | large  | meaning
--     extent  | 8 bits | none   | one less than the bytes of a short value in the log; else 0: the entry says more
--     place   | 18     | 22     | the word number of the key's chosen top entry
--     version | 20     | 20     | that entry's
--     entries | 17     | 21     | how many entries of the key are committed
--     several | 1      | 1      | 1 if the key has several top entries
use Rattle.std.specs.Prelude.{◌≡◌, ℕ, ◌+◌, ◌*◌, ◌/◌, ◌%◌, ◌^◌, ◌<◌, ◌≤◌}
use Rattle.std.proofs.Common.{◌∙◌, ap, mod-lt, mod-eq_of_lt, zero-add, div-one, mul-pos, arith}
use Rattle.std.proofs.Math.Nat.{div-eq_of_lt, mod-add-div, add-mul-div_left, add-mul-mod_self_left, mod-one, mod-mod}
use Rattle.spec.specs.declared.Size.{Size}
use Rattle.spec.specs.declared.Size.TheVariants as S
use Rattle.packing.specs.declared.Info.{Info}

-- how many values each field has
pub record Widths : Type 0 where
  pub extent : ℕ
  pub place : ℕ
  pub version : ℕ
  pub entries : ℕ

abbrev pub widths : (extent place version entries : ℕ) → Widths
widths extent place version entries = record { extent = extent; place = place; version = version; entries = entries }

abbrev pub small_widths : Widths
small_widths = widths 0x100 0x4_0000 0x10_0000 0x2_0000

abbrev pub large_widths : Widths
large_widths = widths 1 0x40_0000 0x10_0000 0x20_0000

-- each field has a value, and all, with two of the last, fit a word
pub record WordFits (w : Widths) : Type 0 where
  pub extent-some : 0 < w.extent
  pub place-some : 0 < w.place
  pub version-some : 0 < w.version
  pub entries-some : 0 < w.entries
  pub word : w.extent * (w.place * (w.version * (w.entries * 2))) ≤ 2 ^ 64

abbrev pub widths_of : Size → Widths
widths_of S.Small = small_widths
widths_of S.Large = large_widths

-- a field that is too wide counts modulo its width
abbrev pub pack_by : Widths → Info → ℕ
pack_by w i =
    i.extent % w.extent + w.extent * (i.place % w.place + w.place * (i.version % w.version + w.version * (i.entries % w.entries + w.entries * (i.several % 2))))

abbrev pub unpack_by : Widths → ℕ → Info
unpack_by w x = record {
  extent = x % w.extent;
  place = x / w.extent % w.place;
  version = x / w.extent / w.place % w.version;
  entries = x / w.extent / w.place / w.version % w.entries;
  several = x / w.extent / w.place / w.version / w.entries;
}

-- the word of these numbers, and the numbers of a word, by the size
abbrev pub pack_of : Size → Info → ℕ
pack_of size i = pack_by (widths_of size) i

abbrev pub unpack_of : Size → ℕ → Info
unpack_of size x = unpack_by (widths_of size) x

-- the fields are no wider than their parts of the word
pub record NarrowBy (w : Widths) (i : Info) : Type 0 where
  pub extent-fits : i.extent < w.extent
  pub place-fits : i.place < w.place
  pub version-fits : i.version < w.version
  pub entries-fits : i.entries < w.entries
  pub several-fits : i.several < 2

abbrev pub Narrow : Size → Info → Type 0
Narrow size i = NarrowBy (widths_of size) i

-- a lowest digit a below k, and the rest r
low : (k a r : ℕ) → a < k → (a + k * r) % k ≡ a
low k a r h = add-mul-mod_self_left a k r ∙ mod-eq_of_lt h

rest : (k a r : ℕ) → a < k → (a + k * r) / k ≡ r
rest k a r h = let p : 0 < k = omega arith in add-mul-div_left a r p ∙ ap (λ (x : ℕ). x + r) (div-eq_of_lt h) ∙ zero-add r

-- a record comes back out of its word
unpack-pack-by : (w : Widths) (i : Info) → NarrowBy w i → unpack_by w (pack_by w i) ≡ i
unpack-pack-by w i h =
    let d = i.several in
    let c = i.entries + w.entries * d in
    let b = i.version + w.version * c in
    let a = i.place + w.place * b in
    let x = i.extent + w.extent * a in
    let e : pack_by w i ≡ x =
    rw (mod-eq_of_lt h.extent-fits, mod-eq_of_lt h.place-fits, mod-eq_of_lt h.version-fits, mod-eq_of_lt h.entries-fits, mod-eq_of_lt h.several-fits) in
    let q1 : x / w.extent ≡ a = rest w.extent i.extent a h.extent-fits in
    let q2 : x / w.extent / w.place ≡ b = ap (λ (y : ℕ). y / w.place) q1 ∙ rest w.place i.place b h.place-fits in
    let q3 : x / w.extent / w.place / w.version ≡ c = ap (λ (y : ℕ). y / w.version) q2 ∙ rest w.version i.version c h.version-fits in
    let q4 : x / w.extent / w.place / w.version / w.entries ≡ d = ap (λ (y : ℕ). y / w.entries) q3 ∙ rest w.entries i.entries d h.entries-fits in
    let v0 : x % w.extent ≡ i.extent = low w.extent i.extent a h.extent-fits in
    let v1 : x / w.extent % w.place ≡ i.place = ap (λ (y : ℕ). y % w.place) q1 ∙ low w.place i.place b h.place-fits in
    let v2 : x / w.extent / w.place % w.version ≡ i.version = ap (λ (y : ℕ). y % w.version) q2 ∙ low w.version i.version c h.version-fits in
    let v3 : x / w.extent / w.place / w.version % w.entries ≡ i.entries = ap (λ (y : ℕ). y % w.entries) q3 ∙ low w.entries i.entries d h.entries-fits in
    ap (unpack_by w) e ∙ (λ j. record { extent = v0 j; place = v1 j; version = v2 j; entries = v3 j; several = q4 j })

pub unpack-pack : (size : Size) (i : Info) → Narrow size i → unpack_of size (pack_of size i) ≡ i
unpack-pack size i h = unpack-pack-by (widths_of size) i h

-- and a word out of its record
pub pack-unpack : (w : Widths) (x : ℕ) → x / w.extent / w.place / w.version / w.entries < 2 → pack_by w (unpack_by w x) ≡ x
pack-unpack w x h =
    let a = x / w.extent in
    let b = a / w.place in
    let c = b / w.version in
    let d = c / w.entries in
    rw (mod-mod x w.extent, mod-mod a w.place, mod-mod b w.version, mod-mod c w.entries, mod-eq_of_lt h, mod-add-div c w.entries, mod-add-div b w.version, mod-add-div a w.place, mod-add-div x w.extent)

-- a word of 64 bits has its five fields, and five fields make one
pub unpack-narrow : (size : Size) (x : ℕ) → x < 0x1_0000_0000_0000_0000 → Narrow size (unpack_of size x)
unpack-narrow S.Small x l =
    let a : x / 0x100 < 0x100_0000_0000_0000 = omega arith in
    let b : x / 0x100 / 0x4_0000 < 0x40_0000_0000 = omega arith in
    let c : x / 0x100 / 0x4_0000 / 0x10_0000 < 0x4_0000 = omega arith in
    let d : x / 0x100 / 0x4_0000 / 0x10_0000 / 0x2_0000 < 2 = omega arith in
    record {
      extent-fits = omega arith;
      place-fits = mod-lt (x / 0x100) (omega arith);
      version-fits = mod-lt (x / 0x100 / 0x4_0000) (omega arith);
      entries-fits = mod-lt (x / 0x100 / 0x4_0000 / 0x10_0000) (omega arith);
      several-fits = d;
    }
unpack-narrow S.Large x l =
    let o = div-one x in
    let a : x / 1 < 0x1_0000_0000_0000_0000 = omega arith in
    let b : x / 1 / 0x40_0000 < 0x400_0000_0000 = omega arith in
    let c : x / 1 / 0x40_0000 / 0x10_0000 < 0x40_0000 = omega arith in
    let d : x / 1 / 0x40_0000 / 0x10_0000 / 0x20_0000 < 2 = omega arith in
    record {
      extent-fits = mod-lt x (omega arith);
      place-fits = mod-lt (x / 1) (omega arith);
      version-fits = mod-lt (x / 1 / 0x40_0000) (omega arith);
      entries-fits = mod-lt (x / 1 / 0x40_0000 / 0x10_0000) (omega arith);
      several-fits = d;
    }

-- for any word: none is wider than the widest of its kind
pub unpack-few : (size : Size) (x : ℕ) → ((unpack_of size x).place < 0x40_0000) × ((unpack_of size x).version < 0x10_0000) × ((unpack_of size x).entries < 0x20_0000)
unpack-few S.Small x =
    let a : x / 0x100 % 0x4_0000 < 0x4_0000 = mod-lt (x / 0x100) (omega arith) in
    let c : x / 0x100 / 0x4_0000 / 0x10_0000 % 0x2_0000 < 0x2_0000 = mod-lt (x / 0x100 / 0x4_0000 / 0x10_0000) (omega arith) in
    (omega arith, mod-lt (x / 0x100 / 0x4_0000) (omega arith), omega arith)
unpack-few S.Large x = (mod-lt (x / 1) (omega arith), mod-lt (x / 1 / 0x40_0000) (omega arith), mod-lt (x / 1 / 0x40_0000 / 0x10_0000) (omega arith))

pub extent-few : (size : Size) (x : ℕ) → (unpack_of size x).extent < 0x100
extent-few S.Small x = mod-lt x (omega arith)
extent-few S.Large x = let m : x % 1 < 1 = mod-lt x (omega arith) in omega arith

pub place-few : (size : Size) (x : ℕ) → (unpack_of size x).place < (widths_of size).place
place-few S.Small x = mod-lt (x / 0x100) (omega arith)
place-few S.Large x = mod-lt (x / 1) (omega arith)

pub pack-fits : (size : Size) (i : Info) → pack_of size i < 0x1_0000_0000_0000_0000
pack-fits S.Small i = omega arith
pack-fits S.Large i = let e = mod-one i.extent in omega arith

-- a place that is not 0 makes the word not 0, so that it can stand in the table
nonzero-by : (w : Widths) (i : Info) → 0 < w.extent → 0 < i.place → i.place < w.place → pack_by w i ≡ 0 → ⊥
nonzero-by w i e p l z =
    let r = i.version % w.version + w.version * (i.entries % w.entries + w.entries * (i.several % 2)) in
    let m : i.place % w.place ≡ i.place = mod-eq_of_lt l in
    let q : 0 < i.place % w.place + w.place * r = rw m (omega arith) in
    let t = mul-pos e q in
    omega arith

pub pack-nonzero : (size : Size) (i : Info) → 0 < i.place → i.place < (widths_of size).place → pack_of size i ≡ 0 → ⊥
pack-nonzero S.Small i p l z = nonzero-by small_widths i (omega arith) p l z
pack-nonzero S.Large i p l z = nonzero-by large_widths i (omega arith) p l z

-- at the large size there is no extent
pub large-unpacked : (x : ℕ)
    → ◌≡◌ {A = Info} (record { extent = 0; place = x % 0x40_0000; version = x / 0x40_0000 % 0x10_0000; entries = x / 0x40_0000 / 0x10_0000 % 0x20_0000; several = x / 0x40_0000 / 0x10_0000 / 0x20_0000 }) (unpack_by large_widths x)
large-unpacked x = let a = div-one x in let b = mod-one x in rw (a, b)
