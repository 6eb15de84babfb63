-- What the code shows of the sums when a chunk is cleaned.
-- Assumes nothing.
use Rattle.std.proofs.Common.{◌≡◌, ℕ, ◌+◌, ◌-◌, ◌*◌, ◌%◌, ◌^◌, ◌<◌, List, get_or, set, sym, ap, ◌∙◌, arith, length-set, get_or-set_other, get_or-set_same}
use mathlib.Core.Logic.{by_cases}
use native.Mathlib.Decide.{ℕ_discrete}
use Rattle.spec.specs.declared.Size.{Size}
use Rattle.spec.specs.Log.{Entry}
use Rattle.buffer.specs.Areas.{second_room, sums_start, sums_count}
use Rattle.volatile.specs.Sums.{high_half, chosen_sum, Summed}
use Rattle.volatile.specs.Change.{only, nothing, SumsAlone, Changed, turned_weight, Turning, TurnedOver}
use Rattle.volatile.proofs.Laws.{alone-then}

-- the chunk's own sum is put to 0
module _ (size : Size) (b d : List ℕ) (chunk place words : ℕ) (k : SumsAlone b d) where
  abbrev slot : ℕ
  slot = sums_start + chunk % sums_count

  abbrev f : List ℕ
  f = set d slot 0

  zeroed : SumsAlone d f
  zeroed = let n = k.size in let m = k.long in record { size = m ∙ n; long = length-set d slot 0; below = λ i l. get_or-set_other d slot i 0 0 (λ e. omega arith) }

  all-kept : SumsAlone b f
  all-kept = alone-then b d f k zeroed

  own-zero : chunk < sums_count → get_or f (sums_start + chunk) 0 ≡ 0
  own-zero l = let q : sums_start + chunk ≡ slot = omega arith in let n = k.size in let m = k.long in rw q (get_or-set_same d slot 0 0 (omega arith))

  other-same : (c : ℕ) → chunk < sums_count → (c ≡ chunk → ⊥) → get_or f (sums_start + c) 0 ≡ get_or d (sums_start + c) 0
  other-same c l n = get_or-set_other d slot (sums_start + c) 0 0 (λ e. n (omega arith))

  -- the words that are kept join the other chunk's sum
  pub turned : (sum puts all w : ℕ) → sum ≡ get_or b slot 0 → puts ≡ sum % high_half → all ≡ words % (2 * second_room) → w ≡ puts + high_half * (all - puts) → Changed b d (only size place w) nothing → TurnedOver size b f chunk place words
  turned sum puts all w is_sum is-puts is_all is-w change = record { kept = all-kept; turns = λ es out t s. record { each = each es out t s } }
    where
      each : (es out : List Entry) → Turning size chunk place words es out → Summed size b es → (c : ℕ) → c < sums_count → get_or f (sums_start + c) 0 ≡ chosen_sum size c out % 2 ^ 64
      each es out t s c l = by_cases (ℕ_discrete c chunk) own other
        where
          own : c ≡ chunk → get_or f (sums_start + c) 0 ≡ chosen_sum size c out % 2 ^ 64
          own e = rw e (own-zero t.source ∙ sym (ap (λ (x : ℕ). x % 2 ^ 64) t.gone))

          own-sum : puts ≡ chosen_sum size chunk es % high_half
          own-sum =
              let h = t.source in
              let q : sums_start + chunk ≡ slot = omega arith in
              let z : sum ≡ chosen_sum size chunk es % 2 ^ 64 = is_sum ∙ sym (ap (λ (i : ℕ). get_or b i 0) q) ∙ s.each chunk t.source in
              is-puts ∙ ap (λ (x : ℕ). x % high_half) z ∙ low (chosen_sum size chunk es)
            where
              low : (x : ℕ) → x % 2 ^ 64 % high_half ≡ x % high_half
              low x = omega arith

          weight : w ≡ turned_weight (chosen_sum size chunk es) words
          weight = let a : all ≡ words = is_all ∙ (let h = t.few in omega arith) in is-w ∙ rw (a, own-sum)

          other : (c ≡ chunk → ⊥) → get_or f (sums_start + c) 0 ≡ chosen_sum size c out % 2 ^ 64
          other n =
              let x = change.sums c l in
              let y = t.others c n in
              let g : chosen_sum size c out ≡ chosen_sum size c es + only size place w c = y ∙ ap (λ (v : ℕ). chosen_sum size c es + only size place v c) (sym weight) in
              let z = s.each c l in
              let v = change.narrow c l (omega arith) in
              other-same c t.source n ∙ close (get_or d (sums_start + c) 0) (get_or b (sums_start + c) 0) (only size place w c) (chosen_sum size c es) (chosen_sum size c out) x z g v
            where
              close : (d' b' o x y : ℕ) → (d' + 0) % 2 ^ 64 ≡ (b' + o) % 2 ^ 64 → b' ≡ x % 2 ^ 64 → y ≡ x + o → d' < 2 ^ 64 → d' ≡ y % 2 ^ 64
              close d' b' o x y p q r h = omega arith
