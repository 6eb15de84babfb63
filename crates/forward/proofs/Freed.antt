-- A cleaning whose actions are done: where entries stand, and how many there are.
-- Assumes nothing.
use mathlib.Core.Path.{◌≡◌, refl, ◌∙◌}
use mathlib.Core.Logic.{◌⊎◌, inl, inr}
use mathlib.Core.Bool.{Bool, true, false}
use mathlib.Core.List.{List, [], ◌∷◌, ◌++◌}
use Prim.Native.Nat.{ℕ, suc, ◌+◌, ◌-◌, ◌*◌, ◌/◌, ◌≤◌, ◌<◌}
use native.Mathlib.Omega.{arith}
use lib.ListN.{length, length-append}
use lib.Seq.{slice}
use Rattle.spec.specs.declared.Size.{Size}
use Rattle.places.specs.Sizes.{power_of, power-low, power-high}
use Rattle.session.specs.Fits.{Opens}
use Rattle.spec.specs.Places.{base, chunk_words, chunk_lines, chunks_in}
use Rattle.spec.specs.Header.{header_right}
use Rattle.spec.specs.Directory.{lines_of}
use Rattle.spec.specs.Basics.{pick}
use Rattle.spec.specs.Log.{Entry, Entries, encode_all, chunk_entries, image_entries}
use Rattle.spec.specs.Contents.{is_kept}
use Rattle.spec.specs.Opening.{Opening, Refused, Accepted, open_log, directory_test}
use Rattle.spec.specs.declared.Refusal.{Refusal}
use Rattle.theory_log.specs.Contents.{Mem}
use Rattle.theory_log.proofs.Contents.{mem-l, mem-r, mem-cases}
use Rattle.theory_log.proofs.Batch.{parse-batch, entries-agree}
use Rattle.theory_log.proofs.Walk.{slice-long}
use Rattle.theory_log.proofs.Directory.{lines-most}
use Rattle.theory_log.proofs.Kept.{Parts, parts}
use Rattle.theory_log.proofs.Places.{chunk-sound, all_sound, right-filter}
use Rattle.theory_plans.proofs.Cleaning.{parse-words}
use Rattle.theory_base.proofs.Places.{lines-words, base-next, base-rises}
use Rattle.theory_crash.proofs.Opening.{ok-taken}
use Rattle.session.proofs.OpensRight.{opens-right}
use Rattle.packing.specs.Packed.{widths_of}
use Rattle.volatile.proofs.Image.{all-few, base-most, image_bounded}
use Rattle.session.specs.Cleaned.{before, kept_of, copies_of, after, Cleaned, Stand}
use Rattle.forward.specs.Freed.{Freed}

-- ## How many entries there are: each takes two words at least

two-words : (es : List Entry) → 2 * length es ≤ length (encode_all es)
two-words [] = omega arith
two-words (e ∷ es) = let r = two-words es in let a = length-append e.value (encode_all es) in omega arith

pub chunk-few : (sz : Size) → (ws : List ℕ) (c : ℕ) (es : List Entry) → chunk_entries (power_of sz) ws c ≡ Entries es → 2 * length es ≤ 8 * lines_of (power_of sz) ws c
chunk-few sz ws c es h =
    let a = two-words es in
    let b = parse-words (slice (base (power_of sz) c) (base (power_of sz) c + 8 * lines_of (power_of sz) ws c) ws) 0 (base (power_of sz) c) es h in
    let l = slice-long (base (power_of sz) c) (base (power_of sz) c + 8 * lines_of (power_of sz) ws c) ws in
    omega arith

pub lines-few : (sz : Size) → (ws : List ℕ) (c : ℕ) → lines_of (power_of sz) ws c ≤ chunk_lines (power_of sz)
lines-few sz ws c = lines-most (power_of sz) ws c

pub lines-in : (sz : Size) → (s n l : ℕ) → l ≤ chunk_lines (power_of sz) → s < n → base (power_of sz) s + 8 * l ≤ base (power_of sz) n
lines-in sz s n l a h =
    let w = lines-words (power_of sz) (power-low sz) (power-high sz) in
    let x = base-next (power_of sz) (power-low sz) (power-high sz) s in
    let y = base-rises (power_of sz) (power-low sz) (power-high sz) (suc s) n h in
    omega arith

-- ## An accepted image is accepted by its log

pub opened-log : (sz : Size) → (bytes n : ℕ) (ws : List ℕ) (table : ℕ) (es : List Entry) → chunks_in (power_of sz) bytes ≡ n → length ws ≡ bytes / 8 → Opens (power_of sz) bytes ws table es → open_log (power_of sz) n ws table (image_entries (power_of sz) n ws) ≡ Accepted es
opened-log sz bytes n ws table es q long h =
    let r = opens-right (power_of sz) bytes table ws es long h in
    let m = chunks_in (power_of sz) bytes in
    rw (← q) (go (header_right m ws) (directory_test (power_of sz) m ws) (open_log (power_of sz) m ws table (image_entries (power_of sz) m ws)) _ _ (ok-taken (power_of sz) m table ws es r.0 r.1))
  where
    go : (b d : Bool) (o : Opening) (x y : Refusal) → pick b (pick d o (Refused x)) (Refused y) ≡ Accepted es → o ≡ Accepted es
    go true true o x y e = e
    go true false o x y e = absurd (let w : ◌≡◌ {A = ℕ} 0 1 = cc in omega arith)
    go false d o x y e = absurd (let w : ◌≡◌ {A = ℕ} 0 1 = cc in omega arith)

-- ## The lists

module _ (sz : Size) (lo : 12 ≤ (power_of sz)) (hi : (power_of sz) ≤ 16) (n s at b z : ℕ) (old ws : List ℕ) (es xs mid ys as' bs : List Entry) (f : Freed sz lo hi n s at b z old ws es xs mid ys as' bs) where
  out : List Entry
  out = after xs mid ys as' bs at

  -- nothing stands in the freed chunk
  pub outside : (e : Entry) → Mem e (after xs mid ys as' bs at) → (e.at < base (power_of sz) s) ⊎ (base (power_of sz) s + chunk_words (power_of sz) ≤ e.at)
  outside e m = go (parts (power_of sz) lo hi n s ws (after xs mid ys as' bs at) f.low f.high f.ok.parsed)
    where
      none_here : (us : List Entry) → chunk_entries (power_of sz) ws s ≡ Entries us → us ≡ []
      none_here [] h = refl
      none_here (u ∷ us) h = let a = chunk-few sz ws s (u ∷ us) h in let l = f.free in absurd (omega arith)

      go : (xs' : List Entry) × (chunk : List Entry) × (ys' : List Entry) × Parts (power_of sz) lo hi n s ws (after xs mid ys as' bs at) xs' chunk ys' → (e.at < base (power_of sz) s) ⊎ (base (power_of sz) s + chunk_words (power_of sz) ≤ e.at)
      go (xs', chunk, ys', p) = two (mem-cases e xs' (chunk ++ ys') (rw p.whole at m))
        where
          two : Mem e xs' ⊎ Mem e (chunk ++ ys') → (e.at < base (power_of sz) s) ⊎ (base (power_of sz) s + chunk_words (power_of sz) ≤ e.at)
          two (inl k) = p.outside e (mem-l e xs' ys' k)
          two (inr k) = elim (mem-cases e chunk ys' k) [ inl c ↦ absurd (rw (none_here chunk p.mine) at c) | inr d ↦ p.outside e (mem-r e xs' ys' d) ]

  clear : (e g : Entry) → Mem e mid → Mem g (after xs mid ys as' bs at) → e.at ≡ g.at → ⊥
  clear e g m k q = go (f.parts.inside e m) (outside g k)
    where
      go : (base (power_of sz) s ≤ e.at) × (e.at < base (power_of sz) s + chunk_words (power_of sz)) → (g.at < base (power_of sz) s) ⊎ (base (power_of sz) s + chunk_words (power_of sz) ≤ g.at) → ⊥
      go (a, c) (inl l) = omega arith
      go (a, c) (inr l) = omega arith

  few : length mid + length (after xs mid ys as' bs at) < (widths_of sz).entries
  few =
      let a = all-few (power_of sz) lo hi (n - 1) 1 ws (after xs mid ys as' bs at) f.ok.parsed in
      let c = chunk-few sz old s mid f.parts.mine in
      let l = lines-few sz old s in
      let w = lines-words (power_of sz) lo hi in
      let x = base-next (power_of sz) lo hi 0 in
      let d = (base-most sz (1 + (n - 1)) (let m = f.ok.most in let b = f.low in let h = f.high in omega arith)).1 in
      omega arith

  pub cleaned : Cleaned sz xs mid ys as' bs at
  cleaned = record {
    rest = f.rest;
    low = base (power_of sz) 1;
    high = base (power_of sz) (1 + (n - 1));
    rising = rw f.parts.whole at (all_sound (power_of sz) lo hi (n - 1) 1 old es f.ok-old.parsed).rising;
    rising-after = (all_sound (power_of sz) lo hi (n - 1) 1 ws (after xs mid ys as' bs at) f.ok.parsed).rising;
    clear = clear;
    small = rw f.parts.whole at (image_bounded sz n old es f.ok-old.parsed f.ok-old.most);
    small-after = image_bounded sz n ws (after xs mid ys as' bs at) f.ok.parsed f.ok.most;
    few = few;
  }

  -- ## The words

  chunk_in : base (power_of sz) s + 8 * lines_of (power_of sz) old s ≤ base (power_of sz) n
  chunk_in = lines-in sz s n (lines_of (power_of sz) old s) (lines-few sz old s) f.high

  pub stands_here : Stand ws (base (power_of sz) s) (base (power_of sz) s + 8 * lines_of (power_of sz) old s) mid
  stands_here =
      let a = f.ok.long in
      let c = f.ok-old.long in
      let d = chunk_in in
      entries-agree ws old (base (power_of sz) s) (lines_of (power_of sz) old s) (rw a d) (rw c d) f.same ∙ f.parts.mine

  pub stands-copied : Stand ws at (at + 8 * b) (copies_of xs mid ys at)
  stands-copied =
      rw f.written (parse-batch (kept_of xs mid ys) z at (right-filter (is_kept (before xs mid ys) (xs ++ ys)) mid (chunk-sound (power_of sz) lo hi s old mid f.parts.mine).right))
