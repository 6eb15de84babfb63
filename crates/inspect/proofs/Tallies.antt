-- What is counted by the key table of an image is what its entries say.
-- Assumes nothing.
use Rattle.std.proofs.Common.{◌≡◌, ℕ, suc, ◌+◌, ◌%◌, ◌<◌, ◌≤◌, Bool, true, false, eqb, List, [], ◌∷◌, map, length, sym, refl, ap, ◌∙◌, inl, inr, arith, eq-eqb, ne_eqb, eqb-true}
use mathlib.Core.Option.{Option, none, some}
use Rattle.spec.specs.declared.Size.{Size}
use Rattle.spec.specs.declared.Size.TheVariants as S
use Rattle.places.specs.Sizes.{power_of, power-low, power-high}
use Rattle.spec.specs.Basics.{pick, both, either, negate, filter, any}
use Rattle.spec.specs.Places.{unit_chunk}
use Rattle.spec.specs.Log.{Entry, Entries, chunk_entries, image_entries}
use Rattle.spec.specs.Blocks.{pointed}
use Rattle.spec.specs.Contents.{chosen, is_at, in_chunk, is_top}
use Rattle.spec.specs.Plans.{has_live}
use Rattle.theory_log.specs.Contents.{Mem, Same}
use Rattle.theory_log.specs.Fold.{fold_e}
use Rattle.theory_base.proofs.Lists.{filter-length}
use Rattle.theory_log.proofs.Contents.{chosen_is, none_of, mem-filter}
use Rattle.theory_log.proofs.Kept.{parts, filter-mine}
use Rattle.theory_log.proofs.Tops.{top-is, is-top}
use Rattle.logs.proofs.Stands.{image-apart}
use Rattle.theory_crash.specs.Accepted.{Ok}
use Rattle.packing.specs.declared.Info.{Info}
use Rattle.index.specs.Index.{get}
use Rattle.packing.specs.Packed.{unpack_of}
use Rattle.volatile.specs.Known.{Bounded, Indexed}
use Rattle.volatile.proofs.Info.{info-says}
use Rattle.inspect.specs.declared.counts.Tally.{Tally}
use Rattle.inspect.specs.Rows.{count_of, is_chosen, is_live_put, is_live_delete, is_passed, is_live_block, tally_of, used_in}
use Rattle.inspect.specs.ChunkCounts.{chosen_by, more, nothing, count_next, points_into, tally_by, block_next, blocks_by}

-- ## Counting by one pass

abbrev count_up : (Entry → Bool) → ℕ → List Entry → ℕ
count_up test n [] = n
count_up test n (e ∷ es) = count_up test (more n (test e)) es

count-up : (test : Entry → Bool) (es : List Entry) (n : ℕ) → n + length es < 0x1_0000_0000_0000_0000 → count_up test n es ≡ n + count_of test es
count-up test [] n l = omega arith
count-up test (e ∷ es) n l = go (test e) (count-up test es)
  where
    go : (b : Bool) → ((m : ℕ) → m + length es < 0x1_0000_0000_0000_0000 → count_up test m es ≡ m + count_of test es)
        → count_up test (more n b) es ≡ n + length (pick b (e ∷ filter test es) (filter test es))
    go true h =
        let z : (n + 1) % 0x1_0000_0000_0000_0000 ≡ n + 1 = omega arith in
        let k = h (n + 1) (omega arith) in
        rw z (k ∙ omega arith)
    go false h = h n (omega arith)

same-filter : (p q : Entry → Bool) (es : List Entry) → ((e : Entry) → Mem e es → p e ≡ q e) → filter p es ≡ filter q es
same-filter p q [] h = refl
same-filter p q (e ∷ es) h = rw (h e (inl refl), same-filter p q es (λ f m. h f (inr m)))

counted : (p q : Entry → Bool) (es : List Entry) → length es < 0x20_0000 → ((e : Entry) → Mem e es → p e ≡ q e) → count_up p 0 es ≡ count_of q es
counted p q es few h = let c = count-up p es 0 (omega arith) in let s : count_of p es ≡ count_of q es = ap length (same-filter p q es h) in omega (arith, c, s)

-- so few are the entries of an image
few-most : (size : Size) (es : List Entry) → Bounded size es → length es < 0x20_0000
few-most S.Small es b = let f = b.few in omega arith
few-most S.Large es b = b.few

-- ## The passes, part by part

module _ (size : Size) (table : List ℕ) where
  abbrev live_by : Entry → Bool
  live_by e = both (chosen_by size table e.key e.at) (eqb e.op 1)

  abbrev delete_by : Entry → Bool
  delete_by e = both (chosen_by size table e.key e.at) (negate (eqb e.op 1))

  abbrev passed_by : Entry → Bool
  passed_by e = negate (chosen_by size table e.key e.at)

  abbrev block_by : ℕ → Entry → Bool
  block_by c e = both (chosen_by size table e.key e.at) (points_into size e.op e.placement e.field c)

  pass-live : (es : List Entry) (t : Tally) → (fold_e (count_next size table) t es).live ≡ count_up live_by t.live es
  pass-live [] t = refl
  pass-live (e ∷ es) t = pass-live es (count_next size table t e)

  pass-deletes : (es : List Entry) (t : Tally) → (fold_e (count_next size table) t es).deletes ≡ count_up delete_by t.deletes es
  pass-deletes [] t = refl
  pass-deletes (e ∷ es) t = pass-deletes es (count_next size table t e)

  pass-passed : (es : List Entry) (t : Tally) → (fold_e (count_next size table) t es).superseded ≡ count_up passed_by t.superseded es
  pass-passed [] t = refl
  pass-passed (e ∷ es) t = pass-passed es (count_next size table t e)

  pass-blocks : (c : ℕ) (es : List Entry) (n : ℕ) → fold_e (block_next size table c) n es ≡ count_up (block_by c) n es
  pass-blocks c [] n = refl
  pass-blocks c (e ∷ es) n = pass-blocks c es (block_next size table c n e)

-- ## The table of these entries

filter-both : (p q : Entry → Bool) (es : List Entry) → filter (λ e. both (p e) (q e)) es ≡ filter q (filter p es)
filter-both p q [] = refl
filter-both p q (e ∷ es) = rw (filter-both p q es) (go (p e))
  where
    go : (b : Bool) → pick (both b (q e)) (e ∷ filter q (filter p es)) (filter q (filter p es)) ≡ filter q (pick b (e ∷ filter p es) (filter p es))
    go true = refl
    go false = refl

module _ (size : Size) (table : List ℕ) (keys : ℕ) (es : List Entry) (small : Bounded size es) (known : Indexed size table keys es) where
  chosen-same : (e : Entry) → Mem e es → chosen_by size table e.key e.at ≡ is_chosen es e
  chosen-same e m = go (chosen e.key es) refl
    where
      go : (q : Option Entry) → chosen e.key es ≡ q → chosen_by size table e.key e.at ≡ is_at q e.at
      go none h = absurd (none_of e.key es e h m refl)
      go (some f) h =
          let s : (unpack_of size (get table e.key)).place ≡ f.at = ap (λ (w : ℕ). (unpack_of size w).place) (known.info e.key) ∙ ap (λ (i : Info). i.place) (info-says size e.key es small f h) in
          ap (λ (p : ℕ). eqb p e.at) s

  pub blocks-exact : (ws : List ℕ) (n c : ℕ) → image_entries (power_of size) n ws ≡ Entries es → blocks_by size ws table n c ≡ used_in (power_of size) es c
  unfolding blocks_by used_in
  blocks-exact ws n c h = rw h (pass-blocks size table c es 0 ∙ counted (block_by size table c) (is_live_block (power_of size) c es) es (few-most size es small) (λ e m. rw (chosen-same e m)))

  -- the chunk's own entries are those of all that stand in it
  module _ (ws : List ℕ) (n c : ℕ) (low : 1 ≤ c) (high : c < n) (h : image_entries (power_of size) n ws ≡ Entries es) where
    module _ (chunk : List Entry) (own : chunk_entries (power_of size) ws c ≡ Entries chunk) (mine : filter (in_chunk (power_of size) c) es ≡ chunk) where
      among : (e : Entry) → Mem e chunk → Mem e es
      among e m = (mem-filter (in_chunk (power_of size) c) e es (rw mine m)).0

      part : (p q : Entry → Bool) → ((e : Entry) → Mem e chunk → p e ≡ q e) → count_up p 0 chunk ≡ count_of (λ e. both (in_chunk (power_of size) c e) (q e)) es
      part p q same =
          let l = filter-length (in_chunk (power_of size) c) es in
          let k : length chunk ≡ length (filter (in_chunk (power_of size) c) es) = ap length (sym mine) in
          let f = few-most size es small in
          counted p q chunk (omega arith) same ∙ ap length (ap (filter q) (sym mine) ∙ sym (filter-both (in_chunk (power_of size) c) q es))

      tally-is : fold_e (count_next size table) nothing chunk ≡ tally_of (power_of size) es c
      unfolding tally_of
      tally-is = λ i. record { live = a i; deletes = b i; superseded = d i }
        where
          a : (fold_e (count_next size table) nothing chunk).live ≡ count_of (is_live_put (power_of size) c es) es
          a = pass-live size table chunk nothing ∙ part (live_by size table) (λ e. both (is_chosen es e) (eqb e.op 1)) (λ e m. rw (chosen-same e (among e m)))

          b : (fold_e (count_next size table) nothing chunk).deletes ≡ count_of (is_live_delete (power_of size) c es) es
          b = pass-deletes size table chunk nothing ∙ part (delete_by size table) (λ e. both (is_chosen es e) (negate (eqb e.op 1))) (λ e m. rw (chosen-same e (among e m)))

          d : (fold_e (count_next size table) nothing chunk).superseded ≡ count_of (is_passed (power_of size) c es) es
          d = pass-passed size table chunk nothing ∙ part (passed_by size table) (λ e. negate (is_chosen es e)) (λ e m. rw (chosen-same e (among e m)))

    pub tally-exact : tally_by size ws table c ≡ tally_of (power_of size) es c
    unfolding tally_by
    tally-exact =
        let q = parts (power_of size) (power-low size) (power-high size) n c ws es low high h in
        let mine = filter-mine (power_of size) (power-low size) (power-high size) n c ws es q.0 q.1 q.2 q.3 in
        rw q.3.mine (tally-is q.1 q.3.mine mine)

-- ## No live block is counted where a cleaning finds none

none-counted : (t : Entry → Bool) (es : List Entry) → eqb (count_of t es) 0 ≡ negate (any t es)
none-counted t [] = refl
none-counted t (e ∷ es) = go (t e) (none-counted t es)
  where
    go : (b : Bool) → eqb (count_of t es) 0 ≡ negate (any t es) → eqb (length (pick b (e ∷ filter t es) (filter t es))) 0 ≡ negate (either b (any t es))
    go true h = ne_eqb (suc (count_of t es)) 0 (λ z. omega arith)
    go false h = h

module _ (u : ℕ → Bool) (p q : Entry → Bool) where
  abbrev taken : List Entry → Bool
  taken es = any u (map (λ (e : Entry). e.field) (filter p (filter q es)))

  abbrev all_three : Entry → Bool
  all_three e = both (q e) (both (p e) (u e.field))

  any-filter : (es : List Entry) → taken es ≡ any all_three es
  any-filter [] = refl
  any-filter (e ∷ es) = outer (q e) (any-filter es)
    where
      inner : (b : Bool) → taken es ≡ any all_three es
          → any u (map (λ (e : Entry). e.field) (pick b (e ∷ filter p (filter q es)) (filter p (filter q es)))) ≡ either (both b (u e.field)) (any all_three es)
      inner true h = ap (either (u e.field)) h
      inner false h = h

      outer : (a : Bool) → taken es ≡ any all_three es
          → any u (map (λ (e : Entry). e.field) (filter p (pick a (e ∷ filter q es) (filter q es)))) ≡ either (both a (both (p e) (u e.field))) (any all_three es)
      outer true h = inner (p e) h
      outer false h = h

-- an entry of which a test holds
found-any : (t : Entry → Bool) (es : List Entry) → any t es ≡ true → (e : Entry) × Mem e es × (t e ≡ true)
found-any t [] h = absurd (let z : ◌≡◌ {A = ℕ} 0 1 = cc in omega arith)
found-any t (e ∷ es) h = go (t e) refl (found-any t es) h
  where
    go : (b : Bool) → t e ≡ b → (any t es ≡ true → (f : Entry) × Mem f es × (t f ≡ true)) → either b (any t es) ≡ true → (f : Entry) × Mem f (e ∷ es) × (t f ≡ true)
    go true q r k = (e, inl refl, q)
    go false q r k = let x = r k in (x.0, inr x.1, x.2)

any_found : (t : Entry → Bool) (es : List Entry) (e : Entry) → Mem e es → t e ≡ true → any t es ≡ true
any_found t [] e m h = absurd m
any_found t (x ∷ es) e (inl q) h = rw (← q, h)
any_found t (x ∷ es) e (inr m) h = rw (any_found t es e m h) (go (t x))
  where
    go : (b : Bool) → either b true ≡ true
    go true = refl
    go false = refl

same_truth : (a b : Bool) → (a ≡ true → b ≡ true) → (b ≡ true → a ≡ true) → a ≡ b
same_truth true b f g = sym (f refl)
same_truth false true f g = g refl
same_truth false false f g = refl

both-parts : (a b : Bool) → both a b ≡ true → (a ≡ true) × (b ≡ true)
both-parts true b h = (refl, h)
both-parts false b h = absurd (let z : ◌≡◌ {A = ℕ} 0 1 = cc in omega arith)

module _ (size : Size) (n : ℕ) (ws : List ℕ) (es : List Entry) (ok : Ok (power_of size) n ws es) (c : ℕ) where
  abbrev into : Entry → Bool
  into e = both (pointed e) (eqb (unit_chunk (power_of size) e.field) c)

  -- the entry that the register goes by is a top entry, and every top entry is one with it but for its place
  chosen-top : (e : Entry) → Mem e es → is_live_block (power_of size) c es e ≡ true → any (λ f. both (is_top es f) (into f)) es ≡ true
  chosen-top e m h = go (chosen e.key es) refl (both-parts (is_chosen es e) (into e) h)
    where
      go : (q : Option Entry) → chosen e.key es ≡ q → (is_at q e.at ≡ true) × (into e ≡ true) → any (λ f. both (is_top es f) (into f)) es ≡ true
      go none x y = absurd (none_of e.key es e x m refl)
      go (some f) x y =
          let k = chosen_is e.key es f x in
          let same : e ≡ f = image-apart (power_of size) (power-low size) (power-high size) n ws es ok.parsed e f m k.in_list (sym (eqb-true f.at e.at y.0)) in
          let v : e.version ≡ f.version = ap (λ (x : Entry). x.version) same in
          any_found (λ f. both (is_top es f) (into f)) es e m (rw (top-is es e (m, λ g mg kg. let l = k.above g mg kg in omega arith)) y.1)

  top-chosen : (e : Entry) → Mem e es → both (is_top es e) (into e) ≡ true → any (is_live_block (power_of size) c es) es ≡ true
  top-chosen e m h = go (chosen e.key es) refl (both-parts (is_top es e) (into e) h)
    where
      go : (q : Option Entry) → chosen e.key es ≡ q → (is_top es e ≡ true) × (into e ≡ true) → any (is_live_block (power_of size) c es) es ≡ true
      go none x y = absurd (none_of e.key es e x m refl)
      go (some f) x y =
          let k = chosen_is e.key es f x in
          let t = is-top es e m y.0 in
          let low = k.above e m refl in
          let high = t.1 f k.in_list k.of-key in
          let v : e.version ≡ f.version = omega arith in
          let same : Same e f = ok.agree e.key f e x m refl v in
          let own : chosen f.key es ≡ some f = ap (λ (j : ℕ). chosen j es) k.of-key ∙ x in
          any_found (is_live_block (power_of size) c es) es f k.in_list (rw (own, eq-eqb f.at f.at refl) (sym (ap into same) ∙ y.1))

  pub live-counted : eqb (used_in (power_of size) es c) 0 ≡ negate (has_live (power_of size) es c)
  unfolding used_in
  live-counted =
      none-counted (is_live_block (power_of size) c es) es ∙ ap negate (same_truth (any (is_live_block (power_of size) c es) es) (any (λ f. both (is_top es f) (into f)) es)
      (λ h. let x = found-any (is_live_block (power_of size) c es) es h in chosen-top x.0 x.1 x.2)
      (λ h. let x = found-any (λ f. both (is_top es f) (into f)) es h in top-chosen x.0 x.1 x.2)
      ∙ sym (any-filter (λ u. eqb (unit_chunk (power_of size) u) c) pointed (is_top es) es))
