-- The sums before and after a cleaning, key by key: the chunk's chosen entries are gone, and those of them that are
-- kept stand where the copies stand.
-- Assumes nothing.
use Rattle.std.proofs.Common.{◌≡◌, ℕ, ◌+◌, ◌-◌, ◌*◌, ◌%◌, ◌<◌, Bool, true, false, eqb, ◌⊎◌, List, [], ◌∷◌, ◌++◌, length, sym, refl, ap, ◌∙◌, inl, inr, arith, ne_eqb, eqb-true}
use mathlib.Core.Option.{Option, none, some}
use native.Mathlib.Nat.{add-mul-mod_self_left}
use Rattle.spec.specs.declared.Size.{Size}
use Rattle.spec.specs.declared.Size.TheVariants as S
use Rattle.places.specs.Sizes.{power_of}
use Rattle.spec.specs.Basics.{pick, either}
use Rattle.spec.specs.Places.{chunk_words, word_chunk}
use Rattle.spec.specs.Log.{Entry, moved}
use Rattle.spec.specs.Contents.{chosen, known, keys_of, in_chunk, is_kept}
use Rattle.theory_base.proofs.Lists.{not-both, either-no, is_in-mem}
use Rattle.theory_log.specs.Contents.{Mem}
use Rattle.theory_log.proofs.Contents.{mem-filter, chosen_is, none_of, chosen_none}
use Rattle.theory_log.proofs.Keys.{mem-known, known-mem, keys-known}
use Rattle.theory_log.proofs.Clean.{placed-mem}
use Rattle.packing.specs.Packed.{widths_of}
use Rattle.buffer.specs.Areas.{sums_count}
use Rattle.volatile.specs.Known.{several}
use Rattle.volatile.specs.Sums.{high_half, weight, share_in, sum_over, chosen_sum}
use Rattle.volatile.proofs.Chosen.{chosen-other}
use Rattle.volatile.proofs.Sums.{sum_same, sum-zero, sum-plus, sum_by, keys-once, Covers}
use Rattle.session.specs.Cleaned.{before, kept_of, copies_of, after, Cleaned, Moves}
use Rattle.volatile.specs.Change.{only, turned_weight, Turning}
use Rattle.apply.specs.Leaving.{Singles}
use Rattle.apply.proofs.Lists.{mid-in, others-in, others-out, before-cases, after-cases, apart, rising-mid, is-kept, origin, elsewhere-chosen, copy-chosen, gone}
use Rattle.forward.proofs.Weights.{put_words, copied_deletes, sum-times, Weights, weights}

-- a key of which some entries are taken out that are not its own
chosen-without : (k : ℕ) (xs mid ys : List Entry) → ((e : Entry) → Mem e mid → e.key ≡ k → ⊥) → chosen k (xs ++ (mid ++ ys)) ≡ chosen k (xs ++ ys)
chosen-without k xs [] ys h = refl
chosen-without k xs (e ∷ es) ys h = chosen-other k xs (es ++ ys) e (h e (inl refl)) ∙ chosen-without k xs es ys (λ f m. h f (inr m))

-- what a key adds to the copies
abbrev moved_share : (size : Size) → ℕ → List Entry → Option Entry → ℕ
moved_share size s others o = put_words size s o + high_half * copied_deletes size s others o

-- the chunk of a place of which the table's word can speak
chunk-low : (size : Size) (w : ℕ) → w < (widths_of size).place → word_chunk (power_of size) w % sums_count ≡ word_chunk (power_of size) w
unfolding word_chunk chunk_words
chunk-low S.Small w l = omega arith
chunk-low S.Large w l = omega arith

no-share : (b : Bool) (x : ℕ) → x ≡ 0 → pick b x 0 ≡ 0
no-share true x h = h
no-share false x h = refl

module _ (size : Size) (xs mid ys as' bs : List Entry) (at : ℕ) (t : Cleaned size xs mid ys as' bs at) (singles : Singles mid (before xs mid ys)) (s words : ℕ) (m : Moves size s words xs mid ys as' bs at) where
  abbrev es : List Entry
  es = before xs mid ys

  abbrev others : List Entry
  others = xs ++ ys

  abbrev out : List Entry
  out = after xs mid ys as' bs at

  abbrev kept : List Entry
  kept = kept_of xs mid ys

  abbrev copies : List Entry
  copies = copies_of xs mid ys at

  -- a key's chosen entry afterwards
  stays : (k : ℕ) (f : Entry) → chosen k es ≡ some f → Mem f others → chosen k out ≡ some f
  stays k f c n = go (known k mid) refl
    where
      go : (b : Bool) → known k mid ≡ b → chosen k out ≡ some f
      go true h =
          let r = known-mem k mid h in
          let z : several k es ≡ 0 = ap (λ (j : ℕ). several j es) (sym r.2) ∙ singles r.0 r.1 in
          elsewhere-chosen size xs mid ys as' bs at t k f c z n
      go false h =
          let none_here : (e : Entry) → Mem e mid → e.key ≡ k → ⊥ = λ e i q. not-both (known k mid) (mem-known k mid e i q) h in
          let no_copy : (d : Entry) → Mem d copies → d.key ≡ k → ⊥ = λ d i q. no d i q none_here in
          chosen-without k as' copies bs no_copy ∙ ap (chosen k) t.rest ∙ sym (chosen-without k xs mid ys none_here) ∙ c
        where
          no : (d : Entry) → Mem d copies → d.key ≡ k → ((e : Entry) → Mem e mid → e.key ≡ k → ⊥) → ⊥
          no d i q none_here =
              let o = origin size xs mid ys as' bs at t d i in
              let key : o.entry.key ≡ k = sym (ap (λ (e : Entry). e.key) o.is-copy) ∙ q in
              none_here o.entry (mem-filter (is_kept es others) o.entry mid o.member).0 key

  leaves_none : (k : ℕ) → chosen k es ≡ none → chosen k out ≡ none
  leaves_none k h = chosen_none k out (λ g i q. go g q (after-cases size xs mid ys as' bs at t g i))
    where
      go : (g : Entry) → g.key ≡ k → Mem g copies ⊎ Mem g others → ⊥
      go g q (inl a) =
          let o = origin size xs mid ys as' bs at t g a in
          let w : chosen k es ≡ some o.entry = ap (λ (j : ℕ). chosen j es) (sym q) ∙ o.is-chosen in
          let z : ◌≡◌ {A = ℕ} 0 1 = cc in
          omega arith
      go g q (inr b) = none_of k es g h (others-in size xs mid ys as' bs at t g b) q

  -- ONE KEY
  module _ (k : ℕ) where
    gone-share : share_in size s (chosen k out) ≡ 0
    gone-share = go (chosen k out) refl
      where
        go : (o : Option Entry) → chosen k out ≡ o → share_in size s o ≡ 0
        go none h = refl
        go (some e) h = rw (m.outside e (chosen_is k out e h).in_list)

    module _ (c : ℕ) (other : c ≡ s → ⊥) where
      turned : share_in size c (chosen k out) ≡ share_in size c (chosen k es) + pick (eqb (word_chunk (power_of size) at) c) (moved_share size s others (chosen k es)) 0
      turned = go (chosen k es) refl
        where
          go : (o : Option Entry) → chosen k es ≡ o → share_in size c (chosen k out) ≡ share_in size c o + pick (eqb (word_chunk (power_of size) at) c) (moved_share size s others o) 0
          go none h = let y = no-share (eqb (word_chunk (power_of size) at) c) (0 + high_half * 0) (omega arith) in rw (leaves_none k h) (omega (arith, y))
          go (some f) h = two (before-cases size xs mid ys as' bs at t f (chosen_is k es f h).in_list)
            where
              key : f.key ≡ k
              key = (chosen_is k es f h).of-key

              two : Mem f mid ⊎ Mem f others → share_in size c (chosen k out) ≡ share_in size c (some f) + pick (eqb (word_chunk (power_of size) at) c) (moved_share size s others (some f)) 0
              two (inr n) =
                  let away = m.outside f (others-out size xs mid ys as' bs at t f n) in
                  let z : moved_share size s others (some f) ≡ 0 = rw away (omega arith) in
                  let y = no-share (eqb (word_chunk (power_of size) at) c) (moved_share size s others (some f)) z in
                  ap (share_in size c) (stays k f h n) ∙ omega (arith, y)
              two (inl a) = three (either (eqb f.op 1) (known f.key others)) refl
                where
                  here : in_chunk (power_of size) s f ≡ true
                  here = m.inside f a

                  single : several k es ≡ 0
                  single = ap (λ (j : ℕ). several j es) (sym key) ∙ singles f a

                  not-here : in_chunk (power_of size) c f ≡ false
                  not-here = ne_eqb (word_chunk (power_of size) f.at) c (λ q. other (sym q ∙ eqb-true (word_chunk (power_of size) f.at) s here))

                  none_before : share_in size c (some f) ≡ 0
                  none_before = rw not-here

                  three : (b : Bool) → either (eqb f.op 1) (known f.key others) ≡ b → share_in size c (chosen k out) ≡ share_in size c (some f) + pick (eqb (word_chunk (power_of size) at) c) (moved_share size s others (some f)) 0
                  three false e =
                      let n = either-no (eqb f.op 1) (known f.key others) e in
                      let z : moved_share size s others (some f) ≡ 0 = rw (here, n.0, n.1) (omega arith) in
                      let y = no-share (eqb (word_chunk (power_of size) at) c) (moved_share size s others (some f)) z in
                      ap (share_in size c) (gone size xs mid ys as' bs at t k f h single e) ∙ omega (arith, y, none_before)
                  three true e =
                      let own : chosen f.key es ≡ some f = ap (λ (j : ℕ). chosen j es) key ∙ h in
                      let p = placed-mem f at kept (is-kept size xs mid ys as' bs at t f a own e) in
                      let d = moved p.0 f in
                      let w : chosen k out ≡ some (moved p.0 f) = copy-chosen size xs mid ys as' bs at t k f h single d p.1 key in
                      let place : word_chunk (power_of size) p.0 ≡ word_chunk (power_of size) at = m.together d p.1 in
                      let z : moved_share size s others (some f) ≡ weight f = rw here (all_moved (eqb f.op 1) (known f.key others) (2 + length f.value) e) in
                      ap (share_in size c) w ∙ rw (place, z) (omega (arith, none_before))
                    where
                      all_moved : (a b : Bool) (n : ℕ) → either a b ≡ true → pick a n 0 + high_half * pick a 0 (pick b n 0) ≡ pick a n (high_half * n)
                      all_moved true b n h = omega arith
                      all_moved false true n h = omega arith
                      all_moved false false n h = absurd (not-both true refl (sym h))

  -- ALL KEYS
  abbrev ks : List ℕ
  ks = keys_of es

  cover-out : (c : ℕ) → Covers ks (λ k. share_in size c (chosen k out))
  cover-out c k n = ap (share_in size c) (leaves_none k (go (chosen k es) refl))
    where
      go : (o : Option Entry) → chosen k es ≡ o → o ≡ none
      go none h = refl
      go (some e) h = let i = chosen_is k es e h in absurd (n (is_in-mem k ks (keys-known k es ∙ mem-known k es e i.in_list i.of-key)))

  kept-weights : Weights size s es others kept
  kept-weights =
      weights size s es others mid t.low t.high (rising-mid size xs mid ys as' bs at t) (apart size xs mid ys as' bs at t)
      (λ e i. (mid-in size xs mid ys as' bs at t e i, m.inside e i))
      (λ e i h. elim (before-cases size xs mid ys as' bs at t e i) [ inl a ↦ a | inr b ↦ absurd (not-both (in_chunk (power_of size) s e) h (m.outside e (others-out size xs mid ys as' bs at t e b))) ])

  share-total : (c : ℕ) → (c ≡ s → ⊥) → (ks : List ℕ) → sum_over (λ k. share_in size c (chosen k out)) ks
      ≡ sum_over (λ k. share_in size c (chosen k es)) ks + pick (eqb (word_chunk (power_of size) at) c) (sum_over (λ k. moved_share size s others (chosen k es)) ks) 0
  share-total c other ks = go (eqb (word_chunk (power_of size) at) c) (λ k. turned k c other)
    where
      go : (b : Bool) → ((k : ℕ) → share_in size c (chosen k out) ≡ share_in size c (chosen k es) + pick b (moved_share size s others (chosen k es)) 0)
          → sum_over (λ k. share_in size c (chosen k out)) ks ≡ sum_over (λ k. share_in size c (chosen k es)) ks + pick b (sum_over (λ k. moved_share size s others (chosen k es)) ks) 0
      go true h = sum-plus (λ k. share_in size c (chosen k es)) (λ k. moved_share size s others (chosen k es)) (λ k. share_in size c (chosen k out)) ks h
      go false h = let r = sum_same (λ k. share_in size c (chosen k out)) (λ k. share_in size c (chosen k es)) ks (λ k i. h k ∙ omega arith) in omega arith

  -- what the kept words weigh
  kept-puts : chosen_sum size s es % high_half ≡ kept-weights.puts
  kept-puts =
      let w = kept-weights in
      let a = w.words in
      let b = m.keeps in
      let f = m.few in
      let z : w.puts % high_half ≡ w.puts = omega arith in
      ap (λ (x : ℕ). x % high_half) w.sum ∙ add-mul-mod_self_left w.puts high_half w.deletes ∙ z

  moved-total : sum_over (λ k. moved_share size s others (chosen k es)) ks ≡ turned_weight (chosen_sum size s es) words
  moved-total =
      let w = kept-weights in
      let a = sum-plus (λ k. put_words size s (chosen k es)) (λ k. high_half * copied_deletes size s others (chosen k es)) (λ k. moved_share size s others (chosen k es)) ks (λ k. refl) in
      let b = sum-times high_half (λ k. copied_deletes size s others (chosen k es)) ks in
      let all : words ≡ w.puts + w.copied = m.keeps ∙ w.words in
      let rest : words - w.puts ≡ w.copied = omega arith in
      a ∙ ap (λ (x : ℕ). sum_over (λ k. put_words size s (chosen k es)) ks + x) b ∙ rw (kept-puts, rest, w.is-puts, w.is-copied)

  only-is : (w c : ℕ) → only size at w c ≡ pick (eqb (word_chunk (power_of size) at) c) w 0
  only-is w c = rw (chunk-low size at m.target)

  -- THE SUMS
  pub turning : Turning size s at words es out
  unfolding chosen_sum
  turning = record {
    source = m.source;
    target = m.target;
    few = m.few;
    puts = let w = kept-weights.words in let b = m.keeps in rw kept-puts (omega arith);
    gone = sum_by size s out ks (keys-once es) (cover-out s) ∙ sum-zero (λ k. share_in size s (chosen k out)) ks gone-share;
    others = λ c n.
        sum_by size c out ks (keys-once es) (cover-out c) ∙ share-total c n ks ∙ ap (λ (x : ℕ). sum_over (λ k. share_in size c (chosen k es)) ks + pick (eqb (word_chunk (power_of size) at) c) x 0) moved-total
        ∙ ap (λ (x : ℕ). sum_over (λ k. share_in size c (chosen k es)) ks + x) (sym (only-is (turned_weight (chosen_sum size s es) words) c));
  }
