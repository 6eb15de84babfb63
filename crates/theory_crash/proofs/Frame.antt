-- The frame law: an image that agrees on the support is accepted alike, with the same entries and contents.
-- Assumes nothing.
use mathlib.Core.Path.{◌≡◌, refl, sym, ◌∙◌, ap}
use mathlib.Core.Logic.{◌⊎◌, inl, inr}
use mathlib.Core.Bool.{true}
use mathlib.Core.List.{List}
use Prim.Native.Nat.{ℕ, ◌+◌, ◌-◌, ◌*◌, ◌≤◌, ◌<◌}
use native.Mathlib.Omega.{arith}
use native.Mathlib.Decide.{dec_le}
use lib.ListN.{length, get_or}
use Rattle.spec.specs.Places.{chunk_words, base, unit_chunk, unit_word, directory_word, max_chunks}
use Rattle.spec.specs.Directory.{role_of, lines_in, directory_right, lines_of, size_of}
use Rattle.spec.specs.Log.{Entry, entries_of, chunk_entries}
use Rattle.spec.specs.Blocks.{pointed, block_words}
use Rattle.spec.specs.Contents.{contents_by, meaning}
use Rattle.spec.specs.Opening.{fine}
use Rattle.theory_log.specs.Contents.{Top}
use Rattle.theory_base.proofs.Places.{lines-words, base-apart, base-low, line-in}
use Rattle.theory_log.proofs.Batch.{entries-agree}
use Rattle.theory_log.proofs.Image.{all-agree}
use Rattle.theory_log.proofs.Directory.{lines-is, lines-most}
use Rattle.theory_log.proofs.Tops.{contents-mean}
use Rattle.theory_crash.specs.Accepted.{Calm, Ok, Support, Framed}
use Rattle.theory_crash.proofs.Directory.{lines-inside, header-agree, power-agree}
use Rattle.theory_crash.proofs.Blocks.{Fits, block-fits, needs-first, needs-move, fits_in, needs-only}

module _ (p : ℕ) (lo : 12 ≤ p) (hi : p ≤ 16) where
  -- a block that a top entry needs stands
  pub live-fits : (n : ℕ) (ws : List ℕ) (es : List Entry) → Ok p n ws es → (e : Entry) → Top es e → pointed e ≡ true → Fits p n e.field (size_of p ws (unit_chunk p e.field)) (get_or ws (unit_word e.field) 0)
  live-fits n ws es ok e t q = block-fits p n e.field (size_of p ws (unit_chunk p e.field)) (get_or ws (unit_word e.field) 0) _ (rw q at (ok.blocks e t))

  -- words of the directory and of chunks are words of the image
  pub directory-in : (n : ℕ) (ws : List ℕ) (es : List Entry) → Ok p n ws es → (c : ℕ) → c < max_chunks → directory_word c < length ws
  directory-in n ws es ok c l = let a = ok.least in let b = ok.long in let d = base-low p lo hi n (omega arith) in omega arith

  pub chunk_in : (n : ℕ) (ws : List ℕ) (es : List Entry) → Ok p n ws es → (c k : ℕ) → c < n → k < base p c + chunk_words p → k < length ws
  chunk_in n ws es ok c k l h = let b = ok.long in let d = base-apart p lo hi c n l in omega arith

  pub lines-in : (n : ℕ) (ws : List ℕ) (es : List Entry) → Ok p n ws es → (c : ℕ) → c < n → base p c + 8 * lines_of p ws c ≤ length ws
  lines-in n ws es ok c h =
      let l = lines-most p ws c in
      let w = lines-words p lo hi in
      let q = base-apart p lo hi c n h in
      let g = ok.long in
      omega arith

  pub support-in : (n : ℕ) (ws : List ℕ) (es : List Entry) → Ok p n ws es → (k : ℕ) → Support p n ws es k → k < length ws
  support-in n ws es ok k (inl s) = let d = directory-in n ws es ok 0 (omega arith) in omega arith
  support-in n ws es ok k (inr (inl (c, a, b, l, e))) = let m = ok.most in rw e (directory-in n ws es ok c (omega arith))
  support-in n ws es ok k (inr (inr (inl (c, a, b, l, u)))) = chunk_in n ws es ok c k b (line-in p lo hi c (lines_of p ws c) k (lines-most p ws c) (omega arith))
  support-in n ws es ok k (inr (inr (inr (e, t, (q, d))))) = go d
    where
      x : Fits p n e.field (size_of p ws (unit_chunk p e.field)) (get_or ws (unit_word e.field) 0)
      x = live-fits n ws es ok e t q

      go : (k ≡ directory_word (unit_chunk p e.field)) ⊎ ((unit_word e.field ≤ k) × (k < unit_word e.field + 1 + block_words ws e.field)) → k < length ws
      go (inl r) = let m = ok.most in let h = x.high in rw r (directory-in n ws es ok (unit_chunk p e.field) (omega arith))
      go (inr (l, u)) = rw ok.long (fits_in p lo hi n e.field _ _ k x l u).2

  module _ (n : ℕ) (ws : List ℕ) (es : List Entry) (vs : List ℕ) (ok : Ok p n ws es) (f : Framed p n ws es vs) where
    -- each directory word of vs: the same, or counting no lines in both
    word-cases : (c : ℕ) → c < max_chunks → (get_or vs (directory_word c) 0 ≡ get_or ws (directory_word c) 0) ⊎ ((lines_of p ws c ≡ 0) × Calm p n c (get_or vs (directory_word c) 0))
    word-cases c l = go (dec_le 1 (lines_of p ws c))
      where
        go : Dec (1 ≤ lines_of p ws c) → (get_or vs (directory_word c) 0 ≡ get_or ws (directory_word c) 0) ⊎ ((lines_of p ws c ≡ 0) × Calm p n c (get_or vs (directory_word c) 0))
        go (yes h) = let i = lines-inside p n c (get_or ws (directory_word c) 0) (ok.dirs c l) (rw (lines-is p ws c) at h) in inl (f.same (directory_word c) (inr (inl (c, i.0, i.1, h, refl))))
        go (no h) = let z : lines_of p ws c ≡ 0 = omega arith in inr (z, f.calm c l z)

    pub lines_same : (c : ℕ) → c < max_chunks → lines_of p vs c ≡ lines_of p ws c
    lines_same c l = go (word-cases c l)
      where
        go : (get_or vs (directory_word c) 0 ≡ get_or ws (directory_word c) 0) ⊎ ((lines_of p ws c ≡ 0) × Calm p n c (get_or vs (directory_word c) 0)) → lines_of p vs c ≡ lines_of p ws c
        go (inl e) = lines-is p vs c ∙ ap (λ (w : ℕ). lines_in (role_of p w)) e ∙ sym (lines-is p ws c)
        go (inr (z, q)) = lines-is p vs c ∙ q.1 ∙ sym z

    dirs-same : (c : ℕ) → c < max_chunks → directory_right p n c (get_or vs (directory_word c) 0) ≡ true
    dirs-same c l = go (word-cases c l)
      where
        go : (get_or vs (directory_word c) 0 ≡ get_or ws (directory_word c) 0) ⊎ ((lines_of p ws c ≡ 0) × Calm p n c (get_or vs (directory_word c) 0)) → directory_right p n c (get_or vs (directory_word c) 0) ≡ true
        go (inl e) = ap (directory_right p n c) e ∙ ok.dirs c l
        go (inr (z, q)) = q.0

    chunk-same : (c : ℕ) → 1 ≤ c → c < 1 + (n - 1) → chunk_entries p vs c ≡ chunk_entries p ws c
    chunk-same c a b =
        let least = ok.least in
        let most = ok.most in
        let here : c < n = omega arith in
        let end = lines-in n ws es ok c here in
        ap (entries_of vs (base p c)) (lines_same c (omega arith))
        ∙ entries-agree vs ws (base p c) (lines_of p ws c) (rw f.long end) end (λ i l u. f.same i (inr (inr (inl (c, a, here, l, u)))))

    live_same : (e : Entry) → Top es e → (fine p n vs e ≡ true) × (meaning vs e ≡ meaning ws e)
    live_same e t = needs-only p lo hi n ws vs e ok.long f.long (λ k d. f.same k (inr (inr (inr (e, t, d))))) (ok.blocks e t)

    -- THE FRAME LAW
    pub frame-ok : Ok p n vs es
    frame-ok = record {
      least = ok.least;
      most = ok.most;
      long = f.long ∙ ok.long;
      header = header-agree n ws vs (λ k l. f.same k (inl l)) ∙ ok.header;
      power = power-agree ws vs (λ k l. f.same k (inl l)) ∙ ok.power;
      dirs = dirs-same;
      parsed = all-agree p (n - 1) 1 ws vs chunk-same ∙ ok.parsed;
      blocks = λ e t. (live_same e t).0;
      agree = ok.agree;
      apart = ok.apart;
    }

    pub frame-contents : (k : ℕ) → contents_by (meaning vs) es k ≡ contents_by (meaning ws) es k
    frame-contents k = contents-mean (meaning ws) (meaning vs) es (λ e t. (live_same e t).1) k

    -- and has the same support
    pub frame-support : (k : ℕ) → Support p n vs es k → Support p n ws es k
    frame-support k (inl s) = inl s
    frame-support k (inr (inl (c, a, b, l, e))) = let m = ok.most in let z = lines_same c (omega arith) in inr (inl (c, a, b, (omega arith), e))
    frame-support k (inr (inr (inl (c, a, b, l, u)))) = let m = ok.most in let z = lines_same c (omega arith) in inr (inr (inl (c, a, b, l, omega arith)))
    frame-support k (inr (inr (inr (e, t, d)))) =
        inr (inr (inr (e, t, needs-move p ws vs e k (f.same (unit_word e.field) (inr (inr (inr (e, t, needs-first p ws e d.0))))) d)))
