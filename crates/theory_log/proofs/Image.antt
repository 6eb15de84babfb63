-- The entries of an image: a commit in one chunk puts its batch into the middle of the list.
-- Assumes nothing.
use mathlib.Core.Path.{◌≡◌, refl, sym, ◌∙◌, ap}
use mathlib.Core.List.{List, [], ◌∷◌, ◌++◌, append_assoc}
use Prim.Native.Nat.{ℕ, zero, suc, ◌+◌, ◌*◌, ◌<◌, ◌≤◌}
use native.Mathlib.Omega.{arith}
use lib.ListN.{length, replicate}
use lib.Seq.{slice}
use Rattle.spec.specs.Log.{Entry, Parsed, Wrong, Entries, cons, prepend, encode_all, placed, chunk_entries, join, all_from}
use Rattle.spec.specs.Places.{base}
use Rattle.spec.specs.Directory.{lines_of}
use Rattle.spec.specs.Contents.{Held, contents_by}
use Rattle.theory_log.specs.Batch.{AllRight}
use Rattle.theory_log.specs.Contents.{done, CountsOn}
use Rattle.theory_log.proofs.Parse.{prepend-entries}
use Rattle.theory_log.proofs.Batch.{parse-commit}
use Rattle.theory_log.proofs.Contents.{contents-batch}

pub prepend-wrong : (es : List Entry) → prepend es Wrong ≡ Wrong
prepend-wrong [] = refl
prepend-wrong (e ∷ es) = ap (cons e) (prepend-wrong es)

pub join-assoc : (p q r : Parsed) → join (join p q) r ≡ join p (join q r)
join-assoc Wrong q r = refl
join-assoc (Entries es) Wrong r = rw (prepend-wrong es)
join-assoc (Entries es) (Entries fs) Wrong = rw (prepend-entries es fs, prepend-wrong fs, prepend-wrong es, prepend-wrong (es ++ fs))
join-assoc (Entries es) (Entries fs) (Entries gs) = rw (prepend-entries es fs, prepend-entries fs gs, prepend-entries (es ++ fs) gs, prepend-entries es (fs ++ gs), append_assoc)

-- i chunks, then chunk d, then j chunks
pub all_split : (p i j c n d : ℕ) (ws : List ℕ) → n ≡ i + suc j → d ≡ c + i → all_from p n c ws ≡ join (all_from p i c ws) (join (chunk_entries p ws d) (all_from p j (suc d) ws))
all_split p zero j c n d ws h q = let h' : n ≡ suc j = omega arith in let q' : d ≡ c = omega arith in rw (h', q')
all_split p (suc i) j c n d ws h q =
    let h' : n ≡ suc (i + suc j) = omega arith in
    rw h' (ap (join (chunk_entries p ws c)) (all_split p i j (suc c) (i + suc j) d ws refl (omega arith)) ∙ sym (join-assoc (chunk_entries p ws c) (all_from p i (suc c) ws) _))

pub all-agree : (p n c : ℕ) (ws vs : List ℕ) → ((d : ℕ) → c ≤ d → d < c + n → chunk_entries p vs d ≡ chunk_entries p ws d) → all_from p n c vs ≡ all_from p n c ws
all-agree p zero c ws vs h = refl
all-agree p (suc n) c ws vs h = rw (h c (omega arith) (omega arith), all-agree p n (suc c) ws vs (λ d l u. h d (omega arith) (omega arith)))

-- what joins to entries is entries
pub record Joined (p q : Parsed) (es : List Entry) : Type 0 where
  pub left : List Entry
  pub right : List Entry
  pub is-left : p ≡ Entries left
  pub is_right : q ≡ Entries right
  pub whole : es ≡ left ++ right

pub join-inv : (p q : Parsed) (es : List Entry) → join p q ≡ Entries es → Joined p q es
join-inv Wrong q es h = absurd (let z : ◌≡◌ {A = ℕ} 0 1 = cc in omega arith)
join-inv (Entries xs) Wrong es h = absurd (let w = sym (prepend-wrong xs) ∙ h in let z : ◌≡◌ {A = ℕ} 0 1 = cc in omega arith)
join-inv (Entries xs) (Entries ys) es h = record { left = xs; right = ys; is-left = refl; is_right = refl; whole = (let w = sym (prepend-entries xs ys) ∙ h in cc) }

-- An image whose chunk d has a batch more behind its committed words, and which else is as before, holds what the
-- batch's items make of it.
pub commit-contents : (mean : Entry → Held) (p i j c n d z : ℕ) (ws vs : List ℕ) (es fs : List Entry) → n ≡ i + suc j → d ≡ c + i
    → ((e : ℕ) → (e ≡ d → ⊥) → chunk_entries p vs e ≡ chunk_entries p ws e)
    → slice (base p d) (base p d + 8 * lines_of p vs d) vs ≡ slice (base p d) (base p d + 8 * lines_of p ws d) ws ++ (encode_all fs ++ replicate z 0)
    → AllRight fs → all_from p n c ws ≡ Entries es
    → (at : ℕ) → at ≡ base p d + length (slice (base p d) (base p d + 8 * lines_of p ws d) ws) → CountsOn es (placed at fs)
    → (gs : List Entry) × (all_from p n c vs ≡ Entries gs) × ((k : ℕ) → contents_by mean gs k ≡ done mean (placed at fs) (contents_by mean es) k)
commit-contents mean p i j c n d z ws vs es fs h q others same right ok at place counts =
    go (join-inv _ _ es (sym (all_split p i j c n d ws h q) ∙ ok))
  where
    batch : List Entry
    batch = placed at fs

    Goal : Type 0
    Goal = (gs : List Entry) × (all_from p n c vs ≡ Entries gs) × ((k : ℕ) → contents_by mean gs k ≡ done mean batch (contents_by mean es) k)

    before : all_from p i c vs ≡ all_from p i c ws
    before = all-agree p i c ws vs (λ e l u. others e (λ x. omega arith))

    behind : all_from p j (suc d) vs ≡ all_from p j (suc d) ws
    behind = all-agree p j (suc d) ws vs (λ e l u. others e (λ x. omega arith))

    mine : (xs : List Entry) → chunk_entries p ws d ≡ Entries xs → chunk_entries p vs d ≡ Entries (xs ++ batch)
    mine xs g = rw (same, place) (parse-commit (slice (base p d) (base p d + 8 * lines_of p ws d) ws) xs fs z (base p d) g right)

    two : (as' : List Entry) → all_from p i c ws ≡ Entries as' → (rest : List Entry) → es ≡ as' ++ rest → Joined (chunk_entries p ws d) (all_from p j (suc d) ws) rest → Goal
    two as' g rest w r =
        let cs = r.left in
        let bs = r.right in
        let whole : es ≡ (as' ++ cs) ++ bs = w ∙ rw (r.whole, append_assoc) in
        let lists : as' ++ ((cs ++ batch) ++ bs) ≡ (as' ++ cs) ++ (batch ++ bs) = simp append_assoc in (
          (as' ++ cs) ++ (batch ++ bs),
          all_split p i j c n d vs h q ∙ rw (before, g, mine cs r.is-left, behind, r.is_right, prepend-entries (cs ++ batch) bs, prepend-entries as' ((cs ++ batch) ++ bs), lists),
          λ k. contents-batch mean batch (as' ++ cs) bs (rw whole at counts) k ∙ rw whole,
        )

    go : Joined (all_from p i c ws) (join (chunk_entries p ws d) (all_from p j (suc d) ws)) es → Goal
    go r = two r.left r.is-left r.right r.whole (join-inv _ _ r.right r.is_right)
