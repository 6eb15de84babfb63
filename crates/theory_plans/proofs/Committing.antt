-- A commit does the book's staged items in order.
-- Assumes nothing.
use Rattle.std.proofs.lemmas.Bool.Decides.{nat_tests}
use mathlib.Core.Path.{◌≡◌, refl, sym, ◌∙◌, ap}
use mathlib.Core.Logic.{◌⊎◌, inl, inr}
use mathlib.Core.Bool.{true}
use mathlib.Core.Option.{Option, none, some}
use mathlib.Core.List.{List, [], ◌∷◌, ◌++◌, map, map-append}
use Prim.Native.Nat.{ℕ, suc, ◌+◌, ◌*◌, ◌≤◌, ◌<◌}
use native.Mathlib.Omega.{arith}
use lib.ListN.{length, get_or}
use Rattle.spec.specs.Basics.{distinct, larger}
use Rattle.spec.specs.Places.{base, chunk_lines, directory_word, max_chunks}
use Rattle.spec.specs.Medium.{Action, Medium, run, latest, cell_at}
use Rattle.spec.specs.Directory.{lines_of}
use Rattle.spec.specs.Log.{Entry, encode_all, moved, placed}
use Rattle.spec.specs.Blocks.{pointed}
use Rattle.spec.specs.Contents.{Held, highest, meaning, capacity, keys_of, entries_in}
use Rattle.spec.specs.Opening.{fine}
use Rattle.spec.specs.Actions.{lines_for, append_of}
use Rattle.spec.specs.Plans.{Task, Committing, Olds, old_of, olds_of, Begin, append_to, free_needed, log_place, commit_at, plan_commit}
use Rattle.spec.specs.Book.{Item, done_items}
use Rattle.theory_base.proofs.Places.{lines-least}
use Rattle.theory_base.proofs.Through.{Through, through-map, through-end}
use Rattle.theory_log.specs.Contents.{Mem, Top, CountsOn, done}
use Rattle.theory_log.proofs.Clean.{mem-placed}
use Rattle.theory_log.proofs.Contents.{highest-append, highest-placed, highest-among}
use Rattle.theory_crash.specs.Accepted.{Needs}
use Rattle.theory_crash.specs.Batch.{Place}
use Rattle.theory_crash.specs.Rest.{Rests, Cuts, Joined}
use Rattle.theory_crash.proofs.Append.{some-lines, commit-append, append_left}
use Rattle.theory_crash.proofs.View.{append-shy}
use Rattle.theory_crash.proofs.Effects as E
use Rattle.theory_plans.specs.Standing.{key_list, item_of, Standing, Going, Reading}
use Rattle.theory_plans.proofs.Between.{rests-stand, stand-entries}
use Rattle.theory_plans.proofs.LogPlace.{log-place}
use Rattle.theory_plans.proofs.Reading.{shy-reads}

-- Contents that are the same at each key.
cuts-same : (p n keys : ℕ) (C D D' : ℕ → Held) → ((k : ℕ) → D k ≡ D' k) → (m : Medium) → Cuts p n keys C D m → Cuts p n keys C D' m
cuts-same p n keys C D D' same m h xs t = grind (arith, nat_tests)

rests-same : (p n keys : ℕ) (C D : ℕ → Held) (m : Medium) → ((k : ℕ) → C k ≡ D k) → Rests p n keys C m → Rests p n keys D m
rests-same p n keys C D m same ((ws, es, rest, few, holds), flushed) = ((ws, es, rest, few, λ k. holds k ∙ same k), flushed)

-- A CALL THAT ENDS AT REST goes
pub rests-going : (p n table : ℕ) (C D D' : ℕ → Held) (acts : List Action) (m : Medium) → ((k : ℕ) → D k ≡ D' k)
    → Through (Cuts p n (capacity table) C D) (Rests p n (capacity table) D) acts m → Going p n table C D' [] [] acts m
rests-going p n table C D D' acts m same t =
    through-map (Cuts p n (capacity table) C D) (Cuts p n (capacity table) C D') (Rests p n (capacity table) D) (Standing p n table D' [] []) acts m
    (cuts-same p n (capacity table) C D D' same) (λ r. rests-stand p n table D' (run acts m) (rests-same p n (capacity table) D D' (run acts m) same r)) t

-- Placed items count on as the items do, and do what the book says of them.
counts-placed : (es fs items : List Entry) (at : ℕ) → ((k : ℕ) → highest k es ≡ highest k fs) → CountsOn es items → CountsOn fs (placed at items)
counts-placed es fs [] at h c = tt
counts-placed es fs (e ∷ items) at h c = (c.0 ∙ ap suc (h e.key), counts-placed (e ∷ es) (moved at e ∷ fs) items (at + (2 + length e.value)) (λ k. rw (h k)) c.1)

done-placed : (ws : List ℕ) (items : List Entry) (at : ℕ) (C : ℕ → Held) (k : ℕ) → done (meaning ws) (placed at items) C k ≡ done_items (map (item_of ws) items) C k
done-placed ws [] at C k = refl
done-placed ws (e ∷ items) at C k = done-placed ws items (at + (2 + length e.value)) _ k

keys-joined : (items es : List Entry) → length (keys_of (items ++ es)) ≡ length (distinct (key_list items ++ key_list es))
keys-joined items es = ap (λ (l : List ℕ). length (distinct l)) (map-append (λ (e : Entry). e.key) items es)

module _ (p : ℕ) (lo : 12 ≤ p) (hi : p ≤ 16) (n table : ℕ) (C : ℕ → Held) (book : List Item) (m : Medium) where
  -- the items f ∷ fs go to the place d
  module _ (f : Entry) (fs : List Entry) (s : Standing p n table C book (f ∷ fs) m) (d old : ℕ) (place : Place p n d (lines_for (length (encode_all (f ∷ fs)))) s.words) where
    abbrev items : List Entry
    items = f ∷ fs

    abbrev ws : List ℕ
    ws = s.words

    abbrev es : List Entry
    es = s.entries

    abbrev at' : ℕ
    at' = base p d + 8 * lines_of p ws d

    few : length (keys_of (items ++ es)) ≤ capacity table
    few = let e = keys-joined items es in let k = s.keys in omega arith

    blocks : (e : Entry) → Mem e (placed at' items) → fine p n ws e ≡ true
    blocks e i = let o = mem-placed e at' items i in ap (fine p n ws) o.3 ∙ s.staged.blocks o.0 o.1

    flushed : (e : Entry) → Mem e (placed at' items) → (k : ℕ) → Needs p ws e k → (cell_at m k).newer ≡ []
    flushed e i k need = let o = mem-placed e at' items i in s.staged.flushed o.0 o.1 k (rw o.3 at need)

    own : (e g : Entry) → Mem e (placed at' items) → Mem g (placed at' items) ⊎ Top es g → pointed e ≡ true → pointed g ≡ true → e.field ≡ g.field → e.key ≡ g.key
    own e g i (inr t) a b q = let o = mem-placed e at' items i in absurd (s.staged.dead o.0 g o.1 t (sym (ap pointed o.3) ∙ a) b (sym (ap (λ (y : Entry). y.field) o.3) ∙ q))
    own e g i (inl j) a b q =
        let o = mem-placed e at' items i in
        let v = mem-placed g at' items j in
        let same = s.staged.own o.0 v.0 o.1 v.1 (sym (ap pointed o.3) ∙ a) (sym (ap pointed v.3) ∙ b) (sym (ap (λ (y : Entry). y.field) o.3) ∙ q ∙ ap (λ (y : Entry). y.field) v.3) in
        ap (λ (y : Entry). y.key) o.3 ∙ ap (λ (y : Entry). y.key) same ∙ sym (ap (λ (y : Entry). y.key) v.3)

    abbrev acts' : List Action
    acts' = append_of p d old (lines_of p ws d) (encode_all items)

    abbrev D : ℕ → Held
    D = done (meaning ws) (placed at' items) C

    abbrev Joins : Medium → Type 0
    Joins m' = Rests p n (capacity table) D m' × Joined p n es (placed at' items) m'

    append-joins : Through (Cuts p n (capacity table) C D) Joins acts' m
    append-joins =
        commit-append p lo hi n (capacity table) C ws es m s.rest s.holds s.flushed d old items (λ mean c. done mean (placed at' items) c)
        place (some-lines f fs) s.staged.right few (E.items es (placed at' items) (counts-placed es es items at' (λ k. refl) s.staged.counts)) blocks own flushed

    append-going : Going p n table C (done_items book C) [] [] acts' m
    append-going =
        rests-going p n table C D (done_items book C) acts' m (λ k. done-placed ws items at' C k ∙ ap (λ (b : List Item). done_items b C k) s.booked)
        (through-map (Cuts p n (capacity table) C D) (Cuts p n (capacity table) C D) Joins (Rests p n (capacity table) D) acts' m (λ m' t. t) (λ t. t.0) append-joins)

    append-versions : (k : ℕ) → highest k (entries_in p n (latest (run acts' m))) ≡ highest k (es ++ items)
    append-versions k =
        let (before, (behind, (split, joined))) = (through-end (Cuts p n (capacity table) C D) Joins acts' m append-joins).1 in
        ap (highest k) joined
        ∙ highest-among k before (placed at' items) behind
        ∙ ap (λ (l : List Entry). highest k (l ++ placed at' items)) (sym split)
        ∙ highest-append k es (placed at' items)
        ∙ ap (larger (highest k es)) (highest-placed k at' items)
        ∙ sym (highest-append k es items)

    append-reads : Reading p n table C ws (old_of ws d ∷ []) acts' m
    append-reads =
        let low : d < max_chunks = (let a = place.high in let b = s.rest.ok.most in omega arith) in
        shy-reads p lo hi n table C book items m s (old_of ws d ∷ []) acts' (refl, tt) (low, tt)
        (append-shy p lo hi n ws es s.rest.ok (old_of ws d ∷ []) (low, tt) d old (encode_all items) place (inl refl))
        (append_left p lo hi n (capacity table) C ws es m s.rest s.holds s.flushed d old items (λ mean c. done mean (placed at' items) c)
        place (some-lines f fs) s.staged.right few (E.items es (placed at' items) (counts-placed es es items at' (λ k. refl) s.staged.counts)) blocks own flushed)

  -- WHAT A COMMIT THAT BEGINS DOES, over an image ws with entries es: the items stay as they are, its end does them and
  -- has their versions among its entries' as among the staged ones; until its last fence look-up reads the image before
  record Commits (ws : List ℕ) (es items items' : List Entry) (task : Task) (acts : List Action) : Type 0 where
    pub same : items' ≡ items
    pub tasked : (olds : Olds) × (task ≡ Committing olds)
    pub going : Going p n table C (done_items book C) [] [] acts m
    pub reads : Reading p n table C ws (olds_of task) acts m
    pub versions : (k : ℕ) → highest k (entries_in p n (latest (run acts m))) ≡ highest k (es ++ items)

  commit-plan : (items items' : List Entry) (task : Task) (acts : List Action) → (s : Standing p n table C book items m) → plan_commit p n s.words items ≡ Begin items' task acts
      → Commits s.words s.entries items items' task acts
  unfolding plan_commit
  commit-plan [] items' task acts s h = absurd (let z : ◌≡◌ {A = ℕ} 0 1 = cc in omega arith)
  commit-plan (f ∷ fs) items' task acts s h = go (log_place p n s.words (lines_for (length (encode_all (f ∷ fs)))) 0 (free_needed (f ∷ fs))) refl h
    where
      fits : lines_for (length (encode_all (f ∷ fs))) ≤ chunk_lines p
      fits = let a = s.staged.small in let b = lines-least p lo hi in omega arith

      go : (q : Option ℕ) → log_place p n s.words (lines_for (length (encode_all (f ∷ fs)))) 0 (free_needed (f ∷ fs)) ≡ q → commit_at p s.words (f ∷ fs) q ≡ Begin items' task acts
          → Commits s.words s.entries (f ∷ fs) items' task acts
      go none e k = absurd (let z : ◌≡◌ {A = ℕ} 0 1 = cc in omega arith)
      go (some d) e k =
          let a : items' ≡ f ∷ fs = cc in
          let b : task ≡ Committing (old_of s.words d ∷ []) = cc in
          let c : acts ≡ append_to p s.words (encode_all (f ∷ fs)) d = cc in
          let place = (log-place p n s.words _ 0 _ d fits e).0 in
          let old : ℕ = get_or s.words (directory_word d) 0 in
          record {
            same = a;
            tasked = (old_of s.words d ∷ [], b);
            going = rw c (append-going f fs s d old place);
            reads = rw (b, c) (append-reads f fs s d old place);
            versions = rw c (append-versions f fs s d old place);
          }

-- COMMIT: the items stay as they are, and what goes on does them
pub commit-begun : (p : ℕ) → 12 ≤ p → p ≤ 16 → (n table : ℕ) (C : ℕ → Held) (book : List Item) (items items' : List Entry) (task : Task) (acts : List Action) (m : Medium)
    → Standing p n table C book items m → plan_commit p n (latest m) items ≡ Begin items' task acts
    → (items' ≡ items) × (((olds : Olds) × (task ≡ Committing olds)) × Going p n table C (done_items book C) [] [] acts m)
commit-begun p lo hi n table C book items items' task acts m s h =
    let g = commit-plan p lo hi n table C book m items items' task acts s (rw s.rest.now at h) in (g.same, (g.tasked, g.going))

-- its end has the highest versions that stood with the staged items counted
pub commit-versions : (p : ℕ) → 12 ≤ p → p ≤ 16 → (n table : ℕ) (C : ℕ → Held) (book : List Item) (items items' : List Entry) (task : Task) (acts : List Action) (m : Medium)
    → Standing p n table C book items m → plan_commit p n (latest m) items ≡ Begin items' task acts
    → (k : ℕ) → highest k (entries_in p n (latest (run acts m))) ≡ highest k (entries_in p n (latest m) ++ items)
commit-versions p lo hi n table C book items items' task acts m s h k =
    (commit-plan p lo hi n table C book m items items' task acts s (rw s.rest.now at h)).versions k
    ∙ ap (λ (l : List Entry). highest k (l ++ items)) (sym (stand-entries p lo hi n table C book items m s))

pub commit-goes : (p : ℕ) → 12 ≤ p → p ≤ 16 → (n table : ℕ) (C : ℕ → Held) (book : List Item) (items items' : List Entry) (task : Task) (acts : List Action) (m : Medium)
    → Standing p n table C book items m → plan_commit p n (latest m) items ≡ Begin items' task acts
    → ((olds : Olds) × (task ≡ Committing olds)) × Going p n table C (done_items book C) [] [] acts m
commit-goes p lo hi n table C book items items' task acts m s h = (commit-begun p lo hi n table C book items items' task acts m s h).1

pub commit-reads : (p : ℕ) → 12 ≤ p → p ≤ 16 → (n table : ℕ) (C : ℕ → Held) (book : List Item) (items items' : List Entry) (task : Task) (acts : List Action) (m : Medium)
    → Standing p n table C book items m → plan_commit p n (latest m) items ≡ Begin items' task acts
    → Reading p n table C (latest m) (olds_of task) acts m
commit-reads p lo hi n table C book items items' task acts m s h = rw s.rest.now (commit-plan p lo hi n table C book m items items' task acts s (rw s.rest.now at h)).reads
