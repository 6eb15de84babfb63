-- A commit of items of which some are in blocks, looking forward from words at rest: with all its actions done, the
-- image is accepted, and its entries are those before with the batch placed among them.
-- Assumes nothing.
use mathlib.Core.Path.{◌≡◌, refl, sym, ◌∙◌, ap, subst}
use mathlib.Core.Bool.{true}
use mathlib.Core.Logic.{◌⊎◌, inl, inr}
use mathlib.Core.Option.{some}
use mathlib.Core.List.{List, [], ◌∷◌, ◌++◌, map-append}
use Prim.Native.Nat.{ℕ, suc, ◌+◌, ◌*◌, ◌/◌, ◌≤◌, ◌<◌}
use native.Mathlib.Omega.{arith}
use lib.ListN.{length, get_or}
use Rattle.spec.specs.declared.Size.{Size}
use Rattle.places.specs.Sizes.{power_of, power-low, power-high}
use Rattle.spec.specs.Basics.{distinct}
use Rattle.spec.specs.Places.{chunk_lines, base, directory_word, chunks_in, max_chunks}
use Rattle.spec.specs.Medium.{Cell, Action, Medium, run, cell_at, settled_at}
use Rattle.spec.specs.Directory.{lines_of}
use Rattle.spec.specs.Log.{Entry, encode_all, moved, placed}
use Rattle.spec.specs.Blocks.{pointed}
use Rattle.spec.specs.Contents.{Held, highest, contents_by, meaning, keys_of, capacity}
use Rattle.spec.specs.Opening.{fine}
use Rattle.spec.specs.Actions.{lines_for, commit_of, append_of}
use Rattle.spec.specs.Reports.{run_words}
use Rattle.spec.specs.Plans.{old_of, log_place}
use Rattle.theory_base.proofs.Words as W
use Rattle.theory_base.proofs.Places.{lines-least}
use Rattle.theory_base.proofs.Through.{through-end}
use Rattle.theory_log.specs.Batch.{AllRight}
use Rattle.theory_log.specs.Contents.{CountsOn, Mem, Top, Agree, done}
use Rattle.theory_log.proofs.Directory.{lines-most}
use Rattle.theory_log.proofs.Clean.{mem-placed, placed-mem}
use Rattle.theory_crash.specs.Accepted.{Ok}
use Rattle.theory_crash.specs.Rest.{AtRest, Flushed, Cuts}
use Rattle.theory_crash.specs.Batch.{entry_words, Place, Batch}
use Rattle.theory_crash.proofs.Opening.{fits-keys}
use Rattle.session.proofs.OpensRight.{opens-right, right-opens}
use Rattle.theory_crash.proofs.Rest.{settled-rest}
use Rattle.theory_crash.proofs.Append.{padding, entries-length, append-is, some-lines}
use Rattle.theory_crash.proofs.Effects as E
use Rattle.theory_crash.proofs.Commit as C
use Rattle.theory_plans.proofs.LogPlace.{log-place}
use Rattle.buffer.specs.Areas.{batch_room}
use Rattle.session.specs.Fits.{Opens, key_list, ItemsFit, BlocksApart, Shown}
use Rattle.theory_crash.proofs.View.{append-shy}
use Rattle.forward.proofs.Shown.{begin-ok, shown_by}
use Rattle.forward.proofs.Staged.{run_settled}

counts-placed : (es fs items : List Entry) (at : ℕ) → ((k : ℕ) → highest k es ≡ highest k fs) → CountsOn es items → CountsOn fs (placed at items)
counts-placed es fs [] at h c = tt
counts-placed es fs (e ∷ items) at h c = (c.0 ∙ ap suc (h e.key), counts-placed (e ∷ es) (moved at e ∷ fs) items (at + (2 + length e.value)) (λ k. rw (h k)) c.1)

-- ITEMS placed: their blocks are right, and no other key's.
module _ (sz : Size) (n : ℕ) (ws : List ℕ) (es items : List Entry) (fit : ItemsFit (power_of sz) n ws es items) (at : ℕ) where
  pub placed-right : (e : Entry) → Mem e (placed at items) → fine (power_of sz) n ws e ≡ true
  placed-right e i = let o = mem-placed e at items i in ap (fine (power_of sz) n ws) o.3 ∙ fit.blocks o.0 o.1

  pub placed-own : (e f : Entry) → Mem e (placed at items) → Mem f (placed at items) ⊎ Top es f → pointed e ≡ true → pointed f ≡ true → e.field ≡ f.field → e.key ≡ f.key
  placed-own e f i (inl j) p q z =
      let o = mem-placed e at items i in
      let x = mem-placed f at items j in
      let y = fit.own o.0 x.0 o.1 x.1 (sym (ap pointed o.3) ∙ p) (sym (ap pointed x.3) ∙ q) (sym (ap (λ (g : Entry). g.field) o.3) ∙ z ∙ ap (λ (g : Entry). g.field) x.3) in
      ap (λ (g : Entry). g.key) o.3 ∙ ap (λ (g : Entry). g.key) y ∙ sym (ap (λ (g : Entry). g.key) x.3)
  placed-own e f i (inr t) p q z =
      let o = mem-placed e at items i in
      absurd (fit.dead o.0 f o.1 t (sym (ap pointed o.3) ∙ p) q (sym (ap (λ (g : Entry). g.field) o.3) ∙ z))

-- what holds looking forward from words at rest, with the entries es, to an image with the items among them in chunk d
pub record Forward (sz : Size) (bytes table : ℕ) (ws : List ℕ) (es items : List Entry) (d old : ℕ) : Type 0 where
  pub front : List Entry
  pub back : List Entry
  pub split : es ≡ front ++ back
  pub chunk : d ≤ 503
  pub lines : lines_of (power_of sz) ws d ≤ chunk_lines (power_of sz)
  pub agree : Agree es
  pub apart : BlocksApart es
  pub fit : ItemsFit (power_of sz) (chunks_in (power_of sz) bytes) (run_words (append_of (power_of sz) d old (lines_of (power_of sz) ws d) (encode_all items)) ws) es items
  pub accepted : Opens (power_of sz) bytes (run_words (append_of (power_of sz) d old (lines_of (power_of sz) ws d) (encode_all items)) ws) table (front ++ (placed (base (power_of sz) d + 8 * lines_of (power_of sz) ws d) items ++ back))
  pub shown : Shown (power_of sz) bytes table (old_of ws d ∷ []) es (append_of (power_of sz) d old (lines_of (power_of sz) ws d) (encode_all items)) ws
  pub kept : (c : ℕ) → 1 ≤ c → c < chunks_in (power_of sz) bytes → (c ≡ d → ⊥) → get_or (run_words (append_of (power_of sz) d old (lines_of (power_of sz) ws d) (encode_all items)) ws) (directory_word c) 0 ≡ get_or ws (directory_word c) 0

module _ (sz : Size) (bytes table : ℕ) (ws : List ℕ) (es : List Entry) (f : Entry) (fs : List Entry) (accepted : Opens (power_of sz) bytes ws table es) (long : length ws ≡ bytes / 8)
    (right : AllRight (f ∷ fs)) (counts : CountsOn es (f ∷ fs)) (fit : ItemsFit (power_of sz) (chunks_in (power_of sz) bytes) ws es (f ∷ fs)) (small : length (encode_all (f ∷ fs)) ≤ batch_room)
    (few : length (distinct (key_list (f ∷ fs) ++ key_list es)) ≤ capacity table) (d old needed : ℕ)
    (found : log_place (power_of sz) (chunks_in (power_of sz) bytes) ws (lines_for (length (encode_all (f ∷ fs)))) 0 needed ≡ some d) where
  abbrev n : ℕ
  n = chunks_in (power_of sz) bytes

  abbrev items : List Entry
  items = f ∷ fs

  abbrev l : ℕ
  l = lines_of (power_of sz) ws d

  abbrev b : ℕ
  b = lines_for (length (encode_all items))

  abbrev at' : ℕ
  at' = base (power_of sz) d + 8 * l

  abbrev m : Medium
  m = settled_at ws

  abbrev mean : ℕ → Held
  mean = contents_by (meaning ws) es

  abbrev effect : (Entry → Held) → (ℕ → Held) → ℕ → Held
  effect mean c = done mean (placed at' items) c

  ok : Ok (power_of sz) n ws es
  ok = (opens-right (power_of sz) bytes table ws es long accepted).0

  size : bytes ≡ 8 * base (power_of sz) n
  size = (opens-right (power_of sz) bytes table ws es long accepted).2

  rest : AtRest (power_of sz) n ws es m
  rest = settled-rest (power_of sz) n ws es ok

  place : Place (power_of sz) n d b ws
  place = (log-place (power_of sz) n ws b 0 needed d (let a = lines-least (power_of sz) (power-low sz) (power-high sz) in omega arith) found).0

  bt : Batch (power_of sz) n d l b (padding items) ws es items effect
  bt = record {
    low = place.low;
    high = place.high;
    lines = refl;
    no-data = place.no-data;
    some' = some-lines f fs;
    fit = place.fit;
    size = entries-length items;
    right = right;
    effect = E.items es (placed at' items) (counts-placed es es items at' (λ k. refl) counts);
    staged = placed-right sz n ws es items fit at';
    own = placed-own sz n ws es items fit at';
  }

  keys : length (keys_of (items ++ es)) ≤ capacity table
  keys = let e : length (keys_of (items ++ es)) ≡ length (distinct (key_list items ++ key_list es)) = ap (λ (x : List ℕ). length (distinct x)) (map-append (λ (e : Entry). e.key) items es) in omega arith

  still : (k : ℕ) → (cell_at m k).newer ≡ []
  still k = ap (λ (c : Cell). c.newer) (W.cell-settled ws k)

  abbrev acts : List Action
  acts = commit_of (power_of sz) d old l b (entry_words items (padding items))

  abbrev Ended : Medium → Type 0
  Ended = C.Ended (power_of sz) (power-low sz) (power-high sz) n d old l b (padding items) (capacity table) mean ws es items effect m rest (λ k. refl) bt keys (λ e i k need. still k)

  ended : Ended (run acts m)
  ended =
      (through-end (Cuts (power_of sz) n (capacity table) mean (effect (meaning ws) mean)) (λ m'. Ended m' × Flushed (power_of sz) n m') acts m
      (C.commit-ends (power_of sz) (power-low sz) (power-high sz) n d old l b (padding items) (capacity table) mean ws es items effect m rest (λ k. refl) bt keys (λ e i k need. still k) (λ c x y z. still (directory_word c)))).0

  image-is : ended.image ≡ run_words (append_of (power_of sz) d old l (encode_all items)) ws
  image-is = sym ended.rests.now ∙ run_settled acts ws ∙ ap (λ (x : List Action). run_words x ws) (sym (append-is (power_of sz) d old l items))

  most : l ≤ chunk_lines (power_of sz)
  unfolding chunk_lines
  most = lines-most (power_of sz) ws d

  pub forward : Forward sz bytes table ws es items d old
  forward = record {
    front = ended.before;
    back = ended.behind;
    split = ended.split;
    chunk = let a = place.high in let q = ok.most in omega arith;
    lines = most;
    agree = ok.agree;
    apart = ok.apart;
    fit = record { blocks = λ e m. rw (← image-is) (let q = placed-mem e at' items m in ended.staged (moved q.0 e) q.1); dead = fit.dead; own = fit.own };
    accepted =
        rw (← image-is)
        (subst (Opens (power_of sz) bytes ended.image table) ended.joined
        (right-opens sz n bytes table ended.image ended.entries size ended.rests.ok (fits-keys table ended.entries ended.few')));
    shown =
        let low : d < max_chunks = (let a = place.high in let q = ok.most in omega arith) in
        shown_by sz bytes table ws es accepted long (old_of ws d ∷ []) (append_of (power_of sz) d old l (encode_all items)) (refl, tt)
        (append-shy (power_of sz) (power-low sz) (power-high sz) n ws es (begin-ok sz bytes table ws es accepted long) (old_of ws d ∷ []) (low, tt) d old (encode_all items) place (inl refl));
    kept = λ c l u o. rw (← image-is) (ended.chunks c l u o).1;
  }
