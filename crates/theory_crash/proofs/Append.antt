-- Commit and cleaning as the calls write them: the words padded to whole lines, behind the committed lines of the place
-- found.
-- Assumes nothing.
use mathlib.Core.Path.{◌≡◌, refl, sym, ◌∙◌, ap}
use mathlib.Core.Logic.{◌⊎◌}
use mathlib.Core.Bool.{true}
use mathlib.Core.List.{List, [], ◌∷◌, ◌++◌}
use Prim.Native.Nat.{ℕ, zero, suc, ◌+◌, ◌-◌, ◌*◌, ◌≤◌, ◌<◌}
use native.Mathlib.Omega.{arith}
use lib.ListN.{length, replicate, length-append}
use Rattle.spec.specs.Places.{base, chunk_words}
use Rattle.spec.specs.Medium.{Medium, cell_at}
use Rattle.spec.specs.Directory.{lines_of, size_of}
use Rattle.spec.specs.Log.{Entry, encode_all, placed, Entries, image_entries}
use Rattle.spec.specs.Blocks.{pointed}
use Rattle.spec.specs.Contents.{Held, contents_by, meaning, keys_of, kept_in}
use Rattle.spec.specs.Opening.{fine}
use Rattle.spec.specs.Actions.{lines_for, padded, commit_of, append_of, free_of}
use Rattle.theory_log.specs.Batch.{AllRight}
use Rattle.theory_log.specs.Contents.{Mem, Top}
use Rattle.theory_base.proofs.Through.{Through}
use Rattle.theory_crash.specs.Accepted.{Needs}
use Rattle.theory_crash.specs.Rest.{AtRest, Flushed, Rests, Cuts, CutsTo, Joined, Leaves}
use Rattle.theory_crash.specs.Batch.{entry_words, Effect, Place}
use Rattle.theory_crash.specs.Clean.{Carries}
use Rattle.theory_crash.proofs.Commit.{commit-joins, commit-left, commit-count}
use Rattle.theory_crash.proofs.Clean.{clean-through, clean-to}

-- The padding.
zeros-length : (i : ℕ) → length {A = ℕ} (replicate i 0) ≡ i
zeros-length zero = refl
zeros-length (suc i) = ap suc (zeros-length i)

abbrev pub padding : List Entry → ℕ
padding fs = 8 * lines_for (length (encode_all fs)) - length (encode_all fs)

pub padded-is : (fs : List Entry) → padded (encode_all fs) ≡ entry_words fs (padding fs)
unfolding padded
padded-is fs = refl

pub padded-length : (words : List ℕ) → length (padded words) ≡ 8 * lines_for (length words)
unfolding padded
padded-length words = rw (length-append words (replicate (8 * lines_for (length words) - length words) 0), zeros-length (8 * lines_for (length words) - length words)) (omega arith)

pub entries-length : (fs : List Entry) → length (entry_words fs (padding fs)) ≡ 8 * lines_for (length (encode_all fs))
entries-length fs = ap length (sym (padded-is fs)) ∙ padded-length (encode_all fs)

pub append-is : (p d old l : ℕ) (fs : List Entry) → append_of p d old l (encode_all fs) ≡ commit_of p d old l (lines_for (length (encode_all fs))) (entry_words fs (padding fs))
unfolding append_of
append-is p d old l fs = ap (commit_of p d old l (lines_for (length (encode_all fs)))) (padded-is fs)

-- an entry has words, so a batch has lines
pub some-lines : (f : Entry) (fs : List Entry) → 1 ≤ lines_for (length (encode_all (f ∷ fs)))
some-lines f fs = rw length-append (omega arith)

-- the count of actions: 9b + 4 for b lines
pub append-count : (p d old l : ℕ) (words : List ℕ) → length (append_of p d old l words) ≡ 9 * lines_for (length words) + 4
unfolding append_of
append-count p d old l words = commit-count p d old l (lines_for (length words)) (padded words) (padded-length words)

module _ (p : ℕ) (lo : 12 ≤ p) (hi : p ≤ 16) (n keys : ℕ) (C : ℕ → Held) (ws : List ℕ) (es : List Entry) (m : Medium) (rest : AtRest p n ws es m)
    (holds : (k : ℕ) → contents_by (meaning ws) es k ≡ C k) (flushed : Flushed p n m) where
  -- COMMIT of the entries fs to chunk d
  pub commit-append : (d old : ℕ) (fs : List Entry) (E : (Entry → Held) → (ℕ → Held) → ℕ → Held)
      → Place p n d (lines_for (length (encode_all fs))) ws → 1 ≤ lines_for (length (encode_all fs)) → AllRight fs → length (keys_of (fs ++ es)) ≤ keys
      → Effect es (placed (base p d + 8 * lines_of p ws d) fs) E
      → ((e : Entry) → Mem e (placed (base p d + 8 * lines_of p ws d) fs) → fine p n ws e ≡ true)
      → ((e f : Entry) → Mem e (placed (base p d + 8 * lines_of p ws d) fs) → Mem f (placed (base p d + 8 * lines_of p ws d) fs) ⊎ Top es f → pointed e ≡ true → pointed f ≡ true → e.field ≡ f.field → e.key ≡ f.key)
      → ((e : Entry) → Mem e (placed (base p d + 8 * lines_of p ws d) fs) → (k : ℕ) → Needs p ws e k → (cell_at m k).newer ≡ [])
      → Through (Cuts p n keys C (E (meaning ws) C)) (λ m'. Rests p n keys (E (meaning ws) C) m' × Joined p n es (placed (base p d + 8 * lines_of p ws d) fs) m') (append_of p d old (lines_of p ws d) (encode_all fs)) m
  commit-append d old fs E place some' right few effect staged own ready =
      rw (append-is p d old (lines_of p ws d) fs)
      (commit-joins p lo hi n d old (lines_of p ws d) (lines_for (length (encode_all fs))) (padding fs) keys C ws es fs E m rest holds (record {
        low = place.low;
        high = place.high;
        lines = refl;
        no-data = place.no-data;
        some' = some';
        fit = place.fit;
        size = entries-length fs;
        right = right;
        effect = effect;
        staged = staged;
        own = own;
      }) few ready flushed)

  -- until its last fence some cut leaves the contents before
  pub append_left : (d old : ℕ) (fs : List Entry) (E : (Entry → Held) → (ℕ → Held) → ℕ → Held)
      → Place p n d (lines_for (length (encode_all fs))) ws → 1 ≤ lines_for (length (encode_all fs)) → AllRight fs → length (keys_of (fs ++ es)) ≤ keys
      → Effect es (placed (base p d + 8 * lines_of p ws d) fs) E
      → ((e : Entry) → Mem e (placed (base p d + 8 * lines_of p ws d) fs) → fine p n ws e ≡ true)
      → ((e f : Entry) → Mem e (placed (base p d + 8 * lines_of p ws d) fs) → Mem f (placed (base p d + 8 * lines_of p ws d) fs) ⊎ Top es f → pointed e ≡ true → pointed f ≡ true → e.field ≡ f.field → e.key ≡ f.key)
      → ((e : Entry) → Mem e (placed (base p d + 8 * lines_of p ws d) fs) → (k : ℕ) → Needs p ws e k → (cell_at m k).newer ≡ [])
      → Through (Leaves p n keys C) (λ m'. Unit {0}) (append_of p d old (lines_of p ws d) (encode_all fs)) m
  append_left d old fs E place some' right few effect staged own ready =
      rw (append-is p d old (lines_of p ws d) fs)
      (commit-left p lo hi n d old (lines_of p ws d) (lines_for (length (encode_all fs))) (padding fs) keys C ws es fs E m rest holds (record {
        low = place.low;
        high = place.high;
        lines = refl;
        no-data = place.no-data;
        some' = some';
        fit = place.fit;
        size = entries-length fs;
        right = right;
        effect = effect;
        staged = staged;
        own = own;
      }) few ready)

  -- CLEANING of log chunk s, whose kept entries go to chunk d
  pub clean-append : (s d old old' : ℕ) → 1 ≤ s → s < n → size_of p ws s ≡ 0 → length (keys_of es) ≤ keys → (s ≡ d → ⊥)
      → Place p n d (lines_for (length (encode_all (kept_in p s es)))) ws → 1 ≤ lines_for (length (encode_all (kept_in p s es)))
      → Through (Cuts p n keys C C) (Rests p n keys C) (append_of p d old (lines_of p ws d) (encode_all (kept_in p s es)) ++ free_of s old') m
  clean-append s d old old' low high no-data few ne place some' =
      rw (append-is p d old (lines_of p ws d) (kept_in p s es))
      (clean-through p lo hi n s old' keys C ws es m rest holds few flushed low high no-data d old (lines_of p ws d) (lines_for (length (encode_all (kept_in p s es)))) (padding (kept_in p s es))
      ne place.low place.high refl place.no-data some' place.fit (entries-length (kept_in p s es)))

  -- by entries
  pub clean-append-to : (s d old old' : ℕ) → 1 ≤ s → s < n → size_of p ws s ≡ 0 → length (keys_of es) ≤ keys → (s ≡ d → ⊥)
      → Place p n d (lines_for (length (encode_all (kept_in p s es)))) ws → 1 ≤ lines_for (length (encode_all (kept_in p s es)))
      → (Q : List Entry → Type 0) → Q es
      → ((ys : List ℕ) (before behind : List Entry) → es ≡ before ++ behind → image_entries p n ys ≡ Entries (before ++ (placed (base p d + 8 * lines_of p ws d) (kept_in p s es) ++ behind))
      → Q (before ++ (placed (base p d + 8 * lines_of p ws d) (kept_in p s es) ++ behind)))
      → ((hs : List Entry) → ((f : Entry) → Mem f hs → (f.at < base p s) ⊎ (base p s + chunk_words p ≤ f.at)) → Carries es hs → Q hs)
      → Through (CutsTo p n Q) (CutsTo p n Q) (append_of p d old (lines_of p ws d) (encode_all (kept_in p s es)) ++ free_of s old') m
  clean-append-to s d old old' low high no-data few ne place some' =
      rw (append-is p d old (lines_of p ws d) (kept_in p s es))
      (clean-to p lo hi n s old' keys C ws es m rest holds few flushed low high no-data d old (lines_of p ws d) (lines_for (length (encode_all (kept_in p s es)))) (padding (kept_in p s es))
      ne place.low place.high refl place.no-data some' place.fit (entries-length (kept_in p s es)))
