-- The pass over the log finds the first entry of a key at or behind a word, and its place tells whether it is the
-- chosen one.
-- Assumes nothing.
use Rattle.std.proofs.Common.{◌≡◌, ℕ, Bool, true, false, eqb, List, [], ◌∷◌, sym, refl, ap, ◌∙◌, inl, arith, ne_eqb}
use mathlib.Core.Option.{Option, none, some}
use Rattle.spec.specs.declared.Size.{Size}
use Rattle.places.specs.Sizes.{power_of, power-low, power-high}
use Rattle.spec.specs.Basics.{pick, filter, first}
use Rattle.spec.specs.Places.{chunks_in}
use Rattle.spec.specs.Log.{Entry, Parsed, Wrong, Entries, image_entries}
use Rattle.spec.specs.Contents.{chosen, is_at, listed}
use Rattle.theory_log.specs.Contents.{Mem}
use Rattle.theory_log.specs.Fold.{fold_e}
use Rattle.theory_log.proofs.Contents.{mem-filter}
use Rattle.logs.specs.declared.Best.{Best}
use Rattle.logs.specs.Best.{best_in, best_of}
use Rattle.logs.proofs.Stands.{image-low}
use Rattle.logs.proofs.Scan.{best-chosen}
use Rattle.inspect.specs.declared.history.KeyEntry.{KeyEntry}
use Rattle.inspect.specs.History.{is_from, next_of, no_entry, entry_with, numbers_of, entry_from, pass, first_in, mark_of}
use Rattle.inspect.specs.Numbers.{size_said, power_read, chunks_read}

-- the entry found, not yet marked
abbrev bare : Option Entry → KeyEntry
bare none = no_entry
bare (some e) = entry_with 0 e

module _ (size : Size) (key from : ℕ) where
  -- what is found stays
  found-stays : (e : Entry) (es : List Entry) → fold_e (pass key from) (entry_with 0 e) es ≡ entry_with 0 e
  found-stays e [] = refl
  found-stays e (x ∷ es) = found-stays e es

  finds-first : (es : List Entry) → fold_e (pass key from) no_entry es ≡ bare (next_of key from es)
  finds-first [] = refl
  finds-first (e ∷ es) = go (is_from key from e) (finds-first es)
    where
      go : (b : Bool) → fold_e (pass key from) no_entry es ≡ bare (next_of key from es)
          → fold_e (pass key from) (pick b (entry_with 0 e) no_entry) es ≡ bare (first (pick b (e ∷ filter (is_from key from) es) (filter (is_from key from) es)))
      go true h = found-stays e es
      go false h = h

  first-mem : (es : List Entry) (e : Entry) → next_of key from es ≡ some e → Mem e es
  first-mem es e h = (mem-filter (is_from key from) e es (head (filter (is_from key from) es) h)).0
    where
      head : (xs : List Entry) → first xs ≡ some e → Mem e xs
      head [] q = absurd (let z : ◌≡◌ {A = ℕ} 0 1 = cc in omega arith)
      head (x ∷ xs) q = inl (let r : ◌≡◌ {A = Option Entry} (some x) (some e) = q in cc)

  -- the chosen entry's place, 0 where there is none
  marks : (es : List Entry) (e : Entry) (q : Option Entry) → (e.at ≡ 0 → ⊥) → mark_of (entry_with 0 e) (best_of q) ≡ entry_with (pick (is_at q e.at) 1 0) e
  marks es e none n = rw (ne_eqb 0 e.at (λ z. n (sym z)))
  marks es e (some f) n = go (eqb f.at e.at)
    where
      go : (b : Bool) → pick b (entry_with 1 e) (entry_with 0 e) ≡ entry_with (pick b 1 0) e
      go true = refl
      go false = refl

  module _ (n : ℕ) (ws : List ℕ) where
    whole : (q : Parsed) → image_entries (power_of size) n ws ≡ q → mark_of (first_in (power_of size) n ws key from) (best_in (power_of size) n ws key) ≡ numbers_of key (listed q) (next_of key from (listed q))
    unfolding first_in
    whole Wrong h = rw h
    whole (Entries es) h = rw (h, finds-first es, best-chosen (power_of size) (power-low size) (power-high size) n key ws es h) (go (next_of key from es) refl)
      where
        go : (q : Option Entry) → next_of key from es ≡ q → mark_of (bare q) (best_of (chosen key es)) ≡ numbers_of key es q
        go none e = refl
        go (some f) e = marks es f (chosen key es) (λ z. let l = image-low (power_of size) (power-low size) (power-high size) n ws es h f (first-mem es f e) in omega arith)

  pub entry-told : (bytes : ℕ) (ws : List ℕ) (n : ℕ) (a : KeyEntry) (b : Best) (r : KeyEntry) → size ≡ size_said ws → n ≡ chunks_in (power_of size) bytes → a ≡ first_in (power_of size) n ws key from
      → b ≡ best_in (power_of size) n ws key → r ≡ mark_of a b → r ≡ entry_from (power_read ws) (chunks_read bytes ws) ws key from
  unfolding entry_from
  entry-told bytes ws n a b r said en x y z =
      let told : r ≡ entry_from (power_of size) n ws key from = z ∙ rw (x, y) (whole n ws (image_entries (power_of size) n ws) refl) in
      told ∙ ap (λ (k : ℕ). entry_from (power_of size) k ws key from) en ∙ ap (λ (w : Size). entry_from (power_of w) (chunks_in (power_of w) bytes) ws key from) said
