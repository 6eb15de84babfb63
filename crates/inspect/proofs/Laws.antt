-- Laws of the entries of a key, for hosts: the first is the one that `inspect::history::entry_from` answers, and those
-- behind any one are the entries from the word behind its place on.
-- Assumes nothing.
use Rattle.std.proofs.Common.{◌≡◌, ℕ, zero, suc, ◌+◌, ◌-◌, ◌<◌, ◌≤◌, Bool, true, false, eqb, leb, List, [], ◌∷◌, map, drop, refl, ap, ◌∙◌, arith, le-leb, leb-true}
use mathlib.Core.Option.{Option, none, some}
use lib.Seq.{drop-nil}
use borrow.Author.Tests.{lt-leb}
use Rattle.spec.specs.Basics.{pick, both, filter, first}
use Rattle.spec.specs.Places.{base}
use Rattle.spec.specs.Log.{Entry, Parsed, Wrong, Entries, image_entries}
use Rattle.spec.specs.Contents.{listed, entries_in}
use Rattle.theory_base.proofs.Lists.{both_r}
use Rattle.theory_log.proofs.Places.{Rising, all_sound}
use Rattle.inspect.specs.declared.history.KeyEntry.{KeyEntry}
use Rattle.inspect.specs.History.{is_from, numbered, numbers_of, entry_from, or_none}
use Rattle.inspect.specs.KeyEntries.{entries_from}

pub entry_first : (p n : ℕ) (ws : List ℕ) (key from : ℕ) → entry_from p n ws key from ≡ or_none (first (entries_from p n ws key from))
unfolding entry_from entries_from
entry_first p n ws key from = go (filter (is_from key from) (entries_in p n ws))
  where
    go : (xs : List Entry) → numbers_of key (entries_in p n ws) (first xs) ≡ or_none (first (map (numbered key (entries_in p n ws)) xs))
    go [] = refl
    go (x ∷ xs) = refl

-- ## Those behind an entry

-- of entries that all stand behind two words
same_from : (key a b lo hi : ℕ) (es : List Entry) → Rising lo hi es → a ≤ lo → b ≤ lo → filter (is_from key a) es ≡ filter (is_from key b) es
same_from key a b lo hi [] r x y = refl
same_from key a b lo hi (e ∷ es) r x y =
    let l : lo ≤ e.at = r.0 in
    rw (le-leb a e.at (omega arith), le-leb b e.at (omega arith), same_from key a b (suc e.at) hi es r.1 (omega arith) (omega arith))

not-from : (key a : ℕ) (e : Entry) → e.at < a → is_from key a e ≡ false
not-from key a e h = rw (lt-leb a e.at h) (go (eqb e.key key))
  where
    go : (b : Bool) → both b false ≡ false
    go true = refl
    go false = refl

module _ (key from : ℕ) (all : List Entry) where
  abbrev rows : ℕ → List Entry → List KeyEntry
  rows a es = map (numbered key all) (filter (is_from key a) es)

  none_first : (k : ℕ) (y : KeyEntry) → first (drop k []) ≡ some y → ⊥
  none_first k y q = let e : ◌≡◌ {A = Option KeyEntry} none (some y) = rw (drop-nil {A = KeyEntry} k) at q in let z : ◌≡◌ {A = ℕ} 0 1 = cc in omega arith

  behind-rows : (lo hi : ℕ) (es : List Entry) → Rising lo hi es → (k : ℕ) (y : KeyEntry) → first (drop k (rows from es)) ≡ some y
      → (lo ≤ y.place) × (rows (suc y.place) es ≡ drop (suc k) (rows from es))
  behind-rows lo hi [] r k y q = absurd (none_first k y q)
  behind-rows lo hi (e ∷ es) r k y q = go (is_from key from e) refl k q (behind-rows (suc e.at) hi es r.1)
    where
      low : lo ≤ e.at
      low = r.0

      past : (suc e.at ≤ y.place) → rows (suc y.place) (e ∷ es) ≡ rows (suc y.place) es
      past h = rw (not-from key (suc y.place) e (omega arith))

      go : (b : Bool) → is_from key from e ≡ b → (i : ℕ) → first (drop i (map (numbered key all) (pick b (e ∷ filter (is_from key from) es) (filter (is_from key from) es)))) ≡ some y
          → ((j : ℕ) (x : KeyEntry) → first (drop j (rows from es)) ≡ some x → (suc e.at ≤ x.place) × (rows (suc x.place) es ≡ drop (suc j) (rows from es)))
          → (lo ≤ y.place) × (rows (suc y.place) (e ∷ es) ≡ drop (suc i) (map (numbered key all) (pick b (e ∷ filter (is_from key from) es) (filter (is_from key from) es))))
      go false t i h rec = let m = rec i y h in let a = m.0 in let l = low in (omega arith, past a ∙ m.1)
      go true t (suc i) h rec = let m = rec i y h in let a = m.0 in let l = low in (omega arith, past a ∙ m.1)
      go true t zero h rec =
          let i : numbered key all e ≡ y = cc in
          let a : e.at ≡ y.place = ap (λ (x : KeyEntry). x.place) i in
          let f = leb-true from e.at (both_r (eqb e.key key) (leb from e.at) t) in
          let l = low in
          let gone : rows (suc y.place) (e ∷ es) ≡ rows (suc y.place) es = rw (not-from key (suc y.place) e (omega arith)) in
          let same = same_from key (suc y.place) from (suc e.at) hi es r.1 (omega arith) (omega arith) in
          (omega arith, gone ∙ ap (map (numbered key all)) same)

pub entries-behind : (p : ℕ) → 12 ≤ p → p ≤ 16 → (n : ℕ) (ws : List ℕ) (key from k : ℕ) (y : KeyEntry) → first (drop k (entries_from p n ws key from)) ≡ some y
    → entries_from p n ws key (suc y.place) ≡ drop (suc k) (entries_from p n ws key from)
unfolding entries_from
entries-behind p low high n ws key from k y = go (image_entries p n ws) refl
  where
    go : (q : Parsed) → image_entries p n ws ≡ q → first (drop k (rows key from (listed q) from (listed q))) ≡ some y
        → rows key from (listed q) (suc y.place) (listed q) ≡ drop (suc k) (rows key from (listed q) from (listed q))
    go Wrong e h = absurd (none_first key from [] k y h)
    go (Entries es) e h = (behind-rows key from es (base p 1) (base p (1 + (n - 1))) es (all_sound p low high (n - 1) 1 ws es e).rising k y h).1
