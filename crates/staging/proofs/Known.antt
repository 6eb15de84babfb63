-- What staging finds of a key by its staged items and the table is what the definitions say of the entries and the
-- items.
-- Assumes nothing.
use mathlib.Core.Path.{◌≡◌, refl, sym, ◌∙◌, ap}
use mathlib.Core.Bool.{Bool, true, false}
use mathlib.Core.Option.{none}
use mathlib.Core.List.{List, [], ◌∷◌, ◌++◌}
use Prim.Native.Nat.{ℕ, ◌≤◌}
use native.Mathlib.Omega.{arith}
use native.Mathlib.Decide.{ℕ_discrete}
use lib.Dec.{eqb}
use lib.ListN.{get_or}
use borrow.Author.Tests.{eq-eqb, eqb-true, ne_eqb}
use Rattle.std.specs.Prelude.{Option, Some, None}
use Rattle.spec.specs.Basics.{pick, negate}
use Rattle.spec.specs.Log.{Entry, Entries, first_of_word, image_entries}
use Rattle.spec.specs.Contents.{highest, chosen, known}
use Rattle.spec.specs.Plans.{is_put, present}
use Rattle.spec.specs.declared.FirstWord.{FirstWord}
use Rattle.spec.specs.declared.Size.{Size}
use Rattle.spec.specs.declared.Size.TheVariants as S
use Rattle.places.specs.Sizes.{power_of, power-low, power-high}
use Rattle.theory_log.specs.Contents.{CountsOn}
use Rattle.theory_log.proofs.Contents.{version_of, chosen-best, highest-best, chosen_is}
use Rattle.logs.proofs.Stands.{image-stands}
use Rattle.packing.specs.declared.Info.{Info}
use Rattle.index.specs.Index.{get}
use Rattle.packing.specs.Packed.{unpack_of}
use Rattle.session.specs.declared.Setup.{Setup}
use Rattle.session.specs.State.{size_in}
use Rattle.volatile.specs.Known.{Bounded, Indexed}
use Rattle.volatile.proofs.Grow.{found_none, found-chosen}
use Rattle.batch.specs.declared.Latest.{Latest}
use Rattle.theory_log.specs.Fold.{fold_e}
use Rattle.batch.specs.Items.{later_of, pass, latest_of, LastStaged}
use Rattle.batch.proofs.Last.{KeyStaged, KeyUnstaged, key-staged, key-unstaged}
use Rattle.batch.proofs.Count.{is_old}
use Rattle.staging.specs.declared.admit.Newest.{Newest}
use Rattle.staging.specs.declared.admit.Newest.TheVariants.{Unknown, Staged, Committed}
use Rattle.staging.specs.Admitting.{committed_by, newest_by, NewestOf, VersionOf, version_in, put_in, present_by}

-- what is said of a key: its highest version and whether it is staged or known; and whether it is present
pub record Numbered (k : ℕ) (es items : List Entry) (v : ℕ) : Type 0 where
  pub version : v ≡ highest k (es ++ items)
  pub old : is_old k es items ≡ negate (eqb v 0)

pub record Says (k : ℕ) (es items : List Entry) (ws : List ℕ) (n : Newest) : Type 0 where
  pub numbered : Numbered k es items (version_in n)
  pub shown : present_by ws n ≡ present k es items

-- 0 unpacks to the version 0
zero-version : (size : Size) → (unpack_of size 0).version ≡ 0
zero-version S.Small = refl
zero-version S.Large = refl

-- a staged item's version counts on, and so is not 0
last-numbered : (k : ℕ) (items es : List Entry) (q : Option Latest) → CountsOn es items → ((l : Latest) → q ≡ Some l → 1 ≤ l.version) → (l : Latest) → fold_e (pass k) q items ≡ Some l → 1 ≤ l.version
last-numbered k [] es q c h l e = h l e
last-numbered k (x ∷ items) es q c h l e = last-numbered k items (x ∷ es) (later_of k q x.key x.op x.version) c.1 (go (eqb x.key k)) l e
  where
    go : (t : Bool) → (m : Latest) → pick t (Some (record { op = x.op; version = x.version })) q ≡ Some m → 1 ≤ m.version
    go true m e =
        let r : ◌≡◌ {A = Latest} (record { op = x.op; version = x.version }) m = cc in
        let v : x.version ≡ m.version = ap (λ (y : Latest). y.version) r in
        omega (arith, c.0)
    go false m e = h m e

last-low : (k : ℕ) (items es : List Entry) → CountsOn es items → (l : Latest) → latest_of k items ≡ Some l → 1 ≤ l.version
unfolding latest_of
last-low k items es c l e = last-numbered k items es None c (λ m z. absurd (let y : ◌≡◌ {A = ℕ} 0 1 = cc in omega arith)) l e

module _ (size : Size) (k chunks : ℕ) (ws : List ℕ) (es items : List Entry) (parsed : image_entries (power_of size) chunks ws ≡ Entries es) (small : Bounded size es) (counts : CountsOn es items)
    (table : List ℕ) (keys : ℕ) (inv : Indexed size table keys es) where
  -- the last staged item decides
  by-staged : (last : Latest) → latest_of k items ≡ Some last → Says k es items ws (Staged last.version last.op)
  by-staged last e =
      let s : KeyStaged k es items = key-staged k es items counts last e in
      let q : last ≡ s.latest = let z : ◌≡◌ {A = Option Latest} (Some last) (Some s.latest) = sym e ∙ s.is in cc in
      let v : eqb last.version 0 ≡ false = ne_eqb last.version 0 (λ z. let low = last-low k items es counts last e in omega arith) in
      record {
        numbered = record { version = ap (λ (l : Latest). l.version) q ∙ s.version; old = rw (s.among, v) };
        shown = ap (λ (l : Latest). eqb l.op 1) q ∙ s.put;
      }

  -- the table's word decides
  module _ (u : KeyUnstaged k es items) (word : ℕ) (is : word ≡ get table k) where
    shows : present k es items ≡ is_put (chosen k es)
    shows = ap is_put u.same

    all-keys : is_old k es items ≡ known k es
    all-keys = rw u.among

    by-none : word ≡ 0 → Says k es items ws Unknown
    by-none z =
        let c : chosen k es ≡ none = found_none size table keys es inv small k word is z in
        record {
          numbered = record { version = sym (u.version ∙ sym (highest-best k es) ∙ ap version_of (sym (chosen-best k es) ∙ c)); old = all-keys ∙ rw c };
          shown = sym (shows ∙ rw c);
        }

    by-chosen : (word ≡ 0 → ⊥) → Says k es items ws (committed_by size word)
    by-chosen nz =
        let f = found-chosen size table keys es inv small k word is nz in
        let e = f.0 in
        let m = (chosen_is k es e f.1).in_list in
        let low : 1 ≤ e.version = (small.each e m).version_low in
        let v : (unpack_of size word).version ≡ e.version = ap (λ (i : Info). i.version) f.2 in
        let a : (unpack_of size word).place ≡ e.at = ap (λ (i : Info). i.place) f.2 in
        let nv : eqb (unpack_of size word).version 0 ≡ false = ne_eqb (unpack_of size word).version 0 (λ q. omega arith) in
        let s = image-stands (power_of size) (power-low size) (power-high size) chunks ws es parsed e m in
        rw nv (record {
          numbered = record { version = v ∙ sym (u.version ∙ sym (highest-best k es) ∙ ap version_of (sym (chosen-best k es) ∙ f.1)); old = all-keys ∙ rw (f.1, nv) };
          shown = ap (λ (p : ℕ). put_in (first_of_word (get_or ws p 0))) a ∙ ap put_in s.first ∙ sym (shows ∙ rw f.1);
        })

  pub newest-says : (n : Newest) → n ≡ newest_by size (latest_of k items) (get table k) → Says k es items ws n
  newest-says n is = rw is (go (latest_of k items) refl (ℕ_discrete (get table k) 0))
    where
      go : (q : Option Latest) → latest_of k items ≡ q → Dec (get table k ≡ 0) → Says k es items ws (newest_by size q (get table k))
      go (Some l) e d = let low = last-low k items es counts l e in rw (ne_eqb l.version 0 (λ z. omega arith)) (by-staged l e)
      go None e (yes z) = rw (eq-eqb (unpack_of size (get table k)).version 0 (ap (λ (w : ℕ). (unpack_of size w).version) z ∙ zero-version size)) (by-none (key-unstaged k es items counts e) (get table k) refl z)
      go None e (no z) = by-chosen (key-unstaged k es items counts e) (get table k) refl z

  pub version-says : (v : ℕ) → v ≡ version_in (newest_by size (latest_of k items) (get table k)) → Numbered k es items v
  version-says v is = rw is (newest-says _ refl).numbered

-- ## What the code shows

module _ (size : Size) (b : List ℕ) (words : ℕ) (table : List ℕ) (key : ℕ) (q : Option Latest) (staged : LastStaged b words key q) where
  newest : (n : Newest) → n ≡ newest_by size q (get table key) → NewestOf size b words table key n
  newest n e items st = rw (← staged items st) e

  -- no item with a version is staged
  pub unstaged : (last : Latest) → q ≡ Some last → last.version ≡ 0 → newest_by size q (get table key) ≡ committed_by size (get table key)
  unstaged last e z = rw (e, eq-eqb last.version 0 z)

  pub unstaged_none : q ≡ None → newest_by size q (get table key) ≡ committed_by size (get table key)
  unstaged_none e = rw e

  pub known-staged : (last : Latest) → q ≡ Some last → (last.version ≡ 0 → ⊥) → NewestOf size b words table key (Staged last.version last.op)
  known-staged last e z = newest _ (sym (rw (e, ne_eqb last.version 0 z)))

  pub known-committed : (n : Newest) → n ≡ committed_by size (get table key) → newest_by size q (get table key) ≡ committed_by size (get table key) → NewestOf size b words table key n
  known-committed n e u = newest n (e ∙ sym u)

  pub version-staged : (last : Latest) → q ≡ Some last → (last.version ≡ 0 → ⊥) → VersionOf size b words table key last.version
  version-staged last e z items st = ap version_in (known-staged last e z items st)

  pub version-committed : (word : ℕ) (info : Info) → word ≡ get table key → info ≡ unpack_of size word → newest_by size q (get table key) ≡ committed_by size (get table key) → VersionOf size b words table key info.version
  version-committed word info is i u items st = rw (i, is) (go (eqb (unpack_of size (get table key)).version 0) (eqb-true (unpack_of size (get table key)).version 0)) ∙ ap version_in (known-committed _ refl u items st)
    where
      v : ℕ
      v = (unpack_of size (get table key)).version

      go : (t : Bool) → (t ≡ true → v ≡ 0) → v ≡ version_in (pick t Unknown (Committed v (unpack_of size (get table key)).place))
      go true h = h refl
      go false h = refl

-- by the size that the record says
pub newest-sized : (z : Size) (k : Setup) (b : List ℕ) (words : ℕ) (table : List ℕ) (key : ℕ) (n : Newest) → z ≡ size_in k → NewestOf z b words table key n → NewestOf (size_in k) b words table key n
newest-sized z k b words table key n e h = rw e at h

pub version-sized : (z : Size) (k : Setup) (b : List ℕ) (words : ℕ) (table : List ℕ) (key v : ℕ) → z ≡ size_in k → VersionOf z b words table key v → VersionOf (size_in k) b words table key v
version-sized z k b words table key v e h = rw e at h

-- an entry by its first word
pub put-read : (word stored : ℕ) (f h : FirstWord) → word ≡ stored → f ≡ first_of_word word → f ≡ h → put_in h ≡ put_in (first_of_word stored)
put-read word stored f h is_word is-first e = sym (ap put_in (ap first_of_word (sym is_word) ∙ sym is-first ∙ e))
