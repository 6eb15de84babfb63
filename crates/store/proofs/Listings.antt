-- The calls that list keys answer alike at two stations with the same state and image: a station reopened lists as one
-- that was never closed.
-- Assumes nothing.
use mathlib.Core.Path.{◌≡◌, sym, ◌∙◌, ap}
use mathlib.Core.Option.{none, some}
use mathlib.Core.List.{List}
use Prim.Native.Nat.{ℕ, ◌≤◌, ◌<◌}
use native.Mathlib.Omega.{arith}
use native.Mathlib.Decide.{dec_lt}
use lib.ListN.{length, get_or, take}
use lib.Seq.{ext_get_or, get_or-take}
use Rattle.spec.specs.Words.{words_of}
use Rattle.spec.specs.Places.{chunks_in}
use Rattle.spec.specs.Log.{Entry}
use Rattle.spec.specs.Contents.{entries_in}
use Rattle.spec.specs.Machine.{State, state_power, read_gate, read_words}
use Rattle.spec.specs.Reopening.{Same}
use Rattle.spec.specs.declared.Refusal.{Refusal}
use Rattle.session.specs.declared.Session.{Session}
use Rattle.session.specs.State.{state_of}
use Rattle.session.specs.Fits.{Proper, Fits}
use Rattle.std.specs.Prelude.{Result, Ok, Err}
use Rattle.lookup.specs.Listing.{Listed, present_keys, listed_of}
use Rattle.lookup.specs.Contract.{Lists, KeysBehind}
use Rattle.lookup.proofs.Alike.{gates, gated-alike}
use Rattle.store.specs.List.{KeysListed, KeyListed}

-- the same keys in two areas that held the same
same_keys : (ks out one other : List ℕ) (a b : ℕ) → length one ≡ length out → length other ≡ length out → Lists ks out one a → Lists ks out other b
    → ((i : ℕ) → a ≤ i → get_or one i 0 ≡ get_or out i 0) → ((i : ℕ) → b ≤ i → get_or other i 0 ≡ get_or out i 0) → (a ≡ b) × (one ≡ other)
same_keys ks out one other a b l m x y f g = (same, ext_get_or 0 one other (l ∙ sym m) (λ i h. at i (dec_lt i a)))
  where
    same : a ≡ b
    same = x.all ∙ sym y.all

    front : take a one ≡ take a other
    front = x.rising ∙ sym (ap (λ (n : ℕ). take n other) same ∙ y.rising)

    at : (i : ℕ) → Dec (i < a) → get_or one i 0 ≡ get_or other i 0
    at i (yes h) = sym (get_or-take a one i 0 h) ∙ ap (λ (l : List ℕ). get_or l i 0) front ∙ get_or-take a other i 0 h
    at i (no n) = f i (omega arith) ∙ sym (g i (let e = same in omega arith))

module _ (s t : Session) (image table beside : List ℕ) (w : Same Proper state_of Fits s t image image table beside) where
  -- the gate answers the same at both
  same-gates : read_gate (state_of t) (length image) (length beside) ≡ read_gate (state_of s) (length image) (length table)
  same-gates = gates read_gate s t image image table beside w

  refused-once : (n m : Refusal) → read_gate (state_of s) (length image) (length table) ≡ some n → read_gate (state_of t) (length image) (length beside) ≡ some m → n ≡ m
  refused-once n m x y = let e = same-gates in cc

  never_both : (n : Refusal) → read_gate (state_of s) (length image) (length table) ≡ some n → read_gate (state_of s) (length image) (length table) ≡ none → ⊥
  never_both n x y = let z : ◌≡◌ {A = ℕ} 0 1 = cc in omega arith

  -- and both read the same words
  abbrev read : State → List ℕ
  read σ = read_words σ (words_of image)

  abbrev entries : State → List Entry
  entries σ = entries_in (state_power σ) (chunks_in (state_power σ) (length image)) (read σ)

  -- one key
  pub key-alike : (key : ℕ) (r q : Listed) → KeyListed s key image table r → KeyListed t key image beside q → r ≡ q
  key-alike key r q x y =
      gated-alike read_gate s t image image table beside w (λ n. Err n) (listed_of (read (state_of s)) (entries (state_of s)) key) r q (x.listed.gated s.buffer)
      (λ e. x.listed.listed s.buffer e w.fits) (y.listed.gated t.buffer)
      (λ e. y.listed.listed t.buffer e w.also ∙ ap (λ (σ : State). listed_of (read σ) (entries σ) key) (sym w.state))

  -- all keys, into areas that held the same
  pub keys-alike : (out one other : List ℕ) (r q : Result ℕ Refusal) → KeysListed s image table out one r → KeysListed t image beside out other q → (r ≡ q) × (one ≡ other)
  keys-alike out one other r q x y = go r q x.listed.answered y.listed.answered
    where
      go : (r q : Result ℕ Refusal) → KeysBehind s.control s.setup image table out one r → KeysBehind t.control t.setup image beside out other q → (r ≡ q) × (one ≡ other)
      go (Err n) (Err m) a b = (ap (λ (x : Refusal). Err x) (refused-once n m (a.0 s.buffer) (b.0 t.buffer)), a.1 ∙ sym b.1)
      go (Err n) (Ok d) a b = absurd (never_both n (a.0 s.buffer) (sym same-gates ∙ b.0 t.buffer))
      go (Ok c) (Err m) a b = absurd (never_both m (sym same-gates ∙ b.0 t.buffer) (a.0 s.buffer))
      go (Ok c) (Ok d) a b =
          let there : Lists (present_keys (read (state_of s)) (entries (state_of s))) out other d = rw w.state (b.3 t.buffer w.also) in
          let k = same_keys (present_keys (read (state_of s)) (entries (state_of s))) out one other c d x.listed.sized y.listed.sized (a.3 s.buffer w.fits) there a.2 b.2 in
          (ap (λ (x : ℕ). Ok x) k.0, k.1)
