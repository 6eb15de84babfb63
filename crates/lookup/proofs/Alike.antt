-- Two stations with the same state and image are answered alike at the gate, and so by every call whose answer is the
-- gate's refusal, or behind the gate a value of the image alone.
-- Assumes nothing.
use mathlib.Core.Path.{◌≡◌, refl, sym, ◌∙◌}
use mathlib.Core.Option.{Option, none, some}
use mathlib.Core.List.{List}
use Prim.Native.Nat.{ℕ}
use lib.ListN.{length}
use Rattle.spec.specs.Machine.{State}
use Rattle.spec.specs.Reopening.{Same}
use Rattle.spec.specs.declared.Refusal.{Refusal}
use Rattle.session.specs.declared.Session.{Session}
use Rattle.session.specs.State.{state_of}
use Rattle.session.specs.Fits.{Proper, Fits}

-- a gate, look-up's or that of the other calls
module _ (ask : State → ℕ → ℕ → Option Refusal) (s t : Session) (image other table beside : List ℕ) (w : Same Proper state_of Fits s t image other table beside) where
  pub gates : ask (state_of t) (length other) (length beside) ≡ ask (state_of s) (length image) (length table)
  gates = rw (w.state, w.bytes, w.lengths)

  -- r and q are what is answered, `refused n` the answer where the gate refuses with n, and v the one behind the gate
  pub gated-alike : {A : Type 0} (refused : Refusal → A) (v r q : A)
      → ((n : Refusal) → ask (state_of s) (length image) (length table) ≡ some n → r ≡ refused n) → (ask (state_of s) (length image) (length table) ≡ none → r ≡ v)
      → ((n : Refusal) → ask (state_of t) (length other) (length beside) ≡ some n → q ≡ refused n) → (ask (state_of t) (length other) (length beside) ≡ none → q ≡ v) → r ≡ q
  gated-alike refused v r q x x' y y' = go (ask (state_of s) (length image) (length table)) refl
    where
      go : (g : Option Refusal) → ask (state_of s) (length image) (length table) ≡ g → r ≡ q
      go none e = x' e ∙ sym (y' (gates ∙ e))
      go (some n) e = x n e ∙ sym (y n (gates ∙ e))
