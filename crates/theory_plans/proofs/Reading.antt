-- What look-up reads while a call is unfinished: what a call's actions leave alone, and what it then shows.
-- Assumes nothing.
use mathlib.Core.Path.{◌≡◌, ◌∙◌, ap}
use mathlib.Core.Logic.{⊎_elim}
use mathlib.Core.Option.{some}
use mathlib.Core.List.{List, [], ◌∷◌}
use Prim.Native.Nat.{ℕ, ◌≤◌}
use Rattle.spec.specs.Words.{words_of, AreBytes}
use Rattle.spec.specs.Medium.{Medium, Action, latest, apply}
use Rattle.spec.specs.Log.{Entry}
use Rattle.spec.specs.Contents.{Held, capacity, entries_in, listed}
use Rattle.spec.specs.Plans.{Olds, put_back, look_up}
use Rattle.spec.specs.Book.{Item}
use Rattle.spec.specs.History.{shows}
use Rattle.theory_base.proofs.PutBack.{AreOf, AreLow, past-flip, past_back}
use Rattle.theory_base.proofs.Through.{Through, Each, through-map}
use Rattle.theory_crash.specs.Accepted.{Ok}
use Rattle.theory_crash.specs.Rest.{Cuts, Leaves}
use Rattle.theory_crash.proofs.Frame.{frame-ok, frame-contents}
use Rattle.theory_crash.proofs.Rest.{can-latest}
use Rattle.theory_crash.proofs.View.{Shy, seen-through, seen-looks}
use Rattle.theory_plans.specs.Standing.{Standing, Says, Reading}
use Rattle.theory_plans.specs.Laws.{Anything}
use Rattle.theory_plans.proofs.Looking.{looked}

-- both hold all the way, and the first one's end
through-both : (B B' A A' : Medium → Type 0) (xs : List Action) (m : Medium) → Through B A xs m → Through B' A' xs m → Through (λ m'. B m' × B' m') A xs m
through-both B B' A A' [] m t u = t
through-both B B' A A' (a ∷ xs) m t u = ((t.0, u.0), through-both B B' A A' xs (apply a m) t.1 u.1)

-- where every cut leaves the contents, some cut does
pub cuts-left : (p n keys : ℕ) (C : ℕ → Held) (m : Medium) → Cuts p n keys C C m → Leaves p n keys C m
cuts-left p n keys C m h = (latest m, can-latest m, ⊎_elim (λ x. x) (λ x. x) (h (latest m) (can-latest m)))

module _ (p : ℕ) (lo : 12 ≤ p) (hi : p ≤ 16) where
  module _ (n table : ℕ) (C : ℕ → Held) (book : List Item) (items : List Entry) (m : Medium) (s : Standing p n table C book items m) (olds : Olds) (acts : List Action) where
    -- a call whose actions are shy
    pub shy-reads : AreOf s.words olds → AreLow olds → Each (Shy p lo hi n s.words s.entries s.rest.ok olds) acts
        → Through (Leaves p n (capacity table) C) Anything acts m → Reading p n table C s.words olds acts m
    shy-reads of low shy left = record {
      entries = s.entries;
      ok = s.rest.ok;
      holds = s.holds;
      low = low;
      reads = through-both (Says p n s.words s.entries olds) (Leaves p n (capacity table) C) (Says p n s.words s.entries olds) Anything acts m
          (seen-through p lo hi n s.words s.entries s.rest.ok olds acts m s.rest.now of shy) left;
    }

    -- one that keeps the contents
    pub same_reads : (A : Medium → Type 0) → AreOf s.words olds → AreLow olds → Each (Shy p lo hi n s.words s.entries s.rest.ok olds) acts
        → Through (Cuts p n (capacity table) C C) A acts m → Reading p n table C s.words olds acts m
    same_reads A of low shy t = shy-reads of low shy (through-map (Cuts p n (capacity table) C C) (Leaves p n (capacity table) C) A Anything acts m (λ m' h. cuts-left p n (capacity table) C m' h) (λ x. tt) t)

  -- what is read then
  module _ (n table : ℕ) (C : ℕ → Held) (ws : List ℕ) (olds : Olds) (rest : List Action) (m : Medium) (r : Reading p n table C ws olds rest m) where
    abbrev vs : List ℕ
    vs = put_back olds (latest m)

    says-now : Says p n ws r.entries olds m
    says-now = go rest r.reads
      where
        go : (acts : List Action) → Through (λ m'. Says p n ws r.entries olds m' × Leaves p n (capacity table) C m') (Says p n ws r.entries olds) acts m → Says p n ws r.entries olds m
        go [] t = t
        go (a ∷ acts) t = t.0.0

    reading-ok : Ok p n vs r.entries
    reading-ok = frame-ok p lo hi n ws r.entries vs r.ok says-now

    reads-shows : (image : List ℕ) → AreBytes image → words_of image ≡ latest m → (k : ℕ) → shows (look_up vs (entries_in p n vs) k) image ≡ some (C k)
    reads-shows image small w k =
        ap (λ (l : List Entry). shows (look_up vs l k) image) (ap listed reading-ok.parsed)
        ∙ looked p lo hi n vs r.entries image reading-ok small (rw w (past-flip vs (latest m) (past_back olds (latest m) r.low))) k
        ∙ ap some (frame-contents p lo hi n ws r.entries vs r.ok says-now k ∙ r.holds k)

    reads_same : (k : ℕ) → look_up vs (entries_in p n vs) k ≡ look_up ws (entries_in p n ws) k
    reads_same k = seen-looks p lo hi n ws r.entries r.ok vs says-now k

  pub reading-shows : (n table : ℕ) (C : ℕ → Held) (ws : List ℕ) (olds : Olds) (rest : List Action) (m : Medium) (image : List ℕ) → AreBytes image → words_of image ≡ latest m → Reading p n table C ws olds rest m
      → (k : ℕ) → shows (look_up (put_back olds (latest m)) (entries_in p n (put_back olds (latest m))) k) image ≡ some (C k)
  reading-shows n table C ws olds rest m image small w r k = reads-shows n table C ws olds rest m r image small w k

  pub reading-same : (n table : ℕ) (C : ℕ → Held) (ws : List ℕ) (olds : Olds) (rest : List Action) (m : Medium) → Reading p n table C ws olds rest m
      → (k : ℕ) → look_up (put_back olds (latest m)) (entries_in p n (put_back olds (latest m))) k ≡ look_up ws (entries_in p n ws) k
  reading-same n table C ws olds rest m r k = reads_same n table C ws olds rest m r k
