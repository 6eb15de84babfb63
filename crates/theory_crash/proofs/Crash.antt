-- CRASH SAFETY, the crate's main statements: what a power cut at any point of any call leaves, and what its end leaves.
-- Assumes nothing.
--
-- INVARIANTS, each with the lemma that shows it
--  1. Acceptance, entries, known keys and contents look at the support of an image alone: `Frame.frame-ok`,
--      `frame-contents`,
--     `frame-support`.
--  2. Opening accepts exactly the images that are `Ok` at the power that their header says, 12 or 16, and whose known
--     keys fit the table: `Opening.ok-opens`, `opens-ok`; 2 to 7 do so at every power from 12 to 16:
--     `Opening.ok-taken`, `taken-ok`.
--  3. At rest, the support is settled, so every cut opens with the same entries and contents: `Rest.rest-cut`.
--  4. At rest is kept by flushes and fences (`Rest.rest-quiet`) and by stores outside the support (`Rest.rest-store`),
--      the
--     directory word of a chunk that becomes a data chunk among them (`Stage.take-through`).
--  5. Spare words, behind the committed lines (`Body.free-area`) and in a block that no top put points to
--     (`Stage.free-block`), lie outside the support: a superseded block is not spare before the last fence of its
--     commit.
--  6. A switch finds all that the new image needs settled, but for one directory word: `Commit.ready`,
--      `Free.free-through`.
--     While that word has two sorts of values every cut opens with the old or the whole new contents:
--     `Switch.switching-cut`.
--  7. Known keys are never more than the bound `keys` that held when the call was begun: `Commit.few-new`,
--      `Free.free-through`;
--     so no later opening is refused with 7 (`cut-taken`, `cut-opens`).
--  8. The word of a data chunk was flushed when the call that made it ended, so that a commit's first fence settles
--      what its
--     entries point to: `Cells.flushed-after`, `Staged.staged-prepared`, `prepared-stays`.
--
-- PHASES
--
--     any medium ──a──► AT REST ◄─b─┐
--                          │  └─────┘
--                          ├──c──► WRITING ──d──► SWITCHING ──e──► AT REST, new
--                          ├──────────f─────────►     │
--                          │          │               │
--                          g          g               h      power cut
--                          └──────────┴───────────────┴──► image ──i──► AT REST
--
--     edge | what happens                                                   | lemma
--     a    | formatting                                                     | Format.format-through
--     b    | flushes and fences; stores outside the support                 | Rest.rest-quiet; Rest.rest-store
--          | staging into a block, or into a chunk taken for it; freeing of | Stage.stage-through, take-stage-through;
--          | a data chunk                                                   | Free.free-data
--     c    | the words of a commit, flushed and fenced, each at rest        | Commit.body-through (Body.busy-kept)
--     d    | the store of the directory word, then its flush                | Switch.rest-switches (Commit.ready),
--     switching-quiet
--     e    | the fence                                                      | Switch.switching-rests
--     f    | freeing of a log chunk: a switch with nothing written          | Free.free-through
--     g, h | a cut: the old contents; the old or the new                    | Rest.stays-cut; Switch.switching-cuts
--     i    | opening accepts the image, and the medium is at rest           | cut-opens; cut-rests
--
--     A commit is c, d, e (Commit.commit-through). A cleaning is a commit of copies, then f (Clean.clean-through), or f
--     alone
--     (Clean.clean-free-through).
use mathlib.Core.Path.{◌≡◌, refl, ◌∙◌}
use mathlib.Core.Logic.{◌⊎◌, inl, inr}
use mathlib.Core.Bool.{true}
use mathlib.Core.List.{List, ◌++◌}
use Prim.Native.Nat.{ℕ, ◌*◌, ◌≤◌}
use lib.ListN.{length}
use Rattle.spec.specs.Places.{base, directory_word, is_power}
use Rattle.spec.specs.Medium.{Action, Medium, run, CanCutTo, settled_at}
use Rattle.spec.specs.Log.{Entry}
use Rattle.spec.specs.Contents.{Held, keys_of, capacity, contents}
use Rattle.spec.specs.Opening.{Accepted, open_chunks, opening}
use Rattle.theory_base.proofs.Words as W
use Rattle.theory_base.proofs.Places.{power-bounds}
use Rattle.theory_base.proofs.Through.{Through, through-prefix}
use Rattle.theory_crash.specs.Rest.{Flushed, Holds, Rests, Cuts}
use Rattle.theory_crash.specs.Stage.{Stored}
use Rattle.theory_crash.proofs.Opening.{holds-taken, opens_as}
use Rattle.theory_crash.proofs.Rest.{settled-rest, stays-new}

-- settled words are flushed
pub settled-flushed : (p n : ℕ) (xs : List ℕ) → Flushed p n (settled_at xs)
settled-flushed p n xs c a b h = rw (W.cell-settled xs (directory_word c))

pub holds-rests : (p n keys : ℕ) (C : ℕ → Held) (xs : List ℕ) → Holds p n keys C xs → Rests p n keys C (settled_at xs)
holds-rests p n keys C xs (es, ok, few, h) = ((xs, es, settled-rest p n xs es ok, few, h), settled-flushed p n xs)

-- a staging's end is at rest too
pub stored-rests : (p n keys : ℕ) (es : List Entry) (C : ℕ → Held) (ws : List ℕ) (m : Medium) (u w : ℕ) (words : List ℕ) (m' : Medium) → length (keys_of es) ≤ keys → Stored p n es C ws m u w words m' → Rests p n keys C m'
stored-rests p n keys es C ws m u w words m' few t = ((t.image, es, t.rests, few, t.holds), t.flushed)

-- AFTER A CUT the medium is at rest, with the old contents or the new.
pub cut-rests : (p n keys : ℕ) (C D : ℕ → Held) (m : Medium) → Cuts p n keys C D m → (xs : List ℕ) → CanCutTo m xs → Rests p n keys C (settled_at xs) ⊎ Rests p n keys D (settled_at xs)
cut-rests p n keys C D m h xs t = go (h xs t)
  where
    go : Holds p n keys C xs ⊎ Holds p n keys D xs → Rests p n keys C (settled_at xs) ⊎ Rests p n keys D (settled_at xs)
    go (inl a) = inl (holds-rests p n keys C xs a)
    go (inr a) = inr (holds-rests p n keys D xs a)

-- AT ANY CHUNK POWER FROM 12 TO 16. EVERY OPENING after a cut succeeds, with any table that has space for the keys:
-- said of what an opening asks behind the length and the power, 2 to 7.
module _ (p : ℕ) (lo : 12 ≤ p) (hi : p ≤ 16) where
  pub cut-taken : (n keys table : ℕ) (C D : ℕ → Held) (m : Medium) → keys ≤ capacity table → Cuts p n keys C D m → (xs : List ℕ) → CanCutTo m xs
      → (es : List Entry) × (open_chunks p n xs table ≡ Accepted es) × (((k : ℕ) → contents p n xs k ≡ C k) ⊎ ((k : ℕ) → contents p n xs k ≡ D k))
  cut-taken n keys table C D m small h xs t = go (h xs t)
    where
      go : Holds p n keys C xs ⊎ Holds p n keys D xs → (es : List Entry) × (open_chunks p n xs table ≡ Accepted es) × (((k : ℕ) → contents p n xs k ≡ C k) ⊎ ((k : ℕ) → contents p n xs k ≡ D k))
      go (inl a) = let o = holds-taken p n keys table C xs small a in (o.0, o.1, inl o.2)
      go (inr a) = let o = holds-taken p n keys table D xs small a in (o.0, o.1, inr o.2)

  -- after any of its actions
  prefix-cuts : (n keys : ℕ) (C D : ℕ → Held) (acts : List Action) (m : Medium) → Through (Cuts p n keys C D) (Rests p n keys D) acts m
      → (begun rest : List Action) → acts ≡ begun ++ rest → Cuts p n keys C D (run begun m)
  prefix-cuts n keys C D acts m t begun rest e =
      through-prefix (Cuts p n keys C D) (Rests p n keys D) (λ m' r. stays-new p lo hi n keys C D m' r.0) begun rest m (rw e at t)

  -- THE CRASH THEOREM, of any call whose actions are done as `Through` says: a cut after any of them opens with the old
  -- contents or the new.
  pub crash-taken : (n keys table : ℕ) (C D : ℕ → Held) (acts : List Action) (m : Medium) → keys ≤ capacity table → Through (Cuts p n keys C D) (Rests p n keys D) acts m
      → (begun rest : List Action) → acts ≡ begun ++ rest → (xs : List ℕ) → CanCutTo (run begun m) xs
      → (es : List Entry) × (open_chunks p n xs table ≡ Accepted es) × (((k : ℕ) → contents p n xs k ≡ C k) ⊎ ((k : ℕ) → contents p n xs k ≡ D k))
  crash-taken n keys table C D acts m small t begun rest e = cut-taken n keys table C D (run begun m) small (prefix-cuts n keys C D acts m t begun rest e)

-- USED AT 12 AND AT 16, the powers that an opening takes.
module _ (p : ℕ) (power : is_power p ≡ true) where
  lo : 12 ≤ p
  lo = (power-bounds p power).0

  hi : p ≤ 16
  hi = (power-bounds p power).1

  pub cut-opens : (n keys table : ℕ) (C D : ℕ → Held) (m : Medium) → keys ≤ capacity table → Cuts p n keys C D m → (xs : List ℕ) → CanCutTo m xs
      → (es : List Entry) × (opening (8 * base p n) xs table ≡ Accepted es) × (((k : ℕ) → contents p n xs k ≡ C k) ⊎ ((k : ℕ) → contents p n xs k ≡ D k))
  cut-opens n keys table C D m small h xs t = let o = cut-taken p lo hi n keys table C D m small h xs t in (o.0, same (h xs t) ∙ o.1, o.2)
    where
      same : Holds p n keys C xs ⊎ Holds p n keys D xs → opening (8 * base p n) xs table ≡ open_chunks p n xs table
      same (inl a) = opens_as p power n (8 * base p n) table xs a.0 refl a.1
      same (inr a) = opens_as p power n (8 * base p n) table xs a.0 refl a.1

  pub crash : (n keys table : ℕ) (C D : ℕ → Held) (acts : List Action) (m : Medium) → keys ≤ capacity table → Through (Cuts p n keys C D) (Rests p n keys D) acts m
      → (begun rest : List Action) → acts ≡ begun ++ rest → (xs : List ℕ) → CanCutTo (run begun m) xs
      → (es : List Entry) × (opening (8 * base p n) xs table ≡ Accepted es) × (((k : ℕ) → contents p n xs k ≡ C k) ⊎ ((k : ℕ) → contents p n xs k ≡ D k))
  crash n keys table C D acts m small t begun rest e = cut-opens n keys table C D (run begun m) small (prefix-cuts p lo hi n keys C D acts m t begun rest e)
