-- The laws of the walk: what each step does to what remains, and that it comes nearer to the end.
-- Assumes nothing.
use mathlib.Core.Path.{◌≡◌, refl, sym, ◌∙◌, ap}
use mathlib.Core.Option.{none, some}
use Rattle.std.specs.Prelude.{Option, Some, Result, Ok}
use mathlib.Core.List.{List, [], ◌∷◌, ◌++◌, append-nil}
use Prim.Native.Nat.{ℕ, suc, ◌+◌, ◌-◌, ◌<◌, ◌≤◌}
use native.Mathlib.Nat.{suc-mul}
use native.Mathlib.Omega.{arith}
use lib.ListN.{take, drop}
use lib.Seq.{slice, take-take, drop-drop}
use Rattle.spec.specs.declared.LogStep.TheVariants as S
use Rattle.spec.specs.Log.{Entry, Parsed, Wrong, Entries, cons, prepend, join, step_of, chunk_entries, image_entries}
use Rattle.theory_log.specs.Fold.{fold_p}
use Rattle.theory_log.proofs.Parse.{prepend-entries}
use Rattle.theory_log.proofs.Image.{prepend-wrong}
use Rattle.theory_log.proofs.Walk.{slice-more, parse-end, parse-wrong, parse-padding, parse-next, room-padding, room-entry}
use Rattle.theory_log.proofs.Fold.{fold-cons}
use Rattle.logs.specs.declared.Cursor.{Cursor}
use Rattle.logs.specs.declared.Entry as F
use Rattle.logs.specs.declared.WrongEntry.{WrongEntry}
use Rattle.logs.specs.Cursor.{cursor_at, start, remaining, left, with_value, Opened, Handed, Advanced}
use Rattle.logs.proofs.Stands.{take-drop, found-stands}

join-cons : (e : Entry) (q r : Parsed) → join (cons e q) r ≡ cons e (join q r)
join-cons e Wrong r = refl
join-cons e (Entries es) r = refl

join-none : (q : Parsed) → join q (Entries []) ≡ q
join-none Wrong = refl
join-none (Entries es) = prepend-entries es [] ∙ rw append-nil

prepend-more : (xs : List Entry) (e : Entry) (q : Parsed) → prepend (xs ++ (e ∷ [])) q ≡ prepend xs (cons e q)
prepend-more [] e q = refl
prepend-more (x ∷ xs) e q = ap (cons x) (prepend-more xs e q)

-- the whole log, and a chunk behind which none is to come
pub remaining-start : (p n : ℕ) (ws : List ℕ) → remaining p n ws start ≡ image_entries p n ws
unfolding remaining
remaining-start p n ws = refl

pub remaining-chunk : (p : ℕ) (ws : List ℕ) (c n : ℕ) (r : Cursor) → n ≤ suc c → Opened p ws c r → remaining p n ws r ≡ chunk_entries p ws c
unfolding remaining
remaining-chunk p ws c n r h o = let e = o.chunk in let z : n - suc r.chunk ≡ 0 = omega arith in rw (z, o.entries) (join-none (chunk_entries p ws c))

-- The steps, at a place of a chunk.

module _ (p n : ℕ) (ws : List ℕ) (chunk at end : ℕ) where
  pub next-none : step_of (slice at end ws) ≡ S.End → n ≤ suc chunk → remaining p n ws (cursor_at chunk at end) ≡ Entries []
  unfolding remaining
  next-none q h = let z : n - suc chunk ≡ 0 = omega arith in rw (parse-end (slice at end ws) at q, z)

  pub next-wrong : step_of (slice at end ws) ≡ S.Wrong → remaining p n ws (cursor_at chunk at end) ≡ Wrong
  unfolding remaining
  next-wrong q = rw (parse-wrong (slice at end ws) at q)

  pub next-chunk : (r : Cursor) → step_of (slice at end ws) ≡ S.End → suc chunk < n → Opened p ws (chunk + 1) r → remaining p n ws (cursor_at chunk at end) ≡ remaining p n ws r
  unfolding remaining
  next-chunk r q h o =
      let s : chunk + 1 ≡ suc chunk = omega arith in
      let z : n - suc chunk ≡ suc (n - suc (suc chunk)) = omega arith in
      rw (parse-end (slice at end ws) at q, z, o.entries, o.chunk, s)

  pub next-padding : step_of (slice at end ws) ≡ S.Padding → remaining p n ws (cursor_at chunk at end) ≡ remaining p n ws (cursor_at chunk (at + 1) end)
  unfolding remaining
  next-padding q = rw ((parse-padding (slice at end ws) at q).1, slice-more at 1 end ws)

  pub left-chunk : (r : Cursor) → suc chunk < n → Opened p ws (chunk + 1) r → left n ws r < left n ws (cursor_at chunk at end)
  unfolding left
  left-chunk r h o =
      let e : r.chunk ≡ chunk + 1 = o.chunk in
      let z : n - chunk ≡ suc (n - r.chunk) = omega arith in
      rw (z, suc-mul) (omega arith)

  pub left-padding : step_of (slice at end ws) ≡ S.Padding → left n ws (cursor_at chunk (at + 1) end) < left n ws (cursor_at chunk at end)
  unfolding left
  left-padding q = let r = room-padding ws at end q in omega arith

  pub next-found : (op pl v x k m : ℕ) → step_of (slice at end ws) ≡ S.Entry op pl v x k m
      → Handed p n ws (cursor_at chunk at end) (record { op = op; placement = pl; version = v; field = x; key = k; words = m; place = at; behind = cursor_at chunk (at + (2 + m)) end })
  unfolding remaining left
  next-found op pl v x k m q =
      let r = room-entry ws at end op pl v x k m q in
      let a : at + 2 + m ≤ end = omega arith in
      let s = found-stands ws at end op pl v x k m q in
      let value : take m (drop 2 (slice at end ws)) ≡ slice (at + 2) (at + 2 + m) ws =
      ap (take m) (drop-drop 2 at (take end ws)) ∙ take-drop (at + 2) m (take end ws) ∙ ap (drop (at + 2)) (take-take (at + 2 + m) end ws a) in
      record {
        whole = rw ((parse-next (slice at end ws) at op pl v x k m q).1, join-cons, slice-more at (2 + m) end ws, value);
        falls = omega arith;
        size = s.0;
        stands = s.1;
      }

-- from an earlier cursor, from which the same remains
pub handed-from : (p n : ℕ) (ws : List ℕ) (c d : Cursor) (e : F.Entry) → remaining p n ws c ≡ remaining p n ws d → left n ws d ≤ left n ws c
    → Handed p n ws d e → Handed p n ws c e
handed-from p n ws c d e same less h =
    let f = h.falls in
    record { whole = same ∙ h.whole; falls = omega arith; size = h.size; stands = h.stands }

-- what the answer says, for a caller that goes by its case
pub handed : (p n : ℕ) (ws : List ℕ) (c : Cursor) (r : Result (Option F.Entry) WrongEntry) → Advanced p n ws c r → (e : F.Entry) → r ≡ Ok (Some e) → Handed p n ws c e
handed p n ws c r told e q = rw q at told

module _ (p n : ℕ) (ws : List ℕ) (c : Cursor) where
  -- one law for every pass over the log
  module _ {St : Type 0} (f : St → Entry → St) (s : St) where
    pub fold_done : remaining p n ws c ≡ Entries [] → fold_p f s (remaining p n ws c) ≡ some s
    fold_done told = rw told

    pub fold-wrong : remaining p n ws c ≡ Wrong → fold_p f s (remaining p n ws c) ≡ none
    fold-wrong told = rw told

    pub fold-entry : (e : F.Entry) → Handed p n ws c e → fold_p f s (remaining p n ws c) ≡ fold_p f (f s (with_value ws e)) (remaining p n ws e.behind)
    fold-entry e told = rw told.whole (fold-cons f s (with_value ws e) (remaining p n ws e.behind))

  -- the entries passed so far, for a caller that speaks of them
  module _ (whole : Parsed) (xs : List Entry) (so_far : whole ≡ prepend xs (remaining p n ws c)) where
    pub passed-done : remaining p n ws c ≡ Entries [] → whole ≡ Entries xs
    passed-done told = so_far ∙ rw told (prepend-entries xs [] ∙ rw append-nil)

    pub passed-wrong : remaining p n ws c ≡ Wrong → whole ≡ Wrong
    passed-wrong told = so_far ∙ rw told (prepend-wrong xs)

    pub passed_entry : (e : F.Entry) → Handed p n ws c e → whole ≡ prepend (xs ++ (with_value ws e ∷ [])) (remaining p n ws e.behind)
    passed_entry e told = so_far ∙ rw told.whole (sym (prepend-more xs (with_value ws e) (remaining p n ws e.behind)))
