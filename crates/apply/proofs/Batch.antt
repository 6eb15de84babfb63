-- The laws of a batch that joins: what is left of it at the beginning, after one more item, and at the end.
-- Assumes nothing.
use Rattle.std.proofs.Common.{◌≡◌, ℕ, ◌+◌, ◌-◌, ◌<◌, ◌≤◌, min, Bool, true, false, eqb, ◌⊎◌, List, [], ◌∷◌, ◌++◌, length, get_or, sym, refl, ap, subst, ◌∙◌, inl, inr, add-zero, arith}
use lib.Seq.{append_snoc}
use Rattle.spec.specs.declared.Size.{Size}
use Rattle.spec.specs.declared.Size.TheVariants as S
use Rattle.spec.specs.Basics.{pick, larger}
use Rattle.spec.specs.Places.{max_chunks, chunk_units, unit_chunk, unit_word}
use Rattle.spec.specs.Directory.{size_of}
use Rattle.spec.specs.Log.{Entry, Entries, moved, placed}
use Rattle.spec.specs.Blocks.{pointed}
use Rattle.spec.specs.Contents.{highest}
use Rattle.spec.specs.Opening.{fine}
use Rattle.theory_log.specs.Contents.{Mem, Top, CountsOn}
use Rattle.theory_log.proofs.Contents.{larger-r, below-highest, counts_same, highest-insert}
use Rattle.theory_log.proofs.Clean.{mem-placed}
use Rattle.theory_crash.proofs.Blocks.{block-fits}
use Rattle.buffer.specs.Areas.{batch_room, buffer_words}
use Rattle.places.specs.Sizes.{power_of, unit_count}
use Rattle.buffer.proofs.Laws.{front_kept, front-all, front-then}
use Rattle.volatile.specs.Known.{extent_of, alone, own_of}
use Rattle.volatile.specs.Sums.{weight}
use Rattle.volatile.specs.Change.{Weighed}
use Rattle.session.specs.Fits.{ItemsFit}
use Rattle.session.proofs.Part.{part-agree}
use Rattle.batch.specs.declared.StagedEntry.{StagedEntry}
use Rattle.std.specs.Prelude.{Some, None}
use Rattle.volatile.specs.Blocks.{block_at, Claimed}
use Rattle.apply.specs.Joining.{Later, Shown, Awaited, OneJoined, Left, Going, Fenced, Joining}
use Rattle.batch.specs.Staged.{Taken, StagedFrom, Staged}
use Rattle.apply.proofs.Joined.{which}
use Rattle.apply.proofs.Claiming.{joined-shown}

-- Items that count on are above the entries of their keys, also where they are placed.
highest-more : (k : ℕ) (e : Entry) (es : List Entry) → highest k es ≤ highest k (e ∷ es)
highest-more k e es = go (eqb e.key k)
  where
    go : (b : Bool) → highest k es ≤ pick b (larger e.version (highest k es)) (highest k es)
    go true = larger-r e.version (highest k es)
    go false = omega arith

counts-later : (es items : List Entry) → CountsOn es items → Later es items
counts-later es [] c g m = absurd m
counts-later es (e ∷ items) c g (inl q) = rw q (let v = c.0 in omega arith)
counts-later es (e ∷ items) c g (inr m) = let h = counts-later (e ∷ es) items c.1 g m in let l = highest-more g.key e es in omega arith

later-placed : (at : ℕ) (es items : List Entry) → Later es items → Later es (placed at items)
later-placed at es items h f m = let r = mem-placed f at items m in rw r.3 (h r.0 r.1)

-- The blocks of items: with one joined, those of the others are still dead, since its block is its own.
items-next : (size : Size) → (n : ℕ) (ws : List ℕ) (xs ys : List Entry) (x : Entry) (at : ℕ) (es : List Entry) → CountsOn (xs ++ ys) (x ∷ es) → ItemsFit (power_of size) n ws (xs ++ ys) (x ∷ es) → ItemsFit (power_of size) n ws (xs ++ moved at x ∷ ys) es
items-next size n ws xs ys x at es counts fit = record {
  blocks = λ e m. fit.blocks e (inr m);
  dead = λ e f m t p q z. go e f m p q z (which xs ys (moved at x) (let v = counts.0 in omega arith) (λ g. fit.dead x g (inl refl)) f t);
  own = λ e f l m. fit.own e f (inr l) (inr m);
}
  where
    go : (e f : Entry) → Mem e es → pointed e ≡ true → pointed f ≡ true → e.field ≡ f.field → (f ≡ moved at x) ⊎ ((f.key ≡ x.key → ⊥) × Top (xs ++ ys) f) → ⊥
    go e f m p q z (inl r) =
        let o : e ≡ x = fit.own e x (inr m) (inl refl) p (sym (ap pointed r) ∙ q) (z ∙ ap (λ (y : Entry). y.field) r) in
        let l = counts-later (x ∷ (xs ++ ys)) es counts.1 e m in
        let h = below-highest x.key (x ∷ (xs ++ ys)) x (inl refl) refl in
        let k : highest x.key (x ∷ (xs ++ ys)) < x.version = subst (λ (y : Entry). highest y.key (x ∷ (xs ++ ys)) < y.version) o l in
        omega arith
    go e f m p q z (inr t) = fit.dead e f (inr m) t.1 p q z

-- A right block has a bit.
unit-inside : (size : Size) (n u : ℕ) → n ≤ max_chunks → unit_chunk (power_of size) u < n → u < unit_count size
unfolding unit_chunk chunk_units
unit-inside S.Small n u most h = omega arith
unit-inside S.Large n u most h = omega arith

small-block : (size : Size) → (n : ℕ) (ws : List ℕ) (e : Entry) → n ≤ max_chunks → fine (power_of size) n ws e ≡ true → pointed e ≡ true → e.field < unit_count size
small-block size n ws e most f p =
    let x = block-fits (power_of size) n e.field (size_of (power_of size) ws (unit_chunk (power_of size) e.field)) (get_or ws (unit_word e.field) 0) _ (rw p at f) in
    unit-inside size n e.field most x.high

-- ## The beginning

left-start : (size : Size) → (n place words known : ℕ) (buffer ws table : List ℕ) (front back items : List Entry) → Fenced size n place words known buffer ws table front back items
    → Left size n ws buffer table known place 0 (min words batch_room) (front ++ (placed place items ++ back)) back
left-start size n place words known buffer ws table front back items f = record {
  joined = front;
  rest = items;
  parts = rw (add-zero place);
  words = let z : min words batch_room - 0 ≡ min words batch_room = omega arith in rw z f.written;
  right = f.right;
  counts = f.counts;
  fit = f.fit;
  shown = f.shown;
  most = f.most;
  image = f.image;
  room = f.room;
}

-- ## One more item

left-next : (size : Size) → (n : ℕ) (ws buffer buffer' buffer'' table table' : List ℕ) (keys keys' place at end : ℕ) (told : StagedEntry) (extent own w : ℕ) (whole back : List Entry) → end ≤ batch_room
    → ((rest : List Entry) → StagedFrom buffer at end rest → Taken buffer at end told rest) → at + (2 + told.words) ≤ end
    → extent ≡ extent_of size told.placement told.field → own ≡ alone size extent (place + at) told.version → Weighed told.op told.words w → OneJoined size ws buffer buffer' table table' keys told.key own w keys' → Claimed size buffer' buffer'' (block_at told.op told.placement told.field)
    → Left size n ws buffer table keys place at end whole back → Left size n ws buffer'' table' keys' place (at + (2 + told.words)) end whole back
left-next size n ws buffer buffer' buffer'' table table' keys keys' place at end told extent own w whole back short taken fits is-extent is-own weighed one claimed l = record {
  joined = l.joined ++ e ∷ [];
  rest = es;
  parts = parts ∙ sym (append_snoc l.joined e (placed (place + (at + (2 + told.words))) es ++ back));
  words = part-agree buffer'' buffer (at + (2 + told.words)) (end - (at + (2 + told.words))) (λ j l h. (front-then buffer buffer' buffer'' one.kept (front_kept buffer' buffer'' claimed.kept)).below j (omega arith)) ∙ t.behind;
  right = (rw t.all at l.right).1;
  counts = counts_same (t.entry ∷ (l.joined ++ back)) ((l.joined ++ e ∷ []) ++ back) es (λ k. rw append_snoc (highest-insert k l.joined back e)) counts.1;
  fit = rw append_snoc (items-next size n ws l.joined back t.entry (place + at) es counts items);
  shown = rw append_snoc (joined-shown size n ws buffer buffer' buffer'' table table' keys keys' l.joined more back e awaits l.shown (small-block size n ws t.entry l.most (items.blocks t.entry (inl refl)))
      (one.joins n l.joined more back e t.of-key own-here is-weight awaits l.shown) (rw (t.of-op, t.of-placement, t.of_field) claimed));
  most = l.most;
  image = l.image;
  room = rw one.sized l.room;
}
  where
    t : Taken buffer at end told l.rest
    t = taken l.rest (l.right, l.words)

    es : List Entry
    es = t.others

    e : Entry
    e = moved (place + at) t.entry

    own-here : own_of size e ≡ own
    own-here = rw (t.of-placement, t.of_field, t.of-version, ← is-extent) (sym is-own)

    is-weight : w ≡ weight e
    is-weight = weighed.is (omega arith) ∙ rw (t.of-op, t.size)

    more : List Entry
    more = placed (place + (at + (2 + told.words))) es

    parts : whole ≡ l.joined ++ (e ∷ (more ++ back))
    parts =
        let p : place + at + (2 + length t.entry.value) ≡ place + (at + (2 + told.words)) = omega (arith, t.size) in
        rw (t.all, p) at l.parts

    counts : CountsOn (l.joined ++ back) (t.entry ∷ es)
    counts = rw t.all at l.counts

    items : ItemsFit (power_of size) n ws (l.joined ++ back) (t.entry ∷ es)
    items = rw t.all at l.fit

    later : Later (l.joined ++ back) (e ∷ more)
    later =
        let p : place + at + (2 + length t.entry.value) ≡ place + (at + (2 + told.words)) = omega (arith, t.size) in
        rw (t.all, p) at (later-placed (place + at) (l.joined ++ back) l.rest (counts-later (l.joined ++ back) l.rest l.counts))

    awaits : Awaited size n ws table l.joined more back e
    awaits = record { most = l.most; shown = l.image ∙ ap Entries parts; later = later; dead = λ f o p q z. items.dead t.entry f (inl refl) o p q z; room = rw parts at l.room }

-- ## The loop: what was left at the beginning says what is left now

pub going_start : (size : Size) → (ws buffer table : List ℕ) (keys place at end : ℕ) → length buffer ≡ buffer_words → Going size ws buffer table keys place at end buffer table keys at
going_start size ws buffer table keys place at end long = record { kept = front-all buffer long; sized = refl; goes = λ n whole back l. l }

pub going-then : (size : Size) → (ws buffer₀ table₀ : List ℕ) (keys₀ place at₀ end : ℕ) (buffer table : List ℕ) (keys at : ℕ) (buffer' table' : List ℕ) (keys' at' : ℕ) → Going size ws buffer₀ table₀ keys₀ place at₀ end buffer table keys at
    → Going size ws buffer table keys place at end buffer' table' keys' at' → Going size ws buffer₀ table₀ keys₀ place at₀ end buffer' table' keys' at'
going-then size ws buffer₀ table₀ keys₀ place at₀ end buffer table keys at buffer' table' keys' at' g h = record {
  kept = front-then buffer₀ buffer buffer' g.kept h.kept;
  sized = h.sized ∙ g.sized;
  goes = λ n whole back l. h.goes n whole back (g.goes n whole back l);
}

module _ (size : Size) (ws buffer₀ table₀ : List ℕ) (keys₀ place at₀ end : ℕ) (buffer table : List ℕ) (keys at : ℕ) (inv : Going size ws buffer₀ table₀ keys₀ place at₀ end buffer table keys at)
  where
    pub going_next : (t : StagedEntry) → Staged buffer at end (Some t) → end ≤ batch_room → (extent own : ℕ) → extent ≡ extent_of size t.placement t.field → own ≡ alone size extent (place + at) t.version
        → (w : ℕ) → Weighed t.op t.words w → (buffer' table' : List ℕ) (keys' : ℕ) → OneJoined size ws buffer buffer' table table' keys t.key own w keys' → (buffer'' : List ℕ) → Claimed size buffer' buffer'' (block_at t.op t.placement t.field)
        → Going size ws buffer₀ table₀ keys₀ place at₀ end buffer'' table' keys' (at + (2 + t.words))
    going_next t told short extent own is-extent is-own w weighed buffer' table' keys' one buffer'' claimed = record {
      kept = front-then buffer₀ buffer buffer'' inv.kept (front-then buffer buffer' buffer'' one.kept (front_kept buffer' buffer'' claimed.kept));
      sized = one.sized ∙ inv.sized;
      goes = λ n whole back l.
          left-next size n ws buffer buffer' buffer'' table table' keys keys' place at end t extent own w whole back short told.1 told.0 is-extent is-own weighed one claimed (inv.goes n whole back l);
    }

    -- the end
    going_end : Staged buffer at end None → (n : ℕ) (whole back : List Entry) → Left size n ws buffer₀ table₀ keys₀ place at₀ end whole back → Shown size buffer table keys whole
    going_end told n whole back l =
        let m = inv.goes n whole back l in
        let z = told m.rest (m.right, m.words) in
        rw (m.parts, z) m.shown

pub going-joins : (size : Size) → (words : ℕ) (ws buffer₀ table₀ : List ℕ) (keys₀ place at₀ end : ℕ) (buffer table : List ℕ) (keys at : ℕ) (inv : Going size ws buffer₀ table₀ keys₀ place at₀ end buffer table keys at)
    → Staged buffer at end None → at₀ ≡ 0 → end ≡ min words batch_room → Joining size place words keys₀ buffer₀ buffer ws table₀ table keys
going-joins size words ws buffer₀ table₀ keys₀ place at₀ end buffer table keys at inv told q4 q5 = record {
  kept = inv.kept;
  sized = inv.sized;
  joins = λ n front back items f.
      going_end size ws buffer₀ table₀ keys₀ place at₀ end buffer table keys at inv told n (front ++ (placed place items ++ back)) back (rw (q4, q5) (left-start size n place words keys₀ buffer₀ ws table₀ front back items f));
}
