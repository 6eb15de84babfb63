-- Cleaning a log chunk: its kept entries are copied as a commit does, then it is freed; where none is kept it is only
-- freed.
-- Assumes nothing.
use Rattle.std.proofs.lemmas.Bool.Decides.{nat_tests}
use mathlib.Core.Path.{◌≡◌, refl, sym, ◌∙◌, ap}
use mathlib.Core.Logic.{◌⊎◌, inl, inr}
use mathlib.Core.Bool.{true}
use mathlib.Core.List.{List, [], ◌∷◌, ◌++◌}
use Prim.Native.Nat.{ℕ, ◌+◌, ◌-◌, ◌*◌, ◌≤◌, ◌<◌}
use native.Mathlib.Omega.{arith}
use native.Mathlib.Decide.{dec_lt}
use lib.Dec.{eqb}
use lib.ListN.{length, get_or, set, length-append}
use Rattle.spec.specs.Basics.{either, filter}
use Rattle.spec.specs.Places.{chunk_words, chunk_lines, base, directory_word}
use Rattle.spec.specs.Medium.{Cell, Action, Medium, run, latest, cell_at}
use Rattle.spec.specs.Directory.{role_of, size_in, lines_of, size_of, freed_word}
use Rattle.spec.specs.Log.{Entry, encode_all, placed, Entries, image_entries}
use Rattle.spec.specs.Blocks.{pointed}
use Rattle.spec.specs.Contents.{Held, chosen, known, contents_by, meaning, keys_of, is_kept, kept_in}
use Rattle.spec.specs.Opening.{fine}
use Rattle.spec.specs.Actions.{commit_of, free_of}
use Rattle.theory_log.specs.Contents.{Mem, Apart, Top}
use Rattle.theory_base.proofs.Lists.{both_l}
use Rattle.theory_base.proofs.Through.{Through, through-map, through-append, through-end}
use Rattle.theory_base.proofs.Places.{lines-words, base-apart}
use Rattle.theory_log.proofs.Contents.{mem-l, mem-r, mem-cases, mem-filter}
use Rattle.theory_log.proofs.Clean.{mem-placed, is-at}
use Rattle.theory_log.proofs.Places.{rising-apart, right-filter, chunk-sound, all_sound}
use Rattle.theory_log.proofs.Tops.{chosen-top}
use Rattle.theory_log.proofs.Directory.{size_is}
use Rattle.theory_log.proofs.Kept.{Parts, parts, kept-is}
use Rattle.theory_crash.specs.Accepted.{Ok, Needs}
use Rattle.theory_crash.specs.Rest.{AtRest, Flushed, Rests, Cuts, CutsTo}
use Rattle.theory_crash.specs.Batch.{entry_words, Batch}
use Rattle.theory_crash.specs.Clean.{Covers, Carries}
use Rattle.theory_crash.proofs.Effects.{copies}
use Rattle.theory_crash.proofs.Commit.{commit-to, keys_from, Ended, commit-ends}
use Rattle.theory_crash.proofs.Free.{free-to, lines-this, free-ok, free-through}
use Rattle.theory_crash.proofs.Covers.{covers}

-- Members of a list of three parts.
split : (f : Entry) (as' bs cs : List Entry) → Mem f (as' ++ (bs ++ cs)) → Mem f (as' ++ cs) ⊎ Mem f bs
split f as' bs cs mf = go (mem-cases f as' (bs ++ cs) mf)
  where
    two : Mem f bs ⊎ Mem f cs → Mem f (as' ++ cs) ⊎ Mem f bs
    two (inl x) = inr x
    two (inr x) = inl (mem-r f as' cs x)

    go : Mem f as' ⊎ Mem f (bs ++ cs) → Mem f (as' ++ cs) ⊎ Mem f bs
    go (inl x) = inl (mem-l f as' cs x)
    go (inr x) = two (mem-cases f bs cs x)

wider : (f : Entry) (as' bs cs : List Entry) → Mem f (as' ++ cs) ⊎ Mem f bs → Mem f (as' ++ (bs ++ cs))
wider f as' bs cs (inr x) = mem-r f as' (bs ++ cs) (mem-l f bs cs x)
wider f as' bs cs (inl x) = go (mem-cases f as' cs x)
  where
    go : Mem f as' ⊎ Mem f cs → Mem f (as' ++ (bs ++ cs))
    go (inl y) = mem-l f as' (bs ++ cs) y
    go (inr y) = mem-r f as' (bs ++ cs) (mem-r f bs cs y)

-- copies stand where they were put
pub placed-in : (at : ℕ) (es : List Entry) (f : Entry) → Mem f (placed at es) → (at ≤ f.at) × (f.at < at + length (encode_all es))
placed-in at [] f m = absurd m
placed-in at (e ∷ es) f (inl q) = let b : f.at ≡ at = ap (λ (y : Entry). y.at) q in (omega arith, rw length-append (omega arith))
placed-in at (e ∷ es) f (inr m) = let r = placed-in (at + (2 + length e.value)) es f m in let a = r.0 in let b = r.1 in (omega arith, rw length-append (omega arith))

-- a put that is covered stands there
put-covered : (es gs : List Entry) → Covers es gs → (e : Entry) → Top es e → eqb e.op 1 ≡ true → (f : Entry) × (Mem f gs × ((f.key ≡ e.key) × (f.version ≡ e.version)))
put-covered es gs cov e t o = grind (arith, nat_tests)

-- THE IMAGES OF A CLEANING: in `vs` the kept entries are published from word `at` on, in chunk d, among `before` and
-- `behind`; then chunk s is freed
pub record Copied (p : ℕ) (lo : 12 ≤ p) (hi : p ≤ 16) (n s old' keys at d : ℕ) (ws vs : List ℕ) (es kept : List Entry) : Type 0 where
  pub entries : List Entry
  pub before : List Entry
  pub behind : List Entry
  pub split' : es ≡ before ++ behind
  pub joined : entries ≡ before ++ (placed at kept ++ behind)
  pub aside : (f : Entry) → Mem f (placed at kept) → (f.at < base p s) ⊎ (base p s + chunk_words p ≤ f.at)
  pub left : List Entry
  pub chunk : List Entry
  pub right : List Entry
  pub parts' : Parts p lo hi n s vs entries left chunk right
  pub ok : Ok p n (set vs (directory_word s) (freed_word old')) (left ++ right)
  pub free : lines_of p (set vs (directory_word s) (freed_word old')) s ≡ 0
  pub few : length (keys_of (left ++ right)) ≤ keys
  pub chunks : (c : ℕ) → 1 ≤ c → c < n → (c ≡ d → ⊥) → get_or vs (directory_word c) 0 ≡ get_or ws (directory_word c) 0

-- nothing is copied: chunk s is freed at once
pub record Left (p n s old' keys : ℕ) (ws : List ℕ) (rest : List Entry) : Type 0 where
  pub ok : Ok p n (set ws (directory_word s) (freed_word old')) rest
  pub free : lines_of p (set ws (directory_word s) (freed_word old')) s ≡ 0
  pub few : length (keys_of rest) ≤ keys

-- s: the chunk that is cleaned
module _ (p : ℕ) (lo : 12 ≤ p) (hi : p ≤ 16) (n s old' keys : ℕ) (C : ℕ → Held) (ws : List ℕ) (es : List Entry) (m : Medium) (r : AtRest p n ws es m)
    (holds : (k : ℕ) → contents_by (meaning ws) es k ≡ C k) (few : length (keys_of es) ≤ keys) (flushed : Flushed p n m) (low : 1 ≤ s) (high : s < n) (no-data : size_of p ws s ≡ 0) where
  es-apart : Apart es
  es-apart = rising-apart (base p 1) (base p (1 + (n - 1))) es (all_sound p lo hi (n - 1) 1 ws es r.ok.parsed).rising

  module _ (xs chunk ys : List Entry) (t : Parts p lo hi n s ws es xs chunk ys) where
    abbrev rest : List Entry
    rest = xs ++ ys

    abbrev kept : List Entry
    kept = filter (is_kept es rest) chunk

    es-cases : (f : Entry) → Mem f es → Mem f rest ⊎ Mem f chunk
    es-cases f mf = split f xs chunk ys (rw t.whole at mf)

    chunk-es : (f : Entry) → Mem f chunk → Mem f es
    chunk-es f mf = rw t.whole (wider f xs chunk ys (inr mf))

    rest-es : (f : Entry) → Mem f rest → Mem f es
    rest-es f mf = rw t.whole (wider f xs chunk ys (inl mf))

    -- NOTHING KEPT: the chunk is only freed
    none-covers : kept ≡ [] → Covers es rest
    none-covers e =
        covers es es rest chunk rest 0 es-cases chunk-es (λ f mf. inl mf) (λ f mf. mf) (λ f mf. mf) (λ f mf. absurd (none-placed f mf)) (λ f mf. inl mf) es-apart r.ok.agree
      where
        none-placed : (f : Entry) → Mem f (placed 0 kept) → ⊥
        none-placed f mf = rw e at mf

    clean-none : kept ≡ [] → Through (Cuts p n keys C C) (Rests p n keys C) (free_of s old') m
    clean-none e = free-through p lo hi n s old' ws es r.ok low high no-data xs chunk ys t (none-covers e) keys C m r holds few flushed

    none-carries : kept ≡ [] → Carries es rest
    none-carries e = record { there = put-covered es rest (none-covers e); from = λ f mf. (f, (rest-es f mf, (refl, refl))) }

    clean-none-to : kept ≡ [] → (Q : List Entry → Type 0) → Q es → Q rest → Through (CutsTo p n Q) (CutsTo p n Q) (free_of s old') m
    clean-none-to e Q a b = free-to p lo hi n s old' ws es r.ok low high no-data xs chunk ys t (none-covers e) Q a b m r

    pub clean-left : kept ≡ [] → Left p n s old' keys ws rest
    clean-left e = record {
      ok = free-ok p lo hi n s old' ws es r.ok low high no-data xs chunk ys t (none-covers e);
      free = lines-this p lo hi n s old' ws es r.ok low high;
      few = let q = keys_from rest es (λ f mf. (f, rest-es f mf, refl)) in omega arith;
    }

    -- SOME KEPT: they go behind the l committed lines of chunk d, whose directory word is `old`
    module _ (d old l b z : ℕ) (ne : s ≡ d → ⊥) (d-low : 1 ≤ d) (d-high : d < n) (lines : lines_of p ws d ≡ l) (d-no-data : size_of p ws d ≡ 0) (some' : 1 ≤ b) (fit : l + b ≤ chunk_lines p)
        (size : length (entry_words kept z) ≡ 8 * b) where
      abbrev at' : ℕ
      at' = base p d + 8 * l

      -- what is copied is chosen, so a top entry
      copy-top : (e : Entry) → Mem e kept → Top es e
      copy-top e x =
          let fi = mem-filter (is_kept es rest) e chunk x in
          let i = is-at (chosen e.key es) e.at (both_l _ (either (eqb e.op 1) (known e.key rest)) fi.1) in
          let top = chosen-top e.key es i.0 i.1 in
          let same : e ≡ i.0 = es-apart e i.0 (chunk-es e fi.0) top.0 (sym i.2) in
          rw same top

      -- a copy points where its original does
      origin : (e : Entry) → Mem e (placed at' kept)
          → (g : Entry) × Top es g × (fine p n ws e ≡ fine p n ws g) × (pointed e ≡ pointed g) × (e.field ≡ g.field) × (e.key ≡ g.key) × ((k : ℕ) → Needs p ws e k → Needs p ws g k)
      origin e x =
          let o = mem-placed e at' kept x in
          let q = o.3 in
          (o.0, copy-top o.0 o.1, ap (fine p n ws) q, ap pointed q, ap (λ (y : Entry). y.field) q, ap (λ (y : Entry). y.key) q, λ k s'. (rw q at s'))

      batch : Batch p n d l b z ws es kept (λ mean c. c)
      batch = record {
        low = d-low;
        high = d-high;
        lines = lines;
        no-data = d-no-data;
        some' = some';
        fit = fit;
        size = size;
        right = right-filter (is_kept es rest) chunk (chunk-sound p lo hi s ws chunk t.mine).right;
        effect = copies es kept at' (λ e x. chunk-es e (mem-filter (is_kept es rest) e chunk x).0);
        staged = λ e x. let o = origin e x in o.2 ∙ r.ok.blocks o.0 o.1;
        own = own';
      }
        where
          own' : (e f : Entry) → Mem e (placed at' kept) → Mem f (placed at' kept) ⊎ Top es f → pointed e ≡ true → pointed f ≡ true → e.field ≡ f.field → e.key ≡ f.key
          own' e f x (inr u) a q y = let o = origin e x in o.5 ∙ r.ok.apart o.0 f o.1 u (sym o.3 ∙ a) q (sym o.4 ∙ y)
          own' e f x (inl u) a q y =
              let o = origin e x in
              let v = origin f u in
              o.5 ∙ r.ok.apart o.0 v.0 o.1 v.1 (sym o.3 ∙ a) (sym v.3 ∙ q) (sym o.4 ∙ y ∙ v.4) ∙ sym v.5

      settled : (e : Entry) → Mem e (placed at' kept) → (k : ℕ) → Needs p ws e k → (cell_at m k).newer ≡ []
      settled e x k s' = let o = origin e x in ap (λ (c : Cell). c.newer) (r.settled k (inr (inr (inr (o.0, o.1, o.6 k s')))))

      few-both : length (keys_of (kept ++ es)) ≤ keys
      few-both = let q = keys_from (kept ++ es) es (λ e x. was e (mem-cases e kept es x)) in omega arith
        where
          was : (e : Entry) → Mem e kept ⊎ Mem e es → (f : Entry) × Mem f es × (f.key ≡ e.key)
          was e (inl x) = (e, chunk-es e (mem-filter (is_kept es rest) e chunk x).0, refl)
          was e (inr x) = (e, x, refl)

      abbrev acts : List Action
      acts = commit_of p d old l b (entry_words kept z)

      abbrev Mid : Medium → Type 0
      Mid = Ended p lo hi n d old l b z keys C ws es kept (λ mean c. c) m r holds batch few-both settled

      -- by its place an entry is in the chunk or outside
      side : (f : Entry) → Mem f (placed at' kept) → (f.at < base p s) ⊎ (base p s + chunk_words p ≤ f.at)
      side f mf = go (dec_lt d s)
        where
          a : (at' ≤ f.at) × (f.at < at' + length (encode_all kept))
          a = placed-in at' kept f mf

          end : length (encode_all kept) ≤ 8 * b
          end = let e = size in let y : length (encode_all kept) ≤ length (entry_words kept z) = rw length-append (omega arith) in omega arith

          go : Dec (d < s) → (f.at < base p s) ⊎ (base p s + chunk_words p ≤ f.at)
          go (yes q) = let g = base-apart p lo hi d s q in let w = lines-words p lo hi in let x = a.1 in let y = end in inl (omega arith)
          go (no q) = let g = base-apart p lo hi s d (omega (arith, ne)) in let x = a.0 in inr (omega arith)

      -- then the chunk is covered, and freed
      module _ (m' : Medium) (mid : Mid m') where
        abbrev vs : List ℕ
        vs = mid.image

        abbrev gs : List Entry
        gs = mid.entries

        no-data' : size_of p vs s ≡ 0
        no-data' = size_is p vs s ∙ ap (λ (w : ℕ). size_in (role_of p w)) (mid.chunks s low high ne).1 ∙ sym (size_is p ws s) ∙ no-data

        parts' : (xs' : List Entry) × (chunk' : List Entry) × (ys' : List Entry) × Parts p lo hi n s vs gs xs' chunk' ys'
        parts' = parts p lo hi n s vs gs low high mid.rests.ok.parsed

        abbrev new : List Entry
        new = parts'.0 ++ parts'.2

        gs-cases : (f : Entry) → Mem f gs → Mem f es ⊎ Mem f (placed at' kept)
        gs-cases f mf = go (split f mid.before (placed at' kept) mid.behind (rw mid.joined at mf))
          where
            go : Mem f (mid.before ++ mid.behind) ⊎ Mem f (placed at' kept) → Mem f es ⊎ Mem f (placed at' kept)
            go (inl x) = inl (rw mid.split x)
            go (inr x) = inr x

        es-gs : (f : Entry) → Mem f es → Mem f gs
        es-gs f mf = rw mid.joined (wider f mid.before (placed at' kept) mid.behind (inl (rw mid.split at mf)))

        copy-gs : (f : Entry) → Mem f (placed at' kept) → Mem f gs
        copy-gs f mf = rw mid.joined (wider f mid.before (placed at' kept) mid.behind (inr mf))

        new-gs : (f : Entry) → Mem f new → Mem f gs
        new-gs f mf = rw parts'.3.whole (wider f parts'.0 parts'.1 parts'.2 (inl mf))

        to-new : (f : Entry) → Mem f gs → (f.at < base p s) ⊎ (base p s + chunk_words p ≤ f.at) → Mem f new
        to-new f mf o = go (split f parts'.0 parts'.1 parts'.2 (rw parts'.3.whole at mf)) o
          where
            go : Mem f new ⊎ Mem f parts'.1 → (f.at < base p s) ⊎ (base p s + chunk_words p ≤ f.at) → Mem f new
            go (inl x) q = x
            go (inr x) (inl q) = let i = (parts'.3.inside f x).0 in absurd (omega arith)
            go (inr x) (inr q) = let i = (parts'.3.inside f x).1 in absurd (omega arith)

        new-cases : (f : Entry) → Mem f new → Mem f rest ⊎ Mem f (placed at' kept)
        new-cases f mf = go (gs-cases f (new-gs f mf))
          where
            two : Mem f rest ⊎ Mem f chunk → (f.at < base p s) ⊎ (base p s + chunk_words p ≤ f.at) → Mem f rest ⊎ Mem f (placed at' kept)
            two (inl x) o = inl x
            two (inr x) (inl q) = let i = (t.inside f x).0 in absurd (omega arith)
            two (inr x) (inr q) = let i = (t.inside f x).1 in absurd (omega arith)

            go : Mem f es ⊎ Mem f (placed at' kept) → Mem f rest ⊎ Mem f (placed at' kept)
            go (inr x) = inr x
            go (inl x) = two (es-cases f x) (parts'.3.outside f mf)

        cov : Covers gs new
        cov =
            covers es gs rest chunk new at' es-cases chunk-es gs-cases es-gs (λ f mf. to-new f (es-gs f (rest-es f mf)) (t.outside f mf))
            (λ f mf. to-new f (copy-gs f mf) (side f mf)) new-cases es-apart mid.rests.ok.agree

        -- an entry of gs is one of es, or a copy of one
        gs-from : (f : Entry) → Mem f gs → (e : Entry) × (Mem e es × ((f.key ≡ e.key) × (f.version ≡ e.version)))
        gs-from f mf = go (gs-cases f mf)
          where
            go : Mem f es ⊎ Mem f (placed at' kept) → (e : Entry) × (Mem e es × ((f.key ≡ e.key) × (f.version ≡ e.version)))
            go (inl x) = (f, (x, (refl, refl)))
            go (inr x) =
                let o = mem-placed f at' kept x in
                (o.0, (chunk-es o.0 (mem-filter (is_kept es rest) o.0 chunk o.1).0, (ap (λ (y : Entry). y.key) o.3, ap (λ (y : Entry). y.version) o.3)))

        top-gs : (e : Entry) → Top es e → Top gs e
        top-gs e t = (es-gs e t.0, λ g mg gk. let u = gs-from g mg in let above = t.1 u.0 u.1.0 (sym u.1.1.0 ∙ gk) in let v = u.1.1.1 in omega arith)

        carries : Carries es new
        carries = record { there = λ e t o. put-covered gs new cov e (top-gs e t) o; from = λ f mf. gs-from f (new-gs f mf) }

        copied : Copied p lo hi n s old' keys at' d ws vs es kept
        copied = record {
          entries = gs;
          before = mid.before;
          behind = mid.behind;
          split' = mid.split;
          joined = mid.joined;
          aside = side;
          left = parts'.0;
          chunk = parts'.1;
          right = parts'.2;
          parts' = parts'.3;
          ok = free-ok p lo hi n s old' vs gs mid.rests.ok low high no-data' parts'.0 parts'.1 parts'.2 parts'.3 cov;
          free = lines-this p lo hi n s old' vs gs mid.rests.ok low high;
          few = let q = keys_from new gs (λ f mf. (f, new-gs f mf, refl)) in let w = mid.few' in omega arith;
          chunks = λ c a u x. (mid.chunks c a u x).1;
        }

        free_part : Flushed p n m' → Through (Cuts p n keys C C) (Rests p n keys C) (free_of s old') m'
        free_part f =
            free-through p lo hi n s old' vs gs mid.rests.ok low high no-data' parts'.0 parts'.1 parts'.2 parts'.3 cov keys C m' mid.rests mid.holds' mid.few' f

      pub clean-copied : Copied p lo hi n s old' keys at' d ws (latest (run acts m)) es kept
      clean-copied =
          let e : Mid (run acts m) = (through-end (Cuts p n keys C C) (λ m'. Mid m' × Flushed p n m') acts m (commit-ends p lo hi n d old l b z keys C ws es kept (λ mean c. c) m r holds batch few-both settled flushed)).0 in
          rw e.rests.now (copied (run acts m) e)

      clean-some-to : (Q : List Entry → Type 0) → Q es → ((ys : List ℕ) (before behind : List Entry) → es ≡ before ++ behind → image_entries p n ys ≡ Entries (before ++ (placed at' kept ++ behind)) → Q (before ++ (placed at' kept ++ behind)))
          → ((hs : List Entry) → ((f : Entry) → Mem f hs → (f.at < base p s) ⊎ (base p s + chunk_words p ≤ f.at)) → Carries es hs → Q hs)
          → Through (CutsTo p n Q) (CutsTo p n Q) (acts ++ free_of s old') m
      clean-some-to Q a q o =
          let e : Mid (run acts m) = (through-end (Cuts p n keys C C) (λ m'. Mid m' × Flushed p n m') acts m (commit-ends p lo hi n d old l b z keys C ws es kept (λ mean c. c) m r holds batch few-both settled flushed)).0 in
          let u = parts' (run acts m) e in
          let here : Q e.entries = rw e.joined (q e.image e.before e.behind e.split (rw e.joined at e.rests.ok.parsed)) in
          let last = free-to p lo hi n s old' e.image e.entries e.rests.ok low high (no-data' (run acts m) e) u.0 u.1 u.2 u.3 (cov (run acts m) e) Q here (o (u.0 ++ u.2) u.3.outside (carries (run acts m) e)) (run acts m) e.rests in
          through-append (CutsTo p n Q) (CutsTo p n Q) acts (free_of s old') m
          (through-map (CutsTo p n Q) (CutsTo p n Q) (λ m'. Unit {0}) (Through (CutsTo p n Q) (CutsTo p n Q) (free_of s old')) acts m (λ m' x. x) (λ x. last)
          (commit-to p lo hi n d old l b z keys C ws es kept (λ mean c. c) m r holds batch few-both settled Q a q))

      clean-some : Through (Cuts p n keys C C) (Rests p n keys C) (acts ++ free_of s old') m
      clean-some =
          through-append (Cuts p n keys C C) (Rests p n keys C) acts (free_of s old') m
          (through-map (Cuts p n keys C C) (Cuts p n keys C C) (λ m'. Mid m' × Flushed p n m') (Through (Cuts p n keys C C) (Rests p n keys C) (free_of s old')) acts m (λ m' x. x)
          (λ x. free_part (run acts m) x.0 x.1)
          (commit-ends p lo hi n d old l b z keys C ws es kept (λ mean c. c) m r holds batch few-both settled flushed))

  -- CLEANING, with the entries that it keeps as the definition says
  pub clean-free-through : kept_in p s es ≡ [] → Through (Cuts p n keys C C) (Rests p n keys C) (free_of s old') m
  clean-free-through e = let q = parts p lo hi n s ws es low high r.ok.parsed in clean-none q.0 q.1 q.2 q.3 (sym (kept-is p lo hi n s ws es q.0 q.1 q.2 q.3) ∙ e)

  pub clean-through : (d old l b z : ℕ) → (s ≡ d → ⊥) → 1 ≤ d → d < n → lines_of p ws d ≡ l → size_of p ws d ≡ 0 → 1 ≤ b → l + b ≤ chunk_lines p → length (entry_words (kept_in p s es) z) ≡ 8 * b
      → Through (Cuts p n keys C C) (Rests p n keys C) (commit_of p d old l b (entry_words (kept_in p s es) z) ++ free_of s old') m
  clean-through d old l b z ne d-low d-high lines d-no-data some' fit size =
      let q = parts p lo hi n s ws es low high r.ok.parsed in
      let e = kept-is p lo hi n s ws es q.0 q.1 q.2 q.3 in
      rw e (clean-some q.0 q.1 q.2 q.3 d old l b z ne d-low d-high lines d-no-data some' fit (rw e at size))

  -- BY ENTRIES: what a cut in a cleaning finds: before the copies, with them, or without the chunk that is cleaned
  pub clean-free-to : kept_in p s es ≡ [] → (Q : List Entry → Type 0) → Q es → ((hs : List Entry) → ((f : Entry) → Mem f hs → (f.at < base p s) ⊎ (base p s + chunk_words p ≤ f.at)) → Carries es hs → Q hs)
      → Through (CutsTo p n Q) (CutsTo p n Q) (free_of s old') m
  clean-free-to e Q a o =
      let q = parts p lo hi n s ws es low high r.ok.parsed in
      let none_kept = sym (kept-is p lo hi n s ws es q.0 q.1 q.2 q.3) ∙ e in
      clean-none-to q.0 q.1 q.2 q.3 none_kept Q a (o (q.0 ++ q.2) q.3.outside (none-carries q.0 q.1 q.2 q.3 none_kept))

  pub clean-to : (d old l b z : ℕ) → (s ≡ d → ⊥) → 1 ≤ d → d < n → lines_of p ws d ≡ l → size_of p ws d ≡ 0 → 1 ≤ b → l + b ≤ chunk_lines p → length (entry_words (kept_in p s es) z) ≡ 8 * b
      → (Q : List Entry → Type 0) → Q es → ((ys : List ℕ) (before behind : List Entry) → es ≡ before ++ behind → image_entries p n ys ≡ Entries (before ++ (placed (base p d + 8 * l) (kept_in p s es) ++ behind))
      → Q (before ++ (placed (base p d + 8 * l) (kept_in p s es) ++ behind)))
      → ((hs : List Entry) → ((f : Entry) → Mem f hs → (f.at < base p s) ⊎ (base p s + chunk_words p ≤ f.at)) → Carries es hs → Q hs)
      → Through (CutsTo p n Q) (CutsTo p n Q) (commit_of p d old l b (entry_words (kept_in p s es) z) ++ free_of s old') m
  clean-to d old l b z ne d-low d-high lines d-no-data some' fit size Q a j o =
      let q = parts p lo hi n s ws es low high r.ok.parsed in
      let e = kept-is p lo hi n s ws es q.0 q.1 q.2 q.3 in
      rw e (clean-some-to q.0 q.1 q.2 q.3 d old l b z ne d-low d-high lines d-no-data some' fit (rw e at size) Q a (rw e at j) o)
