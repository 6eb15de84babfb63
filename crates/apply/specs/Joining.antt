-- What the items of a batch do to the key table and to the bits, one by one and all together.
-- Assumes nothing.
use Rattle.std.specs.Prelude.{◌≡◌, ℕ, ◌+◌, ◌-◌, ◌<◌, ◌≤◌, min, true, List, ◌∷◌, ◌++◌, length, ◌≢◌, Option, Some, None}
use Rattle.std.proofs.Math.Option.{some}
use Rattle.spec.specs.declared.Size.{Size}
use Rattle.places.specs.Sizes.{power_of}
use Rattle.spec.specs.Basics.{both, negate, is_in}
use Rattle.spec.specs.Places.{max_chunks}
use Rattle.spec.specs.Log.{Entry, Entries, image_entries, encode_all, placed}
use Rattle.spec.specs.Blocks.{pointed}
use Rattle.spec.specs.Contents.{highest, chosen, keys_of, capacity, live_blocks}
use Rattle.theory_log.specs.Batch.{AllRight}
use Rattle.theory_log.specs.Contents.{Mem, Top, CountsOn, Agree}
use Rattle.packing.specs.declared.Info.{Info}
use Rattle.buffer.specs.Bits.{has_bit, WordsKept, FrontKept}
use Rattle.volatile.specs.Known.{own_of, Indexed}
use Rattle.volatile.specs.Sums.{weight, Summed}
use Rattle.volatile.proofs.Info.{said}
use Rattle.buffer.specs.Areas.{batch_room}
use Rattle.session.specs.State.{buffer_part}
use Rattle.session.specs.Fits.{ItemsFit, BlocksApart}
use Rattle.volatile.specs.Blocks.{top_block, Freed}

-- these entries are above all of es of their keys
abbrev pub Later : (es more : List Entry) → Type 0
Later es more = (g : Entry) → Mem g more → highest g.key es < g.version

-- the bits without the block of a key's top entries, of which the table says so much; `more` are entries that the table
-- does not know yet
pub record Superseded (size : Size) (ws before after : List ℕ) (info : Info) : Type 0 where
  pub kept : WordsKept before after
  pub freed : (n key : ℕ) (xs more ys : List Entry) (f : Entry) → image_entries (power_of size) n ws ≡ Entries (xs ++ (more ++ ys)) → chosen key (xs ++ ys) ≡ some f → info ≡ said size key (xs ++ ys) f
      → Freed size before after (top_block key (xs ++ ys))

-- table, bits and sums are those of the entries es, whose top entries agree and of which no two keys' top puts share a
-- block
pub record Shown (size : Size) (buffer table : List ℕ) (keys : ℕ) (es : List Entry) : Type 0 where
  pub indexed : Indexed size table keys es
  pub blocks : (u : ℕ) → has_bit size buffer u ≡ is_in u (live_blocks es)
  pub sums : Summed size buffer es
  pub agree : Agree es
  pub apart : BlocksApart es

-- the entry e is to join xs and ys, then `more`: the image shows them all, each is above all others of its key, e is in
-- no block or in one that no top put points to, and the table has room
pub record Awaited (size : Size) (n : ℕ) (ws table : List ℕ) (xs more ys : List Entry) (e : Entry) : Type 0 where
  pub most : n ≤ max_chunks
  pub shown : image_entries (power_of size) n ws ≡ Entries (xs ++ (e ∷ (more ++ ys)))
  pub later : Later (xs ++ ys) (e ∷ more)
  pub dead : (f : Entry) → Top (xs ++ ys) f → pointed e ≡ true → pointed f ≡ true → e.field ≢ f.field
  pub room : length (keys_of (xs ++ (e ∷ (more ++ ys)))) ≤ capacity (length table)

-- table, bits and sums are those of the entries xs, e, ys, but for the bit of e's own block
abbrev pub Superseding : (size : Size) → (buffer buffer' table' : List ℕ) (keys' : ℕ) (xs ys : List Entry) (e : Entry) → Type 0
Superseding size buffer buffer' table' keys' xs ys e = Indexed size table' keys' (xs ++ e ∷ ys) × ((u : ℕ) → has_bit size buffer' u ≡ both (has_bit size buffer u) (negate (top_block e.key (xs ++ ys) u))) × Summed size buffer' (xs ++ e ∷ ys)

-- before and after an entry of this key joined, `own` being what the table would hold with it alone, w its weight: of
-- any memory, and where it was awaited
pub record OneJoined (size : Size) (ws buffer buffer' table table' : List ℕ) (keys key own w keys' : ℕ) : Type 0 where
  pub kept : FrontKept buffer buffer'
  pub sized : length table' ≡ length table
  pub joins : (n : ℕ) (xs more ys : List Entry) (e : Entry) → e.key ≡ key → own_of size e ≡ own → w ≡ weight e
      → Awaited size n ws table xs more ys e → Shown size buffer table keys (xs ++ ys) → Superseding size buffer buffer' table' keys' xs ys e

-- the same of a put that is to join without the image: where it joined, it did so whatever the image shows; else
-- nothing changed
abbrev pub PutJoined : (size : Size) → (buffer buffer' table table' : List ℕ) (keys key own w : ℕ) → Option ℕ → Type 0
PutJoined size buffer buffer' table table' keys key own w (Some keys') = (ws : List ℕ) → OneJoined size ws buffer buffer' table table' keys key own w keys'
PutJoined size buffer buffer' table table' keys key own w None = (buffer' ≡ buffer) × (table' ≡ table)

-- THE BATCH, so many words of the buffer: what holds at a commit's last fence. The image, of n chunks, shows it at
-- `place`, between front and back; table, bits and sums know front and back alone.
pub record Fenced (size : Size) (n place words known : ℕ) (buffer ws table : List ℕ) (front back items : List Entry) : Type 0 where
  pub most : n ≤ max_chunks
  pub written : buffer_part buffer 0 (min words batch_room) ≡ encode_all items
  pub right : AllRight items
  pub counts : CountsOn (front ++ back) items
  pub fit : ItemsFit (power_of size) n ws (front ++ back) items
  pub image : image_entries (power_of size) n ws ≡ Entries (front ++ (placed place items ++ back))
  pub shown : Shown size buffer table known (front ++ back)
  pub room : length (keys_of (front ++ (placed place items ++ back))) ≤ capacity (length table)

-- Of the batch at `place`, whose words are the buffer's before `end`, the items before word `at` have joined. The image
-- shows `whole`.
pub record Left (size : Size) (n : ℕ) (ws buffer table : List ℕ) (keys place at end : ℕ) (whole back : List Entry) : Type 0 where
  pub joined : List Entry
  pub rest : List Entry
  pub parts : whole ≡ joined ++ (placed (place + at) rest ++ back)
  pub words : buffer_part buffer at (end - at) ≡ encode_all rest
  pub right : AllRight rest
  pub counts : CountsOn (joined ++ back) rest
  pub fit : ItemsFit (power_of size) n ws (joined ++ back) rest
  pub shown : Shown size buffer table keys (joined ++ back)
  pub most : n ≤ max_chunks
  pub image : image_entries (power_of size) n ws ≡ Entries whole
  pub room : length (keys_of whole) ≤ capacity (length table)

-- what was left of it at the beginning says what is left now: of any memory, and where something was left
pub record Going (size : Size) (ws buffer₀ table₀ : List ℕ) (keys₀ place at₀ end : ℕ) (buffer table : List ℕ) (keys at : ℕ) : Type 0 where
  pub kept : FrontKept buffer₀ buffer
  pub sized : length table ≡ length table₀
  pub goes : (n : ℕ) (whole back : List Entry) → Left size n ws buffer₀ table₀ keys₀ place at₀ end whole back → Left size n ws buffer table keys place at end whole back

-- the same of a pass without the image: whatever that shows
pub record PutsJoined (size : Size) (place end : ℕ) (buffer₀ table₀ : List ℕ) (keys₀ at₀ : ℕ) (buffer table : List ℕ) (keys at : ℕ) : Type 0 where
  pub farther : at₀ ≤ at
  pub goes : (ws : List ℕ) → Going size ws buffer₀ table₀ keys₀ place at₀ end buffer table keys at

-- before and after the batch joined: of any memory, and at a commit's last fence
pub record Joining (size : Size) (place words known : ℕ) (buffer buffer' ws table table' : List ℕ) (keys : ℕ) : Type 0 where
  pub kept : FrontKept buffer buffer'
  pub sized : length table' ≡ length table
  pub joins : (n : ℕ) (front back items : List Entry) → Fenced size n place words known buffer ws table front back items → Shown size buffer' table' keys (front ++ (placed place items ++ back))
