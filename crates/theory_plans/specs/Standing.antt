-- What holds between calls: the medium at rest, with the contents that the desk book says, and the staged items ready
-- to be committed.
-- Assumes nothing.
use Rattle.std.specs.Prelude.{◌≡◌, true, List, [], ◌++◌, map, ℕ, ◌*◌, ◌≤◌, length}
use Rattle.spec.specs.Basics.{distinct}
use Rattle.spec.specs.Medium.{Medium, cell_at, latest, Action}
use Rattle.spec.specs.Log.{Entry, encode_all}
use Rattle.spec.specs.Blocks.{pointed}
use Rattle.spec.specs.Contents.{Held, contents_by, meaning, capacity}
use Rattle.spec.specs.Opening.{fine}
use Rattle.spec.specs.Plans.{Olds, put_back, max_items, max_batch_bytes}
use Rattle.spec.specs.Book.{Item}
use Rattle.theory_log.specs.Batch.{AllRight}
use Rattle.theory_log.specs.Contents.{Mem, Top, CountsOn}
use Rattle.theory_base.proofs.PutBack.{AreLow}
use Rattle.theory_base.proofs.Through.{Through}
use Rattle.theory_crash.specs.Accepted.{Needs, Ok, Framed}
use Rattle.theory_crash.specs.Rest.{AtRest, Flushed, Cuts, Leaves}

abbrev pub key_list : List Entry → List ℕ
key_list es = map (λ (e : Entry). e.key) es

-- what a staged entry is in the book
abbrev pub item_of : List ℕ → Entry → Item
item_of ws e = record { key = e.key; gets = meaning ws e }

-- the staged items among the entries es of the image ws: versions count on; the blocks that they point to are right,
-- their words were flushed since they were stored (the commit's first fence settles them), and they are nobody else's
pub record Staged (p n : ℕ) (ws : List ℕ) (es : List Entry) (items : List Entry) (m : Medium) : Type 0 where
  pub counts : CountsOn es items
  pub right : AllRight items
  pub few : length items ≤ max_items
  pub small : 8 * length (encode_all items) ≤ max_batch_bytes
  pub blocks : (e : Entry) → Mem e items → fine p n ws e ≡ true
  pub flushed : (e : Entry) → Mem e items → (k : ℕ) → Needs p ws e k → (cell_at m k).newer ≡ []
  pub dead : (e f : Entry) → Mem e items → Top es f → pointed e ≡ true → pointed f ≡ true → e.field ≡ f.field → ⊥
  pub own : (e f : Entry) → Mem e items → Mem f items → pointed e ≡ true → pointed f ≡ true → e.field ≡ f.field → e ≡ f

-- between calls, on an image of n chunks opened with a table of so many words: contents C, the book's staged items, the
-- entries staged
pub record Standing (p n table : ℕ) (C : ℕ → Held) (book : List Item) (items : List Entry) (m : Medium) : Type 0 where
  pub words : List ℕ
  pub entries : List Entry
  pub rest : AtRest p n words entries m
  pub flushed : Flushed p n m
  pub holds : (k : ℕ) → contents_by (meaning words) entries k ≡ C k
  pub keys : length (distinct (key_list items ++ key_list entries)) ≤ capacity table
  pub staged : Staged p n words entries items m
  pub booked : map (item_of words) items ≡ book

-- while a call is unfinished: every cut gives the contents before or those after, and at the end it stands with those
-- after
abbrev pub Going : (p n table : ℕ) (C D : ℕ → Held) (book : List Item) (items : List Entry) (rest : List Action) (m : Medium) → Type 0
Going p n table C D book items rest m = Through (Cuts p n (capacity table) C D) (Standing p n table D book items) rest m

-- the words with the directory words olds put back say what ws says
abbrev pub Says : (p n : ℕ) (ws : List ℕ) (es : List Entry) (olds : Olds) (m : Medium) → Type 0
Says p n ws es olds m = Framed p n ws es (put_back olds (latest m))

-- WHAT LOOK-UP READS while a call is unfinished that stores to these directory words, begun on the words ws with
-- contents C: before each action still to come, and when all are done, the words with those put back say what ws says;
-- and before each action some cut leaves C
pub record Reading (p n table : ℕ) (C : ℕ → Held) (ws : List ℕ) (olds : Olds) (rest : List Action) (m : Medium) : Type 0 where
  pub entries : List Entry
  pub ok : Ok p n ws entries
  pub holds : (k : ℕ) → contents_by (meaning ws) entries k ≡ C k
  pub low : AreLow olds
  pub reads : Through (λ m'. Says p n ws entries olds m' × Leaves p n (capacity table) C m') (Says p n ws entries olds) rest m
