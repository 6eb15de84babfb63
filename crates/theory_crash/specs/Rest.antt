-- The medium at rest, and what power cuts may leave, by contents alone.
-- Assumes nothing.
use Rattle.std.specs.Prelude.{◌≡◌, ◌⊎◌, true, List, [], ◌++◌, ℕ, ◌≤◌, ◌<◌, length, get_or}
use Rattle.spec.specs.Places.{directory_word, max_chunks, any_allowed}
use Rattle.spec.specs.Medium.{fresh, values, Medium, latest, cell_at, Mem as Among, CanCutTo}
use Rattle.spec.specs.Directory.{lines_of, size_of}
use Rattle.spec.specs.Log.{Entry}
use Rattle.spec.specs.Contents.{Held, Absent, contents_by, meaning, keys_of, entries_in}
use Rattle.spec.specs.Opening.{Refused, opening}
use Rattle.spec.specs.declared.Refusal.TheVariants as N
use Rattle.theory_crash.specs.Accepted.{Calm, Ok, Support}

-- AT REST: the processor reads an accepted image, its support is settled, and each possible directory word of a chunk
-- that is no log chunk is right and counts no lines.
pub record AtRest (p n : ℕ) (ws : List ℕ) (es : List Entry) (m : Medium) : Type 0 where
  pub ok : Ok p n ws es
  pub now : latest m ≡ ws
  pub settled : (k : ℕ) → Support p n ws es k → cell_at m k ≡ fresh (get_or ws k 0)
  pub calm : (c : ℕ) → c < max_chunks → lines_of p ws c ≡ 0 → (x : ℕ) → Among x (values (cell_at m (directory_word c))) → Calm p n c x

-- all that vs needs is settled, but for the directory word of chunk d
pub record Ready (p n d : ℕ) (vs : List ℕ) (gs : List Entry) (m : Medium) : Type 0 where
  pub long : length m ≡ length vs
  pub settled : (k : ℕ) → Support p n vs gs k → (k ≡ directory_word d → ⊥) → cell_at m k ≡ fresh (get_or vs k 0)
  pub calm : (c : ℕ) → c < max_chunks → (c ≡ d → ⊥) → lines_of p vs c ≡ 0 → (x : ℕ) → Among x (values (cell_at m (directory_word c))) → Calm p n c x

-- with x as the directory word of chunk d, an image that else agrees with ws says what ws says
abbrev pub Allowed : ℕ → ℕ → ℕ → List ℕ → List Entry → ℕ → Type 0
Allowed p n d ws es x = (Support p n ws es (directory_word d) → x ≡ get_or ws (directory_word d) 0) × (lines_of p ws d ≡ 0 → Calm p n d x)

-- SWITCHING from the image ws to vs by the directory word of chunk d: all that either needs is settled, but for that
-- word, each possible value of which belongs to one of the two.
pub record Switching (p n d : ℕ) (ws : List ℕ) (es : List Entry) (vs : List ℕ) (gs : List Entry) (m : Medium) : Type 0 where
  pub old_ok : Ok p n ws es
  pub new_ok : Ok p n vs gs
  pub old-ready : Ready p n d ws es m
  pub new-ready : Ready p n d vs gs m
  pub word : (x : ℕ) → Among x (values (cell_at m (directory_word d))) → Allowed p n d ws es x ⊎ Allowed p n d vs gs x

-- the word of every data chunk was flushed since it was stored, so that the next fence settles it
abbrev pub Flushed : ℕ → ℕ → Medium → Type 0
Flushed p n m = (c : ℕ) → 1 ≤ c → c < n → 1 ≤ size_of p (latest m) c → (cell_at m (directory_word c)).newer ≡ []

-- By contents and number of known keys alone: an image with contents C and at most `keys` known keys; a medium at rest
-- with them.
abbrev pub Holds : ℕ → ℕ → ℕ → (ℕ → Held) → List ℕ → Type 0
Holds p n keys C ws = (es : List Entry) × Ok p n ws es × (length (keys_of es) ≤ keys) × ((k : ℕ) → contents_by (meaning ws) es k ≡ C k)

abbrev pub Stays : ℕ → ℕ → ℕ → (ℕ → Held) → Medium → Type 0
Stays p n keys C m = (ws : List ℕ) × (es : List Entry) × AtRest p n ws es m × (length (keys_of es) ≤ keys) × ((k : ℕ) → contents_by (meaning ws) es k ≡ C k)

-- what holds when a call has ended
abbrev pub Rests : ℕ → ℕ → ℕ → (ℕ → Held) → Medium → Type 0
Rests p n keys C m = Stays p n keys C m × Flushed p n m

-- the entries that a medium has are es with a batch among them
abbrev pub Joined : ℕ → ℕ → (es batch : List Entry) → Medium → Type 0
Joined p n es batch m = (before : List Entry) × ((behind : List Entry) × ((es ≡ before ++ behind) × (entries_in p n (latest m) ≡ before ++ (batch ++ behind))))

-- every cut leaves an image with the old contents or one with the new
abbrev pub Cuts : ℕ → ℕ → ℕ → (ℕ → Held) → (ℕ → Held) → Medium → Type 0
Cuts p n keys C D m = (xs : List ℕ) → CanCutTo m xs → Holds p n keys C xs ⊎ Holds p n keys D xs

-- every cut leaves an accepted image whose entries are such
abbrev pub CutsTo : ℕ → ℕ → (List Entry → Type 0) → Medium → Type 0
CutsTo p n Q m = (xs : List ℕ) → CanCutTo m xs → (fs : List Entry) × (Ok p n xs fs × Q fs)

-- some cut leaves an image with these contents
abbrev pub Leaves : ℕ → ℕ → ℕ → (ℕ → Held) → Medium → Type 0
Leaves p n keys C m = (xs : List ℕ) × CanCutTo m xs × Holds p n keys C xs

-- Formatting, begun on the medium m₀: a cut leaves what a cut of m₀ might have left, or an image that opening refuses
-- with 2, whatever length it has that is allowed, or an empty register.
abbrev pub empty : ℕ → Held
empty k = Absent

abbrev pub NoRegister : List ℕ → Type 0
NoRegister xs = (bytes table : ℕ) → any_allowed bytes ≡ true → opening bytes xs table ≡ Refused N.NotOpen

abbrev pub FormatCuts : ℕ → ℕ → Medium → Medium → Type 0
FormatCuts p n m₀ m =
    (xs : List ℕ) → CanCutTo m xs → CanCutTo m₀ xs ⊎ (NoRegister xs ⊎ Holds p n 0 empty xs)
