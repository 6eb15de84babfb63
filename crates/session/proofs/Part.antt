-- Laws of the buffer's words read one by one, of the staged words among them, and of the chunk and lines that a commit
-- writes to.
-- Assumes nothing.
use mathlib.Core.Path.{◌≡◌, refl, sym, ◌∙◌, ap}
use mathlib.Core.List.{List}
use Prim.Native.Nat.{ℕ, zero, suc, ◌+◌, ◌%◌, ◌≤◌, ◌<◌, min}
use native.Mathlib.Nat.{le_of_suc-le-suc, not-suc-le-zero}
use native.Mathlib.Omega.{arith}
use lib.ListN.{length, get_or}
use Rattle.spec.specs.Log.{Entry, encode_all}
use Rattle.spec.specs.Places.{chunk_lines}
use Rattle.spec.specs.declared.Size.{Size}
use Rattle.spec.specs.declared.Size.TheVariants as S
use Rattle.places.specs.Sizes.{power_of}
use Rattle.session.specs.declared.Control.{Control}
use Rattle.session.specs.declared.Setup.{Setup}
use Rattle.buffer.specs.Areas.{batch_room}
use Rattle.session.specs.State.{size_in, power_in, buffer_part, batch_words, chunk_in, lines_in}
use Rattle.session.specs.Fits.{BatchFits}

-- A PART OF THE BUFFER
pub length_part : (b : List ℕ) (i n : ℕ) → length (buffer_part b i n) ≡ n
length_part b i zero = refl
length_part b i (suc n) = ap suc (length_part b (suc i) n)

pub part-word : (b : List ℕ) (i n j k : ℕ) → j < n → k ≡ i + j → get_or (buffer_part b i n) j 0 ≡ get_or b k 0
part-word b i zero j k h e = absurd (not-suc-le-zero h)
part-word b i (suc n) zero k h e = ap (λ (x : ℕ). get_or b x 0) (let q : i ≡ k = omega arith in q)
part-word b i (suc n) (suc j) k h e = part-word b (suc i) n j k (le_of_suc-le-suc h) (omega arith)

-- parts that agree word by word
pub part-agree : (a b : List ℕ) (i n : ℕ) → ((j : ℕ) → i ≤ j → j < i + n → get_or a j 0 ≡ get_or b j 0) → buffer_part a i n ≡ buffer_part b i n
part-agree a b i zero h = refl
part-agree a b i (suc n) h =
    let x = h i (omega arith) (omega arith) in
    let r = part-agree a b (suc i) n (λ j l u. h j (omega arith) (omega arith)) in
    cc

-- THE STAGED WORDS
pub staged-length : (c : Control) (b : List ℕ) → length (batch_words c b) ≡ min c.words batch_room
unfolding batch_words
staged-length c b = length_part b 0 (min c.words batch_room)

-- a batch within the room is the buffer's first words
pub words-within : (c : Control) (b : List ℕ) → c.words ≤ batch_room → batch_words c b ≡ buffer_part b 0 c.words
unfolding batch_words
words-within c b l = let m : min c.words batch_room ≡ c.words = omega arith in ap (buffer_part b 0) m

-- the record counts the words of its items
pub words-counted : (c : Control) (b : List ℕ) (p n : ℕ) (ws : List ℕ) (es items : List Entry) → BatchFits c b p n ws es items → c.words ≡ length (encode_all items)
words-counted c b p n ws es items fits = sym (length_part b 0 c.words) ∙ ap length (sym (words-within c b fits.room) ∙ fits.written)

-- CHUNK AND LINES, where they are in range
pub chunk_in_lem : (k : Setup) → k.chunk ≤ 503 → chunk_in k ≡ k.chunk
chunk_in_lem k h = omega arith

lines-few : (size : Size) (n : ℕ) → n ≤ chunk_lines (power_of size) → n % 2048 ≡ n
unfolding chunk_lines
lines-few S.Small n l = omega arith
lines-few S.Large n l = omega arith

pub lines-in : (k : Setup) → k.lines ≤ chunk_lines (power_in k) → lines_in k ≡ k.lines
lines-in k h = lines-few (size_in k) k.lines h
