-- What a cleaning finds before it is begun.
-- Assumes nothing.
use Rattle.std.specs.Prelude.{◌≡◌, ◌⊎◌, Bool, true, false, List, [], ℕ, zero, suc, ◌+◌, ◌*◌, ◌%◌, ◌≤◌, ◌<◌, length, get_or, Result}
use Rattle.std.specs.declared.result.Result.TheVariants as R
use Rattle.std.proofs.Math.Option.{some}
use Rattle.spec.specs.declared.Size.{Size}
use Rattle.places.specs.Sizes.{power_of}
use Rattle.spec.specs.Basics.{either}
use Rattle.spec.specs.Words.{words_of}
use Rattle.spec.specs.Places.{base, chunk_words, directory_word, chunks_in}
use Rattle.spec.specs.Directory.{is_free, is_log, role_at, lines_of}
use Rattle.spec.specs.Log.{Entry, encode_all}
use Rattle.spec.specs.Contents.{kept_in}
use Rattle.spec.specs.Actions.{lines_for}
use Rattle.spec.specs.Plans.{log_place, has_live, Refuse, plan_clean}
use Rattle.spec.specs.Machine.{Clean, refusals}
use Rattle.spec.specs.Contract.{MemRefusal}
use Rattle.session.specs.declared.Control.{Control}
use Rattle.session.specs.declared.Setup.{Setup}
use Rattle.spec.specs.declared.Refusal.{Refusal}
use Rattle.theory_crash.specs.Accepted.{Ok}
use Rattle.buffer.specs.Bits.{has_bit}
use Rattle.volatile.specs.Known.{Indexed}
use Rattle.session.specs.State.{size_in, power_in, source_in, source_lines}
use Rattle.session.specs.Fits.{sole_mark, RestFits, Built}
use Rattle.gathering.specs.declared.measure.Tally.{Tally}
use Rattle.gathering.specs.Reading.{Collected}
use Rattle.session.specs.declared.Source.{Source}
use Rattle.actions.specs.Record.{clean_count, source_of}
use Rattle.cleaning.specs.declared.CleanPlan.{CleanPlan}

-- whether a bit stands among n from unit u on
abbrev pub any_bit : (size : Size) → List ℕ → (u n : ℕ) → Bool
any_bit size b u zero = false
any_bit size b u (suc n) = either (has_bit size b u) (any_bit size b (suc u) n)

-- what is kept goes to the chunk that the definition finds; `hint` is the record's hint, `first` the next one
pub record Copies (size : Size) (ws : List ℕ) (es : List Entry) (n s chunk old lines hint first : ℕ) (f : Source) : Type 0 where
  pub log : is_log (role_at (power_of size) ws s) ≡ true
  pub some-kept : kept_in (power_of size) s es ≡ [] → ⊥
  pub words : f.words ≡ length (encode_all (kept_in (power_of size) s es))
  pub entries : f.entries ≡ length (kept_in (power_of size) s es)
  pub found : log_place (power_of size) n ws (lines_for (length (encode_all (kept_in (power_of size) s es)))) s 1 ≡ some chunk
  pub old-is : old ≡ get_or ws (directory_word chunk) 0
  pub lines-is : lines ≡ lines_of (power_of size) ws chunk
  pub below : first ≤ hint
  pub under : first ≤ chunk

-- nothing is copied
pub record Bare (size : Size) (ws : List ℕ) (es : List Entry) (s chunk old lines hint first : ℕ) (f : Source) : Type 0 where
  pub words : f.words ≡ 0
  pub entries : f.entries ≡ 0
  pub chunk-is : chunk ≡ 0
  pub old-is : old ≡ 0
  pub lines-is : lines ≡ 0
  pub same : first ≡ hint
  pub why : ((is_log (role_at (power_of size) ws s) ≡ true) × (kept_in (power_of size) s es ≡ [])) ⊎ ((is_log (role_at (power_of size) ws s) ≡ false) × (has_live (power_of size) es s ≡ false))

pub record Beginning (size : Size) (ws : List ℕ) (es : List Entry) (n s chunk old lines hint first : ℕ) (f : Source) (actions : ℕ) : Type 0 where
  pub low : 1 ≤ s
  pub high : s < n
  pub used : is_free (role_at (power_of size) ws s) ≡ false
  pub source : f ≡ source_of size ws s f.words f.entries
  pub room : f.words ≤ chunk_words (power_of size)
  pub count : actions ≡ clean_count f.words
  pub how : Copies size ws es n s chunk old lines hint first f ⊎ Bare size ws es s chunk old lines hint first f

-- a plan is the definition's, with these items staged
abbrev pub Right : (size : Size) → List ℕ → (es items : List Entry) → (n s hint : ℕ) → Result CleanPlan Refusal → Type 0
Right size ws es items n s hint (R.Err x) = plan_clean (power_of size) n ws es items s ≡ Refuse x
Right size ws es items n s hint (R.Ok p) = (items ≡ []) × Beginning size ws es n s p.chunk p.old p.lines hint p.first p.source p.actions

-- of any memory: a refusal of the call's list, or as many actions as the record will have
abbrev pub Sound : Result CleanPlan Refusal → Type 0
Sound (R.Err x) = MemRefusal x (refusals (Clean 0))
Sound (R.Ok p) = p.actions ≡ clean_count p.source.words

-- what the plan keeps of the chunk is gathered in words of the call's own, where it keeps any
pub record KeptAt (size : Size) (f : Source) (ws table kept : List ℕ) : Type 0 where
  pub at : ℕ
  pub end : ℕ
  pub tally : Tally
  pub at-is : at ≡ base (power_of size) (source_in f)
  pub end_is : end ≡ at + 8 * source_lines f
  pub words : f.words ≡ tally.words
  pub collected : Collected size ws table kept at end tally

abbrev pub Keeps : (size : Size) → Result CleanPlan Refusal → (ws table kept : List ℕ) → Type 0
Keeps size (R.Err x) ws table kept = Unit {0}
Keeps size (R.Ok p) ws table kept = (p.source.words ≡ 0) ⊎ KeptAt size p.source ws table kept

-- of a log chunk in use, with nothing staged; of another in use
pub record LogPlanned (size : Size) (ws table kept : List ℕ) (n s hint : ℕ) (r : Result CleanPlan Refusal) : Type 0 where
  pub sound : Sound r
  pub keeps : Keeps size r ws table kept
  pub plans : (keys : ℕ) (es : List Entry) → Ok (power_of size) n ws es → Indexed size table keys es → 1 ≤ s → s < n → is_free (role_at (power_of size) ws s) ≡ false → is_log (role_at (power_of size) ws s) ≡ true → Right size ws es [] n s hint r

pub record DataPlanned (size : Size) (ws buffer : List ℕ) (s hint : ℕ) (r : Result CleanPlan Refusal) : Type 0 where
  pub sound : Sound r
  pub keeps : (table kept : List ℕ) → Keeps size r ws table kept
  pub plans : (c : Control) (table : List ℕ) (es : List Entry) (n : ℕ) → Ok (power_of size) n ws es → Built c size buffer table es → 1 ≤ s → s < n → is_free (role_at (power_of size) ws s) ≡ false → is_log (role_at (power_of size) ws s) ≡ false → Right size ws es [] n s hint r

-- of any memory at rest as the calls left it
pub record CleanPlanned (c : Control) (k : Setup) (buffer image table kept : List ℕ) (s : ℕ) (r : Result CleanPlan Refusal) : Type 0 where
  pub sound : Sound r
  pub keeps : Keeps (size_in k) r (words_of image) table kept
  pub plans : k.image ≡ length image → (items : List Entry) (q : RestFits (record { control = c; setup = k; buffer = buffer }) (words_of image) table items)
      → Right (size_in k) (words_of image) q.entries items (chunks_in (power_in k) k.image) s (k.first % sole_mark) r
