-- The laws of the calls that the theorem on histories stands on, each over plain variables. n: the image's chunks;
-- table: the key table's words at the opening before; C, D: contents before and after a call; book: the desk book's
-- staged items; items: the entries staged.
-- Assumes nothing.
use Rattle.std.specs.Prelude.{◌≡◌, ◌⊎◌, true, List, [], ◌∷◌, ◌++◌, ℕ, ◌*◌, ◌/◌, ◌≤◌, length}
use Rattle.std.proofs.Math.Option.{some}
use Rattle.spec.specs.Words.{words_of, AreBytes}
use Rattle.spec.specs.Places.{is_power, base, chunks_in, length_allowed, max_chunks}
use Rattle.spec.specs.Header.{header_power}
use Rattle.spec.specs.Medium.{Medium, Action, latest, cut, settled_at}
use Rattle.spec.specs.Log.{Entry}
use Rattle.spec.specs.Contents.{Held, Absent, Value, capacity, contents, entries_in}
use Rattle.spec.specs.Opening.{Accepted, open_chunks, opening}
use Rattle.spec.specs.Actions.{format_of}
use Rattle.spec.specs.Plans.{Task, Staging, Committing, Cleaning, Olds, olds_of, put_back, Begin, plan_put, plan_delete, plan_commit, plan_clean, look_up}
use Rattle.spec.specs.Book.{Item, nothing, done_items}
use Rattle.spec.specs.History.{shows}
use Rattle.spec.specs.Basics.{Given}
use Rattle.theory_base.proofs.Through.{Through}
use Rattle.theory_crash.specs.Rest.{Cuts}
use Rattle.theory_plans.specs.Standing.{Standing, Going, Reading}

abbrev pub Anything : Medium → Type 0
Anything m = Unit {0}

pub record Laws (p : ℕ) : Type 0 where
  -- an accepted staging, whatever version it names, puts its item last into the book's staged items and keeps the
  -- contents
  pub put-goes : (n table : ℕ) (C : ℕ → Held) (book : List Item) (items items' : List Entry) (task : Task) (acts : List Action) (m : Medium) (x : Given) (k : ℕ) (v : List ℕ)
      → AreBytes v → Standing p n table C book items m → plan_put p n (latest m) table (entries_in p n (latest m)) items x k v ≡ Begin items' task acts
      → (task ≡ Staging) × Going p n table C C (book ++ (record { key = k; gets = Value v } ∷ [])) items' acts m
  pub delete-goes : (n table : ℕ) (C : ℕ → Held) (book : List Item) (items items' : List Entry) (task : Task) (acts : List Action) (m : Medium) (x : Given) (k : ℕ)
      → Standing p n table C book items m → plan_delete table (entries_in p n (latest m)) items x k ≡ Begin items' task acts
      → (task ≡ Staging) × Going p n table C C (book ++ (record { key = k; gets = Absent } ∷ [])) items' acts m
  -- a commit does the book's staged items in order
  pub commit-goes : (n table : ℕ) (C : ℕ → Held) (book : List Item) (items items' : List Entry) (task : Task) (acts : List Action) (m : Medium)
      → Standing p n table C book items m → plan_commit p n (latest m) items ≡ Begin items' task acts
      → ((olds : Olds) × (task ≡ Committing olds)) × Going p n table C (done_items book C) [] [] acts m
  -- a cleaning keeps the contents
  pub clean-goes : (n table : ℕ) (C : ℕ → Held) (book : List Item) (items items' : List Entry) (task : Task) (acts : List Action) (m : Medium) (c : ℕ)
      → Standing p n table C book items m → plan_clean p n (latest m) (entries_in p n (latest m)) items c ≡ Begin items' task acts
      → ((count : ℕ) × ((olds : Olds) × (task ≡ Cleaning count olds))) × ((book ≡ []) × ((items' ≡ []) × Going p n table C C [] [] acts m))
  pub abandon-stands : (n table : ℕ) (C : ℕ → Held) (book : List Item) (items : List Entry) (m : Medium) → Standing p n table C book items m → Standing p n table C [] [] m
  -- power cuts
  pub stand-cuts : (n table : ℕ) (C : ℕ → Held) (book : List Item) (items : List Entry) (m : Medium) → Standing p n table C book items m → Cuts p n (capacity table) C C m
  pub cut_stands : (n table : ℕ) (C D : ℕ → Held) (m : Medium) (chooses : ℕ → ℕ) → Cuts p n (capacity table) C D m
      → Standing p n table C [] [] (settled_at (cut chooses m)) ⊎ Standing p n table D [] [] (settled_at (cut chooses m))
  -- openings: one succeeds wherever memory stands, with a table no smaller; one that accepted an image left memory so.
  -- 2 to 7 do at every power, an opening at the powers that it takes.
  pub larger-table : (n table table' : ℕ) (C : ℕ → Held) (book : List Item) (items : List Entry) (m : Medium) → table ≤ table' → Standing p n table C book items m → Standing p n table' C book items m
  pub stand-length : (n table : ℕ) (C : ℕ → Held) (book : List Item) (items : List Entry) (m : Medium) → Standing p n table C book items m
      → (length m ≡ base p n) × (chunks_in p (8 * base p n) ≡ n)
  -- the header says the power
  pub stand-power : (n table : ℕ) (C : ℕ → Held) (book : List Item) (items : List Entry) (m : Medium) → Standing p n table C book items m → header_power (latest m) ≡ p
  pub open-takes : (n table : ℕ) (C : ℕ → Held) (book : List Item) (items : List Entry) (m : Medium) → Standing p n table C book items m
      → (es : List Entry) × (open_chunks p n (latest m) table ≡ Accepted es)
  pub taken-stands : (n table : ℕ) (ws : List ℕ) (es : List Entry) → 4 ≤ n → n ≤ max_chunks → length ws ≡ base p n → header_power ws ≡ p → open_chunks p n ws table ≡ Accepted es
      → Standing p n table (contents p n ws) [] [] (settled_at ws)
  pub open-accepts : (n table : ℕ) (C : ℕ → Held) (book : List Item) (items : List Entry) (m : Medium) → Standing p n table C book items m
      → is_power p ≡ true → (es : List Entry) × (opening (8 * base p n) (latest m) table ≡ Accepted es)
  pub accepted-stands : (bytes table : ℕ) (ws : List ℕ) (es : List Entry) → length ws ≡ bytes / 8 → header_power ws ≡ p → opening bytes ws table ≡ Accepted es
      → Standing p (chunks_in p bytes) table (contents p (chunks_in p bytes) ws) [] [] (settled_at ws) × (bytes ≡ 8 * base p (chunks_in p bytes))
  -- look-up shows the contents
  pub look-shows : (n table : ℕ) (C : ℕ → Held) (book : List Item) (items : List Entry) (m : Medium) (image : List ℕ) → AreBytes image → words_of image ≡ latest m
      → Standing p n table C book items m → (k : ℕ) → shows (look_up (latest m) (entries_in p n (latest m)) k) image ≡ some (C k)
  -- WHILE A CALL IS UNFINISHED look-up reads words that say what those before the call say
  pub put_reads : (n table : ℕ) (C : ℕ → Held) (book : List Item) (items items' : List Entry) (task : Task) (acts : List Action) (m : Medium) (x : Given) (k : ℕ) (v : List ℕ)
      → AreBytes v → Standing p n table C book items m → plan_put p n (latest m) table (entries_in p n (latest m)) items x k v ≡ Begin items' task acts
      → Reading p n table C (latest m) (olds_of task) acts m
  pub delete-reads : (n table : ℕ) (C : ℕ → Held) (book : List Item) (items items' : List Entry) (task : Task) (acts : List Action) (m : Medium) (x : Given) (k : ℕ)
      → Standing p n table C book items m → plan_delete table (entries_in p n (latest m)) items x k ≡ Begin items' task acts
      → Reading p n table C (latest m) (olds_of task) acts m
  pub commit-reads : (n table : ℕ) (C : ℕ → Held) (book : List Item) (items items' : List Entry) (task : Task) (acts : List Action) (m : Medium)
      → Standing p n table C book items m → plan_commit p n (latest m) items ≡ Begin items' task acts
      → Reading p n table C (latest m) (olds_of task) acts m
  pub clean-reads : (n table : ℕ) (C : ℕ → Held) (book : List Item) (items items' : List Entry) (task : Task) (acts : List Action) (m : Medium) (c : ℕ)
      → Standing p n table C book items m → plan_clean p n (latest m) (entries_in p n (latest m)) items c ≡ Begin items' task acts
      → Reading p n table C (latest m) (olds_of task) acts m
  -- and shows the contents before the call, with the answer of then
  pub reading-shows : (n table : ℕ) (C : ℕ → Held) (ws : List ℕ) (olds : Olds) (rest : List Action) (m : Medium) (image : List ℕ) → AreBytes image → words_of image ≡ latest m
      → Reading p n table C ws olds rest m → (k : ℕ) → shows (look_up (put_back olds (latest m)) (entries_in p n (put_back olds (latest m))) k) image ≡ some (C k)
  pub reading-same : (n table : ℕ) (C : ℕ → Held) (ws : List ℕ) (olds : Olds) (rest : List Action) (m : Medium)
      → Reading p n table C ws olds rest m → (k : ℕ) → look_up (put_back olds (latest m)) (entries_in p n (put_back olds (latest m))) k ≡ look_up ws (entries_in p n ws) k
  -- a formatting to its end, begun on any medium, leaves an empty register
  pub format-stands : (bytes table : ℕ) (m : Medium) (station centre : Given) → length_allowed p bytes ≡ true → length m ≡ bytes / 8
      → Through Anything (Standing p (chunks_in p bytes) table nothing [] []) (format_of p (chunks_in p bytes) station centre) m × (bytes ≡ 8 * base p (chunks_in p bytes))
