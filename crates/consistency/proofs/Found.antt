-- What the code shows of top entries: the table's or the scan's answer is the chosen entry.
-- Assumes nothing.
use mathlib.Core.Path.{◌≡◌, refl, sym, ◌∙◌, ap}
use mathlib.Core.Bool.{Bool, true}
use mathlib.Core.Option.{Option, none, some}
use mathlib.Core.List.{List}
use Prim.Native.Nat.{ℕ}
use native.Mathlib.Decide.{ℕ_discrete}
use Rattle.spec.specs.declared.Size.{Size}
use Rattle.spec.specs.declared.Size.TheVariants as S
use Rattle.places.specs.Sizes.{power_of, power-low, power-high}
use Rattle.spec.specs.Log.{Entry}
use Rattle.spec.specs.Contents.{chosen, highest}
use Rattle.theory_log.proofs.Contents.{version_of, chosen-best, highest-best}
use Rattle.packing.specs.declared.Info.{Info}
use Rattle.index.specs.Index.{get}
use Rattle.packing.specs.Packed.{unpack_of}
use Rattle.logs.specs.declared.Best.{Best}
use Rattle.logs.specs.Best.{best_in, best_of}
use Rattle.logs.proofs.Scan.{best-chosen}
use Rattle.volatile.specs.Known.{Bounded}
use Rattle.volatile.proofs.Grow.{found_none, found-chosen}
use Rattle.volatile.proofs.Image.{image_bounded}
use Rattle.consistency.specs.Classes.{class_in}
use Rattle.consistency.proofs.Classes.{class-bounded, class-chosen}
use Rattle.consistency.specs.Pass.{TopIs}

abbrev best_is : Info → Best
best_is i = record { version = i.version; place = i.place }

-- the word of no key
best_none : (size : Size) → best_is (unpack_of size 0) ≡ best_of none
best_none S.Small = refl
best_none S.Large = refl

module _ (size : Size) (n : ℕ) (ws table : List ℕ) (fits : Bool) (key : ℕ) where
  pub shows-table : fits ≡ true → (word : ℕ) (info : Info) → word ≡ get table key → info ≡ unpack_of size word → TopIs size n ws table fits key (best_is info)
  shows-table t word info is_word is-info low high es l own = ap best_is is-info ∙ go (ℕ_discrete word 0) ∙ ap best_of (class-chosen low high key own es)
    where
      small : Bounded size (class_in low high es)
      small = class-bounded size low high es (image_bounded size n ws es l.entries l.few)

      go : Dec (word ≡ 0) → best_is (unpack_of size word) ≡ best_of (chosen key (class_in low high es))
      go (yes z) = rw (found_none size table l.keys (class_in low high es) (l.indexed t) small key word is_word z, z) (best_none size)
      go (no z) = let f = found-chosen size table l.keys (class_in low high es) (l.indexed t) small key word is_word z in ap best_is f.2 ∙ sym (ap best_of f.1)

  pub shows-scan : (r : Best) → r ≡ best_in (power_of size) n ws key → TopIs size n ws table fits key r
  shows-scan r is low high es l own = is ∙ best-chosen (power_of size) (power-low size) (power-high size) n key ws es l.entries

pub version-highest : (k : ℕ) (es : List Entry) → (best_of (chosen k es)).version ≡ highest k es
version-highest k es = version (chosen k es) ∙ ap version_of (chosen-best k es) ∙ highest-best k es
  where
    version : (q : Option Entry) → (best_of q).version ≡ version_of q
    version none = refl
    version (some e) = refl
