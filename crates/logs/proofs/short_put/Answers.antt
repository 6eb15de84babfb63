-- `logs::short_put` meets its contract: a first word with the low bits 0001 is that of a put with its value in the log.
-- Assumes nothing.
use Prim.Native.Nat.{ℕ, ◌+◌, ◌*◌, ◌/◌, ◌%◌, ◌≤◌, min}
use mathlib.Core.Path.{◌≡◌, ◌∙◌}
use native.Mathlib.Omega.{arith}
use mathlib.Core.Bool.{Bool, true}
use mathlib.Core.List.{List}
use lib.ListN.{length, get_or, drop}
use lib.Seq.{slice}
use borrow.Author.Tests.{ne_eqb, le-leb}
use Rattle.spec.specs.Words.{words_of}
use Rattle.words.specs.Image.{length-words_of}
use Rattle.spec.specs.Log.{first_of_word, filled, step_of}
use Rattle.spec.specs.declared.LogStep.TheVariants as S
use Rattle.logs.specs.declared.ShortPut.{ShortPut}
use Rattle.logs.specs.Short.{Told}
use Rattle.spec.specs.declared.FirstWord.TheVariants as F
use Rattle.theory_log.proofs.Walk.{step-fill}
use Rattle.logs.proofs.short_put.Goals as goal

first-put : (w : ℕ) → w % 16 ≡ 1 → (w / 16 % 1048576 ≡ 0 → ⊥) → w / 16777216 ≤ 256 → first_of_word w ≡ F.Entry 1 0 (w / 16 % 1048576) (w / 16777216)
unfolding first_of_word
first-put w l v x =
    let q : w ≡ 16 * (w / 16) + 1 = omega arith in
    let o : w % 4 ≡ 1 = omega arith in
    let d : w / 4 ≡ 4 * (w / 16) = omega arith in
    let p : w / 4 % 4 ≡ 0 = rw d (omega arith) in
    rw (ne_eqb w 0 (omega arith), ne_eqb (w / 16 % 1048576) 0 v, o, p, le-leb (w / 16777216) 256 x)

put-right : (ws : List ℕ) (at end stop : ℕ) (p : ShortPut) (r : Bool) → stop ≡ min end (length ws) → Told ws at stop p → (p.version ≡ 0 → ⊥) → r ≡ filled 0 p.field (drop at ws) → r ≡ true
    → step_of (slice at end ws) ≡ S.Entry 1 0 p.version p.field p.key p.words
put-right ws at end stop p r is t some f right =
    let w = t.within in
    let n = t.words in
    let x = t.field in
    let l = t.few in
    let e : first_of_word (get_or ws at 0) ≡ F.Entry 1 0 p.version p.field = rw (t.version, t.field) (first-put (get_or ws at 0) t.low (λ z. some (t.version ∙ z)) (omega arith)) in
    let s = step-fill 1 0 p.version p.field at end ws e (omega arith) (omega arith) r f in
    rw (s, right, t.key, t.words)

pub told_put-requires : goal.told_put-requires
told_put-requires c = let n = length-words_of c.args.img.now in omega arith

pub fill_right-requires-clause-within : goal.fill_right-requires-clause-within
fill_right-requires-clause-within c = let n = length-words_of c.args.img.now in omega (arith, c.in_ok-told.ensures.within)

pub returns-then-fill_right : goal.returns-then-fill_right
returns-then-fill_right c =
    let a = c.args in
    let ws = words_of a.img.now in
    let n : length ws ≡ length a.img.now / 8 = length-words_of a.img.now in
    put-right ws a.at a.end c.min.result c.in_ok-told.told c.fill_right.result (omega arith) c.in_ok-told.ensures c.if-told-ne0.true c.fill_right.ensures c.if-fill_right.true
