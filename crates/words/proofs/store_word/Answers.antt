-- `words::store_word` meets its contract: the bytes of the number are laid over those of the word.
-- Assumes nothing.
use mathlib.Core.Path.{◌≡◌, sym, ◌∙◌}
use Prim.Native.Nat.{◌+◌, ◌-◌, ◌*◌}
use native.Mathlib.Omega.{arith}
use lib.Seq.{drop-drop}
use Rattle.std.proofs.Common.{append_assoc}
use Rattle.std.proofs.lemmas.List.Edits.{sets-eq}
use Rattle.spec.specs.Words.{eight_bytes}
use Rattle.words.specs.Store.{set_word}
use Rattle.words.proofs.store_word.Goals as goal

pub returns : goal.returns
unfolding set_word
returns c =
    let at = 8 * c.args.w in
    let image = c.args.img.now in
    let n : at + 8 - at ≡ 8 = omega arith in
    rw (c.copy_from_slice.ensures.after, c.to_le_bytes.ensures, n, drop-drop 8 at image)
    (sym (sets-eq (eight_bytes c.args.v) image at c.requires ∙ simp append_assoc))
