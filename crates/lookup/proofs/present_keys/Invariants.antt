-- The loop of `lookup::present_keys`.
use mathlib.Core.Path.{◌≡◌}
use Prim.Native.Nat.{◌≤◌}
use lib.ListN.{length}
use Rattle.spec.specs.Words.{words_of}
use Rattle.lookup.proofs.Slots.{Slotting}
use Rattle.lookup.proofs.present_keys.Given as goal

abbrev pub invariant-loop-slot : goal.invariant-loop-slot
invariant-loop-slot l = (length l.out ≡ length l.initial.out) × (l.count ≤ l.slot) × Slotting l.size (words_of l.image) l.table l.initial.out l.out l.slot l.kept l.count
