-- What the code shows of numbers alone.
-- Assumes nothing.
use Rattle.std.proofs.Common.{◌≤◌, arith}
use Rattle.spec.specs.declared.Size.{Size}
use Rattle.spec.specs.declared.Size.TheVariants as Z
use Rattle.packing.specs.Packed.{widths_of}

-- no place is farther than the last word of the largest image
pub place-most : (size : Size) → (widths_of size).place ≤ 0x40_0000
place-most Z.Small = omega arith
place-most Z.Large = omega arith
