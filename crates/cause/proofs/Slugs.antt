-- No slug is longer than fifteen bytes.
use Prim.Native.Nat.{◌≤◌}
use native.Mathlib.Omega.{arith}
use lib.ListN.{length}
use Rattle.cause.specs.declared.RefusalCause.{RefusalCause}
use Rattle.cause.specs.declared.RefusalCause.TheVariants.{IllegalOpcode, Brk, JmpIndirect, IndirectIndexedY, IndirectIndexedX, OperandOffEnd, RanOffEnd, Budget, EntryOutside}
use Rattle.cause.specs.Cause.{slug_of}

pub slug_short : (cause : RefusalCause) → length (slug_of cause) ≤ 15
slug_short IllegalOpcode = omega arith
slug_short Brk = omega arith
slug_short JmpIndirect = omega arith
slug_short IndirectIndexedY = omega arith
slug_short IndirectIndexedX = omega arith
slug_short OperandOffEnd = omega arith
slug_short RanOffEnd = omega arith
slug_short Budget = omega arith
slug_short EntryOutside = omega arith
