-- There are nine causes: each number is below nine, and a cause is found again by its number.
use mathlib.Core.Path.{◌≡◌, refl}
use Prim.Native.Nat.{◌<◌}
use native.Mathlib.Omega.{arith}
use Rattle.cause.specs.declared.RefusalCause.{RefusalCause}
use Rattle.cause.specs.declared.RefusalCause.TheVariants.{IllegalOpcode, Brk, JmpIndirect, IndirectIndexedY, IndirectIndexedX, OperandOffEnd, RanOffEnd, Budget, EntryOutside}
use Rattle.cause.specs.Cause.{number_of, cause_at}

pub cause_small : (c : RefusalCause) → number_of c < 9
cause_small IllegalOpcode = omega arith
cause_small Brk = omega arith
cause_small JmpIndirect = omega arith
cause_small IndirectIndexedY = omega arith
cause_small IndirectIndexedX = omega arith
cause_small OperandOffEnd = omega arith
cause_small RanOffEnd = omega arith
cause_small Budget = omega arith
cause_small EntryOutside = omega arith

pub cause_back : (c : RefusalCause) → cause_at (number_of c) ≡ c
cause_back IllegalOpcode = refl
cause_back Brk = refl
cause_back JmpIndirect = refl
cause_back IndirectIndexedY = refl
cause_back IndirectIndexedX = refl
cause_back OperandOffEnd = refl
cause_back RanOffEnd = refl
cause_back Budget = refl
cause_back EntryOutside = refl
