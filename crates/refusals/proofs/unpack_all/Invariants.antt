-- What each turn of `refusals::unpack_all` keeps: the first i records stand over the structs that were lent.
use Rattle.std.proofs.Common.{◌≡◌, take}
use Rattle.refusals.specs.Refusals.{over}
use Rattle.refusals.proofs.unpack_all.Given as goal

abbrev pub invariant-loop-i : goal.invariant-loop-i
invariant-loop-i l = l.out ≡ over (take l.i l.packed) l.initial.out
