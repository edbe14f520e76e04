-- `refusals::unpack_all` meets its contract: the record at i goes over the struct at i.
use Rattle.std.proofs.Common.{arith}
use Rattle.refusals.proofs.Over.{over_next}
use Rattle.refusals.proofs.unpack_all.Goals as goal

pub loop-i-preserved : goal.loop-i-preserved
loop-i-preserved c = rw (c.loop-i.invariant, c.unpack.ensures) (over_next c.args.packed.now c.args.out.now c.loop-i.i c.loop-i-test.true (omega arith))
