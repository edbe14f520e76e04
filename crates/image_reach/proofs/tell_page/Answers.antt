-- `image_reach::tell_page` meets its contract: each turn writes the byte at z, and after the last all of them are told.
use Rattle.std.proofs.Common.{arith}
use Rattle.std.specs.Prelude.{None}
use Rattle.image_reach.specs.Face.{value_of, mark_of}
use Rattle.image_reach.proofs.Over.{over_next}
use Rattle.image_reach.proofs.tell_page.Goals as goal

pub loop-z-preserved : goal.loop-z-preserved
loop-z-preserved c =
    let a = c.args in
    let so_far = c.loop-z.invariant in
    record {
      values = rw (so_far.values, c.value_of.ensures) (over_next value_of None a.page.now a.values.now c.loop-z.z (omega arith) (omega arith));
      marks = rw (so_far.marks, c.mark_of.ensures) (over_next mark_of None a.page.now a.marks.now c.loop-z.z (omega arith) (omega arith));
    }
