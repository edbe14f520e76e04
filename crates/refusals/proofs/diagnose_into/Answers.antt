-- `refusals::diagnose_into` meets its contract: the records that the diagnosis has written are no more than the slots that were lent.
use Rattle.std.proofs.Common.{arith}
use Rattle.std.proofs.lemmas.Grind.{common_steps}
use Rattle.refusals.proofs.diagnose_into.Goals as goal

pub slice_bounds-unpack_all-end : goal.slice_bounds-unpack_all-end
slice_bounds-unpack_all-end c =
    let written = c.in_ok-summary.ensures.first in
    grind (arith, common_steps, written.3, written.4)
