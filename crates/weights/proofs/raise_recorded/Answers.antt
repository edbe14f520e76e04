-- `weights::raise_recorded` meets its contract: a loop that writes a function of each slot over it.
use native.Mathlib.Omega.{arith}
use Rattle.std.proofs.lemmas.Grind.{common_steps}
use Rattle.std.proofs.lemmas.List.Edits.{map_over_more}
use Rattle.weights.proofs.raise_recorded.Goals as goal

pub loop-slot-preserved : goal.loop-slot-preserved
loop-slot-preserved c = rw c.raised_once.ensures (map_over_more _ _ _ _ _ (omega arith) c.loop-slot.invariant (grind (arith, common_steps)))
