-- `weights::fill_weights` meets its contract: each turn adds what one more entry weighs.
use native.Mathlib.Omega.{arith}
use Rattle.std.proofs.lemmas.List.{take_more}
use Rattle.weights.proofs.Counting.{filled_none, filled_more}
use Rattle.weights.proofs.fill_weights.Goals as goal

pub loop-entry-init : goal.loop-entry-init
loop-entry-init c = filled_none _ _ _ _

pub loop-entry-preserved : goal.loop-entry-preserved
loop-entry-preserved c = rw (take_more c.args.entries.now c.loop-entry.entry-index 0 (omega arith)) (filled_more c.count_entry.ensures c.loop-entry.invariant)
