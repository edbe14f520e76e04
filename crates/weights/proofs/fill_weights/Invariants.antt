-- What each turn of `weights::fill_weights` keeps: the slots are raised by what the entries so far weigh.
use lib.ListN.{take}
use Rattle.weights.specs.Weights.{Filled}
use Rattle.weights.proofs.fill_weights.Given as goal

abbrev pub invariant-loop-entry : goal.invariant-loop-entry
invariant-loop-entry l =
    Filled l.image.bytes.now l.image.bounds.load l.image.bounds.last (take l.entry-index l.entries) l.initial.slots l.slots
