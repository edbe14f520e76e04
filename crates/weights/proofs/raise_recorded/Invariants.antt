-- What each turn of `weights::raise_recorded` keeps: the slots so far are raised, and the others are as they were.
use mathlib.Core.Path.{◌≡◌}
use mathlib.Core.List.{◌++◌}
use lib.ListN.{take, drop}
use Rattle.weights.specs.Weights.{one_at, raised_by}
use Rattle.weights.proofs.raise_recorded.Given as goal

abbrev pub invariant-loop-slot : goal.invariant-loop-slot
invariant-loop-slot l =
    let one = one_at l.image.bytes.now l.image.bounds.load l.image.bounds.last l.undecoded l.map in
    l.slots ≡ raised_by one (take l.slot-index l.initial.slots) ++ drop l.slot-index l.initial.slots
