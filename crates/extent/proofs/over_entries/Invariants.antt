-- What each turn of `extent::over_entries` keeps: the entries so far have been taken in.
use Rattle.std.proofs.Common.{◌≡◌, take}
use Rattle.extent.specs.Extent.{over_entries}
use Rattle.extent.proofs.over_entries.Given as goal

abbrev pub invariant-loop-x : goal.invariant-loop-x
invariant-loop-x l = l.e ≡ over_entries l.bounds.load l.bounds.last (take l.x-index l.entries) l.initial.e
