-- What each turn of `address_set::size` keeps.
use mathlib.Core.Path.{◌≡◌}
use Prim.Native.Nat.{◌+◌, ◌*◌}
use lib.ListN.{length}
use Rattle.lists.specs.Lists.{scan}
use Rattle.address_set.specs.Map.{has}
use Rattle.address_set.proofs.size.Given as goal

-- n counts the members that the bytes before this one tell of
abbrev pub invariant-loop-x : goal.invariant-loop-x
invariant-loop-x l = l.n ≡ length (scan (has l.map) 0 ((l.bottom + l.x-index) * 8))
