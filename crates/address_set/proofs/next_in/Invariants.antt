-- What each turn of `address_set::next_in` keeps.
use Prim.Native.Nat.{◌+◌, ◌*◌, ◌≤◌, ◌<◌}
use Rattle.address_set.specs.Next.{Free}
use Rattle.address_set.proofs.next_in.Given as goal

-- the place that it looks at is s of the byte i
abbrev pub invariant-loop-i : goal.invariant-loop-i
invariant-loop-i l = (l.s < 8) × (l.from ≤ l.i * 8 + l.s) × Free l.map l.from (l.i * 8 + l.s)
