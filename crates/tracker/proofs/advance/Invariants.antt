-- What each turn of `tracker::advance` keeps.
use Prim.Native.Nat.{◌-◌, ◌≤◌}
use lib.ListN.{length}
use Rattle.tracker.specs.Track.{Reached, state_of}
use Rattle.tracker.proofs.advance.Given as goal

abbrev pub invariant-loop-at : goal.invariant-loop-at
invariant-loop-at l = Reached l.code l.at (state_of l.regs l.zp) × (l.at ≤ l.n) × (l.n ≤ length l.code)

abbrev pub decreases-loop-at : goal.decreases-loop-at
decreases-loop-at l = l.n - l.at
