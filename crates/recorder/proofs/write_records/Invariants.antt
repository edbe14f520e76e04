-- What each turn of `recorder::write_records` keeps: the records of the members so far fill the first n slots, and the tracker, which stands before
-- every member that is left, can go on to it.
use Prim.Native.Nat.{◌-◌, ◌≤◌}
use Rattle.lists.specs.Lists.{◌∈◌}
use Rattle.lists.proofs.Filling.{Filled}
use Rattle.address_set.specs.Map.{members_in}
use Rattle.address_set.specs.Next.{left}
use Rattle.tracker.specs.Track.{Reached, state_of}
use Rattle.recorder.proofs.Members.{records}
use Rattle.recorder.proofs.write_records.Given as goal

abbrev pub invariant-loop-a : goal.invariant-loop-a
invariant-loop-a l =
    let bounds = l.image.bounds in
    let written = records l.image.bytes.now bounds.load bounds.last l.undecoded (members_in bounds.load bounds.last l.map) in
    Filled (written (members_in l.fn.range.load l.fn.range.last l.map)) (written (left l.a-iterator)) l.initial.slots l.slots l.n
    × Reached l.image.bytes.now l.place.at (state_of l.place.regs l.zp) × ((b : _) → b ∈ left l.a-iterator → l.place.at ≤ b - bounds.load)
