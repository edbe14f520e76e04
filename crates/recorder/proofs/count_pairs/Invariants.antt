-- What each turn of `recorder::count_pairs` keeps: the pairs counted and those of the members that are left are all pairs.
use mathlib.Core.Path.{◌≡◌}
use Prim.Native.Nat.{◌+◌}
use lib.ListN.{length}
use Rattle.address_set.specs.Map.{members_in}
use Rattle.address_set.specs.Next.{left}
use Rattle.recorder.proofs.Members.{pairs}
use Rattle.recorder.proofs.count_pairs.Given as goal

abbrev pub invariant-loop-a : goal.invariant-loop-a
invariant-loop-a l =
    let all = pairs l.image.bytes.now l.image.bounds.load l.image.bounds.last l.undecoded in
    l.n + length (all (left l.a-iterator)) ≡ length (all (members_in l.fn.range.load l.fn.range.last l.map))
