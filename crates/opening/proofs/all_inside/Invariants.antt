-- While all entries so far are inside, those left decide.
use Rattle.std.proofs.Common.{◌≡◌, drop}
use Rattle.opening.specs.Opening.{all_inside}
use Rattle.opening.proofs.all_inside.Given as goal

abbrev pub invariant-loop-a : goal.invariant-loop-a
invariant-loop-a l = all_inside l.bounds.load l.bounds.last l.entries ≡ all_inside l.bounds.load l.bounds.last (drop l.a-index l.entries)
