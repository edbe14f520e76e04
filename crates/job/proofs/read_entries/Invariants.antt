-- What each turn of `job::read_entries` keeps.
use mathlib.Core.Path.{◌≡◌}
use mathlib.Core.List.{◌++◌}
use Prim.Native.Nat.{◌+◌, ◌*◌}
use lib.ListN.{drop}
use Rattle.job.specs.Job.{words_at}
use Rattle.job.proofs.read_entries.Given as goal

abbrev pub invariant-loop-slot : goal.invariant-loop-slot
invariant-loop-slot l = (l.n ≡ 16 + 2 * l.slot-index) × (l.slots ≡ words_at l.bytes 16 l.slot-index ++ drop l.slot-index l.initial.slots)
