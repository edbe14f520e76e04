-- What each turn of `job::put_entries` keeps.
use mathlib.Core.Path.{◌≡◌}
use Prim.Native.Nat.{◌+◌, ◌*◌}
use lib.ListN.{take}
use Rattle.job.specs.Written.{words_of, placed}
use Rattle.job.proofs.put_entries.Given as goal

abbrev pub invariant-loop-e : goal.invariant-loop-e
invariant-loop-e l = (l.n ≡ 16 + 2 * l.e-index) × (l.out ≡ placed l.initial.out 16 (words_of (take l.e-index l.entries)))
