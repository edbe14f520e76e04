-- `replay::put_stores_tests` meets its contract: there are no more records than slots, and both further lines are short.
use mathlib.Core.Path.{ap}
use lib.ListN.{length, length-append}
use Prim.Native.Nat.{◌+◌, ◌≤◌}
use Rattle.std.proofs.Common.{arith}
use Rattle.report.proofs.Lengths.{stores_length}
use Rattle.replay.proofs.put_stores_tests.Goals as goal
use Rattle.replay.proofs.put_stores_tests.Goals.{After-put_extent}

pub put_extent-requires : goal.put_extent-requires
put_extent-requires c = (omega arith, (omega (arith, stores_length c.args.tests.answer c.args.slots.now c.requires.2), c.requires.2))

-- where STORES and its records stand
records_within : (c : After-put_extent) → length c.put_extent.new.out.items ≤ length c.args.out.now.items + 49252
records_within c =
    omega (arith, simp length-append at (ap length c.put_extent.ensures), stores_length c.args.tests.answer c.args.slots.now c.requires.2)

pub put_tests-requires : goal.put_tests-requires
put_tests-requires c = omega (arith, records_within (goal.at.put_tests-requires c).After-put_extent)

pub returns : goal.returns
returns c = omega (arith, records_within (goal.at.returns c).After-put_extent)
