-- `replay::put_diag_tests` meets its contract: there are no more records than slots, and both further lines are short.
use mathlib.Core.Path.{ap}
use lib.ListN.{length, length-append}
use Prim.Native.Nat.{◌+◌, ◌≤◌}
use Rattle.std.proofs.Common.{arith}
use Rattle.report.proofs.Lengths.{diag_length}
use Rattle.replay.proofs.put_diag_tests.Goals as goal
use Rattle.replay.proofs.put_diag_tests.Goals.{After-put_diag}

pub put_diag-requires : goal.put_diag-requires
put_diag-requires c = (omega arith, (omega (arith, diag_length c.args.tests.answer c.args.slots.now c.requires.2), c.requires.2))

-- where DIAG and its records stand
records_within : (c : After-put_diag) → length c.put_diag.new.out.items ≤ length c.args.out.now.items + 2875531
records_within c =
    omega (arith, simp length-append at (ap length c.put_diag.ensures), diag_length c.args.tests.answer c.args.slots.now c.requires.2)

pub put_tests-requires : goal.put_tests-requires
put_tests-requires c = omega (arith, records_within (goal.at.put_tests-requires c).After-put_diag)

pub returns : goal.returns
returns c = omega (arith, records_within (goal.at.returns c).After-put_diag)
