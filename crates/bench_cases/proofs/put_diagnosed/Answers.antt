-- `bench_cases::put_diagnosed` meets its contract: an answer tells of no more records than the list has slots.
use mathlib.Core.Path.{ap}
use lib.ListN.{length-append}
use Rattle.std.proofs.Common.{◌≤◌, arith, length, replicate}
use Rattle.report.specs.Lines.{diag_lines}
use Rattle.report.specs.Report.{Enough}
use Rattle.report.proofs.Lengths.{diag_length}
use Rattle.report.proofs.Answering.{refusals_kept}
use Rattle.bench_cases.proofs.put_diagnosed.Goals as goal
use Rattle.bench_cases.proofs.put_diagnosed.Goals.{After-diagnose-answer}

-- the records are in the list, so their lines are as short as the list
enough : (c : After-diagnose-answer) → Enough c.diagnose-answer.result c.diagnose-answer.new.slots
enough c = (refusals_kept _ _ _ (replicate 8 0) _ c.diagnose-answer.result c.diagnose-answer.ensures).1

short : (c : After-diagnose-answer) → length (diag_lines c.diagnose-answer.result c.diagnose-answer.new.slots) ≤ 412
short c = omega (arith, diag_length c.diagnose-answer.result c.diagnose-answer.new.slots (enough c), c.diagnose-answer.auto.slots)

pub put_diag-requires : goal.put_diag-requires
put_diag-requires c =
    let called = (goal.at.put_diag-requires c).After-diagnose-answer in
    (omega arith, (omega (arith, short called), enough called))

pub returns : goal.returns
returns c = omega (arith, simp length-append at (ap length c.put_diag.ensures), short (goal.at.returns c).After-diagnose-answer)
