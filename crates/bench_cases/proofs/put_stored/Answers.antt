-- `bench_cases::put_stored` meets its contract: an answer tells of no more records than the list has slots.
use mathlib.Core.Path.{ap}
use lib.ListN.{length-append}
use Rattle.std.proofs.Common.{◌≤◌, arith, length, replicate}
use Rattle.report.specs.Lines.{stores_lines}
use Rattle.report.specs.Report.{EnoughStores}
use Rattle.report.proofs.Lengths.{stores_length}
use Rattle.report.proofs.Answering.{spans_kept}
use Rattle.bench_cases.proofs.put_stored.Goals as goal
use Rattle.bench_cases.proofs.put_stored.Goals.{After-write_extent-answer}

-- the records are in the list, so their lines are as short as the list
enough : (c : After-write_extent-answer) → EnoughStores c.write_extent-answer.result c.write_extent-answer.new.slots
enough c = (spans_kept _ _ _ (replicate 8 0) _ c.write_extent-answer.result c.write_extent-answer.ensures).1

short : (c : After-write_extent-answer) → length (stores_lines c.write_extent-answer.result c.write_extent-answer.new.slots) ≤ 196
short c = omega (arith, stores_length c.write_extent-answer.result c.write_extent-answer.new.slots (enough c), c.write_extent-answer.auto.slots)

pub put_extent-requires : goal.put_extent-requires
put_extent-requires c =
    let called = (goal.at.put_extent-requires c).After-write_extent-answer in
    (omega arith, (omega (arith, short called), enough called))

pub returns : goal.returns
returns c = omega (arith, simp length-append at (ap length c.put_extent.ensures), short (goal.at.returns c).After-write_extent-answer)
