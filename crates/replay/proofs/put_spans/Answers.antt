-- `replay::put_spans` meets its contract: each of its lines is short.
use mathlib.Core.Path.{ap}
use lib.ListN.{length, length-append}
use Prim.Native.Nat.{◌+◌, ◌≤◌}
use Rattle.std.proofs.Common.{arith}
use Rattle.lists.specs.Text.{ascii}
use Rattle.report.proofs.Lengths.{span_length}
use Rattle.replay.proofs.put_spans.Goals as goal
use Rattle.replay.proofs.put_spans.Goals.{After-put_span}

-- after the plain span's line
plain_within : (c : After-put_span) → length c.put_span.new.out.items ≤ length c.args.out.now.items + 40
plain_within c =
    omega (arith, simp length-append at (ap length c.put_span.ensures), span_length (ascii "SPAN") c.reachable_span-plain.result (omega arith))

pub put_span-requires : goal.put_span-requires
put_span-requires c = (omega arith, omega (arith, span_length (ascii "SPAN") c.reachable_span-plain.result (omega arith)))

pub put_count-requires : goal.put_count-requires
put_count-requires c = omega (arith, plain_within (goal.at.put_count-requires c).After-put_span)

pub put_end-requires : goal.put_end-requires
put_end-requires c = omega (arith, plain_within (goal.at.put_end-requires c).After-put_span)

pub put_span-requires-2 : goal.put_span-requires-2
put_span-requires-2 c =
    let plain = plain_within (goal.at.put_span-requires-2 c).After-put_span in
    (omega arith, omega (arith, plain, span_length (ascii "GUARDED") c.guarded_span.result (omega arith)))

pub returns : goal.returns
returns c =
    let plain = plain_within (goal.at.returns c).After-put_span in
    omega
    (arith, plain, simp length-append at (ap length c.put_span-2.ensures), span_length (ascii "GUARDED") c.guarded_span.result (omega arith))
