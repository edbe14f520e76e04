-- `bench_cases::put_counted` meets its contract: both lines are short.
use mathlib.Core.Path.{ap}
use lib.ListN.{length, length-append}
use Rattle.std.proofs.Common.{arith}
use Rattle.text.proofs.Digits.{decimal_fits}
use Rattle.report.proofs.Lengths.{span_length}
use Rattle.bench_cases.proofs.put_counted.Goals as goal

pub put_span-requires : goal.put_span-requires
put_span-requires c = (omega arith, omega (arith, span_length c.args.call.now c.args.answer c.requires.0))

pub put_number-requires : goal.put_number-requires
put_number-requires c =
    let span = simp length-append at (ap length c.put_span.ensures) in
    let line = span_length c.args.call.now c.args.answer c.requires.0 in
    (omega arith, simp length-append (omega (arith, span, line, decimal_fits 20 c.in-Ok.s.count)))

pub returns-in-Ok : goal.returns-in-Ok
returns-in-Ok c =
    let span = simp length-append at (ap length c.put_span.ensures) in
    let line = span_length c.args.call.now c.args.answer c.requires.0 in
    omega (arith, span, line, simp length-append at (ap length c.put_number.ensures), decimal_fits 20 c.in-Ok.s.count)

pub returns-in_default : goal.returns-in_default
returns-in_default c =
    omega (arith, simp length-append at (ap length c.put_span.ensures), span_length c.args.call.now c.args.answer c.requires.0)
