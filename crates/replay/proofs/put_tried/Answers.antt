-- `replay::put_tried` meets its contract: a name of at most five letters and two numbers of at most twenty digits, each with the byte after it.
use mathlib.Core.Path.{ap}
use lib.ListN.{length, length-append}
use Rattle.std.proofs.Common.{arith}
use Rattle.text.proofs.Digits.{decimal_fits}
use Rattle.replay.proofs.put_tried.Goals as goal

pub put_decimal-requires : goal.put_decimal-requires
put_decimal-requires c =
    let name = simp length-append at (ap length c.put_word.ensures) in
    (omega arith, simp length-append (omega (arith, name, decimal_fits 20 c.args.tried.records)))

pub put_decimal-requires-then-is_shown : goal.put_decimal-requires-then-is_shown
put_decimal-requires-then-is_shown c =
    let name = simp length-append at (ap length c.put_word.ensures) in
    let records = simp length-append at (ap length c.put_decimal.ensures) in
    (omega arith, simp length-append (omega (arith, name, records, decimal_fits 20 c.args.tried.records, decimal_fits 20 c.args.tried.unlike)))

pub returns-then-is_shown : goal.returns-then-is_shown
returns-then-is_shown c =
    let name = simp length-append at (ap length c.put_word.ensures) in
    let records = simp length-append at (ap length c.put_decimal.ensures) in
    let unlike = simp length-append at (ap length c.put_decimal-then-is_shown.ensures) in
    omega (arith, name, records, unlike, decimal_fits 20 c.args.tried.records, decimal_fits 20 c.args.tried.unlike)
