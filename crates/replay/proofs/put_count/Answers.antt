-- `replay::put_count` meets its contract: the line of a number is short.
use mathlib.Core.Path.{ap}
use lib.ListN.{length, length-append}
use Rattle.std.proofs.Common.{arith}
use Rattle.text.proofs.Digits.{decimal_fits}
use Rattle.replay.proofs.put_count.Goals as goal

pub put_number-requires : goal.put_number-requires
put_number-requires c = (omega arith, simp length-append (omega (arith, decimal_fits 20 c.in-Ok.s.count)))

pub returns-in-Ok : goal.returns-in-Ok
returns-in-Ok c = omega (arith, simp length-append at (ap length c.put_number.ensures), decimal_fits 20 c.in-Ok.s.count)
