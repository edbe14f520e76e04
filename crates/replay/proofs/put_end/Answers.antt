-- `replay::put_end` meets its contract: both kinds of line are short.
use mathlib.Core.Path.{ap}
use lib.ListN.{length, length-append}
use Rattle.std.proofs.Common.{arith}
use Rattle.text.proofs.Digits.{hex_length, decimal_fits}
use Rattle.replay.proofs.put_end.Goals as goal

pub put_hex-requires : goal.put_hex-requires
put_hex-requires c =
    let name = simp length-append at (ap length c.put_word.ensures) in
    (omega arith, simp (length-append, hex_length) (omega (arith, name)))

pub put_none-requires : goal.put_none-requires
put_none-requires c = (omega arith, simp length-append (omega (arith, decimal_fits 20 c.number.result)))

pub returns-in-Ok : goal.returns-in-Ok
returns-in-Ok c =
    let name = simp length-append at (ap length c.put_word.ensures) in
    omega (arith, name, simp (length-append, hex_length) at (ap length c.put_hex.ensures))

pub returns-in-Err : goal.returns-in-Err
returns-in-Err c = omega (arith, simp length-append at (ap length c.put_none.ensures), decimal_fits 20 c.number.result)
