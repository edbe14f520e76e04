-- `replay::put_zero_page_byte` meets its contract: a letter and two times two digits, each with the byte after it.
use mathlib.Core.Path.{ap}
use lib.ListN.{length, length-append}
use Rattle.std.proofs.Common.{arith}
use Rattle.text.proofs.Digits.{hex_length}
use Rattle.replay.proofs.put_zero_page_byte.Goals as goal

pub put_hex-requires : goal.put_hex-requires
put_hex-requires c =
    let name = simp length-append at (ap length c.put_word.ensures) in
    (omega arith, simp (length-append, hex_length) (omega (arith, name)))

pub put_hex-requires-in-Some : goal.put_hex-requires-in-Some
put_hex-requires-in-Some c =
    let name = simp length-append at (ap length c.put_word.ensures) in
    let address = simp (length-append, hex_length) at (ap length c.put_hex.ensures) in
    (omega arith, simp (length-append, hex_length) (omega (arith, name, address)))

pub returns-in-Some : goal.returns-in-Some
returns-in-Some c =
    let name = simp length-append at (ap length c.put_word.ensures) in
    let address = simp (length-append, hex_length) at (ap length c.put_hex.ensures) in
    omega (arith, name, address, simp (length-append, hex_length) at (ap length c.put_hex-in-Some.ensures))
