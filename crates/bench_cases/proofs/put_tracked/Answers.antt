-- `bench_cases::put_tracked` meets its contract: three words of two bytes, each with the byte after it.
use mathlib.Core.Path.{ap}
use lib.ListN.{length, length-append}
use Rattle.std.proofs.Common.{arith}
use Rattle.text.proofs.Digits.{hex_length}
use Rattle.report.proofs.Lengths.{held_length}
use Rattle.bench_cases.proofs.put_tracked.Goals as goal

pub put_hex-requires : goal.put_hex-requires
put_hex-requires c =
    let name = simp length-append at (ap length c.put_word.ensures) in
    (omega arith, simp (length-append, hex_length) (omega (arith, name)))

pub put_held-requires : goal.put_held-requires
put_held-requires c =
    let name = simp length-append at (ap length c.put_word.ensures) in
    let byte = simp (length-append, hex_length) at (ap length c.put_hex.ensures) in
    (omega arith, simp (length-append, held_length) (omega (arith, name, byte)))

pub returns : goal.returns
returns c =
    let name = simp length-append at (ap length c.put_word.ensures) in
    let byte = simp (length-append, hex_length) at (ap length c.put_hex.ensures) in
    omega (arith, name, byte, simp (length-append, held_length) at (ap length c.put_held.ensures))
