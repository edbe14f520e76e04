-- `replay::put_registers` meets its contract: a name of five letters and three times two places, each with the byte after it.
use mathlib.Core.Path.{ap}
use lib.ListN.{length, length-append}
use Rattle.std.proofs.Common.{arith}
use Rattle.report.proofs.Lengths.{held_length}
use Rattle.replay.proofs.put_registers.Goals as goal

pub put_held-requires : goal.put_held-requires
put_held-requires c =
    let name = simp length-append at (ap length c.put_word.ensures) in
    (omega arith, simp (length-append, held_length) (omega (arith, name)))

pub put_held-requires-2 : goal.put_held-requires-2
put_held-requires-2 c =
    let name = simp length-append at (ap length c.put_word.ensures) in
    let a = simp (length-append, held_length) at (ap length c.put_held.ensures) in
    (omega arith, simp (length-append, held_length) (omega (arith, name, a)))

pub put_held-requires-3 : goal.put_held-requires-3
put_held-requires-3 c =
    let name = simp length-append at (ap length c.put_word.ensures) in
    let a = simp (length-append, held_length) at (ap length c.put_held.ensures) in
    let x = simp (length-append, held_length) at (ap length c.put_held-2.ensures) in
    (omega arith, simp (length-append, held_length) (omega (arith, name, a, x)))

pub returns : goal.returns
returns c =
    let name = simp length-append at (ap length c.put_word.ensures) in
    let a = simp (length-append, held_length) at (ap length c.put_held.ensures) in
    let x = simp (length-append, held_length) at (ap length c.put_held-2.ensures) in
    omega (arith, name, a, x, simp (length-append, held_length) at (ap length c.put_held-3.ensures))
