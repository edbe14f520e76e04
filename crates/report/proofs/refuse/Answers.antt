-- `report::refuse` meets its contract: a line of JOB and a number is shorter than 32 bytes.
use mathlib.Core.List.{[], ◌∷◌}
use native.Mathlib.Omega.{arith}
use lib.ListN.{length-append}
use Rattle.text.specs.Text.{decimal_of}
use Rattle.text.proofs.Digits.{decimal_fits}
use Rattle.report.proofs.refuse.Goals as goal

pub put_number-requires : goal.put_number-requires
put_number-requires c =
    let n = c.args.number in
    (omega arith, rw c.new-line.ensures (omega (arith, decimal_fits 20 n, length-append (decimal_of n) (0x0A ∷ []))))
