-- `writes::writes` meets its contract: antt computes what the manual's instruction of each opcode writes, which is the table's.
use mathlib.Core.Path.{refl}
use Prim.Native.Nat.{◌<◌}
use borrow.Author.Rules.{rules}
use Rattle.mos6502.specs.Manual.{manual}
use Rattle.mos6502.proofs.Table.{entry}
use Rattle.writes.specs.declared.TheConstants.{WRITES}
use Rattle.writes.specs.Writes.{manual_writes}
use Rattle.writes.proofs.writes.Goals as goal

pub returns : goal.returns
unfolding manual_writes manual
returns c =
    let in_table : c.args.op < 256 = search rules in
    entry manual_writes _ WRITES 256 c.args.op refl in_table
