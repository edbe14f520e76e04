-- `mos6502::packed_class` meets its contract: antt computes the packed class of each opcode by the manual's rows, which is the table's.
use mathlib.Core.Path.{refl}
use borrow.Author.Rules.{rules}
use Prim.Native.Nat.{◌<◌}
use Rattle.mos6502.specs.declared.TheConstants.{CLASSES}
use Rattle.mos6502.specs.Manual.{manual}
use Rattle.mos6502.specs.Class.{manual_class}
use Rattle.mos6502.specs.Packed.{pack}
use Rattle.mos6502.proofs.Table.{entry}
use Rattle.mos6502.proofs.packed_class.Goals as goal

pub returns : goal.returns
unfolding manual_class manual
returns c =
    let in_table : c.args.op < 256 = search rules in
    entry (λ op. pack (manual_class op)) 0 CLASSES 256 c.args.op refl in_table
