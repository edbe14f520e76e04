-- `mos6502::decode` meets its contract: what is packed in the table is unpacked again.
use Rattle.mos6502.proofs.Table.{unpacked}
use Rattle.mos6502.proofs.decode.Goals as goal

pub returns : goal.returns
returns c = unpacked c.packed_class-packed.ensures c.mode_at.ensures c.flow_at.ensures
