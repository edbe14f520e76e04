-- Which instructions write to memory outside zero page and the stack, and how wide, from the manual's rows (01, "Tracker and stores"). Assumes nothing.
use Rattle.std.specs.Prelude.{Bool, cond, ◌||◌, ℕ}
use Rattle.std.proofs.Math.Option.{Option, none, some}
use Prim.Native.String.{String}
use lib.Text.{eqt}
use Rattle.mos6502.specs.Manual.{Addressing, accumulator, implied, immediate, zeroPage, zeroPageX, zeroPageY, absolute, absoluteX, absoluteY, indirect, indirectX, indirectY, relative, Row, row, manual}
use Rattle.mos6502.specs.Class.{row_of}
use Rattle.writes.specs.declared.Wr.{Wr}
use Rattle.writes.specs.declared.Wr.TheVariants.{None, One, Page, IndY, IndX}

-- the stores, and the instructions that read, modify and write
abbrev pub is_writer : (mnemonic : String) → Bool
is_writer name =
    eqt name "STA" || eqt name "STX" || eqt name "STY" || eqt name "ASL" || eqt name "LSR" || eqt name "ROL" || eqt name "ROR" || eqt name "INC" || eqt name "DEC"

-- how wide a writer writes: at an absolute operand one byte, at an indexed one a page, through a pointer wherever it points
abbrev pub width_of : Addressing → Wr
width_of absolute = One
width_of absoluteX = Page
width_of absoluteY = Page
width_of indirectY = IndY
width_of indirectX = IndX
width_of accumulator = None
width_of implied = None
width_of immediate = None
width_of zeroPage = None
width_of zeroPageX = None
width_of zeroPageY = None
width_of indirect = None
width_of relative = None

-- what the instruction of a row writes; an opcode without a row writes nothing
abbrev pub written_by : Option Row → Wr
written_by none = None
written_by (some (row name addressing op)) = cond (is_writer name) (width_of addressing) None

-- what the instruction of an opcode writes
unfoldable pub manual_writes : ℕ → Wr
manual_writes op = written_by (row_of manual op)
