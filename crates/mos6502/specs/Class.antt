-- What the rows say of an opcode: its addressing mode, its length and where control goes on (01, "Opcode classes").
-- Assumes nothing.
use Rattle.std.specs.Prelude.{Bool, true, false, cond, ◌||◌, List, [], ◌∷◌, ℕ, eqb}
use Rattle.std.proofs.Math.Option.{Option, none, some}
use Prim.Native.String.{String}
use lib.Text.{eqt}
use Rattle.mos6502.specs.declared.Mode.{Mode}
use Rattle.mos6502.specs.declared.Mode.TheVariants.{Imp, Imm, Zp, ZpX, ZpY, Izx, Izy, Rel, Abs, AbX, AbY, Ind, Illegal}
use Rattle.mos6502.specs.declared.Flow.{Flow}
use Rattle.mos6502.specs.declared.Flow.TheVariants.{Next, Jump, Call, Branch, Stop, Refuse}
use Rattle.mos6502.specs.declared.Decoded.{Decoded}
use Rattle.mos6502.specs.Manual.{Addressing, accumulator, implied, immediate, zeroPage, zeroPageX, zeroPageY, absolute, absoluteX, absoluteY, indirect, indirectX, indirectY, relative, Row, row, manual}

-- ── the row of an opcode ──
abbrev pub opcode : Row → ℕ
opcode (row name addressing op) = op

-- the first row that has it, if there is one
abbrev pub row_of : List Row → ℕ → Option Row
row_of [] op = none
row_of (r ∷ rows) op = cond (eqb (opcode r) op) (some r) (row_of rows op)

-- is there one?
abbrev pub found : Option Row → Bool
found none = false
found (some r) = true

-- the manual has the opcode
unfoldable pub defined : ℕ → Bool
defined op = found (row_of manual op)

-- ── addressing ──
-- how many bytes an instruction has, by its addressing mode
abbrev pub bytes : Addressing → ℕ
bytes accumulator = 1
bytes implied = 1
bytes immediate = 2
bytes zeroPage = 2
bytes zeroPageX = 2
bytes zeroPageY = 2
bytes indirectX = 2
bytes indirectY = 2
bytes relative = 2
bytes absolute = 3
bytes absoluteX = 3
bytes absoluteY = 3
bytes indirect = 3

-- the code's name of an addressing mode: it keeps implied and accumulator as one
abbrev pub mode_of : Addressing → Mode
mode_of accumulator = Imp
mode_of implied = Imp
mode_of immediate = Imm
mode_of zeroPage = Zp
mode_of zeroPageX = ZpX
mode_of zeroPageY = ZpY
mode_of indirectX = Izx
mode_of indirectY = Izy
mode_of relative = Rel
mode_of absolute = Abs
mode_of absoluteX = AbX
mode_of absoluteY = AbY
mode_of indirect = Ind

-- the length that goes with a mode of the code; an undefined opcode has length 0
abbrev pub length_of : Mode → ℕ
length_of Imp = bytes implied
length_of Imm = bytes immediate
length_of Zp = bytes zeroPage
length_of ZpX = bytes zeroPageX
length_of ZpY = bytes zeroPageY
length_of Izx = bytes indirectX
length_of Izy = bytes indirectY
length_of Rel = bytes relative
length_of Abs = bytes absolute
length_of AbX = bytes absoluteX
length_of AbY = bytes absoluteY
length_of Ind = bytes indirect
length_of Illegal = 0

-- ── flow ──
-- JSR calls, JMP absolute jumps, RTI and RTS stop, the relative ones branch, BRK and JMP indirect refuse, all others go on
abbrev pub flow_of : (mnemonic : String) → Addressing → Flow
flow_of name relative = Branch
flow_of name indirect = Refuse
flow_of name absolute = cond (eqt name "JSR") Call (cond (eqt name "JMP") Jump Next)
flow_of name implied = cond (eqt name "RTI" || eqt name "RTS") Stop (cond (eqt name "BRK") Refuse Next)
flow_of name accumulator = Next
flow_of name immediate = Next
flow_of name zeroPage = Next
flow_of name zeroPageX = Next
flow_of name zeroPageY = Next
flow_of name absoluteX = Next
flow_of name absoluteY = Next
flow_of name indirectX = Next
flow_of name indirectY = Next

-- ── the class of an opcode ──
-- an opcode without a row is undefined, and refuses
abbrev pub class_of : Option Row → Decoded
class_of none = record { mode = Illegal; flow = Refuse }
class_of (some (row name addressing op)) = record { mode = mode_of addressing; flow = flow_of name addressing }

-- the length of an opcode's instruction; 0 where it is undefined
abbrev pub bytes_of : Option Row → ℕ
bytes_of none = 0
bytes_of (some (row name addressing op)) = bytes addressing

-- the class that the manual gives an opcode
unfoldable pub manual_class : ℕ → Decoded
manual_class op = class_of (row_of manual op)

-- the length that the manual gives an opcode
unfoldable pub manual_length : ℕ → ℕ
manual_length op = bytes_of (row_of manual op)
