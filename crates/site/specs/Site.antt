-- What stands at one address: the instruction, whether all its bytes are inside, its next address, its target and its causes of refusal.
-- The instruction set is a function, `class`. The memory is three things: the byte at an address, the last address that holds one, and the test `inside`.
-- Assumes nothing.
use Rattle.std.specs.Prelude.{Bool, true, false, cond, ◌&&◌, List, [], ◌∷◌, ℕ, suc, ◌+◌, ◌*◌, ◌%◌, eqb, leb, ltb, Option, Some, None}
use Rattle.mos6502.specs.declared.Mode.{Mode}
use Rattle.mos6502.specs.declared.Mode.TheVariants.{Imp, Imm, Zp, ZpX, ZpY, Izx, Izy, Rel, Abs, AbX, AbY, Ind, Illegal}
use Rattle.mos6502.specs.declared.Flow.{Flow}
use Rattle.mos6502.specs.declared.Flow.TheVariants.{Next, Jump, Call, Branch, Stop, Refuse}
use Rattle.mos6502.specs.declared.Decoded.{Decoded}
use Rattle.mos6502.specs.Class.{length_of}
use Rattle.image.specs.Image.{inside, byte_at, branch_target}
use Rattle.cause.specs.declared.RefusalCause.{RefusalCause}
use Rattle.cause.specs.declared.RefusalCause.TheVariants.{IllegalOpcode, Brk, JmpIndirect, IndirectIndexedY, IndirectIndexedX, OperandOffEnd, RanOffEnd}
use Rattle.site.specs.declared.Causes.{Causes}
use Rattle.site.specs.declared.Causes.TheVariants.{Clear, One, Two}
use Rattle.site.specs.declared.Site.{Site}

-- ── the instruction's bytes ──
-- an instruction of n bytes at a is whole if it is defined (an undefined one has length 0) and its bytes end by last
abbrev pub whole_at : (last a n : ℕ) → Bool
whole_at last a n = ltb 0 n && leb (a + n) (suc last)

-- what follows the opcode, as one number: nothing, a byte, or a word with its low byte first
abbrev pub operand_at : (byte : ℕ → ℕ) (a n : ℕ) → ℕ
operand_at byte a n = cond (eqb n 2) (byte (a + 1)) (cond (eqb n 3) (byte (a + 1) + 256 * byte (a + 2)) 0)

-- ── where control goes on ──
-- the next address, if it is inside
abbrev pub next_at : (inside : ℕ → Bool) (a n : ℕ) → Option ℕ
next_at inside a n = cond (inside (a + n)) (Some (a + n)) None

-- a branch's offset is its operand, one byte
abbrev pub branch_from : (next : Option ℕ) → (operand : ℕ) → Option ℕ
branch_from (Some next) operand = Some (branch_target next (operand % 256))
branch_from None operand = None

-- the target: of JMP and JSR the word, of a branch the next address plus the signed offset, modulo 65,536
abbrev pub target_of : Flow → (operand : ℕ) → (next : Option ℕ) → Option ℕ
target_of Jump operand next = Some operand
target_of Call operand next = Some operand
target_of Branch operand next = branch_from next operand
target_of Next operand next = None
target_of Stop operand next = None
target_of Refuse operand next = None

-- ── causes ──
abbrev pub list_of : Causes → List RefusalCause
list_of Clear = []
list_of (One c) = c ∷ []
list_of (Two c d) = c ∷ d ∷ []

-- (zp),Y and (zp,X) have a pointer that nobody knows here
abbrev pub pointer_cause : Mode → Causes
pointer_cause Izy = One IndirectIndexedY
pointer_cause Izx = One IndirectIndexedX
pointer_cause Imp = Clear
pointer_cause Imm = Clear
pointer_cause Zp = Clear
pointer_cause ZpX = Clear
pointer_cause ZpY = Clear
pointer_cause Rel = Clear
pointer_cause Abs = Clear
pointer_cause AbX = Clear
pointer_cause AbY = Clear
pointer_cause Ind = Clear
pointer_cause Illegal = Clear

-- a call, a branch or a plain instruction needs a next address
abbrev pub ran_off : (next : Option ℕ) → Causes
ran_off (Some next) = Clear
ran_off None = One RanOffEnd

-- RTS, RTI and JMP may end on last; of those that refuse, opcode 0 is BRK, and the others are indirect jumps
abbrev pub flow_cause : Flow → (opcode : ℕ) → (next : Option ℕ) → Causes
flow_cause Stop opcode next = Clear
flow_cause Jump opcode next = Clear
flow_cause Refuse opcode next = One (cond (eqb opcode 0) Brk JmpIndirect)
flow_cause Next opcode next = ran_off next
flow_cause Call opcode next = ran_off next
flow_cause Branch opcode next = ran_off next

-- the first causes, then the others
abbrev pub also : Causes → Causes → Causes
also Clear d = d
also (One c) Clear = One c
also (One c) (One d) = Two c d
also (One c) (Two d e) = Two c d
also (Two b c) d = Two b c

-- ── the site ──
-- an instruction that is not whole has one cause: it is undefined, or its operand bytes are past last
abbrev pub broken_site : (opcode : ℕ) → Decoded → Site
broken_site opcode d =
    record {
      opcode = opcode;
      mode = d.mode;
      flow = d.flow;
      len = length_of d.mode;
      whole = false;
      operand = 0;
      next = None;
      target = None;
      causes = One (cond (eqb (length_of d.mode) 0) IllegalOpcode OperandOffEnd);
    }

abbrev pub whole_site : (opcode operand : ℕ) (next : Option ℕ) → Decoded → Site
whole_site opcode operand next d =
    record {
      opcode = opcode;
      mode = d.mode;
      flow = d.flow;
      len = length_of d.mode;
      whole = true;
      operand = operand;
      next = next;
      target = target_of d.flow operand next;
      causes = also (pointer_cause d.mode) (flow_cause d.flow opcode next);
    }

module _ (class : ℕ → Decoded) (byte : ℕ → ℕ) (last : ℕ) (inside : ℕ → Bool) where
  unfoldable pub site_at : (a : ℕ) → Site
  site_at a =
      let opcode = byte a in
      let d = class opcode in
      let n = length_of d.mode in
      cond (whole_at last a n) (whole_site opcode (operand_at byte a n) (next_at inside a n) d) (broken_site opcode d)

-- the site at an address of an image
abbrev pub site_in : (class : ℕ → Decoded) (image : List ℕ) (load last : ℕ) → ℕ → Site
site_in class image load last = site_at class (byte_at image load) last (inside load last)
