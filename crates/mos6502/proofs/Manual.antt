-- What the rows say together, computed from them: 151 rows of 56 mnemonics; no opcode has two; 151 opcodes are defined and 105 are not. And a mode's length
-- is the length that the manual gives.
use mathlib.Core.Path.{◌≡◌, refl}
use mathlib.Core.Bool.{Bool, true, false, not, ◌||◌}
use mathlib.Core.List.{List, [], ◌∷◌, map}
use mathlib.Core.Option.{Option, none, some}
use Prim.Native.Nat.{ℕ}
use Prim.Native.String.{String}
use lib.Text.{eqt}
use lib.ListN.{length}
use Rattle.lists.specs.Lists.{Distinct, scan}
use Rattle.lists.proofs.Sets.{lone_distinct}
use Rattle.mos6502.specs.Manual.{Addressing, accumulator, implied, immediate, zeroPage, zeroPageX, zeroPageY, absolute, absoluteX, absoluteY, indirect, indirectX, indirectY, relative, Row, row, manual}
use Rattle.mos6502.specs.Class.{opcode, row_of, defined, bytes, mode_of, length_of, class_of, bytes_of, manual_class, manual_length}

pub rows_151 : length manual ≡ 151
unfolding manual
rows_151 = refl

pub defined_151 : length (scan defined 0 256) ≡ 151
unfolding manual defined scan
defined_151 = refl

pub undefined_105 : length (scan (λ op. not (defined op)) 0 256) ≡ 105
unfolding manual defined scan
undefined_105 = refl

-- ── no opcode has two rows ──
pub opcodes_distinct : Distinct (map opcode manual)
unfolding manual
opcodes_distinct = lone_distinct (map opcode manual) tt

-- ── the mnemonics ──
-- the mnemonics of the rows, each once
abbrev named : String → List String → Bool
named name [] = false
named name (other ∷ names) = eqt name other || named name names

abbrev add : Bool → String → List String → List String
add true name names = names
add false name names = name ∷ names

abbrev mnemonics : List Row → List String
mnemonics [] = []
mnemonics (row name a op ∷ rows) = let names = mnemonics rows in add (named name names) name names

pub mnemonics_56 : length (mnemonics manual) ≡ 56
unfolding manual
mnemonics_56 = refl

-- ── lengths ──
mode_length : (a : Addressing) → length_of (mode_of a) ≡ bytes a
mode_length accumulator = refl
mode_length implied = refl
mode_length immediate = refl
mode_length zeroPage = refl
mode_length zeroPageX = refl
mode_length zeroPageY = refl
mode_length absolute = refl
mode_length absoluteX = refl
mode_length absoluteY = refl
mode_length indirect = refl
mode_length indirectX = refl
mode_length indirectY = refl
mode_length relative = refl

-- the length of an opcode's class is the manual's, and 0 where the manual does not have it
pub length_of_class : (op : ℕ) → length_of (manual_class op).mode ≡ manual_length op
unfolding manual_class manual_length
length_of_class op = by (row_of manual op)
  where
    by : (r : Option Row) → length_of (class_of r).mode ≡ bytes_of r
    by none = refl
    by (some (row name a op)) = mode_length a
