-- The lines of a report (01, "Job file and `reachreport`"). Addresses and bytes are upper-case hexadecimal, counts decimal. Assumes nothing.
use Rattle.std.specs.Prelude.{List, [], ◌∷◌, ◌++◌, ℕ, ◌/◌, ◌%◌, take, Option, Some, None, Result, Ok, Err}
use Rattle.std.specs.Int.{from_bool}
use Rattle.lists.specs.Text.{ascii}
use Rattle.text.specs.Text.{hex_of, decimal_of}
use Rattle.cause.specs.Cause.{cause_at, slug_of}
use Rattle.records.specs.Packed.{address_of, cause_of, opcode_of, pointer_of, linear_of, walk_of, weight_of}
use Rattle.refusal.specs.declared.Refusal.{Refusal}
use Rattle.refusal.specs.Numbers.{number}
use Rattle.span.specs.declared.Span.{Span}
use Rattle.diagnosis.specs.declared.Summary.{Summary}

-- ── a line ──
-- a word, and the rest of its line after a space
infixr 35 ◌␣◌
abbrev pub ◌␣◌ : (word rest : List ℕ) → List ℕ
word ␣ rest = word ++ 0x20 ∷ rest

-- the last word, and the line's end
abbrev pub end : (word : List ℕ) → List ℕ
end word = word ++ 0x0A ∷ []

-- a line of a name and a number
abbrev pub number_line : (name : List ℕ) (n : ℕ) → List ℕ
number_line name n = name ␣ end (decimal_of n)

-- a byte, or `--` where there is none
abbrev pub held_word : Option ℕ → List ℕ
held_word None = ascii "--"
held_word (Some byte) = hex_of 2 byte

-- an answer that is a refusal: NONE and the number
abbrev pub none : (name : List ℕ) (number : ℕ) → List ℕ
none name number = name ␣ number_line (ascii "NONE") number

-- ── SPAN and GUARDED: low, high ──
abbrev pub span_line : (name : List ℕ) → Result Span Refusal → List ℕ
span_line name (Ok s) = name ␣ hex_of 4 s.low ␣ end (hex_of 4 s.high)
span_line name (Err e) = none name (number e)

-- ── DIAG: low, high, instructions, records; and R: address, opcode, slug, pointer or `--`, linear, walk, weight ──
-- the pointer is shown where it is present
abbrev pub pointer_word : (r : ℕ) → List ℕ
pointer_word r = held_word (pointer_of r)

abbrev pub flag_words : (r : ℕ) → List ℕ
flag_words r = hex_of 1 (from_bool (linear_of r)) ␣ hex_of 1 (from_bool (walk_of r)) ␣ end (decimal_of (weight_of r))

abbrev pub cause_words : (r : ℕ) → List ℕ
cause_words r = slug_of (cause_at (cause_of r)) ␣ pointer_word r ␣ flag_words r

abbrev pub record_line : (r : ℕ) → List ℕ
record_line r = ascii "R" ␣ hex_of 4 (address_of r) ␣ hex_of 2 (opcode_of r) ␣ cause_words r

abbrev pub count_words : Summary → List ℕ
count_words s = decimal_of s.count ␣ end (decimal_of s.records)

abbrev pub summary_line : Summary → List ℕ
summary_line s = ascii "DIAG" ␣ hex_of 4 s.low ␣ hex_of 4 s.high ␣ count_words s

-- a line for each, in their order
unfoldable pub lines : (ℕ → List ℕ) → List ℕ → List ℕ
lines line [] = []
lines line (r ∷ rs) = line r ++ lines line rs

-- where the slots hold these numbers
abbrev pub diag_lines : Result Summary Refusal → (slots : List ℕ) → List ℕ
diag_lines (Ok s) slots = summary_line s ++ lines record_line (take s.records slots)
diag_lines (Err e) slots = none (ascii "DIAG") (number e)

-- ── STORES: record count; and W: low, high ──
abbrev pub store_line : (r : ℕ) → List ℕ
store_line r = ascii "W" ␣ hex_of 4 (r / 65536) ␣ end (hex_of 4 (r % 65536))

abbrev pub stores_lines : Result ℕ Refusal → (slots : List ℕ) → List ℕ
stores_lines (Ok n) slots = number_line (ascii "STORES") n ++ lines store_line (take n slots)
stores_lines (Err e) slots = none (ascii "STORES") (number e)

-- ── JOB: a refused job's number, and nothing else ──
abbrev pub job_line : (number : ℕ) → List ℕ
job_line number = number_line (ascii "JOB") number
