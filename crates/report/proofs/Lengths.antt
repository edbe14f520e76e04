-- A report has at most 262,144 bytes: every word has a greatest length, and there are at most as many lines as slots.
use mathlib.Core.List.{List, [], ◌∷◌, ◌++◌}
use mathlib.Core.Path.{◌≡◌}
use Prim.Native.Nat.{ℕ, ◌*◌, ◌+◌, ◌≤◌, zero-le}
use native.Mathlib.Nat.{mul-suc}
use native.Mathlib.Omega.{arith}
use lib.ListN.{length, take, length-append}
use lib.Seq.{length-take-le}
use Rattle.std.specs.Prelude.{Option, Some, None, Result, Ok, Err}
use Rattle.lists.specs.Text.{ascii}
use Rattle.text.proofs.Digits.{hex_length, decimal_fits, decimal_below}
use Rattle.cause.specs.Cause.{cause_at}
use Rattle.cause.proofs.Slugs.{slug_short}
use Rattle.records.specs.Packed.{cause_of, pointer_of, weight_of}
use Rattle.refusal.specs.declared.Refusal.{Refusal}
use Rattle.refusal.specs.Numbers as refusal
use Rattle.span.specs.declared.Span.{Span}
use Rattle.diagnosis.specs.declared.Summary.{Summary}
use Rattle.report.specs.Lines.{none, span_line, held_word, record_line, lines, diag_lines, store_line, stores_lines}
use Rattle.report.specs.Report.{Enough, EnoughStores}

-- ── a word, a line ──
pub held_length : (value : Option ℕ) → length (held_word value) ≡ 2
held_length None = omega arith
held_length (Some byte) = hex_length 2 byte

pub none_length : (name : List ℕ) (n : ℕ) → length (none name n) ≤ length name + 27
none_length name n = simp length-append (omega (arith, decimal_fits 20 n))

pub span_length : (name : List ℕ) (a : Result Span Refusal) → length name ≤ 7 → length (span_line name a) ≤ 40
span_length name (Ok s) h = simp (length-append, hex_length) (omega arith)
span_length name (Err e) h = omega (arith, none_length name (refusal.number e))

record_length : (r : ℕ) → length (record_line r) ≤ 39
record_length r =
    simp (length-append, hex_length)
    (omega (arith, held_length (pointer_of r), slug_short (cause_at (cause_of r)), decimal_below 20 5 (weight_of r) (omega arith) (omega arith)))

store_length : (r : ℕ) → length (store_line r) ≤ 12
store_length r = simp (length-append, hex_length) (omega arith)

-- ── a line for each ──
lines_length : (line : ℕ → List ℕ) (most : ℕ) → ((r : ℕ) → length (line r) ≤ most) → (rs : List ℕ) → length (lines line rs) ≤ most * length rs
unfolding lines
lines_length line most h [] = zero-le
lines_length line most h (r ∷ rs) = rw (mul-suc most (length rs), length-append) (omega (arith, h r, lines_length line most h rs))

pub diag_length : (d : Result Summary Refusal) (slots : List ℕ) → Enough d slots → length (diag_lines d slots) ≤ 100 + 39 * length slots
diag_length (Ok s) slots enough =
    simp (length-append, hex_length)
    (omega (
      arith,
      decimal_fits 20 s.count,
      decimal_fits 20 s.records,
      lines_length record_line 39 record_length (take s.records slots),
      length-take-le s.records slots enough,
    ))
diag_length (Err e) slots enough = omega (arith, none_length (ascii "DIAG") (refusal.number e))

pub stores_length : (w : Result ℕ Refusal) (slots : List ℕ) → EnoughStores w slots → length (stores_lines w slots) ≤ 100 + 12 * length slots
stores_length (Ok n) slots enough =
    simp length-append (omega (arith, decimal_fits 20 n, lines_length store_line 12 store_length (take n slots), length-take-le n slots enough))
stores_length (Err e) slots enough = omega (arith, none_length (ascii "STORES") (refusal.number e))

-- ── the report ──
pub report_length : (p g : Result Span Refusal) (d : Result Summary Refusal) (ds : List ℕ) (w : Result ℕ Refusal) (ws : List ℕ)
    → Enough d ds → length ds ≡ 5122 → EnoughStores w ws → length ws ≡ 4096
    → length (span_line (ascii "SPAN") p ++ span_line (ascii "GUARDED") g ++ diag_lines d ds ++ stores_lines w ws) ≤ 262144
report_length p g d ds w ws de dl we wl =
    simp length-append
    (omega
    (arith, span_length (ascii "SPAN") p (omega arith), span_length (ascii "GUARDED") g (omega arith), diag_length d ds de, stores_length w ws we))
