-- A line for each record, one after the other: the line of the next record stands before the lines that are left, and there is room for it.
use mathlib.Core.Path.{◌≡◌, ap}
use mathlib.Core.List.{List, [], ◌++◌}
use Prim.Native.Nat.{ℕ, ◌+◌, ◌≤◌, ◌<◌}
use native.Mathlib.Numerals.{add-one}
use native.Mathlib.Omega.{arith}
use lib.ListN.{length, get_or, drop, length-append, drop_of_length-le}
use lib.Seq.{drop-cons}
use Rattle.text.specs.Text.{Room}
use Rattle.report.specs.Lines.{lines}

module _ (line : ℕ → List ℕ) (records : List ℕ) (i : ℕ) where
  pub lines_next : i < length records → lines line (drop i records) ≡ line (get_or records i 0) ++ lines line (drop (i + 1) records)
  unfolding lines
  lines_next h = rw (drop-cons records i 0 h, add-one)

  pub lines_end : length records ≤ i → lines line (drop i records) ≡ []
  unfolding lines
  lines_end h = rw (drop_of_length-le records h)

-- there is room for the next line, where there was room for all of them
pub line_room : (line : ℕ → List ℕ) (records items start : List ℕ) (i n : ℕ) → items ++ lines line (drop i records) ≡ start ++ lines line records
    → Room start (lines line records) n → i < length records → Room items (line (get_or records i 0)) n
line_room line records items start i n e room h =
    let first = line (get_or records i 0) in
    let rest = lines line (drop (i + 1) records) in
    omega (
      arith,
      ap length (rw (lines_next line records i h) at e),
      length-append items (first ++ rest),
      length-append first rest,
      length-append start (lines line records),
    )
