-- What each turn of `report::put_records` keeps: with the lines of the records that are left behind it, the text is what it is to be.
use mathlib.Core.Path.{◌≡◌}
use mathlib.Core.List.{◌++◌}
use lib.ListN.{drop}
use Rattle.report.specs.Lines.{record_line, lines}
use Rattle.report.proofs.put_records.Given as goal

abbrev pub invariant-loop-r : goal.invariant-loop-r
invariant-loop-r g l = l.out.items ++ lines record_line (drop l.r-index l.records) ≡ l.initial.out.items ++ lines record_line l.records
