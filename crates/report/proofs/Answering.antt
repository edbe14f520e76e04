-- No answer has more records than were lent slots, and the lent lists keep their lengths.
use mathlib.Core.Path.{◌≡◌, ap, ◌∙◌}
use mathlib.Core.List.{List, ◌++◌}
use Prim.Native.Nat.{ℕ, ◌≤◌}
use native.Mathlib.Omega.{arith}
use lib.ListN.{length, drop, length-append, length-drop}
use Rattle.std.specs.Prelude.{Result, Ok, Err}
use Rattle.mos6502.specs.Class.{manual_class}
use Rattle.writes.specs.Writes.{manual_writes}
use Rattle.refusal.specs.declared.Refusal.{Refusal}
use Rattle.refusal.specs.declared.Refusal.TheVariants.{ImageEmpty, NoEntries, PastTop, Refused, Unbounded, Short, Full}
use Rattle.diagnosis.specs.declared.Summary.{Summary}
use Rattle.diagnosis.specs.Answers as diagnosis
use Rattle.stores.specs.Answers as stores
use Rattle.report.specs.Report.{Enough, EnoughStores}

filled_size : (records slots slots' : List ℕ) → length records ≤ length slots → slots' ≡ records ++ drop (length records) slots → length slots' ≡ length slots
filled_size records slots slots' h e = ap length e ∙ omega (arith, length-append records (drop (length records) slots), length-drop (length records) slots)

module _ (image : List ℕ) (load : ℕ) (entries slots slots' : List ℕ) where
  pub refusals_kept : (d : Result Summary Refusal) → diagnosis.Answers manual_class image load entries slots slots' d
      → (length slots' ≡ length slots) × Enough d slots'
  refusals_kept (Ok s) p =
      let size = filled_size p.0 slots slots' p.4 p.5 in
      (size, omega (arith, p.3, p.4))
  refusals_kept (Err ImageEmpty) p = (ap length p.1, tt)
  refusals_kept (Err NoEntries) p = (ap length p.2, tt)
  refusals_kept (Err PastTop) p = (ap length p.3, tt)
  refusals_kept (Err Refused) p = absurd p
  refusals_kept (Err Unbounded) p = absurd p
  refusals_kept (Err (Short n)) p = (ap length p.4, tt)
  refusals_kept (Err Full) p = (ap length p.2, tt)

  pub spans_kept : (w : Result ℕ Refusal) → stores.Answers manual_class manual_writes image load entries slots slots' w
      → (length slots' ≡ length slots) × EnoughStores w slots'
  spans_kept (Ok n) p =
      let records = stores.records_in manual_class manual_writes image load entries p.0 in
      let size = filled_size records slots slots' (omega (arith, p.3, p.4)) (p.5 ∙ ap (λ (k : ℕ). records ++ drop k slots) p.3) in
      (size, omega (arith, p.4))
  spans_kept (Err ImageEmpty) p = (ap length p.1, tt)
  spans_kept (Err NoEntries) p = (ap length p.2, tt)
  spans_kept (Err PastTop) p = (ap length p.3, tt)
  spans_kept (Err Refused) p = (ap length p.3, tt)
  spans_kept (Err Unbounded) p = (ap length p.3, tt)
  spans_kept (Err (Short n)) p = (ap length p.5, tt)
  spans_kept (Err Full) p = (ap length p.2, tt)
