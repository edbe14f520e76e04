-- Demand 1 holds: each refusal's statement says that the slots are as they were; and what is found rests on image, load address and entries, not on the list.
use mathlib.Core.Path.{◌≡◌, refl, sym, ap, ◌∙◌}
use mathlib.Core.List.{List}
use Prim.Native.Nat.{ℕ, ◌≤◌, ◌<◌}
use native.Mathlib.Nat.{le_refl}
use native.Mathlib.Omega.{arith}
use lib.ListN.{length}
use Rattle.std.proofs.Common.{Result, Ok, Err}
use Rattle.refusal.specs.declared.Refusal.{Refusal}
use Rattle.refusal.specs.declared.Refusal.TheVariants.{ImageEmpty, NoEntries, PastTop, Refused, Unbounded, Short, Full}
use Rattle.refusal.specs.Numbers.{number_of}
use Rattle.mos6502.specs.Class.{manual_class}
use Rattle.writes.specs.Writes.{manual_writes}
use Rattle.reach.proofs.Ends.{never_full}
use Rattle.diagnosis.specs.declared.Summary.{Summary}
use Rattle.diagnosis.specs.Answers as diagnosis
use Rattle.diagnosis.proofs.Unique.{finds_unique}
use Rattle.stores.specs.Answers as stores
use Rattle.stores.proofs.Exact.{answered_iff}
use Rattle.stores.proofs.Unique.{one_list}
use Rattle.promises.specs.Demand1.{count_of, OfDiagnosis, OfStores}

-- ── the diagnosis ──
module _ (image : List ℕ) (load : ℕ) (entries : List ℕ) where
  abbrev Diagnosed : (slots slots' : List ℕ) → Result Summary Refusal → Type 0
  Diagnosed slots slots' r = diagnosis.Answers manual_class image load entries slots slots' r

  diagnosis_unwritten : (slots slots' : List ℕ) (r : Result Summary Refusal) → Diagnosed slots slots' r → ¬ (number_of r ≡ 0) → slots' ≡ slots
  diagnosis_unwritten slots slots' (Err ImageEmpty) p n = p.1
  diagnosis_unwritten slots slots' (Err NoEntries) p n = p.2
  diagnosis_unwritten slots slots' (Err PastTop) p n = p.3
  diagnosis_unwritten slots slots' (Err Refused) p n = absurd p
  diagnosis_unwritten slots slots' (Err Unbounded) p n = absurd p
  diagnosis_unwritten slots slots' (Err Full) p n = p.2
  diagnosis_unwritten slots slots' (Err (Short needed)) p n = p.4
  diagnosis_unwritten slots slots' (Ok s) p n = absurd (n refl)

  -- a list that is long enough for what is found
  diagnosis_long : (records : List ℕ) → diagnosis.Finds manual_class image load entries records → (lent lent' : List ℕ) (t : Result Summary Refusal) → Diagnosed lent lent' t
      → length records ≤ length lent → (number_of t ≡ 0) × (count_of t ≡ length records)
  diagnosis_long records f lent lent' (Err ImageEmpty) p h = absurd (omega (arith, f.ready))
  diagnosis_long records f lent lent' (Err NoEntries) p h = absurd (omega (arith, f.ready))
  diagnosis_long records f lent lent' (Err PastTop) p h = absurd (omega (arith, f.ready))
  diagnosis_long records f lent lent' (Err Refused) p h = absurd p
  diagnosis_long records f lent lent' (Err Unbounded) p h = absurd p
  diagnosis_long records f lent lent' (Err Full) p h = absurd (never_full entries (le_refl 4096) p.1.2 p.1.0 refl)
  diagnosis_long records f lent lent' (Err (Short needed)) p h =
      absurd (omega (arith, p.2, p.3, ap length (finds_unique manual_class image load entries f p.1)))
  diagnosis_long records f lent lent' (Ok s) p h = (refl, p.3 ∙ ap length (finds_unique manual_class image load entries p.1 f))

  diagnosis_needed : (slots slots' : List ℕ) (r : Result Summary Refusal) → Diagnosed slots slots' r → number_of r ≡ 6
      → (length slots < count_of r)
      × ((lent lent' : List ℕ) (t : Result Summary Refusal) → Diagnosed lent lent' t → count_of r ≤ length lent → (number_of t ≡ 0) × (count_of t ≡ count_of r))
  diagnosis_needed slots slots' (Err (Short needed)) p e = (
    p.3,
    λ lent lent' t q h. let d = diagnosis_long p.0 p.1 lent lent' t q (rw p.2 at h) in (d.0, d.1 ∙ sym p.2),
  )
  diagnosis_needed slots slots' (Err ImageEmpty) p e = absurd (omega arith)
  diagnosis_needed slots slots' (Err NoEntries) p e = absurd (omega arith)
  diagnosis_needed slots slots' (Err PastTop) p e = absurd (omega arith)
  diagnosis_needed slots slots' (Err Refused) p e = absurd p
  diagnosis_needed slots slots' (Err Unbounded) p e = absurd p
  diagnosis_needed slots slots' (Err Full) p e = absurd (omega arith)
  diagnosis_needed slots slots' (Ok s) p e = absurd (omega arith)

pub demand_1_diagnosis : OfDiagnosis
demand_1_diagnosis image load entries =
    record { unwritten = diagnosis_unwritten image load entries; needed = diagnosis_needed image load entries }

-- ── the stores ──
module _ (image : List ℕ) (load : ℕ) (entries : List ℕ) where
  abbrev Stored : (slots slots' : List ℕ) → Result ℕ Refusal → Type 0
  Stored slots slots' r = stores.Answers manual_class manual_writes image load entries slots slots' r

  stores_unwritten : (slots slots' : List ℕ) (r : Result ℕ Refusal) → Stored slots slots' r → ¬ (number_of r ≡ 0) → slots' ≡ slots
  stores_unwritten slots slots' (Err ImageEmpty) p n = p.1
  stores_unwritten slots slots' (Err NoEntries) p n = p.2
  stores_unwritten slots slots' (Err PastTop) p n = p.3
  stores_unwritten slots slots' (Err Refused) p n = p.3
  stores_unwritten slots slots' (Err Unbounded) p n = p.3
  stores_unwritten slots slots' (Err Full) p n = p.2
  stores_unwritten slots slots' (Err (Short needed)) p n = p.5
  stores_unwritten slots slots' (Ok m) p n = absurd (n refl)

  stores_count : (lent lent' : List ℕ) (t : Result ℕ Refusal) → Stored lent lent' t → number_of t ≡ 0 → (l : List ℕ)
      → stores.Reaches manual_class manual_writes image load entries l → stores.count_of t ≡ length (stores.records_in manual_class manual_writes image load entries l)
  stores_count lent lent' (Ok n) p e l d =
      p.3 ∙ ap (λ k. length (stores.records_in manual_class manual_writes image load entries k)) (one_list manual_class manual_writes image load entries p.1 d)
  stores_count lent lent' (Err ImageEmpty) p e l d = absurd (omega arith)
  stores_count lent lent' (Err NoEntries) p e l d = absurd (omega arith)
  stores_count lent lent' (Err PastTop) p e l d = absurd (omega arith)
  stores_count lent lent' (Err Refused) p e l d = absurd (omega arith)
  stores_count lent lent' (Err Unbounded) p e l d = absurd (omega arith)
  stores_count lent lent' (Err Full) p e l d = absurd (omega arith)
  stores_count lent lent' (Err (Short n)) p e l d = absurd (omega arith)

  stores_needed : (slots slots' : List ℕ) (r : Result ℕ Refusal) → Stored slots slots' r → number_of r ≡ 6
      → (length slots < stores.count_of r)
      × ((lent lent' : List ℕ) (t : Result ℕ Refusal) → Stored lent lent' t → stores.count_of r ≤ length lent
      → (number_of t ≡ 0) × (stores.count_of t ≡ stores.count_of r))
  stores_needed slots slots' (Err (Short needed)) p e = (
    p.4,
    λ lent lent' t q h.
        let zero = (answered_iff manual_class manual_writes image load entries lent lent' t q).1 (p.0, p.1, p.2, rw p.3 at h) in
        (zero, stores_count lent lent' t q zero p.0 p.1 ∙ sym p.3),
  )
  stores_needed slots slots' (Err ImageEmpty) p e = absurd (omega arith)
  stores_needed slots slots' (Err NoEntries) p e = absurd (omega arith)
  stores_needed slots slots' (Err PastTop) p e = absurd (omega arith)
  stores_needed slots slots' (Err Refused) p e = absurd (omega arith)
  stores_needed slots slots' (Err Unbounded) p e = absurd (omega arith)
  stores_needed slots slots' (Err Full) p e = absurd (omega arith)
  stores_needed slots slots' (Ok n) p e = absurd (omega arith)

pub demand_1_stores : OfStores
demand_1_stores image load entries = record { unwritten = stores_unwritten image load entries; needed = stores_needed image load entries }
