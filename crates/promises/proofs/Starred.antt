-- Every starred case holds: its walk ends within twenty turns, and the answer computed from the definitions is the one in the table.
use mathlib.Core.Path.{◌≡◌, refl, ap, subst}
use mathlib.Core.Bool.{true}
use mathlib.Core.List.{List, [], ◌∷◌, ◌++◌, map}
use Prim.Native.Nat.{ℕ}
use native.Mathlib.Omega.{arith}
use lib.ListN.{length, drop, length-map}
use Rattle.std.proofs.Common.{Result, Ok}
use Rattle.refusal.specs.declared.Refusal.{Refusal}
use Rattle.image.specs.declared.Bounds.{Bounds}
use Rattle.lists.specs.Lists.{scan}
use Rattle.lists.proofs.Tests.{passed}
use Rattle.mos6502.specs.Manual.{manual}
use Rattle.mos6502.specs.Class.{manual_class}
use Rattle.writes.specs.Writes.{manual_writes}
use Rattle.image.specs.Image.{last, inside, byte_at, branch_target}
use Rattle.records.specs.declared.Fields.{Fields}
use Rattle.records.specs.Packed.{packed}
use Rattle.opening.specs.Opening.{Ready, opening_of, all_inside}
use Rattle.opening.proofs.First.{Opens, ready, opened_as, all_inside_mem}
use Rattle.tracker.specs.Track.{track, nothing, tracked, value_in}
use Rattle.resolver.specs.Resolve.{resolve}
use Rattle.recorder.specs.Recorded.{pairs_over}
use Rattle.site.specs.Site.{site_at}
use Rattle.reach.specs.Walk.{finished, refused, spent, full, Turn, turns, halts, turn, after}
use Rattle.reach.proofs.Turn.{after_runs}
use Rattle.walk.specs.Step.{step_by}
use Rattle.walk.specs.Walked.{step_in}
use Rattle.extent.specs.Extent.{over_entries, over_sites}
use Rattle.span.specs.Computed as span
use Rattle.span.proofs.Computed as span_proofs
use Rattle.diagnosis.specs.declared.Summary.{Summary}
use Rattle.diagnosis.specs.Answers as diagnosis
use Rattle.diagnosis.specs.Computed.{turns_of, weight_after, records_from, summary_from}
use Rattle.diagnosis.proofs.Computed.{AllEnd, computed}
use Rattle.pages.specs.Pages.{any_of, limit_over}
use Rattle.stores.specs.Stores.{records_over}
use Rattle.stores.specs.Answers as store_answers
use Rattle.stores.specs.Computed as stores
use Rattle.stores.proofs.Computed as store_proofs
use Rattle.promises.specs.Starred.{Case, spans, branches, diagnoses, tracks, storing, Holds, AllHold, starred}

-- what is computed of a diagnosis: its walk has finished, and its records and summary are these
abbrev Diagnosed : (image : List ℕ) (load : ℕ) (entries : List ℕ) → (low high count : ℕ) → (records : List Fields) → Turn → Type 0
Diagnosed image load entries low high count records (halts finished met) =
    (records_from manual_class image load entries 20 finished met ≡ map packed records)
    × (summary_from manual_class image load entries 20 finished met ≡ record { low = low; high = high; count = count; records = length records })
Diagnosed image load entries low high count records (halts (refused pc) met) = ⊥
Diagnosed image load entries low high count records (halts (spent pc) met) = ⊥
Diagnosed image load entries low high count records (halts (full pc) met) = ⊥
Diagnosed image load entries low high count records (turns s) = ⊥

-- what is computed of store spans: the walk has ended, and the answer and the records are these
abbrev Stored : (image : List ℕ) (load : ℕ) (entries : List ℕ) → Result ℕ Refusal → (records : List ℕ) → Turn → Type 0
Stored image load entries answer records (halts e met) =
    (stores.records_from manual_class manual_writes image load entries e met ≡ records) × (stores.answer_of manual_class manual_writes image load entries e met ≡ answer)
Stored image load entries answer records (turns s) = ⊥

-- what is computed before any walk: the first tests are passed, and all entries are inside
abbrev Opened : (image : List ℕ) (load : ℕ) (entries : List ℕ) → Type 0
Opened image load entries =
    (opening_of image load entries ≡ Ok (record { load = load; last = last image load })) × (all_inside load (last image load) entries ≡ true)

-- what is computed of a case
abbrev Computes : Case → Type 0
Computes (spans image load entries reading answer) =
    span_proofs.Ended (span.turns_of manual_class reading image load entries 20) × (span.span_after manual_class reading image load entries 20 ≡ answer)
Computes (branches next offset target) = branch_target next offset ≡ target
Computes (diagnoses image load entries low high count records) =
    Opened image load entries × AllEnd manual_class image load 20 entries × Diagnosed image load entries low high count records (turns_of manual_class image load entries 20)
Computes (tracks code z known) = value_in (tracked code) z ≡ known
Computes (storing image load entries answer records) =
    Opened image load entries × Stored image load entries answer records (stores.turns_of manual_class manual_writes image load entries 20)

abbrev AllCompute : List Case → Type 0
AllCompute [] = Unit {0}
AllCompute (c ∷ cases) = Computes c × AllCompute cases

finished≢full : (pc : ℕ) → finished ≡ full pc → ⊥
finished≢full pc q = let z : ◌≡◌ {A = ℕ} 0 1 = cc in omega arith

-- the records and the summary by other names
written : (image : List ℕ) (load : ℕ) (entries slots : List ℕ) {found records : List ℕ} {n : ℕ} {s summary : Summary}
    → found ≡ records → length records ≡ n → s ≡ summary
    → diagnosis.Answers manual_class image load entries slots (found ++ drop (length found) slots) (Ok s)
    → diagnosis.Answers manual_class image load entries slots (records ++ drop n slots) (Ok summary)
written image load entries slots {records} {n} f l e a =
    subst (λ (x : Summary). diagnosis.Answers manual_class image load entries slots (records ++ drop n slots) (Ok x)) e (rw (f, l) at a)

-- the records and the answer by other names
put_down : (image : List ℕ) (load : ℕ) (entries slots : List ℕ) {found records : List ℕ} {a answer : Result ℕ Refusal} → found ≡ records → a ≡ answer
    → store_answers.Answers manual_class manual_writes image load entries slots (found ++ drop (length found) slots) a
    → store_answers.Answers manual_class manual_writes image load entries slots (records ++ drop (length records) slots) answer
put_down image load entries slots {records = records} f e a =
    subst (λ (x : Result ℕ Refusal). store_answers.Answers manual_class manual_writes image load entries slots (records ++ drop (length records) slots) x) e (rw f at a)

is_ready : (image : List ℕ) (load : ℕ) (entries : List ℕ) → Opened image load entries → Ready image load entries
is_ready image load entries o = by _ (opened_as image load entries refl o.0)
  where
    by : (b : Bounds) → Opens image load entries (Ok b) → Ready image load entries
    by b (ready r) = r

holds : (c : Case) → Computes c → Holds c
holds (spans image load entries reading answer) s = rw s.1 at (span_proofs.computed manual_class reading image load entries 20 s.0)
holds (branches next offset target) e = e
holds (diagnoses image load entries low high count records) s = by_turn (turns_of manual_class image load entries 20) refl s.2
  where
    by_turn : (t : Turn) → turns_of manual_class image load entries 20 ≡ t → Diagnosed image load entries low high count records t
        → Holds (diagnoses image load entries low high count records)
    by_turn (halts finished met) q d slots h =
        written image load entries slots d.0 (length-map records packed) d.1
        (computed manual_class image load entries 20 (is_ready image load entries s.0)
        (all_inside_mem load (last image load) entries (passed s.0.1)) (after_runs 20 q) finished≢full s.1 slots
        (rw (ap length d.0, length-map records packed) h))
    by_turn (halts (refused pc) met) q d slots h = absurd d
    by_turn (halts (spent pc) met) q d slots h = absurd d
    by_turn (halts (full pc) met) q d slots h = absurd d
    by_turn (turns s) q d slots h = absurd d
holds (tracks code z known) e = e
holds (storing image load entries answer records) s = by_turn (stores.turns_of manual_class manual_writes image load entries 20) refl s.1
  where
    by_turn : (t : Turn) → stores.turns_of manual_class manual_writes image load entries 20 ≡ t → Stored image load entries answer records t
        → Holds (storing image load entries answer records)
    by_turn (halts e met) q d slots h =
        put_down image load entries slots d.0 d.1
        (store_proofs.computed manual_class manual_writes image load entries (is_ready image load entries s.0)
        (all_inside_mem load (last image load) entries (passed s.0.1)) (after_runs 20 q) slots (rw d.0 h))
    by_turn (turns s) q d slots h = absurd d

hold : (cases : List Case) → AllCompute cases → AllHold cases
hold [] s = tt
hold (c ∷ cases) s = (holds c s.0, hold cases s.1)

computes : AllCompute starred
unfolding manual manual_class inside byte_at branch_target site_at turn after step_by step_in over_entries over_sites scan packed pairs_over resolve weight_after track nothing manual_writes any_of limit_over records_over
computes = ((tt, refl), ((tt, refl), ((tt, refl), ((tt, refl), ((tt, refl), ((tt, refl), ((tt, refl), ((tt, refl), ((tt, refl), ((tt, refl), ((tt, refl), ((tt, refl), (refl, ((tt, refl), (((refl, refl), (tt, tt), (refl, refl)), (((refl, refl), (tt, tt), (refl, refl)), (((refl, refl), (tt, tt), (refl, refl)), (refl, (refl, (((refl, refl), (refl, refl)), (((refl, refl), (refl, refl)), (((refl, refl), (refl, refl)), (((refl, refl), (refl, refl)), (((refl, refl), (refl, refl)), (((refl, refl), (refl, refl)), tt)))))))))))))))))))))))))

pub all_hold : AllHold starred
all_hold = hold starred computes
