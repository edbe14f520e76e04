-- `recorder::put` meets its contract: the causes are none, one or two, and each is written into the next slot.
use mathlib.Core.Path.{◌≡◌, refl, ◌∙◌}
use mathlib.Core.List.{List}
use Prim.Native.Nat.{ℕ, ◌+◌, ◌≤◌}
use native.Mathlib.Numerals.{add-one}
use lib.ListN.{length, length-map}
use lib.Seq.{sets, sets-eq}
use Rattle.cause.specs.declared.RefusalCause.{RefusalCause}
use Rattle.records.specs.Packed.{packed}
use Rattle.recorder.specs.declared.Facts.{Facts}
use Rattle.recorder.specs.Records.{fields_with, records_with, Put}
use Rattle.recorder.proofs.put.Goals as goal

-- records stored one after the other, from slot n on
by_stores : {slots slots' : List ℕ} {n a r : ℕ} (causes : List RefusalCause) {f : Facts} → n + length causes ≤ length slots → r ≡ n + length causes
    → slots' ≡ sets slots n (records_with f a causes) → Put slots n a causes f r slots'
by_stores {slots} {n = n} {a = a} causes {f} room next stores =
    let size = length-map causes (λ (c : RefusalCause). packed (fields_with f (record { address = a; cause = c }))) in
    record { next = next; after = stores ∙ rw size at (sets-eq (records_with f a causes) slots n (rw size room)) }

pub returns-in-One : goal.returns-in-One
returns-in-One c =
    let told = c.in-One.is in
    rw (told, c.record_of.ensures) (by_stores _ (rw told at c.requires) refl refl)

pub returns-in-Two : goal.returns-in-Two
returns-in-Two c =
    let told = c.in-Two.is in
    rw (told, c.record_of-in-Two.ensures, c.record_of-in-Two-2.ensures, add-one) (by_stores _ (rw told at c.requires) refl refl)
