-- The records of an address fill the slots that come next.
use mathlib.Core.Path.{◌≡◌, ◌∙◌}
use mathlib.Core.List.{List, ◌++◌}
use Prim.Native.Nat.{ℕ, ◌+◌}
use lib.ListN.{length, length-map}
use Rattle.lists.proofs.Filling.{Filled, filled_part}
use Rattle.cause.specs.declared.RefusalCause.{RefusalCause}
use Rattle.recorder.specs.declared.Facts.{Facts}
use Rattle.recorder.specs.Records.{records_with, Put}

pub filled_put : {all left before slots : List ℕ} {n : ℕ} → Filled all left before slots n → {a r : ℕ} {causes : List RefusalCause} {f : Facts}
    {rest slots' : List ℕ} → left ≡ records_with f a causes ++ rest → Put slots n a causes f r slots' → Filled all rest before slots' r
filled_put {n = n} filled {a} {r} {causes} {f} next put =
    let part = records_with f a causes in
    let end : r ≡ n + length part = put.next ∙ rw length-map in
    rw end (filled_part filled part next (put.after ∙ rw length-map))
