-- The numbers of the refusals (01, "Numbered outcomes"). Assumes nothing.
use Rattle.std.specs.Prelude.{ℕ, Result, Ok, Err}
use Rattle.refusal.specs.declared.Refusal.{Refusal}
use Rattle.refusal.specs.declared.Refusal.TheVariants.{ImageEmpty, NoEntries, PastTop, Refused, Unbounded, Short, Full}

-- the number that 01 gives a refusal
abbrev pub number : Refusal → ℕ
number ImageEmpty = 1
number NoEntries = 2
number PastTop = 3
number Refused = 4
number Unbounded = 5
number (Short n) = 6
number Full = 7

-- how many records there are where the slots are too few, and 0 for every other refusal
abbrev pub needed : Refusal → ℕ
needed ImageEmpty = 0
needed NoEntries = 0
needed PastTop = 0
needed Refused = 0
needed Unbounded = 0
needed (Short n) = n
needed Full = 0

-- the number of an outcome: 0 where there is an answer
abbrev pub number_of : {A : Type 0} → Result A Refusal → ℕ
number_of (Ok answer) = 0
number_of (Err refusal) = number refusal
