-- What a refusal prints as. Assumes nothing.
use Rattle.std.specs.Prelude.{List, ◌++◌, ℕ, codes, decimal}
use Rattle.refusal.specs.declared.Refusal.{Refusal}
use Rattle.refusal.specs.declared.Refusal.TheVariants.{ImageEmpty, NoEntries, PastTop, Refused, Unbounded, Short, Full}

-- one sentence for each, and the number of records where the slots are too few
abbrev pub sentence : Refusal → List ℕ
sentence ImageEmpty = codes "the image has no byte"
sentence NoEntries = codes "there is no entry"
sentence PastTop = codes "the image ends past FFFF"
sentence Refused = codes "the walk of the image is refused"
sentence Unbounded = codes "a store has no bounded span"
sentence (Short n) = codes "the records are " ++ decimal n ++ codes ", and the slots are too few"
sentence Full = codes "too many addresses are pending"
