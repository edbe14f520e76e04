-- Demand 1, of the calls that write to a lent list: a refusal writes nothing to it, and a list too short is refused with the number of records it needs.
-- That each call ends with a numbered answer, with no test asked of the caller, is the contract of each. Assumes nothing.
use Rattle.std.specs.Prelude.{◌≡◌, List, ℕ, ◌≤◌, ◌<◌, length, Result}
use Rattle.refusal.specs.declared.Refusal.{Refusal}
use Rattle.refusal.specs.Numbers.{number_of}
use Rattle.mos6502.specs.Class.{manual_class}
use Rattle.writes.specs.Writes.{manual_writes}
use Rattle.diagnosis.specs.declared.Summary.{Summary}
use Rattle.diagnosis.specs.Answers as diagnosis
use Rattle.stores.specs.Answers as stores

-- A call with its answers, the number of records that each tells, and its statement on the slots before and after.
module _ {A : Type 0} (count_of : Result A Refusal → ℕ) (Answers : (slots slots' : List ℕ) → Result A Refusal → Type 0) where
  pub record Lent : Type 0 where
    -- a refusal leaves every slot as it was
    pub unwritten : (slots slots' : List ℕ) (r : Result A Refusal) → Answers slots slots' r → ¬ (number_of r ≡ 0) → slots' ≡ slots
    -- 6 tells a number that the list falls short of; and any list that does not is answered with just that many records
    pub needed : (slots slots' : List ℕ) (r : Result A Refusal) → Answers slots slots' r → number_of r ≡ 6
        → (length slots < count_of r)
        × ((lent lent' : List ℕ) (t : Result A Refusal) → Answers lent lent' t → count_of r ≤ length lent → (number_of t ≡ 0) × (count_of t ≡ count_of r))

-- the number of a diagnosis's records
abbrev pub count_of : Result Summary Refusal → ℕ
count_of r = (diagnosis.values_of r).records

-- what demand 1 promises of the diagnosis, and of the stores
abbrev pub OfDiagnosis : Type 0
OfDiagnosis = (image : List ℕ) (load : ℕ) (entries : List ℕ) → Lent count_of (diagnosis.Answers manual_class image load entries)

abbrev pub OfStores : Type 0
OfStores = (image : List ℕ) (load : ℕ) (entries : List ℕ) → Lent stores.count_of (stores.Answers manual_class manual_writes image load entries)
