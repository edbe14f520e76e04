-- What `write_extent` answers, and what it leaves in the lent list (01, "Numbered outcomes" and "Tracker and stores"). No walk is named but in 7. Assumes nothing.
use Rattle.std.specs.Prelude.{◌≡◌, Bool, true, false, List, ◌++◌, ℕ, ◌≤◌, ◌<◌, length, drop, Result, Ok, Err}
use Rattle.refusal.specs.declared.Refusal.{Refusal}
use Rattle.refusal.specs.declared.Refusal.TheVariants.{ImageEmpty, NoEntries, PastTop, Refused, Unbounded, Short, Full}
use Rattle.refusal.specs.Numbers.{needed}
use Rattle.mos6502.specs.declared.Decoded.{Decoded}
use Rattle.writes.specs.declared.Wr.{Wr}
use Rattle.image.specs.Image.{last}
use Rattle.opening.specs.Opening.{Ready}
use Rattle.walk.specs.declared.Rule.TheVariants as rule
use Rattle.walk.specs.Possible.{Possible, RunsFull}
use Rattle.stores.specs.Stores.{store_at, unbounded, records_over}

-- the number of records: those written, or those needed; 0 in any other refusal
abbrev pub count_of : Result ℕ Refusal → ℕ
count_of (Ok n) = n
count_of (Err r) = needed r

module _ (class : ℕ → Decoded) (writes : ℕ → Wr) (image : List ℕ) (load : ℕ) (entries : List ℕ) where
  -- the walk of the stores can be carried through, and l are the reachable instructions, ascending
  abbrev pub Reaches : (l : List ℕ) → Type 0
  Reaches l = Possible class rule.Stores image load entries l

  abbrev pub is_unbounded : (l : List ℕ) → Bool
  is_unbounded l = unbounded (store_at class writes image load (last image load) l) l

  abbrev pub records_in : (l : List ℕ) → List ℕ
  records_in l = records_over (store_at class writes image load (last image load) l) l

  -- Each answer, and the slots before and after. A refusal leaves every slot as it was; an answer writes slots 0 to n - 1 and no other.
  abbrev pub Answers : (slots slots' : List ℕ) → Result ℕ Refusal → Type 0
  Answers slots slots' (Err ImageEmpty) = (length image ≡ 0) × (slots' ≡ slots)
  Answers slots slots' (Err NoEntries) = (0 < length image) × (length entries ≡ 0) × (slots' ≡ slots)
  Answers slots slots' (Err PastTop) = (0 < length image) × (0 < length entries) × (0xFFFF < last image load) × (slots' ≡ slots)
  Answers slots slots' (Err Refused) =
      Ready image load entries × ¬ ((l : List ℕ) × Reaches l) × ¬ RunsFull class rule.Stores image load entries × (slots' ≡ slots)
  Answers slots slots' (Err Full) = Ready image load entries × RunsFull class rule.Stores image load entries × (slots' ≡ slots)
  Answers slots slots' (Err Unbounded) = (l : List ℕ) × Reaches l × (is_unbounded l ≡ true) × (slots' ≡ slots)
  Answers slots slots' (Err (Short needed)) =
      (l : List ℕ) × Reaches l × (is_unbounded l ≡ false) × (needed ≡ length (records_in l)) × (length slots < needed) × (slots' ≡ slots)
  Answers slots slots' (Ok n) =
      (l : List ℕ) × Reaches l × (is_unbounded l ≡ false) × (n ≡ length (records_in l)) × (n ≤ length slots) × (slots' ≡ records_in l ++ drop n slots)
