-- Lists of numbers read as sets: membership, no repeats, ascending order; the numbers of a run that pass a test; an array read as a stack.
-- Assumes nothing.
use Rattle.std.specs.Prelude.{Bool, true, false, ◌||◌, ℕ, zero, suc, ◌<◌, eqb, length, get_or}
use mathlib.Core.List.{List, [], ◌∷◌, Memᴰ}

-- `a ∈ l`: a is one of l's elements. (A proof is a place of a in l.)
infix 50 ◌∈◌
abbrev pub ◌∈◌ : ℕ → List ℕ → Type 0
a ∈ l = Memᴰ a l

-- the same as a test
abbrev pub elem : ℕ → List ℕ → Bool
elem a [] = false
elem a (x ∷ xs) = eqb a x || elem a xs

-- no element stands twice
abbrev pub Distinct : List ℕ → Type 0
Distinct [] = Unit {0}
Distinct (x ∷ xs) = ¬ (x ∈ xs) × Distinct xs

-- each element is below all that follow it
abbrev pub Ascending : List ℕ → Type 0
Ascending [] = Unit {0}
Ascending (x ∷ xs) = ((y : ℕ) → y ∈ xs → x < y) × Ascending xs

-- a before l, if the test passed
abbrev pub keep : Bool → ℕ → List ℕ → List ℕ
keep true a l = a ∷ l
keep false a l = l

-- the numbers that pass the test f among the n from a on, ascending
unfoldable pub scan : (f : ℕ → Bool) (a n : ℕ) → List ℕ
scan f a zero = []
scan f a (suc n) = keep (f a) a (scan f (suc a) n)

-- the first n elements of l, the latest first: what an array l and a count n hold as a stack
abbrev pub stack : (l : List ℕ) (n : ℕ) → List ℕ
stack l zero = []
stack l (suc n) = get_or l n 0 ∷ stack l n

-- the elements of l, the last first
abbrev pub last_first : List ℕ → List ℕ
last_first l = stack l (length l)
