-- Which addresses are reachable, said without a walk. The instruction set is a function, `step`, and the image a test, `inside`.
-- Assumes nothing.
use Rattle.std.specs.Prelude.{◌↔◌, Bool, List, [], ◌∷◌, ℕ, T}
use Rattle.lists.specs.Lists.{◌∈◌, Ascending}

-- What the instruction at an address does to a path that meets it: the path ends; the site is refused; the path goes on at n; the path goes on at n,
-- and t is put by.
pub data Step : Type 0 where
  ends : Step
  refuses : Step
  goes : (n : ℕ) → Step
  forks : (n t : ℕ) → Step

-- where the paths through a step go on
abbrev pub follows : Step → List ℕ
follows ends = []
follows refuses = []
follows (goes n) = n ∷ []
follows (forks n t) = n ∷ t ∷ []

module _ (step : ℕ → Step) (inside : ℕ → Bool) where
  -- `Reach step inside entries a`: a is reachable from the entries. An entry that is inside is; and so is what follows a reachable address, if it is inside.
  pub data Reach (entries : List ℕ) : ℕ → Type 0 where
    entered : {a : ℕ} → a ∈ entries → T (inside a) → Reach entries a
    followed : {a b : ℕ} → Reach entries a → b ∈ follows (step a) → T (inside b) → Reach entries b

  -- `l` is the set of the reachable addresses, as its ascending list. So `length l` is how many they are.
  pub record ReachList (entries l : List ℕ) : Type 0 where
    pub ascending : Ascending l
    pub exact : (a : ℕ) → a ∈ l ↔ Reach entries a
