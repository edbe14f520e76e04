-- What the passes over the addresses met leave in the arrays, for all 256 zero-page bytes at once. Assumes nothing.
use Rattle.std.specs.Prelude.{◌≡◌, ℕ, Bool, false, List, length, slice_index_or}
use Rattle.resolver.specs.declared.Seen.{Seen}
use Rattle.resolver.specs.declared.Seen.TheVariants.{Never}
use Rattle.resolver.specs.Resolve.{seen_at}
use Rattle.pages.specs.declared.Habit.{Habit}
use Rattle.pages.specs.declared.Survey.{Survey}
use Rattle.pages.specs.Pages.{any_of, is_on, limit_over, habit_of}

-- is the byte z marked?
abbrev pub is_marked : (marks : List Bool) (z : ℕ) → Bool
is_marked marks z = slice_index_or marks z false

-- all of them: a byte is marked where an instruction with the opcode has it for its operand
pub record AllMarked (image : List ℕ) (load op : ℕ) (l : List ℕ) (marks : List Bool) : Type 0 where
  pub size : length marks ≡ 256
  pub each : (z : ℕ) → is_marked marks z ≡ any_of (is_on image load op z) l

-- all of them: the limit of a byte is what the pairs LDA, CMP say of it
pub record AllLimited (image : List ℕ) (load : ℕ) (met : ℕ → Bool) (l : List ℕ) (limits : List Seen) : Type 0 where
  pub size : length limits ≡ 256
  pub each : (z : ℕ) → seen_at limits z ≡ limit_over image load met z l Never

-- what a survey holds of the byte z
abbrev pub habit_in : Survey → (z : ℕ) → Habit
habit_in s z = record { up = is_marked s.ups z; down = is_marked s.downs z; limit = seen_at s.limits z; dex = s.dex }

-- a survey holds of each zero-page byte what the instructions l do with it
abbrev pub Surveyed : (image : List ℕ) (load : ℕ) (l : List ℕ) → Survey → Type 0
Surveyed image load l survey = (z : ℕ) → habit_in survey z ≡ habit_of image load l z
