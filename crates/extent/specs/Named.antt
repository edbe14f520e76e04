-- Which addresses are named: the entries inside, every byte of every instruction that counts, and what its absolute operand names by the reading
-- (01, "The plain span" and "The guarded span"). Assumes nothing.
use Rattle.std.specs.Prelude.{List, ℕ, ◌+◌, ◌≤◌, ◌<◌, T}
use Rattle.lists.specs.Lists.{◌∈◌}
use Rattle.image.specs.Image.{inside}
use Rattle.site.specs.declared.Site.{Site}
use Rattle.site.specs.declared.Reading.{Reading}
use Rattle.site.specs.Named.{names}

-- `Named reading load last site entries Counts x`: x is named. `site` says what stands at an address, and `Counts` whose instructions count.
module _ (reading : Reading) (load last : ℕ) (site : ℕ → Site) (entries : List ℕ) (Counts : ℕ → Type 0) where
  pub data Named (x : ℕ) : Type 0 where
    by_entry : x ∈ entries → T (inside load last x) → Named x
    by_byte : (a : ℕ) → Counts a → T (site a).whole → a ≤ x → x < a + (site a).len → Named x
    by_operand : (a : ℕ) → Counts a → T (names reading load last (site a) x) → Named x

-- low and high are the ends of the smallest range that covers all of P: the least and the greatest of P
pub record Range (P : ℕ → Type 0) (low high : ℕ) : Type 0 where
  pub low_in : P low
  pub high_in : P high
  pub covers : (x : ℕ) → P x → (low ≤ x) × (x ≤ high)
