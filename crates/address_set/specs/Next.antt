-- What `next_in` answers, and `low_from`, by which it looks into a byte; and what a `Members` has left. Assumes nothing.
use Rattle.std.specs.Prelude.{◌≡◌, true, false, List, ℕ, suc, ◌-◌, ◌≤◌, ◌<◌, Option, Some, None}
use Rattle.std.specs.Int.{bit_at}
use Rattle.lists.specs.Lists.{scan}
use Rattle.address_set.specs.declared.Members.{Members}
use Rattle.address_set.specs.Map.{has}

-- no address from `from` on and below `end` is a member
abbrev pub Free : (map : List ℕ) (from end : ℕ) → Type 0
Free map from end = (k : ℕ) → from ≤ k → k < end → has map k ≡ false

-- a is the least member from `from` to `last`
pub record Least (map : List ℕ) (from last a : ℕ) : Type 0 where
  pub low : from ≤ a
  pub high : a ≤ last
  pub member : has map a ≡ true
  pub free : Free map from a

-- the least member from `from` to `last`, or none
abbrev pub Next : (map : List ℕ) (from last : ℕ) → Option ℕ → Type 0
Next map from last (Some a) = Least map from last a
Next map from last None = Free map from (suc last)

-- r is the lowest place from s on where the byte x has the binary digit 1
pub record LowestAt (x s r : ℕ) : Type 0 where
  pub low : s ≤ r
  pub high : r < 8
  pub free : (j : ℕ) → s ≤ j → j < r → bit_at x j ≡ 0
  pub one : bit_at x r ≡ 1

-- that place, or none where the byte x has no 1 from s on
abbrev pub Lowest : (x s : ℕ) → Option ℕ → Type 0
Lowest x s (Some r) = LowestAt x s r
Lowest x s None = (j : ℕ) → s ≤ j → j < 8 → bit_at x j ≡ 0

-- the members that a `Members` still has to give, ascending
abbrev pub left : Members → List ℕ
left m = scan (has m.map.now) m.from (suc m.last - m.from)
