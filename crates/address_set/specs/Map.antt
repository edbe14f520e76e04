-- A set of addresses kept as a map of 65,536 bits in 8,192 bytes (01, "What must change shape"). A map is the list of its bytes.
-- Assumes nothing.
use Rattle.std.specs.Prelude.{◌≡◌, Bool, true, not, List, ℕ, suc, ◌-◌, ◌/◌, ◌%◌, ◌≤◌, T, eqb, length, get_or}
use Rattle.std.specs.Int.{bit_at}
use Rattle.lists.specs.Lists.{scan}

-- is a one of the map's members? its bit is in the byte a / 8, at the place a % 8
unfoldable pub has : (map : List ℕ) (a : ℕ) → Bool
has map a = eqb (bit_at (get_or map (a / 8) 0) (a % 8)) 1

-- the members, ascending
unfoldable pub members : (map : List ℕ) → List ℕ
members map = scan (has map) 0 65536

-- those from load to last, ascending
abbrev pub members_in : (load last : ℕ) (map : List ℕ) → List ℕ
members_in load last map = scan (has map) load (suc last - load)

-- every member lies from first to last
pub record Within (first last : ℕ) (map : List ℕ) : Type 0 where
  pub each : (a : ℕ) → T (has map a) → (first ≤ a) × (a ≤ last)

-- `after` is `map` with the member a and no other change, and `new` says whether a was no member before
pub record Inserted (map : List ℕ) (a : ℕ) (after : List ℕ) (new : Bool) : Type 0 where
  pub size : length after ≡ length map
  pub here : has after a ≡ true
  pub other : (b : ℕ) → ¬ (b ≡ a) → has after b ≡ has map b
  pub fresh : new ≡ not (has map a)
