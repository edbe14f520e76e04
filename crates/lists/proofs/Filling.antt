-- Slots that are filled from the front, part by part: the first n hold what is written, and the others are as they were before.
use mathlib.Core.Path.{◌≡◌, refl, sym, ap, ◌∙◌}
use mathlib.Core.List.{List, [], ◌++◌, append-nil, append_assoc}
use Prim.Native.Nat.{ℕ, ◌+◌, ◌≤◌}
use native.Mathlib.Omega.{arith}
use lib.ListN.{length, take, drop, length-append, length-drop}
use lib.Seq.{take_at, drop-append-add, drop-drop}

-- of `all`, the first n are written, and `left` is not
pub record Filled (all left before slots : List ℕ) (n : ℕ) : Type 0 where
  pub written : List ℕ
  pub order : written ++ left ≡ all
  pub count : length written ≡ n
  pub holds : slots ≡ written ++ drop n before

pub filled_none : (all slots : List ℕ) → Filled all all slots slots 0
filled_none all slots = record { written = []; order = refl; count = refl; holds = refl }

module _ {all left before slots : List ℕ} {n : ℕ} (filled : Filled all left before slots n) where
  pub filled_length : length all ≤ length before → length slots ≡ length before
  filled_length fits =
      omega (arith, simp length-append at (ap length filled.order), simp (length-append, length-drop) at (ap length filled.holds))

  -- there is room for what is left
  pub filled_room : length all ≤ length before → n + length left ≤ length slots
  filled_room fits = omega (arith, filled_length fits, simp length-append at (ap length filled.order))

  -- nothing is left
  module _ (none : left ≡ []) where
    whole : filled.written ≡ all
    whole = sym (append-nil filled.written) ∙ rw none at filled.order

    pub filled_count : n ≡ length all
    filled_count = sym filled.count ∙ ap length whole

    pub filled_all : slots ≡ all ++ drop (length all) before
    filled_all = filled.holds ∙ rw (← filled.count, whole)

  -- the part that comes next is written
  pub filled_part : (part : List ℕ) {rest slots' : List ℕ} → left ≡ part ++ rest → slots' ≡ take n slots ++ part ++ drop (n + length part) slots
      → Filled all rest before slots' (n + length part)
  filled_part part {rest} next put =
      let front : take n slots ≡ filled.written = rw filled.holds (take_at _ _ n filled.count) in
      let back : drop (n + length part) slots ≡ drop (n + length part) before = rw (filled.holds, ← filled.count, drop-append-add, drop-drop) in
      record {
        written = filled.written ++ part;
        order = append_assoc filled.written part rest ∙ rw next at filled.order;
        count = length-append filled.written part ∙ omega arith;
        holds = put ∙ rw (front, back);
      }
