-- Four walks over one small image, computed: one for each end. Of the entries the last is taken first.
use mathlib.Core.Path.{refl}
use mathlib.Core.Bool.{Bool}
use mathlib.Core.List.{[], ◌∷◌}
use Prim.Native.Nat.{ℕ, zero, suc}
use lib.Dec.{ltb}
use Rattle.reach.specs.Reach.{Step, ends, refuses, goes, forks}
use Rattle.reach.specs.Walk.{finished, refused, spent, full, turn, after, Walk}
use Rattle.reach.proofs.Turn.{after_runs}

-- 0 goes to 1; 1 forks to 2 and puts 3 by; 2 goes back to 0; at 3 the path ends; 4 refuses; 5 forks to 6 and puts 0 by; 6 goes to
-- 8, which is outside
step : ℕ → Step
step zero = goes 1
step (suc zero) = forks 2 3
step (suc (suc zero)) = goes 0
step (suc (suc (suc zero))) = ends
step (suc (suc (suc (suc zero)))) = refuses
step (suc (suc (suc (suc (suc zero))))) = forks 6 0
step (suc (suc (suc (suc (suc (suc n)))))) = goes 8

inside : ℕ → Bool
inside a = ltb a 8

-- 9 is outside; 5 and 6; then 0, which was put by, 1, and 2, which comes back to 0; then 3, which was put by; the entry 0 was met before
finishes : Walk step inside 6 6 (0 ∷ 5 ∷ 9 ∷ []) finished (3 ∷ 2 ∷ 1 ∷ 0 ∷ 6 ∷ 5 ∷ [])
unfolding step inside turn after
finishes = after_runs 20 refl

-- all from 0 is met, then 4
is_refused : Walk step inside 6 6 (4 ∷ 0 ∷ []) (refused 4) (4 ∷ 3 ∷ 2 ∷ 1 ∷ 0 ∷ [])
unfolding step inside turn after
is_refused = after_runs 20 refl

-- the first walk with a limit of five: 3 is the sixth
is_spent : Walk step inside 5 5 (0 ∷ 5 ∷ 9 ∷ []) (spent 3) (3 ∷ 2 ∷ 1 ∷ 0 ∷ 6 ∷ 5 ∷ [])
unfolding step inside turn after
is_spent = after_runs 20 refl

-- with no capacity, 1 cannot put 3 by
is_full_lem : Walk step inside 6 0 (0 ∷ []) (full 1) (1 ∷ 0 ∷ [])
unfolding step inside turn after
is_full_lem = after_runs 20 refl
