-- Records written over a list of structs one by one: each goes into its own place.
use mathlib.Core.Path.{◌≡◌, refl, ap}
use mathlib.Core.List.{List, [], ◌∷◌}
use Prim.Native.Nat.{ℕ, zero, suc, ◌+◌, ◌<◌}
use native.Mathlib.Nat.{not-suc-le-zero, le_of_suc-le-suc}
use native.Mathlib.Omega.{arith}
use lib.ListN.{length, get_or, set, take}
use Rattle.refusals.specs.declared.ReachRefusal.{ReachRefusal}
use Rattle.refusals.specs.Refusals.{refusal_of, over}

one_more : (records : List ℕ) (out : List ReachRefusal) (i : ℕ) → i < length records → i < length out
    → set (over (take i records) out) i (refusal_of (get_or records i 0)) ≡ over (take (suc i) records) out
one_more [] out i h k = absurd (not-suc-le-zero h)
one_more (r ∷ records) [] i h k = absurd (not-suc-le-zero k)
one_more (r ∷ records) (y ∷ out) zero h k = refl
one_more (r ∷ records) (y ∷ out) (suc i) h k = ap {B = List ReachRefusal} (λ l. refusal_of r ∷ l) (one_more records out i (le_of_suc-le-suc h) (le_of_suc-le-suc k))

-- the record at i is written after those before it
pub over_next : (records : List ℕ) (out : List ReachRefusal) (i : ℕ) → i < length records → i < length out
    → set (over (take i records) out) i (refusal_of (get_or records i 0)) ≡ over (take (i + 1) records) out
over_next records out i h k = let e : i + 1 ≡ suc i = omega arith in rw e (one_more records out i h k)
