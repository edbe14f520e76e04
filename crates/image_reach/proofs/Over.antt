-- A list that is written over another from the front, item by item: each goes into its own place.
use mathlib.Core.Path.{◌≡◌, refl, ap}
use mathlib.Core.List.{List, [], ◌∷◌, ◌++◌, map}
use Prim.Native.Nat.{ℕ, zero, suc, ◌+◌, ◌<◌}
use native.Mathlib.Nat.{not-suc-le-zero, le_of_suc-le-suc}
use native.Mathlib.Omega.{arith}
use lib.ListN.{length, get_or, set, take, drop}

module _ {A B : Type 0} (f : A → B) (d : A) where
  one_more : (xs : List A) (ys : List B) (i : ℕ) → i < length xs → i < length ys
      → set (map f (take i xs) ++ drop i ys) i (f (get_or xs i d)) ≡ map f (take (suc i) xs) ++ drop (suc i) ys
  one_more [] ys i h k = absurd (not-suc-le-zero h)
  one_more (x ∷ xs) [] i h k = absurd (not-suc-le-zero k)
  one_more (x ∷ xs) (y ∷ ys) zero h k = refl
  one_more (x ∷ xs) (y ∷ ys) (suc i) h k = ap {B = List B} (λ l. f x ∷ l) (one_more xs ys i (le_of_suc-le-suc h) (le_of_suc-le-suc k))

  -- the item at i is written after those before it
  pub over_next : (xs : List A) (ys : List B) (i : ℕ) → i < length xs → i < length ys
      → set (map f (take i xs) ++ drop i ys) i (f (get_or xs i d)) ≡ map f (take (i + 1) xs) ++ drop (i + 1) ys
  over_next xs ys i h k = let e : i + 1 ≡ suc i = omega arith in rw e (one_more xs ys i h k)
