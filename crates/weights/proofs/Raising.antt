-- Slots raised and raised again: no raise reaches a record's address, and together two raises are one by the sum.
use mathlib.Core.Path.{◌≡◌, refl}
use mathlib.Core.List.{List, [], ◌∷◌}
use Prim.Native.Nat.{ℕ, ◌+◌}
use native.Mathlib.Omega.{arith}
use Rattle.records.specs.Packed.{address_of}
use Rattle.weights.specs.Weights.{raised, raised_by}

pub raised_address : (n r : ℕ) → address_of (raised n r) ≡ address_of r
raised_address n r = omega arith

pub raised_again : (m n r : ℕ) → raised m (raised n r) ≡ raised (n + m) r
raised_again m n r = omega arith

pub raised_none : (r : ℕ) → raised 0 r ≡ r
raised_none r = omega arith

pub raised_by_none : (slots : List ℕ) → raised_by (λ a. 0) slots ≡ slots
raised_by_none [] = refl
raised_by_none (r ∷ slots) = rw (raised_none r, raised_by_none slots)

pub raised_by_again : (f g : ℕ → ℕ) (slots : List ℕ) → raised_by f (raised_by g slots) ≡ raised_by (λ a. g a + f a) slots
raised_by_again f g [] = refl
raised_by_again f g (r ∷ slots) = rw (raised_address (g (address_of r)) r, raised_again (f (address_of r)) (g (address_of r)) r, raised_by_again f g slots)
