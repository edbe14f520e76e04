-- An array that is filled with one value has it everywhere, and so has the default past its end.
use Rattle.std.proofs.Common.{◌≡◌, ℕ, zero, suc, refl, replicate}
use Rattle.std.specs.Prelude.{slice_index_or}

pub filled_at : {A : Type 0} (n i : ℕ) (d : A) → slice_index_or (replicate n d) i d ≡ d
filled_at zero i d = refl
filled_at (suc n) zero d = refl
filled_at (suc n) (suc i) d = filled_at n i d
