-- An address has one weight: each entry's walk is determined, and so is whether it records the address.
use mathlib.Core.Path.{◌≡◌, refl, ap}
use mathlib.Core.List.{List}
use Prim.Native.Nat.{ℕ, suc}
use Rattle.lists.proofs.Tests.{clash}
use Rattle.mos6502.specs.declared.Decoded.{Decoded}
use Rattle.reach.proofs.Once.{once}
use Rattle.weights.specs.Weights.{Weighs, none, counts, passes}

pub weighs_unique : {class : ℕ → Decoded} {image : List ℕ} {load last a : ℕ} {entries : List ℕ} {n m : ℕ} → Weighs class image load last a entries n
    → Weighs class image load last a entries m → n ≡ m
weighs_unique none none = refl
weighs_unique (counts w p r) (counts w' p' r') = ap suc (weighs_unique r r')
weighs_unique (counts w p r) (passes w' p' r') = let same = once w w' in absurd (clash p (rw (same.0, same.1) p'))
weighs_unique (passes w p r) (counts w' p' r') = let same = once w' w in absurd (clash p' (rw (same.0, same.1) p))
weighs_unique (passes w p r) (passes w' p' r') = weighs_unique r r'
