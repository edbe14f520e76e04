-- The reach list is unique, and so is its length. No list of distinct reachable addresses is longer.
use mathlib.Core.Path.{◌≡◌, ap}
use mathlib.Core.Bool.{Bool}
use mathlib.Core.List.{List}
use Prim.Native.Nat.{ℕ, ◌≤◌}
use lib.ListN.{length}
use Rattle.lists.specs.Lists.{◌∈◌, Distinct}
use Rattle.lists.proofs.Sets.{fewer, ascending_unique}
use Rattle.reach.specs.Reach.{Step, Reach, ReachList}

module _ {step : ℕ → Step} {inside : ℕ → Bool} {entries l : List ℕ} (h : ReachList step inside entries l) where
  pub at_most : (met : List ℕ) → Distinct met → ((a : ℕ) → a ∈ met → Reach step inside entries a) → length met ≤ length l
  at_most met d f = fewer met l d (λ a k. (h.exact a).1 (f a k))

  pub list_unique : {k : List ℕ} → ReachList step inside entries k → l ≡ k
  list_unique {k} g =
      ascending_unique l k h.ascending g.ascending (λ a m. (g.exact a).1 ((h.exact a).0 m)) (λ a m. (h.exact a).1 ((g.exact a).0 m))

  pub size_unique : {k : List ℕ} → ReachList step inside entries k → length l ≡ length k
  size_unique g = ap length (list_unique g)
