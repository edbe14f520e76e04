-- With more entries, more is reachable: no address is lost, and the reach list is no shorter.
use mathlib.Core.Bool.{Bool}
use mathlib.Core.List.{List}
use Prim.Native.Nat.{ℕ, ◌≤◌}
use lib.ListN.{length}
use Rattle.lists.specs.Lists.{◌∈◌}
use Rattle.lists.proofs.Sets.{ascending_distinct}
use Rattle.reach.specs.Reach.{Step, Reach, entered, followed, ReachList}
use Rattle.reach.proofs.Unique.{at_most}

module _ {step : ℕ → Step} {inside : ℕ → Bool} {entries entries' : List ℕ} (more : (a : ℕ) → a ∈ entries → a ∈ entries') where
  pub reach_more : {a : ℕ} → Reach step inside entries a → Reach step inside entries' a
  reach_more (entered {a = a} k i) = entered (more a k) i
  reach_more (followed r k i) = followed (reach_more r) k i

  pub size_more : {l l' : List ℕ} → ReachList step inside entries l → ReachList step inside entries' l' → length l ≤ length l'
  size_more {l} h h' = at_most h' l (ascending_distinct l h.ascending) (λ a k. reach_more ((h.exact a).0 k))
