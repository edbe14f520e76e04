-- Every address has a weight, since the walk of every entry ends.
use mathlib.Core.Path.{◌≡◌}
use mathlib.Core.Logic.{◌⊎◌, inl, inr}
use mathlib.Core.Bool.{true, false}
use mathlib.Core.List.{List, [], ◌∷◌}
use Prim.Native.Nat.{ℕ, suc}
use Rattle.lists.proofs.Tests.{either}
use Rattle.mos6502.specs.declared.Decoded.{Decoded}
use Rattle.image.specs.Image.{inside}
use Rattle.reach.specs.Walk.{End}
use Rattle.reach.proofs.Ends.{ends_always}
use Rattle.walk.specs.declared.Rule.TheVariants.{Diagnosis}
use Rattle.walk.specs.Walked.{limit, step_in, Walk}
use Rattle.weights.specs.Weights.{records_alone, Weighs, none, counts, passes}

pub weighed : (class : ℕ → Decoded) (image : List ℕ) (load last : ℕ) (entries : List ℕ) (a : ℕ) → (n : ℕ) × Weighs class image load last a entries n
weighed class image load last [] a = (0, none)
weighed class image load last (entry ∷ entries) a =
    let d = ends_always (step_in class Diagnosis image load last) (inside load last) limit limit (entry ∷ []) in
    by d.2 (weighed class image load last entries a) (either (records_alone class image load last entry d.0 d.1 a))
  where
    by : {e : End} {met : List ℕ} → Walk class Diagnosis image load last (entry ∷ []) e met → (n : ℕ) × Weighs class image load last a entries n
        → (records_alone class image load last entry e met a ≡ true) ⊎ (records_alone class image load last entry e met a ≡ false)
        → (n : ℕ) × Weighs class image load last a (entry ∷ entries) n
    by w r (inl q) = (suc r.0, counts w q r.1)
    by w r (inr q) = (r.0, passes w q r.1)
