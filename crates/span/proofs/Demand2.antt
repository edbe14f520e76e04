-- Demand 2, as a customer reads it: a span is given exactly when image and entries are nonempty, the image ends by 0xFFFF, all entries lie inside, and the
-- instructions reachable from them number at most 4,096 with no refused site.
use mathlib.Core.Path.{◌≡◌, refl}
use mathlib.Core.Logic.{◌↔◌}
use mathlib.Core.List.{List}
use Prim.Native.Nat.{ℕ, ◌<◌}
use native.Mathlib.Omega.{arith}
use Rattle.std.proofs.Common.{Result}
use Rattle.refusal.specs.declared.Refusal.{Refusal}
use Rattle.refusal.specs.declared.Refusal.TheVariants.{ImageEmpty, NoEntries, PastTop, Refused, Unbounded, Short, Full}
use Rattle.refusal.specs.Numbers.{number, number_of}
use Rattle.mos6502.specs.declared.Decoded.{Decoded}
use Rattle.opening.proofs.First.{ready, opens_unique}
use Rattle.site.specs.declared.Reading.{Reading}
use Rattle.walk.specs.declared.Rule.TheVariants.{Span as SpanRule}
use Rattle.walk.specs.Possible.{Possible}
use Rattle.span.specs.declared.Span.{Span}
use Rattle.span.specs.Given.{Answers}
use Rattle.span.proofs.Cases.{Says, given, refused, early, says}

-- 0 is no refusal's number
number_some : (why : Refusal) → 0 < number why
number_some ImageEmpty = omega arith
number_some NoEntries = omega arith
number_some PastTop = omega arith
number_some Refused = omega arith
number_some Unbounded = omega arith
number_some (Short needed) = omega arith
number_some Full = omega arith

module _ (class : ℕ → Decoded) (image : List ℕ) (load : ℕ) (entries : List ℕ) (reading : Reading) where
  by_case : {r : Result Span Refusal} → Says class image load entries reading r → (number_of r ≡ 0) ↔ ((l : List ℕ) × Possible class SpanRule image load entries l)
  by_case (given g) = (λ e. (g.list, g.possible), λ d. refl)
  by_case (refused r none) = (λ e. absurd (omega arith), λ d. absurd (none d))
  by_case (early {why} o) = (
    λ e. absurd (omega (arith, number_some why)),
    λ d. let same = opens_unique image load entries (ready d.1.ready) o in cc,
  )

  pub demand_2 : (r : Result Span Refusal) → Answers class image load entries reading r → (number_of r ≡ 0) ↔ ((l : List ℕ) × Possible class SpanRule image load entries l)
  demand_2 r p = by_case (says class image load entries reading r p)
