-- Two answers that meet the statement are equal, and so are the lists that they leave. Of `diagnose_into` the answer and the lent slots are those of the diagnosis,
-- whose answers are unique; the other slots are as they were, and the structs follow from the slots.
use mathlib.Core.Path.{◌≡◌, sym, ap, ap₂, ◌∙◌}
use mathlib.Core.List.{List}
use Prim.Native.Nat.{ℕ}
use native.Mathlib.Omega.{arith}
use lib.ListN.{length, take}
use Rattle.mos6502.specs.declared.Decoded.{Decoded}
use Rattle.std.specs.Prelude.{Result, Ok, Err}
use Rattle.refusal.specs.declared.Refusal.{Refusal}
use Rattle.diagnosis.specs.declared.Summary.{Summary}
use Rattle.diagnosis.proofs.Unique as diagnosis
use Rattle.refusals.specs.declared.ReachRefusal.{ReachRefusal}
use Rattle.refusals.specs.Refusals.{over, Unpacks}
use Rattle.refusals.specs.Into.{written_by, AnswersFirst, AnswersInto}
use Rattle.refusals.proofs.First.{same_halves}

pub answers_unique : (packed : List ℕ) (out after after' : List ReachRefusal) (r r' : Result ℕ Refusal) → Unpacks packed out after r → Unpacks packed out after' r'
    → (r ≡ r') × (after ≡ after')
answers_unique packed out after after' (Ok n) (Ok m) p q = (ap Ok (p.0 ∙ sym q.0), p.2 ∙ sym q.2)
answers_unique packed out after after' (Ok n) (Err s) p q = absurd (omega arith)
answers_unique packed out after after' (Err s) (Ok m) p q = absurd (omega arith)
answers_unique packed out after after' (Err s) (Err t) p q = (ap Err (p.0 ∙ sym q.0), p.2 ∙ sym q.2)

module _ (class : ℕ → Decoded) (image : List ℕ) (load : ℕ) (entries : List ℕ) where
  pub first_unique : (most : ℕ) (slots after after' : List ℕ) (r r' : Result Summary Refusal) → AnswersFirst class image load entries most slots after r
      → AnswersFirst class image load entries most slots after' r' → (r ≡ r') × (after ≡ after')
  first_unique most slots after after' r r' p q =
      let u = diagnosis.answers_unique class image load entries (take most slots) (take most after) (take most after') r r' p.first q.first in
      (u.0, same_halves most after after' u.1 (p.others ∙ sym q.others))

  pub into_unique : (slots after after' : List ℕ) (refusals then then' : List ReachRefusal) (r r' : Result Summary Refusal)
      → AnswersInto class image load entries slots after refusals then r → AnswersInto class image load entries slots after' refusals then' r'
      → (r ≡ r') × (after ≡ after') × (then ≡ then')
  into_unique slots after after' refusals then then' r r' p q =
      let u = first_unique (length refusals) slots after after' r r' p.diagnosed q.diagnosed in
      (u.0, u.1, p.structs ∙ ap₂ (λ (s : Result Summary Refusal) (l : List ℕ). over (take (written_by s) l) refusals) u.0 u.1 ∙ sym q.structs)
