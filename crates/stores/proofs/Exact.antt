-- Exactness, as a customer reads it: 4 is given exactly when the first tests pass and the walk cannot be carried through; records are given exactly when it can, every
-- reachable store is bounded, and the lent list is long enough.
use mathlib.Core.Path.{◌≡◌, ap, ◌∙◌}
use mathlib.Core.Logic.{◌↔◌}
use mathlib.Core.Bool.{false}
use mathlib.Core.List.{List}
use Rattle.std.specs.Prelude.{Some, None, Result, Ok, Err}
use Rattle.refusal.specs.declared.Refusal.{Refusal}
use Rattle.refusal.specs.declared.Refusal.TheVariants.{ImageEmpty, NoEntries, PastTop, Refused, Unbounded, Short, Full}
use Rattle.refusal.specs.Numbers.{number_of}
use Prim.Native.Nat.{ℕ, ◌≤◌}
use native.Mathlib.Omega.{arith}
use lib.ListN.{length}
use borrow.Author.Tests.{le-ltb}
use Rattle.mos6502.specs.declared.Decoded.{Decoded}
use Rattle.writes.specs.declared.Wr.{Wr}
use Rattle.opening.specs.Opening.{Ready}
use Rattle.opening.proofs.First.{ready, opens, opens_unique}
use Rattle.stores.specs.Answers.{Reaches, is_unbounded, records_in, Answers}
use Rattle.stores.proofs.Unique.{answer_is}

module _ (class : ℕ → Decoded) (writes : ℕ → Wr) (image : List ℕ) (load : ℕ) (entries : List ℕ) (slots slots' : List ℕ) where
  -- the walk can be carried through, every reachable store is bounded, and there are slots enough
  abbrev pub Fits : Type 0
  Fits =
      (l : List ℕ) × Reaches class writes image load entries l × (is_unbounded class writes image load entries l ≡ false)
      × (length (records_in class writes image load entries l) ≤ length slots)

  answered_fits : (r : Result ℕ Refusal) → Answers class writes image load entries slots slots' r → number_of r ≡ 0 → Fits
  answered_fits (Ok n) p e = (p.0, p.1, p.2, rw p.3 at p.4)
  answered_fits (Err ImageEmpty) p e = absurd (omega arith)
  answered_fits (Err NoEntries) p e = absurd (omega arith)
  answered_fits (Err PastTop) p e = absurd (omega arith)
  answered_fits (Err Refused) p e = absurd (omega arith)
  answered_fits (Err Unbounded) p e = absurd (omega arith)
  answered_fits (Err (Short n)) p e = absurd (omega arith)
  answered_fits (Err Full) p e = absurd (omega arith)

  fits_answered : (r : Result ℕ Refusal) → Answers class writes image load entries slots slots' r → Fits → number_of r ≡ 0
  fits_answered r p d =
      ap number_of (answer_is class writes image load entries slots slots' r p (Some d.0) d.1).0
      ∙ rw (opens_unique image load entries (opens image load entries) (ready d.1.ready), d.2, le-ltb _ _ d.3)

  pub answered_iff : (r : Result ℕ Refusal) → Answers class writes image load entries slots slots' r → (number_of r ≡ 0) ↔ Fits
  answered_iff r p = (answered_fits r p, fits_answered r p)

  refused_none : (r : Result ℕ Refusal) → Answers class writes image load entries slots slots' r → number_of r ≡ 4
      → Ready image load entries × ¬ ((l : List ℕ) × Reaches class writes image load entries l)
  refused_none (Err Refused) p e = (p.0, p.1)
  refused_none (Ok n) p e = absurd (omega arith)
  refused_none (Err ImageEmpty) p e = absurd (omega arith)
  refused_none (Err NoEntries) p e = absurd (omega arith)
  refused_none (Err PastTop) p e = absurd (omega arith)
  refused_none (Err Unbounded) p e = absurd (omega arith)
  refused_none (Err (Short n)) p e = absurd (omega arith)
  refused_none (Err Full) p e = absurd (omega arith)

  pub refused_iff : (r : Result ℕ Refusal) → Answers class writes image load entries slots slots' r
      → (number_of r ≡ 4) ↔ (Ready image load entries × ¬ ((l : List ℕ) × Reaches class writes image load entries l))
  refused_iff r p = (
    refused_none r p,
    λ d.
        ap number_of (answer_is class writes image load entries slots slots' r p None d.1).0
        ∙ rw (opens_unique image load entries (opens image load entries) (ready d.0)),
  )
