-- Where an image lies: which of the three answers `place` gives, and what holds then.
use Rattle.std.proofs.Common.{◌≡◌, ℕ, ◌+◌, ◌-◌, ◌<◌, ◌≤◌, Bool, true, false, cond, eqb, leb, refl, arith, eqb-true, leb-false, leb-true}
use borrow.Author.Tests.{eqb-false}
use Rattle.std.specs.Prelude.{Result, Ok, Err}
use Rattle.refusal.specs.declared.Refusal.{Refusal}
use Rattle.refusal.specs.declared.Refusal.TheVariants.{ImageEmpty, PastTop}
use Rattle.image.specs.declared.Bounds.{Bounds}
use Rattle.image.specs.Answers.{place}

pub data Places (load size : ℕ) : Result Bounds Refusal → Type 0 where
  lies : 0 < size → load + size - 1 ≤ 0xFFFF → Places load size (Ok (record { load = load; last = load + size - 1 }))
  none : size ≡ 0 → Places load size (Err ImageEmpty)
  past : 0 < size → 0xFFFF < load + size - 1 → Places load size (Err PastTop)

pub places : (load size : ℕ) → Places load size (place load size)
places load size = by (eqb size 0) (leb (load + size - 1) 0xFFFF) refl refl
  where
    by : (e l : Bool) → eqb size 0 ≡ e → leb (load + size - 1) 0xFFFF ≡ l
        → Places load size (cond e (Err ImageEmpty) (cond l (Ok (record { load = load; last = load + size - 1 })) (Err PastTop)))
    by true l p q = none (eqb-true size 0 p)
    by false true p q = lies (omega (arith, eqb-false size 0 p)) (leb-true (load + size - 1) 0xFFFF q)
    by false false p q = past (omega (arith, eqb-false size 0 p)) (leb-false (load + size - 1) 0xFFFF q)
