-- What one entry's walk is asked about: the addresses met, which its map has, and the entry if it is outside, which is put in besides.
use mathlib.Core.Path.{◌≡◌, refl, ◌∙◌}
use mathlib.Core.Bool.{Bool, true, false, not, ◌&&◌, ◌||◌, or-true, or-false}
use mathlib.Core.List.{List}
use Prim.Native.Nat.{ℕ}
use native.Mathlib.Decide.{ℕ_discrete}
use lib.Dec.{eqb}
use borrow.Author.Tests.{eq-eqb, ne_eqb}
use Rattle.lists.specs.Lists.{elem}
use Rattle.image.specs.Image.{inside}
use Rattle.address_set.specs.Map.{has, Inserted}
use Rattle.walk.specs.declared.End.{End}
use Rattle.walk.specs.declared.Rule.{Rule}
use Rattle.walk.specs.Walked.{Walked}

-- the addresses of which `records_alone` asks whether something is recorded there
abbrev pub concerns : (load last entry : ℕ) (met : List ℕ) → ℕ → Bool
concerns load last entry met a = elem a met || (eqb a entry && not (inside load last a))

module _ {rule : Rule} {image : List ℕ} {load last : ℕ} {entries : List ℕ} {e : End} {map : List ℕ}
    (walked : Walked rule image load last entries e map) (entry : ℕ) where
  elsewhere : (a : ℕ) → ¬ (a ≡ entry) → has map a ≡ concerns load last entry walked.met a
  elsewhere a n = walked.exact a ∙ rw (ne_eqb a entry n, or-false)

  pub entry_inside : inside load last entry ≡ true → (a : ℕ) → has map a ≡ concerns load last entry walked.met a
  entry_inside within a = by (ℕ_discrete a entry)
    where
      by : Dec (a ≡ entry) → has map a ≡ concerns load last entry walked.met a
      by (yes same) = walked.exact a ∙ rw (same, eq-eqb entry entry refl, within, or-false)
      by (no n) = elsewhere a n

  pub entry_inserted : {map' : List ℕ} {new : Bool} → inside load last entry ≡ false → Inserted map entry map' new
      → (a : ℕ) → has map' a ≡ concerns load last entry walked.met a
  entry_inserted {map'} outside inserted a = by (ℕ_discrete a entry)
    where
      by : Dec (a ≡ entry) → has map' a ≡ concerns load last entry walked.met a
      by (yes same) = rw (same, inserted.here, eq-eqb entry entry refl, outside, or-true)
      by (no n) = inserted.other a n ∙ elsewhere a n
