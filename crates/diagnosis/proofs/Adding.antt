-- The outside entries put into the map, one entry after the other: an entry inside changes nothing, and one outside is one more member. So the members lie in every
-- range that has the image and the entries.
use mathlib.Core.Path.{◌≡◌, refl, sym, ap, ◌∙◌}
use mathlib.Core.Bool.{Bool, true, false, ◌||◌, or-true, and-false}
use mathlib.Core.List.{List, ◌∷◌}
use mathlib.Core.Logic.{⊎_elim}
use Prim.Native.Nat.{ℕ, ◌+◌, ◌<◌}
use native.Mathlib.Decide.{ℕ_discrete}
use native.Mathlib.Numerals.{add-one}
use native.Mathlib.Omega.{arith}
use lib.ListN.{length, get_or, drop}
use lib.Seq.{drop-cons}
use borrow.Author.Tests.{eq-eqb, ne_eqb}
use Rattle.lists.specs.Lists.{elem}
use Rattle.lists.proofs.Tests.{and_left, or_cases}
use Rattle.lists.proofs.Sets.{elem_mem}
use Rattle.image.specs.declared.Bounds.{Bounds}
use Rattle.image.specs.Image.{inside}
use Rattle.address_set.specs.Map.{has, Inserted, Within}
use Rattle.diagnosis.specs.Steps.{is_outside, Added, Covers}

-- with the entries from i on, the map has what it is to have in the end
pub record Adding (load last : ℕ) (entries before map : List ℕ) (i : ℕ) : Type 0 where
  pub each : (a : ℕ) → (has map a || is_outside load last (drop i entries) a) ≡ (has before a || is_outside load last entries a)

module _ (load last e : ℕ) (rest : List ℕ) where
  inside_adds_none : inside load last e ≡ true → (a : ℕ) → is_outside load last (e ∷ rest) a ≡ is_outside load last rest a
  inside_adds_none i a = by (ℕ_discrete a e)
    where
      by : Dec (a ≡ e) → is_outside load last (e ∷ rest) a ≡ is_outside load last rest a
      by (yes q) = rw (q, i, eq-eqb e e refl, and-false (elem e rest))
      by (no n) = rw (ne_eqb a e n)

  outside_adds_one : inside load last e ≡ false → {map map' : List ℕ} {new : Bool} → Inserted map e map' new
      → (a : ℕ) → (has map' a || is_outside load last rest a) ≡ (has map a || is_outside load last (e ∷ rest) a)
  outside_adds_one o {map} {map'} n a = by (ℕ_discrete a e)
    where
      by : Dec (a ≡ e) → (has map' a || is_outside load last rest a) ≡ (has map a || is_outside load last (e ∷ rest) a)
      by (yes q) = rw (q, n.here, o, eq-eqb e e refl) (sym (or-true (has map e)))
      by (no d) = rw (n.other a d, ne_eqb a e d)

module _ {load last : ℕ} {entries before map : List ℕ} {i : ℕ} (h : Adding load last entries before map i) where
  pub added_inside : i < length entries → inside load last (get_or entries i 0) ≡ true → Adding load last entries before map (i + 1)
  added_inside l e =
      record {
        each = λ a.
            ap (λ (b : Bool). has map a || b)
            (sym (inside_adds_none load last (get_or entries i 0) (drop (i + 1) entries) e a) ∙ rw (add-one, drop-cons entries i 0)) ∙ h.each a;
      }

  pub added_outside : i < length entries → inside load last (get_or entries i 0) ≡ false → {map' : List ℕ} {new : Bool} → Inserted map (get_or entries i 0) map' new
      → Adding load last entries before map' (i + 1)
  added_outside l e n =
      record {
        each = λ a.
            outside_adds_one load last (get_or entries i 0) (drop (i + 1) entries) e n a ∙ rw (add-one) (rw (drop-cons entries i 0) at (h.each a));
      }

pub added_within : {load last : ℕ} {entries map map' : List ℕ} {range : Bounds} → Within load last map → Added load last entries map map'
    → Covers load last entries range → Within range.load range.last map'
added_within {load} {last} {entries} {map} w added covers =
    record {
      each = λ a t.
          ⊎_elim (λ h. omega (arith, w.each a h, covers.image)) (λ o. covers.each a (elem_mem a entries (and_left (elem a entries) _ o)))
          (or_cases (has map a) (is_outside load last entries a) (rw (added.each a) at t));
    }
