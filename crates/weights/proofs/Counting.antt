-- The weights from the first entry to the last: an entry after the others adds one where its own walk records the address.
use mathlib.Core.Path.{◌≡◌, refl, sym, ◌∙◌}
use mathlib.Core.Bool.{Bool, true, false}
use mathlib.Core.List.{List, [], ◌∷◌, ◌++◌}
use Prim.Native.Nat.{ℕ, ◌+◌}
use native.Mathlib.Nat.{zero-add, suc-add}
use Rattle.std.specs.Int.{from_bool}
use Rattle.mos6502.specs.declared.Decoded.{Decoded}
use Rattle.mos6502.specs.Class.{manual_class}
use Rattle.weights.specs.Weights.{records_alone, Weighs, none, counts, passes, Filled, Counted}
use Rattle.weights.proofs.Raising.{raised_by_none, raised_by_again}

-- what some entries weigh, and what others weigh after them
weighs_append : {class : ℕ → Decoded} {image : List ℕ} {load last a : ℕ} {entries more : List ℕ} {n m : ℕ} → Weighs class image load last a entries n
    → Weighs class image load last a more m → Weighs class image load last a (entries ++ more) (n + m)
weighs_append none r = rw zero-add r
weighs_append (counts w p r) r' = rw suc-add (counts w p (weighs_append r r'))
weighs_append (passes w p r) r' = passes w p (weighs_append r r')

pub filled_none : (image : List ℕ) (load last : ℕ) (slots : List ℕ) → Filled image load last [] slots slots
filled_none image load last slots = record { weight = λ a. 0; weighs = λ a. none; exact = sym (raised_by_none slots) }

module _ {image : List ℕ} {load last entry : ℕ} {slots slots' : List ℕ} (counted : Counted image load last entry slots slots') where
  abbrev recorded : ℕ → Bool
  recorded = records_alone manual_class image load last entry counted.end counted.met

  weighs_one : {a : ℕ} (b : Bool) → recorded a ≡ b → Weighs manual_class image load last a (entry ∷ []) (from_bool b)
  weighs_one true p = counts counted.walk p none
  weighs_one false p = passes counted.walk p none

  pub filled_more : {entries slots₀ : List ℕ} → Filled image load last entries slots₀ slots → Filled image load last (entries ++ entry ∷ []) slots₀ slots'
  filled_more {slots₀ = slots₀} f = record {
    weight = λ a. f.weight a + from_bool (recorded a);
    weighs = λ a. weighs_append (f.weighs a) (weighs_one (recorded a) refl);
    exact = counted.exact ∙ rw f.exact (raised_by_again (λ a. from_bool (recorded a)) f.weight slots₀);
  }
