-- The test of what is inside, and the two comparisons that it stands for.
use Rattle.std.proofs.Common.{◌≡◌, ℕ, ◌≤◌, Bool, true, false, ◌&&◌, leb, sym, refl, true≢false, le-leb, leb-true}
use Rattle.image.specs.Image.{inside}

module _ (load last a : ℕ) where
  pub inside_yes : load ≤ a → a ≤ last → inside load last a ≡ true
  unfolding inside
  inside_yes p q = rw (le-leb load a p, le-leb a last q)

  pub inside_no : (load ≤ a → a ≤ last → ⊥) → inside load last a ≡ false
  unfolding inside
  inside_no out = by (leb load a) (leb a last) (leb-true load a) (leb-true a last)
    where
      by : (p q : Bool) → (p ≡ true → load ≤ a) → (q ≡ true → a ≤ last) → (p && q) ≡ false
      by true true f g = absurd (out (f refl) (g refl))
      by true false f g = refl
      by false q f g = refl

  pub inside_bounds : inside load last a ≡ true → (load ≤ a) × (a ≤ last)
  unfolding inside
  inside_bounds e = by (leb load a) (leb a last) (leb-true load a) (leb-true a last) e
    where
      by : (p q : Bool) → (p ≡ true → load ≤ a) → (q ≡ true → a ≤ last) → (p && q) ≡ true → (load ≤ a) × (a ≤ last)
      by true true f g e = (f refl, g refl)
      by true false f g e = let z : true ≡ false = cc in absurd (true≢false z)
      by false q f g e = absurd (true≢false (sym e))
