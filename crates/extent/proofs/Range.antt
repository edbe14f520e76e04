-- A set has one least and one greatest number, since each is among the numbers that the other bounds; and two sets with the same numbers have the same.
use mathlib.Core.Path.{◌≡◌}
use mathlib.Core.Logic.{◌↔◌}
use mathlib.Core.List.{List}
use Prim.Native.Nat.{ℕ}
use native.Mathlib.Omega.{arith}
use Rattle.site.specs.declared.Site.{Site}
use Rattle.site.specs.declared.Reading.{Reading}
use Rattle.extent.specs.Named.{Named, by_entry, by_byte, by_operand, Range}

pub range_unique : {P : ℕ → Type 0} {low high low' high' : ℕ} → Range P low high → Range P low' high' → (low ≡ low') × (high ≡ high')
range_unique {low = low} {high = high} {low' = low'} {high' = high'} r s =
    omega (arith, r.covers low' s.low_in, r.covers high' s.high_in, s.covers low r.low_in, s.covers high r.high_in)

pub range_same : {P Q : ℕ → Type 0} {low high : ℕ} → ((x : ℕ) → P x ↔ Q x) → Range P low high → Range Q low high
range_same {low = low} {high = high} same r =
    record { low_in = (same low).0 r.low_in; high_in = (same high).0 r.high_in; covers = λ x q. r.covers x ((same x).1 q) }

-- what is named rests on which instructions count, and on nothing else of them
module _ {reading : Reading} {load last : ℕ} {site : ℕ → Site} {entries : List ℕ} {C D : ℕ → Type 0} where
  pub named_more : ((a : ℕ) → C a → D a) → {x : ℕ} → Named reading load last site entries C x → Named reading load last site entries D x
  named_more f (by_entry k t) = by_entry k t
  named_more f (by_byte a c w p q) = by_byte a (f a c) w p q
  named_more f (by_operand a c t) = by_operand a (f a c) t
