-- `address_set::insert` meets its contract: it stores the byte of `a` with one digit set, which changes no other digit, so no other address.
use mathlib.Core.Path.{◌≡◌, refl, ap}
use mathlib.Core.Bool.{not}
use mathlib.Core.List.{List}
use Prim.Native.Nat.{ℕ, zero, suc, ◌*◌, ◌/◌, ◌%◌, ◌^◌, ◌<◌}
use native.Mathlib.Decide.{ℕ_discrete}
use native.Mathlib.Omega.{arith}
use lib.Bits.{bit_or}
use lib.Dec.{eqb}
use lib.ListN.{length, get_or, set, length-set}
use lib.Seq.{get_or-set_same, get_or-set_other}
use Rattle.std.proofs.Common.{w8}
use Rattle.std.specs.Int.{bit_at}
use Rattle.std.proofs.lemmas.Nat.Bits.{bit_at-lt, bit_at_set_same, bit_at_set_other}
use Rattle.address_set.specs.Map.{has, Inserted}
use Rattle.address_set.proofs.insert.Goals as goal

-- a digit is 0 where it is not 1
zero_or_one : (d : ℕ) → d < 2 → eqb d 0 ≡ not (eqb d 1)
zero_or_one zero h = refl
zero_or_one (suc zero) h = refl
zero_or_one (suc (suc d)) h = absurd (omega arith)

-- the map with the byte of a stored
abbrev stored : (m : List ℕ) (a : ℕ) → List ℕ
stored m a = set m (a / 8) (bit_or (get_or m (a / 8) 0) (1 * 2 ^ (a % 8) % 2 ^ 8))

module _ (m : List ℕ) (a : ℕ) (h : a / 8 < length m) where
  digit_here : bit_at (get_or (stored m a) (a / 8) 0) (a % 8) ≡ 1
  digit_here = rw (get_or-set_same m (a / 8) _ 0 h) (bit_at_set_same w8 (get_or m (a / 8) 0) (a % 8) (omega arith))

  digit_other : (b : ℕ) → ¬ (b ≡ a) → Dec (b / 8 ≡ a / 8) → bit_at (get_or (stored m a) (b / 8) 0) (b % 8) ≡ bit_at (get_or m (b / 8) 0) (b % 8)
  digit_other b n (yes e) =
      let away : ¬ (b % 8 ≡ a % 8) = λ q. n (omega arith) in
      rw (e, get_or-set_same m (a / 8) _ 0 h) (bit_at_set_other w8 (get_or m (a / 8) 0) (a % 8) (omega arith) (b % 8) away)
  digit_other b n (no d) = rw (get_or-set_other m (a / 8) (b / 8) _ 0 d)

  inserted : Inserted m a (stored m a) (eqb (get_or m (a / 8) 0 / 2 ^ (a % 8) % 2) 0)
  unfolding has
  inserted = record {
    size = length-set m (a / 8) _;
    here = rw digit_here;
    other = λ b n. ap (λ (d : ℕ). eqb d 1) (digit_other b n (ℕ_discrete (b / 8) (a / 8)));
    fresh = zero_or_one _ (bit_at-lt (get_or m (a / 8) 0) (a % 8));
  }

pub returns : goal.returns
returns c = inserted c.args.map.now c.args.a (omega arith)
