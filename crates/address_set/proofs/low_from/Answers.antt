-- `address_set::low_from` meets its contract: the zeros below the lowest one of x, shifted down by s, are those of x from s on.
use Rattle.std.proofs.Common.{◌≡◌, ℕ, ◌+◌, ◌-◌, ◌/◌, ◌^◌, ◌<◌, ◌≤◌, w8, sym, ap, ◌∙◌, lt_of_le_of_lt, arith}
use Rattle.std.specs.Int.{bit_at, trailing_zeros}
use Rattle.std.proofs.lemmas.Nat.Bits.{bit_at-zero, bit_at_above, bit_at-trailing_zeros}
use native.Mathlib.Decide.{dec_lt}
use lib.Pow.{shr-shr, shr_le}
use Rattle.address_set.specs.Next.{LowestAt}
use Rattle.address_set.proofs.low_from.Goals as goal

-- a byte has its ones below the place 8
within : (x r : ℕ) → x < 2 ^ 8 → bit_at x r ≡ 1 → r < 8
within x r h one = by (dec_lt r 8)
  where
    by : Dec (r < 8) → r < 8
    by (yes l) = l
    by (no n) = absurd (omega (arith, sym one ∙ bit_at_above x 8 r h (omega arith)))

module _ (x s : ℕ) where
  -- what stands from s on, shifted down
  up : (j : ℕ) → bit_at x (s + j) ≡ bit_at (x / 2 ^ s) j
  up j = rw shr-shr

  shifted : (j : ℕ) → s ≤ j → bit_at x j ≡ bit_at (x / 2 ^ s) (j - s)
  shifted j h = let e : j ≡ s + (j - s) = omega arith in ap (bit_at x) e ∙ up (j - s)

  lowest : x < 2 ^ 8 → ¬ (x / 2 ^ s ≡ 0) → LowestAt x s (s + trailing_zeros w8 (x / 2 ^ s))
  lowest h some =
      let found = bit_at-trailing_zeros w8 (x / 2 ^ s) (omega arith) (lt_of_le_of_lt (shr_le x s) h) in
      let r : ℕ = s + trailing_zeros w8 (x / 2 ^ s) in
      let one : bit_at x r ≡ 1 = up (trailing_zeros w8 (x / 2 ^ s)) ∙ found.1 in
      let near : r < 8 = within x r h one in
      record {
        low = omega arith;
        high = near;
        free = λ j l u. shifted j l ∙ found.2 (j - s) (omega arith);
        one = one;
      }

pub returns-then-rest-eq0 : goal.returns-then-rest-eq0
returns-then-rest-eq0 c = λ j l u. shifted c.args.x c.args.s j l ∙ rw (c.if-rest-eq0.true) (bit_at-zero (j - c.args.s))

pub returns : goal.returns
returns c = lowest c.args.x c.args.s c.ranges.x.fits c.if-rest-eq0.false
