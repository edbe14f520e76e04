-- How many digits a number's text has, and the digits taken off one by one from the end.
use mathlib.Core.Path.{◌≡◌, refl}
use mathlib.Core.Bool.{Bool, true, false, cond}
use mathlib.Core.List.{List, [], ◌∷◌, ◌++◌}
use Prim.Native.Nat.{ℕ, zero, suc, ◌+◌, ◌-◌, ◌/◌, ◌%◌, ◌^◌, ◌≤◌, ◌<◌, zero-le}
use native.Mathlib.Nat.{div-lt_iff_lt-mul, pow-suc}
use native.Mathlib.Omega.{arith}
use lib.Dec.{ltb}
use lib.ListN.{length, take, drop, set, length-append}
use lib.Seq.{set_split, drop_at, length-take-le, append_snoc}
use borrow.Author.Tests.{ltb-false, lt-ltb, le-ltb}
use Rattle.text.specs.Text.{hex_digit, digit_at, hex_of, decimal_by}

-- ── how many ──
pub hex_length : (width n : ℕ) → length (hex_of width n) ≡ width
unfolding hex_of
hex_length zero n = refl
hex_length (suc width) n = simp length-append (omega (arith, hex_length width (n / 16)))

-- no digit, and one digit in front of others
pub hex_none : (n : ℕ) → hex_of 0 n ≡ []
unfolding hex_of
hex_none n = refl

hex_first : (i n : ℕ) → hex_of (suc i) n ≡ hex_digit (digit_at i n) ∷ hex_of i n
unfolding hex_of digit_at
hex_first zero n = refl
hex_first (suc i) n = rw (hex_first i (n / 16))

pub hex_next : (i n : ℕ) → 0 < i → hex_of i n ≡ hex_digit (digit_at (i - 1) n) ∷ hex_of (i - 1) n
hex_next zero n h = absurd (omega arith)
hex_next (suc i) n h = let same : suc i - 1 ≡ i = omega arith in rw same (hex_first i n)

-- a number of 16 bits has four digits, and any before them is 0
digit_zero : (i : ℕ) → digit_at i 0 ≡ 0
unfolding digit_at
digit_zero zero = refl
digit_zero (suc i) = digit_zero i

pub digit_before : (i n : ℕ) → 4 ≤ i → n < 65536 → digit_at i n ≡ 0
unfolding digit_at
digit_before (suc (suc (suc (suc i)))) n h small = let none : n / 16 / 16 / 16 / 16 ≡ 0 = omega arith in rw none (digit_zero i)
digit_before zero n h small = absurd (omega arith)
digit_before (suc zero) n h small = absurd (omega arith)
digit_before (suc (suc zero)) n h small = absurd (omega arith)
digit_before (suc (suc (suc zero))) n h small = absurd (omega arith)

-- a number of k + 1 digits has k before its last
pub fewer : (k n : ℕ) → n < 10 ^ suc k → n / 10 < 10 ^ k
fewer k n h = (div-lt_iff_lt-mul {k = 10} (omega arith)).1 (rw (← pow-suc 10 k) h)

pub decimal_fits : (most n : ℕ) → length (decimal_by most n) ≤ most
unfolding decimal_by
decimal_fits zero n = zero-le
decimal_fits (suc most) n = simp length-append (front (ltb n 10) _ (decimal_fits most (n / 10)))
  where
    front : (small : Bool) (rest : List ℕ) → length rest ≤ most → length (cond small [] rest) + 1 ≤ suc most
    front true rest h = omega arith
    front false rest h = omega arith

-- a number below the k-th power of ten has at most k digits
pub decimal_below : (most k n : ℕ) → 1 ≤ k → n < 10 ^ k → length (decimal_by most n) ≤ k
unfolding decimal_by
decimal_below zero k n p h = zero-le
decimal_below (suc most) zero n p h = absurd (omega arith)
decimal_below (suc most) (suc k) n p h = simp length-append (front (ltb n 10) refl k h (decimal_below most k (n / 10)))
  where
    front : (small : Bool) → ltb n 10 ≡ small → (k : ℕ) → n < 10 ^ suc k → (1 ≤ k → n / 10 < 10 ^ k → length (decimal_by most (n / 10)) ≤ k)
        → length (cond small [] (decimal_by most (n / 10))) + 1 ≤ suc k
    front true e k h rest = omega arith
    front false e zero h rest = absurd (omega (arith, ltb-false n 10 e))
    front false e (suc k) h rest = omega (arith, rest (omega arith) (fewer (suc k) n h))

-- ── from the last digit to the first ──
-- a digit is stored before the others
pub store_before : (l : List ℕ) (k d : ℕ) → k < length l → drop k (set l k d) ≡ d ∷ drop (suc k) l
store_before l k d h = rw (set_split l k d h, drop_at (take k l) (d ∷ drop (suc k) l) k (length-take-le k l (omega arith)))

pub decimal_step : (most n : ℕ) (text : List ℕ) → 10 ≤ n → decimal_by (suc most) n ++ text ≡ decimal_by most (n / 10) ++ (48 + n % 10) ∷ text
unfolding decimal_by
decimal_step most n text h = rw (le-ltb n 10 h) (append_snoc (decimal_by most (n / 10)) (48 + n % 10) text)

-- the first digit
pub decimal_first : (most n : ℕ) (text : List ℕ) → n < 10 → decimal_by (suc most) n ++ text ≡ (48 + n % 10) ∷ text
unfolding decimal_by
decimal_first most n text h = rw (lt-ltb n 10 h)
