-- A word is read digit by digit: one more digit, a byte that is none, and a number past FFFF, after which no digit brings it back.
use mathlib.Core.Path.{◌≡◌, refl}
use mathlib.Core.Bool.{Bool, true, false, ◌&&◌, cond}
use mathlib.Core.List.{List, [], ◌∷◌}
use Prim.Native.Nat.{ℕ, suc, ◌+◌, ◌*◌, ◌≤◌, ◌<◌}
use native.Mathlib.Numerals.{add-one}
use native.Mathlib.Omega.{arith}
use lib.ListN.{length, get_or, drop, drop_of_length-le}
use lib.Seq.{drop-cons}
use borrow.Author.Tests.{lt-ltb, le-ltb}
use Rattle.std.specs.Prelude.{Option, Some, None, is_some, unwrap_or, ltb}
use Rattle.makejob.specs.Words.{digit_of, all_digits, number_from, address_from}

-- a number only grows
grows : (n : ℕ) (digits : List ℕ) → n ≤ number_from n digits
unfolding number_from
grows n [] = omega arith
grows n (c ∷ cs) = omega (arith, grows (16 * n + unwrap_or (digit_of c) 16) cs)

pub past_top : (n : ℕ) (digits : List ℕ) → 65536 ≤ n → address_from n digits ≡ None
past_top n digits h = rw (le-ltb (number_from n digits) 65536 (omega (arith, grows n digits))) (refused (all_digits digits))
  where
    refused : (b : Bool) → cond (b && false) (Some (number_from n digits)) None ≡ None
    refused true = refl
    refused false = refl

-- the digit in front is read
module _ (n : ℕ) (cs : List ℕ) where
  abbrev front : Option ℕ → Option ℕ
  front o =
      cond
      ((is_some o && all_digits cs) && ltb (number_from (16 * n + unwrap_or o 16) cs) 65536)
      (Some (number_from (16 * n + unwrap_or o 16) cs))
      None

  front_some : (o : Option ℕ) (d : ℕ) → o ≡ Some d → front o ≡ address_from (16 * n + d) cs
  front_some o d e = rw e refl

  front_none : (o : Option ℕ) → o ≡ None → front o ≡ None
  front_none o e = rw e refl

module _ (word : List ℕ) (n i : ℕ) (h : i < length word) where
  pub one_more : (d j : ℕ) → j ≡ i + 1 → digit_of (get_or word i 0) ≡ Some d → address_from n (drop i word) ≡ address_from (16 * n + d) (drop j word)
  unfolding all_digits number_from
  one_more d j k e = rw (k, add-one, drop-cons word i 0 h) (front_some n (drop (suc i) word) (digit_of (get_or word i 0)) d e)

  pub no_digit : digit_of (get_or word i 0) ≡ None → address_from n (drop i word) ≡ None
  unfolding all_digits number_from
  no_digit e = rw (drop-cons word i 0 h) (front_none n (drop (suc i) word) (digit_of (get_or word i 0)) e)

pub at_end : (word : List ℕ) (n i : ℕ) → length word ≤ i → n < 65536 → address_from n (drop i word) ≡ Some n
unfolding all_digits number_from
at_end word n i h k = rw (drop_of_length-le word h, lt-ltb n 65536 k) refl
