-- Numbers as text (01, "Job file and `reachreport`"): addresses and bytes in upper-case hexadecimal of a fixed width, counts in decimal. Assumes nothing.
use Rattle.std.specs.Prelude.{◌≡◌, cond, List, [], ◌∷◌, ◌++◌, ℕ, zero, suc, ◌+◌, ◌/◌, ◌%◌, ◌≤◌, ltb, length, take, drop}

-- the ASCII code of a hexadecimal digit: `0` to `9`, then `A` to `F`
abbrev pub hex_digit : ℕ → ℕ
hex_digit d = cond (ltb d 10) (48 + d) (55 + d)

-- the hexadecimal digit of n with i digits behind it
unfoldable pub digit_at : (i n : ℕ) → ℕ
digit_at zero n = n % 16
digit_at (suc i) n = digit_at i (n / 16)

-- the last `width` hexadecimal digits of n, the most significant first
unfoldable pub hex_of : (width n : ℕ) → List ℕ
hex_of zero n = []
hex_of (suc width) n = hex_of width (n / 16) ++ (hex_digit (n % 16) ∷ [])

-- n in decimal, without a zero in front, where n has at most `most` digits
unfoldable pub decimal_by : (most n : ℕ) → List ℕ
decimal_by zero n = []
decimal_by (suc most) n = cond (ltb n 10) [] (decimal_by most (n / 10)) ++ ((48 + n % 10) ∷ [])

-- n in decimal; a number of 64 bits has at most 20 digits
abbrev pub decimal_of : ℕ → List ℕ
decimal_of n = decimal_by 20 n

-- behind what stands there, a vector of capacity n has room for the text
abbrev pub Room : (items text : List ℕ) (n : ℕ) → Type 0
Room items text n = length items + length text ≤ n

-- the text stands in the buffer from n on; r is the place after it, and the other bytes are as they were
pub record Put (out : List ℕ) (n : ℕ) (text : List ℕ) (r : ℕ) (out' : List ℕ) : Type 0 where
  pub next : r ≡ n + length text
  pub after : out' ≡ take n out ++ text ++ drop (n + length text) out
