-- What the words and the input of `makejob` say. Assumes nothing.
use Rattle.std.specs.Prelude.{Bool, true, cond, ◌&&◌, List, [], ◌∷◌, ℕ, ◌+◌, ◌-◌, ◌*◌, eqb, leb, ltb, length, get_or, drop, Option, Some, None, is_some, unwrap_or}
use Rattle.job.specs.Job.{word16}
use Rattle.makejob.specs.declared.Load.{Load}
use Rattle.makejob.specs.declared.Load.TheVariants.{Told, Prg}

-- ── an address ──
-- the value of a hexadecimal digit, in either case; nothing for any other byte
abbrev pub digit_of : ℕ → Option ℕ
digit_of c =
    cond
    (leb 48 c && leb c 57)
    (Some (c - 48))
    (cond (leb 65 c && leb c 70) (Some (c - 55)) (cond (leb 97 c && leb c 102) (Some (c - 87)) None))

-- whether each byte is a digit
unfoldable pub all_digits : List ℕ → Bool
all_digits [] = true
all_digits (c ∷ cs) = is_some (digit_of c) && all_digits cs

-- the number that digits spell, behind those that spell n; a byte that is none counts 16
unfoldable pub number_from : (n : ℕ) (digits : List ℕ) → ℕ
number_from n [] = n
number_from n (c ∷ cs) = number_from (16 * n + unwrap_or (digit_of c) 16) cs

-- how many bytes a `$` or `0x` in front takes
abbrev pub mark_of : (word : List ℕ) → ℕ
mark_of word = cond (eqb (get_or word 0 0) 36) 1 (cond (eqb (get_or word 0 0) 48 && eqb (get_or word 1 0) 120) 2 0)

-- digits, behind those that spell n: all are digits, and the number is at most FFFF
abbrev pub address_from : (n : ℕ) (digits : List ℕ) → Option ℕ
address_from n digits = cond (all_digits digits && ltb (number_from n digits) 65536) (Some (number_from n digits)) None

-- one digit or more, behind a mark or none
abbrev pub address_of : (word : List ℕ) → Option ℕ
address_of word = cond (leb (length word) (mark_of word)) None (address_from 0 (drop (mark_of word) word))

-- ── the input ──
-- the load address, and where the image begins: as told, or behind the two bytes of a prg
abbrev pub input_of : Load → (bytes : List ℕ) → Option (ℕ × ℕ)
input_of (Told load) bytes = Some (load, 0)
input_of Prg bytes = cond (ltb (length bytes) 2) None (Some (word16 bytes 0, 2))
