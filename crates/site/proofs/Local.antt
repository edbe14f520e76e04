-- Locality: an instruction that is whole, and whose bytes another memory has in the same places, stands there too. Only the test of its next address
-- is the other memory's own.
use mathlib.Core.Path.{◌≡◌, refl}
use mathlib.Core.Bool.{Bool, true, false, cond}
use Prim.Native.Nat.{ℕ, suc, ◌+◌, ◌*◌, ◌≤◌, ◌<◌}
use native.Mathlib.Omega.{arith}
use lib.Dec.{eqb}
use borrow.Author.Tests.{eqb-true}
use Rattle.mos6502.specs.declared.Decoded.{Decoded}
use Rattle.mos6502.specs.Class.{length_of}
use Rattle.site.specs.Site.{whole_at, operand_at, next_at, whole_site, broken_site, site_at}
use Rattle.site.proofs.Size.{site_size}
use Rattle.site.proofs.Assembly.{site_whole}

-- the same n bytes at a have the same operand
operand_local : (byte byte' : ℕ → ℕ) (a n : ℕ) → ((x : ℕ) → a ≤ x → x < a + n → byte x ≡ byte' x) → operand_at byte a n ≡ operand_at byte' a n
operand_local byte byte' a n same = by (eqb n 2) (eqb n 3) (eqb-true n 2) (eqb-true n 3)
  where
    by : (two three : Bool) → (two ≡ true → n ≡ 2) → (three ≡ true → n ≡ 3)
        → cond two (byte (a + 1)) (cond three (byte (a + 1) + 256 * byte (a + 2)) 0)
        ≡ cond two (byte' (a + 1)) (cond three (byte' (a + 1) + 256 * byte' (a + 2)) 0)
    by true three e f = let long = e refl in same (a + 1) (omega arith) (omega arith)
    by false true e f = let long = f refl in rw (same (a + 1) (omega arith) (omega arith), same (a + 2) (omega arith) (omega arith))
    by false false e f = refl

module _ (class : ℕ → Decoded) (byte : ℕ → ℕ) (a : ℕ) where
  -- how many bytes the opcode at a asks for
  abbrev pub size : ℕ
  size = length_of (class (byte a)).mode

  module _ (last : ℕ) (inside : ℕ → Bool) where
    pub site_len : (site_at class byte last inside a).len ≡ size
    unfolding site_at
    site_len = by (whole_at last a size)
      where
        by : (test : Bool)
            → (cond test (whole_site (byte a) (operand_at byte a size) (next_at inside a size) (class (byte a))) (broken_site (byte a) (class (byte a)))).len ≡ size
        by true = refl
        by false = refl

    module _ (whole : (site_at class byte last inside a).whole ≡ true) (byte' : ℕ → ℕ) (last' : ℕ) (inside' : ℕ → Bool) where
      -- what stands there in the other memory
      pub stands : ((x : ℕ) → a ≤ x → x < a + size → byte x ≡ byte' x) → a + size ≤ suc last'
          → whole_site (byte a) (operand_at byte a size) (next_at inside' a size) (class (byte a)) ≡ site_at class byte' last' inside' a
      stands same ends =
          let some : 0 < size = omega (arith, site_len, site_size class byte last inside a whole) in
          site_whole class byte' last' inside' a (same a (omega arith) (omega arith)) refl refl (omega arith) ends
          (operand_local byte byte' a size same) refl
