-- What `site_at` puts together is the site of the definition: undefined, cut by the image's end, or whole.
use mathlib.Core.Path.{◌≡◌, refl}
use mathlib.Core.Bool.{Bool, true, false, ◌&&◌}
use Prim.Native.Nat.{ℕ, suc, ◌+◌, ◌-◌, ◌≤◌, ◌<◌}
use native.Mathlib.Omega.{arith}
use lib.Dec.{leb, ltb}
use borrow.Author.Tests.{lt-ltb, le-ltb, le-leb, lt-leb}
use Rattle.mos6502.specs.declared.Decoded.{Decoded}
use Rattle.mos6502.specs.Class.{length_of}
use Rattle.std.specs.Prelude.{Option}
use Rattle.site.specs.Site.{whole_at, operand_at, next_at, broken_site, whole_site, site_at}

-- ── an instruction's bytes ──
undefined : (last a n : ℕ) → n ≡ 0 → whole_at last a n ≡ false
undefined last a n e = rw (le-ltb 0 n (omega arith))

past_last : (last a n : ℕ) → last < a + n - 1 → whole_at last a n ≡ false
past_last last a n h = by (ltb 0 n)
  where
    by : (b : Bool) → (b && leb (a + n) (suc last)) ≡ false
    by true = lt-leb (a + n) (suc last) (omega arith)
    by false = refl

all_inside_lem : (last a n : ℕ) → 0 < n → a + n ≤ suc last → whole_at last a n ≡ true
all_inside_lem last a n p q = rw (lt-ltb 0 n p, le-leb (a + n) (suc last) q)

module _ (class : ℕ → Decoded) (byte : ℕ → ℕ) (last : ℕ) (inside : ℕ → Bool) (a : ℕ) {op n : ℕ} {d : Decoded}
    (opcode : op ≡ byte a) (decoded : d ≡ class op) (length : n ≡ length_of d.mode) where
  pub site_undefined : n ≡ 0 → broken_site op d ≡ site_at class byte last inside a
  unfolding site_at
  site_undefined e = rw (← opcode, ← decoded, ← length, undefined last a n e)

  pub site_cut : last < a + n - 1 → broken_site op d ≡ site_at class byte last inside a
  unfolding site_at
  site_cut h = rw (← opcode, ← decoded, ← length, past_last last a n h)

  pub site_whole : {w : ℕ} {next : Option ℕ} → ¬ (n ≡ 0) → a + n ≤ suc last → w ≡ operand_at byte a n → next ≡ next_at inside a n
      → whole_site op w next d ≡ site_at class byte last inside a
  unfolding site_at
  site_whole e h ow on = rw (← opcode, ← decoded, ← length, all_inside_lem last a n (omega arith) h, ← ow, ← on)
