-- An instruction that is whole has a byte, and its bytes end by last: that is what `whole_at` tests, and the site goes by its answer.
use mathlib.Core.Path.{◌≡◌, refl}
use mathlib.Core.Bool.{Bool, true, false, cond}
use Prim.Native.Nat.{ℕ, suc, ◌+◌, ◌≤◌, ◌<◌}
use lib.Dec.{ltb, leb→le, ltb→lt}
use Rattle.lists.proofs.Tests.{passed, clash, and_left, and_right}
use Rattle.mos6502.specs.declared.Decoded.{Decoded}
use Rattle.mos6502.specs.Class.{length_of}
use Rattle.site.specs.declared.Site.{Site}
use Rattle.site.specs.Site.{whole_at, operand_at, next_at, whole_site, broken_site, site_at}

module _ (last a : ℕ) where
  -- n bytes at a: there is one, and they end by last
  abbrev Ends : (n : ℕ) → Type 0
  Ends n = (0 < n) × (a + n ≤ suc last)

  whole_ends : (n : ℕ) → whole_at last a n ≡ true → Ends n
  whole_ends n e =
      let t = passed e in
      (ltb→lt 0 n (and_left (ltb 0 n) _ t), leb→le (a + n) (suc last) (and_right (ltb 0 n) _ t))

  -- of two sites the test picks one, and it is the one that ends by last if that is whole
  picked : (test : Bool) (ended broken : Site) → broken.whole ≡ false → (test ≡ true → Ends ended.len)
      → (cond test ended broken).whole ≡ true → Ends (cond test ended broken).len
  picked true ended broken not-whole ends e = ends refl
  picked false ended broken not-whole ends e = absurd (clash e not-whole)

module _ (class : ℕ → Decoded) (byte : ℕ → ℕ) (last : ℕ) (inside : ℕ → Bool) (a : ℕ) where
  pub site_size : (site_at class byte last inside a).whole ≡ true
      → (0 < (site_at class byte last inside a).len) × (a + (site_at class byte last inside a).len ≤ suc last)
  unfolding site_at
  site_size =
      let d = class (byte a) in
      let n = length_of d.mode in
      picked last a (whole_at last a n) (whole_site (byte a) (operand_at byte a n) (next_at inside a n) d) (broken_site (byte a) d) refl (whole_ends last a n)
