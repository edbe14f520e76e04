-- `address_set::size` meets its contract: the ones of the byte i are as many as the members from i * 8 on and below (i + 1) * 8, and the bytes that it leaves
-- out, before that of `first` and after that of `last`, have none.
use mathlib.Core.Path.{◌≡◌, sym, ap, ◌∙◌}
use mathlib.Core.List.{List, []}
use Prim.Native.Nat.{ℕ, zero, suc, ◌+◌, ◌-◌, ◌*◌, ◌/◌, ◌^◌, ◌≤◌, ◌<◌}
use native.Mathlib.Nat.{add-zero, zero-add, div-one}
use native.Mathlib.Omega.{arith}
use lib.Arith.{lt-one}
use lib.Count.{ones, ones_step}
use lib.Dec.{eqb}
use lib.ListN.{length, get_or, length-append}
use lib.Pow.{shr_lt, shr-shr}
use Rattle.lists.specs.Lists.{keep, scan}
use Rattle.lists.proofs.Scan.{scan_split, scan_none, scan_within, scan_length}
use Rattle.lists.proofs.Tests.{fail}
use Rattle.std.specs.Int.{bit_at}
use Rattle.std.specs.List.{between}
use Rattle.std.proofs.lemmas.List.Edits.{get_or-between, length-between}
use Rattle.std.proofs.lemmas.Nat.Bits.{bit_at-lt}
use Rattle.address_set.specs.Map.{has, members, Within}
use Rattle.address_set.proofs.Laws.{has_at}
use Rattle.address_set.proofs.size.Goals as goal

keep_length : (d a : ℕ) (l : List ℕ) → d < 2 → length (keep (eqb d 1) a l) ≡ d + length l
keep_length zero a l h = omega arith
keep_length (suc zero) a l h = omega arith
keep_length (suc (suc d)) a l h = absurd (omega arith)

module _ (m : List ℕ) (i : ℕ) where
  -- from the place j on, where the byte i has k digits left: a member for each one
  ones_from : (k j : ℕ) → k + j ≤ 8 → get_or m i 0 < 2 ^ (k + j) → length (scan (has m) (i * 8 + j) k) ≡ ones (get_or m i 0 / 2 ^ j)
  unfolding scan ones
  ones_from zero j p h = rw (lt-one (shr_lt zero j h))
  ones_from (suc k) j p h =
      let x : ℕ = get_or m i 0 in
      let more : suc k + j ≡ k + (j + 1) = omega arith in
      let past : suc (i * 8 + j) ≡ i * 8 + (j + 1) = omega arith in
      let rest = ones_from k (j + 1) (omega arith) (rw more at h) in
      rw (has_at m i j (omega arith), past)
      (omega (arith, keep_length (bit_at x j) (i * 8 + j) (scan (has m) (i * 8 + (j + 1)) k) (bit_at-lt x j), ones_step (x / 2 ^ j), ap ones (shr-shr x j 1)))

  byte_more : get_or m i 0 < 2 ^ 8 → length (scan (has m) 0 ((i + 1) * 8)) ≡ length (scan (has m) 0 (i * 8)) + ones (get_or m i 0)
  byte_more h =
      let e : (i + 1) * 8 ≡ i * 8 + 8 = omega arith in
      rw (e, scan_split, length-append, zero-add, ← add-zero (i * 8), ones_from 8 0 (omega arith) h, div-one)

module _ {m : List ℕ} {first last : ℕ} (within : Within first last m) (i : ℕ) where
  -- the bytes below i, and those from i on, where they lie out of the range
  none_before : i * 8 ≤ first → scan (has m) 0 (i * 8) ≡ []
  none_before h = scan_none (has m) 0 (i * 8) (λ b p q. fail (has m b) (λ t. omega (arith, within.each b t)))

  none_after : last < i * 8 → i ≤ 8192 → members m ≡ scan (has m) 0 (i * 8)
  unfolding members
  none_after h p =
      let e : i * 8 - 0 ≡ i * 8 = omega arith in
      scan_within (has m) 0 0 (i * 8) 65536 (omega arith) (omega arith) (omega arith) (λ b x y t. omega (arith, within.each b t)) ∙ ap (scan (has m) 0) e

-- the byte that a loop over the bytes from b on, and below e, comes to at its place j
module _ (m : List ℕ) (b e j : ℕ) (room : e ≤ length m) (fits : (i : ℕ) → get_or m i 0 < 256) (h : j < length (between b e m)) where
  here : get_or (between b e m) j 0 ≡ get_or m (b + j) 0
  here = get_or-between m b e j 0 (omega (arith, length-between m b e room))

  one_more : length (scan (has m) 0 ((b + (j + 1)) * 8)) ≡ length (scan (has m) 0 ((b + j) * 8)) + ones (get_or (between b e m) j 0)
  one_more =
      let past : b + (j + 1) ≡ b + j + 1 = omega arith in
      ap (λ (i : ℕ). length (scan (has m) 0 (i * 8))) past ∙ rw here (byte_more m (b + j) (fits (b + j)))

pub loop-x-init : goal.loop-x-init
loop-x-init c = sym (ap length (none_before c.requires (c.min-bottom.result + 0) (omega arith)))

pub overflow_add-n : goal.overflow_add-n
overflow_add-n c =
    let m = c.args.map.now in
    let b = c.min-bottom.result in
    omega (
      arith,
      one_more m b (c.args.last / 8 + 1) c.loop-x.x-index (omega arith) c.fits-map c.loop-x-test.true,
      scan_length (has m) 0 ((b + (c.loop-x.x-index + 1)) * 8),
    )

pub loop-x-preserved : goal.loop-x-preserved
loop-x-preserved c =
    let next = one_more c.args.map.now c.min-bottom.result (c.args.last / 8 + 1) c.loop-x.x-index (omega arith) c.fits-map c.loop-x-test.true in
    rw (next, c.loop-x.invariant)

pub returns : goal.returns
returns c =
    let m = c.args.map.now in
    let end : c.min-bottom.result + c.loop-x.x-index ≡ c.args.last / 8 + 1 =
    omega (arith, length-between m c.min-bottom.result (c.args.last / 8 + 1) (omega arith))
    in
    c.loop-x.invariant ∙ sym (ap length (none_after c.requires (c.min-bottom.result + c.loop-x.x-index) (omega arith) (omega arith)))
