-- `address_set::next_in` meets its contract: no address from `from` on and below the place that it looks at is a member.
use mathlib.Core.Path.{◌≡◌, ap, ◌∙◌}
use mathlib.Core.Bool.{false}
use mathlib.Core.List.{List}
use Prim.Native.Nat.{ℕ, ◌+◌, ◌-◌, ◌*◌, ◌≤◌, ◌<◌}
use native.Mathlib.Decide.{dec_lt}
use native.Mathlib.Omega.{arith}
use lib.ListN.{get_or}
use Rattle.std.specs.Int.{bit_at}
use Rattle.address_set.specs.Map.{has}
use Rattle.address_set.specs.Next.{Free, Least, LowestAt}
use Rattle.address_set.proofs.Laws.{has_at}
use Rattle.address_set.proofs.next_in.Goals as goal

-- the search has come to the place s of the byte i, and free up to there
module _ (m : List ℕ) (from i s : ℕ) (free : Free m from (i * 8 + s)) where
  -- below the place r of the byte, with no one from s on, there is no member
  free_to : (r : ℕ) → r ≤ 8 → ((j : ℕ) → s ≤ j → j < r → bit_at (get_or m i 0) j ≡ 0) → (end : ℕ) → end ≤ i * 8 + r → Free m from end
  free_to r p none end q k x y = at (dec_lt k (i * 8 + s))
    where
      at : Dec (k < i * 8 + s) → has m k ≡ false
      at (yes l) = free k x l
      at (no l) =
          let e : k ≡ i * 8 + (k - i * 8) = omega arith in
          ap (has m) e ∙ has_at m i (k - i * 8) (omega arith) ∙ rw (none (k - i * 8) (omega arith) (omega arith))

  least : {r last : ℕ} → from ≤ i * 8 + s → LowestAt (get_or m i 0) s r → i * 8 + r ≤ last → Least m from last (i * 8 + r)
  least {r} p found q = record {
    low = omega arith;
    high = q;
    member = has_at m i r found.high ∙ rw found.one;
    free = free_to r (omega arith) found.free (i * 8 + r) (omega arith);
  }

pub returns-then-a-last : goal.returns-then-a-last
returns-then-a-last c = least c.args.map.now _ c.loop-i.i c.loop-i.s c.loop-i.invariant.2 c.loop-i.invariant.1 c.in-Some.ensures (omega arith)

pub returns-else-a-last : goal.returns-else-a-last
returns-else-a-last c = free_to _ _ c.loop-i.i c.loop-i.s c.loop-i.invariant.2 _ (omega (arith, c.in-Some.ensures.high)) c.in-Some.ensures.free _ (omega arith)

pub loop-i-preserved : goal.loop-i-preserved
loop-i-preserved c = (omega arith, omega arith, free_to _ _ c.loop-i.i c.loop-i.s c.loop-i.invariant.2 8 (omega arith) c.in_default.ensures _ (omega arith))
