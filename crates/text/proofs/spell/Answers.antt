-- `text::spell` meets its contract. The loop's invariant: the digits that are left, before those written, are the whole number.
use mathlib.Core.Path.{◌≡◌, sym, ap, ◌∙◌, subst}
use mathlib.Core.List.{List, ◌∷◌, ◌++◌, append-nil}
use Prim.Native.Nat.{ℕ, zero, suc, ◌+◌, ◌-◌, ◌/◌, ◌%◌, ◌^◌, ◌≤◌, ◌<◌}
use native.Mathlib.Omega.{arith}
use lib.ListN.{drop, set, length-set, drop_of_length-le}
use Rattle.text.specs.Text.{decimal_by, decimal_of}
use Rattle.text.proofs.Digits.{fewer, store_before, decimal_step, decimal_first}
use Rattle.text.proofs.spell.Invariants.{Spelt}
use Rattle.text.proofs.spell.Goals as goal
use Rattle.text.proofs.spell.Goals.{At-loop-rest}

module _ (value : ℕ) (digits : List ℕ) (first rest : ℕ) (spelt : Spelt value digits (suc first) rest) where
  abbrev one_more : List ℕ
  one_more = set digits first (48 + rest % 10)

  stored : drop first one_more ≡ (48 + rest % 10) ∷ drop (suc first) digits
  stored = store_before digits first (48 + rest % 10) (omega arith)

  spelt_first : rest < 10 → drop first one_more ≡ decimal_of value
  spelt_first h = stored ∙ sym (decimal_first first rest (drop (suc first) digits) h) ∙ spelt.whole

  spelt_next : 10 ≤ rest → Spelt value one_more first (rest / 10)
  spelt_next h = record {
    size = length-set digits first (48 + rest % 10) ∙ spelt.size;
    some = left first spelt.below;
    fits = omega arith;
    below = fewer first rest spelt.below;
    whole = ap (λ (l : List ℕ). decimal_by first (rest / 10) ++ l) stored ∙ sym (decimal_step first rest (drop (suc first) digits) h) ∙ spelt.whole;
  }
    where
      left : (first : ℕ) → rest < 10 ^ suc first → 1 ≤ first
      left zero k = absurd (omega arith)
      left (suc first) k = omega arith

-- there is a digit left
one_digit : (c : At-loop-rest) → Spelt c.args.value c.loop-rest.digits (suc (c.loop-rest.first - 1)) c.loop-rest.rest
one_digit c =
    let loop = c.loop-rest in
    let one : loop.first ≡ suc (loop.first - 1) = omega (arith, loop.invariant.some) in
    subst (λ (first : ℕ). Spelt c.args.value loop.digits first loop.rest) one loop.invariant

pub loop-rest-init : goal.loop-rest-init
loop-rest-init c = record {
  size = c.requires;
  some = omega arith;
  fits = omega arith;
  below = omega arith;
  whole = rw (drop_of_length-le c.args.digits.now {i = 20} (omega arith), append-nil);
}

pub returns-then-rest-lt10 : goal.returns-then-rest-lt10
returns-then-rest-lt10 c =
    let loop = c.loop-rest in
    let spelt = one_digit (goal.at.returns-then-rest-lt10 c).At-loop-rest in
    (simp length-set spelt.size, omega arith, spelt_first _ loop.digits (loop.first - 1) loop.rest spelt c.if-rest-lt10.true)

pub loop-rest-preserved : goal.loop-rest-preserved
loop-rest-preserved c =
    let loop = c.loop-rest in
    spelt_next _ loop.digits (loop.first - 1) loop.rest (one_digit (goal.at.loop-rest-preserved c).At-loop-rest) c.if-rest-lt10.false
