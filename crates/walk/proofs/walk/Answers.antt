-- `walk::walk` meets its contract. Each loop keeps the locals linked to the machine: the two outer ones between paths, the inner one on a path.
-- The middle loop's measure falls because a path takes what was put by, and puts by at most one address for each that it meets.
use mathlib.Core.Path.{◌≡◌, refl, sym, ◌∙◌}
use mathlib.Core.Bool.{true}
use mathlib.Core.List.{reverse}
use Prim.Native.Nat.{◌+◌}
use native.Mathlib.Omega.{arith}
use Rattle.std.proofs.lemmas.List.{reverse-append, length-reverse, nil_from_length}
use Rattle.std.specs.Slice.Iter.{iter_rest}
use Rattle.std.specs.Iterator.Adapters.{rev_source}
use Rattle.image.specs.Image.{inside}
use Rattle.image.proofs.Inside.{inside_bounds}
use Rattle.walk.proofs.Link.{Met, begins, taken, popped, finished, outside, again, spent, meets}
use Rattle.walk.proofs.walk.Invariants.{setting}
use Rattle.walk.proofs.walk.Goals as goal
use Rattle.walk.proofs.walk.Goals.{After-step_at, Else-not-inside, then-not-inside-via-then-not-inside, then-not-inside-via-else-not-inside+then-not-insert}

-- past the first test pc is inside
entered : (c : Else-not-inside) →
    let bounds = c.args.image.bounds in
    inside bounds.load bounds.last c.loop-map.pc ≡ true
entered c = sym c.inside.ensures ∙ c.if-not-inside.false

-- past all three tests pc is met, and the step there is known
stepped : (c : After-step_at) →
    let a = c.args in
    Met (setting a.rule a.image a.entries.now) c.insert.new.map (c.loop-map.met + 1) c.loop-map.pc
    (reverse c.loop-map.pending.items) (reverse (iter_rest (rev_source c.next.new.self))) c.step_at.result
stepped c =
    meets c.loop-map.invariant.0 c.insert.ensures (entered (goal.at.After-step_at c).Else-not-inside) c.if-not-insert.false
    c.if-met-eq-BUDGET.false c.step_at.result c.step_at.ensures

pub outer-init : goal.outer-init
outer-init c =
    rw (c.into_iter-entry-iterator.ensures.into_iter_gives, c.rev-entry-items.ensures.source, c.iter.ensures.rest) (begins c.requires, omega arith, c.new-pending.ensures, refl)

pub loop-start-init : goal.loop-start-init
loop-start-init c =
    let k = rw (c.in-Some.ensures.steps, reverse-append) at c.outer.invariant.0 in
    (rw (c.push.ensures.items, c.outer.invariant.2) (taken _ _ k), c.outer.invariant.1, c.outer.invariant.3)

pub loop-map-init : goal.loop-map-init
loop-map-init c = (popped _ (rw (c.in-Some-pop.ensures.items, reverse-append) at c.loop-start.invariant.0), c.loop-start.invariant.1, omega arith, c.loop-start.invariant.2)

pub loop-start-preserved-then-not-inside : goal.loop-start-preserved-then-not-inside
loop-start-preserved-then-not-inside c =
    let k = c.loop-map.invariant.0 in
    elim c.then-not-inside.branch [
      | then-not-inside-via-then-not-inside w ↦ (rw w.map-is (outside k (sym c.inside.ensures ∙ w.if-not-inside.true)), omega arith, c.loop-map.invariant.3)
      | then-not-inside-via-else-not-inside+then-not-insert w ↦ (rw w.map-is (again k w.insert.ensures w.if-not-insert.true), omega arith, c.loop-map.invariant.3)
    ]

pub returns-then-met-eq-BUDGET : goal.returns-then-met-eq-BUDGET
returns-then-met-eq-BUDGET c =
    spent c.loop-map.invariant.0 c.insert.ensures (entered (goal.at.returns-then-met-eq-BUDGET c).Else-not-inside) c.if-not-insert.false c.if-met-eq-BUDGET.true

pub step_at-requires : goal.step_at-requires
step_at-requires c =
    let b = inside_bounds _ _ _ (entered (goal.at.step_at-requires c).Else-not-inside) in
    (b.0, b.1)

pub loop-start-preserved : goal.loop-start-preserved
loop-start-preserved c = (rw c.in-Ends.is at (stepped (goal.at.loop-start-preserved c).After-step_at), omega arith, c.loop-map.invariant.3)

pub returns-in-Refuses : goal.returns-in-Refuses
returns-in-Refuses c = rw c.in-Refuses.is at (stepped (goal.at.returns-in-Refuses c).After-step_at)

pub loop-map-preserved-in-Goes : goal.loop-map-preserved-in-Goes
loop-map-preserved-in-Goes c = (rw c.in-Goes.is at (stepped (goal.at.loop-map-preserved-in-Goes c).After-step_at), omega arith, omega arith, c.loop-map.invariant.3)

pub returns-in-Err : goal.returns-in-Err
returns-in-Err c =
    (rw c.in-Forks.is at (stepped (goal.at.returns-in-Err c).After-step_at)).0 (length-reverse c.loop-map.pending.items ∙ c.in-Err.ensures.full)

pub loop-map-preserved : goal.loop-map-preserved
loop-map-preserved c =
    let k = (rw c.in-Forks.is at (stepped (goal.at.loop-map-preserved c).After-step_at)).1 (omega (arith, length-reverse c.loop-map.pending.items, c.in-Ok.ensures.variant.0 refl)) in
    (rw (c.in-Ok.ensures.ok, reverse-append) k, omega arith, omega (arith, c.in-Ok.ensures.len), c.loop-map.invariant.3)

pub returns-in-None : goal.returns-in-None
returns-in-None c = rw c.outer.invariant.3 (finished (rw (nil_from_length _ c.in-None.ensures.steps.0) at c.outer.invariant.0))
