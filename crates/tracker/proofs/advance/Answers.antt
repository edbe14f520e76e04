-- `tracker::advance` meets its contract: at the head of each turn the tracker of every longer prefix comes to this place with this state.
use mathlib.Core.Path.{sym, ◌∙◌}
use native.Mathlib.Omega.{arith}
use Rattle.tracker.proofs.Passage.{pass_two, pass_one, at_end}
use Rattle.tracker.proofs.advance.Goals as goal

pub loop-at-preserved-then-is_tracked : goal.loop-at-preserved-then-is_tracked
loop-at-preserved-then-is_tracked c =
    let passed = pass_two _ _ _ c.loop-at.invariant.0 (sym c.is_tracked.ensures ∙ c.if-is_tracked.true) in
    (rw (c.loaded-regs.ensures, c.store.ensures, c.stored.ensures) passed, omega arith, c.loop-at.invariant.2)

pub loop-at-preserved : goal.loop-at-preserved
loop-at-preserved c = (pass_one _ _ _ c.loop-at.invariant.0 (omega arith) (sym c.is_tracked.ensures ∙ c.if-is_tracked.false), omega arith, c.loop-at.invariant.2)

pub returns : goal.returns
returns c = record {
  reached = c.loop-at.invariant.0;
  by = c.loop-at.invariant.1;
  state = at_end _ _ _ c.loop-at.invariant.0 _ c.loop-at.invariant.1 (omega arith) c.loop-at.invariant.2;
}
