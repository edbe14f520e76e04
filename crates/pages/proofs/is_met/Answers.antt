-- `pages::is_met` meets its contract: what the iterator gives is the first of the members that are left.
use Rattle.std.proofs.Common.{sym, ◌∙◌}
use Rattle.pages.specs.Pages.{any_of}
use Rattle.pages.proofs.is_met.Goals as goal

pub returns-then-is_op : goal.returns-then-is_op
unfolding any_of
returns-then-is_op c = rw (sym c.is_op.ensures ∙ c.if-is_op.true) at (rw c.in-Some.ensures.steps at c.loop-a.invariant)

pub loop-a-preserved : goal.loop-a-preserved
unfolding any_of
loop-a-preserved c = rw (sym c.is_op.ensures ∙ c.if-is_op.false) at (rw c.in-Some.ensures.steps at c.loop-a.invariant)

pub returns : goal.returns
unfolding any_of
returns c = rw c.in-None.ensures.steps.0 at c.loop-a.invariant
