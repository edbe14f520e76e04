-- `diagnosis::add_outside` meets its contract: an entry inside adds nothing, and one outside is one more member.
use mathlib.Core.Path.{sym, ◌∙◌}
use native.Mathlib.Omega.{arith}
use Rattle.diagnosis.proofs.Adding.{added_inside, added_outside}
use Rattle.diagnosis.proofs.add_outside.Goals as goal
use Rattle.diagnosis.proofs.add_outside.Goals.{then-not-inside, else-not-inside}

pub loop-e-preserved : goal.loop-e-preserved
loop-e-preserved c =
    elim c.if-not-inside.branch [
      | then-not-inside w ↦ rw w.map-is (added_outside c.loop-e.invariant (omega arith) (sym c.inside.ensures ∙ w.if-not-inside.true) w.insert.ensures)
      | else-not-inside w ↦ rw w.map-is (added_inside c.loop-e.invariant (omega arith) (sym c.inside.ensures ∙ w.if-not-inside.false))
    ]
