-- What each turn of `diagnosis::add_outside` keeps: with the entries that are left, the map has what it is to have in the end.
use Rattle.diagnosis.proofs.Adding.{Adding}
use Rattle.diagnosis.proofs.add_outside.Given as goal

abbrev pub invariant-loop-e : goal.invariant-loop-e
invariant-loop-e l = Adding l.bounds.load l.bounds.last l.entries l.initial.map l.map l.e-index
