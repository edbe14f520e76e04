-- `replay::answer_all` ends: the turns that are left fall, from a number that no run uses up.
use Rattle.replay.proofs.answer_all.Given as goal

abbrev pub decreases-loop-turns : goal.decreases-loop-turns
decreases-loop-turns g l = l.turns
