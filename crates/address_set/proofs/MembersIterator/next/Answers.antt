-- What is left begins with the least member that `next_in` finds, and nothing is left where it finds none.
use Rattle.std.proofs.Common.{arith, ap, length}
use Rattle.address_set.proofs.Laws.{next_at, next_nothing}
use Rattle.address_set.proofs.MembersIterator.next.Goals as goal

pub returns-in_err-a-clause-steps : goal.returns-in_err-a-clause-steps
returns-in_err-a-clause-steps c =
    let none_left = next_nothing _ _ _ c.next_in.ensures c.in_err-a.was in
    rw c.from_residual.ensures (none_left, none_left)

pub returns-clause-steps : goal.returns-clause-steps
returns-clause-steps c = next_at _ _ _ c.next_in.ensures c.in_ok-a.was

pub returns-clause-goes : goal.returns-clause-goes
returns-clause-goes c =
    let one_fewer = ap length (next_at _ _ _ c.next_in.ensures c.in_ok-a.was) in
    record { on = λ f. (tt, tt, omega (arith, one_fewer)); keeps = tt; rests = λ f. tt }
