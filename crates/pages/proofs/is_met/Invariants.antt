-- What each turn of `pages::is_met` keeps.
use Rattle.std.proofs.Common.{◌≡◌}
use Rattle.address_set.specs.Map.{members_in}
use Rattle.address_set.specs.Next.{left}
use Rattle.pages.specs.Pages.{is_op, any_of}
use Rattle.pages.proofs.is_met.Given as goal

-- the opcode is among the members that are left just where it is among them all
abbrev pub invariant-loop-a : goal.invariant-loop-a
invariant-loop-a l =
    let b = l.fn.bounds in
    let met = any_of (is_op l.image b.load l.op) in
    met (left l.a-iterator) ≡ met (members_in b.load b.last l.map)
