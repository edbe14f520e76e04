-- Each byte takes at most one line of eight bytes.
use Rattle.std.proofs.Common.{◌+◌, ◌*◌, ◌≤◌, length}
use Rattle.replay.proofs.put_zero_page.Given as goal

abbrev pub invariant-loop-z : goal.invariant-loop-z
invariant-loop-z l = length l.out.items ≤ length l.initial.out.items + 8 * l.z
