-- What each turn of `pages::mark_operands` keeps.
use Rattle.std.proofs.Common.{◌≡◌, ℕ, ◌||◌, length}
use Rattle.address_set.specs.Map.{members_in}
use Rattle.address_set.specs.Next.{left}
use Rattle.pages.specs.Pages.{is_on, any_of}
use Rattle.pages.specs.Surveys.{is_marked}
use Rattle.pages.proofs.mark_operands.Given as goal

-- a byte is marked now, or the operand of a member that is left, just where it is the operand of one of them all
abbrev pub invariant-loop-a : goal.invariant-loop-a
invariant-loop-a l =
    let b = l.fn.bounds in
    let named = λ (z : ℕ). any_of (is_on l.image b.load l.op z) in
    record {
      size : length l.marks ≡ 256;
      each : (z : ℕ) → (is_marked l.marks z || named z (left l.a-iterator)) ≡ named z (members_in b.load b.last l.map);
    }
