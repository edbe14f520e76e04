-- `makejob::address` meets its contract: each digit that is read leaves the spelled address as it was, and what ends the word early makes it none.
use Rattle.std.proofs.Common.{◌≡◌, ◌+◌, ◌-◌, arith, length, get_or, drop, sym, ap, ◌∙◌}
use lib.Seq.{get_or-take, get_or-drop}
use Rattle.makejob.specs.Words.{digit_of}
use Rattle.makejob.proofs.Digits.{past_top, one_more, no_digit, at_end}
use Rattle.makejob.proofs.address.Goals as goal
use Rattle.makejob.proofs.address.Goals.{After-digit}

-- the byte that is read stands in the word itself
here : (c : After-digit) → c.digit.result ≡ digit_of (get_or c.args.word.now (c.mark-from.result + c.loop-c.c-index) 0)
here c =
    let rest = drop c.mark-from.result c.args.word.now in
    let taken = get_or-take (length c.args.word.now - c.mark-from.result) rest c.loop-c.c-index 0 (omega arith) in
    c.digit.ensures ∙ ap digit_of (taken ∙ get_or-drop c.mark-from.result c.args.word.now c.loop-c.c-index 0)

pub returns-in_err-d : goal.returns-in_err-d
returns-in_err-d c =
    let none = sym (here (goal.at.returns-in_err-d c).After-digit) ∙ c.in_err-d.was in
    c.from_residual.ensures
    ∙ sym (no_digit c.args.word.now c.loop-c.value (c.mark-from.result + c.loop-c.c-index) (omega arith) none)
    ∙ c.loop-c.invariant.so_far

pub returns-then-value-gt65535 : goal.returns-then-value-gt65535
returns-then-value-gt65535 c =
    let some = sym (here (goal.at.returns-then-value-gt65535 c).After-digit) ∙ c.in_ok-d.was in
    let next = c.mark-from.result + (c.loop-c.c-index + 1) in
    let with_digit =
    one_more c.args.word.now c.loop-c.value (c.mark-from.result + c.loop-c.c-index) (omega arith) c.in_ok-d.d next (omega arith) some in
    sym (sym c.loop-c.invariant.so_far ∙ with_digit ∙ past_top _ _ (omega arith))

pub loop-c-preserved : goal.loop-c-preserved
loop-c-preserved c =
    let some = sym (here (goal.at.loop-c-preserved c).After-digit) ∙ c.in_ok-d.was in
    let next = c.mark-from.result + (c.loop-c.c-index + 1) in
    let with_digit =
    one_more c.args.word.now c.loop-c.value (c.mark-from.result + c.loop-c.c-index) (omega arith) c.in_ok-d.d next (omega arith) some in
    record {
      fits = omega arith;
      so_far = sym with_digit ∙ c.loop-c.invariant.so_far;
    }

pub returns : goal.returns
returns c =
    sym (at_end c.args.word.now c.loop-c.value (c.mark-from.result + c.loop-c.c-index) (omega arith) (omega arith))
    ∙ c.loop-c.invariant.so_far
