-- `text::digit_at` meets its contract: dividing by a power of sixteen takes off the digits behind, and before the fourth there is none.
use mathlib.Core.Path.{◌≡◌, refl, sym}
use native.Mathlib.Omega.{arith}
use Rattle.text.specs.Text.{digit_at}
use Rattle.text.proofs.Digits.{digit_before}
use Rattle.text.proofs.digit_at.Goals as goal
use Rattle.text.proofs.digit_at.Goals.{in-0, in-1, in-2, in-3, in_default}

pub returns : goal.returns
unfolding digit_at
returns c = elim c.match-i.branch [
  | in-0 w ↦ let here : c.args.i ≡ 0 = omega (arith, w.in-0) in (rw (w.rest-is, here) refl, omega arith)
  | in-1 w ↦ let here : c.args.i ≡ 1 = omega (arith, w.in-1) in (rw (w.rest-is, here) refl, omega arith)
  | in-2 w ↦ let here : c.args.i ≡ 2 = omega (arith, w.in-2) in (rw (w.rest-is, here) (omega arith), omega arith)
  | in-3 w ↦ let here : c.args.i ≡ 3 = omega (arith, w.in-3) in (rw (w.rest-is, here) (omega arith), omega arith)
  | in_default w ↦ (rw w.rest-is (sym (digit_before c.args.i c.args.value (omega (arith, w.in_default)) (omega arith))), omega arith)
]
