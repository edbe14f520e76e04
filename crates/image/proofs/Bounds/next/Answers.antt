-- `image::Bounds::next` meets its contract: past 0xFFFF there is nothing inside.
use Rattle.std.proofs.Common.{◌≡◌, ◌+◌, false, arith}
use Rattle.image.specs.Image.{inside}
use Rattle.image.proofs.Inside.{inside_no}
use Rattle.image.proofs.Bounds.next.Goals as goal

pub returns-in_err-b : goal.returns-in_err-b
returns-in_err-b c =
    let b = c.args in
    let past_top : inside b.self.load b.self.last (b.a + b.n) ≡ false = inside_no _ _ _ (λ p q. c.in_err-b.ensures (omega arith)) in
    rw past_top c.from_residual.ensures
