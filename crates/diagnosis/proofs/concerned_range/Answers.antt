-- `diagnosis::concerned_range` meets its contract: where all entries are inside, the image's own range has them, and else every address does.
use mathlib.Core.Path.{sym, ◌∙◌}
use native.Mathlib.Omega.{arith}
use Rattle.lists.proofs.Sets.{all_below}
use Rattle.lists.proofs.Tests.{pass, passed}
use Rattle.image.proofs.Inside.{inside_bounds}
use Rattle.opening.proofs.First.{all_inside_mem}
use Rattle.diagnosis.proofs.concerned_range.Goals as goal

pub returns-then-all_inside : goal.returns-then-all_inside
returns-then-all_inside c =
    let a = c.args in
    let all = sym c.all_inside.ensures ∙ c.if-all_inside.true in
    record {
      image = (omega arith, omega arith);
      each = λ e k. inside_bounds a.bounds.load a.bounds.last e (pass _ (all_inside_mem a.bounds.load a.bounds.last a.entries.now (passed all) e k));
    }

pub returns : goal.returns
returns c =
    let words = all_below c.args.entries.now 65536 (λ i. (c.type_inv.entries i).fits) in
    record { image = (omega arith, omega arith); each = λ e k. (omega arith, omega (arith, words e k)) }
