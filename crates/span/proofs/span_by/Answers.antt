-- `span::span_by` meets its contract: each of its ways out is one of the answers.
use Rattle.std.proofs.Common.{ℕ, sym, refl, ◌∙◌, ◌≡◌, Err, rules}
use lib.ListN.{length-replicate}
use Rattle.address_set.proofs.Laws.{empty_has}
use Rattle.walk.proofs.Members.{met_within}
use Rattle.opening.proofs.First.{opened_as}
use Rattle.span.proofs.Outcome.{outside, halted, spanned}
use Rattle.span.proofs.span_by.Goals as goal

pub walk-requires : goal.walk-requires
walk-requires c = record { size = length-replicate {A = ℕ} 8192 0; none = empty_has 8192 }

pub size-requires : goal.size-requires
size-requires c = met_within c.walk.ensures c.in_ok-image.image.lies.top

pub returns-then-not-all_inside : goal.returns-then-not-all_inside
returns-then-not-all_inside c =
    outside _ _ _ c.args.reading (opened_as _ _ _ c.in_ok-image.ensures.bounds refl) (sym c.all_inside.ensures ∙ c.if-not-all_inside.true)

pub returns-in_err-finished : goal.returns-in_err-finished
returns-in_err-finished c =
    let same : c.from_residual-in_err-finished.result ≡ Err c.in_err-finished.field-0.0 = search rules in
    let walked = rw c.in_ok-image.ensures.bytes at c.walk.ensures in
    rw same
    (halted c.args.image.now c.args.load c.args.entries.now c.args.reading c.walk.result (opened_as _ _ _ c.in_ok-image.ensures.bounds refl)
    (sym c.all_inside.ensures ∙ c.if-not-all_inside.false) walked (sym c.in_err-finished.ensures))

pub returns : goal.returns
returns c =
    let walked = rw c.in_ok-image.ensures.bytes at c.walk.ensures in
    let over = rw c.in_ok-image.ensures.bytes at c.extent_of-e.ensures in
    spanned c.args.image.now c.args.load c.args.entries.now c.args.reading c.walk.result (opened_as _ _ _ c.in_ok-image.ensures.bounds refl)
    (sym c.all_inside.ensures ∙ c.if-not-all_inside.false) walked (sym c.in_ok-finished.ensures) over c.size.ensures
