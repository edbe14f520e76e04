-- `stores::write_extent` meets its contract: each of its ways out is one of the answers.
use mathlib.Core.Bool.{true}
use mathlib.Core.Path.{◌≡◌, refl, sym, ◌∙◌}
use Prim.Native.Nat.{ℕ}
use lib.ListN.{length-replicate}
use Rattle.std.specs.Prelude.{Ok}
use Rattle.std.proofs.lemmas.Result.{err_from_is_err_and}
use Rattle.address_set.proofs.Laws.{empty_has}
use Rattle.opening.specs.Opening.{all_inside}
use Rattle.opening.proofs.First.{Opens, opened_as}
use Rattle.walk.specs.declared.Rule.TheVariants as rule
use Rattle.walk.specs.Walked.{Walked}
use Rattle.stores.proofs.Outcome.{outside, not_finished, Reached, reached, gather_room, no_bound, too_short, copied}
use Rattle.stores.proofs.write_extent.Goals as goal
use Rattle.stores.proofs.write_extent.Goals.{In_ok-opened, After-walk, In_ok-finished}

-- where the image is at its place
module _ (c : In_ok-opened) where
  opens : Opens c.args.image.now c.args.load c.args.entries.now (Ok c.in_ok-opened.opened.bounds)
  opens = opened_as _ _ _ c.in_ok-opened.ensures.bounds refl

pub returns-then-not-all_inside : goal.returns-then-not-all_inside
returns-then-not-all_inside c = outside _ _ _ _ (opens (goal.at.returns-then-not-all_inside c).In_ok-opened) (sym c.all_inside.ensures ∙ c.if-not-all_inside.true)

pub walk-requires : goal.walk-requires
walk-requires c = record { size = length-replicate {A = ℕ} 8192 0; none = empty_has 8192 }

-- where the walk has ended
module _ (c : After-walk) where
  all_in : all_inside c.in_ok-opened.opened.bounds.load c.in_ok-opened.opened.bounds.last c.args.entries.now ≡ true
  all_in = sym c.all_inside.ensures ∙ c.if-not-all_inside.false

  walked : Walked rule.Stores c.args.image.now c.in_ok-opened.opened.bounds.load c.in_ok-opened.opened.bounds.last c.args.entries.now c.walk.result c.walk.new.map
  walked = rw c.in_ok-opened.ensures.bytes at c.walk.ensures

pub returns-in_err-finished : goal.returns-in_err-finished
returns-in_err-finished c =
    let w = (goal.at.returns-in_err-finished c).After-walk in
    let p = err_from_is_err_and c.from_residual-in_err-finished.result c.from_residual-in_err-finished.ensures.1 in
    rw (p.1, p.2)
    (not_finished _ _ _ _ c.walk.result (opens (goal.at.returns-in_err-finished c).In_ok-opened) (all_in w) (walked w) (sym c.finished.ensures ∙ c.in_err-finished.was))

-- where it has finished
module _ (c : In_ok-finished) where
  known : Reached c.args.image.now c.args.load c.args.entries.now c.args.slots.now c.in_ok-opened.opened.bounds c.walk.new.map
  known =
      let w = (goal.at.In_ok-finished c).After-walk in
      reached _ _ _ _ c.walk.result (opens (goal.at.In_ok-finished c).In_ok-opened) (all_in w) (walked w) (sym c.finished.ensures ∙ c.in_ok-finished.was)

pub gather-requires : goal.gather-requires
gather-requires c = record { empty = c.new-records.ensures; room = gather_room _ _ _ _ (known (goal.at.gather-requires c).In_ok-finished) }

pub returns-in_err-gather : goal.returns-in_err-gather
returns-in_err-gather c =
    let p = err_from_is_err_and c.from_residual-in_err-gather.result c.from_residual-in_err-gather.ensures.1 in
    rw (p.1, p.2)
    (no_bound _ _ _ _ (known (goal.at.returns-in_err-gather c).In_ok-finished) c.gather.new.records.items (rw c.in_ok-opened.ensures.bytes at c.in_err-gather.ensures))

pub returns-then-slots-count : goal.returns-then-slots-count
returns-then-slots-count c =
    let count = c.len-count.ensures.value in
    let k = known (goal.at.returns-then-slots-count c).In_ok-finished in
    rw count (too_short _ _ _ _ k (rw c.in_ok-opened.ensures.bytes at c.in_ok-gather.ensures) (rw count at c.if-slots-count.true))

pub returns : goal.returns
returns c =
    let count = c.len-count.ensures.value in
    let k = known (goal.at.returns c).In_ok-finished in
    rw (count, c.copy_from_slice.ensures.after, c.as_slice.ensures.value)
    (copied _ _ _ _ k (rw c.in_ok-opened.ensures.bytes at c.in_ok-gather.ensures) (rw count at c.if-slots-count.false) refl)
