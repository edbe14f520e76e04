-- `diagnosis::diagnose` meets its contract: each of its ways out is one of the answers. What is said of the opened image is said of the lent one,
-- which has the same bytes.
use mathlib.Core.Path.{refl}
use Prim.Native.Nat.{ℕ, ◌-◌, ◌<◌}
use lib.ListN.{length-replicate}
use Rattle.std.specs.Prelude.{Ok}
use Rattle.lists.specs.Lists.{◌∈◌}
use Rattle.lists.proofs.Sets.{all_below}
use Rattle.image.specs.Image.{byte_at}
use Rattle.address_set.specs.Map.{Within}
use Rattle.address_set.proofs.Laws.{empty_has}
use Rattle.walk.proofs.Members.{met_within}
use Rattle.opening.proofs.First.{Opens, opened_as}
use Rattle.diagnosis.proofs.Adding.{added_within}
use Rattle.diagnosis.proofs.Outcome.{short, answered}
use Rattle.diagnosis.proofs.diagnose.Goals as goal
use Rattle.diagnosis.proofs.diagnose.Goals.{After-walk-end, After-concerned_range-concerned}

pub walk-end-requires : goal.walk-end-requires
walk-end-requires c = record { size = length-replicate {A = ℕ} 8192 0; none = empty_has 8192 }

-- every entry is an address
words : (c : After-walk-end) → (a : ℕ) → a ∈ c.args.entries.now → a < 65536
words c = all_below c.args.entries.now 65536 (λ i. (c.type_inv.entries i).fits)

-- the first tests passed
opened : (c : After-walk-end) → Opens c.in_ok-opened.opened.bytes.now c.args.load c.args.entries.now (Ok c.in_ok-opened.opened.bounds)
opened c = rw c.in_ok-opened.ensures.bytes (opened_as c.args.image.now c.args.load c.args.entries.now c.in_ok-opened.ensures.bounds refl)

pub size-count-requires : goal.size-count-requires
size-count-requires c = met_within c.walk-end.ensures c.in_ok-opened.opened.lies.top

-- the members lie in the range
within : (c : After-concerned_range-concerned) → Within c.concerned_range-concerned.result.load c.concerned_range-concerned.result.last c.add_outside.new.map
within c = added_within (met_within c.walk-end.ensures c.in_ok-opened.opened.lies.top) c.add_outside.ensures c.concerned_range-concerned.ensures

pub count_pairs-n-requires : goal.count_pairs-n-requires
count_pairs-n-requires c = within (goal.at.count_pairs-n-requires c).After-concerned_range-concerned

pub fill-requires-clause-fit : goal.fill-requires-clause-fit
unfolding byte_at
fill-requires-clause-fit c = rw c.in_ok-opened.ensures.bytes (λ load a. (c.type_inv.image (a - load)).fits)

pub fill-requires-clause-within : goal.fill-requires-clause-within
fill-requires-clause-within c = within (goal.at.fill-requires-clause-within c).After-concerned_range-concerned

pub returns-then-slots-n : goal.returns-then-slots-n
returns-then-slots-n c =
    let walked = (goal.at.returns-then-slots-n c).After-walk-end in
    rw (← c.in_ok-opened.ensures.bytes)
    (short _ _ _ (words walked) c.in_default.not-Full c.undecoded_of-undecoded.ensures c.args.slots.now (opened walked) c.walk-end.ensures
    c.add_outside.ensures c.count_pairs-n.ensures c.if-slots-n.true)

pub returns : goal.returns
returns c =
    let walked = (goal.at.returns c).After-walk-end in
    rw (← c.in_ok-opened.ensures.bytes)
    (answered _ _ _ (words walked) c.in_default.not-Full c.undecoded_of-undecoded.ensures c.args.slots.now _ (opened walked) c.walk-end.ensures
    c.extent_of-range.ensures c.size-count.ensures c.add_outside.ensures c.count_pairs-n.ensures c.if-slots-n.false c.fill.ensures)
