-- `recorder::count_pairs` meets its contract: the range has all members. No address has more than two causes, so the count is at most twice that of the
-- addresses.
use mathlib.Core.Path.{◌≡◌, ap}
use mathlib.Core.List.{List}
use Prim.Native.Nat.{ℕ, suc, ◌+◌, ◌-◌}
use native.Mathlib.Omega.{arith}
use lib.ListN.{length}
use Rattle.lists.proofs.Scan.{scan_length}
use Rattle.address_set.specs.Map.{has, members_in}
use Rattle.address_set.specs.Next.{left}
use Rattle.recorder.proofs.Members.{members_all, pairs, pairs_none, pairs_more, pairs_few}
use Rattle.recorder.proofs.count_pairs.Goals as goal
use Rattle.recorder.proofs.count_pairs.Goals.{After-count_of-n, In-Some}

-- how many pairs some addresses have
abbrev all : (c : In-Some) → List ℕ → ℕ
all c l = length (pairs c.args.image.bytes.now c.args.image.bounds.load c.args.image.bounds.last c.args.undecoded l)

-- a turn counts those of one address
counted : (c : After-count_of-n) → let some = (goal.at.After-count_of-n c).In-Some in
    all some (left c.loop-a.a-iterator) ≡ c.count_of-n.result + all some (left c.next.new.self)
counted c =
    let image = c.args.image in
    let step = ap (all (goal.at.After-count_of-n c).In-Some) c.in-Some.ensures.steps in
    let more = pairs_more image.bytes.now image.bounds.load image.bounds.last c.args.undecoded c.in-Some.a (left c.next.new.self) in
    omega (arith, step, more, ap length c.causes_at.ensures)

pub overflow_add-n : goal.overflow_add-n
overflow_add-n c =
    let image = c.args.image in
    let range = c.args.range in
    let map = c.args.map.now in
    let few = pairs_few image.bytes.now image.bounds.load image.bounds.last c.args.undecoded (members_in range.load range.last map) in
    omega (arith, counted (goal.at.overflow_add-n c).After-count_of-n, few, scan_length (has map) range.load (suc range.last - range.load))

pub loop-a-preserved : goal.loop-a-preserved
loop-a-preserved c = omega (arith, counted (goal.at.loop-a-preserved c).After-count_of-n)

pub returns : goal.returns
returns c =
    let image = c.args.image in
    let none = pairs_none image.bytes.now image.bounds.load image.bounds.last c.args.undecoded c.in-None.ensures.steps.0 in
    let members = members_all c.requires (omega arith) in
    omega (arith, ap length none, ap (λ (l : List ℕ). length (pairs image.bytes.now image.bounds.load image.bounds.last c.args.undecoded l)) members)
