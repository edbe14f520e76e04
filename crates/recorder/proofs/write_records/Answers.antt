-- `recorder::write_records` meets its contract: the range has all members, so the records of what the loop goes over are all records, and they fit.
use mathlib.Core.Path.{◌≡◌, refl, sym, ap, ◌∙◌}
use mathlib.Core.List.{List, ◌∷◌, ◌++◌}
use mathlib.Core.List.Memᴰ.{head as here}
use Prim.Native.Nat.{ℕ, suc, ◌-◌, ◌≤◌, ◌<◌}
use native.Mathlib.Omega.{arith}
use lib.ListN.{length, length-append, length-map}
use Rattle.lists.specs.Lists.{◌∈◌, Ascending}
use Rattle.lists.proofs.Filling.{filled_none, filled_all, filled_room}
use Rattle.lists.proofs.Scan.{scan_ascending}
use Rattle.image.proofs.Inside.{inside_bounds}
use Rattle.address_set.specs.Map.{has, members_in}
use Rattle.address_set.specs.Next.{left}
use Rattle.site.specs.Site.{list_of}
use Rattle.tracker.specs.Track.{nothing}
use Rattle.tracker.proofs.Passage.{reached_start}
use Rattle.recorder.specs.Records.{records_with, written}
use Rattle.recorder.proofs.Members.{members_all, records, records_none, records_next}
use Rattle.recorder.proofs.Filling.{filled_put}
use Rattle.recorder.proofs.Sharing.{Ready, ready_inside, ready_outside}
use Rattle.recorder.proofs.write_records.Goals as goal
use Rattle.recorder.proofs.write_records.Goals.{In-Some, Joined-inside, Start, Then-inside, then-inside, else-inside}

-- the records of some members
abbrev over : (c : Start) → List ℕ → List ℕ
over c l =
    let image = c.args.image in
    let inside = members_in image.bounds.load image.bounds.last c.args.map.now in
    records image.bytes.now image.bounds.load image.bounds.last c.args.undecoded inside l

pub loop-a-init : goal.loop-a-init
unfolding nothing
loop-a-init c =
    let made = c.start-place.ensures in
    rw (made.0, made.1, c.into_iter-a-iterator.ensures.into_iter_gives, c.members_in-a-items.ensures) (filled_none _ _, reached_start _, λ b k. omega arith)

-- the range has them all, and all fit
all_written : (c : Start) → over c (members_in c.args.range.load c.args.range.last c.args.map.now)
    ≡ written c.args.image.bytes.now c.args.image.bounds.load c.args.image.bounds.last c.args.undecoded c.args.map.now
all_written c = ap (over c) (sym (members_all c.requires.within (omega arith)))

fits : (c : Start) → length (over c (members_in c.args.range.load c.args.range.last c.args.map.now)) ≤ length c.args.slots.now
fits c = rw (all_written c, length-map) c.requires.room

pub returns : goal.returns
returns c =
    let start = (goal.at.returns c).Start in
    let none = records_none _ _ _ _ _ c.in-None.ensures.steps.0 in
    record { after = rw (all_written start, length-map) at (filled_all c.loop-a.invariant.0 none) }

-- in a turn: the tracker stands before the address
before : (c : In-Some) → c.loop-a.place.at ≤ c.in-Some.a - c.args.image.bounds.load
before c = c.loop-a.invariant.2 c.in-Some.a (rw c.in-Some.ensures.steps (here refl))

-- the addresses that are left are past it
past : (c : In-Some) → (b : ℕ) → b ∈ left c.next.new.self → c.in-Some.a < b
past c =
    let it = c.loop-a.a-iterator in
    let ascending : Ascending (c.in-Some.a ∷ left c.next.new.self) = rw c.in-Some.ensures.steps at (scan_ascending (has it.map.now) it.from (suc it.last - it.from)) in
    ascending.0

-- where the address is inside
within : (c : Then-inside) → (c.args.image.bounds.load ≤ c.in-Some.a) × (c.in-Some.a ≤ c.args.image.bounds.last)
within c = inside_bounds _ _ _ (sym c.inside.ensures ∙ c.if-inside.true)

pub overflow_sub-a : goal.overflow_sub-a
overflow_sub-a c = (within (goal.at.overflow_sub-a c).Then-inside).0

pub advance-place-requires : goal.advance-place-requires
advance-place-requires c =
    (c.loop-a.invariant.1, before (goal.at.advance-place-requires c).In-Some, omega (arith, within (goal.at.advance-place-requires c).Then-inside, c.args.image.lies))

pub facts_at-facts-requires : goal.facts_at-facts-requires
facts_at-facts-requires c = within (goal.at.facts_at-facts-requires c).Then-inside

-- after the branch
ready : (c : Joined-inside)
    → let image = c.args.image in
    Ready image.bytes.now image.bounds.load image.bounds.last (members_in image.bounds.load image.bounds.last c.args.map.now) c.args.undecoded c.in-Some.a
    c.if-inside.facts c.if-inside.place c.if-inside.zp
ready c =
    let test = sym c.inside.ensures in
    elim c.if-inside.branch [
      | then-inside w ↦ rw (w.zp-is, w.place-is, w.facts-is)
          (ready_inside (test ∙ w.if-inside.true) w.advance-place.ensures c.requires.told w.facts_at-facts.ensures)
      | else-inside w ↦ rw (w.zp-is, w.place-is, w.facts-is)
          (ready_outside (test ∙ w.if-inside.false) refl c.loop-a.invariant.1 (omega (arith, before (goal.at.Joined-inside c).In-Some)))
    ]

-- the records that `put` writes come next
next : (c : Joined-inside)
    → let start = (goal.at.Joined-inside c).Start in
    over start (left c.loop-a.a-iterator) ≡ records_with c.if-inside.facts c.in-Some.a (list_of c.causes_at-causes.result) ++ over start (left c.next.new.self)
next c =
    let start = (goal.at.Joined-inside c).Start in
    ap (over start) c.in-Some.ensures.steps ∙ records_next _ _ _ _ _ _ _ ∙ rw (c.causes_at-causes.ensures, (ready c).records)

pub put-n-requires : goal.put-n-requires
put-n-requires c =
    let room = filled_room c.loop-a.invariant.0 (fits (goal.at.put-n-requires c).Start) in
    let part = ap length (next (goal.at.put-n-requires c).Joined-inside) in
    omega (arith, simp length-map at room, simp (length-append, length-map) at part)

pub loop-a-preserved : goal.loop-a-preserved
loop-a-preserved c =
    let done = ready (goal.at.loop-a-preserved c).Joined-inside in (
      filled_put c.loop-a.invariant.0 (next (goal.at.loop-a-preserved c).Joined-inside) c.put-n.ensures,
      done.reached,
      λ b k. omega (arith, done.by, past (goal.at.loop-a-preserved c).In-Some b k),
    )
