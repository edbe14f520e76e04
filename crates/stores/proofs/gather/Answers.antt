-- `stores::gather` meets its contract. The loop's invariant: the records are those of the members met, none of these is bounded by nothing, and the tracker, which
-- stands no further than any member that is left, can go on to it.
use mathlib.Core.Path.{◌≡◌, refl, sym, ap, ◌∙◌}
use mathlib.Core.Bool.{◌||◌}
use mathlib.Core.List.{◌∷◌, ◌++◌, append-nil, append_assoc}
use Prim.Native.Nat.{ℕ, ◌≤◌}
use native.Mathlib.Omega.{arith}
use lib.ListN.{length, length-append}
use Rattle.lists.proofs.Scan.{scan_ascending}
use Rattle.address_set.specs.Next.{left}
use Rattle.tracker.specs.Track.{nothing}
use Rattle.tracker.proofs.Passage.{reached_start}
use Rattle.pages.specs.declared.StoreSpan.{StoreSpan}
use Rattle.stores.specs.Stores.{is_anywhere, records_of, unbounded, records_over}
use Rattle.stores.proofs.Gathering.{records_few, records_next, unbounded_next, records_end, unbounded_end, member_within, listed, listed_rest, still_ahead, store_is}
use Rattle.stores.proofs.gather.Invariants.{members, stores}
use Rattle.stores.proofs.gather.Goals as goal
use Rattle.stores.proofs.gather.Goals.{After-store_of-store, In-Some, Start}

-- where the loop begins all members are left
pub loop-a-init : goal.loop-a-init
unfolding nothing
loop-a-init c =
    let image = c.args.image in
    let all : left c.into_iter-a-iterator.result ≡ members image c.args.map.now = rw c.into_iter-a-iterator.ensures.into_iter_gives c.members_in-a-items.ensures in
    record {
      gathered = rw (c.requires.empty, all);
      bounded = rw all;
      reached = rw (c.start-place.ensures.0, c.start-place.ensures.1) (reached_start _);
      within = rw all (member_within image.bounds.load image.bounds.last c.args.map.now);
      by = λ b m. omega (arith, c.start-place.ensures.0);
    }

-- all records fit
fits : (c : Start) → length (records_over (stores c.args.image c.args.map.now) (members c.args.image c.args.map.now)) ≤ 4096
fits c = omega (arith, c.requires.room, records_few (stores c.args.image c.args.map.now) (members c.args.image c.args.map.now))

-- in a turn, the member that comes next
module _ (c : In-Some) where
  next : left c.loop-a.a-iterator ≡ c.in-Some.a ∷ left c.next.new.self
  next = c.in-Some.ensures.steps

  here_within : (c.args.image.bounds.load ≤ c.in-Some.a) × (c.in-Some.a ≤ c.args.image.bounds.last)
  here_within = c.loop-a.invariant.within c.in-Some.a (listed next)

pub overflow_sub-a : goal.overflow_sub-a
overflow_sub-a c = (here_within (goal.at.overflow_sub-a c).In-Some).0

pub advance-place-requires : goal.advance-place-requires
advance-place-requires c =
    let here = (goal.at.advance-place-requires c).In-Some in
    let w = here_within here in
    (c.loop-a.invariant.reached, c.loop-a.invariant.by c.in-Some.a (listed (next here)), omega (arith, w.0, w.1, c.args.image.lies.ends))

pub site_at-s-requires : goal.site_at-s-requires
site_at-s-requires c = here_within (goal.at.site_at-s-requires c).In-Some

-- where the store at the address is put together
module _ (c : After-store_of-store) where
  abbrev store : ℕ → StoreSpan
  store = stores c.args.image c.args.map.now

  store_here : c.store_of-store.result ≡ store c.in-Some.a
  store_here =
      let image = c.args.image in
      store_is image.bytes.now image.bounds.load image.bounds.last (members image c.args.map.now) c.in-Some.a
      c.site_at-s.ensures c.writes.ensures c.advance-place.ensures.state c.pointer_in-p.ensures
      (c.habit-h.ensures ∙ c.of-survey.ensures _) c.store_of-store.ensures

  -- the members that were left: its store comes first
  unbounded_here : unbounded store (left c.loop-a.a-iterator) ≡ (is_anywhere c.store_of-store.result || unbounded store (left c.next.new.self))
  unbounded_here = unbounded_next _ (next (goal.at.After-store_of-store c).In-Some) store_here

  records_here : records_over store (left c.loop-a.a-iterator) ≡ records_of c.store_of-store.result ++ records_over store (left c.next.new.self)
  records_here = records_next _ (next (goal.at.After-store_of-store c).In-Some) store_here

pub returns-then-is_anywhere : goal.returns-then-is_anywhere
returns-then-is_anywhere c =
    (refl, sym c.loop-a.invariant.bounded ∙ unbounded_here (goal.at.returns-then-is_anywhere c).After-store_of-store ∙ rw (← c.is_anywhere.ensures, c.if-is_anywhere.true))

pub put-requires : goal.put-requires
put-requires c =
    omega (
      arith,
      fits (goal.at.put-requires c).Start,
      simp length-append at (ap length c.loop-a.invariant.gathered),
      simp length-append at (ap length (records_here (goal.at.put-requires c).After-store_of-store)),
    )

pub loop-a-preserved : goal.loop-a-preserved
loop-a-preserved c =
    let known = c.loop-a.invariant in
    let bounded = sym c.is_anywhere.ensures ∙ c.if-is_anywhere.false in
    let advanced = c.advance-place.ensures in
    let comes = next (goal.at.loop-a-preserved c).In-Some in
    record {
      gathered = rw (c.put.ensures, append_assoc, ← records_here (goal.at.loop-a-preserved c).After-store_of-store) known.gathered;
      bounded = sym (unbounded_here (goal.at.loop-a-preserved c).After-store_of-store ∙ rw bounded) ∙ known.bounded;
      reached = advanced.reached;
      within = λ b m. known.within b (listed_rest comes b m);
      by = still_ahead comes (scan_ascending _ _ _) _ _ advanced.by;
    }

pub returns : goal.returns
returns c =
    let known = c.loop-a.invariant in
    let none_left = c.in-None.ensures.steps.0 in
    (sym known.bounded ∙ unbounded_end _ none_left, sym (append-nil c.loop-a.records.items) ∙ rw (records_end _ none_left) at known.gathered)
