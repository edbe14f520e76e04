-- A loop over the map's members takes their stores one by one: the member that comes next begins the list of those that are left. What is put together of the parts at
-- a member is what the definition has it store.
use mathlib.Core.Path.{◌≡◌, refl, ◌∙◌}
use mathlib.Core.Bool.{false, ◌||◌}
use mathlib.Core.List.Memᴰ.{head as here}
use mathlib.Core.List.Memᴰ.{tail as there}
use mathlib.Core.List.{List, [], ◌∷◌, ◌++◌}
use Prim.Native.Nat.{ℕ, suc, ◌+◌, ◌-◌, ◌%◌, ◌≤◌}
use native.Mathlib.Omega.{arith}
use lib.ListN.{length, take, length-append}
use Rattle.lists.specs.Lists.{◌∈◌, Ascending}
use Rattle.lists.proofs.Scan.{scan_only}
use Rattle.mos6502.specs.Class.{manual_class}
use Rattle.writes.specs.declared.Wr.{Wr}
use Rattle.writes.specs.Writes.{manual_writes}
use Rattle.address_set.specs.Map.{has, members_in}
use Rattle.tracker.specs.declared.ImmState.{ImmState}
use Rattle.tracker.specs.Track.{tracked}
use Rattle.site.specs.declared.Site.{Site}
use Rattle.site.specs.Site.{site_in}
use Rattle.pages.specs.declared.StoreSpan.{StoreSpan}
use Rattle.pages.specs.declared.StoreSpan.TheVariants as span
use Rattle.pages.specs.declared.Pointer.{Pointer}
use Rattle.pages.specs.declared.Habit.{Habit}
use Rattle.pages.specs.Pages.{any_of, pointer_in, habit_of}
use Rattle.stores.specs.Stores.{store_of, store_at, is_anywhere, records_of, unbounded, records_over}

-- ── how many ──
one_at_most : (s : StoreSpan) → length (records_of s) ≤ 1
one_at_most span.Nothing = omega arith
one_at_most (span.Bytes low high) = omega arith
one_at_most span.Anywhere = omega arith

-- no more records than instructions
pub records_few : (store : ℕ → StoreSpan) (l : List ℕ) → length (records_over store l) ≤ length l
unfolding records_over
records_few store [] = omega arith
records_few store (a ∷ l) = omega (arith, length-append (records_of (store a)) (records_over store l), one_at_most (store a), records_few store l)

-- ── one after the other ──
module _ (store : ℕ → StoreSpan) {l : List ℕ} where
  module _ {a : ℕ} {rest : List ℕ} {s : StoreSpan} (next : l ≡ a ∷ rest) (stored : s ≡ store a) where
    pub records_next : records_over store l ≡ records_of s ++ records_over store rest
    unfolding records_over
    records_next = rw (next, stored)

    pub unbounded_next : unbounded store l ≡ (is_anywhere s || unbounded store rest)
    unfolding any_of
    unbounded_next = rw (next, stored)

  pub records_end : l ≡ [] → records_over store l ≡ []
  unfolding records_over
  records_end e = rw e

  pub unbounded_end : l ≡ [] → unbounded store l ≡ false
  unfolding any_of
  unbounded_end e = rw e

-- ── where the members lie ──
pub member_within : (load last : ℕ) (map : List ℕ) (b : ℕ) → b ∈ members_in load last map → (load ≤ b) × (b ≤ last)
member_within load last map b m =
    let s = scan_only (has map) load (suc last - load) m in
    (s.low, omega (arith, s.low, s.high))

module _ {l rest : List ℕ} {a : ℕ} (next : l ≡ a ∷ rest) where
  pub listed : a ∈ l
  listed = rw next (here refl)

  pub listed_rest : (b : ℕ) → b ∈ rest → b ∈ l
  listed_rest b m = rw next (there m)

  -- the tracker, which stands no further than a member, stands no further than those after it
  pub still_ahead : Ascending l → (at load : ℕ) → at ≤ a - load → (b : ℕ) → b ∈ rest → at ≤ b - load
  still_ahead ascending at load h b m = omega (arith, (rw next at ascending).0 b m)

-- ── at one member ──
pub store_is : (image : List ℕ) (load last : ℕ) (l : List ℕ) (a : ℕ) {s : Site} {w : Wr} {state : ImmState} {p : Pointer} {h : Habit} {r : StoreSpan}
    → s ≡ site_in manual_class image load last a → w ≡ manual_writes s.opcode → tracked (take (a - load) image) ≡ state
    → p ≡ pointer_in state (s.operand % 256) → h ≡ habit_of image load l ((s.operand % 256 + 1) % 256) → r ≡ store_of w s.operand p h
    → r ≡ store_at manual_class manual_writes image load last l a
store_is image load last l a site writes state pointer habit store = store ∙ rw (writes, pointer, habit, ← state, site)
