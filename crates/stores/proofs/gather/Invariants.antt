-- What each turn of `stores::gather` keeps.
use mathlib.Core.Path.{◌≡◌}
use mathlib.Core.List.{List, ◌++◌}
use Prim.Native.Nat.{ℕ, ◌-◌, ◌≤◌}
use Rattle.lists.specs.Lists.{◌∈◌}
use Rattle.mos6502.specs.Class.{manual_class}
use Rattle.writes.specs.Writes.{manual_writes}
use Rattle.image.specs.declared.placed.Image.{Image}
use Rattle.address_set.specs.Map.{members_in}
use Rattle.address_set.specs.Next.{left}
use Rattle.tracker.specs.Track.{Reached, state_of}
use Rattle.pages.specs.declared.StoreSpan.{StoreSpan}
use Rattle.stores.specs.Stores.{store_at, unbounded, records_over}
use Rattle.stores.proofs.gather.Given as goal

-- the members that lie in the image, and what each of them stores
abbrev pub members : Image → (map : List ℕ) → List ℕ
members image map = members_in image.bounds.load image.bounds.last map

abbrev pub stores : Image → (map : List ℕ) → ℕ → StoreSpan
stores image map = store_at manual_class manual_writes image.bytes.now image.bounds.load image.bounds.last (members image map)

-- The records are those of the members met, and none of these is bounded by nothing. Each member that is left lies in the image, and the tracker, which stands no
-- further than any of them, can go on to it.
abbrev pub invariant-loop-a : goal.invariant-loop-a
invariant-loop-a l =
    let store = stores l.image l.map in
    let all = members l.image l.map in
    let ahead = left l.a-iterator in
    record {
      gathered : l.records.items ++ records_over store ahead ≡ records_over store all;
      bounded : unbounded store ahead ≡ unbounded store all;
      reached : Reached l.image.bytes.now l.place.at (state_of l.place.regs l.zp);
      within : (b : ℕ) → b ∈ ahead → (l.image.bounds.load ≤ b) × (b ≤ l.image.bounds.last);
      by : (b : ℕ) → b ∈ ahead → l.place.at ≤ b - l.image.bounds.load;
    }
