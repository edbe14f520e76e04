-- What the steps of `write_extent` leave behind. Assumes nothing.
use Rattle.std.specs.Prelude.{◌≡◌, true, false, List, ℕ, Result, Ok, Err}
use Rattle.refusal.specs.declared.Refusal.{Refusal}
use Rattle.refusal.specs.declared.Refusal.TheVariants.{Unbounded}
use Rattle.mos6502.specs.Class.{manual_class}
use Rattle.writes.specs.Writes.{manual_writes}
use Rattle.address_set.specs.Map.{members_in}
use Rattle.pages.specs.declared.StoreSpan.{StoreSpan}
use Rattle.stores.specs.Stores.{store_at, unbounded, records_over}

-- the stores of the instructions l, one after the other: all their records, or one that nothing bounds
abbrev pub Gathers : (store : ℕ → StoreSpan) (l records : List ℕ) → Result (Unit {0}) Refusal → Type 0
Gathers store l records (Ok done) = (unbounded store l ≡ false) × (records ≡ records_over store l)
Gathers store l records (Err r) = (r ≡ Unbounded) × (unbounded store l ≡ true)

-- those of the map's members
abbrev pub GathersIn : (image : List ℕ) (load last : ℕ) (map records : List ℕ) → Result (Unit {0}) Refusal → Type 0
GathersIn image load last map =
    let l = members_in load last map in
    Gathers (store_at manual_class manual_writes image load last l) l
