-- `weights::count_entry` meets its contract: the map has what the walk of the entry alone is asked about, so the slots raised are those that it records.
use mathlib.Core.Path.{◌≡◌, sym, fun_ext, ◌∙◌}
use Prim.Native.Nat.{ℕ}
use lib.ListN.{length-replicate}
use Rattle.address_set.specs.Map.{has}
use Rattle.address_set.proofs.Laws.{empty_has}
use Rattle.walk.specs.Walked.{as_end}
use Rattle.weights.proofs.Concerned.{concerns, entry_inside, entry_inserted}
use Rattle.weights.proofs.count_entry.Goals as goal
use Rattle.weights.proofs.count_entry.Goals.{Joined-not-inside, then-not-inside, else-not-inside}

pub walk-end-requires : goal.walk-end-requires
walk-end-requires c = record { size = length-replicate {A = ℕ} 8192 0; none = empty_has 8192 }

-- where the ways past the insertion meet, the map has what the walk is asked about
concerned : (c : Joined-not-inside)
    → let a = c.args in
    (b : ℕ) → has c.if-not-inside.map b ≡ concerns a.image.bounds.load a.image.bounds.last a.entry c.walk-end.ensures.met b
concerned c =
    let asked = sym c.inside.ensures in
    let walked = c.walk-end.ensures in
    elim c.if-not-inside.branch [
      | then-not-inside w ↦ rw w.map-is (entry_inserted walked _ (asked ∙ w.if-not-inside.true) w.insert.ensures)
      | else-not-inside w ↦ rw w.map-is (entry_inside walked _ (asked ∙ w.if-not-inside.false))
    ]

pub returns : goal.returns
returns c = record {
  end = as_end c.walk-end.result;
  met = c.walk-end.ensures.met;
  walk = c.walk-end.ensures.walk;
  exact = rw (c.undecoded_of.ensures, fun_ext (concerned (goal.at.returns c).Joined-not-inside)) at c.raise_recorded.ensures;
}
