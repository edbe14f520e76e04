-- What each turn of `walk::walk` keeps.
use Rattle.std.proofs.Common.{◌≡◌, ◌≤◌, ℕ, ◌+◌, ◌-◌, List, [], length}
use mathlib.Core.List.{reverse}
use Rattle.std.specs.Slice.Iter.{iter_rest}
use Rattle.std.specs.Iterator.Adapters.{rev_source}
use Rattle.image.specs.declared.placed.Image.{Image}
use Rattle.walk.specs.declared.Rule.{Rule}
use Rattle.walk.specs.declared.End.TheVariants.{Finished}
use Rattle.walk.specs.Walked.{limit}
use Rattle.walk.proofs.Link.{Setting, Link, pausing, standing}
use Rattle.walk.proofs.walk.Given as goal

abbrev pub setting : (rule : Rule) (image : Image) (entries : List ℕ) → Setting
setting rule image entries = record { rule = rule; image = image.bytes.now; load = image.bounds.load; last = image.bounds.last; entries = entries }

abbrev pub invariant-loop-map : goal.invariant-loop-map
invariant-loop-map l =
    let w = setting l.rule l.image l.entries in
    Link w l.map l.met (standing l.pc (reverse l.pending.items) (reverse (iter_rest (rev_source l.entry-iterator)))) × (l.met ≤ limit)
    × (length l.pending.items + l.initial.met ≤ length l.initial.pending.items + l.met) × (l.end ≡ Finished)

abbrev pub decreases-loop-map : goal.decreases-loop-map
decreases-loop-map l = limit - l.met

abbrev pub invariant-loop-start : goal.invariant-loop-start
invariant-loop-start l =
    let w = setting l.rule l.image l.entries in
    Link w l.map l.met (pausing w (reverse l.pending.items) (reverse (iter_rest (rev_source l.entry-iterator)))) × (l.met ≤ limit) × (l.end ≡ Finished)

abbrev pub decreases-loop-start : goal.decreases-loop-start
decreases-loop-start l = (limit - l.met) + length l.pending.items

abbrev pub invariant-outer : goal.invariant-outer
invariant-outer l =
    let w = setting l.rule l.image l.entries in
    Link w l.map l.met (pausing w [] (reverse (iter_rest (rev_source l.entry-iterator)))) × (l.met ≤ limit) × (l.pending.items ≡ []) × (l.end ≡ Finished)
