-- What each turn of `image_reach::tell_page` keeps: the first z bytes are told, and the others stand as they were lent.
use Rattle.std.proofs.Common.{◌≡◌, ◌++◌, map, take, drop}
use Rattle.image_reach.specs.Face.{value_of, mark_of}
use Rattle.image_reach.proofs.tell_page.Given as goal

abbrev pub invariant-loop-z : goal.invariant-loop-z
invariant-loop-z l = record {
  values : l.values ≡ map value_of (take l.z l.page) ++ drop l.z l.initial.values;
  marks : l.marks ≡ map mark_of (take l.z l.page) ++ drop l.z l.initial.marks;
}
