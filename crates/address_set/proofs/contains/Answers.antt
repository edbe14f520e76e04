-- `address_set::contains` meets its contract: the code computes the very digit that `has` is defined by.
use mathlib.Core.Path.{refl}
use Rattle.address_set.specs.Map.{has}
use Rattle.address_set.proofs.contains.Goals as goal

pub returns : goal.returns
unfolding has
returns c = refl
