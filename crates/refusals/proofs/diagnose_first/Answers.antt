-- `refusals::diagnose_first` meets its contract: it lends `diagnose` all slots where they are fewer than `most`, else their first `most`.
use mathlib.Core.Path.{sym}
use native.Mathlib.Omega.{arith}
use lib.Seq.{length-take-le}
use borrow.Author.Rules.{rules}
use Rattle.refusals.proofs.First.{lent_whole, lent_part}
use Rattle.refusals.proofs.diagnose_first.Goals as goal

pub returns-then-slots-most : goal.returns-then-slots-most
returns-then-slots-most c = lent_whole _ _ _ _ _ _ _ _ (omega arith) (search rules) c.diagnose.ensures

pub slice_bounds-diagnose-end-2 : goal.slice_bounds-diagnose-end-2
slice_bounds-diagnose-end-2 c = sym (length-take-le _ _ (omega arith))

pub returns : goal.returns
returns c = lent_part _ _ _ _ _ _ _ _ (omega arith) (search rules) c.diagnose-2.ensures
