-- What each turn of `text::put_hex` keeps: with the digits that are left behind it, the text is what it is to be.
use mathlib.Core.Path.{◌≡◌}
use mathlib.Core.List.{◌++◌}
use Rattle.text.specs.Text.{hex_of}
use Rattle.text.proofs.put_hex.Given as goal

abbrev pub invariant-loop-i : goal.invariant-loop-i
invariant-loop-i g l = l.out.items ++ hex_of l.i l.value ≡ l.initial.out.items ++ hex_of l.width l.value
