-- What each turn of `text::spell` keeps.
use mathlib.Core.Path.{◌≡◌}
use mathlib.Core.List.{List, ◌++◌}
use Prim.Native.Nat.{ℕ, ◌^◌, ◌≤◌, ◌<◌}
use lib.ListN.{length, drop}
use Rattle.text.specs.Text.{decimal_by, decimal_of}
use Rattle.text.proofs.spell.Given as goal

-- the digits that are left, before those written, are the whole number
pub record Spelt (value : ℕ) (digits : List ℕ) (first rest : ℕ) : Type 0 where
  pub size : length digits ≡ 20
  pub some : 1 ≤ first
  pub fits : first ≤ 20
  pub below : rest < 10 ^ first
  pub whole : decimal_by first rest ++ drop first digits ≡ decimal_of value

abbrev pub invariant-loop-rest : goal.invariant-loop-rest
invariant-loop-rest l = Spelt l.value l.digits l.first l.rest

abbrev pub decreases-loop-rest : goal.decreases-loop-rest
decreases-loop-rest l = l.first
