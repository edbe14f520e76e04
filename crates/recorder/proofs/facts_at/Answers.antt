-- `recorder::facts_at` meets its contract: the two closures say of a byte whether the tracker knows it, and whether what was met resolves it.
use mathlib.Core.Path.{◌≡◌}
use mathlib.Core.Bool.{Bool}
use Prim.Native.Nat.{ℕ, ◌%◌}
use Rattle.std.proofs.Common.{rules}
use Rattle.std.specs.Prelude.{None, is_some, slice_index_or}
use Rattle.resolver.specs.Resolve.{is_held, seen_at}
use Rattle.recorder.specs.Records.{pair_known}
use Rattle.recorder.proofs.facts_at.Goals as goal
use Rattle.recorder.proofs.facts_at.Goals.{Start}

-- which bytes the tracker knows, and which are resolved
abbrev known : (c : Start) → ℕ → Bool
known c y = is_some (slice_index_or c.args.zp.now y None)

abbrev held : (c : Start) → ℕ → Bool
held c y = is_held (seen_at c.args.seen.now y)

pub returns : goal.returns
returns c =
    let start = (goal.at.returns c).Start in
    let z = c.site_at-s.result.operand % 256 in
    let linear : c.pair_known.result ≡ pair_known (known start) z = c.pair_known.ensures (known start) (λ y r h p. search rules) in
    let walk : c.pair_known-2.result ≡ pair_known (held start) z = c.pair_known-2.ensures (held start) (λ y r h p. search rules) in
    rw (linear, walk, c.site_at-s.ensures)
