-- What each turn of `resolver::resolve_all` keeps.
use Rattle.std.proofs.Common.{◌≡◌, ℕ, ◌++◌, ◌<◌, length}
use Rattle.address_set.specs.Map.{members_in}
use Rattle.address_set.specs.Next.{left}
use Rattle.tracker.specs.Track.{unloaded}
use Rattle.resolver.specs.declared.Seen.TheVariants.{Never}
use Rattle.resolver.specs.Resolve.{resolve, seen_at}
use Rattle.resolver.proofs.resolve_all.Given as goal

-- what the members that are left say of a byte, after what is known already, is what all members say of it
abbrev pub invariant-loop-a : goal.invariant-loop-a
invariant-loop-a l =
    let all = members_in l.image.bounds.load l.image.bounds.last l.map in
    let known = λ (z : ℕ). resolve l.image.bytes.now l.image.bounds.load z in
    record {
      met : l.yielded ++ left l.a-iterator ≡ all;
      size : length l.seen ≡ 256;
      each : (z : ℕ) → z < 256 → known z (left l.a-iterator) l.regs (seen_at l.seen z) ≡ known z all unloaded Never;
    }
