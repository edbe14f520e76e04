-- What each turn of `pages::note_limits` keeps.
use Rattle.std.proofs.Common.{◌≡◌, ℕ, length}
use Rattle.address_set.specs.Map.{has, members_in}
use Rattle.address_set.specs.Next.{left}
use Rattle.resolver.specs.declared.Seen.TheVariants.{Never}
use Rattle.resolver.specs.Resolve.{seen_at}
use Rattle.pages.specs.Pages.{limit_over}
use Rattle.pages.proofs.note_limits.Given as goal

-- what the pairs at the members that are left say of a byte, after what is known already, is what all pairs say of it
abbrev pub invariant-loop-a : goal.invariant-loop-a
invariant-loop-a l =
    let b = l.fn.bounds in
    let limit = λ (z : ℕ). limit_over l.image b.load (has l.map) z in
    record {
      size : length l.limits ≡ 256;
      each : (z : ℕ) → limit z (left l.a-iterator) (seen_at l.limits z) ≡ limit z (members_in b.load b.last l.map) Never;
    }
