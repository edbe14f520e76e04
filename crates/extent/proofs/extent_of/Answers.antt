-- `extent::extent_of` meets its contract: the member that a turn has come to lies inside, and an instruction that is whole ends there too.
use Rattle.std.proofs.Common.{arith}
use Rattle.address_set.specs.Next.{left}
use Rattle.address_set.proofs.Laws.{here_within}
use Rattle.site.proofs.Size.{site_size}
use Rattle.extent.proofs.extent_of.Goals as goal

pub site_at-requires : goal.site_at-requires
site_at-requires c =
    let b = c.args.image.bounds in
    let w = here_within b.load b.last c.args.map.now c.loop-a.yielded c.in-Some.a (left c.next.new.self)
    (rw (← c.in-Some.ensures.steps) c.loop-a.invariant.all) in
    (w.0, w.1)

pub widen_site-e-requires : goal.widen_site-e-requires
widen_site-e-requires c = rw c.site_at.ensures (λ whole. let size = site_size _ _ _ _ _ whole in omega arith)
