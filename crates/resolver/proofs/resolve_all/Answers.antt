-- `resolver::resolve_all` meets its contract: what an iterator gives begins the list of the members that are left.
use Rattle.std.proofs.Common.{refl, ap, append_assoc}
use Rattle.std.proofs.lemmas.List.{get_or-replicate}
use Rattle.address_set.specs.Next.{left}
use Rattle.address_set.proofs.Laws.{here_within}
use Rattle.resolver.specs.declared.Seen.TheVariants.{Never}
use Rattle.resolver.specs.Resolve.{resolve, is_held}
use Rattle.resolver.proofs.resolve_all.Goals as goal

pub loop-a-init : goal.loop-a-init
loop-a-init c =
    let all = c.members_in-a-items.ensures in
    let same = c.into_iter-a-iterator.ensures.into_iter_gives in
    record { met = rw same all; size = refl; each = λ z h. rw (same, c.unloaded-regs.ensures, all, get_or-replicate 256 z Never Never h) }

pub byte-op-requires : goal.byte-op-requires
byte-op-requires c =
    let b = c.args.image.bounds in
    let w = here_within b.load b.last c.args.map.now c.loop-a.yielded c.in-Some.a (left c.next.new.self)
    (rw (← c.in-Some.ensures.steps) c.loop-a.invariant.met) in
    (w.0, w.1)

pub loop-a-preserved : goal.loop-a-preserved
unfolding resolve
loop-a-preserved c =
    let passed = c.note_store.ensures in
    let known = c.loop-a.invariant in
    record {
      met = rw append_assoc (rw (← c.in-Some.ensures.steps) known.met);
      size = c.note_store.array_long;
      each = λ z h.
          rw (c.loaded-regs.ensures, passed.each z, c.argument_at-argument.ensures, c.byte-op.ensures)
          (rw c.in-Some.ensures.steps at known.each z h);
    }

pub returns : goal.returns
unfolding resolve
returns c = record {
  size = c.loop-a.invariant.size;
  each = λ z h. ap is_held (rw c.in-None.ensures.steps.0 at c.loop-a.invariant.each z h);
}
