-- A read adds to the front what the input loses.
use Rattle.std.proofs.Common.{rules, subst}
use Rattle.std.specs.Io.KnownBytes.{Consumes}
use Rattle.std.proofs.KnownBytes.{Consumes-trans}
use Rattle.reading.proofs.Parts.{front_put}
use Rattle.reading.proofs.read_full.Goals as goal

pub loop-done-preserved : goal.loop-done-preserved
loop-done-preserved g c =
    let done = front_put c.loop-done.done _ c.in_ok-n.n c.loop-done.buffer c.read.new.buf c.loop-done.invariant.within c.in_ok-n.ensures.bound.0 in
    record {
      same_length = search rules;
      within = search rules;
      lost = subst (Consumes _ _) done (Consumes-trans _ _ _ _ _ c.loop-done.invariant.lost c.in_ok-n.ensures.bytes.0);
    }
