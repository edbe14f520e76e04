-- `tracker::track_immediates` meets its contract: from nothing, over all of the run.
use mathlib.Core.Path.{sym, ap, ◌∙◌}
use native.Mathlib.Omega.{arith}
use lib.Seq.{take-length}
use Rattle.tracker.specs.Track.{nothing, tracked}
use Rattle.tracker.proofs.Passage.{reached_start}
use Rattle.tracker.proofs.track_immediates.Goals as goal

pub advance-end-requires : goal.advance-end-requires
unfolding nothing
advance-end-requires c = rw (c.start.ensures.0, c.start.ensures.1) (reached_start _, omega arith, omega arith)

pub returns : goal.returns
returns c = sym c.advance-end.ensures.state ∙ ap tracked (take-length _)
