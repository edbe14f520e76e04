-- `diagnosis::fill` meets its contract: where nothing is found the slots are as they were; else the records are written with weight 0, and the first n slots are
-- raised by their weights.
use mathlib.Core.Path.{sym, ◌∙◌}
use Rattle.diagnosis.proofs.Raise.{fills, fills_none}
use Rattle.diagnosis.proofs.fill.Goals as goal

pub returns-then-n-eq0 : goal.returns-then-n-eq0
returns-then-n-eq0 c = fills_none _ _ _ _ _ _ (sym c.requires.number ∙ c.if-n-eq0.true)

pub returns : goal.returns
returns c =
    fills _ _ _ _ _ _ (c.requires.fit c.args.image.bounds.load) c.requires.number c.write_records.ensures c.fill_weights.ensures
