-- `report::put_extent` meets its contract: a refusal's line is NONE and its number.
use Rattle.report.proofs.put_extent.Goals as goal

pub returns-in-Err : goal.returns-in-Err
returns-in-Err g c = rw (c.in-Err.is, ← c.number.ensures) c.put_none.ensures
