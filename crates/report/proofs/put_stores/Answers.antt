-- `report::put_stores` meets its contract: each turn appends the line of the next record.
use mathlib.Core.List.{append_assoc, append-nil}
use native.Mathlib.Omega.{arith}
use borrow.Author.Rules.{rules}
use Rattle.report.specs.Lines.{store_line}
use Rattle.report.proofs.Listing.{lines_next, lines_end, line_room}
use Rattle.report.proofs.put_stores.Goals as goal

pub put_store-requires : goal.put_store-requires
put_store-requires g c =
    let loop = c.loop-r in
    let args = c.args in
    let room = line_room store_line args.records.now loop.out.items args.out.now.items loop.r-index g.row.N loop.invariant c.requires (omega arith) in
    (search rules, room)

pub loop-r-preserved : goal.loop-r-preserved
loop-r-preserved g c =
    rw (c.put_store.ensures, append_assoc) (rw (lines_next store_line c.args.records.now c.loop-r.r-index (omega arith)) at c.loop-r.invariant)

pub returns : goal.returns
returns g c = rw (lines_end store_line c.args.records.now c.loop-r.r-index (omega arith), append-nil) at c.loop-r.invariant
