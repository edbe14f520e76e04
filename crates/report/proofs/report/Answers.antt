-- `report::report` meets its contract: a job that is read has its four answers delivered, and a refused one its number.
use mathlib.Core.Path.{refl, sym, ◌∙◌}
use mathlib.Core.List.{List}
use Prim.Native.Nat.{ℕ, ◌≤◌}
use lib.ListN.{length, replicate}
use lib.Seq.{length-take-le}
use Rattle.report.proofs.Parts.{entries_there, entries_taken, image_there, image_taken, reports_answers, reports_refusal}
use Rattle.report.proofs.report.Goals as goal
use Rattle.report.proofs.report.Goals.{In-Ok}

-- the slots before the job is read
abbrev blank : List ℕ
blank = replicate 1024 0

-- the job's entries are in the slots
there : (c : In-Ok) → c.in-Ok.job.count ≤ length c.read_job.new.entries
there c = entries_there c.args.bytes.now blank c.read_job.new.entries c.in-Ok.job c.read_job.ensures c.in-Ok.is

pub slice_bounds-answer-count : goal.slice_bounds-answer-count
slice_bounds-answer-count c = image_there c.args.bytes.now blank c.read_job.new.entries c.in-Ok.job c.read_job.ensures c.in-Ok.is

pub slice_bounds-entries-end : goal.slice_bounds-entries-end
slice_bounds-entries-end c = there (goal.at.slice_bounds-entries-end c).In-Ok

pub slice_bounds-answer-end-in-Ok : goal.slice_bounds-answer-end-in-Ok
slice_bounds-answer-end-in-Ok c = sym (length-take-le _ _ (there (goal.at.slice_bounds-answer-end-in-Ok c).In-Ok))

pub returns-in-Ok : goal.returns-in-Ok
returns-in-Ok c =
    let bytes = c.args.bytes.now in
    let slots = c.read_job.new.entries in
    let job = c.in-Ok.job in
    let read = c.read_job.ensures in
    let image = image_taken bytes blank slots job read c.in-Ok.is in
    let entries = entries_taken bytes blank slots job read c.in-Ok.is in
    reports_answers bytes blank slots job read c.in-Ok.is image entries c.answer.ensures

pub returns-in-Err : goal.returns-in-Err
returns-in-Err c = reports_refusal _ _ _ _ (sym c.read_job.ensures.0 ∙ c.in-Err.is) refl (rw c.number.ensures at c.refuse.ensures)
