-- `report::put_answers` meets its contract: the text is lent empty, and there is room for each of the four texts, since by
-- `report_length` there is room for all of them.
use mathlib.Core.Path.{◌≡◌, ap, ◌∙◌}
use mathlib.Core.List.{◌++◌}
use Prim.Native.Nat.{ℕ, ◌≤◌}
use native.Mathlib.Omega.{arith}
use lib.ListN.{length, length-append, length-replicate}
use Rattle.lists.specs.Text.{ascii}
use Rattle.report.specs.Lines.{span_line, diag_lines, stores_lines}
use Rattle.report.specs.Report.{refusal_slots, store_slots, Enough, EnoughStores}
use Rattle.report.proofs.Answering.{refusals_kept, spans_kept}
use Rattle.report.proofs.Lengths.{report_length}
use Rattle.report.proofs.put_answers.Goals as goal
use Rattle.report.proofs.put_answers.Goals.{After-write_extent-written}

-- ── where all four answers are known ──
module _ (c : After-write_extent-written) where
  refusals : (length c.diagnose-diag.new.slots ≡ 5122) × Enough c.diagnose-diag.result c.diagnose-diag.new.slots
  refusals =
      let kept = refusals_kept c.args.image.now c.args.load c.args.entries.now refusal_slots _ c.diagnose-diag.result c.diagnose-diag.ensures in
      (kept.0 ∙ length-replicate {A = ℕ} 5122 0, kept.1)

  stores : (length c.write_extent-written.new.slots ≡ 4096) × EnoughStores c.write_extent-written.result c.write_extent-written.new.slots
  stores =
      let kept = spans_kept c.args.image.now c.args.load c.args.entries.now store_slots _ c.write_extent-written.result c.write_extent-written.ensures in
      (kept.0 ∙ length-replicate {A = ℕ} 4096 0, kept.1)

  fits : length (
      span_line (ascii "SPAN") c.reachable_span-plain.result ++ span_line (ascii "GUARDED") c.guarded_span-guarded.result
      ++ diag_lines c.diagnose-diag.result c.diagnose-diag.new.slots ++ stores_lines c.write_extent-written.result c.write_extent-written.new.slots
      ) ≤ 262144
  fits = report_length _ _ _ _ _ _ refusals.1 refusals.0 stores.1 stores.0

pub put_span-requires : goal.put_span-requires
put_span-requires c =
    let all = simp length-append at (fits (goal.at.put_span-requires c).After-write_extent-written) in
    (omega arith, omega (arith, all, ap length c.requires))

pub put_span-requires-2 : goal.put_span-requires-2
put_span-requires-2 c =
    let all = simp length-append at (fits (goal.at.put_span-requires-2 c).After-write_extent-written) in
    let before = ap length (rw c.requires at c.put_span.ensures) in
    (omega arith, omega (arith, all, before))

pub put_diag-requires : goal.put_diag-requires
put_diag-requires c =
    let w = (goal.at.put_diag-requires c).After-write_extent-written in
    let all = simp length-append at (fits w) in
    let before = simp length-append at (ap length (rw (c.put_span.ensures, c.requires) at c.put_span-2.ensures)) in
    (omega arith, (omega (arith, all, before), (refusals w).1))

pub put_extent-requires : goal.put_extent-requires
put_extent-requires c =
    let w = (goal.at.put_extent-requires c).After-write_extent-written in
    let all = simp length-append at (fits w) in
    let before = simp length-append at (ap length (rw (c.put_span-2.ensures, c.put_span.ensures, c.requires) at c.put_diag.ensures)) in
    (omega arith, (omega (arith, all, before), (stores w).1))
