-- `job::write_job` meets its contract: what is not too large fits its bytes, and header, entries and image go one behind the other.
use mathlib.Core.Path.{◌≡◌, refl, sym, ◌∙◌}
use mathlib.Core.Bool.{false}
use mathlib.Core.List.{◌++◌}
use Prim.Native.Nat.{◌≤◌}
use native.Mathlib.Omega.{arith}
use lib.ListN.{length-append}
use borrow.Author.Tests.{lt-ltb, le-ltb}
use Rattle.job.specs.declared.Job.{Job}
use Rattle.job.specs.Job.{is_large}
use Rattle.job.specs.Written.{job_for, job_bytes, header_of, words_of}
use Rattle.job.proofs.Parts.{small}
use Rattle.job.proofs.Placing.{placed_next, header_length, words_of_length}
use Rattle.job.proofs.write_job.Goals as goal
use Rattle.job.proofs.write_job.Goals.{Else-is_large, Start}

-- it is not too large
module _ (c : Else-is_large) where
  abbrev start : Start
  start = (goal.at.Else-is_large c).Start

  abbrev job : Job
  job = job_for start.args.load start.args.entries.now start.args.image.now

  not_large : is_large job ≡ false
  not_large = sym c.is_large.ensures ∙ c.if-is_large.false

  limits : (job.count ≤ 1024) × (job.size ≤ 49152)
  limits = small job not_large

pub returns-then-is_large : goal.returns-then-is_large
returns-then-is_large c = (rw (sym c.is_large.ensures ∙ c.if-is_large.true), refl)

pub overflow_add-needed : goal.overflow_add-needed
overflow_add-needed c = omega (arith, limits (goal.at.overflow_add-needed c).Else-is_large)

pub returns-then-out-needed : goal.returns-then-out-needed
returns-then-out-needed c = (rw (not_large (goal.at.returns-then-out-needed c).Else-is_large, lt-ltb _ _ c.if-out-needed.true), refl)

pub put_header-requires : goal.put_header-requires
put_header-requires c =
    let kept = limits (goal.at.put_header-requires c).Else-is_large in
    (omega arith, omega arith, omega arith, omega arith)

pub returns : goal.returns
unfolding job_bytes
returns c =
    let args = (start (goal.at.returns c).Else-is_large).args in
    let header = header_of (job (goal.at.returns c).Else-is_large) in
    let words = words_of args.entries.now in
    let sixteen = header_length (job (goal.at.returns c).Else-is_large) in
    let behind = rw (sixteen, words_of_length args.entries.now) at (length-append header words) in
    let two = placed_next args.out.now 0 header (omega arith) 16 words (omega arith) c.put_header.ensures c.put_entries.ensures in (
      rw (not_large (goal.at.returns c).Else-is_large, le-ltb _ _ c.if-out-needed.false),
      placed_next args.out.now 0 (header ++ words) (omega arith) (job (goal.at.returns c).Else-is_large).image _ (omega arith) two c.put_bytes.ensures,
    )
