-- The parts of a job that is read: its entries are in the first slots, and its image is what follows them. A refused job has only its number to tell.
use mathlib.Core.Path.{◌≡◌, sym, ap, ◌∙◌}
use mathlib.Core.List.{List, ◌++◌}
use Prim.Native.Nat.{ℕ, ◌-◌, ◌≤◌}
use native.Mathlib.Omega.{arith}
use lib.ListN.{length, take, drop, length-append}
use lib.Seq.{take_at}
use Rattle.std.specs.Prelude.{Result, Ok}
use Rattle.job.specs.declared.Job.{Job}
use Rattle.job.specs.declared.JobError.{JobError}
use Rattle.job.specs.Job.{job_of, entries_of, image_of, entries_in}
use Rattle.job.proofs.Parts.{parts}
use Rattle.report.specs.declared.TooShort.{TooShort}
use Rattle.report.specs.Report.{TextOf, Delivers, TellsAll, Reports}

module _ (bytes slots slots' : List ℕ) (job : Job) {answer : Result Job JobError} (read : (answer ≡ job_of bytes) × (slots' ≡ entries_in bytes slots answer))
    (told : answer ≡ Ok job) where
  is_job : job_of bytes ≡ Ok job
  is_job = sym read.0 ∙ told

  filled : slots' ≡ entries_of bytes job ++ drop job.count slots
  filled = read.1 ∙ ap (entries_in bytes slots) told

  pub entries_there : job.count ≤ length slots'
  entries_there = omega (arith, ap length filled, length-append (entries_of bytes job) (drop job.count slots), (parts bytes is_job).entries)

  pub entries_taken : take job.count slots' ≡ entries_of bytes job
  entries_taken = rw filled (take_at (entries_of bytes job) _ job.count (parts bytes is_job).entries)

  pub image_there : job.image ≤ length bytes
  image_there = omega (arith, (parts bytes is_job).image_to)

  pub image_taken : take (length bytes - job.image) (drop job.image bytes) ≡ image_of bytes job
  image_taken =
      let size : length bytes - job.image ≡ job.size = omega (arith, (parts bytes is_job).image_to) in
      ap (λ (k : ℕ). take k (drop job.image bytes)) size

  pub reports_answers : {image entries out out' : List ℕ} {r : Result ℕ TooShort} → image ≡ image_of bytes job → entries ≡ entries_of bytes job
      → TellsAll image job.load entries out out' r → Reports bytes out out' r
  reports_answers i e t = record { text = t.text; is_text = rw is_job (rw (i, e) at t.tells); delivers = t.delivers }

-- a refused job
pub reports_refusal : (bytes out out' text : List ℕ) {answer : Result Job JobError} {r : Result ℕ TooShort} → job_of bytes ≡ answer → TextOf bytes answer text
    → Delivers text out out' r → Reports bytes out out' r
reports_refusal bytes out out' text is t d = record { text = text; is_text = rw is t; delivers = d }
