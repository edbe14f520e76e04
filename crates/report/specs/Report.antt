-- What a report says: the lines of its job's answers, built from the statements of span, diagnosis and stores. Assumes nothing.
use Rattle.std.specs.Prelude.{◌≡◌, List, ◌++◌, ℕ, ◌≤◌, ◌<◌, length, drop, replicate, Result, Ok, Err}
use Rattle.lists.specs.Text.{ascii}
use Rattle.mos6502.specs.Class.{manual_class}
use Rattle.writes.specs.Writes.{manual_writes}
use Rattle.refusal.specs.declared.Refusal.{Refusal}
use Rattle.job.specs.declared.Job.{Job}
use Rattle.job.specs.declared.JobError.{JobError}
use Rattle.job.specs.Job.{number, job_of, entries_of, image_of}
use Rattle.site.specs.declared.Reading.TheVariants.{Plain, Guarded}
use Rattle.span.specs.declared.Span.{Span}
use Rattle.span.specs.Given as span
use Rattle.diagnosis.specs.declared.Summary.{Summary}
use Rattle.diagnosis.specs.Answers as diagnosis
use Rattle.stores.specs.Answers as stores
use Rattle.report.specs.declared.TooShort.{TooShort}
use Rattle.report.specs.Lines.{span_line, diag_lines, stores_lines, job_line}

-- the slots that are lent: 5,122 for refusals and 4,096 for stores
abbrev pub refusal_slots : List ℕ
refusal_slots = replicate 5122 0

abbrev pub store_slots : List ℕ
store_slots = replicate 4096 0

-- the answers of the four calls, and the text that they give
pub record Tells (image : List ℕ) (load : ℕ) (entries text : List ℕ) : Type 0 where
  pub plain : Result Span Refusal
  pub plain_answers : span.Answers manual_class image load entries Plain plain
  pub guarded : Result Span Refusal
  pub guarded_answers : span.Answers manual_class image load entries Guarded guarded
  pub diag : Result Summary Refusal
  pub refusals : List ℕ
  pub diag_answers : diagnosis.Answers manual_class image load entries refusal_slots refusals diag
  pub written : Result ℕ Refusal
  pub spans : List ℕ
  pub stores_answers : stores.Answers manual_class manual_writes image load entries store_slots spans written
  pub exact : text ≡ span_line (ascii "SPAN") plain ++ span_line (ascii "GUARDED") guarded ++ diag_lines diag refusals ++ stores_lines written spans

-- the text for a job; a refused job prints only its number
abbrev pub TextOf : (bytes : List ℕ) → Result Job JobError → (text : List ℕ) → Type 0
TextOf bytes (Ok job) text = Tells (image_of bytes job) job.load (entries_of bytes job) text
TextOf bytes (Err e) text = text ≡ job_line (number e)

-- the whole text into the buffer, and the rest of it as it was; or the number of bytes that it needs, and nothing written
abbrev pub Delivers : (text out out' : List ℕ) → Result ℕ TooShort → Type 0
Delivers text out out' (Ok n) = (n ≡ length text) × (n ≤ length out) × (out' ≡ text ++ drop n out)
Delivers text out out' (Err e) = (e.needed ≡ length text) × (length out < e.needed) × (out' ≡ out)

-- the report of a job is the text that its answers give, delivered
pub record Reports (bytes out out' : List ℕ) (r : Result ℕ TooShort) : Type 0 where
  pub text : List ℕ
  pub is_text : TextOf bytes (job_of bytes) text
  pub delivers : Delivers text out out' r

-- ── in the code ──
-- the slots hold as many records as the answer says
abbrev pub Enough : Result Summary Refusal → (slots : List ℕ) → Type 0
Enough (Ok s) slots = s.records ≤ length slots
Enough (Err e) slots = Unit {0}

abbrev pub EnoughStores : Result ℕ Refusal → (slots : List ℕ) → Type 0
EnoughStores (Ok n) slots = n ≤ length slots
EnoughStores (Err e) slots = Unit {0}

-- the text of the four answers, delivered
pub record TellsAll (image : List ℕ) (load : ℕ) (entries out out' : List ℕ) (r : Result ℕ TooShort) : Type 0 where
  pub text : List ℕ
  pub tells : Tells image load entries text
  pub delivers : Delivers text out out' r
