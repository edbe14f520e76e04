-- A job has one report: each of the four answers is unique, and so are the lists that they leave; the text is theirs, and the buffer's length decides the rest.
use mathlib.Core.Path.{◌≡◌, sym, ap, ap₂, ◌∙◌}
use mathlib.Core.List.{List, ◌++◌}
use Prim.Native.Nat.{ℕ}
use native.Mathlib.Omega.{arith}
use lib.ListN.{drop}
use Rattle.std.specs.Prelude.{Result, Ok, Err}
use Rattle.lists.specs.Text.{ascii}
use Rattle.job.specs.declared.Job.{Job}
use Rattle.job.specs.declared.JobError.{JobError}
use Rattle.job.specs.Job.{job_of}
use Rattle.mos6502.specs.Class.{manual_class}
use Rattle.writes.specs.Writes.{manual_writes}
use Rattle.site.specs.declared.Reading.TheVariants.{Plain, Guarded}
use Rattle.span.proofs.Unique as span
use Rattle.stores.proofs.Unique as stores
use Rattle.diagnosis.proofs.Unique as diagnosis
use Rattle.report.specs.declared.TooShort.{TooShort}
use Rattle.report.specs.Lines.{span_line, diag_lines, stores_lines}
use Rattle.report.specs.Report.{refusal_slots, store_slots, Tells, TextOf, Delivers, Reports}

tells_unique : (image : List ℕ) (load : ℕ) (entries : List ℕ) {text text' : List ℕ} → Tells image load entries text → Tells image load entries text'
    → text ≡ text'
tells_unique image load entries t t' =
    let plain = span.answers_unique manual_class image load entries Plain t.plain t'.plain t.plain_answers t'.plain_answers in
    let guarded = span.answers_unique manual_class image load entries Guarded t.guarded t'.guarded t.guarded_answers t'.guarded_answers in
    let diag = diagnosis.answers_unique manual_class image load entries refusal_slots t.refusals t'.refusals t.diag t'.diag t.diag_answers t'.diag_answers in
    let written =
    stores.answers_unique manual_class manual_writes image load entries store_slots t.spans t'.spans t.written t'.written t.stores_answers t'.stores_answers in
    let join : List ℕ → List ℕ → List ℕ = λ a b. a ++ b in
    let spans = ap₂ join (ap (span_line (ascii "SPAN")) plain) (ap (span_line (ascii "GUARDED")) guarded) in
    t.exact ∙ ap₂ join (ap₂ join spans (ap₂ diag_lines diag.0 diag.1)) (ap₂ stores_lines written.0 written.1) ∙ sym t'.exact

text_unique : (bytes : List ℕ) (answer : Result Job JobError) {text text' : List ℕ} → TextOf bytes answer text → TextOf bytes answer text' → text ≡ text'
text_unique bytes (Ok job) t t' = tells_unique _ _ _ t t'
text_unique bytes (Err e) t t' = t ∙ sym t'

short_unique : (e e' : TooShort) → e.needed ≡ e'.needed → e ≡ e'
short_unique e e' same = ap (λ (n : ℕ). record { needed = n }) same

delivers_unique : (text out out' out'' : List ℕ) (r r' : Result ℕ TooShort) → Delivers text out out' r → Delivers text out out'' r' → (r ≡ r') × (out' ≡ out'')
delivers_unique text out out' out'' (Ok n) (Ok m) p q =
    let same = p.0 ∙ sym q.0 in
    (ap Ok same, p.2 ∙ ap (λ (k : ℕ). text ++ drop k out) same ∙ sym q.2)
delivers_unique text out out' out'' (Ok n) (Err e) p q = absurd (omega arith)
delivers_unique text out out' out'' (Err e) (Ok m) p q = absurd (omega arith)
delivers_unique text out out' out'' (Err e) (Err e') p q = (ap Err (short_unique e e' (p.0 ∙ sym q.0)), p.2 ∙ sym q.2)

pub report_unique : (bytes out out' out'' : List ℕ) (r r' : Result ℕ TooShort) → Reports bytes out out' r → Reports bytes out out'' r'
    → (r ≡ r') × (out' ≡ out'')
report_unique bytes out out' out'' r r' p q =
    let same = text_unique bytes (job_of bytes) p.is_text q.is_text in
    delivers_unique q.text out out' out'' r r' (rw same at p.delivers) q.delivers
