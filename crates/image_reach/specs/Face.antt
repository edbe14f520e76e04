-- What each C function tells: 01's number and values of an answer of which the plain call's statement holds. Assumes nothing.
use Rattle.std.specs.Prelude.{◌≡◌, List, [], ◌∷◌, map, ℕ, Option, Some, None, Result}
use Rattle.refusal.specs.declared.Refusal.{Refusal}
use Rattle.refusal.specs.Numbers.{number_of}
use Rattle.mos6502.specs.Class.{manual_class}
use Rattle.writes.specs.Writes.{manual_writes}
use Rattle.site.specs.declared.Reading.{Reading}
use Rattle.span.specs.declared.Span.{Span}
use Rattle.span.specs.Answers.{values_of, end_value_of}
use Rattle.span.specs.Given.{Answers, EndAnswers}
use Rattle.diagnosis.specs.declared.Summary.{Summary}
use Rattle.diagnosis.specs.Answers.{values_of as diag_values_of, Answers as DiagAnswers}
use Rattle.stores.specs.Answers.{count_of, Answers as StoresAnswers}
use Rattle.tracker.specs.Track.{tracked}

-- ── values ──
-- three numbers as a span
abbrev pub span_of : (low high count : ℕ) → Span
span_of low high count = record { low = low; high = high; count = count }

-- the value of a register or of a zero-page byte, 0 where it is not known
abbrev pub value_of : Option ℕ → ℕ
value_of (Some v) = v
value_of None = 0

-- 1 where it is known
abbrev pub mark_of : Option ℕ → ℕ
mark_of (Some v) = 1
mark_of None = 0

-- ── calls on an image ──
module _ (image : List ℕ) (load : ℕ) (entries : List ℕ) where
  -- a span by a reading
  pub record TellsSpan (reading : Reading) (n low high count : ℕ) : Type 0 where
    pub answer : Result Span Refusal
    pub holds : Answers manual_class image load entries reading answer
    pub number : n ≡ number_of answer
    pub values : span_of low high count ≡ values_of answer

  -- the end of the plain span
  pub record TellsEnd (n high : ℕ) : Type 0 where
    pub answer : Result ℕ Refusal
    pub holds : EndAnswers manual_class image load entries answer
    pub number : n ≡ number_of answer
    pub value : high ≡ end_value_of answer

  -- the diagnosis, and the slots before and after
  pub record TellsDiagnosis (slots slots' : List ℕ) (n low high count records : ℕ) : Type 0 where
    pub answer : Result Summary Refusal
    pub holds : DiagAnswers manual_class image load entries slots slots' answer
    pub number : n ≡ number_of answer
    pub values : record { low = low; high = high; count = count; records = records } ≡ diag_values_of answer

  -- the store spans, and the slots before and after
  pub record TellsStores (slots slots' : List ℕ) (n records : ℕ) : Type 0 where
    pub answer : Result ℕ Refusal
    pub holds : StoresAnswers manual_class manual_writes image load entries slots slots' answer
    pub number : n ≡ number_of answer
    pub value : records ≡ count_of answer

-- ── the tracker: A, X, Y and their marks, the zero page and its marks ──
pub record TellsTracker (code registers known zp marks : List ℕ) : Type 0 where
  pub values : registers ≡ value_of (tracked code).regs.a ∷ value_of (tracked code).regs.x ∷ value_of (tracked code).regs.y ∷ []
  pub which : known ≡ mark_of (tracked code).regs.a ∷ mark_of (tracked code).regs.x ∷ mark_of (tracked code).regs.y ∷ []
  pub zero_page : zp ≡ map value_of (tracked code).zp
  pub marked : marks ≡ map mark_of (tracked code).zp
