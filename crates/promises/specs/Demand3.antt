-- Demand 3: where a span is given, any image of equal length, load address and entries with the same bytes from low to high gets that span, the same
-- instruction count and a diagnosis without refusals; and so does the image cut to the span and loaded at its low address. One statement for the plain and the
-- guarded span, over any instruction set. (Store spans are excepted: they read bytes that the span does not count.) Assumes nothing.
use Rattle.std.specs.Prelude.{◌≡◌, List, ℕ, suc, ◌-◌, ◌≤◌, length, take, drop, Result, Ok}
use Rattle.refusal.specs.declared.Refusal.{Refusal}
use Rattle.refusal.specs.Numbers.{number_of}
use Rattle.mos6502.specs.declared.Decoded.{Decoded}
use Rattle.image.specs.Image.{byte_at}
use Rattle.site.specs.declared.Reading.{Reading}
use Rattle.span.specs.declared.Span.{Span}
use Rattle.span.specs.Answers.{values_of}
use Rattle.span.specs.Given as span
use Rattle.diagnosis.specs.declared.Summary.{Summary}
use Rattle.diagnosis.specs.Answers as diagnosis

-- two images at one load address have the same bytes from low to high
abbrev pub SameBytes : (image image' : List ℕ) (load low high : ℕ) → Type 0
SameBytes image image' load low high = (x : ℕ) → low ≤ x → x ≤ high → byte_at image load x ≡ byte_at image' load x

-- the bytes of an image from low to high; they are loaded at low
abbrev pub cut : (image : List ℕ) (load low high : ℕ) → List ℕ
cut image load low high = take (suc high - low) (drop (low - load) image)

module _ (class : ℕ → Decoded) (reading : Reading) where
  -- The image gets the span s, with its instruction count, and no other answer; and whatever list is lent, the diagnosis answers with no record and leaves
  -- the list as it was.
  pub record Gets (image : List ℕ) (load : ℕ) (entries : List ℕ) (s : Span) : Type 0 where
    pub given : span.Answers class image load entries reading (Ok s)
    pub only : (r : Result Span Refusal) → span.Answers class image load entries reading r → (number_of r ≡ 0) × (values_of r ≡ s)
    pub undisturbed : (slots slots' : List ℕ) (r : Result Summary Refusal) → diagnosis.Answers class image load entries slots slots' r
        → (number_of r ≡ 0) × ((diagnosis.values_of r).records ≡ 0) × (slots' ≡ slots)

  -- what demand 3 promises of a span s
  pub record Demand3 (image : List ℕ) (load : ℕ) (entries : List ℕ) (s : Span) : Type 0 where
    pub same : (image' : List ℕ) → length image' ≡ length image → SameBytes image image' load s.low s.high → Gets image' load entries s
    pub alone : Gets (cut image load s.low s.high) s.low entries s
