-- When a span is given, and what it is, without a walk; and which number is given otherwise (01, "Numbered outcomes" and "The plain span").
-- Assumes nothing.
use Rattle.std.specs.Prelude.{◌≡◌, List, ℕ, ◌<◌, length, Result, Ok, Err}
use Rattle.refusal.specs.declared.Refusal.{Refusal}
use Rattle.refusal.specs.declared.Refusal.TheVariants.{ImageEmpty, NoEntries, PastTop, Refused, Unbounded, Short, Full}
use Rattle.mos6502.specs.declared.Decoded.{Decoded}
use Rattle.image.specs.Image.{last}
use Rattle.opening.specs.Opening.{Ready}
use Rattle.site.specs.declared.Reading.{Reading}
use Rattle.site.specs.declared.Reading.TheVariants.{Plain}
use Rattle.site.specs.Site.{site_in}
use Rattle.walk.specs.declared.Rule.TheVariants.{Span as SpanRule}
use Rattle.walk.specs.Possible.{Reachable, Possible, RunsFull}
use Rattle.extent.specs.Named.{Named, Range}
use Rattle.span.specs.declared.Span.{Span}
use Rattle.span.specs.Answers.{end_of}

module _ (class : ℕ → Decoded) (image : List ℕ) (load : ℕ) (entries : List ℕ) where
  -- low and high are the ends of the smallest range that covers every entry, every byte of every reachable instruction, and what their absolute operands
  -- name by the reading; count is how many instructions are reachable
  pub record Gives (reading : Reading) (s : Span) : Type 0 where
    pub list : List ℕ
    pub possible : Possible class SpanRule image load entries list
    pub range : Range (Named reading load (last image load) (site_in class image load (last image load)) entries (Reachable class SpanRule image load entries)) s.low s.high
    pub count : s.count ≡ length list

  -- What each answer says. 5 and 6 are never given.
  abbrev pub Answers : Reading → Result Span Refusal → Type 0
  Answers reading (Ok s) = Gives reading s
  Answers reading (Err ImageEmpty) = length image ≡ 0
  Answers reading (Err NoEntries) = (0 < length image) × (length entries ≡ 0)
  Answers reading (Err PastTop) = (0 < length image) × (0 < length entries) × (0xFFFF < last image load)
  Answers reading (Err Refused) =
      Ready image load entries × ¬ ((l : List ℕ) × Possible class SpanRule image load entries l) × ¬ RunsFull class SpanRule image load entries
  Answers reading (Err Unbounded) = ⊥
  Answers reading (Err (Short needed)) = ⊥
  Answers reading (Err Full) = Ready image load entries × RunsFull class SpanRule image load entries

  -- the end of the plain span
  abbrev pub EndAnswers : Result ℕ Refusal → Type 0
  EndAnswers r = (s : Result Span Refusal) × Answers Plain s × (r ≡ end_of s)
