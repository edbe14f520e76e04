-- The same answer, computed: turn by turn, then over the list of what was met. For worked examples. Assumes nothing.
use Rattle.std.specs.Prelude.{cond, List, ℕ, length, None, Result, Ok, Err}
use Rattle.refusal.specs.declared.Refusal.{Refusal}
use Rattle.refusal.specs.declared.Refusal.TheVariants.{Refused, Full}
use Rattle.mos6502.specs.declared.Decoded.{Decoded}
use Rattle.image.specs.declared.Bounds.{Bounds}
use Rattle.image.specs.Image.{last, inside}
use Rattle.opening.specs.Opening.{opening_of, all_inside}
use Rattle.site.specs.declared.Reading.{Reading}
use Rattle.site.specs.Site.{site_in}
use Rattle.reach.specs.Walk.{End, finished, refused, spent, full, Turn, turns, halts, start, after}
use Rattle.walk.specs.declared.Rule.TheVariants.{Span as SpanRule}
use Rattle.walk.specs.Walked.{limit, step_in}
use Rattle.extent.specs.declared.Extent.{Extent}
use Rattle.extent.specs.Extent.{extent_of}
use Rattle.span.specs.declared.Span.{Span}

-- a span from an extent and a count
abbrev pub span_with : Extent → (count : ℕ) → Result Span Refusal
span_with e count = Ok (record { low = e.low; high = e.high; count = count })

module _ (class : ℕ → Decoded) (reading : Reading) (image : List ℕ) (load : ℕ) (entries : List ℕ) where
  -- how the walk's end is answered, where it met these
  abbrev pub answer_of : End → (met : List ℕ) → Result Span Refusal
  answer_of finished met =
      span_with (extent_of reading load (last image load) (site_in class image load (last image load)) None entries met) (length met)
  answer_of (refused pc) met = Err Refused
  answer_of (spent pc) met = Err Refused
  answer_of (full pc) met = Err Full

  -- the first n turns; a walk that has not ended by then has no answer here, which reads as Full
  abbrev pub answer_after : Turn → Result Span Refusal
  answer_after (halts e met) = answer_of e met
  answer_after (turns s) = Err Full

  abbrev pub turns_of : (n : ℕ) → Turn
  turns_of n = after (step_in class SpanRule image load (last image load)) (inside load (last image load)) limit limit n (start entries)

  abbrev pub span_from : Result Bounds Refusal → (n : ℕ) → Result Span Refusal
  span_from (Ok bounds) n = cond (all_inside load (last image load) entries) (answer_after (turns_of n)) (Err Refused)
  span_from (Err why) n = Err why

  abbrev pub span_after : (n : ℕ) → Result Span Refusal
  span_after n = span_from (opening_of image load entries) n
