-- What an answer says, in three cases: a span is given; none is possible; or one of the tests that come before any walk has failed. For the walk is never full.
use mathlib.Core.List.{List}
use Prim.Native.Nat.{ℕ}
use Rattle.std.proofs.Common.{Result, Ok, Err}
use Rattle.refusal.specs.declared.Refusal.{Refusal}
use Rattle.refusal.specs.declared.Refusal.TheVariants.{ImageEmpty, NoEntries, PastTop, Refused, Unbounded, Short, Full}
use Rattle.mos6502.specs.declared.Decoded.{Decoded}
use Rattle.opening.specs.Opening.{Ready}
use Rattle.opening.proofs.First.{Opens, image_empty, no_entries, past_top}
use Rattle.site.specs.declared.Reading.{Reading}
use Rattle.walk.specs.declared.Rule.TheVariants.{Span as SpanRule}
use Rattle.walk.specs.Possible.{Possible}
use Rattle.walk.proofs.Possible.{not_full}
use Rattle.span.specs.declared.Span.{Span}
use Rattle.span.specs.Given.{Gives, Answers}

module _ (class : ℕ → Decoded) (image : List ℕ) (load : ℕ) (entries : List ℕ) (reading : Reading) where
  pub data Says : Result Span Refusal → Type 0 where
    given : {s : Span} → Gives class image load entries reading s → Says (Ok s)
    refused : Ready image load entries → ¬ ((l : List ℕ) × Possible class SpanRule image load entries l) → Says (Err Refused)
    early : {why : Refusal} → Opens image load entries (Err why) → Says (Err why)

  pub says : (r : Result Span Refusal) → Answers class image load entries reading r → Says r
  says (Ok s) p = given p
  says (Err ImageEmpty) p = early (image_empty p)
  says (Err NoEntries) p = early (no_entries p.0 p.1)
  says (Err PastTop) p = early (past_top p.0 p.1 p.2)
  says (Err Refused) p = refused p.0 p.1
  says (Err Unbounded) p = absurd p
  says (Err (Short needed)) p = absurd p
  says (Err Full) p = absurd (not_full class SpanRule image load entries p.1)
