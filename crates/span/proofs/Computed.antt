-- The computed answer meets the statement, where the walk ends within the turns that are taken.
use mathlib.Core.Path.{◌≡◌, refl}
use mathlib.Core.Bool.{Bool, true, false, cond}
use mathlib.Core.List.{List}
use Prim.Native.Nat.{ℕ}
use Rattle.std.proofs.Common.{Result, Err}
use Rattle.refusal.specs.declared.Refusal.{Refusal}
use Rattle.refusal.specs.declared.Refusal.TheVariants.{Refused}
use Rattle.lists.proofs.Tests.{pass, passed, clash}
use Rattle.mos6502.specs.declared.Decoded.{Decoded}
use Rattle.image.specs.declared.Bounds.{Bounds}
use Rattle.image.specs.Image.{last}
use Rattle.opening.specs.Opening.{Ready, all_inside}
use Rattle.opening.proofs.First.{Opens, ready, image_empty, no_entries, past_top, opens, all_inside_mem, mem_all_inside}
use Rattle.site.specs.declared.Reading.{Reading}
use Rattle.reach.specs.Walk.{End, finished, refused, spent, full, Turn, turns, halts}
use Rattle.reach.proofs.Turn.{after_runs}
use Rattle.walk.specs.declared.Rule.TheVariants.{Span as SpanRule}
use Rattle.walk.specs.Walked.{Walk}
use Rattle.walk.specs.Possible.{EntriesInside}
use Rattle.walk.proofs.Possible.{refused≢finished, spent≢finished}
use Rattle.span.specs.Given.{Answers}
use Rattle.span.specs.Computed.{answer_of, answer_after, turns_of, span_from, span_after}
use Rattle.span.proofs.Verdict.{unfinished, entry_outside, finishes}

-- the walk has ended
abbrev pub Ended : Turn → Type 0
Ended (halts e met) = Unit {0}
Ended (turns s) = ⊥

module _ (class : ℕ → Decoded) (reading : Reading) (image : List ℕ) (load : ℕ) (entries : List ℕ) where
  by_end : Ready image load entries → EntriesInside class SpanRule image load entries → {e : End} {met : List ℕ}
      → Walk class SpanRule image load (last image load) entries e met
      → Answers class image load entries reading (answer_of class reading image load entries e met)
  by_end r i {e = finished} {met = met} w = finishes class image load entries r i reading w met (λ a. (λ k. k, λ k. k)) _ refl
  by_end r i {e = refused pc} w = unfinished class image load entries r reading w refused≢finished
  by_end r i {e = spent pc} w = unfinished class image load entries r reading w spent≢finished
  by_end r i {e = full pc} {met = met} w = (r, (i, (pc, met, w)))

  pub computed : (n : ℕ) → Ended (turns_of class reading image load entries n)
      → Answers class image load entries reading (span_after class reading image load entries n)
  computed n d = by (opens image load entries)
    where
      by_turn : Ready image load entries → EntriesInside class SpanRule image load entries → (t : Turn) → turns_of class reading image load entries n ≡ t → Ended t
          → Answers class image load entries reading (answer_after class reading image load entries t)
      by_turn r i (halts e met) q d = by_end r i (after_runs n q)
      by_turn r i (turns s) q d = absurd d

      by_entries : Ready image load entries → (b : Bool) → all_inside load (last image load) entries ≡ b
          → Answers class image load entries reading (cond b (answer_after class reading image load entries (turns_of class reading image load entries n)) (Err Refused))
      by_entries r true e = by_turn r (all_inside_mem load (last image load) entries (passed e)) (turns_of class reading image load entries n) refl d
      by_entries r false e =
          entry_outside class image load entries r reading (λ i. clash (pass _ (mem_all_inside load (last image load) entries i)) e)

      by : {o : Result Bounds Refusal} → Opens image load entries o → Answers class image load entries reading (span_from class reading image load entries o n)
      by (image_empty e) = e
      by (no_entries s e) = (s, e)
      by (past_top s e t) = (s, e, t)
      by (ready r) = by_entries r (all_inside load (last image load) entries) refl
