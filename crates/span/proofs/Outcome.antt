-- What the code learns of its callees is the answer: the entries' test, and the walk with the pass over its map.
use mathlib.Core.Path.{◌≡◌, ◌∙◌}
use mathlib.Core.Bool.{true, false}
use mathlib.Core.List.{List}
use Prim.Native.Nat.{ℕ, ◌<◌}
use native.Mathlib.Omega.{arith}
use lib.ListN.{length}
use Rattle.std.proofs.Common.{None, Ok, Err}
use Rattle.refusal.specs.declared.Refusal.{Refusal}
use Rattle.refusal.specs.declared.Refusal.TheVariants.{Refused, Full}
use Rattle.lists.proofs.Tests.{pass, passed, clash}
use Rattle.mos6502.specs.Class.{manual_class}
use Rattle.image.specs.declared.Bounds.{Bounds}
use Rattle.image.specs.Image.{last}
use Rattle.address_set.specs.Map.{members, members_in}
use Rattle.opening.specs.Opening.{all_inside}
use Rattle.opening.proofs.First.{Opens, ready, all_inside_mem, mem_all_inside}
use Rattle.site.specs.declared.Reading.{Reading}
use Rattle.site.specs.Site.{site_in}
use Rattle.walk.specs.declared.End.{End}
use Rattle.walk.specs.declared.End.TheVariants as end
use Rattle.walk.specs.declared.Rule.TheVariants.{Span as SpanRule}
use Rattle.walk.specs.Walked.{outcome_of, Walked}
use Rattle.walk.proofs.Members.{met_scan, met_count}
use Rattle.walk.proofs.Possible.{refused≢finished, spent≢finished}
use Rattle.extent.specs.declared.Extent.{Extent}
use Rattle.extent.specs.Extent.{extent_of}
use Rattle.span.specs.Given.{Answers}
use Rattle.span.specs.Computed.{span_with}
use Rattle.span.proofs.Verdict.{unfinished, entry_outside, finishes}

module _ (image : List ℕ) (load : ℕ) (entries : List ℕ) (reading : Reading) where
  -- an entry outside
  pub outside : {b : Bounds} → Opens image load entries (Ok b) → all_inside b.load b.last entries ≡ false
      → Answers manual_class image load entries reading (Err Refused)
  outside (ready r) e =
      entry_outside manual_class image load entries r reading (λ i. clash (pass _ (mem_all_inside load (last image load) entries i)) e)

  -- the walk ended without finishing
  pub halted : {b : Bounds} {map : List ℕ} (e : End) {why : Refusal} → Opens image load entries (Ok b) → all_inside b.load b.last entries ≡ true
      → Walked SpanRule image b.load b.last entries e map → outcome_of e ≡ Err why → Answers manual_class image load entries reading (Err why)
  halted end.Finished o i w r = absurd cc
  halted (end.Refused pc) {why} (ready r) i w q = let same : Refused ≡ why = cc in rw (← same) (unfinished manual_class image load entries r reading w.walk refused≢finished)
  halted (end.Spent pc) {why} (ready r) i w q = let same : Refused ≡ why = cc in rw (← same) (unfinished manual_class image load entries r reading w.walk spent≢finished)
  halted (end.Full pc) {why} (ready r) i w q = let same : Full ≡ why = cc in rw (← same) (r, (all_inside_mem load (last image load) entries (passed i), (pc, w.met, w.walk)))

  -- the walk finished: the pass over the map, and the number of its members
  pub spanned : {b : Bounds} {map : List ℕ} (e : End) {x : Extent} {n : ℕ} → Opens image load entries (Ok b) → all_inside b.load b.last entries ≡ true
      → Walked SpanRule image b.load b.last entries e map → outcome_of e ≡ Ok tt
      → x ≡ extent_of reading b.load b.last (site_in manual_class image b.load b.last) None entries (members_in b.load b.last map)
      → n ≡ length (members map) → Answers manual_class image load entries reading (span_with x n)
  spanned end.Finished {n = n} (ready r) i w q f c =
      let top : last image load < 65536 = omega (arith, r.top) in
      rw f
      (finishes manual_class image load entries r (all_inside_mem load (last image load) entries (passed i)) reading w.walk
      (members_in load (last image load) _) (met_scan w top) n (c ∙ met_count w top))
  spanned (end.Refused pc) o i w q f c = absurd cc
  spanned (end.Spent pc) o i w q f c = absurd cc
  spanned (end.Full pc) o i w q f c = absurd cc
