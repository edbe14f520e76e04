-- From the walk's end to the answer. Where the walk finishes, what was met is what is reachable, and the range over it is the range of what is named; where it
-- does not, exactness says that no span is possible.
use mathlib.Core.Path.{◌≡◌, refl, ◌∙◌}
use mathlib.Core.Logic.{◌↔◌, ◌≢◌}
use mathlib.Core.List.{List}
use Prim.Native.Nat.{ℕ}
use native.Mathlib.Omega.{arith}
use lib.ListN.{length}
use Rattle.std.proofs.Common.{None, Err}
use Rattle.refusal.specs.declared.Refusal.TheVariants.{Refused}
use Rattle.lists.specs.Lists.{◌∈◌}
use Rattle.lists.proofs.Tests.{pass}
use Rattle.lists.proofs.Sets.{some_mem}
use Rattle.mos6502.specs.declared.Decoded.{Decoded}
use Rattle.image.specs.Image.{last, inside, byte_at}
use Rattle.image.proofs.Inside.{inside_bounds}
use Rattle.opening.specs.Opening.{Ready}
use Rattle.site.specs.declared.Reading.{Reading}
use Rattle.site.specs.Site.{site_in}
use Rattle.site.proofs.Size.{site_size}
use Rattle.reach.specs.Walk.{End, finished}
use Rattle.reach.proofs.Exact.{finished_exact}
use Rattle.reach.proofs.Finite.{reach_inside}
use Rattle.walk.specs.declared.Rule.TheVariants.{Span as SpanRule}
use Rattle.walk.specs.Walked.{Walk}
use Rattle.walk.specs.Possible.{Reachable, EntriesInside}
use Rattle.walk.proofs.Possible as walk
use Rattle.extent.specs.Named.{Named, by_entry, Range}
use Rattle.extent.specs.Extent.{extent_of}
use Rattle.extent.proofs.Range.{range_same, named_more}
use Rattle.extent.proofs.Hull.{extent_range}
use Rattle.span.specs.Given.{Answers}
use Rattle.span.specs.Computed.{span_with}

module _ (class : ℕ → Decoded) (image : List ℕ) (load : ℕ) (entries : List ℕ) (ready : Ready image load entries) where
  abbrev Walks : End → List ℕ → Type 0
  Walks e met = Walk class SpanRule image load (last image load) entries e met

  -- a walk that does not finish: no span is possible
  pub unfinished : (reading : Reading) {e : End} {met : List ℕ} → Walks e met → e ≢ finished → Answers class image load entries reading (Err Refused)
  unfinished reading w n = (ready, walk.unfinished class SpanRule image load entries w n, walk.not_full class SpanRule image load entries)

  -- an entry outside: no span is possible
  pub entry_outside : (reading : Reading) → ¬ EntriesInside class SpanRule image load entries → Answers class image load entries reading (Err Refused)
  entry_outside reading out = (ready, λ d. out d.1.entries_inside, walk.not_full class SpanRule image load entries)

  module _ (within : EntriesInside class SpanRule image load entries) where
    -- the range over a list of what was met is the range of what is named by the reachable instructions
    range : (reading : Reading) {met : List ℕ} → Walks finished met → (k : List ℕ) → ((a : ℕ) → a ∈ k ↔ a ∈ met)
        → Range (Named reading load (last image load) (site_in class image load (last image load)) entries (Reachable class SpanRule image load entries))
        (extent_of reading load (last image load) (site_in class image load (last image load)) None entries k).low
        (extent_of reading load (last image load) (site_in class image load (last image load)) None entries k).high
    range reading w k same =
        range_same (λ x. (named_more (λ a c. (finished_exact entries w a).0 ((same a).0 c.0)), named_more (λ a r. ((same a).1 ((finished_exact entries w a).1 r), refl))))
        (extent_range reading load (last image load) (site_in class image load (last image load)) None entries k (omega (arith, ready.top))
        (λ a m. (inside_bounds load (last image load) a (pass _ (reach_inside ((finished_exact entries w a).0 ((same a).0 m))))).0)
        (λ a m e. site_size class (byte_at image load) (last image load) (inside load (last image load)) a e)
        (by_entry some.1 (within some.0 some.1)))
      where
        some : (a : ℕ) × (a ∈ entries)
        some = some_mem entries ready.entries_some

    -- a walk that finishes: the span over a list of what was met, and as many instructions as were met
    pub finishes : (reading : Reading) {met : List ℕ} → Walks finished met → (k : List ℕ) → ((a : ℕ) → a ∈ k ↔ a ∈ met) → (n : ℕ) → n ≡ length met
        → Answers class image load entries reading
        (span_with (extent_of reading load (last image load) (site_in class image load (last image load)) None entries k) n)
    finishes reading w k same n e =
        let f = walk.finishes class SpanRule image load entries tt ready within w in
        record { list = f.list; possible = f.possible; range = range reading w k same; count = e ∙ f.count }
