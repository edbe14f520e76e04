-- Two answers that meet the statement are equal: the tests that come before any walk exclude each other and all else; a span is possible or it is not; and where it
-- is given, its range, its list and so its count are unique.
use mathlib.Core.Path.{◌≡◌, refl, sym, ap, ◌∙◌}
use mathlib.Core.List.{List}
use Prim.Native.Nat.{ℕ}
use Rattle.std.proofs.Common.{Result, Ok}
use Rattle.refusal.specs.declared.Refusal.{Refusal}
use Rattle.mos6502.specs.declared.Decoded.{Decoded}
use Rattle.opening.proofs.First.{ready, opens_unique}
use Rattle.site.specs.declared.Reading.{Reading}
use Rattle.site.specs.declared.Reading.TheVariants.{Plain}
use Rattle.reach.proofs.Unique.{size_unique}
use Rattle.extent.proofs.Range.{range_unique}
use Rattle.span.specs.declared.Span.{Span}
use Rattle.span.specs.Answers.{end_of}
use Rattle.span.specs.Given.{Gives, Answers, EndAnswers}
use Rattle.span.proofs.Cases.{Says, given, refused, early, says}

module _ (class : ℕ → Decoded) (image : List ℕ) (load : ℕ) (entries : List ℕ) where
  same_span : {s t : Span} → s.low ≡ t.low → s.high ≡ t.high → s.count ≡ t.count → s ≡ t
  same_span p q r i = record { low = p i; high = q i; count = r i }

  gives_unique : {reading : Reading} {s t : Span} → Gives class image load entries reading s → Gives class image load entries reading t → s ≡ t
  gives_unique {s = s} {t = t} p q =
      let r = range_unique p.range q.range in
      same_span r.0 r.1 (p.count ∙ size_unique p.possible.reachable q.possible.reachable ∙ sym q.count)

  module _ (reading : Reading) where
    by_case : {r r' : Result Span Refusal} → Says class image load entries reading r → Says class image load entries reading r' → r ≡ r'
    by_case (given p) (given q) = ap Ok (gives_unique p q)
    by_case (given p) (refused r none) = absurd (none (p.list, p.possible))
    by_case (given p) (early o) = let same = opens_unique image load entries (ready p.possible.ready) o in cc
    by_case (refused r none) (given q) = absurd (none (q.list, q.possible))
    by_case (refused r none) (refused r' none') = refl
    by_case (refused r none) (early o) = let same = opens_unique image load entries (ready r) o in cc
    by_case (early o) (given q) = let same = opens_unique image load entries (ready q.possible.ready) o in cc
    by_case (early o) (refused r none) = let same = opens_unique image load entries (ready r) o in cc
    by_case (early o) (early o') = let same = opens_unique image load entries o o' in cc

    pub answers_unique : (r r' : Result Span Refusal) → Answers class image load entries reading r → Answers class image load entries reading r' → r ≡ r'
    answers_unique r r' p q = by_case (says class image load entries reading r p) (says class image load entries reading r' q)

  pub end_unique : (r r' : Result ℕ Refusal) → EndAnswers class image load entries r → EndAnswers class image load entries r' → r ≡ r'
  end_unique r r' p q = p.2 ∙ ap end_of (answers_unique Plain p.0 q.0 p.1 q.1) ∙ sym q.2
