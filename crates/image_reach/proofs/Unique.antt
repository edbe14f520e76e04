-- Two tellings of one input agree in every number and every slot: the plain call's answer is unique, and number and values are functions of it.
use mathlib.Core.Path.{◌≡◌, sym, ap, ◌∙◌}
use mathlib.Core.List.{List}
use Prim.Native.Nat.{ℕ}
use Rattle.mos6502.specs.Class.{manual_class}
use Rattle.writes.specs.Writes.{manual_writes}
use Rattle.site.specs.declared.Reading.{Reading}
use Rattle.span.specs.declared.Span.{Span}
use Rattle.refusal.specs.Numbers.{number_of}
use Rattle.span.specs.Answers.{values_of, end_value_of}
use Rattle.span.proofs.Unique as span
use Rattle.diagnosis.specs.declared.Summary.{Summary}
use Rattle.diagnosis.specs.Answers.{values_of as diag_values_of}
use Rattle.diagnosis.proofs.Unique as diagnosis
use Rattle.stores.specs.Answers.{count_of}
use Rattle.stores.proofs.Unique as stores
use Rattle.image_reach.specs.Face.{TellsSpan, TellsEnd, TellsDiagnosis, TellsStores, TellsTracker}

-- what is read off two equal answers is equal
alike : {A B : Type 0} (read : A → B) {a a' : A} {x x' : B} → a ≡ a' → x ≡ read a → x' ≡ read a' → x ≡ x'
alike read e p q = p ∙ ap read e ∙ sym q

module _ {image : List ℕ} {load : ℕ} {entries : List ℕ} where
  pub span_unique : {reading : Reading} {n low high count n' low' high' count' : ℕ} → TellsSpan image load entries reading n low high count
      → TellsSpan image load entries reading n' low' high' count' → (n ≡ n') × (low ≡ low') × (high ≡ high') × (count ≡ count')
  span_unique {reading} p q =
      let e = span.answers_unique manual_class image load entries reading p.answer q.answer p.holds q.holds in
      let v = alike values_of e p.values q.values in
      (alike number_of e p.number q.number, ap (λ (s : Span). s.low) v, ap (λ (s : Span). s.high) v, ap (λ (s : Span). s.count) v)

  pub end_unique : {n high n' high' : ℕ} → TellsEnd image load entries n high → TellsEnd image load entries n' high' → (n ≡ n') × (high ≡ high')
  end_unique p q =
      let e = span.end_unique manual_class image load entries p.answer q.answer p.holds q.holds in
      (alike number_of e p.number q.number, alike end_value_of e p.value q.value)

  pub diagnosis_unique : {slots slots' slots'' : List ℕ} {n low high count records n' low' high' count' records' : ℕ}
      → TellsDiagnosis image load entries slots slots' n low high count records → TellsDiagnosis image load entries slots slots'' n' low' high' count' records'
      → (slots' ≡ slots'') × (n ≡ n') × (low ≡ low') × (high ≡ high') × (count ≡ count') × (records ≡ records')
  diagnosis_unique {slots} {slots'} {slots''} p q =
      let e = diagnosis.answers_unique manual_class image load entries slots slots' slots'' p.answer q.answer p.holds q.holds in
      let v = alike diag_values_of e.0 p.values q.values in (
        e.1,
        alike number_of e.0 p.number q.number,
        ap (λ (s : Summary). s.low) v,
        ap (λ (s : Summary). s.high) v,
        ap (λ (s : Summary). s.count) v,
        ap (λ (s : Summary). s.records) v,
      )

  pub stores_unique : {slots slots' slots'' : List ℕ} {n records n' records' : ℕ} → TellsStores image load entries slots slots' n records
      → TellsStores image load entries slots slots'' n' records' → (slots' ≡ slots'') × (n ≡ n') × (records ≡ records')
  stores_unique {slots} {slots'} {slots''} p q =
      let e = stores.answers_unique manual_class manual_writes image load entries slots slots' slots'' p.answer q.answer p.holds q.holds in
      (e.1, alike number_of e.0 p.number q.number, alike count_of e.0 p.value q.value)

pub tracker_unique : {code registers known zp marks registers' known' zp' marks' : List ℕ} → TellsTracker code registers known zp marks
    → TellsTracker code registers' known' zp' marks' → (registers ≡ registers') × (known ≡ known') × (zp ≡ zp') × (marks ≡ marks')
tracker_unique p q = (p.values ∙ sym q.values, p.which ∙ sym q.which, p.zero_page ∙ sym q.zero_page, p.marked ∙ sym q.marked)
