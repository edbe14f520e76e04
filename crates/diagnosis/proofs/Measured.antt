-- Low, high and count, from a list of the addresses met: the range of what is named by the decoded instructions met, or load alone where no entry is inside and
-- so nothing is met.
use mathlib.Core.Path.{◌≡◌}
use mathlib.Core.Bool.{Bool, false}
use mathlib.Core.List.{List}
use Prim.Native.Nat.{ℕ, ◌≤◌}
use native.Mathlib.Omega.{arith}
use lib.ListN.{length}
use Rattle.lists.specs.Lists.{◌∈◌}
use Rattle.lists.proofs.Tests.{pass, passed, clash}
use Rattle.mos6502.specs.declared.Decoded.{Decoded}
use Rattle.image.specs.Image.{last, inside, byte_at}
use Rattle.opening.specs.Opening.{Ready}
use Rattle.site.specs.declared.Reading.TheVariants.{Plain}
use Rattle.site.specs.Site.{site_in}
use Rattle.site.proofs.Size.{site_size}
use Rattle.reach.specs.Reach.{Step, Reach, entered, followed}
use Rattle.reach.proofs.Sound.{sound}
use Rattle.reach.specs.Walk.{End}
use Rattle.walk.specs.declared.Rule.TheVariants.{Diagnosis}
use Rattle.walk.specs.Walked.{Walk}
use Rattle.walk.proofs.Members.{walk_inside}
use Rattle.extent.specs.declared.Extent.{Extent}
use Rattle.extent.specs.Extent.{extent_of}
use Rattle.extent.specs.Named.{by_entry, by_byte, by_operand}
use Rattle.extent.proofs.Range.{range_same, named_more}
use Rattle.extent.proofs.Hull.{NamedOver, extent_range, extent_empty}
use Rattle.recorder.specs.Recorded.{undecoded_of}
use Rattle.diagnosis.specs.Answers.{Measures}

-- without an entry inside nothing is reachable
unreachable : {step : ℕ → Step} {within : ℕ → Bool} {entries : List ℕ} → ((a : ℕ) → a ∈ entries → within a ≡ false) → {a : ℕ}
    → ¬ Reach step within entries a
unreachable none (entered {a = a} k i) = clash (pass _ i) (none a k)
unreachable none (followed r k i) = unreachable none r

module _ (class : ℕ → Decoded) (image : List ℕ) (load : ℕ) (entries : List ℕ) (ready : Ready image load entries) {e : End} {met : List ℕ}
    (w : Walk class Diagnosis image load (last image load) entries e met) (order : List ℕ)
    (same : (a : ℕ) → (a ∈ order → a ∈ met) × (a ∈ met → a ∈ order)) where
  pub measured : {x : Extent} {n k : ℕ}
      → x ≡ extent_of Plain load (last image load) (site_in class image load (last image load)) (undecoded_of e) entries order → n ≡ length met
      → Measures class image load entries e met (record { low = x.low; high = x.high; count = n; records = k })
  measured q c =
      rw q
      (record {
        range = λ d.
            range_same (λ y. (named_more (λ a k. ((same a).0 k.0, k.1)), named_more (λ a k. ((same a).1 k.0, k.1))))
            (extent_range Plain load (last image load) (site_in class image load (last image load)) (undecoded_of e) entries order (omega (arith, ready.top)) from_load
            (λ a k. site_size class (byte_at image load) (last image load) (inside load (last image load)) a) (by_entry d.1 (passed d.2)));
        nowhere = λ none.
            extent_empty Plain load (last image load) (site_in class image load (last image load)) (undecoded_of e) entries order (omega (arith, ready.top)) from_load
            (λ a k. site_size class (byte_at image load) (last image load) (inside load (last image load)) a) (λ y. nothing_named none) (omega (arith, ready.image_some));
        count = c;
      })
    where
      from_load : (a : ℕ) → a ∈ order → load ≤ a
      from_load a k = (walk_inside class Diagnosis image load (last image load) entries w a ((same a).0 k)).0

      nothing_met : ((a : ℕ) → a ∈ entries → inside load (last image load) a ≡ false) → (a : ℕ) → ¬ (a ∈ order)
      nothing_met none a k = unreachable none ((sound entries w).found.reached a ((same a).0 k))

      nothing_named : ((a : ℕ) → a ∈ entries → inside load (last image load) a ≡ false) → {y : ℕ}
          → ¬ NamedOver Plain load (last image load) (site_in class image load (last image load)) (undecoded_of e) entries order y
      nothing_named none {y} (by_entry k t) = clash (pass _ t) (none y k)
      nothing_named none (by_byte a k i p r) = nothing_met none a k.0
      nothing_named none (by_operand a k t) = nothing_met none a k.0
