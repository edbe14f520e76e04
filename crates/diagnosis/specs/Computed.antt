-- The same records and summary, computed where all entries are inside: turn by turn, then over the list of what was met. For worked examples. Assumes nothing.
use Rattle.std.specs.Prelude.{Bool, false, cond, List, [], ◌∷◌, ℕ, suc, length}
use Rattle.mos6502.specs.declared.Decoded.{Decoded}
use Rattle.image.specs.Image.{last, inside}
use Rattle.site.specs.declared.Reading.TheVariants.{Plain}
use Rattle.site.specs.Site.{site_in}
use Rattle.reach.specs.Walk.{End, Turn, turns, halts, start, after}
use Rattle.walk.specs.declared.Rule.TheVariants.{Diagnosis}
use Rattle.walk.specs.Walked.{limit, step_in, ordered}
use Rattle.extent.specs.Extent.{extent_of}
use Rattle.recorder.specs.Recorded.{undecoded_of, pairs_over}
use Rattle.recorder.specs.Records.{records_of}
use Rattle.weights.specs.Weights.{records_alone}
use Rattle.diagnosis.specs.declared.Summary.{Summary}

module _ (class : ℕ → Decoded) (image : List ℕ) (load : ℕ) where
  -- the walk from these entries, after n turns
  abbrev pub turns_of : (entries : List ℕ) (n : ℕ) → Turn
  turns_of entries n = after (step_in class Diagnosis image load (last image load)) (inside load (last image load)) limit limit n (start entries)

  -- does the walk of one entry, which has come so far, record the address? One that has not ended records nothing here.
  abbrev pub records_by : (entry : ℕ) → Turn → ℕ → Bool
  records_by entry (halts e met) a = records_alone class image load (last image load) entry e met a
  records_by entry (turns s) a = false

  -- how many of the entries record the address, each in a walk of n turns
  unfoldable pub weight_after : (n : ℕ) → (entries : List ℕ) → ℕ → ℕ
  weight_after n [] a = 0
  weight_after n (entry ∷ entries) a =
      cond (records_by entry (turns_of (entry ∷ []) n) a) (suc (weight_after n entries a)) (weight_after n entries a)

  module _ (entries : List ℕ) (n : ℕ) where
    abbrev pub records_from : End → (met : List ℕ) → List ℕ
    records_from e met =
        records_of class image load (last image load) (ordered load (last image load) met) (weight_after n entries)
        (pairs_over class image load (last image load) (undecoded_of e) (ordered load (last image load) met))

    abbrev pub summary_from : End → (met : List ℕ) → Summary
    summary_from e met =
        let x = extent_of Plain load (last image load) (site_in class image load (last image load)) (undecoded_of e) entries (ordered load (last image load) met) in
        record { low = x.low; high = x.high; count = length met; records = length (records_from e met) }
