-- What `diagnose` answers, and what it leaves in the lent list (01, "Numbered outcomes" and "The diagnosis"). Assumes nothing.
use Rattle.std.specs.Prelude.{◌≡◌, true, false, List, ◌++◌, ℕ, ◌≤◌, ◌<◌, length, drop, Result, Ok, Err}
use Rattle.lists.specs.Lists.{◌∈◌, Ascending}
use Rattle.mos6502.specs.declared.Decoded.{Decoded}
use Rattle.refusal.specs.declared.Refusal.{Refusal}
use Rattle.refusal.specs.declared.Refusal.TheVariants.{ImageEmpty, NoEntries, PastTop, Refused, Unbounded, Short, Full}
use Rattle.refusal.specs.Numbers.{needed}
use Rattle.image.specs.Image.{last, inside}
use Rattle.opening.specs.Opening.{Ready}
use Rattle.site.specs.declared.Reading.TheVariants.{Plain}
use Rattle.site.specs.Site.{site_in}
use Rattle.reach.specs.Walk.{End, full}
use Rattle.walk.specs.declared.Rule.TheVariants.{Diagnosis}
use Rattle.walk.specs.Walked.{Walk}
use Rattle.extent.specs.Extent.{is_skipped}
use Rattle.extent.specs.Named.{Named, Range}
use Rattle.diagnosis.specs.declared.Summary.{Summary}
use Rattle.recorder.specs.Recorded.{undecoded_of, pairs_over, Concerns}
use Rattle.recorder.specs.Records.{records_of}
use Rattle.weights.specs.Weights.{Weighs}

-- ── 01's values ──
-- low, high, the number of addresses met and that of records; a refusal's are 0, but for the number of records that a list too short would need
abbrev pub wanting : (needed : ℕ) → Summary
wanting needed = record { low = 0; high = 0; count = 0; records = needed }

abbrev pub values_of : Result Summary Refusal → Summary
values_of (Ok s) = s
values_of (Err refusal) = wanting (needed refusal)

-- ── what is found ──
module _ (class : ℕ → Decoded) (image : List ℕ) (load : ℕ) (entries : List ℕ) where
  -- the joint walk, which is not full, and from it the records
  pub record Finds (records : List ℕ) : Type 0 where
    pub ready : Ready image load entries
    pub end : End
    pub met : List ℕ
    pub walk : Walk class Diagnosis image load (last image load) entries end met
    pub not_full : (pc : ℕ) → end ≡ full pc → ⊥
    -- the addresses met, ascending, and those with the outside entries
    pub order : List ℕ
    pub ascending : Ascending order
    pub same : (a : ℕ) → (a ∈ order → a ∈ met) × (a ∈ met → a ∈ order)
    pub concerned : List ℕ
    pub concerns : Concerns load (last image load) entries met concerned
    -- each address's weight
    pub weight : ℕ → ℕ
    pub weighs : (a : ℕ) → a ∈ concerned → Weighs class image load (last image load) a entries (weight a)
    pub exact : records ≡ records_of class image load (last image load) order weight (pairs_over class image load (last image load) (undecoded_of end) concerned)

  -- the decoded instructions met
  abbrev pub Decodes : End → List ℕ → ℕ → Type 0
  Decodes e met a = (a ∈ met) × (is_skipped (undecoded_of e) a ≡ false)

  -- low and high, as in the plain span, over inside entries and decoded instructions; with no entry inside both are load
  pub record Measures (e : End) (met : List ℕ) (s : Summary) : Type 0 where
    pub range : ((a : ℕ) × (a ∈ entries) × (inside load (last image load) a ≡ true))
        → Range (Named Plain load (last image load) (site_in class image load (last image load)) entries (Decodes e met)) s.low s.high
    pub nowhere : ((a : ℕ) → a ∈ entries → inside load (last image load) a ≡ false) → (s.low ≡ load) × (s.high ≡ load)
    pub count : s.count ≡ length met

  -- Each answer, and the slots before and after. A refusal leaves every slot as it was; an answer writes slots 0 to n - 1 and no other.
  abbrev pub Answers : (slots slots' : List ℕ) → Result Summary Refusal → Type 0
  Answers slots slots' (Err ImageEmpty) = (length image ≡ 0) × (slots' ≡ slots)
  Answers slots slots' (Err NoEntries) = (0 < length image) × (length entries ≡ 0) × (slots' ≡ slots)
  Answers slots slots' (Err PastTop) = (0 < length image) × (0 < length entries) × (0xFFFF < last image load) × (slots' ≡ slots)
  Answers slots slots' (Err Refused) = ⊥
  Answers slots slots' (Err Unbounded) = ⊥
  Answers slots slots' (Err Full) =
      Ready image load entries × ((pc : ℕ) × (met : List ℕ) × Walk class Diagnosis image load (last image load) entries (full pc) met) × (slots' ≡ slots)
  Answers slots slots' (Err (Short needed)) = (records : List ℕ) × Finds records × (needed ≡ length records) × (length slots < needed) × (slots' ≡ slots)
  Answers slots slots' (Ok s) =
      (records : List ℕ) × (f : Finds records) × Measures f.end f.met s × (s.records ≡ length records) × (length records ≤ length slots)
      × (slots' ≡ records ++ drop (length records) slots)
