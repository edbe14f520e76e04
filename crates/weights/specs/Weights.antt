-- The weight of an address: how many entries, repeats counted, record it under any cause when walked alone with a fresh limit (01, "The diagnosis").
-- Assumes nothing.
use Rattle.std.specs.Prelude.{◌≡◌, Bool, true, false, not, ◌&&◌, ◌||◌, List, [], ◌∷◌, map, ℕ, suc, ◌+◌, ◌-◌, min, eqb, Option}
use Rattle.std.specs.Int.{from_bool}
use Rattle.lists.specs.Lists.{elem}
use Rattle.mos6502.specs.declared.Decoded.{Decoded}
use Rattle.mos6502.specs.Class.{manual_class}
use Rattle.image.specs.Image.{inside}
use Rattle.address_set.specs.Map.{has}
use Rattle.cause.specs.declared.RefusalCause.{RefusalCause}
use Rattle.reach.specs.Walk.{End}
use Rattle.walk.specs.declared.Rule.TheVariants.{Diagnosis}
use Rattle.walk.specs.Walked.{Walk}
use Rattle.records.specs.Packed.{address_of, weight_of}
use Rattle.recorder.specs.Recorded.{undecoded_of, causes_at}

abbrev pub is_some : List RefusalCause → Bool
is_some [] = false
is_some (c ∷ causes) = true

module _ (class : ℕ → Decoded) (image : List ℕ) (load last : ℕ) where
  -- is something recorded at the address, if it is one of those that were met or are outside entries?
  abbrev pub is_recorded : (undecoded : Option ℕ) → (concerns : ℕ → Bool) → ℕ → Bool
  is_recorded undecoded concerns a = concerns a && is_some (causes_at class image load last undecoded a)

  -- is the address recorded by the walk of one entry, which came to the end e having met these?
  abbrev pub records_alone : (entry : ℕ) → (e : End) → (met : List ℕ) → ℕ → Bool
  records_alone entry e met a = is_recorded (undecoded_of e) (λ b. elem b met || (eqb b entry && not (inside load last b))) a

  -- `Weighs class image load last a entries n`: n of the entries record a, each in a walk of its own
  pub data Weighs (a : ℕ) : (entries : List ℕ) → ℕ → Type 0 where
    none : Weighs a [] 0
    counts : {entry n : ℕ} {entries met : List ℕ} {e : End} → Walk class Diagnosis image load last (entry ∷ []) e met
        → records_alone entry e met a ≡ true → Weighs a entries n → Weighs a (entry ∷ entries) (suc n)
    passes : {entry n : ℕ} {entries met : List ℕ} {e : End} → Walk class Diagnosis image load last (entry ∷ []) e met
        → records_alone entry e met a ≡ false → Weighs a entries n → Weighs a (entry ∷ entries) n

-- ── in the records ──
-- a record with n more, up to a weight of 65,535; no other bit changes
abbrev pub raised : (n r : ℕ) → ℕ
raised n r = r + min n (65535 - weight_of r)

-- one where something is recorded at the address, which is a member of the map
abbrev pub one_at : (image : List ℕ) (load last : ℕ) (undecoded : Option ℕ) (members : List ℕ) (a : ℕ) → ℕ
one_at image load last undecoded members a = from_bool (is_recorded manual_class image load last undecoded (has members) a)

-- each slot is raised by what is said of its address
abbrev pub raised_by : (more : ℕ → ℕ) → List ℕ → List ℕ
raised_by more slots = map (λ (r : ℕ). raised (more (address_of r)) r) slots

-- each slot is raised by the weight of its address
pub record Filled (image : List ℕ) (load last : ℕ) (entries slots slots' : List ℕ) : Type 0 where
  pub weight : ℕ → ℕ
  pub weighs : (a : ℕ) → Weighs manual_class image load last a entries (weight a)
  pub exact : slots' ≡ raised_by weight slots

-- each slot is raised by one where the walk of one entry records its address
pub record Counted (image : List ℕ) (load last entry : ℕ) (slots slots' : List ℕ) : Type 0 where
  pub end : End
  pub met : List ℕ
  pub walk : Walk manual_class Diagnosis image load last (entry ∷ []) end met
  pub exact : slots' ≡ raised_by (λ a. from_bool (records_alone manual_class image load last entry end met a)) slots
