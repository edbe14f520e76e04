-- The walk of an image from its entries, as the machine of `reach` at the step of a rule. Assumes nothing.
use Rattle.std.specs.Prelude.{◌≡◌, false, List, ℕ, suc, ◌-◌, length, Result, Ok, Err}
use Rattle.lists.specs.Lists.{elem, scan}
use Rattle.mos6502.specs.declared.Decoded.{Decoded}
use Rattle.mos6502.specs.Class.{manual_class}
use Rattle.refusal.specs.declared.Refusal.{Refusal}
use Rattle.refusal.specs.declared.Refusal.TheVariants as refusal
use Rattle.image.specs.Image.{inside}
use Rattle.address_set.specs.Map.{has}
use Rattle.site.specs.Site.{site_in}
use Rattle.reach.specs.Reach as reach
use Rattle.reach.specs.Walk as machine
use Rattle.walk.specs.declared.End.{End}
use Rattle.walk.specs.declared.End.TheVariants.{Finished, Refused, Spent, Full}
use Rattle.walk.specs.declared.Rule.{Rule}
use Rattle.walk.specs.Step.{step_by, as_step}

-- 01's limit: as many instructions as a walk may meet, and as many addresses as may be pending
abbrev pub limit : ℕ
limit = 4096

-- the step of the site at an address, under a rule
unfoldable pub step_in : (class : ℕ → Decoded) → Rule → (image : List ℕ) (load last : ℕ) → ℕ → reach.Step
step_in class rule image load last a = as_step (step_by rule (inside load last) (site_in class image load last a))

-- the code's end as that of the machine
abbrev pub as_end : End → machine.End
as_end Finished = machine.finished
as_end (Refused pc) = machine.refused pc
as_end (Spent pc) = machine.spent pc
as_end (Full pc) = machine.full pc

-- the outcome of a call whose walk came to this end: 4 where a site was refused or the instructions were too many, and 7 where too many addresses were pending
abbrev pub outcome_of : End → Result (Unit {0}) Refusal
outcome_of Finished = Ok tt
outcome_of (Refused pc) = Err refusal.Refused
outcome_of (Spent pc) = Err refusal.Refused
outcome_of (Full pc) = Err refusal.Full

-- what the walk of an image is
abbrev pub Walk : (class : ℕ → Decoded) → Rule → (image : List ℕ) (load last : ℕ) (entries : List ℕ) → machine.End → (met : List ℕ) → Type 0
Walk class rule image load last entries e met =
    machine.Walk (step_in class rule image load last) (inside load last) limit limit entries e met

-- what was met, ascending
abbrev pub ordered : (load last : ℕ) (met : List ℕ) → List ℕ
ordered load last met = scan (λ a. elem a met) load (suc last - load)

-- a map with no member
pub record Cleared (map : List ℕ) : Type 0 where
  pub size : length map ≡ 8192
  pub none : (a : ℕ) → has map a ≡ false

-- the walk came to this end, and the map has exactly the addresses met
pub record Walked (rule : Rule) (image : List ℕ) (load last : ℕ) (entries : List ℕ) (e : End) (map : List ℕ) : Type 0 where
  pub met : List ℕ
  pub walk : Walk manual_class rule image load last entries (as_end e) met
  pub size : length map ≡ 8192
  pub exact : (a : ℕ) → has map a ≡ elem a met
