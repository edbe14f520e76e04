-- When a walk under a rule can be carried through, said without the walk: demand 2's condition, for span and stores alike. Assumes nothing.
use Rattle.std.specs.Prelude.{◌≡◌, true, List, ℕ, ◌≤◌, T, length}
use Rattle.lists.specs.Lists.{◌∈◌}
use Rattle.mos6502.specs.declared.Decoded.{Decoded}
use Rattle.image.specs.Image.{last, inside}
use Rattle.opening.specs.Opening.{Ready}
use Rattle.site.specs.Site.{site_in}
use Rattle.reach.specs.Reach.{Reach, ReachList}
use Rattle.reach.specs.Walk.{full}
use Rattle.walk.specs.declared.Rule.{Rule}
use Rattle.walk.specs.Step.{accepts}
use Rattle.walk.specs.Walked.{limit, step_in, Walk}

module _ (class : ℕ → Decoded) (rule : Rule) (image : List ℕ) (load : ℕ) (entries : List ℕ) where
  -- the instruction at a is reachable from the entries. No walk
  abbrev pub Reachable : ℕ → Type 0
  Reachable a = Reach (step_in class rule image load (last image load)) (inside load (last image load)) entries a

  -- a is a site that the rule does not refuse
  abbrev pub Accepted : ℕ → Type 0
  Accepted a = accepts rule (inside load (last image load)) (site_in class image load (last image load) a) ≡ true

  abbrev pub EntriesInside : Type 0
  EntriesInside = (a : ℕ) → a ∈ entries → T (inside load (last image load) a)

  -- Demand 2: image and entries are nonempty, the image ends by 0xFFFF, all entries lie inside, and the instructions reachable from them, as the ascending
  -- list l, number at most 4,096 with no refused site.
  pub record Possible (l : List ℕ) : Type 0 where
    pub ready : Ready image load entries
    pub entries_inside : EntriesInside
    pub reachable : ReachList (step_in class rule image load (last image load)) (inside load (last image load)) entries l
    pub few : length l ≤ limit
    pub accepted : (a : ℕ) → a ∈ l → Accepted a

  -- the walk meets no refusal before an address is to be put by while 4,096 are pending
  abbrev pub RunsFull : Type 0
  RunsFull = EntriesInside × ((pc : ℕ) × (met : List ℕ) × Walk class rule image load (last image load) entries (full pc) met)
