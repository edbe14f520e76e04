-- Which pairs of address and cause a walk records (01, "The diagnosis"). Assumes nothing.
use Rattle.std.specs.Prelude.{◌↔◌, ◌⊎◌, ◌≡◌, false, cond, List, [], ◌∷◌, ◌++◌, map, ℕ, Option, Some, None}
use Rattle.lists.specs.Lists.{◌∈◌, Ascending}
use Rattle.mos6502.specs.declared.Decoded.{Decoded}
use Rattle.image.specs.Image.{inside}
use Rattle.cause.specs.declared.RefusalCause.{RefusalCause}
use Rattle.cause.specs.declared.RefusalCause.TheVariants.{Budget, EntryOutside}
use Rattle.site.specs.Site.{list_of, site_in}
use Rattle.reach.specs.Walk.{End, finished, refused, spent, full}
use Rattle.extent.specs.Extent.{is_skipped}
use Rattle.recorder.specs.declared.Pair.{Pair}

-- the address that was met one past the limit, and so was not decoded
abbrev pub undecoded_of : End → Option ℕ
undecoded_of finished = None
undecoded_of (refused pc) = None
undecoded_of (spent pc) = Some pc
undecoded_of (full pc) = None

module _ (class : ℕ → Decoded) (image : List ℕ) (load last : ℕ) where
  -- What is recorded at an address that was met or is an outside entry: of an outside entry that it is outside; at the address past the limit the budget, and
  -- nothing else, since it is not decoded; else the causes of its site.
  abbrev pub causes_at : (undecoded : Option ℕ) → ℕ → List RefusalCause
  causes_at undecoded a =
      cond (inside load last a) (cond (is_skipped undecoded a) (Budget ∷ []) (list_of (site_in class image load last a).causes)) (EntryOutside ∷ [])

  abbrev pub pairs_at : (undecoded : Option ℕ) → ℕ → List Pair
  pairs_at undecoded a = map (λ (c : RefusalCause). record { address = a; cause = c }) (causes_at undecoded a)

  -- the pairs of a list of addresses, in its order, and at each address in cause order
  unfoldable pub pairs_over : (undecoded : Option ℕ) → List ℕ → List Pair
  pairs_over undecoded [] = []
  pairs_over undecoded (a ∷ l) = pairs_at undecoded a ++ pairs_over undecoded l

-- l is the ascending list of the addresses that were met or are outside entries
pub record Concerns (load last : ℕ) (entries met l : List ℕ) : Type 0 where
  pub ascending : Ascending l
  pub exact : (a : ℕ) → a ∈ l ↔ ((a ∈ met) ⊎ ((a ∈ entries) × (inside load last a ≡ false)))
