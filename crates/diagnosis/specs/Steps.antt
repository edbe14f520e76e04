-- What the steps of `diagnose` leave behind. Assumes nothing.
use Rattle.std.specs.Prelude.{◌≡◌, Bool, not, ◌&&◌, ◌||◌, List, ◌++◌, ℕ, ◌≤◌, ◌<◌, length, drop, Option}
use Rattle.lists.specs.Lists.{◌∈◌, elem}
use Rattle.mos6502.specs.Class.{manual_class}
use Rattle.image.specs.declared.Bounds.{Bounds}
use Rattle.image.specs.Image.{inside, byte_at}
use Rattle.address_set.specs.Map.{has, members_in}
use Rattle.recorder.specs.Records.{records_of, pairs_of}
use Rattle.weights.specs.Weights.{Weighs}

-- every byte of the image is below 256
abbrev pub BytesFit : (image : List ℕ) → Type 0
BytesFit image = (load a : ℕ) → byte_at image load a < 256

-- is a an outside entry?
abbrev pub is_outside : (load last : ℕ) (entries : List ℕ) → ℕ → Bool
is_outside load last entries a = elem a entries && not (inside load last a)

-- the outside entries are members too, and nothing else has changed
pub record Added (load last : ℕ) (entries map map' : List ℕ) : Type 0 where
  pub each : (a : ℕ) → has map' a ≡ (has map a || is_outside load last entries a)

-- the range has all addresses from load to last, and every entry
pub record Covers (load last : ℕ) (entries : List ℕ) (range : Bounds) : Type 0 where
  pub image : (range.load ≤ load) × (last ≤ range.last)
  pub each : (a : ℕ) → a ∈ entries → (range.load ≤ a) × (a ≤ range.last)

-- the records of the map's members, with their weights, stand in the first slots, and the others are as they were
pub record Fills (image : List ℕ) (load last : ℕ) (entries map : List ℕ) (undecoded : Option ℕ) (slots slots' : List ℕ) : Type 0 where
  pub weight : ℕ → ℕ
  pub weighs : (a : ℕ) → Weighs manual_class image load last a entries (weight a)
  pub exact : slots' ≡ records_of manual_class image load last (members_in load last map) weight (pairs_of image load last undecoded map)
      ++ drop (length (pairs_of image load last undecoded map)) slots
