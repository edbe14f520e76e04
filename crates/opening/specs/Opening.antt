-- What every call tests first (01, "Numbered outcomes"): the lowest of 1, 2, 3 wins; then, for span and stores, an outside entry is 4. Assumes nothing.
use Rattle.std.specs.Prelude.{Bool, true, cond, ◌&&◌, List, [], ◌∷◌, ℕ, ◌≤◌, ◌<◌, ◌==◌, length, Result, Ok, Err}
use Rattle.refusal.specs.declared.Refusal.{Refusal}
use Rattle.refusal.specs.declared.Refusal.TheVariants.{ImageEmpty, NoEntries}
use Rattle.image.specs.declared.Bounds.{Bounds}
use Rattle.image.specs.declared.placed.Image.{Image}
use Rattle.image.specs.Image.{last, inside}
use Rattle.image.specs.Answers.{place}

-- an image and entries that pass the tests of 1, 2 and 3: both nonempty, and the image ends by 0xFFFF
pub record Ready (image : List ℕ) (load : ℕ) (entries : List ℕ) : Type 0 where
  pub image_some : 0 < length image
  pub entries_some : 0 < length entries
  pub top : last image load ≤ 0xFFFF

-- which test fails first, or the bounds: is there an image, is there an entry, and where does the image lie?
abbrev pub opening_of : (image : List ℕ) (load : ℕ) (entries : List ℕ) → Result Bounds Refusal
opening_of image load entries =
    cond (length image == 0) (Err ImageEmpty)
    (cond (length entries == 0) (Err NoEntries) (place load (length image)))

-- the bounds of an image that was opened, or its refusal
abbrev pub bounds_of : Result Image Refusal → Result Bounds Refusal
bounds_of (Ok opened) = Ok opened.bounds
bounds_of (Err refusal) = Err refusal

-- are all entries inside?
abbrev pub all_inside : (load last : ℕ) (entries : List ℕ) → Bool
all_inside load last [] = true
all_inside load last (e ∷ entries) = inside load last e && all_inside load last entries
