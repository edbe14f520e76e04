-- What each reachable store covers, and the records (01, "Tracker and stores"). Assumes nothing.
use Rattle.std.specs.Prelude.{Bool, true, false, List, [], ◌∷◌, ◌++◌, ℕ, ◌+◌, ◌*◌, ◌%◌}
use Rattle.mos6502.specs.declared.Decoded.{Decoded}
use Rattle.writes.specs.declared.Wr.{Wr}
use Rattle.writes.specs.declared.Wr.TheVariants.{None, One, Page, IndY, IndX}
use Rattle.image.specs.Image.{stopped_sum}
use Rattle.site.specs.Site.{site_in}
use Rattle.pages.specs.declared.StoreSpan.{StoreSpan}
use Rattle.pages.specs.declared.StoreSpan.TheVariants.{Nothing, Bytes, Anywhere}
use Rattle.pages.specs.declared.Pointer.{Pointer}
use Rattle.pages.specs.declared.Habit.{Habit}
use Rattle.pages.specs.Pages.{pointer_at, any_of, habit_of, indy_store_span}

-- ── one store ──
-- An absolute store names one byte, an indexed one base to base + 255 stopped at 0xFFFF; 81 is bounded by nothing; 91 goes where its pointer goes.
abbrev pub store_of : Wr → (operand : ℕ) → Pointer → Habit → StoreSpan
store_of None operand p h = Nothing
store_of One operand p h = Bytes operand operand
store_of Page operand p h = Bytes operand (stopped_sum operand 0xFF)
store_of IndY operand p h = indy_store_span p h
store_of IndX operand p h = Anywhere

-- What the instruction at a stores, where l are the reachable instructions. A pointer is the site's operand, one byte; its high byte is in the byte after.
abbrev pub store_at : (class : ℕ → Decoded) (writes : ℕ → Wr) (image : List ℕ) (load last : ℕ) (l : List ℕ) → ℕ → StoreSpan
store_at class writes image load last l a =
    let s = site_in class image load last a in
    let z = s.operand % 256 in
    store_of (writes s.opcode) s.operand (pointer_at image load a z) (habit_of image load l ((z + 1) % 256))

-- ── all of them ──
abbrev pub is_anywhere : StoreSpan → Bool
is_anywhere Nothing = false
is_anywhere (Bytes low high) = false
is_anywhere Anywhere = true

-- a record is low x 65,536 + high
abbrev pub records_of : StoreSpan → List ℕ
records_of Nothing = []
records_of (Bytes low high) = (low * 65536 + high) ∷ []
records_of Anywhere = []

module _ (store : ℕ → StoreSpan) where
  -- is one of them bounded by nothing?
  abbrev pub unbounded : List ℕ → Bool
  unbounded l = any_of (λ a. is_anywhere (store a)) l

  -- the records in the order of their instructions, repeats kept
  unfoldable pub records_over : List ℕ → List ℕ
  records_over [] = []
  records_over (a ∷ l) = records_of (store a) ++ records_over l
