-- The first tests: what each answer says of image and entries; and what the test of all entries says of each.
use mathlib.Core.Path.{◌≡◌, refl, sym, ◌∙◌}
use mathlib.Core.Logic.{⊎_elim}
use mathlib.Core.Bool.{Bool, true, false, cond}
use mathlib.Core.List.Memᴰ.{cases_cons as cases}
use mathlib.Core.List.Memᴰ.{head as here}
use mathlib.Core.List.Memᴰ.{not-nil}
use mathlib.Core.List.Memᴰ.{tail as there}
use mathlib.Core.List.{List, [], ◌∷◌}
use Prim.Native.Nat.{ℕ, ◌<◌}
use native.Mathlib.Omega.{arith}
use lib.Dec.{T, eqb}
use lib.ListN.{length}
use borrow.Author.Tests.{eqb-true, eqb-false}
use Rattle.lists.specs.Lists.{◌∈◌}
use Rattle.lists.proofs.Tests.{and_left, and_right, and_both}
use Rattle.std.specs.Prelude.{Result, Ok, Err}
use Rattle.refusal.specs.declared.Refusal.{Refusal}
use Rattle.refusal.specs.declared.Refusal.TheVariants.{ImageEmpty, NoEntries, PastTop}
use Rattle.image.specs.declared.Bounds.{Bounds}
use Rattle.image.specs.Image.{Lies, last, inside}
use Rattle.image.proofs.Place.{Places, lies, none, past, places}
use Rattle.opening.specs.Opening.{Ready, opening_of, all_inside}

-- ── all entries inside ──
pub all_inside_mem : (load last : ℕ) (entries : List ℕ) → T (all_inside load last entries) → (a : ℕ) → a ∈ entries → T (inside load last a)
all_inside_mem load last [] t a k = absurd (not-nil k)
all_inside_mem load last (e ∷ entries) t a k =
    ⊎_elim (λ q. rw q (and_left (inside load last e) (all_inside load last entries) t))
    (λ m. all_inside_mem load last entries (and_right (inside load last e) (all_inside load last entries) t) a m) (cases k)

pub mem_all_inside : (load last : ℕ) (entries : List ℕ) → ((a : ℕ) → a ∈ entries → T (inside load last a)) → T (all_inside load last entries)
mem_all_inside load last [] h = tt
mem_all_inside load last (e ∷ entries) h =
    and_both (inside load last e) (all_inside load last entries) (h e (here refl)) (mem_all_inside load last entries (λ a m. h a (there m)))

-- ── which answer ──
module _ (image : List ℕ) (load : ℕ) (entries : List ℕ) where
  pub data Opens : Result Bounds Refusal → Type 0 where
    ready : Ready image load entries → Opens (Ok (record { load = load; last = last image load }))
    image_empty : length image ≡ 0 → Opens (Err ImageEmpty)
    no_entries : 0 < length image → length entries ≡ 0 → Opens (Err NoEntries)
    past_top : 0 < length image → 0 < length entries → 0xFFFF < last image load → Opens (Err PastTop)

  pub opens : Opens (opening_of image load entries)
  opens =
      by (eqb (length image) 0) (eqb (length entries) 0) (places load (length image)) (eqb-true (length image) 0) (eqb-false (length image) 0)
      (eqb-true (length entries) 0) (eqb-false (length entries) 0)
    where
      by : {p : Result Bounds Refusal} (no-image no-entry : Bool) → Places load (length image) p → (no-image ≡ true → length image ≡ 0)
          → (no-image ≡ false → length image ≡ 0 → ⊥) → (no-entry ≡ true → length entries ≡ 0) → (no-entry ≡ false → length entries ≡ 0 → ⊥)
          → Opens (cond no-image (Err ImageEmpty) (cond no-entry (Err NoEntries) p))
      by true no-entry p f g f' g' = image_empty (f refl)
      by false true p f g f' g' = no_entries (omega (arith, g refl)) (f' refl)
      by false false (lies s t) f g f' g' = ready (record { image_some = s; entries_some = omega (arith, g' refl); top = t })
      by false false (none e) f g f' g' = absurd (g refl e)
      by false false (past s t) f g f' g' = past_top s (omega (arith, g' refl)) t

  -- the answers exclude each other
  pub opens_unique : {o o' : Result Bounds Refusal} → Opens o → Opens o' → o ≡ o'
  opens_unique (ready r) (ready s) = refl
  opens_unique (ready r) (image_empty e) = absurd (omega (arith, r.image_some))
  opens_unique (ready r) (no_entries s e) = absurd (omega (arith, r.entries_some))
  opens_unique (ready r) (past_top s e t) = absurd (omega (arith, r.top))
  opens_unique (image_empty e) (ready r) = absurd (omega (arith, r.image_some))
  opens_unique (image_empty e) (image_empty e') = refl
  opens_unique (image_empty e) (no_entries s e') = absurd (omega arith)
  opens_unique (image_empty e) (past_top s e' t) = absurd (omega arith)
  opens_unique (no_entries s e) (ready r) = absurd (omega (arith, r.entries_some))
  opens_unique (no_entries s e) (image_empty e') = absurd (omega arith)
  opens_unique (no_entries s e) (no_entries s' e') = refl
  opens_unique (no_entries s e) (past_top s' e' t) = absurd (omega arith)
  opens_unique (past_top s e t) (ready r) = absurd (omega (arith, r.top))
  opens_unique (past_top s e t) (image_empty e') = absurd (omega arith)
  opens_unique (past_top s e t) (no_entries s' e') = absurd (omega arith)
  opens_unique (past_top s e t) (past_top s' e' t') = refl

  -- what the first tests answered says which answer it is
  pub opened_as : {r o : Result Bounds Refusal} → r ≡ opening_of image load entries → r ≡ o → Opens o
  opened_as e f = rw (sym e ∙ f) at opens

  -- 1, 2 and 3
  pub without_image : Opens (Err ImageEmpty) → length image ≡ 0
  without_image (image_empty e) = e

  pub without_entries : Opens (Err NoEntries) → (0 < length image) × (length entries ≡ 0)
  without_entries (no_entries s e) = (s, e)

  pub above_top : Opens (Err PastTop) → (0 < length image) × (0 < length entries) × (0xFFFF < last image load)
  above_top (past_top s e t) = (s, e, t)

  -- the bounds that the first tests give
  pub image_lies : {b : Bounds} → Opens (Ok b) → Lies image b.load b.last
  image_lies (ready r) = record { ends = omega (arith, r.image_some); top = omega (arith, r.top) }
