-- Exactness: a walk that is not full finishes exactly where the reach list is within the limit and none of its addresses refuses. Where it
-- finishes, met has just the reachable addresses; where it is spent, the reach list is longer than the limit.
use mathlib.Core.Path.{◌≡◌, refl}
use mathlib.Core.Logic.{◌↔◌, ◌≢◌}
use mathlib.Core.Bool.{Bool}
use mathlib.Core.List.{List}
use Prim.Native.Nat.{ℕ, ◌≤◌, ◌<◌}
use native.Mathlib.Omega.{arith}
use lib.ListN.{length}
use Rattle.lists.specs.Lists.{◌∈◌}
use Rattle.lists.proofs.Sets.{fewer, ascending_distinct, Sorted, sort}
use Rattle.reach.specs.Reach.{Step, refuses, Reach, ReachList}
use Rattle.reach.specs.Walk.{End, finished, refused, spent, full, Walk}
use Rattle.reach.proofs.Sound.{sound}
use Rattle.reach.proofs.Complete.{complete, none_refuses}
use Rattle.reach.proofs.Unique.{at_most}

-- the addresses of l are within the limit, and none refuses
pub record Fits (step : ℕ → Step) (limit : ℕ) (l : List ℕ) : Type 0 where
  pub small : length l ≤ limit
  pub fine : (a : ℕ) → a ∈ l → step a ≢ refuses

module _ {step : ℕ → Step} {inside : ℕ → Bool} {limit capacity : ℕ} (entries : List ℕ) where
  -- ── how many are met ──
  -- whatever the end, no more than are reachable
  pub met_at_most : {e : End} {met l : List ℕ} → Walk step inside limit capacity entries e met → ReachList step inside entries l
      → length met ≤ length l
  met_at_most {met = met} w h = at_most h met (sound entries w).found.distinct (sound entries w).found.reached

  pub spent_over : {pc : ℕ} {met l : List ℕ} → Walk step inside limit capacity entries (spent pc) met → ReachList step inside entries l
      → limit < length l
  spent_over w h = omega (arith, (sound entries w).counted, met_at_most w h)

  pub finished_count : {met l : List ℕ} → Walk step inside limit capacity entries finished met → ReachList step inside entries l
      → length met ≡ length l
  finished_count {met} {l} w h =
      omega (arith, met_at_most w h, fewer l met (ascending_distinct l h.ascending) (λ a k. complete entries w ((h.exact a).0 k)))

  -- ── which are met ──
  pub finished_exact : {met : List ℕ} → Walk step inside limit capacity entries finished met → (a : ℕ)
      → a ∈ met ↔ Reach step inside entries a
  finished_exact w a = ((sound entries w).found.reached a, λ r. complete entries w r)

  pub finished_list : {met : List ℕ} → Walk step inside limit capacity entries finished met → (l : List ℕ) × ReachList step inside entries l
  finished_list {met} w =
      let s : Sorted met = sort met in (
        s.list,
        record {
          ascending = s.ascending;
          exact = λ a. (λ k. (finished_exact w a).0 ((s.exact a).0 k), λ r. (s.exact a).1 ((finished_exact w a).1 r));
        },
      )

  -- ── exactly where it finishes ──
  finished_fits : {met l : List ℕ} → Walk step inside limit capacity entries finished met → ReachList step inside entries l
      → Fits step limit l
  finished_fits w h =
      record { small = omega (arith, (sound entries w).counted, finished_count w h); fine = λ a k. none_refuses entries w ((h.exact a).0 k) }

  fits_finished : {e : End} {met l : List ℕ} → Walk step inside limit capacity entries e met → ((pc : ℕ) → e ≢ full pc)
      → ReachList step inside entries l → Fits step limit l → e ≡ finished
  fits_finished {e = finished} w n h f = refl
  fits_finished {e = refused pc} w n h f =
      absurd (f.fine pc ((h.exact pc).1 (sound entries w).named.1) (sound entries w).named.2)
  fits_finished {e = spent pc} w n h f = absurd (omega (arith, spent_over w h))
  fits_finished {e = full pc} w n h f = absurd (n pc refl)

  pub finished_iff : {e : End} {met l : List ℕ} → Walk step inside limit capacity entries e met → ((pc : ℕ) → e ≢ full pc)
      → ReachList step inside entries l → (e ≡ finished) ↔ Fits step limit l
  finished_iff w n h = (λ q. finished_fits (rw q at w) h, fits_finished w n h)

  -- the same, where no reach list is at hand
  pub finished_iff_list : {e : End} {met : List ℕ} → Walk step inside limit capacity entries e met → ((pc : ℕ) → e ≢ full pc)
      → (e ≡ finished) ↔ ((l : List ℕ) × ReachList step inside entries l × Fits step limit l)
  finished_iff_list {e} {met} w n = (λ q. fitting (rw q at w), λ d. fits_finished w n d.1 d.2)
    where
      fitting : Walk step inside limit capacity entries finished met → (l : List ℕ) × ReachList step inside entries l × Fits step limit l
      fitting w' = ((finished_list w').0, (finished_list w').1, finished_fits w' (finished_list w').1)
