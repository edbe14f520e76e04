-- Where the addresses inside are below a bound there is a reach list, so that being reachable is decidable. The list is what a walk meets that
-- takes refusals for ends, with a limit and a capacity that it cannot come to.
use mathlib.Core.Path.{◌≡◌, refl, sym}
use mathlib.Core.Bool.{Bool}
use mathlib.Core.List.{List}
use Prim.Native.Nat.{ℕ, ◌≤◌, ◌<◌, zero-le}
use native.Mathlib.Nat.{le_refl}
use native.Mathlib.Decide.{map_dec}
use native.Mathlib.Omega.{arith}
use lib.Dec.{T}
use lib.ListN.{length}
use Rattle.lists.specs.Lists.{◌∈◌, scan}
use Rattle.lists.proofs.Sets.{fewer, elem?}
use Rattle.lists.proofs.Scan.{scan_all, scan_length}
use Rattle.reach.specs.Reach.{Step, ends, refuses, goes, forks, follows, Reach, entered, followed, ReachList}
use Rattle.reach.specs.Walk.{End, finished, refused, spent, full, Walk}
use Rattle.reach.proofs.Sound.{Sound, sound}
use Rattle.reach.proofs.Complete.{Fine, fine≢refuses}
use Rattle.reach.proofs.Ends.{ends_always, never_full}
use Rattle.reach.proofs.Exact.{finished_list}

-- a refusal taken for an end
soft : Step → Step
soft ends = ends
soft refuses = ends
soft (goes n) = goes n
soft (forks n t) = forks n t

soft_follows : (x : Step) → follows (soft x) ≡ follows x
unfolding soft
soft_follows ends = refl
soft_follows refuses = refl
soft_follows (goes n) = refl
soft_follows (forks n t) = refl

soft_fine : (x : Step) → Fine (soft x)
unfolding soft
soft_fine ends = tt
soft_fine refuses = tt
soft_fine (goes n) = tt
soft_fine (forks n t) = tt

-- of a step, only what follows it matters to what is reachable
same_follows : {step step' : ℕ → Step} {inside : ℕ → Bool} {entries : List ℕ} → ((a : ℕ) → follows (step a) ≡ follows (step' a))
    → {a : ℕ} → Reach step inside entries a → Reach step' inside entries a
same_follows e (entered k i) = entered k i
same_follows e (followed {a = a} {b = b} r k i) = followed {b = b} (same_follows e r) (rw (e a) at k) i

-- what is reachable is inside
pub reach_inside : {step : ℕ → Step} {inside : ℕ → Bool} {entries : List ℕ} {a : ℕ} → Reach step inside entries a → T (inside a)
reach_inside (entered k i) = i
reach_inside (followed r k i) = i

module _ (step : ℕ → Step) (inside : ℕ → Bool) (size : ℕ) (bound : (a : ℕ) → T (inside a) → a < size) (entries : List ℕ) where
  abbrev mild : ℕ → Step
  mild a = soft (step a)

  -- the walk of the mild steps can only finish
  mild_list : {e : End} {met : List ℕ} → Walk mild inside size size entries e met → (l : List ℕ) × ReachList mild inside entries l
  mild_list {e = finished} w = finished_list entries w
  mild_list {e = refused pc} w = absurd (fine≢refuses (soft_fine (step pc)) (sound entries w).named.2)
  mild_list {e = full pc} w = absurd (never_full entries (le_refl size) w pc refl)
  mild_list {e = spent pc} {met = met} w = absurd (omega (arith, s.counted, all_inside_lem, scan_length inside 0 size))
    where
      s : Sound mild inside entries size (spent pc) met
      s = sound entries w

      listed : (a : ℕ) → T (inside a) → a ∈ scan inside 0 size
      listed a i = scan_all inside 0 size (record { low = zero-le; high = omega (arith, bound a i); test = i })

      all_inside_lem : length met ≤ length (scan inside 0 size)
      all_inside_lem = fewer met (scan inside 0 size) s.found.distinct (λ a k. listed a (reach_inside (s.found.reached a k)))

  pub reach_list : (l : List ℕ) × ReachList step inside entries l
  reach_list = from (mild_list (ends_always mild inside size size entries).2)
    where
      harder : {a : ℕ} → Reach mild inside entries a → Reach step inside entries a
      harder r = same_follows (λ b. soft_follows (step b)) r

      milder : {a : ℕ} → Reach step inside entries a → Reach mild inside entries a
      milder r = same_follows (λ b. sym (soft_follows (step b))) r

      from : (l : List ℕ) × ReachList mild inside entries l → (l : List ℕ) × ReachList step inside entries l
      from d = (d.0, record { ascending = d.1.ascending; exact = λ a. (λ k. harder ((d.1.exact a).0 k), λ r. (d.1.exact a).1 (milder r)) })

  pub reach? : (a : ℕ) → Dec (Reach step inside entries a)
  reach? a = map_dec (reach_list.1.exact a).0 (reach_list.1.exact a).1 (elem? a reach_list.0)
