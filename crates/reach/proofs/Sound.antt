-- Whatever the end, all that is met is reachable and is met once, and no more is met than the limit allows. The walk keeps this because each
-- address that waits is an entry, or follows a reachable one.
use mathlib.Core.Path.{◌≡◌, refl, ap}
use mathlib.Core.Logic.{◌≢◌, ◌⊎◌, inl, inr}
use mathlib.Core.Bool.{Bool}
use mathlib.Core.List.Memᴰ.{append_cases as split}
use mathlib.Core.List.Memᴰ.{cases_cons as cases}
use mathlib.Core.List.Memᴰ.{head as here}
use mathlib.Core.List.Memᴰ.{not-nil}
use mathlib.Core.List.Memᴰ.{tail as there}
use mathlib.Core.List.{List, ◌∷◌, ◌++◌}
use Prim.Native.Nat.{ℕ, suc, ◌≤◌, zero-le}
use native.Mathlib.Omega.{arith}
use lib.Dec.{T}
use lib.ListN.{length}
use Rattle.lists.specs.Lists.{◌∈◌, Distinct}
use Rattle.lists.proofs.Stack.{last_first_mem}
use Rattle.reach.specs.Reach.{Step, refuses, follows, Reach, entered, followed}
use Rattle.reach.specs.Walk.{State, End, finished, refused, spent, full, Turn, start, Walk}
use Rattle.reach.proofs.Turn.{met_of, waiting, Fresh, Keeps, View, skips, overruns, stops, balks, moves, splits, fills, resumes, enters, closes, kept}

-- how many are met: as many as the limit allows, and one more where it is spent
abbrev pub Counted : (limit : ℕ) → End → (met : List ℕ) → Type 0
Counted limit finished met = length met ≤ limit
Counted limit (refused pc) met = length met ≤ limit
Counted limit (spent pc) met = length met ≡ suc limit
Counted limit (full pc) met = length met ≤ limit

module _ (step : ℕ → Step) (inside : ℕ → Bool) (entries : List ℕ) where
  -- all of met is reachable, and is there once
  pub record Found (met : List ℕ) : Type 0 where
    pub reached : (a : ℕ) → a ∈ met → Reach step inside entries a
    pub distinct : Distinct met

  -- the address that an end names is met and reachable; where it is a refused site, its step refuses
  abbrev pub Named : End → (met : List ℕ) → Type 0
  Named finished met = Unit {0}
  Named (refused pc) met = (pc ∈ met) × Reach step inside entries pc × (step pc ≡ refuses)
  Named (spent pc) met = (pc ∈ met) × Reach step inside entries pc
  Named (full pc) met = (pc ∈ met) × Reach step inside entries pc

  -- what the walk's end says
  pub record Sound (limit : ℕ) (e : End) (met : List ℕ) : Type 0 where
    pub found : Found met
    pub counted : Counted limit e met
    pub named : Named e met

  -- a is an entry, or follows a reachable address
  pub data Candidate (a : ℕ) : Type 0 where
    first : a ∈ entries → Candidate a
    later : {b : ℕ} → Reach step inside entries b → a ∈ follows (step b) → Candidate a

  pub candidate_reached : {a : ℕ} → Candidate a → T (inside a) → Reach step inside entries a
  candidate_reached (first k) i = entered k i
  candidate_reached {a} (later r k) i = followed {b = a} r k i

  -- what holds after each turn, of the addresses met and of those that wait
  pub record Underway (limit : ℕ) (met wait : List ℕ) : Type 0 where
    pub found : Found met
    pub small : length met ≤ limit
    pub waits : (a : ℕ) → a ∈ wait → Candidate a

  -- the same of a state
  abbrev pub Stands : (limit : ℕ) → State → Type 0
  Stands limit s = Underway limit (met_of s) (waiting s)

module _ {step : ℕ → Step} {inside : ℕ → Bool} {entries : List ℕ} {limit : ℕ} where
  -- ── the address that the path is at, met for the first time ──
  reachable : {pc : ℕ} {m w : List ℕ} → Fresh inside pc m → Underway step inside entries limit m (pc ∷ w) → Reach step inside entries pc
  reachable {pc} f h = candidate_reached step inside entries (h.waits pc (here refl)) f.within

  one_more : {pc : ℕ} {m w : List ℕ} → Fresh inside pc m → Underway step inside entries limit m (pc ∷ w) → Found step inside entries (pc ∷ m)
  one_more {pc} {m} f h = record { reached = λ a k. old a (cases k); distinct = (f.new, h.found.distinct) }
    where
      old : (a : ℕ) → (a ≡ pc) ⊎ (a ∈ m) → Reach step inside entries a
      old a (inl e) = rw e (reachable f h)
      old a (inr k) = h.found.reached a k

  -- then what follows it waits in its place
  waits_on : {pc : ℕ} {m w : List ℕ} {x : Step} → Fresh inside pc m → length m ≢ limit → step pc ≡ x
      → Underway step inside entries limit m (pc ∷ w) → Underway step inside entries limit (pc ∷ m) (follows x ++ w)
  waits_on {pc} {m} {w} {x} f n e h = record { found = one_more f h; small = omega arith; waits = λ a k. next a (split (follows x) k) }
    where
      next : (a : ℕ) → (a ∈ follows x) ⊎ (a ∈ w) → Candidate step inside entries a
      next a (inl k) = later (reachable f h) (rw e k)
      next a (inr k) = h.waits a (there k)

  pub stands_turn : {capacity : ℕ} {s : State} {t : Turn} → View step inside limit capacity s t → Stands step inside entries limit s
      → Keeps (Stands step inside entries limit) (Sound step inside entries limit) t
  stands_turn (skips f) h = record { found = h.found; small = h.small; waits = λ a k. h.waits a (there k) }
  stands_turn (overruns f n) h = record { found = one_more f h; counted = ap suc n; named = (here refl, reachable f h) }
  stands_turn (stops f n e) h = waits_on f n e h
  stands_turn (balks f n e) h = record { found = one_more f h; counted = omega arith; named = (here refl, reachable f h, e) }
  stands_turn (moves f n e) h = waits_on f n e h
  stands_turn (splits f n e c) h = waits_on f n e h
  stands_turn (fills f n e c) h = record { found = one_more f h; counted = omega arith; named = (here refl, reachable f h) }
  stands_turn resumes h = h
  stands_turn enters h = h
  stands_turn closes h = record { found = h.found; counted = h.small; named = tt }

pub stands_start : {step : ℕ → Step} {inside : ℕ → Bool} {limit : ℕ} (entries : List ℕ) → Stands step inside entries limit (start entries)
stands_start entries =
    record {
      found = record { reached = λ a k. absurd (not-nil k); distinct = tt };
      small = zero-le;
      waits = λ a k. first ((last_first_mem entries a).0 k);
    }

module _ {step : ℕ → Step} {inside : ℕ → Bool} {limit capacity : ℕ} (entries : List ℕ) where
  pub sound : {e : End} {met : List ℕ} → Walk step inside limit capacity entries e met → Sound step inside entries limit e met
  sound w = kept (Stands step inside entries limit) (Sound step inside entries limit) (λ s t v. stands_turn v) w (stands_start entries)
