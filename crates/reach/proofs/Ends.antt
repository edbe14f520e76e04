-- Every walk ends, since each turn lowers a count; and it is full only where the capacity is below the limit, since no more are pending than met.
use mathlib.Core.Path.{◌≡◌, refl}
use mathlib.Core.Logic.{◌≢◌}
use mathlib.Core.Bool.{Bool}
use mathlib.Core.List.{List}
use Prim.Native.Nat.{ℕ, zero, suc, ◌+◌, ◌-◌, ◌*◌, ◌≤◌, ◌<◌, zero-le}
use native.Mathlib.Omega.{arith}
use lib.ListN.{length}
use Rattle.reach.specs.Reach.{Step}
use Rattle.reach.specs.Walk.{State, visiting, between, End, finished, refused, spent, full, Turn, turns, halts, start, turn, Runs, halting, turning, Walk}
use Rattle.reach.proofs.Turn.{met_of, Keeps, View, skips, overruns, stops, balks, moves, splits, fills, resumes, enters, closes, view}
use Rattle.reach.proofs.Once.{once}

-- the addresses that are pending
abbrev pending_of : State → List ℕ
pending_of (visiting pc m p l) = p
pending_of (between m p l) = p

-- no more are pending than met, and the limit allows those met
abbrev Room : (limit : ℕ) → State → Type 0
Room limit s = (length (pending_of s) ≤ length (met_of s)) × (length (met_of s) ≤ limit)

-- what comes down with each turn: an address that the limit still allows counts for three, one that is pending and an entry for two
abbrev work : (limit : ℕ) → State → ℕ
work limit (visiting pc m p l) = 1 + 2 * (length p + length l) + 3 * (limit - length m)
work limit (between m p l) = 2 * (length p + length l) + 3 * (limit - length m)

-- a full end tells that the capacity is below the limit
abbrev Short : (limit capacity : ℕ) → End → List ℕ → Type 0
Short limit capacity finished met = Unit {0}
Short limit capacity (refused pc) met = Unit {0}
Short limit capacity (spent pc) met = Unit {0}
Short limit capacity (full pc) met = capacity < limit

module _ (step : ℕ → Step) (inside : ℕ → Bool) (limit capacity : ℕ) where
  lowers : {s : State} {t : Turn} → View step inside limit capacity s t → Room limit s
      → Keeps (λ u. Room limit u × (work limit u < work limit s)) (Short limit capacity) t
  lowers (skips f) h = (h, omega arith)
  lowers (overruns f n) h = tt
  lowers (stops f n e) h = (omega arith, omega arith)
  lowers (balks f n e) h = tt
  lowers (moves f n e) h = (omega arith, omega arith)
  lowers (splits f n e c) h = (omega arith, omega arith)
  lowers (fills f n e c) h = omega arith
  lowers resumes h = (omega arith, omega arith)
  lowers enters h = (h, omega arith)
  lowers closes h = tt

  -- the walk from s ends, and is full only where the capacity is short
  record Ended (s : State) : Type 0 where
    end : End
    met : List ℕ
    runs : Runs step inside limit capacity s end met
    short : Short limit capacity end met

  ended : (n : ℕ) (s : State) → work limit s < n → Room limit s → Ended s
  ended zero s h r = absurd (omega arith)
  ended (suc n) s h r = from (λ u. ended n u) (turn step inside limit capacity s) refl (lowers (view step inside limit capacity s) r)
    where
      from : ((u : State) → work limit u < n → Room limit u → Ended u) → (t : Turn) → turn step inside limit capacity s ≡ t
          → Keeps (λ u. Room limit u × (work limit u < work limit s)) (Short limit capacity) t → Ended s
      from again (turns u) e k =
          let d : Ended u = again u (omega arith) k.0 in
          record { end = d.end; met = d.met; runs = turning e d.runs; short = d.short }
      from again (halts e' met) e k = record { end = e'; met = met; runs = halting e; short = k }

  from_start : (entries : List ℕ) → Ended (start entries)
  from_start entries = ended (suc (work limit (start entries))) (start entries) (omega arith) (zero-le, zero-le)

  pub ends_always : (entries : List ℕ) → (e : End) × (met : List ℕ) × Walk step inside limit capacity entries e met
  ends_always entries = let d : Ended (start entries) = from_start entries in (d.end, d.met, d.runs)

module _ {step : ℕ → Step} {inside : ℕ → Bool} {limit capacity : ℕ} (entries : List ℕ) where
  pub full_short : {pc : ℕ} {met : List ℕ} → Walk step inside limit capacity entries (full pc) met → capacity < limit
  full_short w =
      let d : Ended step inside limit capacity (start entries) = from_start step inside limit capacity entries in
      rw (once d.runs w).0 at d.short

  pub never_full : limit ≤ capacity → {e : End} {met : List ℕ} → Walk step inside limit capacity entries e met → (pc : ℕ) → e ≢ full pc
  never_full c w pc e = omega (arith, full_short (rw e at w))
