-- The walk is determined: from one state it comes to one end, having met the same.
use mathlib.Core.Path.{◌≡◌}
use mathlib.Core.Bool.{Bool}
use mathlib.Core.List.{List}
use Prim.Native.Nat.{ℕ}
use native.Mathlib.Omega.{arith}
use Rattle.reach.specs.Reach.{Step}
use Rattle.reach.specs.Walk.{State, End, Runs, halting, turning}

pub once : {step : ℕ → Step} {inside : ℕ → Bool} {limit capacity : ℕ} {s : State} {e e' : End} {m m' : List ℕ}
    → Runs step inside limit capacity s e m → Runs step inside limit capacity s e' m' → (e ≡ e') × (m ≡ m')
once (halting p) (halting q) = (cc, cc)
once (halting p) (turning q r) = let z : ◌≡◌ {A = ℕ} 0 1 = cc in absurd (omega arith)
once (turning p r) (halting q) = let z : ◌≡◌ {A = ℕ} 0 1 = cc in absurd (omega arith)
once (turning {u = u} p r) (turning {u = v} q r') = let same : v ≡ u = cc in once r (rw same at r')
