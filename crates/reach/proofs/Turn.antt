-- One turn of the walk: where it leads, for a program that has made the tests; its cases, as one view; and the rule that what every turn keeps
-- holds at the end. In this folder m is what is met, p what is pending, l the entries left, and w all that waits.
use mathlib.Core.Path.{◌≡◌, refl, ◌∙◌}
use mathlib.Core.Logic.{◌≢◌, ◌⊎◌, inl, inr}
use mathlib.Core.Bool.{Bool, true, false}
use mathlib.Core.List.{List, [], ◌∷◌, ◌++◌}
use Prim.Native.Nat.{ℕ, zero, suc}
use native.Mathlib.Decide.{ℕ_discrete}
use native.Mathlib.Omega.{arith}
use lib.Dec.{T, eqb, eqb→eq}
use lib.ListN.{length}
use Rattle.lists.specs.Lists.{◌∈◌, elem}
use Rattle.lists.proofs.Tests.{pass, fail, either, eq→eqb, passed}
use Rattle.lists.proofs.Sets.{elem_mem, mem_elem, elem?}
use Rattle.reach.specs.Reach.{Step, ends, refuses, goes, forks}
use Rattle.reach.specs.Walk.{State, visiting, between, End, finished, refused, spent, full, Turn, turns, halts, act, meet, onward, turn, Runs, halting, turning, after}

-- the addresses that a state has met
abbrev pub met_of : State → List ℕ
met_of (visiting pc m p l) = m
met_of (between m p l) = m

-- the addresses that it has still to look at: the one that it is at, what is pending, and the entries left
abbrev pub waiting : State → List ℕ
waiting (visiting pc m p l) = pc ∷ (p ++ l)
waiting (between m p l) = p ++ l

-- pc is inside, and was not met before
pub record Fresh (inside : ℕ → Bool) (pc : ℕ) (m : List ℕ) : Type 0 where
  pub within : T (inside pc)
  pub new : ¬ (pc ∈ m)

-- I holds of the state that a turn leads to, or P of the end
abbrev pub Keeps : (I : State → Type 0) (P : End → List ℕ → Type 0) → Turn → Type 0
Keeps I P (turns s) = I s
Keeps I P (halts e m) = P e m

module _ (step : ℕ → Step) (inside : ℕ → Bool) (limit capacity : ℕ) where
  -- ── a turn from its facts ──
  pub turn_skips : {pc : ℕ} {m : List ℕ} (p l : List ℕ) → (T (inside pc) → pc ∈ m)
      → turn step inside limit capacity (visiting pc m p l) ≡ turns (between m p l)
  unfolding turn
  turn_skips {pc} {m} p l f = out (inside pc) (elem pc m) (λ t. mem_elem (f t))
    where
      out : (i o : Bool) → (T i → T o) → meet capacity i o (eqb (length m) limit) (step pc) pc m p l ≡ turns (between m p l)
      out false o h = refl
      out true true h = refl
      out true false h = absurd (h tt)

  -- of a fresh address only the limit is left to test
  turn_new : {pc : ℕ} {m : List ℕ} (p l : List ℕ) → Fresh inside pc m
      → turn step inside limit capacity (visiting pc m p l) ≡ meet capacity true false (eqb (length m) limit) (step pc) pc m p l
  unfolding turn
  turn_new {pc} {m} p l f = rw (pass (inside pc) f.within, fail (elem pc m) (λ t. f.new (elem_mem pc m t)))

  pub turn_spent : {pc : ℕ} {m : List ℕ} (p l : List ℕ) → Fresh inside pc m → length m ≡ limit
      → turn step inside limit capacity (visiting pc m p l) ≡ halts (spent pc) (pc ∷ m)
  turn_spent {pc} {m} p l f n = turn_new p l f ∙ rw (pass (eqb (length m) limit) (eq→eqb (length m) limit n))

  pub turn_fresh : {pc : ℕ} {m : List ℕ} (p l : List ℕ) → Fresh inside pc m → length m ≢ limit
      → turn step inside limit capacity (visiting pc m p l) ≡ act capacity (step pc) pc (pc ∷ m) p l
  turn_fresh {pc} {m} p l f n = turn_new p l f ∙ rw (fail (eqb (length m) limit) (λ t. n (eqb→eq (length m) limit t)))

  -- ── the cases of a turn ──
  pub data View : State → Turn → Type 0 where
    skips : {pc : ℕ} {m p l : List ℕ} → (T (inside pc) → pc ∈ m) → View (visiting pc m p l) (turns (between m p l))
    overruns : {pc : ℕ} {m p l : List ℕ} → Fresh inside pc m → length m ≡ limit → View (visiting pc m p l) (halts (spent pc) (pc ∷ m))
    stops : {pc : ℕ} {m p l : List ℕ} → Fresh inside pc m → length m ≢ limit → step pc ≡ ends
        → View (visiting pc m p l) (turns (between (pc ∷ m) p l))
    balks : {pc : ℕ} {m p l : List ℕ} → Fresh inside pc m → length m ≢ limit → step pc ≡ refuses
        → View (visiting pc m p l) (halts (refused pc) (pc ∷ m))
    moves : {pc n : ℕ} {m p l : List ℕ} → Fresh inside pc m → length m ≢ limit → step pc ≡ goes n
        → View (visiting pc m p l) (turns (visiting n (pc ∷ m) p l))
    splits : {pc n t : ℕ} {m p l : List ℕ} → Fresh inside pc m → length m ≢ limit → step pc ≡ forks n t → length p ≢ capacity
        → View (visiting pc m p l) (turns (visiting n (pc ∷ m) (t ∷ p) l))
    fills : {pc n t : ℕ} {m p l : List ℕ} → Fresh inside pc m → length m ≢ limit → step pc ≡ forks n t → length p ≡ capacity
        → View (visiting pc m p l) (halts (full pc) (pc ∷ m))
    resumes : {t : ℕ} {m p l : List ℕ} → View (between m (t ∷ p) l) (turns (visiting t m p l))
    enters : {e : ℕ} {m l : List ℕ} → View (between m [] (e ∷ l)) (turns (visiting e m [] l))
    closes : {m : List ℕ} → View (between m [] []) (halts finished m)

  pub view : (s : State) → View s (turn step inside limit capacity s)
  unfolding turn
  view (between m (t ∷ p) l) = resumes
  view (between m [] (e ∷ l)) = enters
  view (between m [] []) = closes
  view (visiting pc m p l) = look (either (inside pc)) (elem? pc m) (ℕ_discrete (length m) limit)
    where
      acting : (x : Step) → step pc ≡ x → Fresh inside pc m → length m ≢ limit → Dec (length p ≡ capacity)
          → View (visiting pc m p l) (act capacity x pc (pc ∷ m) p l)
      acting ends e f n d = stops f n e
      acting refuses e f n d = balks f n e
      acting (goes b) e f n d = moves f n e
      acting (forks b t) e f n (yes c) = rw (pass (eqb (length p) capacity) (eq→eqb (length p) capacity c)) (fills f n e c)
      acting (forks b t) e f n (no c) = rw (fail (eqb (length p) capacity) (λ q. c (eqb→eq (length p) capacity q))) (splits f n e c)

      look : (inside pc ≡ true) ⊎ (inside pc ≡ false) → Dec (pc ∈ m) → Dec (length m ≡ limit)
          → View (visiting pc m p l) (turn step inside limit capacity (visiting pc m p l))
      look (inr i) o n = let f : T (inside pc) → pc ∈ m = λ t. absurd (rw i at t) in rw (turn_skips p l f) (skips f)
      look (inl i) (yes o) n = rw (turn_skips p l (λ t. o)) (skips (λ t. o))
      look (inl i) (no o) (yes n) =
          let f : Fresh inside pc m = record { within = passed i; new = o } in
          rw (turn_spent p l f n) (overruns f n)
      look (inl i) (no o) (no n) =
          let f : Fresh inside pc m = record { within = passed i; new = o } in
          rw (turn_fresh p l f n) (acting (step pc) refl f n (ℕ_discrete (length p) capacity))

module _ {step : ℕ → Step} {inside : ℕ → Bool} {limit capacity : ℕ} where
  -- ── from turns to the end ──
  pub kept : (I : State → Type 0) (P : End → List ℕ → Type 0)
      → ((s : State) (t : Turn) → View step inside limit capacity s t → I s → Keeps I P t)
      → {s : State} {e : End} {m : List ℕ} → Runs step inside limit capacity s e m → I s → P e m
  kept I P k (halting {s = s} e) h = rw e at (k s _ (view step inside limit capacity s) h)
  kept I P k (turning {s = s} e r) h = kept I P k r (rw e at (k s _ (view step inside limit capacity s) h))

  -- a walk that is computed ends so
  pub after_runs : (n : ℕ) {s : State} {e : End} {m : List ℕ} → after step inside limit capacity n s ≡ halts e m
      → Runs step inside limit capacity s e m
  unfolding after
  after_runs zero q = let z : ◌≡◌ {A = ℕ} 0 1 = cc in absurd (omega arith)
  after_runs (suc n) {s} {e} {m} q = from (λ u r. after_runs n {s = u} r) (turn step inside limit capacity s) refl q
    where
      from : ((u : State) → after step inside limit capacity n u ≡ halts e m → Runs step inside limit capacity u e m)
          → (t : Turn) → turn step inside limit capacity s ≡ t → onward (after step inside limit capacity n) t ≡ halts e m
          → Runs step inside limit capacity s e m
      from again (turns u) p q = turning p (again u q)
      from again (halts e' m') p q = halting (p ∙ q)
