-- Locality: what is reachable, its list and the whole walk rest on the steps at the reachable addresses alone, and on `inside` at the entries
-- and at what follows a reachable address. Two images that agree there are not told apart.
use mathlib.Core.Path.{◌≡◌, refl, sym, ◌∙◌}
use mathlib.Core.Logic.{◌↔◌, ◌⊎◌, inl, inr}
use mathlib.Core.Bool.{Bool, true, false}
use mathlib.Core.List.Memᴰ.{head as here}
use mathlib.Core.List.{List, [], ◌∷◌}
use Prim.Native.Nat.{ℕ}
use Rattle.lists.specs.Lists.{◌∈◌}
use Rattle.lists.proofs.Tests.{either, passed}
use Rattle.reach.specs.Reach.{Step, follows, Reach, entered, followed, ReachList}
use Rattle.reach.specs.Walk.{State, visiting, between, End, turn, Runs, halting, turning, Walk}
use Rattle.reach.proofs.Turn.{view}
use Rattle.reach.proofs.Sound.{Candidate, first, later, candidate_reached, Stands, stands_turn, stands_start}

-- the same step at each address that is reachable in the first, and the same test at each entry and each address that follows a reachable one
pub record Agree (step step' : ℕ → Step) (inside inside' : ℕ → Bool) (entries : List ℕ) : Type 0 where
  pub steps : (a : ℕ) → Reach step inside entries a → step a ≡ step' a
  pub firsts : (a : ℕ) → a ∈ entries → inside a ≡ inside' a
  pub laters : (a b : ℕ) → Reach step inside entries a → b ∈ follows (step a) → inside b ≡ inside' b

module _ {step step' : ℕ → Step} {inside inside' : ℕ → Bool} {entries : List ℕ} (same : Agree step step' inside inside' entries) where
  -- ── what is reachable ──
  reach_back : {a : ℕ} → Reach step' inside' entries a → Reach step inside entries a
  reach_back (entered {a = a} k i) = entered k (rw (same.firsts a k) i)
  reach_back (followed {a = a} {b = b} r k i) = on_from (reach_back r)
    where
      on_from : Reach step inside entries a → Reach step inside entries b
      on_from q = let l : b ∈ follows (step a) = rw (same.steps a q) k in followed q l (rw (same.laters a b q l) i)

  -- so they agree the other way round too
  agree_back : Agree step' step inside' inside entries
  agree_back =
      record {
        steps = λ a r. sym (same.steps a (reach_back r));
        firsts = λ a k. sym (same.firsts a k);
        laters = λ a b r k. sym (same.laters a b (reach_back r) (rw (same.steps a (reach_back r)) k));
      }

module _ {step step' : ℕ → Step} {inside inside' : ℕ → Bool} {entries : List ℕ} (same : Agree step step' inside inside' entries) where
  pub reach_same : (a : ℕ) → Reach step inside entries a ↔ Reach step' inside' entries a
  reach_same a = (reach_back (agree_back same), reach_back same)

  list_there : {l : List ℕ} → ReachList step inside entries l → ReachList step' inside' entries l
  list_there h = record { ascending = h.ascending; exact = λ a. (λ k. (reach_same a).0 ((h.exact a).0 k), λ r. (h.exact a).1 ((reach_same a).1 r)) }

  -- what waits passes the same test, and where it passes, the step does not differ: so no turn differs
  candidate_same : {a : ℕ} → Candidate step inside entries a → inside a ≡ inside' a
  candidate_same {a} (first k) = same.firsts a k
  candidate_same {a} (later {b = b} r k) = same.laters b a r k

  module _ (limit capacity : ℕ) where
    turn_same : (s : State) → Stands step inside entries limit s → turn step' inside' limit capacity s ≡ turn step inside limit capacity s
    unfolding turn
    turn_same (between m (t ∷ p) l) h = refl
    turn_same (between m [] (e ∷ l)) h = refl
    turn_same (between m [] []) h = refl
    turn_same (visiting pc m p l) h = look (either (inside pc)) (h.waits pc (here refl))
      where
        look : (inside pc ≡ true) ⊎ (inside pc ≡ false) → Candidate step inside entries pc
            → turn step' inside' limit capacity (visiting pc m p l) ≡ turn step inside limit capacity (visiting pc m p l)
        look (inl i) c = rw (← candidate_same c, ← same.steps pc (candidate_reached step inside entries c (passed i)))
        look (inr i) c = rw (← candidate_same c, i)

    runs_there : {s : State} {e : End} {m : List ℕ} → Runs step inside limit capacity s e m → Stands step inside entries limit s
        → Runs step' inside' limit capacity s e m
    runs_there (halting {s = s} e) h = halting (turn_same s h ∙ e)
    runs_there (turning {s = s} e r) h = turning (turn_same s h ∙ e) (runs_there r (rw e at (stands_turn (view step inside limit capacity s) h)))

module _ {step step' : ℕ → Step} {inside inside' : ℕ → Bool} {entries : List ℕ} (same : Agree step step' inside inside' entries) where
  pub list_same : (l : List ℕ) → ReachList step inside entries l ↔ ReachList step' inside' entries l
  list_same l = (list_there same, list_there (agree_back same))

  pub walk_same : (limit capacity : ℕ) (e : End) (met : List ℕ) → Walk step inside limit capacity entries e met
      ↔ Walk step' inside' limit capacity entries e met
  walk_same limit capacity e met = (
    λ w. runs_there same limit capacity w (stands_start entries),
    λ w. runs_there (agree_back same) limit capacity w (stands_start entries),
  )
