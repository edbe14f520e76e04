-- Where the walk finishes, all that is reachable was met, and no reachable site refuses. The walk keeps this: each entry, and all that follows
-- an address met, is met or waits, if it is inside. Where the walk finishes, nothing waits.
use mathlib.Core.Path.{◌≡◌}
use mathlib.Core.Logic.{◌≢◌, ◌⊎◌, inl, inr, ⊎_elim}
use mathlib.Core.Bool.{Bool}
use mathlib.Core.List.Memᴰ.{append_left as in_left}
use mathlib.Core.List.Memᴰ.{append_right as in_right}
use mathlib.Core.List.Memᴰ.{cases_cons as cases}
use mathlib.Core.List.Memᴰ.{cast}
use mathlib.Core.List.Memᴰ.{head as here}
use mathlib.Core.List.Memᴰ.{not-nil}
use mathlib.Core.List.Memᴰ.{tail as there}
use mathlib.Core.List.{List, [], ◌∷◌, ◌++◌}
use Prim.Native.Nat.{ℕ}
use lib.Dec.{T}
use Rattle.lists.specs.Lists.{◌∈◌}
use Rattle.lists.proofs.Stack.{last_first_mem}
use Rattle.reach.specs.Reach.{Step, ends, refuses, goes, forks, follows, Reach, entered, followed}
use Rattle.reach.specs.Walk.{State, End, finished, refused, spent, full, Turn, Walk}
use Rattle.reach.proofs.Turn.{met_of, waiting, Keeps, View, skips, overruns, stops, balks, moves, splits, fills, resumes, enters, closes, kept}

-- a step that does not refuse
abbrev pub Fine : Step → Type 0
Fine ends = Unit {0}
Fine refuses = ⊥
Fine (goes n) = Unit {0}
Fine (forks n t) = Unit {0}

pub fine≢refuses : {x : Step} → Fine x → x ≢ refuses
fine≢refuses f e = rw e at f

module _ (inside : ℕ → Bool) where
  -- if a is inside, it is met or waits
  abbrev Seen : (m w : List ℕ) → ℕ → Type 0
  Seen m w a = T (inside a) → (a ∈ m) ⊎ (a ∈ w)

  -- the path is at pc, and pc is outside or was met before
  seen_skip : {pc : ℕ} {m w : List ℕ} → (T (inside pc) → pc ∈ m) → (a : ℕ) → Seen m (pc ∷ w) a → Seen m w a
  seen_skip {pc} {m} {w} f a h i = ⊎_elim inl (λ k. look (cases k)) (h i)
    where
      look : (a ≡ pc) ⊎ (a ∈ w) → (a ∈ m) ⊎ (a ∈ w)
      look (inl e) = inl (cast e (f (rw e at i)))
      look (inr k) = inr k

  -- pc is met, and more waits
  seen_meet : {pc : ℕ} {m w : List ℕ} (more : List ℕ) (a : ℕ) → Seen m (pc ∷ w) a → Seen (pc ∷ m) (more ++ w) a
  seen_meet more a h i = ⊎_elim (λ k. inl (there k)) (λ k. ⊎_elim (λ e. inl (here e)) (λ l. inr (in_right more l)) (cases k)) (h i)

module _ (step : ℕ → Step) (inside : ℕ → Bool) (entries : List ℕ) where
  -- what every turn keeps: each entry is seen to, and all that follows an address met; and none met refuses
  record Closed (m w : List ℕ) : Type 0 where
    firsts : (a : ℕ) → a ∈ entries → Seen inside m w a
    laters : (a b : ℕ) → a ∈ m → b ∈ follows (step a) → Seen inside m w b
    fine : (a : ℕ) → a ∈ m → Fine (step a)

  abbrev ClosedAt : State → Type 0
  ClosedAt s = Closed (met_of s) (waiting s)

  -- and what it comes to
  abbrev ClosedEnd : End → List ℕ → Type 0
  ClosedEnd finished met = Closed met []
  ClosedEnd (refused pc) met = Unit {0}
  ClosedEnd (spent pc) met = Unit {0}
  ClosedEnd (full pc) met = Unit {0}

  closed_skip : {pc : ℕ} {m w : List ℕ} → (T (inside pc) → pc ∈ m) → Closed m (pc ∷ w) → Closed m w
  closed_skip f h =
      record { firsts = λ a k. seen_skip inside f a (h.firsts a k); laters = λ a b k l. seen_skip inside f b (h.laters a b k l); fine = h.fine }

  closed_meet : {pc : ℕ} {m w : List ℕ} {x : Step} → step pc ≡ x → Fine x → Closed m (pc ∷ w) → Closed (pc ∷ m) (follows x ++ w)
  closed_meet {pc} {m} {w} {x} e n h =
      record {
        firsts = λ a k. seen_meet inside (follows x) a (h.firsts a k);
        laters = λ a b k l. later a b (cases k) l;
        fine = λ a k. good a (cases k);
      }
    where
      later : (a b : ℕ) → (a ≡ pc) ⊎ (a ∈ m) → b ∈ follows (step a) → Seen inside (pc ∷ m) (follows x ++ w) b
      later a b (inl q) l i = inr (in_left w (rw (q, e) at l))
      later a b (inr k) l i = seen_meet inside (follows x) b (h.laters a b k l) i

      good : (a : ℕ) → (a ≡ pc) ⊎ (a ∈ m) → Fine (step a)
      good a (inl q) = rw (q, e) n
      good a (inr k) = h.fine a k

  closed_turn : {limit capacity : ℕ} {s : State} {t : Turn} → View step inside limit capacity s t → ClosedAt s → Keeps ClosedAt ClosedEnd t
  closed_turn (skips f) h = closed_skip f h
  closed_turn (overruns f n) h = tt
  closed_turn (stops f n e) h = closed_meet e tt h
  closed_turn (balks f n e) h = tt
  closed_turn (moves f n e) h = closed_meet e tt h
  closed_turn (splits f n e c) h = closed_meet e tt h
  closed_turn (fills f n e c) h = tt
  closed_turn resumes h = h
  closed_turn enters h = h
  closed_turn closes h = h

  -- where nothing waits, all that is reachable is met
  reach_met : {m : List ℕ} → Closed m [] → {a : ℕ} → Reach step inside entries a → a ∈ m
  reach_met h (entered {a = a} k i) = ⊎_elim (λ l. l) (λ z. absurd (not-nil z)) (h.firsts a k i)
  reach_met h (followed {a = a} {b = b} r k i) = ⊎_elim (λ l. l) (λ z. absurd (not-nil z)) (h.laters a b (reach_met h r) k i)

module _ {step : ℕ → Step} {inside : ℕ → Bool} {limit capacity : ℕ} (entries : List ℕ) where
  closed : {met : List ℕ} → Walk step inside limit capacity entries finished met → Closed step inside entries met []
  closed w =
      kept (ClosedAt step inside entries) (ClosedEnd step inside entries) (λ s t v. closed_turn step inside entries v) w
      (record { firsts = λ a k i. inr ((last_first_mem entries a).1 k); laters = λ a b k. absurd (not-nil k); fine = λ a k. absurd (not-nil k) })

  pub complete : {met : List ℕ} → Walk step inside limit capacity entries finished met → {a : ℕ} → Reach step inside entries a → a ∈ met
  complete w r = reach_met step inside entries (closed w) r

  pub none_refuses : {met : List ℕ} → Walk step inside limit capacity entries finished met → {a : ℕ} → Reach step inside entries a
      → step a ≢ refuses
  none_refuses w {a} r = fine≢refuses ((closed w).fine a (complete w r))
