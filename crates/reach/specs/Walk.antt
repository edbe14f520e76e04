-- The walk of 01 as a machine that turns from state to state. `limit` is how many addresses it may meet, `capacity` how many may be pending.
-- Assumes nothing.
use Rattle.std.specs.Prelude.{◌≡◌, Bool, true, false, List, [], ◌∷◌, ℕ, zero, suc, eqb, length}
use Rattle.lists.specs.Lists.{elem, last_first}
use Rattle.reach.specs.Reach.{Step, ends, refuses, goes, forks}

-- Where the walk stands: on a path, at the address pc; or between paths. `met`: the addresses met, the latest first. `pending`: the addresses put by,
-- the latest first. `left`: the entries not yet taken, the next one first.
pub data State : Type 0 where
  visiting : (pc : ℕ) (met pending left : List ℕ) → State
  between : (met pending left : List ℕ) → State

-- How it ends. `finished`: nothing is left to take. `refused pc`: the site at pc is refused. `spent pc`: pc is met, and is one more than the limit
-- allows. `full pc`: an address is to be put by at pc while as many are pending as the capacity allows.
pub data End : Type 0 where
  finished : End
  refused : (pc : ℕ) → End
  spent : (pc : ℕ) → End
  full : (pc : ℕ) → End

-- What one turn leads to: another state; or the end, with all addresses met, the one that the end names among them.
pub data Turn : Type 0 where
  turns : State → Turn
  halts : End → (met : List ℕ) → Turn

-- an address is to be put by: are as many pending as the capacity allows?
abbrev pub put : (crowded : Bool) (pc n t : ℕ) (met pending left : List ℕ) → Turn
put true pc n t met pending left = halts (full pc) met
put false pc n t met pending left = turns (visiting n met (t ∷ pending) left)

-- pc is met: what its step asks for
abbrev pub act : (capacity : ℕ) → Step → (pc : ℕ) (met pending left : List ℕ) → Turn
act capacity ends pc met pending left = turns (between met pending left)
act capacity refuses pc met pending left = halts (refused pc) met
act capacity (goes n) pc met pending left = turns (visiting n met pending left)
act capacity (forks n t) pc met pending left = put (eqb (length pending) capacity) pc n t met pending left

-- the path is at pc: is pc inside, was it met before, is the limit reached?
abbrev pub meet : (capacity : ℕ) (within old reached : Bool) → Step → (pc : ℕ) (met pending left : List ℕ) → Turn
meet capacity false old reached s pc met pending left = turns (between met pending left)
meet capacity true true reached s pc met pending left = turns (between met pending left)
meet capacity true false true s pc met pending left = halts (spent pc) (pc ∷ met)
meet capacity true false false s pc met pending left = act capacity s pc (pc ∷ met) pending left

-- before the first turn: the entries are taken last first, and none is pending
abbrev pub start : (entries : List ℕ) → State
start entries = between [] [] (last_first entries)

-- one turn, then f
abbrev pub onward : (State → Turn) → Turn → Turn
onward f (turns s) = f s
onward f (halts e met) = halts e met

module _ (step : ℕ → Step) (inside : ℕ → Bool) (limit capacity : ℕ) where
  -- One turn. Between paths, what is pending is taken first, the latest first; then the next entry; then all is done.
  unfoldable pub turn : State → Turn
  turn (visiting pc met pending left) = meet capacity (inside pc) (elem pc met) (eqb (length met) limit) (step pc) pc met pending left
  turn (between met (t ∷ pending) left) = turns (visiting t met pending left)
  turn (between met [] (e ∷ left)) = turns (visiting e met [] left)
  turn (between met [] []) = halts finished met

  -- from s the walk comes to the end e, having met these
  pub data Runs : State → End → List ℕ → Type 0 where
    halting : {s : State} {e : End} {met : List ℕ} → turn s ≡ halts e met → Runs s e met
    turning : {s u : State} {e : End} {met : List ℕ} → turn s ≡ turns u → Runs u e met → Runs s e met

  -- `Walk step inside limit capacity entries e met`: the walk from the entries comes to the end e, having met these, the latest first
  abbrev pub Walk : (entries : List ℕ) → End → (met : List ℕ) → Type 0
  Walk entries e met = Runs (start entries) e met

  -- the first n turns, or fewer where the walk ends: for worked examples
  unfoldable pub after : ℕ → State → Turn
  after zero s = turns s
  after (suc n) s = onward (after n) (turn s)
