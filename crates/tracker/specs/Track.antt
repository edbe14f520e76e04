-- The tracker (01, "Tracker and stores"): it reads pairs while two bytes remain; A9, A2, A0 set A, X, Y; 85, 86, 84 store a known register in zero page;
-- each moves two bytes, and any other byte moves one. Assumes nothing.
use Rattle.std.specs.Prelude.{◌≡◌, Bool, true, false, cond, ◌||◌, List, [], ◌∷◌, ℕ, ◌-◌, ◌≤◌, eqb, length, take, drop, replicate, Option, Some, None, is_some}
use Rattle.std.specs.Prelude.{slice_index_or, slice_set}
use Rattle.tracker.specs.declared.Registers.{Registers}
use Rattle.tracker.specs.declared.ImmState.{ImmState}

-- before anything is loaded no register is known
abbrev pub unloaded : Registers
unloaded = record { a = None; x = None; y = None }

-- before the first byte nothing is known
unfoldable pub nothing : ImmState
nothing = record { regs = unloaded; zp = replicate 256 None }

-- ── a pair ──
-- the opcodes that the tracker knows
abbrev pub is_tracked : ℕ → Bool
is_tracked op = eqb op 0xA9 || eqb op 0xA2 || eqb op 0xA0 || eqb op 0x85 || eqb op 0x86 || eqb op 0x84

-- the registers after a load of a value
abbrev pub loaded : (op : ℕ) → (value : Option ℕ) → Registers → Registers
loaded op value r =
    cond (eqb op 0xA9) (record { a = value; x = r.x; y = r.y })
    (cond (eqb op 0xA2) (record { a = r.a; x = value; y = r.y })
    (cond (eqb op 0xA0) (record { a = r.a; x = r.x; y = value }) r))

-- the register that a store stores; none where the opcode is no store
abbrev pub stored : (op : ℕ) → Registers → Option ℕ
stored op r = cond (eqb op 0x85) r.a (cond (eqb op 0x86) r.x (cond (eqb op 0x84) r.y None))

-- a known value goes into zero page; an unknown one leaves zero page as it is
abbrev pub zp_with : Option ℕ → (arg : ℕ) → List (Option ℕ) → List (Option ℕ)
zp_with (Some v) arg zp = slice_set zp arg (Some v)
zp_with None arg zp = zp

-- the state after the pair of a known opcode and its argument
abbrev pub applied : (op arg : ℕ) → ImmState → ImmState
applied op arg s = record { regs = loaded op (Some arg) s.regs; zp = zp_with (stored op s.regs) arg s.zp }

-- ── a run of bytes ──
unfoldable pub track : ImmState → List ℕ → ImmState
track s [] = s
track s (b ∷ []) = s
track s (op ∷ arg ∷ rest) = elim (is_tracked op) [ true ↦ track (applied op arg s) rest | false ↦ track s (arg ∷ rest) ]

-- what is known after a run, from nothing
abbrev pub tracked : List ℕ → ImmState
tracked code = track nothing code

-- the value of a zero-page byte, if it is known
abbrev pub value_in : ImmState → (z : ℕ) → Option ℕ
value_in s z = slice_index_or s.zp z None

-- is it known?
abbrev pub knows : ImmState → (z : ℕ) → Bool
knows s z = is_some (value_in s z)

-- ── a place in a longer run ──
-- the bytes from `at` on and below n
abbrev pub part : (code : List ℕ) (at n : ℕ) → List ℕ
part code at n = take (n - at) (drop at code)

-- The tracker of every prefix that is at least so long comes to the place `at` with the state s. So one pass serves every prefix: tracking a longer run
-- continues where a shorter one stopped.
abbrev pub Reached : (code : List ℕ) (at : ℕ) → ImmState → Type 0
Reached code at s = (n : ℕ) → at ≤ n → n ≤ length code → tracked (take n code) ≡ track s (part code at n)

-- the tracker has read the first n bytes, and stands at `at` with the state s
pub record Stands (code : List ℕ) (n at : ℕ) (s : ImmState) : Type 0 where
  pub reached : Reached code at s
  pub by : at ≤ n
  pub state : tracked (take n code) ≡ s

-- the state of registers and a lent zero page
abbrev pub state_of : Registers → (zp : List (Option ℕ)) → ImmState
state_of regs zp = record { regs = regs; zp = zp }
