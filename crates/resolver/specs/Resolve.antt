-- `zp_resolved_by_walk` of the original, byte by byte: over the addresses met, ascending, immediate loads set a register (to nothing where the operand's byte is
-- absent), and a store of a register to the byte gives it that value; a second different value, or one unknown value, spoils it for good (01, "The diagnosis").
-- Assumes nothing.
use Rattle.std.specs.Prelude.{◌≡◌, ℕ, ◌<◌, Bool, true, false, cond, ◌||◌, List, [], ◌∷◌, length, ◌==◌, slice_index_or, Option, Some, None}
use Rattle.image.specs.Image.{byte_at, after}
use Rattle.image.specs.Answers.{wrapped_byte}
use Rattle.tracker.specs.declared.Registers.{Registers}
use Rattle.tracker.specs.Track.{unloaded, loaded, stored}
use Rattle.resolver.specs.declared.Seen.{Seen}
use Rattle.resolver.specs.declared.Seen.TheVariants.{Never, Holds, Spoiled}

-- the byte after an opcode at a: after 0xFFFF it is that at 0
abbrev pub argument_at : (image : List ℕ) (load a : ℕ) → Option ℕ
argument_at image load a = wrapped_byte image load (after a)

-- does it store a register to the byte z?
abbrev pub is_value : Option ℕ → (z : ℕ) → Bool
is_value (Some v) z = v == z
is_value None z = false

-- the opcodes that store a register
abbrev pub is_store : ℕ → Bool
is_store op = op == 0x85 || op == 0x86 || op == 0x84

-- one more value for the byte
abbrev pub seen_with : Seen → Option ℕ → Seen
seen_with Never (Some v) = Holds v
seen_with Never None = Spoiled
seen_with (Holds p) (Some v) = cond (p == v) (Holds v) Spoiled
seen_with (Holds p) None = Spoiled
seen_with Spoiled value = Spoiled

-- what is known of the byte z after the instruction
abbrev pub seen_after : (z op : ℕ) → (argument : Option ℕ) → Registers → Seen → Seen
seen_after z op argument r s = cond (is_store op) (cond (is_value argument z) (seen_with s (stored op r)) s) s

module _ (image : List ℕ) (load : ℕ) where
  -- over a list of addresses
  unfoldable pub resolve : (z : ℕ) → List ℕ → Registers → Seen → Seen
  resolve z [] r s = s
  resolve z (a ∷ l) r s =
      resolve z l (loaded (byte_at image load a) (argument_at image load a) r) (seen_after z (byte_at image load a) (argument_at image load a) r s)

-- does it hold one value?
abbrev pub is_held : Seen → Bool
is_held Never = false
is_held (Holds v) = true
is_held Spoiled = false

-- the addresses met, ascending, write the byte z from an immediate, unambiguously
abbrev pub resolved : (image : List ℕ) (load : ℕ) (met : List ℕ) (z : ℕ) → Bool
resolved image load met z = is_held (resolve image load z met unloaded Never)

-- ── all bytes at once ──
-- what an array holds of the byte z
abbrev pub seen_at : (seen : List Seen) (z : ℕ) → Seen
seen_at seen z = slice_index_or seen z Never

-- an instruction is passed: the array holds of each byte what is known of it after the instruction
pub record Passed (op : ℕ) (argument : Option ℕ) (r : Registers) (seen seen' : List Seen) : Type 0 where
  pub size : length seen' ≡ length seen
  pub each : (z : ℕ) → seen_at seen' z ≡ seen_after z op argument r (seen_at seen z)

-- of each byte, the array tells whether it is resolved
pub record Tells (image : List ℕ) (load : ℕ) (l : List ℕ) (seen : List Seen) : Type 0 where
  pub size : length seen ≡ 256
  pub each : (z : ℕ) → z < 256 → is_held (seen_at seen z) ≡ resolved image load l z
