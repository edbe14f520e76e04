-- An image is the list of its bytes and the address of the first, `load`. Assumes nothing.
use Rattle.std.specs.Prelude.{◌≡◌, ℕ, suc, ◌+◌, ◌-◌, ◌*◌, ◌%◌, ◌<◌, min, Bool, cond, ◌&&◌, List, length, nat_le, nat_lt, slice_index}

-- the address of the last byte (01: load + length - 1). An empty image has none, and is refused before anybody asks
abbrev pub last : (image : List ℕ) (load : ℕ) → ℕ
last image load = load + length image - 1

-- inside means load to last
unfoldable pub inside : (load last a : ℕ) → Bool
inside load last a = nat_le load a && nat_le a last

-- the image lies from load to last, within 16 bits
pub record Lies (image : List ℕ) (load last : ℕ) : Type 0 where
  pub ends : load + length image ≡ suc last
  pub top : last < 65536

-- the byte at an address
unfoldable pub byte_at : (image : List ℕ) (load a : ℕ) → ℕ
byte_at image load a = slice_index image (a - load)

-- the word at an address, its low byte first
abbrev pub word_at : (image : List ℕ) (load a : ℕ) → ℕ
word_at image load a = byte_at image load a + 256 * byte_at image load (a + 1)

-- the address after a: after 0xFFFF it is 0
abbrev pub after : ℕ → ℕ
after a = (a + 1) % 65536

-- the target of a branch: the next address plus the signed offset, modulo 65,536. An offset from 128 on means itself less 256
unfoldable pub branch_target : (next offset : ℕ) → ℕ
branch_target next offset = cond (nat_lt offset 128) (next + offset) (next + offset + 65536 - 256) % 65536

-- a sum of addresses, stopped at 0xFFFF
abbrev pub stopped_sum : ℕ → ℕ → ℕ
stopped_sum a b = min (a + b) 0xFFFF
