-- A record is one 64-bit number (01, "The diagnosis"): address x 2^48 + cause x 2^40 + opcode x 2^32 + pointer x 2^24 + present x 2^18 + linear x 2^17
-- + walk x 2^16 + weight. A pointer that is not present is written as 0. Assumes nothing.
use Rattle.std.specs.Prelude.{Bool, cond, ℕ, ◌+◌, ◌*◌, ◌/◌, ◌%◌, ◌^◌, eqb, Option, Some, None, unwrap_or}
use Rattle.std.specs.Option.{is_some}
use Rattle.std.specs.Int.{from_bool}
use Rattle.cause.specs.Cause.{number_of}
use Rattle.records.specs.declared.Fields.{Fields}

unfoldable pub packed : Fields → ℕ
packed f =
    f.address * 2 ^ 48 + number_of f.cause * 2 ^ 40 + f.opcode * 2 ^ 32 + unwrap_or f.pointer 0 * 2 ^ 24 + from_bool (is_some f.pointer) * 2 ^ 18
    + from_bool f.linear * 2 ^ 17 + from_bool f.walk * 2 ^ 16 + f.weight

-- ── a record's fields ──
abbrev pub address_of : ℕ → ℕ
address_of r = r / 2 ^ 48

abbrev pub cause_of : ℕ → ℕ
cause_of r = r / 2 ^ 40 % 256

abbrev pub opcode_of : ℕ → ℕ
opcode_of r = r / 2 ^ 32 % 256

-- the byte at the pointer's place, present or not
abbrev pub pointer_byte_of : ℕ → ℕ
pointer_byte_of r = r / 2 ^ 24 % 256

-- the pointer, or none where the bit says that no pointer is present
abbrev pub pointer_of : ℕ → Option ℕ
pointer_of r = cond (eqb (r / 2 ^ 18 % 2) 1) (Some (pointer_byte_of r)) None

abbrev pub linear_of : ℕ → Bool
linear_of r = eqb (r / 2 ^ 17 % 2) 1

abbrev pub walk_of : ℕ → Bool
walk_of r = eqb (r / 2 ^ 16 % 2) 1

abbrev pub weight_of : ℕ → ℕ
weight_of r = r % 2 ^ 16
