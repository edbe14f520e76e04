-- Each field of a packed record reads back: below each field stands less than its unit.
use mathlib.Core.Path.{◌≡◌}
use mathlib.Core.Bool.{Bool, true, false, cond}
use Prim.Native.Nat.{ℕ, ◌≤◌, ◌<◌, ◌^◌}
use native.Mathlib.Omega.{arith}
use Rattle.std.specs.Prelude.{eqb, Option, Some, None, unwrap_or}
use Rattle.std.specs.Option.{is_some}
use Rattle.std.specs.Int.{from_bool}
use Rattle.cause.specs.Cause.{number_of}
use Rattle.cause.proofs.Numbers.{cause_small}
use Rattle.records.specs.declared.Fields.{Fields}
use Rattle.records.specs.Packed.{packed, address_of, cause_of, opcode_of, pointer_byte_of, pointer_of, linear_of, walk_of, weight_of}

-- the numbers that fit their fields, as the code's types say
pub record Sized (f : Fields) : Type 0 where
  pub address : f.address < 2 ^ 16
  pub opcode : f.opcode < 256
  pub pointer : unwrap_or f.pointer 0 < 256
  pub weight : f.weight < 2 ^ 16

bit_small : (b : Bool) → from_bool b ≤ 1
bit_small true = omega arith
bit_small false = omega arith

-- a bit that was written for a truth value reads as that value
bit_reads : (bit : ℕ) (b : Bool) → bit ≡ from_bool b → eqb bit 1 ≡ b
bit_reads bit true e = rw e
bit_reads bit false e = rw e

-- and a byte beside the bit of its presence reads as the pointer
pointer_reads : (bit byte : ℕ) (pointer : Option ℕ) → bit ≡ from_bool (is_some pointer) → byte ≡ unwrap_or pointer 0
    → cond (eqb bit 1) (Some byte) None ≡ pointer
pointer_reads bit byte (Some z) e same = rw (e, same)
pointer_reads bit byte None e same = rw e

-- what the record holds
pub record Unpacks (f : Fields) (r : ℕ) : Type 0 where
  pub address : address_of r ≡ f.address
  pub cause : cause_of r ≡ number_of f.cause
  pub opcode : opcode_of r ≡ f.opcode
  pub pointer : pointer_of r ≡ f.pointer
  pub byte : pointer_byte_of r ≡ unwrap_or f.pointer 0
  pub linear : linear_of r ≡ f.linear
  pub walk : walk_of r ≡ f.walk
  pub weight : weight_of r ≡ f.weight

module _ (f : Fields) (sized : Sized f) where
  pub unpacks : Unpacks f (packed f)
  unfolding packed
  unpacks =
      let c = cause_small f.cause in
      let p = bit_small (is_some f.pointer) in
      let l = bit_small f.linear in
      let w = bit_small f.walk in
      record {
        address = omega arith;
        cause = omega arith;
        opcode = omega arith;
        pointer = pointer_reads _ _ f.pointer (omega arith) (omega arith);
        byte = omega arith;
        linear = bit_reads _ f.linear (omega arith);
        walk = bit_reads _ f.walk (omega arith);
        weight = omega arith;
      }
