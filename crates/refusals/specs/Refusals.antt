-- A record as a struct, and what `unpack_all` answers and leaves in the lent slice (01, "The diagnosis" and "Numbered outcomes"). Assumes nothing.
use Rattle.std.specs.Prelude.{◌≡◌, List, ◌++◌, map, ℕ, ◌≤◌, ◌<◌, length, drop, Result, Ok, Err}
use Rattle.refusal.specs.declared.Refusal.{Refusal}
use Rattle.refusal.specs.declared.Refusal.TheVariants.{Short}
use Rattle.refusal.specs.Numbers.{needed}
use Rattle.cause.specs.Cause.{cause_at}
use Rattle.records.specs.declared.Fields.{Fields}
use Rattle.records.specs.Packed.{address_of, cause_of, opcode_of, pointer_of, linear_of, walk_of, weight_of}
use Rattle.refusals.specs.declared.ReachRefusal.{ReachRefusal}

-- a record, unpacked
abbrev pub refusal_of : ℕ → ReachRefusal
refusal_of r = record {
  addr = address_of r;
  opcode = opcode_of r;
  cause = cause_at (cause_of r);
  zp = pointer_of r;
  zp_linear = linear_of r;
  zp_from_walk = walk_of r;
  from_entries = weight_of r;
}

-- a record's fields, one for one
abbrev pub struct_of : Fields → ReachRefusal
struct_of f = record {
  addr = f.address;
  opcode = f.opcode;
  cause = f.cause;
  zp = f.pointer;
  zp_linear = f.linear;
  zp_from_walk = f.walk;
  from_entries = f.weight;
}

-- the records as structs, over the first of these structs; the others as they are
abbrev pub over : (records : List ℕ) → List ReachRefusal → List ReachRefusal
over records out = map refusal_of records ++ drop (length records) out

-- the number of structs written
abbrev pub count_of : Result ℕ Refusal → ℕ
count_of (Ok n) = n
count_of (Err r) = 0

-- the number of structs needed, in a refusal for a slice too short
abbrev pub needed_of : Result ℕ Refusal → ℕ
needed_of (Ok n) = 0
needed_of (Err r) = needed r

-- Each answer, and the structs before and after. An answer writes structs 0 to n - 1 and no other; a slice too short is left as it was, and nothing else is refused.
abbrev pub Unpacks : (packed : List ℕ) (out out' : List ReachRefusal) → Result ℕ Refusal → Type 0
Unpacks packed out out' (Ok n) = (n ≡ length packed) × (length packed ≤ length out) × (out' ≡ over packed out)
Unpacks packed out out' (Err r) = (r ≡ Short (length packed)) × (length out < length packed) × (out' ≡ out)
