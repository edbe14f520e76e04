-- The record of a pair: opcode, pointer, flags and weight (01, "The diagnosis"). Assumes nothing.
use Rattle.std.specs.Prelude.{◌≡◌, Bool, true, false, cond, ◌&&◌, List, ◌++◌, map, ℕ, ◌+◌, ◌-◌, ◌%◌, ◌<◌, min, ltb, length, slice_index_or, take, drop, Option, Some, None, is_some}
use Rattle.lists.specs.Lists.{scan}
use Rattle.mos6502.specs.declared.Decoded.{Decoded}
use Rattle.mos6502.specs.Class.{manual_class}
use Rattle.image.specs.Image.{inside, byte_at}
use Rattle.address_set.specs.Map.{has, members_in}
use Rattle.cause.specs.declared.RefusalCause.{RefusalCause}
use Rattle.cause.specs.declared.RefusalCause.TheVariants.{IllegalOpcode, Brk, JmpIndirect, IndirectIndexedY, IndirectIndexedX, OperandOffEnd, RanOffEnd, Budget, EntryOutside}
use Rattle.site.specs.Site.{site_in}
use Rattle.walk.specs.Step.{is_pointer}
use Rattle.tracker.specs.Track.{tracked, knows}
use Rattle.resolver.specs.declared.Seen.{Seen}
use Rattle.resolver.specs.Resolve.{resolved, is_held, seen_at}
use Rattle.records.specs.declared.Fields.{Fields}
use Rattle.records.specs.Packed.{packed}
use Rattle.recorder.specs.declared.Pair.{Pair}
use Rattle.recorder.specs.declared.Facts.{Facts}
use Rattle.recorder.specs.Recorded.{pairs_over}

-- a weight is at most 65,535
abbrev pub capped : ℕ → ℕ
capped n = min n 65535

-- the flags are asked for indirect-y alone
abbrev pub is_y : RefusalCause → Bool
is_y IndirectIndexedY = true
is_y IndirectIndexedX = false
is_y IllegalOpcode = false
is_y Brk = false
is_y JmpIndirect = false
is_y OperandOffEnd = false
is_y RanOffEnd = false
is_y Budget = false
is_y EntryOutside = false

-- are both bytes of a pointer known? One at 0xFF has no second byte
abbrev pub pair_known : (known : ℕ → Bool) (z : ℕ) → Bool
pair_known known z = ltb z 0xFF && (known z && known (z + 1))

module _ (class : ℕ → Decoded) (image : List ℕ) (load last : ℕ) (met : List ℕ) where
  -- the tracker over all bytes from load up to the site, its first byte not included, knows z and z + 1
  abbrev pub linear_at : (a z : ℕ) → Bool
  linear_at a z = pair_known (knows (tracked (take (a - load) image))) z

  -- the addresses met, ascending, resolve z and z + 1
  abbrev pub walk_at : (z : ℕ) → Bool
  walk_at z = pair_known (resolved image load met) z

  -- a pointer is the site's operand, one byte
  abbrev pub fields_of : (weight : ℕ → ℕ) → Pair → Fields
  fields_of weight p =
      let a = p.address in
      let c = p.cause in
      let z = (site_in class image load last a).operand % 256 in
      record {
        address = a;
        cause = c;
        opcode = cond (inside load last a) (byte_at image load a) 0;
        pointer = cond (is_pointer c) (Some z) None;
        linear = is_y c && linear_at a z;
        walk = is_y c && walk_at z;
        weight = capped (weight a);
      }

  abbrev pub record_of : (weight : ℕ → ℕ) → Pair → ℕ
  record_of weight p = packed (fields_of weight p)

  abbrev pub records_of : (weight : ℕ → ℕ) → List Pair → List ℕ
  records_of weight pairs = map (record_of weight) pairs

-- the pairs of all members of a map
abbrev pub pairs_of : (image : List ℕ) (load last : ℕ) (undecoded : Option ℕ) (members : List ℕ) → List Pair
pairs_of image load last undecoded members = pairs_over manual_class image load last undecoded (scan (has members) 0 65536)

-- ── in the code ──
-- b says whether both are, by every rule that the answers of a call follow
abbrev pub KnowsBoth : (answers : ℕ → Bool → Type 0) (z : ℕ) → Bool → Type 0
KnowsBoth answers z b = (known : ℕ → Bool) → ((y : ℕ) (r : Bool) → y < 256 → answers y r → r ≡ known y) → b ≡ pair_known known z

-- what the records of an address inside share, where the tracker before it knows zp, and the instructions met write seen
abbrev pub facts_at : (image : List ℕ) (load last a : ℕ) (zp : List (Option ℕ)) (seen : List Seen) → Facts
facts_at image load last a zp seen =
    let s = site_in manual_class image load last a in
    let z = s.operand % 256 in
    record {
      opcode = s.opcode;
      pointer = z;
      linear = pair_known (λ y. is_some (slice_index_or zp y None)) z;
      walk = pair_known (λ y. is_held (seen_at seen y)) z;
    }

abbrev pub fields_with : Facts → Pair → Fields
fields_with f p =
    record {
      address = p.address;
      cause = p.cause;
      opcode = f.opcode;
      pointer = cond (is_pointer p.cause) (Some f.pointer) None;
      linear = is_y p.cause && f.linear;
      walk = is_y p.cause && f.walk;
      weight = 0;
    }

-- the records of an address from slot n on, where its causes are these; r is the slot after them, and the others are as they were
abbrev pub records_with : Facts → (a : ℕ) → List RefusalCause → List ℕ
records_with f a causes = map (λ (c : RefusalCause). packed (fields_with f (record { address = a; cause = c }))) causes

pub record Put (slots : List ℕ) (n a : ℕ) (causes : List RefusalCause) (f : Facts) (r : ℕ) (slots' : List ℕ) : Type 0 where
  pub next : r ≡ n + length causes
  pub after : slots' ≡ take n slots ++ records_with f a causes ++ drop (n + length causes) slots

-- all records of the map's members, each with weight 0
abbrev pub written : (image : List ℕ) (load last : ℕ) (undecoded : Option ℕ) (members : List ℕ) → List ℕ
written image load last undecoded members =
    records_of manual_class image load last (members_in load last members) (λ a. 0) (pairs_of image load last undecoded members)

-- they stand in the first slots, and the others are as they were
pub record Written (image : List ℕ) (load last : ℕ) (undecoded : Option ℕ) (members slots slots' : List ℕ) : Type 0 where
  pub after : slots' ≡ written image load last undecoded members ++ drop (length (pairs_of image load last undecoded members)) slots
