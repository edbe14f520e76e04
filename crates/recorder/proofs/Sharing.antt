-- The records of an address are those of the definition where the facts that they share are: at an address inside all of them, and at one outside the opcode alone,
-- since `entry_outside` shows no pointer and no flag.
use mathlib.Core.Path.{◌≡◌, refl, sym}
use mathlib.Core.Bool.{Bool, true, false, cond, ◌&&◌}
use mathlib.Core.List.{List, map-map}
use Prim.Native.Nat.{ℕ, ◌+◌, ◌-◌, ◌%◌, ◌≤◌, ◌<◌}
use native.Mathlib.Omega.{arith}
use lib.Dec.{ltb}
use borrow.Author.Tests.{ltb-true}
use Rattle.std.specs.Prelude.{Option}
use Rattle.mos6502.specs.declared.Decoded.{Decoded}
use Rattle.mos6502.specs.Class.{length_of, manual_class}
use Rattle.image.specs.Image.{inside, byte_at}
use Rattle.cause.specs.declared.RefusalCause.{RefusalCause}
use Rattle.site.specs.Site.{whole_at, operand_at, next_at, whole_site, broken_site, site_at, site_in}
use Rattle.tracker.specs.declared.Place.{Place}
use Rattle.tracker.specs.Track.{Reached, Stands, state_of}
use Rattle.resolver.specs.declared.Seen.{Seen}
use Rattle.resolver.specs.Resolve.{is_held, seen_at, resolved, Tells}
use Rattle.recorder.specs.declared.Facts.{Facts}
use Rattle.recorder.specs.Recorded.{causes_at}
use Rattle.recorder.specs.Records.{linear_at, walk_at, record_of, pair_known, facts_at, records_with}
use Rattle.recorder.proofs.Members.{records_at}

-- a site has its first byte for an opcode, whole or not
site_opcode : (class : ℕ → Decoded) (byte : ℕ → ℕ) (last : ℕ) (inside : ℕ → Bool) (a : ℕ) → (site_at class byte last inside a).opcode ≡ byte a
unfolding site_at
site_opcode class byte last inside a =
    let n = length_of (class (byte a)).mode in
    by (whole_at last a n) (operand_at byte a n) (next_at inside a n)
  where
    by : (whole : Bool) (operand : ℕ) (next : Option ℕ)
        → (cond whole (whole_site (byte a) operand next (class (byte a))) (broken_site (byte a) (class (byte a)))).opcode ≡ byte a
    by true operand next = refl
    by false operand next = refl

-- the bytes that hold a value in the array are those that are resolved, and so are the pairs
walk_told : (image : List ℕ) (load last : ℕ) (met : List ℕ) {seen : List Seen} → Tells image load met seen → (z : ℕ) → z < 256
    → pair_known (λ y. is_held (seen_at seen y)) z ≡ walk_at manual_class image load last met z
walk_told image load last met {seen} t z h = by (ltb z 0xFF) refl
  where
    by : (low : Bool) → ltb z 0xFF ≡ low
        → (low && (is_held (seen_at seen z) && is_held (seen_at seen (z + 1)))) ≡ (low && (resolved image load met z && resolved image load met (z + 1)))
    by true e = rw (t.each z h, t.each (z + 1) (omega (arith, ltb-true z 0xFF e)))
    by false e = refl

module _ (image : List ℕ) (load last : ℕ) (met : List ℕ) (undecoded : Option ℕ) (a : ℕ) where
  -- what the definition has the records at a share
  abbrev shared : Facts
  shared =
      let z = (site_in manual_class image load last a).operand % 256 in
      record {
        opcode = cond (inside load last a) (byte_at image load a) 0;
        pointer = z;
        linear = linear_at manual_class image load last met a z;
        walk = walk_at manual_class image load last met z;
      }

  shared_records : records_with shared a (causes_at manual_class image load last undecoded a) ≡ records_at image load last undecoded met a
  shared_records =
      sym
      (map-map (record_of manual_class image load last met (λ b. 0)) (λ (c : RefusalCause). record { address = a; cause = c })
      (causes_at manual_class image load last undecoded a))

-- The records at a can be written: these facts give them, and the tracker, which stands by the byte past a at the latest, can go on to every later site.
pub record Ready (image : List ℕ) (load last : ℕ) (met : List ℕ) (undecoded : Option ℕ) (a : ℕ) (f : Facts) (place : Place) (zp : List (Option ℕ)) : Type 0 where
  pub records : records_with f a (causes_at manual_class image load last undecoded a) ≡ records_at image load last undecoded met a
  pub reached : Reached image place.at (state_of place.regs zp)
  pub by : place.at ≤ a + 1 - load

module _ {image : List ℕ} {load last : ℕ} {met : List ℕ} {undecoded : Option ℕ} {a : ℕ} {place : Place} {zp : List (Option ℕ)} where
  pub ready_inside : {f : Facts} {seen : List Seen} → inside load last a ≡ true → Stands image (a - load) place.at (state_of place.regs zp)
      → Tells image load met seen → f ≡ facts_at image load last a zp seen → Ready image load last met undecoded a f place zp
  ready_inside {f} i stands tells facts =
      record {
        records =
            rw (
              ← shared_records image load last met undecoded a,
              facts,
              walk_told image load last met tells ((site_in manual_class image load last a).operand % 256) (omega arith),
              stands.state,
              site_opcode,
              i,
            );
        reached = stands.reached;
        by = omega (arith, stands.by);
      }

  pub ready_outside : {f : Facts} → inside load last a ≡ false → f.opcode ≡ 0 → Reached image place.at (state_of place.regs zp)
      → place.at ≤ a + 1 - load → Ready image load last met undecoded a f place zp
  ready_outside i o reached by = record { records = rw (← shared_records image load last met undecoded a, i, o); reached = reached; by = by }
