-- Records found with weight 0 and then raised by the weights of their addresses are the records with those weights: a record's address reads back, and its lowest
-- sixteen bits are its weight.
use mathlib.Core.Path.{◌≡◌, refl, sym, ap, ap₂, ◌∙◌}
use mathlib.Core.Bool.{Bool, true, false, cond}
use mathlib.Core.List.Memᴰ.{head as here}
use mathlib.Core.List.Memᴰ.{tail as there}
use mathlib.Core.List.{List, [], ◌∷◌, ◌++◌, map, map-append}
use Prim.Native.Nat.{ℕ, suc, ◌-◌, ◌%◌, ◌<◌}
use native.Mathlib.Nat.{min-le_right}
use native.Mathlib.Omega.{arith}
use lib.ListN.{length, take, drop, length-map}
use lib.Seq.{take_at, drop_at}
use Rattle.std.specs.Prelude.{Option, Some, None, unwrap_or}
use Rattle.lists.specs.Lists.{◌∈◌, scan}
use Rattle.lists.proofs.Sets.{empty}
use Rattle.lists.proofs.Scan.{scan_only}
use Rattle.mos6502.specs.declared.Decoded.{Decoded}
use Rattle.mos6502.specs.Class.{manual_class}
use Rattle.image.specs.Image.{inside, byte_at}
use Rattle.address_set.specs.Map.{has}
use Rattle.cause.specs.declared.RefusalCause.{RefusalCause}
use Rattle.site.specs.Site.{site_in}
use Rattle.walk.specs.Step.{is_pointer}
use Rattle.records.specs.Packed.{packed, address_of}
use Rattle.records.proofs.Unpacked.{Sized, unpacks}
use Rattle.recorder.specs.declared.Pair.{Pair}
use Rattle.recorder.specs.Recorded.{causes_at, pairs_at, pairs_over}
use Rattle.recorder.specs.Records.{fields_of, record_of, records_of, Written}
use Rattle.weights.specs.Weights.{raised, raised_by, Filled}
use Rattle.weights.proofs.Weighed.{weighed}
use Rattle.diagnosis.specs.Steps.{Fills}

below : (b : Bool) (x y n : ℕ) → x < n → y < n → cond b x y < n
below true x y n p q = p
below false x y n p q = q

-- a pointer, where one is shown
pointer_below : (b : Bool) (z : ℕ) → z < 256 → unwrap_or (cond b (Some z) None) 0 < 256
pointer_below true z h = h
pointer_below false z h = omega arith

module _ (class : ℕ → Decoded) (image : List ℕ) (load last : ℕ) (order : List ℕ) (bytes : (a : ℕ) → byte_at image load a < 256) where
  -- what is recorded fits its place in a record, whatever the weight
  pub recorded_sized : (weight : ℕ → ℕ) (p : Pair) → p.address < 65536 → Sized (fields_of class image load last order weight p)
  recorded_sized weight p h =
      record {
        address = omega arith;
        opcode = below (inside load last p.address) (byte_at image load p.address) 0 256 (bytes p.address) (omega arith);
        pointer = pointer_below (is_pointer p.cause) ((site_in class image load last p.address).operand % 256) (omega arith);
        weight = omega (arith, min-le_right (weight p.address) 65535);
      }

module _ (class : ℕ → Decoded) (image : List ℕ) (load last : ℕ) (order : List ℕ) (bytes : (a : ℕ) → byte_at image load a < 256) (weight : ℕ → ℕ) where
  raise_one : (p : Pair) → p.address < 65536
      → raised (weight (address_of (record_of class image load last order (λ a. 0) p))) (record_of class image load last order (λ a. 0) p)
      ≡ record_of class image load last order weight p
  unfolding packed
  raise_one p h =
      let u = unpacks (fields_of class image load last order (λ a. 0) p) (recorded_sized class image load last order bytes (λ a. 0) p h) in
      rw u.address (omega (arith, u.weight))

  raise_at : (a : ℕ) → a < 65536 → (causes : List RefusalCause)
      → raised_by weight (records_of class image load last order (λ b. 0) (map (λ (c : RefusalCause). record { address = a; cause = c }) causes))
      ≡ records_of class image load last order weight (map (λ (c : RefusalCause). record { address = a; cause = c }) causes)
  raise_at a h [] = refl
  raise_at a h (c ∷ causes) = ap₂ (λ (x : ℕ) (l : List ℕ). x ∷ l) (raise_one (record { address = a; cause = c }) h) (raise_at a h causes)

  pub raise_records : (undecoded : Option ℕ) (l : List ℕ) → ((a : ℕ) → a ∈ l → a < 65536)
      → raised_by weight (records_of class image load last order (λ b. 0) (pairs_over class image load last undecoded l))
      ≡ records_of class image load last order weight (pairs_over class image load last undecoded l)
  unfolding pairs_over
  raise_records undecoded [] h = refl
  raise_records undecoded (a ∷ l) h =
      let head = pairs_at class image load last undecoded a in
      let tail = pairs_over class image load last undecoded l in
      let zero = record_of class image load last order (λ b. 0) in
      ap (raised_by weight) (map-append zero head tail) ∙ map-append raise (map zero head) (map zero tail)
      ∙ ap₂ (λ (x y : List ℕ). x ++ y) (raise_at a (h a (here refl)) (causes_at class image load last undecoded a)) (raise_records undecoded l (λ b k. h b (there k)))
      ∙ sym (map-append (record_of class image load last order weight) head tail)
    where
      raise : ℕ → ℕ
      raise r = raised (weight (address_of r)) r

-- the records written with weight 0, and then the first n slots raised
module _ (image : List ℕ) (load last : ℕ) (entries members : List ℕ) (undecoded : Option ℕ) where
  abbrev found : List Pair
  found = pairs_over manual_class image load last undecoded (scan (has members) 0 65536)

  abbrev unweighted : List ℕ
  unweighted = records_of manual_class image load last (scan (has members) load (suc last - load)) (λ a. 0) found

  pub fills : ((a : ℕ) → byte_at image load a < 256) → {slots written part : List ℕ} {n : ℕ} → n ≡ length found → Written image load last undecoded members slots written
      → Filled image load last entries (take n written) part → Fills image load last entries members undecoded slots (part ++ drop n written)
  fills bytes {slots} {written} {part} {n} e w f =
      record {
        weight = f.weight;
        weighs = f.weighs;
        exact = ap₂ (λ (x y : List ℕ). x ++ y) (f.exact ∙ ap (raised_by f.weight) first ∙ raised_found) others;
      }
    where
      size : length unweighted ≡ n
      size = length-map found _ ∙ sym e

      first : take n written ≡ unweighted
      first = ap (take n) w.after ∙ take_at unweighted (drop (length found) slots) n size

      others : drop n written ≡ drop (length found) slots
      others = ap (drop n) w.after ∙ drop_at unweighted (drop (length found) slots) n size

      raised_found : raised_by f.weight unweighted ≡ records_of manual_class image load last (scan (has members) load (suc last - load)) f.weight found
      raised_found =
          raise_records manual_class image load last (scan (has members) load (suc last - load)) bytes f.weight undecoded (scan (has members) 0 65536)
          (λ a k. omega (arith, (scan_only (has members) 0 65536 k).high))

  -- nothing is found, and nothing written
  pub fills_none : {slots : List ℕ} → length found ≡ 0 → Fills image load last entries members undecoded slots slots
  fills_none e =
      record {
        weight = λ a. (weighed manual_class image load last entries a).0;
        weighs = λ a. (weighed manual_class image load last entries a).1;
        exact = rw (empty found e);
      }
