-- A packed record, unpacked, has its fields again, one for one: each reads back, and a cause is found by its number. The records of the diagnosis are such records:
-- their numbers fit their fields.
use mathlib.Core.Path.{◌≡◌, ap, ◌∙◌}
use mathlib.Core.List.{List}
use Prim.Native.Nat.{ℕ, ◌<◌}
use Rattle.mos6502.specs.declared.Decoded.{Decoded}
use Rattle.image.specs.Image.{byte_at}
use Rattle.cause.specs.Cause.{cause_at}
use Rattle.cause.proofs.Numbers.{cause_back}
use Rattle.records.specs.declared.Fields.{Fields}
use Rattle.records.specs.Packed.{packed}
use Rattle.records.proofs.Unpacked.{Sized, unpacks}
use Rattle.recorder.specs.declared.Pair.{Pair}
use Rattle.recorder.specs.Records.{fields_of, record_of}
use Rattle.diagnosis.proofs.Raise.{recorded_sized}
use Rattle.refusals.specs.Refusals.{refusal_of, struct_of}

module _ (f : Fields) (sized : Sized f) where
  pub unpacks_fields : refusal_of (packed f) ≡ struct_of f
  unpacks_fields =
      let u = unpacks f sized in
      λ i. record {
        addr = u.address i;
        opcode = u.opcode i;
        cause = (ap cause_at u.cause ∙ cause_back f.cause) i;
        zp = u.pointer i;
        zp_linear = u.linear i;
        zp_from_walk = u.walk i;
        from_entries = u.weight i;
      }

-- ── the records of the diagnosis ──
module _ (class : ℕ → Decoded) (image : List ℕ) (load last : ℕ) (order : List ℕ) (bytes : (a : ℕ) → byte_at image load a < 256) (weight : ℕ → ℕ)
    (p : Pair) (small : p.address < 65536) where
  pub unpacks_recorded : refusal_of (record_of class image load last order weight p) ≡ struct_of (fields_of class image load last order weight p)
  unpacks_recorded = unpacks_fields (fields_of class image load last order weight p) (recorded_sized class image load last order bytes weight p small)
