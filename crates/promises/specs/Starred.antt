-- The starred cases of 01, "Cases on the bench", as one table: an image, its load address, the entries, and what is answered. Assumes nothing.
use Rattle.std.specs.Prelude.{◌≡◌, false, List, [], ◌∷◌, ◌++◌, map, ℕ, ◌≤◌, length, drop, Option, Some, None, Result, Ok, Err}
use Rattle.refusal.specs.declared.Refusal.{Refusal}
use Rattle.refusal.specs.declared.Refusal.TheVariants.{ImageEmpty, PastTop, Refused, Unbounded}
use Rattle.mos6502.specs.Class.{manual_class}
use Rattle.writes.specs.Writes.{manual_writes}
use Rattle.image.specs.Image.{branch_target}
use Rattle.cause.specs.declared.RefusalCause.{RefusalCause}
use Rattle.cause.specs.declared.RefusalCause.TheVariants.{IndirectIndexedY, RanOffEnd}
use Rattle.records.specs.declared.Fields.{Fields}
use Rattle.records.specs.Packed.{packed}
use Rattle.tracker.specs.Track.{tracked, value_in}
use Rattle.site.specs.declared.Reading.{Reading}
use Rattle.site.specs.declared.Reading.TheVariants.{Plain, Guarded}
use Rattle.span.specs.declared.Span.{Span}
use Rattle.span.specs.Given.{Answers}
use Rattle.diagnosis.specs.Answers as diagnosis
use Rattle.stores.specs.Answers as stores

pub data Case : Type 0 where
  spans : (image : List ℕ) (load : ℕ) (entries : List ℕ) → Reading → Result Span Refusal → Case
  branches : (next offset target : ℕ) → Case
  diagnoses : (image : List ℕ) (load : ℕ) (entries : List ℕ) → (low high count : ℕ) → (records : List Fields) → Case
  tracks : (code : List ℕ) (z : ℕ) → Option ℕ → Case
  storing : (image : List ℕ) (load : ℕ) (entries : List ℕ) → Result ℕ Refusal → (records : List ℕ) → Case

-- What a case claims. Diagnosis and stores write these records into every lent list that is long enough, and leave the slots after them; a refusal writes none.
abbrev pub Holds : Case → Type 0
Holds (spans image load entries reading answer) = Answers manual_class image load entries reading answer
Holds (branches next offset target) = branch_target next offset ≡ target
Holds (diagnoses image load entries low high count records) =
    (slots : List ℕ) → length records ≤ length slots
    → diagnosis.Answers manual_class image load entries slots (map packed records ++ drop (length records) slots)
    (Ok (record { low = low; high = high; count = count; records = length records }))
Holds (tracks code z known) = value_in (tracked code) z ≡ known
Holds (storing image load entries answer records) =
    (slots : List ℕ) → length records ≤ length slots
    → stores.Answers manual_class manual_writes image load entries slots (records ++ drop (length records) slots) answer

abbrev pub AllHold : List Case → Type 0
AllHold [] = Unit {0}
AllHold (c ∷ cases) = Holds c × AllHold cases

-- a span
abbrev pub from : (low high count : ℕ) → Result Span Refusal
from low high count = Ok (record { low = low; high = high; count = count })

-- a record of weight 1 without a pointer, and one with a pointer and both flags 0
abbrev pub bare : (address : ℕ) → RefusalCause → (opcode : ℕ) → Fields
bare address cause opcode =
    record { address = address; cause = cause; opcode = opcode; pointer = None; linear = false; walk = false; weight = 1 }

abbrev pub pointing : (address : ℕ) → RefusalCause → (opcode pointer : ℕ) → Fields
pointing address cause opcode pointer =
    record { address = address; cause = cause; opcode = opcode; pointer = Some pointer; linear = false; walk = false; weight = 1 }

abbrev pub starred : List Case
starred =
    spans [] 0xC000 [] Plain (Err ImageEmpty) ∷
    spans (0x60 ∷ 0x60 ∷ []) 0xFFFF (0xFFFF ∷ []) Plain (Err PastTop) ∷
    spans (0x60 ∷ []) 0xC000 (0xC000 ∷ []) Plain (from 0xC000 0xC000 1) ∷
    spans (0xEA ∷ []) 0xC000 (0xC000 ∷ []) Plain (Err Refused) ∷
    spans (0x20 ∷ 0x00 ∷ 0x10 ∷ []) 0xC000 (0xC000 ∷ []) Plain (Err Refused) ∷
    spans (0x4C ∷ 0x00 ∷ 0x10 ∷ []) 0xC000 (0xC000 ∷ []) Plain (from 0xC000 0xC002 1) ∷
    spans (0xBD ∷ 0x04 ∷ 0xC0 ∷ 0x60 ∷ 0x11 ∷ 0x22 ∷ 0x33 ∷ []) 0xC000 (0xC000 ∷ []) Plain (from 0xC000 0xC006 2) ∷
    spans (0xBD ∷ 0x07 ∷ 0xC0 ∷ 0x60 ∷ 0x11 ∷ 0x22 ∷ 0x33 ∷ []) 0xC000 (0xC000 ∷ []) Plain (from 0xC000 0xC003 2) ∷
    spans (0x11 ∷ 0x22 ∷ 0xBD ∷ 0xFF ∷ 0xBF ∷ 0x60 ∷ []) 0xC000 (0xC002 ∷ []) Plain (from 0xC002 0xC005 2) ∷
    spans (0x11 ∷ 0x22 ∷ 0xBD ∷ 0xFF ∷ 0xBF ∷ 0x60 ∷ []) 0xC000 (0xC002 ∷ []) Guarded (from 0xC000 0xC005 2) ∷
    spans (0xD0 ∷ 0xFE ∷ 0x60 ∷ []) 0xC000 (0xC000 ∷ []) Plain (from 0xC000 0xC002 2) ∷
    spans (0xD0 ∷ 0x7F ∷ 0x60 ∷ []) 0xC000 (0xC000 ∷ []) Plain (from 0xC000 0xC002 2) ∷
    branches 0x0002 0x80 0xFF82 ∷
    spans (0x10 ∷ 0x80 ∷ 0x60 ∷ []) 0x0000 (0x0000 ∷ []) Plain (from 0x0000 0x0002 2) ∷
    diagnoses (0xEA ∷ []) 0xC000 (0xC000 ∷ []) 0xC000 0xC000 1 (bare 0xC000 RanOffEnd 0xEA ∷ []) ∷
    diagnoses (0x91 ∷ 0xFF ∷ 0x60 ∷ []) 0xC000 (0xC000 ∷ []) 0xC000 0xC002 2 (pointing 0xC000 IndirectIndexedY 0x91 0xFF ∷ []) ∷
    diagnoses (0x91 ∷ 0xFB ∷ []) 0xC000 (0xC000 ∷ []) 0xC000 0xC001 1 (pointing 0xC000 IndirectIndexedY 0x91 0xFB ∷ bare 0xC000 RanOffEnd 0x91 ∷ []) ∷
    tracks (0x85 ∷ 0xFB ∷ 0x2C ∷ 0xA9 ∷ 0x01 ∷ 0x85 ∷ 0x10 ∷ []) 0x10 (Some 0x01) ∷
    tracks (0x85 ∷ 0xFB ∷ 0x2C ∷ 0xA9 ∷ 0x01 ∷ 0x85 ∷ 0x10 ∷ []) 0xFB None ∷
    storing (0x60 ∷ []) 0xC000 (0xC000 ∷ []) (Ok 0) [] ∷
    storing (0x4C ∷ 0x00 ∷ 0x10 ∷ []) 0xC000 (0xC000 ∷ []) (Err Refused) [] ∷
    storing (0x4C ∷ 0xE4 ∷ 0xFF ∷ []) 0xC000 (0xC000 ∷ []) (Ok 0) [] ∷
    storing (0xD0 ∷ 0x7F ∷ 0x60 ∷ []) 0xC000 (0xC000 ∷ []) (Err Refused) [] ∷
    storing (0x91 ∷ 0xFF ∷ 0x60 ∷ []) 0xC000 (0xC000 ∷ []) (Err Unbounded) [] ∷
    storing (0x9D ∷ 0xF0 ∷ 0xFF ∷ 0x60 ∷ []) 0xC000 (0xC000 ∷ []) (Ok 1) (0xFFF0FFFF ∷ []) ∷
    []
