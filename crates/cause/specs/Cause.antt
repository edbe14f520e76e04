-- The causes of refusal: their numbers and slugs (01, "The diagnosis"). Assumes nothing.
use Rattle.std.specs.Prelude.{◌≡◌, List, [], ◌∷◌, ℕ, ◌+◌, ◌*◌, ◌<◌, get_or, Result, MatchResult}
use Rattle.lists.specs.Text.{ascii}
use Rattle.cause.specs.declared.UnknownCause.{UnknownCause}
use Rattle.cause.specs.declared.RefusalCause.{RefusalCause}
use Rattle.cause.specs.declared.RefusalCause.TheVariants.{IllegalOpcode, Brk, JmpIndirect, IndirectIndexedY, IndirectIndexedX, OperandOffEnd, RanOffEnd, Budget, EntryOutside}

abbrev pub number_of : RefusalCause → ℕ
number_of IllegalOpcode = 0
number_of Brk = 1
number_of JmpIndirect = 2
number_of IndirectIndexedY = 3
number_of IndirectIndexedX = 4
number_of OperandOffEnd = 5
number_of RanOffEnd = 6
number_of Budget = 7
number_of EntryOutside = 8

-- the causes by their numbers, up to the last, which stands for every number past them
abbrev pub causes : List RefusalCause
causes = IllegalOpcode ∷ Brk ∷ JmpIndirect ∷ IndirectIndexedY ∷ IndirectIndexedX ∷ OperandOffEnd ∷ RanOffEnd ∷ Budget ∷ []

abbrev pub cause_at : ℕ → RefusalCause
cause_at n = get_or causes n EntryOutside

-- the slug's bytes
abbrev pub slug_of : RefusalCause → List ℕ
slug_of IllegalOpcode = ascii "illegal-opcode"
slug_of Brk = ascii "brk"
slug_of JmpIndirect = ascii "jmp-indirect"
slug_of IndirectIndexedY = ascii "indirect-y"
slug_of IndirectIndexedX = ascii "indirect-x"
slug_of OperandOffEnd = ascii "operand-off-end"
slug_of RanOffEnd = ascii "ran-off-end"
slug_of Budget = ascii "budget"
slug_of EntryOutside = ascii "entry-outside"

-- r is the cause with this number, or the number back where no cause has it
abbrev pub NamedBy : ℕ → Result RefusalCause UnknownCause → Type 0
NamedBy n r = MatchResult r (λ c. number_of c ≡ n) (λ e. (e.0 ≡ n) × (8 < n))

-- records go by address, then cause
abbrev pub key_of : RefusalCause → (address : ℕ) → ℕ
key_of cause address = address * 256 + number_of cause
