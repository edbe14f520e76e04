-- What a site does to a path, under the rule of the span, of the diagnosis or of the stores. Assumes nothing.
use Rattle.std.specs.Prelude.{Bool, true, false, cond, not, ◌&&◌, ◌||◌, ℕ, eqb, Option, Some, None}
use Rattle.mos6502.specs.declared.Flow.{Flow}
use Rattle.mos6502.specs.declared.Flow.TheVariants.{Next, Jump, Call, Branch, Stop, Refuse}
use Rattle.cause.specs.declared.RefusalCause.{RefusalCause}
use Rattle.cause.specs.declared.RefusalCause.TheVariants.{IllegalOpcode, Brk, JmpIndirect, IndirectIndexedY, IndirectIndexedX, OperandOffEnd, RanOffEnd, Budget, EntryOutside}
use Rattle.site.specs.declared.Causes.{Causes}
use Rattle.site.specs.declared.Causes.TheVariants.{Clear, One, Two}
use Rattle.site.specs.declared.Site.{Site}
use Rattle.reach.specs.Reach as reach
use Rattle.walk.specs.declared.Step.{Step}
use Rattle.walk.specs.declared.Step.TheVariants.{Ends, Refuses, Goes, Forks}
use Rattle.walk.specs.declared.Rule.{Rule}
use Rattle.walk.specs.declared.Rule.TheVariants.{Span, Diagnosis, Stores}

-- ── where control goes on ──
abbrev pub goes_to : Option ℕ → Step
goes_to (Some a) = Goes a
goes_to None = Ends

-- on at the next address, with a target put by that is inside
abbrev pub forks_to : (inside : ℕ → Bool) → (next target : Option ℕ) → Step
forks_to inside (Some n) (Some t) = cond (inside t) (Forks n t) (Goes n)
forks_to inside (Some n) None = Goes n
forks_to inside None target = Ends

abbrev pub follow : (inside : ℕ → Bool) → Flow → (next target : Option ℕ) → Step
follow inside Next next target = goes_to next
follow inside Jump next target = goes_to target
follow inside Call next target = forks_to inside next target
follow inside Branch next target = forks_to inside next target
follow inside Stop next target = Ends
follow inside Refuse next target = Ends

-- ── which causes stop a path ──
abbrev pub is_clear : Causes → Bool
is_clear Clear = true
is_clear (One c) = false
is_clear (Two c d) = false

-- (zp),Y and (zp,X), past which the diagnosis and the stores go on
abbrev pub is_pointer : RefusalCause → Bool
is_pointer IndirectIndexedY = true
is_pointer IndirectIndexedX = true
is_pointer IllegalOpcode = false
is_pointer Brk = false
is_pointer JmpIndirect = false
is_pointer OperandOffEnd = false
is_pointer RanOffEnd = false
is_pointer Budget = false
is_pointer EntryOutside = false

abbrev pub is_passable : Causes → Bool
is_passable Clear = true
is_passable (One c) = is_pointer c
is_passable (Two c d) = is_pointer c && is_pointer d

-- ── control that leaves the image ──
-- the ROM calls that write none of the user's memory
abbrev pub is_accepted : ℕ → Bool
is_accepted t = eqb t 0xFFE1 || eqb t 0xFFE4

abbrev pub is_outside : (inside : ℕ → Bool) → Option ℕ → Bool
is_outside inside (Some t) = not (inside t)
is_outside inside None = false

abbrev pub is_lost : (inside : ℕ → Bool) → Option ℕ → Bool
is_lost inside (Some t) = not (inside t) && not (is_accepted t)
is_lost inside None = false

-- a branch out leaves, and so do JMP and JSR to anywhere outside but the two accepted calls
abbrev pub leaves : (inside : ℕ → Bool) → Flow → (target : Option ℕ) → Bool
leaves inside Jump target = is_lost inside target
leaves inside Call target = is_lost inside target
leaves inside Branch target = is_outside inside target
leaves inside Next target = false
leaves inside Stop target = false
leaves inside Refuse target = false

-- ── the step ──
-- Which sites a rule passes. Span: those without a cause. Diagnosis: those with no cause but the two of a pointer. Stores: of these, those from which control
-- does not leave.
abbrev pub accepts : Rule → (inside : ℕ → Bool) → Site → Bool
accepts Span inside s = is_clear s.causes
accepts Diagnosis inside s = is_passable s.causes
accepts Stores inside s = is_passable s.causes && not (leaves inside s.flow s.target)

-- A call whose next address is past last still has its target: the original puts that by before it looks for the next address. Any other path ends.
abbrev pub calls : Flow → (target : Option ℕ) → Step
calls Call target = goes_to target
calls Next target = Ends
calls Jump target = Ends
calls Branch target = Ends
calls Stop target = Ends
calls Refuse target = Ends

-- at any other site the diagnosis ends the path, but for a call's target, and span and stores are refused
abbrev pub otherwise : Rule → Flow → (target : Option ℕ) → Step
otherwise Span flow target = Refuses
otherwise Diagnosis flow target = calls flow target
otherwise Stores flow target = Refuses

unfoldable pub step_by : Rule → (inside : ℕ → Bool) → Site → Step
step_by rule inside s = cond (accepts rule inside s) (follow inside s.flow s.next s.target) (otherwise rule s.flow s.target)

-- the code's step as that of the theory
abbrev pub as_step : Step → reach.Step
as_step Ends = reach.ends
as_step Refuses = reach.refuses
as_step (Goes n) = reach.goes n
as_step (Forks n t) = reach.forks n t
