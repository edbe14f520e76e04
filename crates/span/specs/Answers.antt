-- 01's values for each answer; a refusal's values are 0. Assumes nothing.
use Rattle.std.specs.Prelude.{ℕ, Result, Ok, Err}
use Rattle.refusal.specs.declared.Refusal.{Refusal}
use Rattle.span.specs.declared.Span.{Span}

-- low, high and the number of reachable instructions
abbrev pub values_of : Result Span Refusal → Span
values_of (Ok s) = s
values_of (Err _) = record { low = 0; high = 0; count = 0 }

-- the span's end
abbrev pub end_value_of : Result ℕ Refusal → ℕ
end_value_of (Ok high) = high
end_value_of (Err _) = 0

-- `reachable_end` gives high, and refuses as the span does
abbrev pub end_of : Result Span Refusal → Result ℕ Refusal
end_of (Ok s) = Ok s.high
end_of (Err why) = Err why
