-- What `diagnose_into` answers, and what it leaves in the two lent lists (01, "Numbered outcomes" and "The diagnosis"). Assumes nothing.
use Rattle.std.specs.Prelude.{◌≡◌, List, ℕ, length, take, drop, Result, Ok, Err}
use Rattle.refusal.specs.declared.Refusal.{Refusal}
use Rattle.mos6502.specs.declared.Decoded.{Decoded}
use Rattle.diagnosis.specs.declared.Summary.{Summary}
use Rattle.diagnosis.specs.Answers.{Answers}
use Rattle.refusals.specs.declared.ReachRefusal.{ReachRefusal}
use Rattle.refusals.specs.Refusals.{over}

-- how many records an answer has written
abbrev pub written_by : Result Summary Refusal → ℕ
written_by (Ok s) = s.records
written_by (Err r) = 0

module _ (class : ℕ → Decoded) (image : List ℕ) (load : ℕ) (entries : List ℕ) where
  -- what `diagnose` answers where it is lent the first `most` slots, or all where they are fewer; the other slots are as they were
  pub record AnswersFirst (most : ℕ) (slots slots' : List ℕ) (r : Result Summary Refusal) : Type 0 where
    pub first : Answers class image load entries (take most slots) (take most slots') r
    pub others : drop most slots' ≡ drop most slots

  -- The same, where as many slots are lent as there are structs: the answer is 6 where either list is too short. The records written stand in the first structs too,
  -- and the other structs are as they were.
  pub record AnswersInto (slots slots' : List ℕ) (refusals refusals' : List ReachRefusal) (r : Result Summary Refusal) : Type 0 where
    pub diagnosed : AnswersFirst (length refusals) slots slots' r
    pub structs : refusals' ≡ over (take (written_by r) slots') refusals
