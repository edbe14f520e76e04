-- The same answer and records, computed: turn by turn, then over the list of what was met. For worked examples. Assumes nothing.
use Rattle.std.specs.Prelude.{cond, List, [], ℕ, length, Result, Ok, Err}
use Rattle.refusal.specs.declared.Refusal.{Refusal}
use Rattle.refusal.specs.declared.Refusal.TheVariants.{Refused, Unbounded, Full}
use Rattle.mos6502.specs.declared.Decoded.{Decoded}
use Rattle.writes.specs.declared.Wr.{Wr}
use Rattle.image.specs.Image.{last, inside}
use Rattle.reach.specs.Walk.{End, finished, refused, spent, full, Turn, start, after}
use Rattle.walk.specs.declared.Rule.TheVariants as rule
use Rattle.walk.specs.Walked.{limit, step_in, ordered}
use Rattle.stores.specs.Answers.{is_unbounded, records_in}

module _ (class : ℕ → Decoded) (writes : ℕ → Wr) (image : List ℕ) (load : ℕ) (entries : List ℕ) where
  -- the first n turns
  abbrev pub turns_of : (n : ℕ) → Turn
  turns_of n = after (step_in class rule.Stores image load (last image load)) (inside load (last image load)) limit limit n (start entries)

  -- how the walk's end is answered into a list that is long enough, where it met these
  abbrev pub answer_of : End → (met : List ℕ) → Result ℕ Refusal
  answer_of finished met =
      let l = ordered load (last image load) met in
      cond (is_unbounded class writes image load entries l) (Err Unbounded) (Ok (length (records_in class writes image load entries l)))
  answer_of (refused pc) met = Err Refused
  answer_of (spent pc) met = Err Refused
  answer_of (full pc) met = Err Full

  -- and the records that are written
  abbrev pub records_from : End → (met : List ℕ) → List ℕ
  records_from finished met =
      let l = ordered load (last image load) met in
      cond (is_unbounded class writes image load entries l) [] (records_in class writes image load entries l)
  records_from (refused pc) met = []
  records_from (spent pc) met = []
  records_from (full pc) met = []
