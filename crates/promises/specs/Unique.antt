-- The statement of each public call determines its answer and all slots: two answers that meet it are equal (01, "How firm the promises are"). Assumes nothing.
use Rattle.std.specs.Prelude.{◌≡◌, List, ℕ}
use Rattle.mos6502.specs.Class.{manual_class}
use Rattle.writes.specs.Writes.{manual_writes}
use Rattle.site.specs.declared.Reading.TheVariants.{Plain, Guarded}
use Rattle.span.specs.Given as span
use Rattle.diagnosis.specs.Answers as diagnosis
use Rattle.stores.specs.Answers as stores

-- a statement that one answer meets
abbrev pub One : {A : Type 0} (Answers : A → Type 0) → Type 0
One {A} Answers = (r r' : A) → Answers r → Answers r' → r ≡ r'

-- the same with a lent list: one answer, and one list after the call
abbrev pub OneWith : {A : Type 0} (Answers : (slots slots' : List ℕ) → A → Type 0) → Type 0
OneWith {A} Answers = (slots slots' slots'' : List ℕ) (r r' : A) → Answers slots slots' r → Answers slots slots'' r' → (r ≡ r') × (slots' ≡ slots'')

-- each call, for every image, load address and entry list. (The tracker's contract is an equation.)
pub record Unique (image : List ℕ) (load : ℕ) (entries : List ℕ) : Type 0 where
  pub reachable_span : One (span.Answers manual_class image load entries Plain)
  pub reachable_end : One (span.EndAnswers manual_class image load entries)
  pub guarded_span : One (span.Answers manual_class image load entries Guarded)
  pub diagnose : OneWith (diagnosis.Answers manual_class image load entries)
  pub write_extent : OneWith (stores.Answers manual_class manual_writes image load entries)
