-- The diagnosis into the first slots of a list: where all slots are lent none are left, and where a part is lent the others stand after it.
use mathlib.Core.Path.{◌≡◌, sym, ap₂, ◌∙◌}
use mathlib.Core.List.{List, ◌++◌}
use Prim.Native.Nat.{ℕ, ◌≤◌}
use native.Mathlib.Omega.{arith}
use lib.ListN.{length, take, drop, length-append, length-drop, take-append-drop, drop_of_length-le}
use lib.Seq.{take_all, take_at, drop_at}
use Rattle.mos6502.specs.declared.Decoded.{Decoded}
use Rattle.std.specs.Prelude.{Result}
use Rattle.refusal.specs.declared.Refusal.{Refusal}
use Rattle.diagnosis.specs.declared.Summary.{Summary}
use Rattle.diagnosis.specs.Answers.{Answers}
use Rattle.refusals.specs.Into.{AnswersFirst}

-- lists that agree before and after a place are equal
pub same_halves : (n : ℕ) (l m : List ℕ) → take n l ≡ take n m → drop n l ≡ drop n m → l ≡ m
same_halves n l m e f = sym (take-append-drop n l) ∙ ap₂ (λ (x y : List ℕ). x ++ y) e f ∙ take-append-drop n m

module _ (class : ℕ → Decoded) (image : List ℕ) (load : ℕ) (entries : List ℕ) (most : ℕ) (slots : List ℕ) (r : Result Summary Refusal) where
  pub lent_whole : (slots' : List ℕ) → length slots ≤ most → length slots' ≡ length slots → Answers class image load entries slots slots' r
      → AnswersFirst class image load entries most slots slots' r
  lent_whole slots' h e p =
      let h' : length slots' ≤ most = omega arith in
      record { first = rw (take_all most slots h, take_all most slots' h') p; others = drop_of_length-le slots' h' ∙ sym (drop_of_length-le slots h) }

  pub lent_part : (part : List ℕ) → most ≤ length slots → length (part ++ drop most slots) ≡ length slots → Answers class image load entries (take most slots) part r
      → AnswersFirst class image load entries most slots (part ++ drop most slots) r
  lent_part part h e p =
      let n : length part ≡ most = omega (arith, length-append part (drop most slots), length-drop most slots) in
      record { first = rw (take_at part (drop most slots) most n) p; others = drop_at part (drop most slots) most n }
