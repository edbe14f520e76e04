-- What a caller is told, by 01's numbers. `unpack_all`: 0 where the slice is long enough, else 6 and the number needed. `diagnose_into`: where the diagnosis finds its
-- records, 0 if both lists have room for them, and they stand in both; else 6 and their number. Whatever is refused leaves both lists as they were.
use mathlib.Core.Path.{◌≡◌, refl, sym, ap, ap₂, ◌∙◌}
use mathlib.Core.Logic.{◌⊎◌, inl, inr}
use mathlib.Core.List.{List, ◌++◌, append_assoc}
use Prim.Native.Nat.{ℕ, ◌≤◌, ◌<◌}
use native.Mathlib.Nat.{le_refl, le-min, min-le_left, min-le_right}
use native.Mathlib.Omega.{arith}
use lib.ListN.{length, take, drop, length-take, take-append-drop}
use lib.Seq.{take-append_seam, drop-append-le}
use Rattle.mos6502.specs.declared.Decoded.{Decoded}
use Rattle.reach.proofs.Ends.{never_full}
use Rattle.std.specs.Prelude.{Result, Ok, Err}
use Rattle.refusal.specs.declared.Refusal.{Refusal}
use Rattle.refusal.specs.declared.Refusal.TheVariants.{ImageEmpty, NoEntries, PastTop, Refused, Unbounded, Short, Full}
use Rattle.refusal.specs.Numbers.{number, needed, number_of}
use Rattle.diagnosis.specs.declared.Summary.{Summary}
use Rattle.diagnosis.specs.Answers.{values_of}
use Rattle.diagnosis.specs.Answers.{Finds}
use Rattle.diagnosis.proofs.Unique.{finds_unique}
use Rattle.refusals.specs.declared.ReachRefusal.{ReachRefusal}
use Rattle.refusals.specs.Refusals.{over, count_of, needed_of, Unpacks}
use Rattle.refusals.specs.Into.{AnswersInto}
use Rattle.refusals.proofs.First.{same_halves}
use Rattle.refusals.proofs.Unique.{into_unique}

-- ── `unpack_all` ──
module _ (packed : List ℕ) (out out' : List ReachRefusal) where
  pub unpacked_told : length packed ≤ length out → (r : Result ℕ Refusal) → Unpacks packed out out' r → (number_of r ≡ 0) × (count_of r ≡ length packed) × (needed_of r ≡ 0)
  unpacked_told h (Ok n) p = (refl, p.0, refl)
  unpacked_told h (Err r) p = absurd (omega arith)

  pub short_told : length out < length packed → (r : Result ℕ Refusal) → Unpacks packed out out' r → (number_of r ≡ 6) × (count_of r ≡ 0) × (needed_of r ≡ length packed)
  short_told h (Ok n) p = absurd (omega arith)
  short_told h (Err r) p = (ap number p.0, refl, ap needed p.0)

-- ── `diagnose_into` ──
module _ (class : ℕ → Decoded) (image : List ℕ) (load : ℕ) (entries : List ℕ) (slots slots' : List ℕ) (refusals refusals' : List ReachRefusal) where
  abbrev k : ℕ
  k = length refusals

  pub refusal_leaves : (r : Result Summary Refusal) → AnswersInto class image load entries slots slots' refusals refusals' r → ¬ (number_of r ≡ 0)
      → (slots' ≡ slots) × (refusals' ≡ refusals)
  refusal_leaves (Ok s) p h = absurd (h refl)
  refusal_leaves (Err ImageEmpty) p h = (same_halves k slots' slots p.diagnosed.first.1 p.diagnosed.others, p.structs)
  refusal_leaves (Err NoEntries) p h = (same_halves k slots' slots p.diagnosed.first.2 p.diagnosed.others, p.structs)
  refusal_leaves (Err PastTop) p h = (same_halves k slots' slots p.diagnosed.first.3 p.diagnosed.others, p.structs)
  refusal_leaves (Err Refused) p h = absurd p.diagnosed.first
  refusal_leaves (Err Unbounded) p h = absurd p.diagnosed.first
  refusal_leaves (Err (Short needed)) p h = (same_halves k slots' slots p.diagnosed.first.4 p.diagnosed.others, p.structs)
  refusal_leaves (Err Full) p h = (same_halves k slots' slots p.diagnosed.first.2 p.diagnosed.others, p.structs)

  module _ (records : List ℕ) (f : Finds class image load entries records) where
    fewer : (length slots < length records) ⊎ (k < length records) → length (take k slots) < length records
    fewer (inl h) = omega (arith, length-take k slots, min-le_right k (length slots))
    fewer (inr h) = omega (arith, length-take k slots, min-le_left k (length slots))

    -- the answer where either list is too short
    short : (length slots < length records) ⊎ (k < length records) → AnswersInto class image load entries slots slots refusals refusals (Err (Short (length records)))
    short h = record { diagnosed = record { first = (records, f, refl, fewer h, refl); others = refl }; structs = refl }

    pub too_short : (length slots < length records) ⊎ (k < length records) → (r : Result Summary Refusal) → AnswersInto class image load entries slots slots' refusals refusals' r
        → (number_of r ≡ 6) × ((values_of r).records ≡ length records) × (slots' ≡ slots) × (refusals' ≡ refusals)
    too_short h r p =
        let u = into_unique class image load entries slots slots' slots refusals refusals' refusals r (Err (Short (length records))) p (short h) in
        (ap number_of u.0, ap (λ (a : Result Summary Refusal). (values_of a).records) u.0, u.1, u.2)

    -- both lists have room
    enough : length records ≤ length slots → length records ≤ k → length records ≤ length (take k slots)
    enough h h' = omega (arith, length-take k slots, le-min h' h)

    written : {records' : List ℕ} → records' ≡ records → length records ≤ length (take k slots) → take k slots' ≡ records' ++ drop (length records') (take k slots)
        → drop k slots' ≡ drop k slots → slots' ≡ records ++ drop (length records) slots
    written e h after others =
        sym (take-append-drop k slots') ∙ ap₂ (λ (x y : List ℕ). x ++ y) (rw e at after) others
        ∙ append_assoc records (drop (length records) (take k slots)) (drop k slots)
        ∙ ap (λ (l : List ℕ). records ++ l) (sym (drop-append-le (length records) (take k slots) (drop k slots) h) ∙ ap (drop (length records)) (take-append-drop k slots))

    pub both_given : length records ≤ length slots → length records ≤ k → (r : Result Summary Refusal) → AnswersInto class image load entries slots slots' refusals refusals' r
        → (number_of r ≡ 0) × (slots' ≡ records ++ drop (length records) slots) × (refusals' ≡ over records refusals)
    both_given h h' (Ok s) p =
        let d = p.diagnosed.first in
        let e = finds_unique class image load entries d.1 f in
        let w = written e (enough h h') d.5 p.diagnosed.others in
        let n : s.records ≡ length records = d.3 ∙ ap length e in
        let front : take s.records slots' ≡ records = rw (n, w) (take-append_seam records (drop (length records) slots)) in
        (refl, w, p.structs ∙ ap (λ (l : List ℕ). over l refusals) front)
    both_given h h' (Err (Short needed)) p =
        let d = p.diagnosed.first in absurd (omega (arith, d.2, d.3, ap length (finds_unique class image load entries d.1 f), enough h h'))
    both_given h h' (Err Refused) p = absurd p.diagnosed.first
    both_given h h' (Err Unbounded) p = absurd p.diagnosed.first
    both_given h h' (Err ImageEmpty) p = absurd (omega (arith, f.ready))
    both_given h h' (Err NoEntries) p = absurd (omega (arith, f.ready))
    both_given h h' (Err PastTop) p = absurd (omega (arith, f.ready))
    both_given h h' (Err Full) p = let d = p.diagnosed.first.1 in absurd (never_full entries (le_refl 4096) d.2 d.0 refl)
