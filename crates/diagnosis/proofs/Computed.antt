-- The computed records and summary meet the statement, where all entries are inside and every walk ends within the turns that are taken: then the addresses met are
-- all that is recorded.
use mathlib.Core.Path.{◌≡◌, refl}
use mathlib.Core.Logic.{◌↔◌, inl, ⊎_elim}
use mathlib.Core.Bool.{Bool, true, false, cond}
use mathlib.Core.List.{List, [], ◌∷◌, ◌++◌}
use Prim.Native.Nat.{ℕ, suc, ◌-◌, ◌≤◌}
use lib.Dec.{T}
use lib.ListN.{length, drop}
use Rattle.std.specs.Prelude.{Ok}
use Rattle.lists.specs.Lists.{◌∈◌, elem}
use Rattle.lists.proofs.Tests.{pass, clash}
use Rattle.lists.proofs.Scan.{scan_ascending}
use Rattle.mos6502.specs.declared.Decoded.{Decoded}
use Rattle.image.specs.Image.{last, inside}
use Rattle.opening.specs.Opening.{Ready}
use Rattle.reach.specs.Walk.{End, full, Turn, turns, halts}
use Rattle.reach.proofs.Turn.{after_runs}
use Rattle.walk.specs.declared.Rule.TheVariants.{Diagnosis}
use Rattle.walk.specs.Walked.{Walk, ordered}
use Rattle.walk.proofs.Members.{ordered_met}
use Rattle.span.proofs.Computed.{Ended}
use Rattle.recorder.specs.Recorded.{Concerns}
use Rattle.weights.specs.Weights.{records_alone, Weighs, none, counts, passes}
use Rattle.diagnosis.specs.Answers.{Answers}
use Rattle.diagnosis.specs.Computed.{turns_of, records_by, weight_after, records_from, summary_from}
use Rattle.diagnosis.proofs.Measured.{measured}

module _ (class : ℕ → Decoded) (image : List ℕ) (load : ℕ) where
  -- the walk of each entry alone has ended
  abbrev pub AllEnd : (n : ℕ) → List ℕ → Type 0
  AllEnd n [] = Unit {0}
  AllEnd n (entry ∷ entries) = Ended (turns_of class image load (entry ∷ []) n) × AllEnd n entries

  weighs : (n : ℕ) (entries : List ℕ) → AllEnd n entries → (a : ℕ) → Weighs class image load (last image load) a entries (weight_after class image load n entries a)
  unfolding weight_after
  weighs n [] d a = none
  weighs n (entry ∷ entries) d a = by_turn (turns_of class image load (entry ∷ []) n) refl d.0 (weighs n entries d.1 a)
    where
      by_test : {e : End} {met : List ℕ} {k : ℕ} → Walk class Diagnosis image load (last image load) (entry ∷ []) e met
          → (b : Bool) → records_alone class image load (last image load) entry e met a ≡ b → Weighs class image load (last image load) a entries k
          → Weighs class image load (last image load) a (entry ∷ entries) (cond b (suc k) k)
      by_test w true q r = counts w q r
      by_test w false q r = passes w q r

      by_turn : {k : ℕ} (t : Turn) → turns_of class image load (entry ∷ []) n ≡ t → Ended t → Weighs class image load (last image load) a entries k
          → Weighs class image load (last image load) a (entry ∷ entries) (cond (records_by class image load entry t a) (suc k) k)
      by_turn (halts e met) q x r = by_test (after_runs n q) (records_alone class image load (last image load) entry e met a) refl r
      by_turn (turns s) q x r = absurd x

  module _ (entries : List ℕ) (n : ℕ) {e : End} {met : List ℕ} (ready : Ready image load entries)
      (within : (a : ℕ) → a ∈ entries → T (inside load (last image load) a)) (w : Walk class Diagnosis image load (last image load) entries e met) where
    same : (a : ℕ) → a ∈ ordered load (last image load) met ↔ a ∈ met
    same = ordered_met class Diagnosis image load (last image load) entries w

    concerns : Concerns load (last image load) entries met (ordered load (last image load) met)
    concerns =
        record {
          ascending = scan_ascending (λ b. elem b met) load (suc (last image load) - load);
          exact = λ a. (
            λ k. inl ((same a).0 k),
            λ k. ⊎_elim (λ m. (same a).1 m) (λ o. absurd (clash (pass _ (within a o.0)) o.1)) k,
          );
        }

    pub computed : ((pc : ℕ) → e ≡ full pc → ⊥) → AllEnd n entries → (slots : List ℕ) → length (records_from class image load entries n e met) ≤ length slots
        → Answers class image load entries slots
        (records_from class image load entries n e met ++ drop (length (records_from class image load entries n e met)) slots)
        (Ok (summary_from class image load entries n e met))
    computed f d slots h = (
      records_from class image load entries n e met,
      record {
        ready = ready;
        end = e;
        met = met;
        walk = w;
        not_full = f;
        order = ordered load (last image load) met;
        ascending = scan_ascending (λ b. elem b met) load (suc (last image load) - load);
        same = same;
        concerned = ordered load (last image load) met;
        concerns = concerns;
        weight = weight_after class image load n entries;
        weighs = λ a k. weighs n entries d a;
        exact = refl;
      },
      measured class image load entries ready w (ordered load (last image load) met) same refl refl,
      refl,
      h,
      refl,
    )
