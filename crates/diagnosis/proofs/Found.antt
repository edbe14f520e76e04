-- What the code learns of its callees is the answer. The map with the outside entries has just the addresses concerned; those of its members that are inside are the
-- addresses met.
use mathlib.Core.Path.{◌≡◌, refl}
use mathlib.Core.Logic.{◌↔◌, ◌⊎◌, inl, inr, ⊎_elim}
use mathlib.Core.Bool.{false, not}
use mathlib.Core.List.{List}
use Prim.Native.Nat.{ℕ, suc, ◌-◌, ◌<◌}
use native.Mathlib.Omega.{arith}
use lib.Dec.{T}
use Rattle.lists.specs.Lists.{◌∈◌, elem, scan}
use Rattle.lists.proofs.Tests.{clash, and_left, and_right, and_both, or_cases, or_left, or_right, not_passed, not_pass}
use Rattle.lists.proofs.Sets.{elem_mem, mem_elem}
use Rattle.lists.proofs.Scan.{scan_only, scan_all, scan_ascending}
use Rattle.mos6502.specs.Class.{manual_class}
use Rattle.image.specs.Image.{last, inside}
use Rattle.image.proofs.Inside.{inside_yes}
use Rattle.address_set.specs.Map.{has}
use Rattle.opening.specs.Opening.{Ready}
use Rattle.walk.specs.declared.End.{End}
use Rattle.walk.specs.declared.Rule.TheVariants.{Diagnosis}
use Rattle.walk.specs.Walked.{as_end, Walked}
use Rattle.walk.proofs.Members.{met_inside}
use Rattle.reach.specs.Walk.{full}
use Rattle.recorder.specs.Recorded.{undecoded_of, pairs_over, Concerns}
use Rattle.recorder.specs.Records.{records_of}
use Rattle.weights.specs.Weights.{Weighs}
use Rattle.diagnosis.specs.Steps.{is_outside, Added}
use Rattle.diagnosis.specs.Answers.{Finds}

module _ (image : List ℕ) (load : ℕ) (entries : List ℕ) (ready : Ready image load entries) {e : End} {map map' : List ℕ}
    (w : Walked Diagnosis image load (last image load) entries e map) (added : Added load (last image load) entries map map')
    (words : (a : ℕ) → a ∈ entries → a < 65536) where
  top : last image load < 65536
  top = omega (arith, ready.top)

  -- a member was met, or is an outside entry
  member : (a : ℕ) → T (has map' a) ↔ ((a ∈ w.met) ⊎ ((a ∈ entries) × (inside load (last image load) a ≡ false)))
  member a = (
    λ t. ⊎_elim (λ h. inl (elem_mem a w.met (rw (w.exact a) at h)))
        (λ o. inr (elem_mem a entries (and_left (elem a entries) _ o), not_passed (inside load (last image load) a) (and_right (elem a entries) _ o)))
        (or_cases (has map a) (is_outside load (last image load) entries a) (rw (added.each a) at t)),
    λ k. rw (added.each a) (⊎_elim (λ m. or_left (has map a) (is_outside load (last image load) entries a) (rw (w.exact a) (mem_elem m)))
        (λ o. or_right (has map a) (is_outside load (last image load) entries a) (and_both (elem a entries) (not (inside load (last image load) a)) (mem_elem o.0) (not_pass o.1))) k),
  )

  pub concerned : Concerns load (last image load) entries w.met (scan (has map') 0 65536)
  concerned =
      record {
        ascending = scan_ascending (has map') 0 65536;
        exact = λ a. (
          λ k. (member a).0 (scan_only (has map') 0 65536 k).test,
          λ k. scan_all (has map') 0 65536
              (record { low = omega arith; high = ⊎_elim (λ m. omega (arith, met_inside w top a m, top)) (λ o. omega (arith, words a o.0)) k; test = (member a).1 k }),
        );
      }

  -- the members inside are the addresses met
  pub met_order : (a : ℕ) → (a ∈ scan (has map') load (suc (last image load) - load) → a ∈ w.met) × (a ∈ w.met → a ∈ scan (has map') load (suc (last image load) - load))
  met_order a = (
    λ k.
        let s = scan_only (has map') load (suc (last image load) - load) k in
        ⊎_elim (λ m. m) (λ o. absurd (clash (inside_yes load (last image load) a s.low (omega (arith, s.high))) o.1)) ((member a).0 s.test),
    λ m.
        let i = met_inside w top a m in
        scan_all (has map') load (suc (last image load) - load) (record { low = i.0; high = omega arith; test = (member a).1 (inl m) }),
  )

  -- what is written is what is found
  unfoldable pub found : ((pc : ℕ) → as_end e ≡ full pc → ⊥) → {weight : ℕ → ℕ}
      → ((a : ℕ) → Weighs manual_class image load (last image load) a entries (weight a))
      → Finds manual_class image load entries
      (records_of manual_class image load (last image load) (scan (has map') load (suc (last image load) - load)) weight
      (pairs_over manual_class image load (last image load) (undecoded_of (as_end e)) (scan (has map') 0 65536)))
  found n {weight} v =
      record {
        ready = ready;
        end = as_end e;
        met = w.met;
        walk = w.walk;
        not_full = n;
        order = scan (has map') load (suc (last image load) - load);
        ascending = scan_ascending (has map') load (suc (last image load) - load);
        same = met_order;
        concerned = scan (has map') 0 65536;
        concerns = concerned;
        weight = weight;
        weighs = λ a k. v a;
        exact = refl;
      }
