-- The map that a walk leaves: its members are the addresses met, they all lie inside, and there are as many of them.
use mathlib.Core.Path.{◌≡◌}
use mathlib.Core.Logic.{◌↔◌}
use mathlib.Core.List.{List}
use Prim.Native.Nat.{ℕ, suc, ◌-◌, ◌≤◌, ◌<◌}
use native.Mathlib.Omega.{arith}
use lib.Dec.{T}
use lib.ListN.{length}
use Rattle.lists.specs.Lists.{◌∈◌, elem, scan}
use Rattle.lists.proofs.Tests.{pass}
use Rattle.lists.proofs.Sets.{elem_mem, mem_elem, fewer, ascending_distinct}
use Rattle.lists.proofs.Scan.{scan_only, scan_all}
use Rattle.mos6502.specs.declared.Decoded.{Decoded}
use Rattle.mos6502.specs.Class.{manual_class}
use Rattle.image.specs.Image.{inside}
use Rattle.image.proofs.Inside.{inside_bounds}
use Rattle.address_set.specs.Map.{has, members, Within}
use Rattle.address_set.proofs.Laws.{members_mem, members_ascending}
use Rattle.reach.specs.Walk as machine
use Rattle.reach.proofs.Sound.{sound}
use Rattle.reach.proofs.Finite.{reach_inside}
use Rattle.walk.specs.declared.End.{End}
use Rattle.walk.specs.declared.Rule.{Rule}
use Rattle.walk.specs.Walked.{Walk, ordered, Walked}

-- what a walk meets lies inside
pub walk_inside : (class : ℕ → Decoded) (rule : Rule) (image : List ℕ) (load last : ℕ) (entries : List ℕ) {e : machine.End} {met : List ℕ}
    → Walk class rule image load last entries e met → (a : ℕ) → a ∈ met → (load ≤ a) × (a ≤ last)
walk_inside class rule image load last entries w a k = inside_bounds load last a (pass (inside load last a) (reach_inside ((sound entries w).found.reached a k)))

-- the ascending list of what it meets has just that
pub ordered_met : (class : ℕ → Decoded) (rule : Rule) (image : List ℕ) (load last : ℕ) (entries : List ℕ) {e : machine.End} {met : List ℕ}
    → Walk class rule image load last entries e met → (a : ℕ) → a ∈ ordered load last met ↔ a ∈ met
ordered_met class rule image load last entries {met = met} w a = (
  λ k. elem_mem a met (scan_only (λ b. elem b met) load (suc last - load) k).test,
  λ k.
      let i = walk_inside class rule image load last entries w a k in
      scan_all (λ b. elem b met) load (suc last - load) (record { low = i.0; high = omega arith; test = mem_elem k }),
)

module _ {rule : Rule} {image : List ℕ} {load last : ℕ} {entries : List ℕ} {e : End} {map : List ℕ}
    (w : Walked rule image load last entries e map) (top : last < 65536) where
  pub met_inside : (a : ℕ) → a ∈ w.met → (load ≤ a) × (a ≤ last)
  met_inside a k = walk_inside manual_class rule image load last entries w.walk a k

  has_met : (a : ℕ) → T (has map a) ↔ a ∈ w.met
  has_met a = (λ t. elem_mem a w.met (rw (w.exact a) at t), λ k. rw (w.exact a) (mem_elem k))

  pub met_within : Within load last map
  met_within = record { each = λ a t. met_inside a ((has_met a).0 t) }

  pub met_members : (a : ℕ) → a ∈ members map ↔ a ∈ w.met
  met_members a = (
    λ k. (has_met a).0 ((members_mem map a).0 k).1,
    λ k. (members_mem map a).1 (omega (arith, met_inside a k), (has_met a).1 k),
  )

  pub met_scan : (a : ℕ) → a ∈ scan (has map) load (suc last - load) ↔ a ∈ w.met
  met_scan a = (
    λ k. (has_met a).0 (scan_only (has map) load (suc last - load) k).test,
    λ k.
        let i = met_inside a k in
        scan_all (has map) load (suc last - load) (record { low = i.0; high = omega arith; test = (has_met a).1 k }),
  )

  pub met_count : length (members map) ≡ length w.met
  met_count =
      omega (
        arith,
        fewer (members map) w.met (ascending_distinct (members map) (members_ascending map)) (λ a. (met_members a).0),
        fewer w.met (members map) (sound entries w.walk).found.distinct (λ a. (met_members a).1),
      )
