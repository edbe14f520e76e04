-- From a walk's end to what is possible: exactness, at the step of a rule that refuses what it does not pass. A walk that finishes shows that it is possible, with what
-- was met as the reachable instructions; one that does not finish shows that it is not; and no walk is full.
use mathlib.Core.Path.{◌≡◌, refl}
use mathlib.Core.Logic.{◌↔◌, ◌≢◌}
use mathlib.Core.List.{List}
use Prim.Native.Nat.{ℕ, suc, ◌-◌}
use native.Mathlib.Nat.{le_refl}
use native.Mathlib.Omega.{arith}
use lib.ListN.{length}
use Rattle.lists.specs.Lists.{◌∈◌, elem}
use Rattle.lists.proofs.Sets.{ascending_unique}
use Rattle.lists.proofs.Scan.{scan_ascending}
use Rattle.mos6502.specs.declared.Decoded.{Decoded}
use Rattle.image.specs.Image.{last}
use Rattle.opening.specs.Opening.{Ready}
use Rattle.reach.specs.Walk.{End, finished, refused, spent}
use Rattle.reach.proofs.Ends.{never_full}
use Rattle.reach.proofs.Exact.{Fits, finished_iff, finished_list, finished_count, finished_exact}
use Rattle.walk.specs.declared.Rule.{Rule}
use Rattle.walk.specs.Walked.{limit, step_in, Walk, ordered}
use Rattle.walk.specs.Possible.{EntriesInside, Possible, RunsFull}
use Rattle.walk.proofs.Members.{ordered_met}
use Rattle.walk.proofs.Rules.{Strict, accepted_goes_on, goes_on_accepted}

pub refused≢finished : {pc : ℕ} → refused pc ≢ finished
refused≢finished e = let z : ◌≡◌ {A = ℕ} 0 1 = cc in omega arith

pub spent≢finished : {pc : ℕ} → spent pc ≢ finished
spent≢finished e = let z : ◌≡◌ {A = ℕ} 0 1 = cc in omega arith

module _ (class : ℕ → Decoded) (rule : Rule) (image : List ℕ) (load : ℕ) (entries : List ℕ) where
  pub not_full : ¬ RunsFull class rule image load entries
  not_full f = never_full entries (le_refl 4096) f.1.2 f.1.0 refl

  abbrev Walks : End → List ℕ → Type 0
  Walks e met = Walk class rule image load (last image load) entries e met

  fitting : {l : List ℕ} → Possible class rule image load entries l → Fits (step_in class rule image load (last image load)) limit l
  fitting p = record { small = p.few; fine = λ a k. accepted_goes_on class image load (last image load) a rule (p.accepted a k) }

  pub unfinished : {e : End} {met : List ℕ} → Walks e met → e ≢ finished → ¬ ((l : List ℕ) × Possible class rule image load entries l)
  unfinished w n d = n ((finished_iff entries w (never_full entries (le_refl limit) w) d.1.reachable).1 (fitting d.1))

  -- what a finished walk shows: the list of the reachable instructions, which are those that were met
  pub record Finished (met : List ℕ) : Type 0 where
    pub list : List ℕ
    pub possible : Possible class rule image load entries list
    pub exact : (a : ℕ) → a ∈ list ↔ a ∈ met
    pub count : length met ≡ length list

  pub finishes : Strict rule → Ready image load entries → EntriesInside class rule image load entries → {met : List ℕ} → Walks finished met → Finished met
  finishes strict ready within w =
      let l = finished_list entries w in
      let f = (finished_iff entries w (never_full entries (le_refl limit) w) l.1).0 refl in
      record {
        list = l.0;
        possible =
            record {
              ready = ready;
              entries_inside = within;
              reachable = l.1;
              few = f.small;
              accepted = λ a k. goes_on_accepted class image load (last image load) a rule strict (f.fine a k);
            };
        exact = λ a. (λ k. (finished_exact entries w a).1 ((l.1.exact a).0 k), λ k. (l.1.exact a).1 ((finished_exact entries w a).0 k));
        count = finished_count entries w l.1;
      }

  -- and they are what was met, ascending
  pub in_order : {met : List ℕ} → Walks finished met → (f : Finished met) → f.list ≡ ordered load (last image load) met
  in_order {met} w f =
      let o = ordered_met class rule image load (last image load) entries w in
      ascending_unique f.list (ordered load (last image load) met) f.possible.reachable.ascending
      (scan_ascending (λ b. elem b met) load (suc (last image load) - load)) (λ a k. (o a).1 ((f.exact a).0 k)) (λ a k. (f.exact a).1 ((o a).0 k))
