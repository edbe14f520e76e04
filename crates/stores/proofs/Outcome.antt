-- What the code learns of its callees is the answer: the entries' test, the walk, and what was gathered over its map.
use mathlib.Core.Path.{◌≡◌, refl, sym, ap, ◌∙◌}
use mathlib.Core.Logic.{◌≢◌}
use mathlib.Core.Bool.{true, false}
use mathlib.Core.List.{List, ◌++◌}
use Prim.Native.Nat.{ℕ, suc, ◌-◌, ◌≤◌, ◌<◌}
use lib.ListN.{length, drop}
use Rattle.std.specs.Prelude.{Result, Ok, Err}
use Rattle.refusal.specs.declared.Refusal.{Refusal}
use Rattle.refusal.specs.declared.Refusal.TheVariants.{Refused, Short, Full}
use Rattle.lists.specs.Lists.{elem}
use Rattle.lists.proofs.Tests.{pass, passed, clash}
use Rattle.lists.proofs.Scan.{scan_same}
use Rattle.mos6502.specs.Class.{manual_class}
use Rattle.image.specs.declared.Bounds.{Bounds}
use Rattle.image.specs.Image.{last}
use Rattle.writes.specs.Writes.{manual_writes}
use Rattle.address_set.specs.Map.{has, members_in}
use Rattle.reach.specs.Walk.{finished}
use Rattle.opening.specs.Opening.{all_inside}
use Rattle.opening.proofs.First.{Opens, ready, image_empty, no_entries, past_top, all_inside_mem, mem_all_inside}
use Rattle.walk.specs.declared.End.{End}
use Rattle.walk.specs.declared.End.TheVariants as end
use Rattle.walk.specs.declared.Rule.TheVariants as rule
use Rattle.walk.specs.Walked.{limit, as_end, outcome_of, ordered, Walked}
use Rattle.walk.proofs.Possible.{refused≢finished, spent≢finished, not_full, unfinished, finishes, in_order}
use Rattle.stores.specs.Answers.{Reaches, Answers}
use Rattle.stores.specs.Steps.{GathersIn}

module _ (image : List ℕ) (load : ℕ) (entries slots : List ℕ) where
  abbrev AnswersWith : (slots' : List ℕ) → Result ℕ Refusal → Type 0
  AnswersWith slots' = Answers manual_class manual_writes image load entries slots slots'

  -- the first tests
  pub not_opened : {r : Refusal} → Opens image load entries (Err r) → AnswersWith slots (Err r)
  not_opened (image_empty e) = (e, refl)
  not_opened (no_entries s e) = (s, e, refl)
  not_opened (past_top s e t) = (s, e, t, refl)

  -- an entry outside
  pub outside : {b : Bounds} → Opens image load entries (Ok b) → all_inside b.load b.last entries ≡ false → AnswersWith slots (Err Refused)
  outside (ready r) e = (
    r,
    λ d. clash (pass _ (mem_all_inside load (last image load) entries d.1.entries_inside)) e,
    not_full manual_class rule.Stores image load entries,
    refl,
  )

  -- the walk ended without finishing
  stopped : {b : Bounds} {map : List ℕ} {e : End} → Opens image load entries (Ok b) → Walked rule.Stores image b.load b.last entries e map
      → as_end e ≢ finished → AnswersWith slots (Err Refused)
  stopped (ready r) w n =
      (r, unfinished manual_class rule.Stores image load entries w.walk n, not_full manual_class rule.Stores image load entries, refl)

  pub not_finished : {b : Bounds} {map : List ℕ} (e : End) {r : Refusal} → Opens image load entries (Ok b) → all_inside b.load b.last entries ≡ true
      → Walked rule.Stores image b.load b.last entries e map → outcome_of e ≡ Err r → AnswersWith slots (Err r)
  not_finished end.Finished o i w q = absurd cc
  not_finished (end.Refused pc) {r} o i w q = let e : Refused ≡ r = cc in rw (← e) (stopped o w refused≢finished)
  not_finished (end.Spent pc) {r} o i w q = let e : Refused ≡ r = cc in rw (← e) (stopped o w spent≢finished)
  not_finished (end.Full pc) {r} (ready t) i w q =
      let e : Full ≡ r = cc in rw (← e) (t, (all_inside_mem load (last image load) entries (passed i), (pc, w.met, w.walk)), refl)

  -- ── the walk finished ──
  -- what is known then of the map's members: they are the reachable instructions
  pub record Reached (b : Bounds) (map : List ℕ) : Type 0 where
    pub at_load : b.load ≡ load
    pub at_last : b.last ≡ last image load
    pub reaches : Reaches manual_class manual_writes image load entries (members_in load (last image load) map)

  pub reached : {b : Bounds} {map : List ℕ} (e : End) → Opens image load entries (Ok b) → all_inside b.load b.last entries ≡ true
      → Walked rule.Stores image b.load b.last entries e map → outcome_of e ≡ Ok tt → Reached b map
  reached (end.Refused pc) o i w q = absurd cc
  reached (end.Spent pc) o i w q = absurd cc
  reached (end.Full pc) o i w q = absurd cc
  reached {map = map} end.Finished (ready r) i w q =
      let f = finishes manual_class rule.Stores image load entries tt r (all_inside_mem load (last image load) entries (passed i)) w.walk in
      let members : ordered load (last image load) w.met ≡ members_in load (last image load) map =
      scan_same (λ a. elem a w.met) (has map) load (suc (last image load) - load) (λ a h k. sym (w.exact a)) in
      record { at_load = refl; at_last = refl; reaches = rw (in_order manual_class rule.Stores image load entries w.walk f ∙ members) at f.possible }

  module _ {b : Bounds} {map : List ℕ} (k : Reached b map) where
    -- as many records as a walk may meet are enough
    pub gather_room : length (members_in b.load b.last map) ≤ limit
    gather_room = rw (k.at_load, k.at_last) k.reaches.few

    -- a store that nothing bounds
    pub no_bound : (records : List ℕ) {r : Refusal} → GathersIn image b.load b.last map records (Err r) → AnswersWith slots (Err r)
    no_bound records g = rw g.0 (members_in load (last image load) map, k.reaches, rw (k.at_load, k.at_last) at g.1, refl)

    module _ {records : List ℕ} (g : GathersIn image b.load b.last map records (Ok tt)) where
      gathers : GathersIn image load (last image load) map records (Ok tt)
      gathers = rw (k.at_load, k.at_last) at g

      -- a list too short
      pub too_short : length slots < length records → AnswersWith slots (Err (Short (length records)))
      too_short h = (members_in load (last image load) map, k.reaches, gathers.0, ap length gathers.1, h, refl)

      -- the records, copied
      pub copied : {slots' : List ℕ} → length records ≤ length slots → slots' ≡ records ++ drop (length records) slots
          → AnswersWith slots' (Ok (length records))
      copied h e = (members_in load (last image load) map, k.reaches, gathers.0, ap length gathers.1, h, e ∙ rw gathers.1)
