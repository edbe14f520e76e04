-- The computed answer and records meet the statement, where all entries are inside and the walk ends within the turns that are taken.
use mathlib.Core.Path.{◌≡◌, refl}
use mathlib.Core.Bool.{Bool, true, false, cond}
use mathlib.Core.List.{List, [], ◌++◌}
use Prim.Native.Nat.{ℕ, ◌≤◌}
use lib.ListN.{length, drop}
use Rattle.mos6502.specs.declared.Decoded.{Decoded}
use Rattle.image.specs.Image.{last}
use Rattle.writes.specs.declared.Wr.{Wr}
use Rattle.reach.specs.Walk.{End, finished, refused, spent, full}
use Rattle.opening.specs.Opening.{Ready}
use Rattle.walk.specs.declared.Rule.TheVariants as rule
use Rattle.walk.specs.Walked.{Walk, ordered}
use Rattle.walk.specs.Possible.{EntriesInside}
use Rattle.walk.proofs.Possible.{refused≢finished, spent≢finished, not_full, unfinished, finishes, in_order}
use Rattle.std.specs.Prelude.{Ok, Err}
use Rattle.refusal.specs.declared.Refusal.TheVariants.{Unbounded}
use Rattle.stores.specs.Answers.{Reaches, is_unbounded, records_in, Answers}
use Rattle.stores.specs.Computed.{answer_of, records_from}

module _ (class : ℕ → Decoded) (writes : ℕ → Wr) (image : List ℕ) (load : ℕ) (entries : List ℕ) (ready : Ready image load entries)
    (within : EntriesInside class rule.Stores image load entries) where
  abbrev records : (unbounded : Bool) (l : List ℕ) → List ℕ
  records unbounded l = cond unbounded [] (records_in class writes image load entries l)

  by_bound : (l : List ℕ) → Reaches class writes image load entries l → (b : Bool) → is_unbounded class writes image load entries l ≡ b → (slots : List ℕ)
      → length (records b l) ≤ length slots
      → Answers class writes image load entries slots (records b l ++ drop (length (records b l)) slots)
      (cond b (Err Unbounded) (Ok (length (records_in class writes image load entries l))))
  by_bound l r true e slots h = (l, r, e, refl)
  by_bound l r false e slots h = (l, r, e, refl, h, refl)

  pub computed : {e : End} {met : List ℕ} → Walk class rule.Stores image load (last image load) entries e met → (slots : List ℕ)
      → length (records_from class writes image load entries e met) ≤ length slots
      → Answers class writes image load entries slots
      (records_from class writes image load entries e met ++ drop (length (records_from class writes image load entries e met)) slots)
      (answer_of class writes image load entries e met)
  computed {e = finished} {met = met} w slots h =
      let f = finishes class rule.Stores image load entries tt ready within w in
      by_bound (ordered load (last image load) met) (rw (in_order class rule.Stores image load entries w f) at f.possible) _ refl slots h
  computed {e = refused pc} w slots h = (ready, unfinished class rule.Stores image load entries w refused≢finished, not_full class rule.Stores image load entries, refl)
  computed {e = spent pc} w slots h = (ready, unfinished class rule.Stores image load entries w spent≢finished, not_full class rule.Stores image load entries, refl)
  computed {e = full pc} {met = met} w slots h = (ready, (within, (pc, met, w)), refl)
