-- Two answers that meet the statement are equal, and so are the slots: both are a function of the first tests, of the reachable instructions if the walk can be carried
-- through, and of the lent list. The reachable instructions are one list.
use mathlib.Core.Path.{◌≡◌, sym, ap, ◌∙◌}
use mathlib.Core.Bool.{cond}
use mathlib.Core.List.{List, ◌++◌}
use Rattle.std.specs.Prelude.{Option, Some, None, Result, Ok, Err}
use Rattle.refusal.specs.declared.Refusal.{Refusal}
use Rattle.refusal.specs.declared.Refusal.TheVariants.{ImageEmpty, NoEntries, PastTop, Refused, Unbounded, Short, Full}
use Prim.Native.Nat.{ℕ}
use native.Mathlib.Omega.{arith}
use lib.Dec.{ltb}
use lib.ListN.{length, drop}
use borrow.Author.Tests.{lt-ltb, le-ltb}
use Rattle.mos6502.specs.declared.Decoded.{Decoded}
use Rattle.writes.specs.declared.Wr.{Wr}
use Rattle.reach.proofs.Unique.{list_unique}
use Rattle.image.specs.declared.Bounds.{Bounds}
use Rattle.opening.specs.Opening.{opening_of}
use Rattle.opening.proofs.First.{Opens, ready, image_empty, no_entries, past_top, opens, opens_unique}
use Rattle.walk.specs.declared.Rule.TheVariants as rule
use Rattle.walk.proofs.Possible.{not_full}
use Rattle.stores.specs.Answers.{Reaches, is_unbounded, records_in, Answers}

module _ (class : ℕ → Decoded) (writes : ℕ → Wr) (image : List ℕ) (load : ℕ) (entries : List ℕ) where
  -- the reachable instructions, if the walk can be carried through
  abbrev pub Decides : Option (List ℕ) → Type 0
  Decides None = ¬ ((l : List ℕ) × Reaches class writes image load entries l)
  Decides (Some l) = Reaches class writes image load entries l

  -- ── the answer and the slots as functions ──
  abbrev answer_with : (l slots : List ℕ) → Result ℕ Refusal
  answer_with l slots =
      let n = length (records_in class writes image load entries l) in
      cond (is_unbounded class writes image load entries l) (Err Unbounded) (cond (ltb (length slots) n) (Err (Short n)) (Ok n))

  abbrev pub answer_by : Result Bounds Refusal → Option (List ℕ) → (slots : List ℕ) → Result ℕ Refusal
  answer_by (Err r) found slots = Err r
  answer_by (Ok b) None slots = Err Refused
  answer_by (Ok b) (Some l) slots = answer_with l slots

  abbrev slots_by : Option (List ℕ) → (slots : List ℕ) → List ℕ
  slots_by None slots = slots
  slots_by (Some l) slots =
      let records = records_in class writes image load entries l in
      cond (is_unbounded class writes image load entries l) slots (cond (ltb (length slots) (length records)) slots (records ++ drop (length records) slots))

  -- ── each answer meets them ──
  first : {o : Result Bounds Refusal} → Opens image load entries o → opening_of image load entries ≡ o
  first o = opens_unique image load entries (opens image load entries) o

  pub one_list : {l k : List ℕ} → Reaches class writes image load entries l → Reaches class writes image load entries k → l ≡ k
  one_list p q = list_unique p.reachable q.reachable

  pub decided : (slots slots' : List ℕ) (r : Result ℕ Refusal) → Answers class writes image load entries slots slots' r → (found : Option (List ℕ)) × Decides found
  decided slots slots' (Err ImageEmpty) p = (None, λ d. omega (arith, d.1.ready))
  decided slots slots' (Err NoEntries) p = (None, λ d. omega (arith, d.1.ready))
  decided slots slots' (Err PastTop) p = (None, λ d. omega (arith, d.1.ready))
  decided slots slots' (Err Refused) p = (None, p.1)
  decided slots slots' (Err Full) p = absurd (not_full class rule.Stores image load entries p.1)
  decided slots slots' (Err Unbounded) p = (Some p.0, p.1)
  decided slots slots' (Err (Short n)) p = (Some p.0, p.1)
  decided slots slots' (Ok n) p = (Some p.0, p.1)

  pub answer_is : (slots slots' : List ℕ) (r : Result ℕ Refusal) → Answers class writes image load entries slots slots' r → (found : Option (List ℕ)) → Decides found
      → (r ≡ answer_by (opening_of image load entries) found slots) × (slots' ≡ slots_by found slots)
  answer_is slots slots' (Err ImageEmpty) p None d = (rw (first (image_empty p.0)), p.1)
  answer_is slots slots' (Err ImageEmpty) p (Some l) d = absurd (omega (arith, d.ready))
  answer_is slots slots' (Err NoEntries) p None d = (rw (first (no_entries p.0 p.1)), p.2)
  answer_is slots slots' (Err NoEntries) p (Some l) d = absurd (omega (arith, d.ready))
  answer_is slots slots' (Err PastTop) p None d = (rw (first (past_top p.0 p.1 p.2)), p.3)
  answer_is slots slots' (Err PastTop) p (Some l) d = absurd (omega (arith, d.ready))
  answer_is slots slots' (Err Refused) p None d = (rw (first (ready p.0)), p.3)
  answer_is slots slots' (Err Refused) p (Some l) d = absurd (p.1 (l, d))
  answer_is slots slots' (Err Full) p found d = absurd (not_full class rule.Stores image load entries p.1)
  answer_is slots slots' (Err Unbounded) p None d = absurd (d (p.0, p.1))
  answer_is slots slots' (Err Unbounded) p (Some l) d = (rw (first (ready d.ready), one_list d p.1, p.2), p.3 ∙ rw (one_list d p.1, p.2))
  answer_is slots slots' (Err (Short n)) p None d = absurd (d (p.0, p.1))
  answer_is slots slots' (Err (Short n)) p (Some l) d =
      let short = lt-ltb (length slots) (length (records_in class writes image load entries p.0)) (rw p.3 at p.4) in
      (rw (first (ready d.ready), one_list d p.1, p.2, short) (ap (λ (k : ℕ). Err (Short k)) p.3), p.5 ∙ rw (one_list d p.1, p.2, short))
  answer_is slots slots' (Ok n) p None d = absurd (d (p.0, p.1))
  answer_is slots slots' (Ok n) p (Some l) d =
      let long = le-ltb (length slots) (length (records_in class writes image load entries p.0)) (rw p.3 at p.4) in
      (rw (first (ready d.ready), one_list d p.1, p.2, long) (ap Ok p.3), p.5 ∙ rw (one_list d p.1, p.2, long, p.3))

  -- ── uniqueness ──
  pub answers_unique : (slots slots' slots'' : List ℕ) (r r' : Result ℕ Refusal) → Answers class writes image load entries slots slots' r
      → Answers class writes image load entries slots slots'' r' → (r ≡ r') × (slots' ≡ slots'')
  answers_unique slots slots' slots'' r r' p q =
      let d = decided slots slots' r p in
      let a = answer_is slots slots' r p d.0 d.1 in
      let b = answer_is slots slots'' r' q d.0 d.1 in
      (a.0 ∙ sym b.0, a.1 ∙ sym b.1)
