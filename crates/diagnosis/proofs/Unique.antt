-- Two answers that meet the statement are equal, and so are the slots that they leave: the joint walk is determined, so are the ascending lists of what was met and
-- of what is concerned, and each weight.
use mathlib.Core.Path.{◌≡◌, refl, sym, ap, ap₂, ◌∙◌}
use mathlib.Core.Logic.{◌⊎◌, inl, inr, ⊎_elim}
use mathlib.Core.Bool.{true, false}
use mathlib.Core.List.Memᴰ.{cases_cons as cases}
use mathlib.Core.List.Memᴰ.{head as here}
use mathlib.Core.List.Memᴰ.{not-nil}
use mathlib.Core.List.Memᴰ.{tail as there}
use mathlib.Core.List.{List, [], ◌∷◌, ◌++◌, map, map-append}
use Prim.Native.Nat.{ℕ}
use native.Mathlib.Nat.{le_refl}
use native.Mathlib.Omega.{arith}
use lib.ListN.{length, drop}
use Rattle.std.specs.Prelude.{Option, Result, Ok, Err}
use Rattle.lists.specs.Lists.{◌∈◌}
use Rattle.lists.proofs.Sets.{ascending_unique}
use Rattle.lists.proofs.Tests.{either}
use Rattle.mos6502.specs.declared.Decoded.{Decoded}
use Rattle.refusal.specs.declared.Refusal.{Refusal}
use Rattle.refusal.specs.declared.Refusal.TheVariants.{ImageEmpty, NoEntries, PastTop, Refused, Unbounded, Short, Full}
use Rattle.image.specs.Image.{last, inside}
use Rattle.cause.specs.declared.RefusalCause.{RefusalCause}
use Rattle.reach.specs.Walk.{full}
use Rattle.reach.proofs.Once.{once}
use Rattle.reach.proofs.Ends.{never_full}
use Rattle.walk.specs.declared.Rule.TheVariants.{Diagnosis}
use Rattle.walk.specs.Walked.{Walk}
use Rattle.extent.proofs.Range.{range_unique}
use Rattle.recorder.specs.Recorded.{undecoded_of, causes_at, pairs_at, pairs_over, Concerns}
use Rattle.recorder.specs.Records.{record_of, records_of}
use Rattle.weights.proofs.Unique.{weighs_unique}
use Rattle.diagnosis.specs.declared.Summary.{Summary}
use Rattle.diagnosis.specs.Answers.{Finds, Measures, Answers}

-- ── records rest on the weights of their addresses ──
module _ (class : ℕ → Decoded) (image : List ℕ) (load last : ℕ) (order : List ℕ) (v w : ℕ → ℕ) where
  same_at : (a : ℕ) → v a ≡ w a → (causes : List RefusalCause)
      → records_of class image load last order v (map (λ (c : RefusalCause). record { address = a; cause = c }) causes)
      ≡ records_of class image load last order w (map (λ (c : RefusalCause). record { address = a; cause = c }) causes)
  same_at a e [] = refl
  same_at a e (c ∷ causes) = rw (e, same_at a e causes)

  same_records : (undecoded : Option ℕ) (l : List ℕ) → ((a : ℕ) → a ∈ l → v a ≡ w a)
      → records_of class image load last order v (pairs_over class image load last undecoded l)
      ≡ records_of class image load last order w (pairs_over class image load last undecoded l)
  unfolding pairs_over
  same_records undecoded [] e = refl
  same_records undecoded (a ∷ l) e =
      let head = pairs_at class image load last undecoded a in
      let tail = pairs_over class image load last undecoded l in
      map-append (record_of class image load last order v) head tail
      ∙ ap₂ (λ (x y : List ℕ). x ++ y) (same_at a (e a (here refl)) (causes_at class image load last undecoded a)) (same_records undecoded l (λ b k. e b (there k)))
      ∙ sym (map-append (record_of class image load last order w) head tail)

-- ── what is found ──
module _ (class : ℕ → Decoded) (image : List ℕ) (load : ℕ) (entries : List ℕ) where
  concerns_unique : {met l k : List ℕ} → Concerns load (last image load) entries met l → Concerns load (last image load) entries met k → l ≡ k
  concerns_unique {l = l} {k = k} p q =
      ascending_unique l k p.ascending q.ascending (λ a m. (q.exact a).1 ((p.exact a).0 m)) (λ a m. (p.exact a).1 ((q.exact a).0 m))

  -- some entry is inside, or none is
  some_inside : (es : List ℕ) → ((a : ℕ) × (a ∈ es) × (inside load (last image load) a ≡ true)) ⊎ ((a : ℕ) → a ∈ es → inside load (last image load) a ≡ false)
  some_inside [] = inr (λ a k. absurd (not-nil k))
  some_inside (e ∷ es) = by (either (inside load (last image load) e)) (some_inside es)
    where
      by : (inside load (last image load) e ≡ true) ⊎ (inside load (last image load) e ≡ false)
          → ((a : ℕ) × (a ∈ es) × (inside load (last image load) a ≡ true)) ⊎ ((a : ℕ) → a ∈ es → inside load (last image load) a ≡ false)
          → ((a : ℕ) × (a ∈ (e ∷ es)) × (inside load (last image load) a ≡ true)) ⊎ ((a : ℕ) → a ∈ (e ∷ es) → inside load (last image load) a ≡ false)
      by (inl i) r = inl (e, here refl, i)
      by (inr n) (inl d) = inl (d.0, there d.1, d.2)
      by (inr n) (inr none) = inr (λ a k. ⊎_elim (λ q. rw q n) (none a) (cases k))

  module _ {R R' : List ℕ} (f : Finds class image load entries R) (g : Finds class image load entries R') where
    same_walk : (f.end ≡ g.end) × (f.met ≡ g.met)
    same_walk = once f.walk g.walk

    same_order : f.order ≡ g.order
    same_order =
        let m = same_walk.1 in
        ascending_unique f.order g.order f.ascending g.ascending (λ a k. (g.same a).1 (rw m at ((f.same a).0 k))) (λ a k. (f.same a).1 (rw (← m) at ((g.same a).0 k)))

    same_concerned : f.concerned ≡ g.concerned
    same_concerned = concerns_unique f.concerns (rw (← same_walk.1) at g.concerns)

    pub finds_unique : R ≡ R'
    finds_unique =
        f.exact
        ∙ same_records class image load (last image load) f.order f.weight g.weight (undecoded_of f.end) f.concerned
        (λ a k. weighs_unique (f.weighs a k) (g.weighs a (rw same_concerned at k)))
        ∙ rw (same_order, same_walk.0, same_concerned) (sym g.exact)

    -- ── the summary ──
    pub measures_unique : {s t : Summary} → Measures class image load entries f.end f.met s → Measures class image load entries g.end g.met t
        → (s.low ≡ t.low) × (s.high ≡ t.high) × (s.count ≡ t.count)
    measures_unique {s} {t} p q = by (some_inside entries)
      where
        q' : Measures class image load entries f.end f.met t
        q' = rw (same_walk.0, same_walk.1) q

        by : ((a : ℕ) × (a ∈ entries) × (inside load (last image load) a ≡ true)) ⊎ ((a : ℕ) → a ∈ entries → inside load (last image load) a ≡ false)
            → (s.low ≡ t.low) × (s.high ≡ t.high) × (s.count ≡ t.count)
        by (inl d) = let r = range_unique (p.range d) (q'.range d) in (r.0, r.1, p.count ∙ sym q'.count)
        by (inr n) = ((p.nowhere n).0 ∙ sym (q'.nowhere n).0, (p.nowhere n).1 ∙ sym (q'.nowhere n).1, p.count ∙ sym q'.count)

  -- ── the answers ──
  no_full : ¬ ((pc : ℕ) × (met : List ℕ) × Walk class Diagnosis image load (last image load) entries (full pc) met)
  no_full w = never_full entries (le_refl 4096) w.2 w.0 refl

  same_summary : {s t : Summary} → s.low ≡ t.low → s.high ≡ t.high → s.count ≡ t.count → s.records ≡ t.records → s ≡ t
  same_summary p q r n i = record { low = p i; high = q i; count = r i; records = n i }

  answered : {slots after after' : List ℕ} {s t : Summary} → Answers class image load entries slots after (Ok s)
      → Answers class image load entries slots after' (Ok t) → (◌≡◌ {A = Result Summary Refusal} (Ok s) (Ok t)) × (after ≡ after')
  answered {slots} p q =
      let e = finds_unique p.1 q.1 in
      let m = measures_unique p.1 q.1 p.2 q.2 in (
        ap Ok (same_summary m.0 m.1 m.2 (p.3 ∙ ap length e ∙ sym q.3)),
        p.5 ∙ ap (λ (k : List ℕ). k ++ drop (length k) slots) e ∙ sym q.5,
      )

  pub answers_unique : (slots after after' : List ℕ) (r r' : Result Summary Refusal) → Answers class image load entries slots after r
      → Answers class image load entries slots after' r' → (r ≡ r') × (after ≡ after')
  answers_unique slots after after' (Err ImageEmpty) (Err ImageEmpty) p q = (refl, p.1 ∙ sym q.1)
  answers_unique slots after after' (Err ImageEmpty) (Err NoEntries) p q = absurd (omega arith)
  answers_unique slots after after' (Err ImageEmpty) (Err PastTop) p q = absurd (omega arith)
  answers_unique slots after after' (Err ImageEmpty) (Err Full) p q = absurd (no_full q.1)
  answers_unique slots after after' (Err ImageEmpty) (Err (Short m)) p q = absurd (omega (arith, q.1.ready))
  answers_unique slots after after' (Err ImageEmpty) (Ok t) p q = absurd (omega (arith, q.1.ready))
  answers_unique slots after after' (Err ImageEmpty) (Err Refused) p q = absurd q
  answers_unique slots after after' (Err ImageEmpty) (Err Unbounded) p q = absurd q
  answers_unique slots after after' (Err NoEntries) (Err ImageEmpty) p q = absurd (omega arith)
  answers_unique slots after after' (Err NoEntries) (Err NoEntries) p q = (refl, p.2 ∙ sym q.2)
  answers_unique slots after after' (Err NoEntries) (Err PastTop) p q = absurd (omega arith)
  answers_unique slots after after' (Err NoEntries) (Err Full) p q = absurd (no_full q.1)
  answers_unique slots after after' (Err NoEntries) (Err (Short m)) p q = absurd (omega (arith, q.1.ready))
  answers_unique slots after after' (Err NoEntries) (Ok t) p q = absurd (omega (arith, q.1.ready))
  answers_unique slots after after' (Err NoEntries) (Err Refused) p q = absurd q
  answers_unique slots after after' (Err NoEntries) (Err Unbounded) p q = absurd q
  answers_unique slots after after' (Err PastTop) (Err ImageEmpty) p q = absurd (omega arith)
  answers_unique slots after after' (Err PastTop) (Err NoEntries) p q = absurd (omega arith)
  answers_unique slots after after' (Err PastTop) (Err PastTop) p q = (refl, p.3 ∙ sym q.3)
  answers_unique slots after after' (Err PastTop) (Err Full) p q = absurd (no_full q.1)
  answers_unique slots after after' (Err PastTop) (Err (Short m)) p q = absurd (omega (arith, q.1.ready))
  answers_unique slots after after' (Err PastTop) (Ok t) p q = absurd (omega (arith, q.1.ready))
  answers_unique slots after after' (Err PastTop) (Err Refused) p q = absurd q
  answers_unique slots after after' (Err PastTop) (Err Unbounded) p q = absurd q
  answers_unique slots after after' (Err Full) r' p q = absurd (no_full p.1)
  answers_unique slots after after' (Err (Short n)) (Err ImageEmpty) p q = absurd (omega (arith, p.1.ready))
  answers_unique slots after after' (Err (Short n)) (Err NoEntries) p q = absurd (omega (arith, p.1.ready))
  answers_unique slots after after' (Err (Short n)) (Err PastTop) p q = absurd (omega (arith, p.1.ready))
  answers_unique slots after after' (Err (Short n)) (Err Full) p q = absurd (no_full q.1)
  answers_unique slots after after' (Err (Short n)) (Err (Short m)) p q = (ap (λ k. Err (Short k)) (p.2 ∙ ap length (finds_unique p.1 q.1) ∙ sym q.2), p.4 ∙ sym q.4)
  answers_unique slots after after' (Err (Short n)) (Ok t) p q = absurd (omega (arith, p.2, p.3, q.4, ap length (finds_unique p.1 q.1)))
  answers_unique slots after after' (Err (Short n)) (Err Refused) p q = absurd q
  answers_unique slots after after' (Err (Short n)) (Err Unbounded) p q = absurd q
  answers_unique slots after after' (Ok s) (Err ImageEmpty) p q = absurd (omega (arith, p.1.ready))
  answers_unique slots after after' (Ok s) (Err NoEntries) p q = absurd (omega (arith, p.1.ready))
  answers_unique slots after after' (Ok s) (Err PastTop) p q = absurd (omega (arith, p.1.ready))
  answers_unique slots after after' (Ok s) (Err Full) p q = absurd (no_full q.1)
  answers_unique slots after after' (Ok s) (Err (Short m)) p q = absurd (omega (arith, q.2, q.3, p.4, ap length (finds_unique p.1 q.1)))
  answers_unique slots after after' (Ok s) (Ok t) p q = answered p q
  answers_unique slots after after' (Ok s) (Err Refused) p q = absurd q
  answers_unique slots after after' (Ok s) (Err Unbounded) p q = absurd q
  answers_unique slots after after' (Err Refused) r' p q = absurd p
  answers_unique slots after after' (Err Unbounded) r' p q = absurd p
