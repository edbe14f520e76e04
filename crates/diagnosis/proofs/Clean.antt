-- A diagnosis has no record exactly where a plain span is possible. Without a record every site met is accepted, and at such sites the rules of span and diagnosis
-- have the same step; so the two walks have the same reachable addresses.
use mathlib.Core.Path.{◌≡◌, refl, sym, ap, ◌∙◌}
use mathlib.Core.Logic.{◌↔◌, ◌⊎◌, inl, inr, ⊎_elim}
use mathlib.Core.Bool.{Bool, true, false, cond, false≢true}
use mathlib.Core.List.Memᴰ.{cases_cons as cases}
use mathlib.Core.List.Memᴰ.{head as here}
use mathlib.Core.List.Memᴰ.{not-nil}
use mathlib.Core.List.Memᴰ.{tail as there}
use mathlib.Core.List.{List, [], ◌∷◌}
use Prim.Native.Nat.{ℕ}
use native.Mathlib.Nat.{le_refl}
use native.Mathlib.Omega.{arith}
use lib.Dec.{T, eqb, eqb_refl}
use lib.ListN.{length, length-append, length-map}
use Rattle.std.specs.Prelude.{Option, Result, Ok, Err}
use Rattle.lists.specs.Lists.{◌∈◌}
use Rattle.lists.proofs.Tests.{pass, passed, clash, either}
use Rattle.lists.proofs.Sets.{empty}
use Rattle.mos6502.specs.declared.Decoded.{Decoded}
use Rattle.refusal.specs.declared.Refusal.{Refusal}
use Rattle.refusal.specs.declared.Refusal.TheVariants.{ImageEmpty, NoEntries, PastTop, Refused, Unbounded, Short, Full}
use Rattle.refusal.specs.Numbers.{number_of}
use Rattle.image.specs.Image.{last, inside}
use Rattle.cause.specs.declared.RefusalCause.TheVariants.{Budget, EntryOutside}
use Rattle.site.specs.declared.Causes.{Causes}
use Rattle.site.specs.declared.Causes.TheVariants.{Clear, One, Two}
use Rattle.site.specs.Site.{site_in, list_of}
use Rattle.reach.specs.Reach.{ReachList}
use Rattle.reach.specs.Walk.{End, finished, refused, spent, full}
use Rattle.reach.proofs.Sound.{sound}
use Rattle.reach.proofs.Complete.{complete}
use Rattle.reach.proofs.Ends.{never_full}
use Rattle.reach.proofs.Exact.{finished_iff, finished_list}
use Rattle.reach.proofs.Finite.{reach_inside}
use Rattle.reach.proofs.Local.{Agree, list_same}
use Rattle.walk.specs.declared.Rule.TheVariants.{Span, Diagnosis}
use Rattle.walk.specs.Step.{is_clear}
use Rattle.walk.specs.Walked.{limit, step_in, Walk}
use Rattle.walk.specs.Possible.{Possible}
use Rattle.walk.proofs.Rules.{diagnosis_goes_on, clear_same}
use Rattle.extent.specs.Extent.{is_skipped}
use Rattle.recorder.specs.Recorded.{undecoded_of, causes_at, pairs_at, pairs_over}
use Rattle.diagnosis.specs.declared.Summary.{Summary}
use Rattle.diagnosis.specs.Answers.{values_of, Finds, Answers}

-- ── where nothing is recorded ──
listed_clear : (c : Causes) → list_of c ≡ [] → is_clear c ≡ true
listed_clear Clear e = refl
listed_clear (One c) e = absurd (omega (arith, ap length e))
listed_clear (Two c d) e = absurd (omega (arith, ap length e))

clear_listed : (c : Causes) → is_clear c ≡ true → list_of c ≡ []
clear_listed Clear e = refl
clear_listed (One c) e = absurd (false≢true e)
clear_listed (Two c d) e = absurd (false≢true e)

module _ (class : ℕ → Decoded) (image : List ℕ) (load last : ℕ) (undecoded : Option ℕ) where
  -- an address with nothing recorded is inside, was decoded, and has no cause
  pub record Clean (a : ℕ) : Type 0 where
    pub within : inside load last a ≡ true
    pub decoded : is_skipped undecoded a ≡ false
    pub clear : is_clear (site_in class image load last a).causes ≡ true

  none_clean : (a : ℕ) → causes_at class image load last undecoded a ≡ [] → Clean a
  none_clean a e = by (inside load last a) (is_skipped undecoded a) refl refl e
    where
      by : (i k : Bool) → inside load last a ≡ i → is_skipped undecoded a ≡ k
          → cond i (cond k (Budget ∷ []) (list_of (site_in class image load last a).causes)) (EntryOutside ∷ []) ≡ [] → Clean a
      by true false p q e = record { within = p; decoded = q; clear = listed_clear (site_in class image load last a).causes e }
      by true true p q e = absurd (omega (arith, ap length e))
      by false k p q e = absurd (omega (arith, ap length e))

  clean_none : (a : ℕ) → Clean a → causes_at class image load last undecoded a ≡ []
  clean_none a c = rw (c.within, c.decoded) (clear_listed (site_in class image load last a).causes c.clear)

  pairs_count : (a : ℕ) → length (pairs_at class image load last undecoded a) ≡ length (causes_at class image load last undecoded a)
  pairs_count a = length-map (causes_at class image load last undecoded a) _

  none_recorded : (l : List ℕ) → length (pairs_over class image load last undecoded l) ≡ 0 → (a : ℕ) → a ∈ l → Clean a
  unfolding pairs_over
  none_recorded [] e a k = absurd (not-nil k)
  none_recorded (b ∷ l) e a k =
      let n = rw length-append at e in
      ⊎_elim (λ q. rw q (none_clean b (empty (causes_at class image load last undecoded b) (omega (arith, pairs_count b)))))
      (λ m. none_recorded l (omega arith) a m) (cases k)

  nothing_recorded : (l : List ℕ) → ((a : ℕ) → a ∈ l → Clean a) → pairs_over class image load last undecoded l ≡ []
  unfolding pairs_over
  nothing_recorded [] c = refl
  nothing_recorded (b ∷ l) c = rw (clean_none b (c b (here refl))) (nothing_recorded l (λ a k. c a (there k)))

-- ── exactly where a span is possible ──
module _ (class : ℕ → Decoded) (image : List ℕ) (load : ℕ) (entries : List ℕ) {R : List ℕ} (f : Finds class image load entries R) where
  abbrev Cleans : ℕ → Type 0
  Cleans a = Clean class image load (last image load) (undecoded_of f.end) a

  record_count : length R ≡ length (pairs_over class image load (last image load) (undecoded_of f.end) f.concerned)
  record_count = ap length f.exact ∙ length-map (pairs_over class image load (last image load) (undecoded_of f.end) f.concerned) _

  -- no record: the walk finishes, since its end would be recorded
  module _ (clean : (a : ℕ) → a ∈ f.concerned → Cleans a) where
    met_clean : (a : ℕ) → a ∈ f.met → Cleans a
    met_clean a k = clean a ((f.concerns.exact a).1 (inl k))

    ended : (e : End) → f.end ≡ e → e ≡ finished
    ended finished q = refl
    ended (refused pc) q = absurd (diagnosis_goes_on class image load (last image load) pc (sound entries (rw q at f.walk)).named.2)
    ended (full pc) q = absurd (f.not_full pc q)
    ended (spent pc) q =
        let skipped = rw q at (met_clean pc (sound entries (rw q at f.walk)).named.0).decoded in
        absurd (clash (pass (eqb pc pc) (eqb_refl pc)) skipped)

    walked : Walk class Diagnosis image load (last image load) entries finished f.met
    walked = rw (ended f.end refl) at f.walk

    alike : Agree (step_in class Diagnosis image load (last image load)) (step_in class Span image load (last image load)) (inside load (last image load))
        (inside load (last image load)) entries
    alike =
        record {
          steps = λ a r. sym (clear_same class image load (last image load) a (met_clean a (complete entries walked r)).clear);
          firsts = λ a k. refl;
          laters = λ a b r k. refl;
        }

    possible : (l : List ℕ) × Possible class Span image load entries l
    possible =
        let d = finished_list entries walked in
        let fits = (finished_iff entries walked (never_full entries (le_refl limit) walked) d.1).0 refl in (
          d.0,
          record {
            ready = f.ready;
            entries_inside = λ a k. entry_inside a k (either (inside load (last image load) a));
            reachable = (list_same alike d.0).0 d.1;
            few = fits.small;
            accepted = λ a k. (met_clean a (complete entries walked ((d.1.exact a).0 k))).clear;
          },
        )
      where
        entry_inside : (a : ℕ) → a ∈ entries → (inside load (last image load) a ≡ true) ⊎ (inside load (last image load) a ≡ false) → T (inside load (last image load) a)
        entry_inside a k (inl e) = passed e
        entry_inside a k (inr e) = absurd (clash (clean a ((f.concerns.exact a).1 (inr (k, e)))).within e)

  -- a span is possible: every address concerned is clean
  module _ {l : List ℕ} (p : Possible class Span image load entries l) where
    alike_span : Agree (step_in class Span image load (last image load)) (step_in class Diagnosis image load (last image load)) (inside load (last image load))
        (inside load (last image load)) entries
    alike_span =
        record {
          steps = λ a r. clear_same class image load (last image load) a (p.accepted a ((p.reachable.exact a).1 r));
          firsts = λ a k. refl;
          laters = λ a b r k. refl;
        }

    listed : ReachList (step_in class Diagnosis image load (last image load)) (inside load (last image load)) entries l
    listed = (list_same alike_span l).0 p.reachable

    finishes : f.end ≡ finished
    finishes =
        (finished_iff entries f.walk (never_full entries (le_refl limit) f.walk) listed).1
        (record { small = p.few; fine = λ a k. diagnosis_goes_on class image load (last image load) a })

    concerned_clean : (a : ℕ) → (a ∈ f.met) ⊎ ((a ∈ entries) × (inside load (last image load) a ≡ false)) → Cleans a
    concerned_clean a (inl k) =
        let r = (sound entries f.walk).found.reached a k in
        record {
          within = pass _ (reach_inside r);
          decoded = rw finishes;
          clear = p.accepted a ((listed.exact a).1 r);
        }
    concerned_clean a (inr k) = absurd (clash (pass _ (p.entries_inside a k.0)) k.1)

  pub clean_iff : (length R ≡ 0) ↔ ((l : List ℕ) × Possible class Span image load entries l)
  clean_iff = (
    λ e. possible (none_recorded class image load (last image load) (undecoded_of f.end) f.concerned (sym record_count ∙ e)),
    λ d.
        let none = nothing_recorded class image load (last image load) (undecoded_of f.end) f.concerned
        (λ a k. concerned_clean d.1 a ((f.concerns.exact a).0 k)) in
        record_count ∙ ap length none,
  )

-- the same of the answer: no record exactly where a span is possible
pub clean_answer : (class : ℕ → Decoded) (image : List ℕ) (load : ℕ) (entries slots slots' : List ℕ) (s : Summary)
    → Answers class image load entries slots slots' (Ok s) → (s.records ≡ 0) ↔ ((l : List ℕ) × Possible class Span image load entries l)
clean_answer class image load entries slots slots' s a =
    let c = clean_iff class image load entries a.1 in
    (λ e. c.0 (sym a.3 ∙ e), λ d. a.3 ∙ c.1 d)

-- where a span is possible, the diagnosis answers with no record, whatever list is lent, and leaves the list as it was
pub undisturbed : (class : ℕ → Decoded) (image : List ℕ) (load : ℕ) (entries : List ℕ) → (l : List ℕ) × Possible class Span image load entries l
    → (slots slots' : List ℕ) (r : Result Summary Refusal) → Answers class image load entries slots slots' r
    → (number_of r ≡ 0) × ((values_of r).records ≡ 0) × (slots' ≡ slots)
undisturbed class image load entries p slots slots' (Err ImageEmpty) a = absurd (omega (arith, p.1.ready))
undisturbed class image load entries p slots slots' (Err NoEntries) a = absurd (omega (arith, p.1.ready))
undisturbed class image load entries p slots slots' (Err PastTop) a = absurd (omega (arith, p.1.ready))
undisturbed class image load entries p slots slots' (Err Full) a = absurd (never_full entries (le_refl limit) a.1.2 a.1.0 refl)
undisturbed class image load entries p slots slots' (Err Refused) a = absurd a
undisturbed class image load entries p slots slots' (Err Unbounded) a = absurd a
undisturbed class image load entries p slots slots' (Err (Short needed)) a = absurd (omega (arith, (clean_iff class image load entries a.1).1 p))
undisturbed class image load entries p slots slots' (Ok t) a =
    let none = empty a.0 ((clean_iff class image load entries a.1).1 p) in
    (refl, (clean_answer class image load entries slots slots' t a).1 p, rw none at a.5)
