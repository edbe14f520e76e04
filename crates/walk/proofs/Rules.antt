-- The rules: following control refuses nothing, so that a site's step refuses exactly where its rule says so.
use mathlib.Core.Path.{◌≡◌, refl}
use mathlib.Core.Logic.{◌≢◌}
use mathlib.Core.Bool.{Bool, true, false, cond, false≢true}
use mathlib.Core.List.{List}
use Prim.Native.Nat.{ℕ}
use Rattle.mos6502.specs.declared.Decoded.{Decoded}
use Rattle.mos6502.specs.declared.Flow.{Flow}
use Rattle.mos6502.specs.declared.Flow.TheVariants.{Next, Jump, Call, Branch, Stop, Refuse}
use Rattle.std.specs.Prelude.{Option, Some, None}
use Rattle.image.specs.Image.{inside}
use Rattle.site.specs.declared.Causes.{Causes}
use Rattle.site.specs.declared.Causes.TheVariants.{Clear, One, Two}
use Rattle.site.specs.Site.{site_in}
use Rattle.reach.specs.Reach.{refuses}
use Rattle.reach.proofs.Complete.{Fine, fine≢refuses}
use Rattle.walk.specs.declared.Step.{Step}
use Rattle.walk.specs.declared.Step.TheVariants.{Refuses, Goes, Forks}
use Rattle.walk.specs.declared.Rule.{Rule}
use Rattle.walk.specs.declared.Rule.TheVariants.{Span, Diagnosis, Stores}
use Rattle.walk.specs.Step.{goes_to, forks_to, follow, calls, is_clear, is_passable, accepts, otherwise, step_by, as_step}
use Rattle.walk.specs.Walked.{step_in}

goes_fine : (a : Option ℕ) → Fine (as_step (goes_to a))
goes_fine (Some a) = tt
goes_fine None = tt

forks_fine : (inside : ℕ → Bool) (next target : Option ℕ) → Fine (as_step (forks_to inside next target))
forks_fine inside (Some n) (Some t) = by (inside t)
  where
    by : (b : Bool) → Fine (as_step (cond b (Forks n t) (Goes n)))
    by true = tt
    by false = tt
forks_fine inside (Some n) None = tt
forks_fine inside None target = tt

follow_fine : (inside : ℕ → Bool) (f : Flow) (next target : Option ℕ) → Fine (as_step (follow inside f next target))
follow_fine inside Next next target = goes_fine next
follow_fine inside Jump next target = goes_fine target
follow_fine inside Call next target = forks_fine inside next target
follow_fine inside Branch next target = forks_fine inside next target
follow_fine inside Stop next target = tt
follow_fine inside Refuse next target = tt

calls_fine : (f : Flow) (target : Option ℕ) → Fine (as_step (calls f target))
calls_fine Call target = goes_fine target
calls_fine Next target = tt
calls_fine Jump target = tt
calls_fine Branch target = tt
calls_fine Stop target = tt
calls_fine Refuse target = tt

-- ── a rule ──
-- a rule that refuses what it does not pass; the diagnosis refuses nothing
abbrev pub Strict : Rule → Type 0
Strict Span = Unit {0}
Strict Diagnosis = ⊥
Strict Stores = Unit {0}

strict_refuses : (rule : Rule) → Strict rule → (f : Flow) (target : Option ℕ) → otherwise rule f target ≡ Refuses
strict_refuses Span s f target = refl
strict_refuses Stores s f target = refl
strict_refuses Diagnosis s f target = elim s [ ]

module _ (class : ℕ → Decoded) (image : List ℕ) (load last a : ℕ) where
  pub accepted_goes_on : (rule : Rule) → accepts rule (inside load last) (site_in class image load last a) ≡ true → step_in class rule image load last a ≢ refuses
  unfolding step_in step_by
  accepted_goes_on rule e =
      let s = site_in class image load last a in
      rw e (fine≢refuses (follow_fine (inside load last) s.flow s.next s.target))

  pub goes_on_accepted : (rule : Rule) → Strict rule → step_in class rule image load last a ≢ refuses
      → accepts rule (inside load last) (site_in class image load last a) ≡ true
  unfolding step_in step_by
  goes_on_accepted rule strict n =
      let s = site_in class image load last a in
      by (accepts rule (inside load last) s) _ (rw (strict_refuses rule strict s.flow s.target) at n)
    where
      by : (b : Bool) (x : Step) → as_step (cond b x Refuses) ≢ refuses → b ≡ true
      by true x n = refl
      by false x n = absurd (n refl)

  -- ── beside the diagnosis's rule, which refuses nothing ──
  pub diagnosis_goes_on : step_in class Diagnosis image load last a ≢ refuses
  unfolding step_in step_by
  diagnosis_goes_on =
      let s = site_in class image load last a in
      fine≢refuses (by (is_passable s.causes) _ _ (follow_fine (inside load last) s.flow s.next s.target) (calls_fine s.flow s.target))
    where
      by : (b : Bool) (x y : Step) → Fine (as_step x) → Fine (as_step y) → Fine (as_step (cond b x y))
      by true x y f g = f
      by false x y f g = g

  -- at a site without a cause the two rules have one step
  pub clear_same : is_clear (site_in class image load last a).causes ≡ true → step_in class Span image load last a ≡ step_in class Diagnosis image load last a
  unfolding step_in step_by
  clear_same e = by (site_in class image load last a).causes _ _ e
    where
      by : (c : Causes) (x y : Step) → is_clear c ≡ true → as_step (cond (is_clear c) x Refuses) ≡ as_step (cond (is_passable c) x y)
      by Clear x y e = refl
      by (One c) x y e = absurd (false≢true e)
      by (Two c d) x y e = absurd (false≢true e)
