-- Locality of a step: at a site that the span's rule accepts, another image has the same step, if it has the same instruction there, its bounds pass the
-- addresses that follow, and it lies within the first. A next address that is needed follows; one that is not needed does not count.
use mathlib.Core.Path.{◌≡◌, refl, sym, ◌∙◌}
use mathlib.Core.Logic.{◌⊎◌, inl, inr}
use mathlib.Core.Bool.{Bool, true, false, cond, false≢true}
use mathlib.Core.List.Memᴰ.{head as here}
use mathlib.Core.List.Memᴰ.{tail as there}
use Prim.Native.Nat.{ℕ, ◌+◌, ◌%◌}
use Rattle.lists.specs.Lists.{◌∈◌}
use Rattle.lists.proofs.Tests.{clash, either}
use Rattle.mos6502.specs.declared.Decoded.{Decoded}
use Rattle.mos6502.specs.declared.Flow.{Flow}
use Rattle.mos6502.specs.declared.Flow.TheVariants.{Next, Jump, Call, Branch, Stop, Refuse}
use Rattle.mos6502.specs.Class.{length_of}
use Rattle.std.specs.Prelude.{Option, Some, None}
use Rattle.image.specs.Image.{branch_target}
use Rattle.site.specs.declared.Causes.{Causes}
use Rattle.site.specs.declared.Causes.TheVariants.{Clear, One, Two}
use Rattle.site.specs.declared.Site.{Site}
use Rattle.site.specs.Site.{whole_at, operand_at, next_at, ran_off, flow_cause, target_of, pointer_cause, also, whole_site, broken_site, site_at}
use Rattle.reach.specs.Reach.{follows}
use Rattle.walk.specs.declared.Step.{Step}
use Rattle.walk.specs.declared.Step.TheVariants.{Goes, Forks}
use Rattle.walk.specs.declared.Rule.TheVariants.{Span}
use Rattle.walk.specs.Step.{is_clear, forks_to, follow, step_by, as_step}

-- neither the first causes nor the others
also_clear : (c d : Causes) → is_clear (also c d) ≡ true → (is_clear c ≡ true) × (is_clear d ≡ true)
also_clear Clear d e = (refl, e)
also_clear (One b) Clear e = absurd (false≢true e)
also_clear (One b) (One c) e = absurd (false≢true e)
also_clear (One b) (Two c d) e = absurd (false≢true e)
also_clear (Two b c) d e = absurd (false≢true e)

clear_also : (c d : Causes) → is_clear c ≡ true → is_clear d ≡ true → is_clear (also c d) ≡ true
clear_also Clear d p q = q
clear_also (One b) d p q = absurd (false≢true p)
clear_also (Two b c) d p q = absurd (false≢true p)

-- a site without a cause is whole
pub clear_whole : (class : ℕ → Decoded) (byte : ℕ → ℕ) (last : ℕ) (inside : ℕ → Bool) (a : ℕ) → is_clear (site_at class byte last inside a).causes ≡ true
    → (site_at class byte last inside a).whole ≡ true
unfolding site_at
clear_whole class byte last inside a e =
    let d = class (byte a) in
    let n = length_of d.mode in
    by (whole_at last a n) (whole_site (byte a) (operand_at byte a n) (next_at inside a n) d) (broken_site (byte a) d) refl refl e
  where
    by : (test : Bool) (ended broken : Site) → ended.whole ≡ true → is_clear broken.causes ≡ false → is_clear (cond test ended broken).causes ≡ true
        → (cond test ended broken).whole ≡ true
    by true ended broken w c e = w
    by false ended broken w c e = absurd (clash e c)

module _ (inside inside' : ℕ → Bool) (within : (b : ℕ) → inside b ≡ false → inside' b ≡ false) where
  -- what follows in the first passes the test of the other
  abbrev Passing : Step → Type 0
  Passing s = (b : ℕ) → b ∈ follows (as_step s) → inside b ≡ inside' b

  fork_same : (n t : ℕ) → Passing (forks_to inside (Some n) (Some t)) → forks_to inside (Some n) (Some t) ≡ forks_to inside' (Some n) (Some t)
  fork_same n t same = by (either (inside t))
    where
      by : (inside t ≡ true) ⊎ (inside t ≡ false) → forks_to inside (Some n) (Some t) ≡ forks_to inside' (Some n) (Some t)
      by (inl e) = rw (← rw e at same t (there (here refl)), e)
      by (inr e) = rw (e, within t e)

  fork_next : (n t : ℕ) → n ∈ follows (as_step (forks_to inside (Some n) (Some t)))
  fork_next n t = by (inside t)
    where
      by : (b : Bool) → n ∈ follows (as_step (cond b (Forks n t) (Goes n)))
      by true = here refl
      by false = here refl

  module _ (a n : ℕ) where
    abbrev next : Option ℕ
    next = next_at inside a n

    abbrev next' : Option ℕ
    next' = next_at inside' a n

    -- a next address that is needed is inside
    needed : is_clear (ran_off next) ≡ true → inside (a + n) ≡ true
    needed e = by (inside (a + n)) e
      where
        by : (b : Bool) → is_clear (ran_off (cond b (Some (a + n)) None)) ≡ true → b ≡ true
        by true e = refl
        by false e = absurd (false≢true e)

    -- the same step, and no cause
    record Alike (f : Flow) (opcode operand : ℕ) : Type 0 where
      step : follow inside f next (target_of f operand next) ≡ follow inside' f next' (target_of f operand next')
      clear : is_clear (flow_cause f opcode next') ≡ true

    flow_local : (f : Flow) (opcode operand : ℕ) → is_clear (flow_cause f opcode next) ≡ true → Passing (follow inside f next (target_of f operand next))
        → Alike f opcode operand
    flow_local Stop opcode operand e same = record { step = refl; clear = refl }
    flow_local Jump opcode operand e same = record { step = refl; clear = refl }
    flow_local Refuse opcode operand e same = absurd (false≢true e)
    flow_local Next opcode operand e same =
        let on = needed e in
        let passing : Passing (Goes (a + n)) = rw on at same in
        let on' = sym (passing (a + n) (here refl)) ∙ on in
        record { step = rw (on, on'); clear = rw on' }
    flow_local Call opcode operand e same =
        let on = needed e in
        let passing : Passing (forks_to inside (Some (a + n)) (Some operand)) = rw on at same in
        let on' = sym (passing (a + n) (fork_next (a + n) operand)) ∙ on in
        record { step = rw (on, on') (fork_same (a + n) operand passing); clear = rw on' }
    flow_local Branch opcode operand e same =
        let on = needed e in
        let target = branch_target (a + n) (operand % 256) in
        let passing : Passing (forks_to inside (Some (a + n)) (Some target)) = rw on at same in
        let on' = sym (passing (a + n) (fork_next (a + n) target)) ∙ on in
        record { step = rw (on, on') (fork_same (a + n) target passing); clear = rw on' }

    -- the same of a whole site
    pub step_local : (opcode operand : ℕ) (d : Decoded) → is_clear (whole_site opcode operand next d).causes ≡ true
        → Passing (step_by Span inside (whole_site opcode operand next d))
        → (step_by Span inside (whole_site opcode operand next d) ≡ step_by Span inside' (whole_site opcode operand next' d))
        × (is_clear (whole_site opcode operand next' d).causes ≡ true)
    unfolding step_by
    step_local opcode operand d e same =
        let c = also_clear (pointer_cause d.mode) (flow_cause d.flow opcode next) e in
        let alike = flow_local d.flow opcode operand c.1 (rw e at same) in
        let clear = clear_also (pointer_cause d.mode) (flow_cause d.flow opcode next') c.0 alike.clear in
        (rw (e, clear) alike.step, clear)
