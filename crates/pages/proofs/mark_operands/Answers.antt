-- `pages::mark_operands` meets its contract: the operand of the member that the iterator gives is marked, and the others stay as they were.
use Rattle.std.proofs.Common.{◌≡◌, ℕ, ◌<◌, Bool, true, false, ◌||◌, List, length, slice_set, Some, sym, refl, ◌∙◌, arith, length-set, get_or-set_other, get_or-set_same, eq-eqb, ne_eqb}
use native.Mathlib.Decide.{ℕ_discrete}
use Rattle.resolver.specs.Resolve.{is_value}
use Rattle.pages.specs.Pages.{any_of}
use Rattle.pages.specs.Surveys.{is_marked}
use Rattle.pages.proofs.Arrays.{filled_at}
use Rattle.pages.proofs.mark_operands.Goals as goal

or_true : (b : Bool) → (b || true) ≡ true
or_true true = refl
or_true false = refl

or_none : (b : Bool) → (b || false) ≡ b
or_none true = refl
or_none false = refl

-- a byte z is marked
marked : (marks : List Bool) (z y : ℕ) (rest : Bool) → z < length marks
    → (is_marked (slice_set marks z true) y || rest) ≡ (is_marked marks y || (is_value (Some z) y || rest))
marked marks z y rest h = at (ℕ_discrete y z)
  where
    at : Dec (y ≡ z) → (is_marked (slice_set marks z true) y || rest) ≡ (is_marked marks y || (is_value (Some z) y || rest))
    at (yes e) = rw (e, get_or-set_same marks z true false h, eq-eqb z z refl) (sym (or_true (is_marked marks z)))
    at (no n) = rw (get_or-set_other marks z y true false n, ne_eqb z y (λ e. n (sym e)))

pub loop-a-init : goal.loop-a-init
loop-a-init c = record {
  size = refl;
  each = λ z. rw (c.into_iter-a-iterator.ensures.into_iter_gives, c.members_in-a-items.ensures, filled_at 256 z false);
}

pub loop-a-preserved-in-Some-argument_at : goal.loop-a-preserved-in-Some-argument_at
unfolding any_of
loop-a-preserved-in-Some-argument_at c = record {
  size = omega (arith, c.loop-a.invariant.size, length-set c.loop-a.marks c.in-Some-argument_at.z true);
  each = λ z.
      let named = sym c.argument_at.ensures ∙ c.in-Some-argument_at.is in
      let kept = rw (sym c.is_op.ensures ∙ c.if-is_op.true, named) at (rw c.in-Some.ensures.steps at c.loop-a.invariant.each z) in
      marked c.loop-a.marks c.in-Some-argument_at.z z _ (omega (arith, c.loop-a.invariant.size)) ∙ kept;
}

pub loop-a-preserved-in_default : goal.loop-a-preserved-in_default
unfolding any_of
loop-a-preserved-in_default c = record {
  size = c.loop-a.invariant.size;
  each = λ z.
      let absent = sym c.argument_at.ensures ∙ c.in_default.is in
      rw (sym c.is_op.ensures ∙ c.if-is_op.true, absent) at (rw c.in-Some.ensures.steps at c.loop-a.invariant.each z);
}

pub loop-a-preserved : goal.loop-a-preserved
unfolding any_of
loop-a-preserved c = record {
  size = c.loop-a.invariant.size;
  each = λ z. rw (sym c.is_op.ensures ∙ c.if-is_op.false) at (rw c.in-Some.ensures.steps at c.loop-a.invariant.each z);
}

pub returns : goal.returns
unfolding any_of
returns c = record {
  size = c.loop-a.invariant.size;
  each = λ z. sym (or_none _) ∙ (rw c.in-None.ensures.steps.0 at c.loop-a.invariant.each z);
}
