-- `pages::note_limits` meets its contract: a pair at the member that the iterator gives counts for the byte that it loads, and the others stay as they were.
use Rattle.std.proofs.Common.{◌≡◌, ℕ, ◌<◌, Bool, true, false, cond, ◌&&◌, List, ◌∷◌, length, slice_set, Some, None, sym, refl, ap, ◌∙◌, arith, get_or-set_other, get_or-set_same, eq-eqb, ne_eqb}
use native.Mathlib.Decide.{ℕ_discrete}
use Rattle.address_set.specs.Map.{has}
use Rattle.resolver.specs.declared.Seen.{Seen}
use Rattle.resolver.specs.declared.Seen.TheVariants.{Never}
use Rattle.resolver.specs.Resolve.{argument_at, is_value, seen_at, seen_with}
use Rattle.pages.specs.Pages.{is_op, is_on, compared_at, seen_also, limit_over}
use Rattle.pages.proofs.Arrays.{filled_at}
use Rattle.pages.proofs.note_limits.Goals as goal

-- one more value for the byte z
module _ (limits : List Seen) (z y v : ℕ) (h : z < length limits) where
  noted : seen_at (slice_set limits z (seen_with (seen_at limits z) (Some v))) y
      ≡ cond (is_value (Some z) y) (seen_with (seen_at limits y) (Some v)) (seen_at limits y)
  noted = at (ℕ_discrete y z)
    where
      at : Dec (y ≡ z)
          → seen_at (slice_set limits z (seen_with (seen_at limits z) (Some v))) y
          ≡ cond (is_value (Some z) y) (seen_with (seen_at limits y) (Some v)) (seen_at limits y)
      at (yes e) = rw (e, get_or-set_same limits z (seen_with (seen_at limits z) (Some v)) Never h, eq-eqb z z refl)
      at (no n) = rw (get_or-set_other limits z y (seen_with (seen_at limits z) (Some v)) Never n, ne_eqb z y (λ e. n (sym e)))

-- an instruction at `a` is passed, before which s is known of the byte z
module _ (image : List ℕ) (load : ℕ) (met : ℕ → Bool) (a : ℕ) (rest : List ℕ) (z : ℕ) (s : Seen) {all : Seen}
    (kept : limit_over image load met z (a ∷ rest) s ≡ all) where
  turn : {s' : Seen} → cond (is_on image load 0xA5 z a) (seen_also s (compared_at image load met a)) s ≡ s' → limit_over image load met z rest s' ≡ all
  unfolding limit_over
  turn e = ap (limit_over image load met z rest) (sym e) ∙ kept

  no_load : is_op image load 0xA5 a ≡ false → limit_over image load met z rest s ≡ all
  no_load e = turn (rw e)

  no_operand : argument_at image load a ≡ None → limit_over image load met z rest s ≡ all
  no_operand e = turn (rw e (by (is_op image load 0xA5 a)))
    where
      by : (b : Bool) → cond (b && false) (seen_also s (compared_at image load met a)) s ≡ s
      by true = refl
      by false = refl

  not_compared : compared_at image load met a ≡ None → limit_over image load met z rest s ≡ all
  not_compared e = turn (rw e (by (is_on image load 0xA5 z a)))
    where
      by : (b : Bool) → cond b s s ≡ s
      by true = refl
      by false = refl

  compared : {y v : ℕ} → is_op image load 0xA5 a ≡ true → argument_at image load a ≡ Some y → compared_at image load met a ≡ Some v
      → limit_over image load met z rest (cond (is_value (Some y) z) (seen_with s (Some v)) s) ≡ all
  compared e f g = turn (rw (e, f, g))

pub loop-a-init : goal.loop-a-init
loop-a-init c = record {
  size = refl;
  each = λ z. rw (c.into_iter-a-iterator.ensures.into_iter_gives, c.members_in-a-items.ensures, filled_at 256 z Never);
}

pub loop-a-preserved-in-Some-compared_at : goal.loop-a-preserved-in-Some-compared_at
loop-a-preserved-in-Some-compared_at c =
    let image = c.args.image.now in
    let load = c.args.bounds.load in
    let known = c.loop-a in
    record {
      size = c.note.array_long;
      each = λ z.
          let kept = rw c.in-Some.ensures.steps at known.invariant.each z in
          rw (c.note.ensures, noted known.limits c.in-Some-argument_at.z z c.in-Some-compared_at.v (omega (arith, known.invariant.size)))
          (compared image load (has c.args.map.now) c.in-Some.a _ z (seen_at known.limits z) kept (sym c.is_op.ensures ∙ c.if-is_op.true)
          (sym c.argument_at.ensures ∙ c.in-Some-argument_at.is) (sym c.compared_at.ensures ∙ c.in-Some-compared_at.is));
    }

pub loop-a-preserved-in_default-compared_at : goal.loop-a-preserved-in_default-compared_at
loop-a-preserved-in_default-compared_at c =
    let image = c.args.image.now in
    let load = c.args.bounds.load in
    let known = c.loop-a in
    record {
      size = known.invariant.size;
      each = λ z.
          let kept = rw c.in-Some.ensures.steps at known.invariant.each z in
          not_compared image load (has c.args.map.now) c.in-Some.a _ z (seen_at known.limits z) kept (sym c.compared_at.ensures ∙ c.in_default-compared_at.is);
    }

pub loop-a-preserved-in_default : goal.loop-a-preserved-in_default
loop-a-preserved-in_default c =
    let image = c.args.image.now in
    let load = c.args.bounds.load in
    let known = c.loop-a in
    record {
      size = known.invariant.size;
      each = λ z.
          let kept = rw c.in-Some.ensures.steps at known.invariant.each z in
          no_operand image load (has c.args.map.now) c.in-Some.a _ z (seen_at known.limits z) kept (sym c.argument_at.ensures ∙ c.in_default.is);
    }

pub loop-a-preserved : goal.loop-a-preserved
loop-a-preserved c =
    let image = c.args.image.now in
    let load = c.args.bounds.load in
    let known = c.loop-a in
    record {
      size = known.invariant.size;
      each = λ z.
          let kept = rw c.in-Some.ensures.steps at known.invariant.each z in
          no_load image load (has c.args.map.now) c.in-Some.a _ z (seen_at known.limits z) kept (sym c.is_op.ensures ∙ c.if-is_op.false);
    }

pub returns : goal.returns
unfolding limit_over
returns c = record { size = c.loop-a.invariant.size; each = λ z. rw c.in-None.ensures.steps.0 at c.loop-a.invariant.each z }
