-- Locality of a span: an image that lies within the first, and has the bytes from low to high that the first has, has the same span. Every reachable
-- instruction lies from low to high, so it stands there too, with the same step; and what it names lies there, so it is named there too.
use mathlib.Core.Path.{◌≡◌, refl, sym, ap, subst, ◌∙◌}
use mathlib.Core.Logic.{◌↔◌, ◌⊎◌, inl, inr}
use mathlib.Core.Bool.{Bool, true, false}
use mathlib.Core.List.{List}
use Prim.Native.Nat.{ℕ, suc, ◌+◌, ◌-◌, ◌≤◌, ◌<◌}
use native.Mathlib.Omega.{arith}
use lib.Dec.{T}
use lib.ListN.{length}
use Rattle.lists.specs.Lists.{◌∈◌}
use Rattle.lists.proofs.Tests.{pass, passed, clash, either}
use Rattle.mos6502.specs.declared.Decoded.{Decoded}
use Rattle.image.specs.Image.{last, inside, byte_at}
use Rattle.image.proofs.Inside.{inside_yes, inside_no, inside_bounds}
use Rattle.site.specs.declared.Reading.{Reading}
use Rattle.site.specs.declared.Site.{Site}
use Rattle.site.specs.Site.{operand_at, next_at, whole_site, site_in}
use Rattle.site.specs.Named.{width_of, names}
use Rattle.site.proofs.Size.{site_size}
use Rattle.site.proofs.Covering.{names_inside, names_same}
use Rattle.site.proofs.Local.{size, site_len, stands}
use Rattle.reach.specs.Reach.{follows, followed}
use Rattle.reach.proofs.Finite.{reach_inside}
use Rattle.reach.proofs.Local.{Agree, reach_same, list_same}
use Rattle.walk.specs.declared.Rule.TheVariants.{Span as SpanRule}
use Rattle.walk.specs.Step.{is_clear, step_by, as_step}
use Rattle.walk.specs.Walked.{step_in}
use Rattle.walk.specs.Possible.{Reachable, Possible}
use Rattle.walk.proofs.Local.{clear_whole, step_local}
use Rattle.extent.specs.Named.{Named, by_entry, by_byte, by_operand}
use Rattle.extent.proofs.Range.{range_same}
use Rattle.span.specs.declared.Span.{Span}
use Rattle.span.specs.Given.{Gives}

-- The other image lies within the first, round low and high, and has the same bytes from low to high.
pub record Holds (image : List ℕ) (load : ℕ) (image' : List ℕ) (load' low high : ℕ) : Type 0 where
  pub some : 0 < length image'
  pub from_load : load ≤ load'
  pub to_last : last image' load' ≤ last image load
  pub low_there : load' ≤ low
  pub high_there : high ≤ last image' load'
  pub bytes : (x : ℕ) → low ≤ x → x ≤ high → byte_at image load x ≡ byte_at image' load' x

module _ (class : ℕ → Decoded) (reading : Reading) (image : List ℕ) (load : ℕ) (entries : List ℕ) (s : Span) (given : Gives class image load entries reading s) where
  abbrev at : ℕ → ℕ
  at = byte_at image load

  abbrev within : ℕ → Bool
  within = inside load (last image load)

  abbrev Reached : ℕ → Type 0
  Reached = Reachable class SpanRule image load entries

  abbrev Names : ℕ → Type 0
  Names = Named reading load (last image load) (site_in class image load (last image load)) entries Reached

  -- ── what is named lies inside ──
  whole : (a : ℕ) → Reached a → (site_in class image load (last image load) a).whole ≡ true
  whole a r =
      clear_whole class at (last image load) within a (given.possible.accepted a ((given.possible.reachable.exact a).1 r))

  -- the bytes of a reachable instruction
  byte_named : (a : ℕ) → Reached a → (x : ℕ) → a ≤ x → x < a + size class at a → Names x
  byte_named a r x p q = by_byte a r (passed (whole a r)) p (rw (site_len class at a (last image load) within) q)

  some_byte : (a : ℕ) → Reached a → 0 < size class at a
  some_byte a r = omega (arith, site_len class at a (last image load) within, site_size class at (last image load) within a (whole a r))

  named_inside : (x : ℕ) → Names x → (load ≤ x) × (x ≤ last image load)
  named_inside x (by_entry k t) = inside_bounds load (last image load) x (pass (within x) t)
  named_inside x (by_byte a r w p q) =
      omega (arith, inside_bounds load (last image load) a (pass (within a) (reach_inside r)), site_size class at (last image load) within a (whole a r))
  named_inside x (by_operand a r t) = names_inside reading load (last image load) (site_in class image load (last image load) a) x t

  pub range_inside : (load ≤ s.low) × (s.low ≤ s.high) × (s.high ≤ last image load)
  range_inside =
      ((named_inside s.low given.range.low_in).0, (given.range.covers s.low given.range.low_in).1, (named_inside s.high given.range.high_in).1)

  module _ (image' : List ℕ) (load' : ℕ) (holds : Holds image load image' load' s.low s.high) where
    abbrev within' : ℕ → Bool
    within' = inside load' (last image' load')

    -- ── what is named lies in the other image ──
    named_there : (x : ℕ) → Names x → within' x ≡ true
    named_there x k = inside_yes load' (last image' load') x (omega (arith, given.range.covers x k, holds.low_there)) (omega (arith, given.range.covers x k, holds.high_there))

    outside_there : (b : ℕ) → within b ≡ false → within' b ≡ false
    outside_there b e =
        inside_no load' (last image' load') b
        (λ p q. clash (inside_yes load (last image load) b (omega (arith, holds.from_load)) (omega (arith, holds.to_last))) e)

    entry_there : (a : ℕ) → a ∈ entries → within' a ≡ true
    entry_there a k = named_there a (by_entry k (given.possible.entries_inside a k))

    reached_there : (a : ℕ) → Reached a → within' a ≡ true
    reached_there a r = named_there a (byte_named a r a (omega arith) (omega (arith, some_byte a r)))

    ends_there : (a : ℕ) → Reached a → a + size class at a ≤ suc (last image' load')
    ends_there a r =
        let some = some_byte a r in
        let end : ℕ = a + size class at a - 1 in
        omega (arith, inside_bounds load' (last image' load') end (named_there end (byte_named a r end (omega arith) (omega arith))))

    -- ── a reachable instruction stands in both images ──
    abbrev instruction : (inside : ℕ → Bool) (a : ℕ) → Site
    instruction inside a = whole_site (at a) (operand_at at a (size class at a)) (next_at inside a (size class at a)) (class (at a))

    here_stands : (a : ℕ) → Reached a → instruction within a ≡ site_in class image load (last image load) a
    here_stands a r =
        stands class at a (last image load) within (whole a r) at (last image load) within (λ x p q. refl)
        (omega (arith, site_len class at a (last image load) within, site_size class at (last image load) within a (whole a r)))

    there_stands : (a : ℕ) → Reached a → instruction within' a ≡ site_in class image' load' (last image' load') a
    there_stands a r =
        stands class at a (last image load) within (whole a r) (byte_at image' load') (last image' load') within'
        (λ x p q. let c = given.range.covers x (byte_named a r x p q) in holds.bytes x c.0 c.1)
        (ends_there a r)

    -- ── with the same step ──
    passes : (a b : ℕ) → Reached a → b ∈ follows (step_in class SpanRule image load (last image load) a) → within b ≡ within' b
    passes a b r k = by (either (within b))
      where
        by : (within b ≡ true) ⊎ (within b ≡ false) → within b ≡ within' b
        by (inl e) = e ∙ sym (reached_there b (followed r k (passed e)))
        by (inr e) = e ∙ sym (outside_there b e)

    -- the two steps, and that the other site has no cause either
    abbrev Same : (a : ℕ) → Type 0
    Same a =
        (step_in class SpanRule image load (last image load) a ≡ step_in class SpanRule image' load' (last image' load') a)
        × (is_clear (site_in class image' load' (last image' load') a).causes ≡ true)

    same : (a : ℕ) → Reached a → Same a
    unfolding step_in
    same a r =
        let here = here_stands a r in
        let there = there_stands a r in
        let clear = subst (λ x. is_clear x.causes ≡ true) (sym here) (given.possible.accepted a ((given.possible.reachable.exact a).1 r)) in
        let l = step_local within within' outside_there a (size class at a) (at a) (operand_at at a (size class at a)) (class (at a)) clear
        (λ b k. passes a b r (subst (λ x. b ∈ follows (as_step (step_by SpanRule within x))) here k)) in
        (rw (← here, ← there) (ap as_step l.0), rw (← there) l.1)

    alike : Agree (step_in class SpanRule image load (last image load)) (step_in class SpanRule image' load' (last image' load')) within within' entries
    alike =
        record {
          steps = λ a r. (same a r).0;
          firsts = λ a k. pass _ (given.possible.entries_inside a k) ∙ sym (entry_there a k);
          laters = passes;
        }

    possible : Possible class SpanRule image' load' entries given.list
    possible =
        record {
          ready = record { image_some = holds.some; entries_some = given.possible.ready.entries_some; top = omega (arith, holds.to_last, given.possible.ready.top) };
          entries_inside = λ a k. passed (entry_there a k);
          reachable = (list_same alike given.list).0 given.possible.reachable;
          few = given.possible.few;
          accepted = λ a k. (same a ((given.possible.reachable.exact a).0 k)).1;
        }

    -- ── and the same named ──
    abbrev Names' : ℕ → Type 0
    Names' = Named reading load' (last image' load') (site_in class image' load' (last image' load')) entries (Reachable class SpanRule image' load' entries)

    operand_same : (a : ℕ) → Reached a → (x : ℕ)
        → T (names reading load (last image load) (site_in class image load (last image load) a) x)
        ↔ T (names reading load' (last image' load') (site_in class image' load' (last image' load') a) x)
    operand_same a r x =
        rw (← here_stands a r, ← there_stands a r)
        (names_same load (last image load) load' (last image' load') (operand_at at a (size class at a)) reading (width_of (class (at a)).mode)
        (omega (arith, given.possible.ready.top)) holds.from_load holds.to_last
        (λ y t. inside_bounds load' (last image' load') y (named_there y (by_operand a r (rw (← here_stands a r) t)))) x)

    names_there : (x : ℕ) → Names x → Names' x
    names_there x (by_entry k t) = by_entry k (passed (named_there x (by_entry k t)))
    names_there x (by_byte a r w p q) =
        by_byte a ((reach_same alike a).0 r) (rw (← there_stands a r) tt) p (rw (← there_stands a r) (rw (site_len class at a (last image load) within) at q))
    names_there x (by_operand a r t) = by_operand a ((reach_same alike a).0 r) ((operand_same a r x).0 t)

    names_here : (x : ℕ) → Names' x → Names x
    names_here x (by_entry k t) = by_entry k (given.possible.entries_inside x k)
    names_here x (by_byte a r w p q) = let h = (reach_same alike a).1 r in byte_named a h x p (rw (← there_stands a h) at q)
    names_here x (by_operand a r t) = let h = (reach_same alike a).1 r in by_operand a h ((operand_same a h x).1 t)

    pub gives_there : Gives class image' load' entries reading s
    gives_there =
        record { list = given.list; possible = possible; range = range_same (λ x. (names_there x, names_here x)) given.range; count = given.count }
