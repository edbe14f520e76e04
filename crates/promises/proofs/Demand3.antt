-- Demand 3 holds. Both the image with the same bytes and the image that is cut lie within the first and hold low to high as it does, so that both have the
-- span; and where a span is given, the diagnosis has no record.
use mathlib.Core.Path.{◌≡◌, sym, ap, ◌∙◌}
use mathlib.Core.List.{List}
use Prim.Native.Nat.{ℕ, suc, ◌+◌, ◌-◌, ◌≤◌}
use native.Mathlib.Omega.{arith}
use lib.ListN.{length, get_or, drop, length-drop}
use lib.Seq.{length-take-le, get_or-take, get_or-drop}
use Rattle.std.proofs.Common.{Ok}
use Rattle.refusal.specs.Numbers.{number_of}
use Rattle.mos6502.specs.declared.Decoded.{Decoded}
use Rattle.mos6502.specs.Class.{manual_class}
use Rattle.image.specs.Image.{last, byte_at}
use Rattle.site.specs.declared.Reading.{Reading}
use Rattle.site.specs.declared.Reading.TheVariants.{Plain, Guarded}
use Rattle.span.specs.declared.Span.{Span}
use Rattle.span.specs.Answers.{values_of}
use Rattle.span.specs.Given.{Gives, Answers}
use Rattle.span.proofs.Local.{Holds, gives_there, range_inside}
use Rattle.span.proofs.Unique.{answers_unique}
use Rattle.diagnosis.proofs.Clean.{undisturbed}
use Rattle.promises.specs.Demand3.{SameBytes, cut, Gets, Demand3}

module _ (class : ℕ → Decoded) (reading : Reading) where
  -- an image with a span gets that one, and a diagnosis without refusals
  gets : (image : List ℕ) (load : ℕ) (entries : List ℕ) (s : Span) → Gives class image load entries reading s → Gets class reading image load entries s
  gets image load entries s g =
      record {
        given = g;
        only = λ r a. let e = answers_unique class image load entries reading r (Ok s) a g in (ap number_of e, ap values_of e);
        undisturbed = undisturbed class image load entries (g.list, g.possible);
      }

  module _ (image : List ℕ) (load : ℕ) (entries : List ℕ) (s : Span) (g : Gives class image load entries reading s) where
    inside : (load ≤ s.low) × (s.low ≤ s.high) × (s.high ≤ last image load)
    inside = range_inside class reading image load entries s g

    same_holds : (image' : List ℕ) → length image' ≡ length image → SameBytes image image' load s.low s.high → Holds image load image' load s.low s.high
    same_holds image' long bytes =
        let i = inside in
        record {
          some = omega (arith, g.possible.ready.image_some);
          from_load = omega arith;
          to_last = omega arith;
          low_there = i.0;
          high_there = omega arith;
          bytes = bytes;
        }

    abbrev part : List ℕ
    part = cut image load s.low s.high

    part_length : length part ≡ suc s.high - s.low
    part_length = length-take-le (suc s.high - s.low) (drop (s.low - load) image) (omega (arith, inside, length-drop (s.low - load) image, g.possible.ready.image_some))

    part_byte : (x : ℕ) → s.low ≤ x → x ≤ s.high → byte_at image load x ≡ byte_at part s.low x
    unfolding byte_at
    part_byte x p q =
        let i = inside in
        let place : s.low - load + (x - s.low) ≡ x - load = omega arith in
        sym (get_or-take (suc s.high - s.low) (drop (s.low - load) image) (x - s.low) 0 (omega arith)
        ∙ get_or-drop (s.low - load) image (x - s.low) 0 ∙ ap (λ i. get_or image i 0) place)

    cut_holds : Holds image load part s.low s.low s.high
    cut_holds =
        let i = inside in
        let n = part_length in
        record {
          some = omega arith;
          from_load = i.0;
          to_last = omega arith;
          low_there = omega arith;
          high_there = omega arith;
          bytes = part_byte;
        }

  -- for the plain and for the guarded reading
  pub demand_3 : (image : List ℕ) (load : ℕ) (entries : List ℕ) (s : Span) → Answers class image load entries reading (Ok s)
      → Demand3 class reading image load entries s
  demand_3 image load entries s g =
      record {
        same = λ image' long bytes. gets image' load entries s
            (gives_there class reading image load entries s g image' load (same_holds image load entries s g image' long bytes));
        alone = gets (cut image load s.low s.high) s.low entries s
            (gives_there class reading image load entries s g (cut image load s.low s.high) s.low (cut_holds image load entries s g));
      }

-- ── of the two calls ──
pub demand_3_plain : (image : List ℕ) (load : ℕ) (entries : List ℕ) (s : Span) → Answers manual_class image load entries Plain (Ok s)
    → Demand3 manual_class Plain image load entries s
demand_3_plain = demand_3 manual_class Plain

pub demand_3_guarded : (image : List ℕ) (load : ℕ) (entries : List ℕ) (s : Span) → Answers manual_class image load entries Guarded (Ok s)
    → Demand3 manual_class Guarded image load entries s
demand_3_guarded = demand_3 manual_class Guarded
