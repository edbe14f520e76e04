-- `resolver::note_store` meets its contract: a store to a known byte is noted there and leaves the others, and any other instruction leaves all.
use Rattle.std.proofs.Common.{◌≡◌, ℕ, ◌<◌, true, List, length, slice_set, Option, Some, sym, refl, ◌∙◌, arith, length-set, get_or-set_other, get_or-set_same, eq-eqb, ne_eqb}
use native.Mathlib.Decide.{ℕ_discrete}
use Rattle.tracker.specs.declared.Registers.{Registers}
use Rattle.tracker.specs.Track.{stored}
use Rattle.resolver.specs.declared.Seen.{Seen}
use Rattle.resolver.specs.declared.Seen.TheVariants.{Never}
use Rattle.resolver.specs.Resolve.{is_store, seen_after, seen_at, seen_with, Passed}
use Rattle.resolver.proofs.note_store.Goals as goal

module _ {op : ℕ} {argument : Option ℕ} {r : Registers} {seen : List Seen} where
  noted : {z : ℕ} → is_store op ≡ true → argument ≡ Some z → z < length seen
      → Passed op argument r seen (slice_set seen z (seen_with (seen_at seen z) (stored op r)))
  noted {z} store known h = record { size = length-set seen z _; each = λ y. at y (ℕ_discrete y z) }
    where
      at : (y : ℕ) → Dec (y ≡ z) → seen_at (slice_set seen z (seen_with (seen_at seen z) (stored op r))) y ≡ seen_after y op argument r (seen_at seen y)
      at y (yes e) = rw (store, known, e, eq-eqb z z refl) (get_or-set_same seen z _ Never h)
      at y (no n) = rw (store, known, ne_eqb z y (λ e. n (sym e))) (get_or-set_other seen z y _ Never n)

pub returns-in-Some : goal.returns-in-Some
returns-in-Some c = rw (c.note.ensures, c.stored.ensures) (noted (sym c.is_store.ensures ∙ c.if-is_store.true) c.in-Some.is (omega arith))
