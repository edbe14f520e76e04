-- Where the image ends by 0xFFFF, the wrapped byte at an address is there exactly where the address is inside; so the byte after 0xFFFF, that at 0, is there
-- only where load is 0.
use Rattle.std.proofs.Common.{◌≡◌, ℕ, ◌+◌, ◌-◌, ◌%◌, ◌<◌, ◌≤◌, List, length, ◌∙◌, arith, le-ltb, lt-ltb}
use native.Mathlib.Decide.{dec_le}
use Rattle.std.specs.Prelude.{None}
use Rattle.image.specs.Image.{last, byte_at, after}
use Rattle.image.specs.Answers.{held, wrapped_byte}
use Rattle.image.proofs.Inside.{inside_yes, inside_no}

module _ (image : List ℕ) (load a : ℕ) (some : 0 < length image) (by-top : load + length image ≤ 65536) (address : a < 65536) where
  pub wrapped_held : wrapped_byte image load a ≡ held image load (last image load) a
  unfolding byte_at
  wrapped_held = by (dec_le load a) (dec_le a (last image load))
    where
      outside : (load ≤ a → a ≤ last image load → ⊥) → length image ≤ (a + 65536 - load) % 65536 → wrapped_byte image load a ≡ held image load (last image load) a
      outside out far = rw (inside_no load (last image load) a out, le-ltb ((a + 65536 - load) % 65536) (length image) far)

      by : Dec (load ≤ a) → Dec (a ≤ last image load) → wrapped_byte image load a ≡ held image load (last image load) a
      by (yes p) (yes q) =
          let e : (a + 65536 - load) % 65536 ≡ a - load = omega arith in
          rw (inside_yes load (last image load) a p q, e, lt-ltb (a - load) (length image) (omega arith))
      by (yes p) (no q) = outside (λ x y. q y) (omega arith)
      by (no p) d = outside (λ x y. p x) (omega arith)

pub after_top : (image : List ℕ) (load : ℕ) → 0 < length image → load + length image ≤ 65536 → ¬ (load ≡ 0) → wrapped_byte image load (after 0xFFFF) ≡ None
after_top image load some by-top high =
    wrapped_held image load 0 some by-top (omega arith) ∙ rw (inside_no load (last image load) 0 (λ p q. high (omega arith)))
