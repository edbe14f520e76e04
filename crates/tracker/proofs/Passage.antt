-- One pass serves every prefix: the tracker of a prefix comes to each place that a shorter one came to. A pair is passed by two bytes where the tracker knows the
-- opcode, and by one where it does not; where fewer than two bytes are left the state stays.
use mathlib.Core.Path.{◌≡◌, ap, ◌∙◌}
use mathlib.Core.Bool.{Bool, true, false}
use mathlib.Core.List.{List, [], ◌∷◌}
use Prim.Native.Nat.{ℕ, suc, ◌+◌, ◌-◌, ◌≤◌, ◌<◌}
use native.Mathlib.Decide.{dec_lt}
use native.Mathlib.Omega.{arith}
use lib.ListN.{length, get_or, take}
use lib.Seq.{drop-cons}
use Rattle.tracker.specs.declared.ImmState.{ImmState}
use Rattle.tracker.specs.Track.{nothing, is_tracked, applied, track, tracked, part, Reached}

-- ── parts ──
module _ (code : List ℕ) (at n : ℕ) (long : n ≤ length code) where
  part_none : n ≤ at → part code at n ≡ []
  part_none h = let e : n - at ≡ 0 = omega arith in rw e

  part_cons : at < n → part code at n ≡ get_or code at 0 ∷ part code (at + 1) n
  part_cons h =
      let e : n - at ≡ suc (n - (at + 1)) = omega arith in
      let more : suc at ≡ at + 1 = omega arith in
      rw (e, drop-cons code at 0 (omega arith), more)

-- ── a pair ──
module _ (s : ImmState) (op arg : ℕ) (rest : List ℕ) where
  abbrev either_way : Bool → ImmState
  either_way b = elim b as (λ x. ImmState) [ true ↦ track (applied op arg s) rest | false ↦ track s (arg ∷ rest) ]

  pair_known_lem : is_tracked op ≡ true → track s (op ∷ arg ∷ rest) ≡ track (applied op arg s) rest
  unfolding track
  pair_known_lem e = ap either_way e

  pair_other : is_tracked op ≡ false → track s (op ∷ arg ∷ rest) ≡ track s (arg ∷ rest)
  unfolding track
  pair_other e = ap either_way e

-- ── passing ──
module _ (code : List ℕ) (at : ℕ) (s : ImmState) (reached : Reached code at s) where
  pair : (n : ℕ) → at + 1 < n → n ≤ length code → tracked (take n code) ≡ track s (get_or code at 0 ∷ get_or code (at + 1) 0 ∷ part code (at + 2) n)
  pair n h l =
      let more : at + 1 + 1 ≡ at + 2 = omega arith in
      reached n (omega arith) l ∙ ap (track s) (part_cons code at n l (omega arith) ∙ ap (λ (r : List ℕ). get_or code at 0 ∷ r) (part_cons code (at + 1) n l h ∙ rw more))

  pub pass_two : is_tracked (get_or code at 0) ≡ true → Reached code (at + 2) (applied (get_or code at 0) (get_or code (at + 1) 0) s)
  pass_two e n h l = pair n (omega arith) l ∙ pair_known_lem s _ _ _ e

  -- fewer than two bytes are left
  pub at_end : (n : ℕ) → at ≤ n → n ≤ at + 1 → n ≤ length code → tracked (take n code) ≡ s
  unfolding track
  at_end n p q l = reached n p l ∙ by (dec_lt at n)
    where
      by : Dec (at < n) → track s (part code at n) ≡ s
      by (yes h) = rw (part_cons code at n l h, part_none code (at + 1) n l q)
      by (no h) = rw (part_none code at n l (omega arith))

  pub pass_one : at + 1 < length code → is_tracked (get_or code at 0) ≡ false → Reached code (at + 1) s
  unfolding track
  pass_one some e n h l = by (dec_lt (at + 1) n)
    where
      by : Dec (at + 1 < n) → tracked (take n code) ≡ track s (part code (at + 1) n)
      by (yes q) =
          let more : at + 1 + 1 ≡ at + 2 = omega arith in
          pair n q l ∙ pair_other s (get_or code at 0) (get_or code (at + 1) 0) (part code (at + 2) n) e ∙ rw (part_cons code (at + 1) n l q, more)
      by (no q) = at_end n (omega arith) (omega arith) l ∙ rw (part_none code (at + 1) n l (omega arith))

pub reached_start : (code : List ℕ) → Reached code 0 nothing
reached_start code n h l = let e : n - 0 ≡ n = omega arith in rw e
