-- A loop over the map's members takes their pairs and records address by address: at each step what is left begins with those of the address that it
-- comes to. The loop goes over a range that has all members, so its pairs and records are all of them.
use mathlib.Core.Path.{◌≡◌, sym, ◌∙◌}
use mathlib.Core.Bool.{Bool, true, false, cond}
use mathlib.Core.List.{List, [], ◌∷◌, ◌++◌, map-append}
use Prim.Native.Nat.{ℕ, suc, ◌+◌, ◌-◌, ◌*◌, ◌≤◌, ◌<◌}
use native.Mathlib.Decide.{dec_lt}
use native.Mathlib.Omega.{arith}
use lib.ListN.{length, length-append, length-map}
use Rattle.std.specs.Prelude.{Option}
use Rattle.lists.specs.Lists.{scan}
use Rattle.lists.proofs.Scan.{scan_none, scan_within}
use Rattle.lists.proofs.Tests.{fail}
use Rattle.mos6502.specs.Class.{manual_class}
use Rattle.image.specs.Image.{inside}
use Rattle.address_set.specs.Map.{has, members_in, Within}
use Rattle.address_set.proofs.Laws.{members_from_lem}
use Rattle.cause.specs.declared.RefusalCause.TheVariants.{Budget, EntryOutside}
use Rattle.site.specs.declared.Causes.{Causes}
use Rattle.site.specs.declared.Causes.TheVariants.{Clear, One, Two}
use Rattle.site.specs.Site.{list_of, site_in}
use Rattle.extent.specs.Extent.{is_skipped}
use Rattle.recorder.specs.declared.Pair.{Pair}
use Rattle.recorder.specs.Recorded.{causes_at, pairs_at, pairs_over}
use Rattle.recorder.specs.Records.{record_of, records_of}

-- the range has all members: none stands before its first address, and none behind its last
pub members_all : {first last : ℕ} {map : List ℕ} → Within first last map → last < 65536 → scan (has map) 0 65536 ≡ members_in first last map
members_all {first} {last} {map} within top = by (dec_lt (suc last) first)
  where
    by : Dec (suc last < first) → scan (has map) 0 65536 ≡ members_in first last map
    by (yes empty) =
        scan_none (has map) 0 65536 (λ b p q. fail (has map b) (λ t. omega (arith, within.each b t)))
        ∙ sym (scan_none (has map) first (suc last - first) (λ b p q. absurd (omega arith)))
    by (no some) =
        members_from_lem within (omega arith)
        ∙ scan_within (has map) first first (suc last) (65536 - first) (omega arith) (omega arith) (omega arith) (λ b p q t. (p, omega (arith, within.each b t)))

module _ (image : List ℕ) (load last : ℕ) (undecoded : Option ℕ) where
  -- the pairs of some addresses
  abbrev pub pairs : List ℕ → List Pair
  pairs l = pairs_over manual_class image load last undecoded l

  -- an address has no more than two causes
  causes_few : (a : ℕ) → length (causes_at manual_class image load last undecoded a) ≤ 2
  causes_few a = by (inside load last a) (is_skipped undecoded a) (site_in manual_class image load last a).causes
    where
      by : (within skipped : Bool) (causes : Causes) → length (cond within (cond skipped (Budget ∷ []) (list_of causes)) (EntryOutside ∷ [])) ≤ 2
      by true true causes = omega arith
      by true false Clear = omega arith
      by true false (One c) = omega arith
      by true false (Two c d) = omega arith
      by false skipped causes = omega arith

  pub pairs_none : {l : List ℕ} → l ≡ [] → pairs l ≡ []
  unfolding pairs_over
  pairs_none e = rw e

  pub pairs_more : (a : ℕ) (l : List ℕ) → length (pairs (a ∷ l)) ≡ length (causes_at manual_class image load last undecoded a) + length (pairs l)
  unfolding pairs_over
  pairs_more a l = length-append (pairs_at manual_class image load last undecoded a) (pairs l) ∙ rw length-map

  pub pairs_few : (l : List ℕ) → length (pairs l) ≤ 2 * length l
  unfolding pairs_over
  pairs_few [] = omega arith
  pairs_few (a ∷ l) = omega (arith, pairs_more a l, causes_few a, pairs_few l)

  module _ (met : List ℕ) where
    -- the records of the pairs of some addresses, and of those at one, each with weight 0
    abbrev pub records : List ℕ → List ℕ
    records l = records_of manual_class image load last met (λ b. 0) (pairs l)

    abbrev pub records_at : ℕ → List ℕ
    records_at a = records_of manual_class image load last met (λ b. 0) (pairs_at manual_class image load last undecoded a)

    pub records_none : {l : List ℕ} → l ≡ [] → records l ≡ []
    records_none e = rw (pairs_none e)

    pub records_next : (a : ℕ) (l : List ℕ) → records (a ∷ l) ≡ records_at a ++ records l
    unfolding pairs_over
    records_next a l = map-append (record_of manual_class image load last met (λ b. 0)) (pairs_at manual_class image load last undecoded a) (pairs l)
