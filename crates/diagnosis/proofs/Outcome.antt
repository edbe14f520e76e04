-- Each way out of `diagnose` past the first tests is one of the answers.
use mathlib.Core.Path.{◌≡◌, refl, sym, ap, ◌∙◌}
use mathlib.Core.List.{List, ◌++◌}
use Prim.Native.Nat.{ℕ, ◌≤◌, ◌<◌}
use native.Mathlib.Omega.{arith}
use lib.ListN.{length, drop, length-map}
use Rattle.std.specs.Prelude.{Option, Ok, Err}
use Rattle.lists.specs.Lists.{◌∈◌}
use Rattle.refusal.specs.declared.Refusal.TheVariants.{Short}
use Rattle.mos6502.specs.Class.{manual_class}
use Rattle.image.specs.declared.Bounds.{Bounds}
use Rattle.image.specs.Image.{last}
use Rattle.address_set.specs.Map.{members, members_in}
use Rattle.opening.proofs.First.{Opens, ready}
use Rattle.site.specs.declared.Reading.TheVariants.{Plain}
use Rattle.reach.specs.Walk as machine
use Rattle.walk.specs.declared.End.{End}
use Rattle.walk.specs.declared.End.TheVariants.{Finished, Refused, Spent, Full}
use Rattle.walk.specs.declared.Rule.TheVariants.{Diagnosis}
use Rattle.walk.specs.Walked.{as_end, Walked}
use Rattle.walk.proofs.Members.{met_scan, met_count}
use Rattle.extent.specs.declared.Extent.{Extent}
use Rattle.extent.specs.Extent.{extent_in}
use Rattle.recorder.specs.declared.Pair.{Pair}
use Rattle.recorder.specs.Recorded.{undecoded_of}
use Rattle.recorder.specs.Records.{record_of, records_of, pairs_of}
use Rattle.weights.specs.Weights.{Weighs}
use Rattle.weights.proofs.Weighed.{weighed}
use Rattle.diagnosis.specs.Steps.{Added, Fills}
use Rattle.diagnosis.specs.Answers.{Answers}
use Rattle.diagnosis.proofs.Found.{found}
use Rattle.diagnosis.proofs.Measured.{measured}

-- a record for each pair
one_each : (image : List ℕ) (load last : ℕ) (order : List ℕ) (weight : ℕ → ℕ) (pairs : List Pair)
    → length (records_of manual_class image load last order weight pairs) ≡ length pairs
one_each image load last order weight pairs = length-map pairs (record_of manual_class image load last order weight)

-- an end that is not full
unfull : (e : End) → ((pc : ℕ) → e ≡ Full pc → ⊥) → (pc : ℕ) → as_end e ≡ machine.full pc → ⊥
unfull Finished f pc q = let z : ◌≡◌ {A = ℕ} 0 1 = cc in omega arith
unfull (Refused p) f pc q = let z : ◌≡◌ {A = ℕ} 0 1 = cc in omega arith
unfull (Spent p) f pc q = let z : ◌≡◌ {A = ℕ} 0 1 = cc in omega arith
unfull (Full p) f pc q = f p refl

module _ (image : List ℕ) (load : ℕ) (entries : List ℕ) (words : (a : ℕ) → a ∈ entries → a < 65536) where
  module _ {e : End} (left : (pc : ℕ) → e ≡ Full pc → ⊥) {map map' : List ℕ} {undecoded : Option ℕ} {n : ℕ} (u : undecoded ≡ undecoded_of (as_end e)) where
    pub short : {b : Bounds} (slots : List ℕ) → Opens image load entries (Ok b) → Walked Diagnosis image b.load b.last entries e map
        → Added b.load b.last entries map map' → n ≡ length (pairs_of image b.load b.last undecoded map')
        → length slots < n → Answers manual_class image load entries slots slots (Err (Short n))
    short slots (ready r) w a c h =
        let v : (x : ℕ) → (k : ℕ) × Weighs manual_class image load (last image load) x entries k = weighed manual_class image load (last image load) entries in
        let order = members_in load (last image load) map' in
        let P = pairs_of image load (last image load) (undecoded_of (as_end e)) map' in (
          records_of manual_class image load (last image load) order (λ x. (v x).0) P,
          found image load entries r w a words (unfull e left) (λ x. (v x).1),
          rw u at c ∙ sym (one_each image load (last image load) order (λ x. (v x).0) P),
          h,
          refl,
        )

    pub answered : {b : Bounds} {x : Extent} {count : ℕ} (slots slots' : List ℕ) → Opens image load entries (Ok b)
        → Walked Diagnosis image b.load b.last entries e map → x ≡ extent_in Plain image b.load b.last undecoded entries map
        → count ≡ length (members map) → Added b.load b.last entries map map' → n ≡ length (pairs_of image b.load b.last undecoded map')
        → n ≤ length slots → Fills image b.load b.last entries map' undecoded slots slots'
        → Answers manual_class image load entries slots slots' (Ok (record { low = x.low; high = x.high; count = count; records = n }))
    unfolding found
    answered slots slots' (ready r) w q s a c h f =
        let g : Fills image load (last image load) entries map' (undecoded_of (as_end e)) slots slots' = rw u at f in
        let P = pairs_of image load (last image load) (undecoded_of (as_end e)) map' in
        let order = members_in load (last image load) map' in
        let R = records_of manual_class image load (last image load) order g.weight P in
        let size : length R ≡ length P = one_each image load (last image load) order g.weight P in
        let number : n ≡ length P = rw u at c in (
          R,
          found image load entries r w a words (unfull e left) g.weighs,
          measured manual_class image load entries r w.walk (members_in load (last image load) map) (met_scan w (omega (arith, r.top))) (rw u at q)
              (s ∙ met_count w (omega (arith, r.top))),
          number ∙ sym size,
          omega arith,
          g.exact ∙ ap (λ (k : ℕ). R ++ drop k slots) (sym size),
        )
