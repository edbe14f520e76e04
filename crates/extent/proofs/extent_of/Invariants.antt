-- What each turn of `extent::extent_of` keeps.
use Rattle.std.proofs.Common.{◌≡◌, List, ℕ, ◌++◌, Option}
use Rattle.mos6502.specs.Class.{manual_class}
use Rattle.image.specs.declared.Bounds.{Bounds}
use Rattle.address_set.specs.Map.{members_in}
use Rattle.address_set.specs.Next.{left}
use Rattle.site.specs.declared.Reading.{Reading}
use Rattle.site.specs.Site.{site_in}
use Rattle.extent.specs.declared.Extent.{Extent}
use Rattle.extent.specs.Extent.{over_sites}
use Rattle.extent.proofs.extent_of.Given as goal

-- the members met and those that are left are all; and the sites at those met have been taken in
pub record Kept (reading : Reading) (image : List ℕ) (b : Bounds) (map : List ℕ) (undecoded : Option ℕ) (met rest : List ℕ) (start e : Extent) : Type 0 where
  pub all : met ++ rest ≡ members_in b.load b.last map
  pub taken : e ≡ over_sites reading b.load b.last (site_in manual_class image b.load b.last) undecoded met start

abbrev pub invariant-loop-a : goal.invariant-loop-a
invariant-loop-a l = Kept l.reading l.image.bytes.now l.bounds l.map l.undecoded l.yielded (left l.a-iterator) l.initial.e l.e
