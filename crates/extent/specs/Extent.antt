-- The same range, computed: from an empty one that every address widens, over the entries and then over a list of addresses. Assumes nothing.
use Rattle.std.specs.Prelude.{Bool, false, cond, List, ℕ, ◌+◌, ◌-◌, min, max, eqb, fold, Option, Some, None}
use Rattle.mos6502.specs.Class.{manual_class}
use Rattle.image.specs.Image.{inside}
use Rattle.address_set.specs.Map.{members_in}
use Rattle.site.specs.declared.Site.{Site}
use Rattle.site.specs.declared.Reading.{Reading}
use Rattle.site.specs.declared.Run.{Run}
use Rattle.site.specs.Site.{site_in}
use Rattle.site.specs.Named.{run_of}
use Rattle.extent.specs.declared.Extent.{Extent}

-- with a and b, and all between
abbrev pub widen : Extent → (a b : ℕ) → Extent
widen e a b = record { low = min e.low a; high = max e.high b }

abbrev pub widen_run : Extent → Option Run → Extent
widen_run e (Some run) = widen e run.low run.high
widen_run e None = e

-- nothing yet: any address inside is at most `low` and at least `high`
abbrev pub nothing : (load last : ℕ) → Extent
nothing load last = record { low = last; high = load }

-- with an entry, if it is inside
abbrev pub widen_entry : (load last : ℕ) → Extent → ℕ → Extent
widen_entry load last e x = cond (inside load last x) (widen e x x) e

-- with the entries that are inside
unfoldable pub over_entries : (load last : ℕ) → (entries : List ℕ) → Extent → Extent
over_entries load last entries e = fold (widen_entry load last) e entries

-- with the bytes of an instruction that is whole, and what its operand names
abbrev pub widen_site : Reading → (load last a : ℕ) → Site → Extent → Extent
widen_site reading load last a s e =
    widen_run (cond s.whole (widen e a (a + s.len - 1)) e) (run_of reading load last s)

-- an address that was met and not decoded does not count
abbrev pub is_skipped : (undecoded : Option ℕ) → ℕ → Bool
is_skipped (Some p) a = eqb a p
is_skipped None a = false

-- with the site at an address that counts
abbrev pub widen_counted : Reading → (load last : ℕ) → (site : ℕ → Site) → (undecoded : Option ℕ) → Extent → ℕ → Extent
widen_counted reading load last site undecoded e a = cond (is_skipped undecoded a) e (widen_site reading load last a (site a) e)

-- with the sites at a list of addresses
unfoldable pub over_sites : Reading → (load last : ℕ) → (site : ℕ → Site) → (undecoded : Option ℕ) → List ℕ → Extent → Extent
over_sites reading load last site undecoded l e = fold (widen_counted reading load last site undecoded) e l

-- an extent with nothing in it is load alone
abbrev pub settled : Extent → Extent
settled e = record { low = min e.low e.high; high = e.high }

abbrev pub extent_of : Reading → (load last : ℕ) → (site : ℕ → Site) → (undecoded : Option ℕ) → (entries l : List ℕ) → Extent
extent_of reading load last site undecoded entries l =
    settled (over_sites reading load last site undecoded l (over_entries load last entries (nothing load last)))

-- the extent of an image, over the members of a map
abbrev pub extent_in : Reading → (image : List ℕ) (load last : ℕ) → (undecoded : Option ℕ) → (entries map : List ℕ) → Extent
extent_in reading image load last undecoded entries map =
    extent_of reading load last (site_in manual_class image load last) undecoded entries (members_in load last map)
