-- Which addresses an absolute operand names, of those inside: the one rule that turns an operand into covered bytes. Assumes nothing.
use Rattle.std.specs.Prelude.{Bool, false, cond, ◌&&◌, ℕ, min, max, eqb, leb, Option, Some, None}
use Rattle.mos6502.specs.declared.Mode.{Mode}
use Rattle.mos6502.specs.declared.Mode.TheVariants.{Imp, Imm, Zp, ZpX, ZpY, Izx, Izy, Rel, Abs, AbX, AbY, Ind, Illegal}
use Rattle.image.specs.Image.{inside, stopped_sum}
use Rattle.site.specs.declared.Width.{Width}
use Rattle.site.specs.declared.Width.TheVariants.{Nothing, Base, Page}
use Rattle.site.specs.declared.Reading.{Reading}
use Rattle.site.specs.declared.Reading.TheVariants.{Plain, Guarded}
use Rattle.site.specs.declared.Run.{Run}
use Rattle.site.specs.declared.Site.{Site}

-- an absolute operand names its base; an indexed one the page from its base on; the other modes name no address
abbrev pub width_of : Mode → Width
width_of Abs = Base
width_of AbX = Page
width_of AbY = Page
width_of Imp = Nothing
width_of Imm = Nothing
width_of Zp = Nothing
width_of ZpX = Nothing
width_of ZpY = Nothing
width_of Izx = Nothing
width_of Izy = Nothing
width_of Rel = Nothing
width_of Ind = Nothing
width_of Illegal = Nothing

-- x is one of base to base + 255, stopped at 0xFFFF
abbrev pub in_page : (base x : ℕ) → Bool
in_page base x = leb base x && leb x (stopped_sum base 255)

-- Is x named, and inside? Plain: only a base inside counts, and its page is stopped at last. Guarded: of an indexed operand's page each address inside
-- counts, wherever the base is.
abbrev pub names_by : Reading → Width → (load last base x : ℕ) → Bool
names_by reading Nothing load last base x = false
names_by reading Base load last base x = inside load last base && eqb x base
names_by Plain Page load last base x = inside load last base && in_page base x && leb x last
names_by Guarded Page load last base x = in_page base x && inside load last x

-- the same of a site: one that is not whole names nothing
abbrev pub names : Reading → (load last : ℕ) → Site → (x : ℕ) → Bool
names reading load last s x = s.whole && names_by reading (width_of s.mode) load last s.operand x

-- ── the least and the greatest of the addresses named ──
abbrev pub base_run : (load last base : ℕ) → Option Run
base_run load last base = cond (inside load last base) (Some (record { low = base; high = base })) None

abbrev pub page_run : Reading → (load last base : ℕ) → Option Run
page_run Plain load last base = cond (inside load last base) (Some (record { low = base; high = min (stopped_sum base 255) last })) None
page_run Guarded load last base =
    cond (leb (max base load) (min (stopped_sum base 255) last))
    (Some (record { low = max base load; high = min (stopped_sum base 255) last })) None

abbrev pub run_by : Reading → Width → (load last base : ℕ) → Option Run
run_by reading Nothing load last base = None
run_by reading Base load last base = base_run load last base
run_by reading Page load last base = page_run reading load last base

abbrev pub run_of : Reading → (load last : ℕ) → Site → Option Run
run_of reading load last s = cond s.whole (run_by reading (width_of s.mode) load last s.operand) None
