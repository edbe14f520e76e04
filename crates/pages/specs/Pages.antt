-- Where `STA (zp),Y` goes: `indy_store_span` and `page_limit` of the original (01, "Tracker and stores"). Assumes nothing.
use Rattle.std.specs.Prelude.{ℕ, ◌+◌, ◌-◌, ◌*◌, ◌%◌, Bool, true, false, cond, not, ◌&&◌, ◌||◌, List, [], ◌∷◌, take, nat_le, nat_lt, Option, Some, None}
use Rattle.lists.specs.Lists.{elem}
use Rattle.image.specs.Answers.{wrapped_byte, sum_within, difference}
use Rattle.tracker.specs.declared.ImmState.{ImmState}
use Rattle.tracker.specs.Track.{tracked, value_in}
use Rattle.resolver.specs.declared.Seen.{Seen}
use Rattle.resolver.specs.declared.Seen.TheVariants.{Never, Holds, Spoiled}
use Rattle.resolver.specs.Resolve.{argument_at, is_value, seen_with}
use Rattle.pages.specs.declared.StoreSpan.{StoreSpan}
use Rattle.pages.specs.declared.StoreSpan.TheVariants.{Bytes, Anywhere}
use Rattle.pages.specs.declared.Pointer.{Pointer}
use Rattle.pages.specs.declared.Habit.{Habit}

-- ── what the tracker knows of the pointer ──
-- in a state: the byte z, the byte after it, and X. A pointer at 0xFF has no second byte
abbrev pub pointer_in : ImmState → (z : ℕ) → Pointer
pointer_in s z = record { low = value_in s z; high = cond (nat_lt z 0xFF) (value_in s (z + 1)) None; x = s.regs.x }

-- before the site at a
abbrev pub pointer_at : (image : List ℕ) (load a z : ℕ) → Pointer
pointer_at image load a z = pointer_in (tracked (take (a - load) image)) z

-- ── what the reachable instructions do with its high byte ──
-- does one of them pass the test?
unfoldable pub any_of : (ℕ → Bool) → List ℕ → Bool
any_of f [] = false
any_of f (a ∷ l) = f a || any_of f l

-- one more operand, if there is one: a second different one spoils the limit
abbrev pub seen_also : Seen → Option ℕ → Seen
seen_also s (Some v) = seen_with s (Some v)
seen_also s None = s

module _ (image : List ℕ) (load : ℕ) where
  -- is there this opcode at a, and is it followed by the byte z?
  abbrev pub is_op : (op a : ℕ) → Bool
  is_op op a = is_value (wrapped_byte image load a) op

  abbrev pub is_on : (op z a : ℕ) → Bool
  is_on op z a = is_op op a && is_value (argument_at image load a) z

  -- the operand of a CMP that stands directly after the two bytes at a, and is met too
  abbrev pub compared_at : (met : ℕ → Bool) (a : ℕ) → Option ℕ
  compared_at met a =
      let next = (a + 2) % 65536 in
      cond (met next && is_op 0xC9 next) (argument_at image load next) None

  -- what the pairs LDA z, CMP say of the limit
  unfoldable pub limit_over : (met : ℕ → Bool) (z : ℕ) → List ℕ → Seen → Seen
  limit_over met z [] s = s
  limit_over met z (a ∷ l) s = limit_over met z l (cond (is_on 0xA5 z a) (seen_also s (compared_at met a)) s)

  -- INC and DEC of the byte z, its limit, and whether there is a DEX, where l are the instructions met
  abbrev pub habit_of : (l : List ℕ) → (z : ℕ) → Habit
  habit_of l z =
      record {
        up = any_of (is_on 0xE6 z) l;
        down = any_of (is_on 0xC6 z) l;
        limit = limit_over (λ a. elem a l) z l Never;
        dex = any_of (is_op 0xCA) l;
      }

-- ── the pages ──
-- n pages up or down from a page: none above 0xFF or below 0
abbrev pub pages_from : (up : Bool) (page n : ℕ) → Option ℕ
pages_from up page n = cond up (sum_within 0xFF page n) (difference page n)

-- The last page that is written (`page_limit`). The step stands before the test, so it is the page before the operand on which the pairs agree; where there is no
-- pair, X counts the pages if a DEX does, and the page hi is the first of them.
abbrev pub page_limit : (limit : Seen) (x : Option ℕ) (dex : Bool) (hi : ℕ) (up : Bool) → Option ℕ
page_limit (Holds v) x dex hi up = pages_from (not up) v 1
page_limit Spoiled x dex hi up = None
page_limit Never None dex hi up = None
page_limit Never (Some n) dex hi up = cond (nat_lt 0 n && dex) (pages_from up hi (n - 1)) None

-- from the place lo in the first page to 255 past it in the last; nothing past 0xFFFF is bounded
abbrev pub ending_at : (lowest : ℕ) → Option ℕ → StoreSpan
ending_at lowest (Some highest) = Bytes lowest highest
ending_at lowest None = Anywhere

abbrev pub over_pages : (lo first last : ℕ) → StoreSpan
over_pages lo first last = cond (nat_le first last) (ending_at (256 * first + lo) (sum_within 0xFFFF (256 * last + lo) 0xFF)) Anywhere

-- up from the page hi to the last, if that is known
abbrev pub up_to : (lo hi : ℕ) → Option ℕ → StoreSpan
up_to lo hi (Some last) = over_pages lo hi last
up_to lo hi None = Anywhere

-- down from the page hi to the first, if that is known
abbrev pub down_to : (lo hi : ℕ) → Option ℕ → StoreSpan
down_to lo hi (Some first) = over_pages lo first hi
down_to lo hi None = Anywhere

-- one page where the high byte stays; up or down to the limit where it is stepped; not both
abbrev pub span_from : (lo hi : ℕ) (x : Option ℕ) → Habit → StoreSpan
span_from lo hi x h =
    cond h.up (cond h.down Anywhere (up_to lo hi (page_limit h.limit x h.dex hi true)))
    (cond h.down (down_to lo hi (page_limit h.limit x h.dex hi false)) (over_pages lo hi hi))

-- both bytes of the pointer have to be known
abbrev pub span_of : (low high x : Option ℕ) → Habit → StoreSpan
span_of (Some lo) (Some hi) x h = span_from lo hi x h
span_of (Some lo) None x h = Anywhere
span_of None high x h = Anywhere

-- the span that a store through the pointer can cover
abbrev pub indy_store_span : Pointer → Habit → StoreSpan
indy_store_span p h = span_of p.low p.high p.x h
