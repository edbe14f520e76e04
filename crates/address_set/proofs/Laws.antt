-- The map as a set: its members are the addresses that `has` tells of, an insertion adds one and keeps the others, and a search that goes on past each
-- member it finds meets all of them in order. What holds of the members holds of every such list, `scan`; here it is said of the map.
use mathlib.Core.Path.{◌≡◌, refl}
use mathlib.Core.Bool.{Bool, true, false}
use mathlib.Core.Logic.{◌↔◌, ◌⊎◌, inl, inr}
use mathlib.Core.List.{List, [], ◌∷◌, ◌++◌}
use mathlib.Core.List.Memᴰ.{append_right, head as here}
use Prim.Native.Nat.{ℕ, suc, ◌+◌, ◌-◌, ◌*◌, ◌/◌, ◌%◌, ◌≤◌, ◌<◌}
use native.Mathlib.Decide.{ℕ_discrete}
use native.Mathlib.Omega.{arith}
use lib.Dec.{T, eqb}
use lib.ListN.{length, get_or, replicate}
use Rattle.lists.specs.Lists.{◌∈◌, Ascending, scan}
use Rattle.lists.proofs.Scan.{Scanned, scan_only, scan_all, scan_ascending, scan_length, scan_same, scan_none, scan_more, scan_next, scan_within}
use Rattle.lists.proofs.Tests.{fail, pass, clash}
use Rattle.lists.proofs.Zeros.{zeros_at}
use Rattle.address_set.specs.Map.{has, members, members_in, Inserted, Within}
use Rattle.address_set.specs.Next.{Free, Least, Next}
use Rattle.std.specs.Prelude.{Option, Some, None}
use Rattle.std.specs.Int.{bit_at}
use Rattle.std.proofs.lemmas.Nat.Bits.{bit_at-zero}

-- the digit at j of the byte i tells of the address i * 8 + j
pub has_at : (m : List ℕ) (i j : ℕ) → j < 8 → has m (i * 8 + j) ≡ eqb (bit_at (get_or m i 0) j) 1
unfolding has
has_at m i j h =
    let byte : (i * 8 + j) / 8 ≡ i = omega arith in
    let place : (i * 8 + j) % 8 ≡ j = omega arith in
    rw (byte, place)

-- ── the empty map ──
pub empty_has : (n a : ℕ) → has (replicate n 0) a ≡ false
unfolding has
empty_has n a = rw (zeros_at n (a / 8), bit_at-zero (a % 8))

pub empty_members : (n : ℕ) → members (replicate n 0) ≡ []
unfolding members
empty_members n = scan_none (has (replicate n 0)) 0 65536 (λ b p q. empty_has n b)

-- ── the members ──
pub members_mem : (m : List ℕ) (b : ℕ) → b ∈ members m ↔ ((b < 65536) × T (has m b))
unfolding members
members_mem m b = (
  λ k. let s : Scanned (has m) 0 65536 b = scan_only (has m) 0 65536 k in (omega arith, s.test),
  λ k. scan_all (has m) 0 65536 (record { low = omega arith; high = omega arith; test = k.1 }),
)

pub members_ascending : (m : List ℕ) → Ascending (members m)
unfolding members
members_ascending m = scan_ascending (has m) 0 65536

pub members_length : (m : List ℕ) → length (members m) ≤ 65536
unfolding members
members_length m = scan_length (has m) 0 65536

pub members_same : (m m' : List ℕ) → ((b : ℕ) → b < 65536 → has m b ≡ has m' b) → members m ≡ members m'
unfolding members
members_same m m' same = scan_same (has m) (has m') 0 65536 (λ b p q. same b (omega arith))

-- ── an insertion ──
module _ {m m' : List ℕ} {a : ℕ} {new : Bool} (i : Inserted m a m' new) where
  pub inserted_has : (b : ℕ) → T (has m' b) ↔ ((b ≡ a) ⊎ T (has m b))
  inserted_has b = (from (ℕ_discrete b a), into (ℕ_discrete b a))
    where
      from : Dec (b ≡ a) → T (has m' b) → (b ≡ a) ⊎ T (has m b)
      from (yes e) t = inl e
      from (no n) t = inr (rw (i.other b n) at t)

      into : Dec (b ≡ a) → (b ≡ a) ⊎ T (has m b) → T (has m' b)
      into (yes e) h = rw (e, i.here) tt
      into (no n) (inl e) = absurd (n e)
      into (no n) (inr t) = rw (i.other b n) t

  pub inserted_new : a < 65536 → has m a ≡ false → length (members m') ≡ suc (length (members m))
  unfolding members
  inserted_new h out = scan_more (has m) (has m') 0 65536 a (omega arith) (omega arith) out i.here i.other

  pub inserted_old : has m a ≡ true → members m' ≡ members m
  inserted_old old = members_same m' m (λ b h. same b (ℕ_discrete b a))
    where
      same : (b : ℕ) → Dec (b ≡ a) → has m' b ≡ has m b
      same b (yes e) = rw (e, i.here, old)
      same b (no n) = i.other b n

-- ── a loop over the members ──
-- what a search from `from` to `last` finds begins the list of the members there, and the next search is for the rest
module _ (m : List ℕ) (from last : ℕ) {found : Option ℕ} (next : Next m from last found) where
  pub found_least : {b : ℕ} → found ≡ Some b → Least m from last b
  found_least e = rw e at next

  pub next_at : {b : ℕ} → found ≡ Some b → scan (has m) from (suc last - from) ≡ b ∷ scan (has m) (b + 1) (suc last - (b + 1))
  next_at {b} e =
      let l = found_least e in
      scan_next (has m) from b (suc last) l.low (omega arith) l.member l.free

  pub next_nothing : found ≡ None → scan (has m) from (suc last - from) ≡ []
  next_nothing e =
      let free : Free m from (suc last) = rw e at next in
      scan_none (has m) from (suc last - from) (λ b p q. free b p (omega arith))

-- where all members lie in a range, a loop from its first address on, whose searches stop at its last, meets them all
module _ {m : List ℕ} {first last : ℕ} (within : Within first last m) where
  pub members_from_lem : first ≤ 65536 → scan (has m) 0 65536 ≡ scan (has m) first (65536 - first)
  members_from_lem h = scan_within (has m) 0 first 65536 65536 (omega arith) h (omega arith) (λ b x y t. ((within.each b t).0, omega arith))

  pub next_within : (from end : ℕ) → last ≤ end → (found : Option ℕ) → Next m from last found → Next m from end found
  next_within from end h (Some b) l = record { low = l.low; high = omega arith; member = l.member; free = l.free }
  next_within from end h None free = λ k p q. fail (has m k) (λ t. clash (pass (has m k) t) (free k p (omega (arith, within.each k t))))

-- an address that a loop over the members from `first` to `last` has come to, after those in `before`, is one of them
pub here_within : (first last : ℕ) (m : List ℕ) (before : List ℕ) (a : ℕ) (rest : List ℕ) → before ++ a ∷ rest ≡ members_in first last m
    → (first ≤ a) × (a ≤ last) × (has m a ≡ true)
here_within first last m before a rest all =
    let listed : a ∈ members_in first last m = rw (← all) (append_right before (here refl)) in
    let scanned = scan_only (has m) first (suc last - first) listed in
    (scanned.low, omega (arith, scanned.low, scanned.high), pass (has m a) scanned.test)
