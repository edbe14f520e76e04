-- The run of an operand and the test of what it names are one rule: the run's ends are named, and all that is named lies between them. Said of the
-- comparisons that the tests stand for, each case is arithmetic.
use mathlib.Core.Path.{◌≡◌, refl}
use mathlib.Core.Logic.{◌↔◌}
use mathlib.Core.Bool.{Bool, true, false, cond, ◌&&◌}
use Prim.Native.Nat.{ℕ, ◌≤◌, ◌<◌, min, max}
use native.Mathlib.Omega.{arith}
use lib.Dec.{T, eqb, leb, leb→le, le→leb, eqb→eq}
use Rattle.std.specs.Prelude.{Option, Some, None}
use Rattle.lists.proofs.Tests.{pass, passed, and_left, and_right, and_both, eq→eqb}
use Rattle.image.specs.Image.{inside, stopped_sum}
use Rattle.image.proofs.Inside.{inside_yes, inside_bounds}
use Rattle.site.specs.declared.Width.{Width}
use Rattle.site.specs.declared.Width.TheVariants.{Nothing, Base, Page}
use Rattle.site.specs.declared.Reading.{Reading}
use Rattle.site.specs.declared.Reading.TheVariants.{Plain, Guarded}
use Rattle.site.specs.declared.Run.{Run}
use Rattle.site.specs.declared.Site.{Site}
use Rattle.site.specs.Named.{width_of, names_by, names, run_by, run_of}

-- the run is just long enough for P: its ends are in P, and all of P is between them; no run says that P is empty
abbrev pub Bounding : (P : ℕ → Type 0) → Option Run → Type 0
Bounding P (Some r) = P r.low × P r.high × ((x : ℕ) → P x → (r.low ≤ x) × (x ≤ r.high))
Bounding P None = (x : ℕ) → ¬ P x

-- ── what the tests stand for ──
-- the test b passes just where A holds
record Tests (b : Bool) (A : Type 0) : Type 0 where
  fact : T b → A
  test : A → T b

abbrev Between : (low high x : ℕ) → Type 0
Between low high x = (low ≤ x) × (x ≤ high)

both : {a b : Bool} {A B : Type 0} → Tests a A → Tests b B → Tests (a && b) (A × B)
both {a} {b} s t =
    record { fact = λ k. (s.fact (and_left a b k), t.fact (and_right a b k)); test = λ k. and_both a b (s.test k.0) (t.test k.1) }

tests_le : (a b : ℕ) → Tests (leb a b) (a ≤ b)
tests_le a b = record { fact = leb→le a b; test = le→leb a b }

tests_eq : (a b : ℕ) → Tests (eqb a b) (a ≡ b)
tests_eq a b = record { fact = eqb→eq a b; test = eq→eqb a b }

tests_inside : (load last a : ℕ) → Tests (inside load last a) (Between load last a)
tests_inside load last a =
    record { fact = λ t. inside_bounds load last a (pass (inside load last a) t); test = λ k. passed (inside_yes load last a k.0 k.1) }

-- `names_by` in comparisons
abbrev NamedBy : Reading → Width → (load last base x : ℕ) → Type 0
NamedBy reading Nothing load last base x = ⊥
NamedBy reading Base load last base x = Between load last base × (x ≡ base)
NamedBy Plain Page load last base x = (Between load last base × Between base (stopped_sum base 255) x) × (x ≤ last)
NamedBy Guarded Page load last base x = Between base (stopped_sum base 255) x × Between load last x

tests_named : (reading : Reading) (width : Width) (load last base x : ℕ)
    → Tests (names_by reading width load last base x) (NamedBy reading width load last base x)
tests_named reading Nothing load last base x = record { fact = λ t. t; test = λ k. k }
tests_named reading Base load last base x = both (tests_inside load last base) (tests_eq x base)
tests_named Plain Page load last base x =
    both (both (tests_inside load last base) (both (tests_le base x) (tests_le x (stopped_sum base 255)))) (tests_le x last)
tests_named Guarded Page load last base x = both (both (tests_le base x) (tests_le x (stopped_sum base 255))) (tests_inside load last x)

-- ── the run bounds what is named ──
-- a run that is there only if a test passes
bounds_if : (P : ℕ → Type 0) (b : Bool) (r : Run) → (T b → Bounding P (Some r)) → (¬ T b → Bounding P None) → Bounding P (cond b (Some r) None)
bounds_if P true r full none = full tt
bounds_if P false r full none = none (λ t. t)

bounds_named : (reading : Reading) (width : Width) (load last base : ℕ) → last < 65536
    → Bounding (NamedBy reading width load last base) (run_by reading width load last base)
bounds_named reading Nothing load last base top = λ x k. k
bounds_named reading Base load last base top =
    bounds_if _ (inside load last base) (record { low = base; high = base })
    (λ t. let k = (tests_inside load last base).fact t in (omega arith, omega arith, λ x n. omega arith))
    (λ out x n. out ((tests_inside load last base).test n.0))
bounds_named Plain Page load last base top =
    bounds_if _ (inside load last base) (record { low = base; high = min (stopped_sum base 255) last })
    (λ t. let k = (tests_inside load last base).fact t in (omega arith, omega arith, λ x n. omega arith))
    (λ out x n. out ((tests_inside load last base).test n.0.0))
bounds_named Guarded Page load last base top =
    bounds_if _ (leb (max base load) (min (stopped_sum base 255) last))
    (record { low = max base load; high = min (stopped_sum base 255) last })
    (λ t. let k = leb→le (max base load) (min (stopped_sum base 255) last) t in (omega arith, omega arith, λ x n. omega arith))
    (λ out x n. out (le→leb (max base load) (min (stopped_sum base 255) last) (omega arith)))

bounds_tests : {test : ℕ → Bool} {P : ℕ → Type 0} → ((x : ℕ) → Tests (test x) (P x)) → (r : Option Run) → Bounding P r → Bounding (λ x. T (test x)) r
bounds_tests same (Some r) k = ((same r.low).test k.0, (same r.high).test k.1, λ x n. k.2 x ((same x).fact n))
bounds_tests same None k = λ x n. k x ((same x).fact n)

pub run_bounds : (reading : Reading) (width : Width) (load last base : ℕ) → last < 65536
    → Bounding (λ x. T (names_by reading width load last base x)) (run_by reading width load last base)
run_bounds reading width load last base top =
    bounds_tests (tests_named reading width load last base) (run_by reading width load last base) (bounds_named reading width load last base top)

-- the same of a site: one that is not whole names nothing, and has no run
bounds_whole : (whole : Bool) (test : ℕ → Bool) (r : Option Run) → Bounding (λ x. T (test x)) r → Bounding (λ x. T (whole && test x)) (cond whole r None)
bounds_whole true test r k = k
bounds_whole false test r k = λ x t. t

pub site_bounds : (reading : Reading) (load last : ℕ) (s : Site) → last < 65536 → Bounding (λ x. T (names reading load last s x)) (run_of reading load last s)
site_bounds reading load last s top =
    let width = width_of s.mode in
    bounds_whole s.whole (names_by reading width load last s.operand) (run_by reading width load last s.operand)
    (run_bounds reading width load last s.operand top)

-- ── what is named is inside ──
named_inside : (reading : Reading) (width : Width) (load last base x : ℕ) → NamedBy reading width load last base x → Between load last x
named_inside reading Nothing load last base x k = absurd k
named_inside reading Base load last base x k = omega arith
named_inside Plain Page load last base x k = omega arith
named_inside Guarded Page load last base x k = k.1

pub names_inside : (reading : Reading) (load last : ℕ) (s : Site) (x : ℕ) → T (names reading load last s x) → (load ≤ x) × (x ≤ last)
names_inside reading load last s x t =
    let width = width_of s.mode in
    named_inside reading width load last s.operand x ((tests_named reading width load last s.operand x).fact (and_right s.whole _ t))

-- ── in another image ──
-- one that lies within the first, and round all that the operand names there: the operand names the same
module _ (load last load' last' base : ℕ) where
  named_there : (reading : Reading) (width : Width) → last < 65536 → ((x : ℕ) → NamedBy reading width load last base x → Between load' last' x) → (x : ℕ)
      → NamedBy reading width load last base x → NamedBy reading width load' last' base x
  named_there reading Nothing top around x k = k
  named_there reading Base top around x k = (around base (k.0, refl), k.1)
  named_there Plain Page top around x k = ((around base ((k.0.0, omega arith), omega arith), k.0.1), (around x k).1)
  named_there Guarded Page top around x k = (k.0, around x k)

  named_back : (reading : Reading) (width : Width) → load ≤ load' → last' ≤ last → (x : ℕ) → NamedBy reading width load' last' base x
      → NamedBy reading width load last base x
  named_back reading Nothing from_load to_last x k = k
  named_back reading Base from_load to_last x k = (omega arith, k.1)
  named_back Plain Page from_load to_last x k = ((omega arith, k.0.1), omega arith)
  named_back Guarded Page from_load to_last x k = (k.0, omega arith)

  pub names_same : (reading : Reading) (width : Width) → last < 65536 → load ≤ load' → last' ≤ last
      → ((x : ℕ) → T (names_by reading width load last base x) → (load' ≤ x) × (x ≤ last')) → (x : ℕ)
      → T (names_by reading width load last base x) ↔ T (names_by reading width load' last' base x)
  names_same reading width top from_load to_last around x =
      let here = tests_named reading width load last base in
      let there = tests_named reading width load' last' base in (
        λ t. (there x).test (named_there reading width top (λ y k. around y ((here y).test k)) x ((here x).fact t)),
        λ t. (here x).test (named_back reading width from_load to_last x ((there x).fact t)),
      )
