-- The numbers of a run that pass a test: their list is ascending and has just these; it splits where the run splits; and one number more that
-- passes makes it one longer. Everything is by induction on the run's length, one number after the other.
use mathlib.Core.Path.{◌≡◌, refl, ap, ap₂, ◌∙◌}
use mathlib.Core.Logic.{◌⊎◌, inl, inr}
use mathlib.Core.Bool.{Bool, true, false}
use mathlib.Core.List.Memᴰ.{cases_cons as cases}
use mathlib.Core.List.Memᴰ.{head as here}
use mathlib.Core.List.Memᴰ.{not-nil}
use mathlib.Core.List.Memᴰ.{tail as there}
use mathlib.Core.List.{List, [], ◌∷◌, ◌++◌, append-nil}
use Prim.Native.Nat.{ℕ, zero, suc, ◌+◌, ◌-◌, ◌≤◌, ◌<◌}
use native.Mathlib.Nat.{zero-add, add-zero, suc-add}
use native.Mathlib.Decide.{dec_lt}
use native.Mathlib.Omega.{arith}
use lib.Dec.{T}
use lib.ListN.{length, length-append}
use Rattle.lists.specs.Lists.{◌∈◌, Ascending, keep, scan}
use Rattle.lists.proofs.Tests.{fail}

-- ── which numbers ──
-- b is one of the n numbers from a on, and passes
pub record Scanned (f : ℕ → Bool) (a n b : ℕ) : Type 0 where
  pub low : a ≤ b
  pub high : b < a + n
  pub test : T (f b)

pub scan_only : (f : ℕ → Bool) (a n : ℕ) {b : ℕ} → b ∈ scan f a n → Scanned f a n b
unfolding scan
scan_only f a zero k = absurd (not-nil k)
scan_only f a (suc n) {b} k = pick (f a) (λ t. t) (λ k'. scan_only f (suc a) n k') k
  where
    later : Scanned f (suc a) n b → Scanned f a (suc n) b
    later s = record { low = omega arith; high = omega arith; test = s.test }

    first : T (f a) → (b ≡ a) ⊎ (b ∈ scan f (suc a) n) → (b ∈ scan f (suc a) n → Scanned f (suc a) n b) → Scanned f a (suc n) b
    first t (inl e) g = record { low = omega arith; high = omega arith; test = rw e t }
    first t (inr k) g = later (g k)

    pick : (c : Bool) → (T c → T (f a)) → (b ∈ scan f (suc a) n → Scanned f (suc a) n b) → b ∈ keep c a (scan f (suc a) n) → Scanned f a (suc n) b
    pick true t g k = first (t tt) (cases k) g
    pick false t g k = later (g k)

pub scan_all : (f : ℕ → Bool) (a n : ℕ) {b : ℕ} → Scanned f a n b → b ∈ scan f a n
unfolding scan
scan_all f a zero s = absurd (omega arith)
scan_all f a (suc n) {b} s = pick (f a) (λ t. t) (dec_lt a b) (λ s'. scan_all f (suc a) n s')
  where
    pick : (c : Bool) → (T (f a) → T c) → Dec (a < b) → (Scanned f (suc a) n b → b ∈ scan f (suc a) n) → b ∈ keep c a (scan f (suc a) n)
    pick true t (yes l) g = there (g (record { low = l; high = omega arith; test = s.test }))
    pick true t (no l) g = let e : b ≡ a = omega arith in here e
    pick false t (yes l) g = g (record { low = l; high = omega arith; test = s.test })
    pick false t (no l) g = let e : b ≡ a = omega arith in absurd (t (rw e at s.test))

pub scan_ascending : (f : ℕ → Bool) (a n : ℕ) → Ascending (scan f a n)
unfolding scan
scan_ascending f a zero = tt
scan_ascending f a (suc n) = pick (f a) (scan_ascending f (suc a) n)
  where
    pick : (c : Bool) → Ascending (scan f (suc a) n) → Ascending (keep c a (scan f (suc a) n))
    pick true h = (λ y k. (scan_only f (suc a) n k).low, h)
    pick false h = h

pub scan_same : (f g : ℕ → Bool) (a n : ℕ) → ((b : ℕ) → a ≤ b → b < a + n → f b ≡ g b) → scan f a n ≡ scan g a n
unfolding scan
scan_same f g a zero h = refl
scan_same f g a (suc n) h = ap₂ (λ (c : Bool) (l : List ℕ). keep c a l) (h a (omega arith) (omega arith)) (scan_same f g (suc a) n (λ b p q. h b (omega arith) (omega arith)))

-- ── parts of the run ──
keep_append : (c : Bool) (a : ℕ) (l k : List ℕ) → keep c a (l ++ k) ≡ keep c a l ++ k
keep_append true a l k = refl
keep_append false a l k = refl

pub scan_split : (f : ℕ → Bool) (a n k : ℕ) → scan f a (n + k) ≡ scan f a n ++ scan f (a + n) k
unfolding scan
scan_split f a zero k = rw (zero-add, add-zero)
scan_split f a (suc n) k =
    let e : suc a + n ≡ a + suc n = omega arith in
    rw (suc-add, scan_split f (suc a) n k, keep_append (f a) a (scan f (suc a) n) (scan f (suc a + n) k), e)

pub scan_none : (f : ℕ → Bool) (a n : ℕ) → ((b : ℕ) → a ≤ b → b < a + n → f b ≡ false) → scan f a n ≡ []
unfolding scan
scan_none f a zero h = refl
scan_none f a (suc n) h = rw (h a (omega arith) (omega arith)) (scan_none f (suc a) n (λ b p q. h b (omega arith) (omega arith)))

-- where b is the first from a on that passes, the list begins with b and goes on past it
pub scan_next : (f : ℕ → Bool) (a b end : ℕ) → a ≤ b → b < end → f b ≡ true → ((k : ℕ) → a ≤ k → k < b → f k ≡ false)
    → scan f a (end - a) ≡ b ∷ scan f (b + 1) (end - (b + 1))
unfolding scan
scan_next f a b end p q h free =
    let e : end - a ≡ (b - a) + suc (end - (b + 1)) = omega arith in
    let g : a + (b - a) ≡ b = omega arith in
    let s : suc b ≡ b + 1 = omega arith in
    rw (e, scan_split, scan_none f a (b - a) (λ k x y. free k x (omega arith)), g, h, s)

-- numbers that do not pass may be left off at both ends
pub scan_within : (f : ℕ → Bool) (a b end n : ℕ) → a ≤ b → b ≤ end → end ≤ a + n → ((k : ℕ) → a ≤ k → k < a + n → T (f k) → (b ≤ k) × (k < end))
    → scan f a n ≡ scan f b (end - b)
scan_within f a b end n p q r only =
    let e : n ≡ (b - a) + ((end - b) + (a + n - end)) = omega arith in
    let g : a + (b - a) ≡ b = omega arith in
    let h : b + (end - b) ≡ end = omega arith in
    let before : scan f a (b - a) ≡ [] = scan_none f a (b - a) (λ k x y. fail (f k) (λ t. omega (arith, only k x (omega arith) t))) in
    let past : scan f end (a + n - end) ≡ [] = scan_none f end (a + n - end) (λ k x y. fail (f k) (λ t. omega (arith, only k (omega arith) (omega arith) t))) in
    ap (scan f a) e ∙ rw (scan_split f a (b - a) ((end - b) + (a + n - end)), before, g, scan_split f b (end - b) (a + n - end), h, past) (append-nil (scan f b (end - b)))

-- ── how many ──
keep_length : (c : Bool) (a : ℕ) (l : List ℕ) → length (keep c a l) ≤ suc (length l)
keep_length true a l = omega arith
keep_length false a l = omega arith

pub scan_length : (f : ℕ → Bool) (a n : ℕ) → length (scan f a n) ≤ n
unfolding scan
scan_length f a zero = omega arith
scan_length f a (suc n) = omega (arith, scan_length f (suc a) n, keep_length (f a) a (scan f (suc a) n))

-- g passes what f passes, and b, which f does not: one more
pub scan_more : (f g : ℕ → Bool) (a n b : ℕ) → a ≤ b → b < a + n → f b ≡ false → g b ≡ true → ((k : ℕ) → ¬ (k ≡ b) → g k ≡ f k)
    → length (scan g a n) ≡ suc (length (scan f a n))
unfolding scan
scan_more f g a n b p q out into other =
    let e : n ≡ (b - a) + suc (a + n - suc b) = omega arith in
    let h : a + (b - a) ≡ b = omega arith in
    let before : scan g a (b - a) ≡ scan f a (b - a) = scan_same g f a (b - a) (λ k x y. other k (λ z. omega arith)) in
    let past : scan g (suc b) (a + n - suc b) ≡ scan f (suc b) (a + n - suc b) = scan_same g f (suc b) (a + n - suc b) (λ k x y. other k (λ z. omega arith)) in
    let with-b : scan g a n ≡ scan f a (b - a) ++ (b ∷ scan f (suc b) (a + n - suc b)) = ap (scan g a) e ∙ rw (scan_split, h, before, into, past) in
    let without-b : scan f a n ≡ scan f a (b - a) ++ scan f (suc b) (a + n - suc b) = ap (scan f a) e ∙ rw (scan_split, h, out) in
    omega (arith, simp length-append at (ap length with-b), simp length-append at (ap length without-b))
