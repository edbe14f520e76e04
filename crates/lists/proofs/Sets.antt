-- Lists of numbers as sets: the test of membership; a list without repeats is no longer than one that has its elements; a set has one ascending list,
-- which sorting finds.
use mathlib.Core.Path.{◌≡◌, refl, sym, ◌∙◌, ap, ap₂}
use mathlib.Core.Logic.{◌↔◌, ◌≢◌, ◌⊎◌, inl, inr, ⊎_elim}
use mathlib.Core.Bool.{Bool, true, false, ◌||◌, ◌&&◌, not}
use mathlib.Core.List.Memᴰ.{cases_cons as cases}
use mathlib.Core.List.Memᴰ.{cast}
use mathlib.Core.List.Memᴰ.{head as here}
use mathlib.Core.List.Memᴰ.{not-nil}
use mathlib.Core.List.Memᴰ.{tail as there}
use mathlib.Core.List.{List, [], ◌∷◌}
use Prim.Native.Nat.{ℕ, suc, ◌≤◌, ◌<◌, zero-le}
use native.Mathlib.Decide.{dec_lt}
use native.Mathlib.Omega.{arith}
use lib.Dec.{T, eqb, eqb→eq, eqb_refl}
use lib.ListN.{length, get_or}
use Rattle.lists.specs.Lists.{◌∈◌, elem, Ascending, Distinct}
use Rattle.lists.proofs.Tests.{pass, or_left, or_right}

-- ── elem ──
pub elem_mem : (a : ℕ) (l : List ℕ) → T (elem a l) → a ∈ l
elem_mem a [] t = absurd t
elem_mem a (x ∷ xs) t = split (eqb a x) (eqb→eq a x) (elem_mem a xs) t
  where
    split : (b : Bool) → (T b → a ≡ x) → (T (elem a xs) → a ∈ xs) → T (b || elem a xs) → a ∈ (x ∷ xs)
    split true f g t = here (f tt)
    split false f g t = there (g t)

pub mem_elem : {a : ℕ} {l : List ℕ} → a ∈ l → T (elem a l)
mem_elem {a} (here {x = x} {xs = xs} e) = or_left (eqb a x) (elem a xs) (rw (← e) (eqb_refl a))
mem_elem {a} (there {x = x} {xs = xs} m) = or_right (eqb a x) (elem a xs) (mem_elem m)

pub elem? : (a : ℕ) (l : List ℕ) → Dec (a ∈ l)
elem? a l = say (elem a l) (elem_mem a l) mem_elem
  where
    say : (b : Bool) → (T b → a ∈ l) → (a ∈ l → T b) → Dec (a ∈ l)
    say true f g = yes (f tt)
    say false f g = no g

-- lists of the same elements have the same test
pub elem_same : (a : ℕ) (l k : List ℕ) → a ∈ l ↔ a ∈ k → elem a l ≡ elem a k
elem_same a l k same =
    say (elem a l) (elem a k) (λ t. mem_elem (same.0 (elem_mem a l t))) (λ t. mem_elem (same.1 (elem_mem a k t)))
  where
    say : (b c : Bool) → (T b → T c) → (T c → T b) → b ≡ c
    say true c f g = sym (pass c (f tt))
    say false true f g = absurd (g tt)
    say false false f g = refl

-- a list that is not empty has an element
pub some_mem : (l : List ℕ) → 0 < length l → (a : ℕ) × (a ∈ l)
some_mem [] h = absurd (omega arith)
some_mem (x ∷ xs) h = (x, here refl)

-- and one of length 0 is empty
pub empty : {A : Type 0} (l : List A) → length l ≡ 0 → l ≡ []
empty [] e = refl
empty (x ∷ l) e = absurd (omega arith)

-- what holds at every place of a list holds of its elements
pub all_below : (l : List ℕ) (n : ℕ) → ((i : ℕ) → get_or l i 0 < n) → (a : ℕ) → a ∈ l → a < n
all_below [] n h a k = absurd (not-nil k)
all_below (x ∷ xs) n h a k = ⊎_elim (λ e. rw e (h 0)) (all_below xs n (λ i. h (suc i)) a) (cases k)

-- no element stands twice, as a test
abbrev pub lone : List ℕ → Bool
lone [] = true
lone (x ∷ xs) = not (elem x xs) && lone xs

pub lone_distinct : (l : List ℕ) → T (lone l) → Distinct l
lone_distinct [] t = tt
lone_distinct (x ∷ xs) t = both (elem x xs) (lone xs) mem_elem (lone_distinct xs) t
  where
    both : (a b : Bool) → (x ∈ xs → T a) → (T b → Distinct xs) → T (not a && b) → Distinct (x ∷ xs)
    both true b f g t = absurd t
    both false b f g t = (f, g t)

-- ── no more than ──
-- l without the element at the place m
without : {a : ℕ} {l : List ℕ} → a ∈ l → List ℕ
without (here {xs = xs} e) = xs
without (there {x = x} m) = x ∷ without m

without_length : {a : ℕ} {l : List ℕ} (m : a ∈ l) → length l ≡ suc (length (without m))
unfolding without
without_length (here e) = refl
without_length (there m) = ap suc (without_length m)

without_keeps : {a b : ℕ} {l : List ℕ} (m : a ∈ l) → b ∈ l → b ≢ a → b ∈ without m
unfolding without
without_keeps (here e) (here e') n = absurd (n (e' ∙ sym e))
without_keeps (here e) (there k) n = k
without_keeps (there m) (here e') n = here e'
without_keeps (there m) (there k) n = there (without_keeps m k n)

pub fewer : (xs ys : List ℕ) → Distinct xs → ((a : ℕ) → a ∈ xs → a ∈ ys) → length xs ≤ length ys
fewer [] ys d f = zero-le
fewer (x ∷ xs) ys d f =
    let m : x ∈ ys = f x (here refl) in
    let h : length xs ≤ length (without m) = fewer xs (without m) d.1 (λ a k. without_keeps m (f a (there k)) (λ e. d.0 (cast (sym e) k))) in
    omega (arith, without_length m)

-- ── ascending ──
pub ascending_distinct : (l : List ℕ) → Ascending l → Distinct l
ascending_distinct [] p = tt
ascending_distinct (x ∷ xs) p = (λ m. omega (arith, p.0 x m), ascending_distinct xs p.1)

-- two ascending lists with the same elements are one list
pub ascending_unique : (l k : List ℕ) → Ascending l → Ascending k → ((a : ℕ) → a ∈ l → a ∈ k) → ((a : ℕ) → a ∈ k → a ∈ l) → l ≡ k
ascending_unique [] [] p q f g = refl
ascending_unique [] (y ∷ ys) p q f g = absurd (not-nil (g y (here refl)))
ascending_unique (x ∷ xs) [] p q f g = absurd (not-nil (f x (here refl)))
ascending_unique (x ∷ xs) (y ∷ ys) p q f g =
    ap₂ (λ (h : ℕ) (t : List ℕ). h ∷ t) same (ascending_unique xs ys p.1 q.1 down up)
  where
    heads : (x ≡ y) ⊎ (x ∈ ys) → (y ≡ x) ⊎ (y ∈ xs) → x ≡ y
    heads (inl e) r = e
    heads (inr m) (inl e) = sym e
    heads (inr m) (inr k) = omega (arith, q.0 x m, p.0 y k)

    same : x ≡ y
    same = heads (cases (f x (here refl))) (cases (g y (here refl)))

    tail : (a u v : ℕ) (us vs : List ℕ) → u ≡ v → u < a → (a ≡ v) ⊎ (a ∈ vs) → a ∈ vs
    tail a u v us vs e l (inl h) = absurd (omega arith)
    tail a u v us vs e l (inr m) = m

    down : (a : ℕ) → a ∈ xs → a ∈ ys
    down a m = tail a x y xs ys same (p.0 a m) (cases (f a (there m)))

    up : (a : ℕ) → a ∈ ys → a ∈ xs
    up a m = tail a y x ys xs (sym same) (q.0 a m) (cases (g a (there m)))

-- ── a list, put in ascending order, its repeats dropped ──
record Inserted (a : ℕ) (l : List ℕ) : Type 0 where
  list : List ℕ
  ascending : Ascending list
  from : (b : ℕ) → b ∈ list → (b ≡ a) ⊎ (b ∈ l)
  into : (b : ℕ) → (b ≡ a) ⊎ (b ∈ l) → b ∈ list

insert : (a : ℕ) (l : List ℕ) → Ascending l → Inserted a l
insert a [] p = record { list = a ∷ []; ascending = (λ y m. absurd (not-nil m), tt); from = λ b m. cases m; into = λ b. ⊎_elim here (λ m. absurd (not-nil m)) }
insert a (x ∷ xs) p = place (dec_lt a x) (dec_lt x a) (insert a xs p.1)
  where
    above : a < x → (y : ℕ) → (y ≡ x) ⊎ (y ∈ xs) → a < y
    above h y (inl e) = omega arith
    above h y (inr m) = omega (arith, p.0 y m)

    beyond : x < a → (y : ℕ) → (y ≡ a) ⊎ (y ∈ xs) → x < y
    beyond h y (inl e) = omega arith
    beyond h y (inr m) = p.0 y m

    from_tail : (r : Inserted a xs) (b : ℕ) → (b ≡ x) ⊎ (b ∈ r.list) → (b ≡ a) ⊎ (b ∈ (x ∷ xs))
    from_tail r b (inl e) = inr (here e)
    from_tail r b (inr m) = ⊎_elim inl (λ k. inr (there k)) (r.from b m)

    into_tail : (r : Inserted a xs) (b : ℕ) → (b ≡ x) ⊎ (b ∈ xs) → b ∈ (x ∷ r.list)
    into_tail r b (inl e) = here e
    into_tail r b (inr m) = there (r.into b (inr m))

    place : Dec (a < x) → Dec (x < a) → Inserted a xs → Inserted a (x ∷ xs)
    place (yes h) d r = record { list = a ∷ x ∷ xs; ascending = (λ y m. above h y (cases m), p); from = λ b m. cases m; into = λ b. ⊎_elim here there }
    place (no n) (yes h) r =
        record {
          list = x ∷ r.list;
          ascending = (λ y m. beyond h y (r.from y m), r.ascending);
          from = λ b m. from_tail r b (cases m);
          into = λ b. ⊎_elim (λ e. there (r.into b (inl e))) (λ m. into_tail r b (cases m));
        }
    place (no n) (no n') r = record { list = x ∷ xs; ascending = p; from = λ b m. inr m; into = λ b. ⊎_elim (λ e. here (omega arith)) (λ m. m) }

pub record Sorted (l : List ℕ) : Type 0 where
  pub list : List ℕ
  pub ascending : Ascending list
  pub exact : (a : ℕ) → a ∈ list ↔ a ∈ l

pub sort : (l : List ℕ) → Sorted l
sort [] = record { list = []; ascending = tt; exact = λ a. (λ m. m, λ m. m) }
sort (x ∷ xs) = add (sort xs)
  where
    add : Sorted xs → Sorted (x ∷ xs)
    add r =
        let k : Inserted x r.list = insert x r.list r.ascending in
        record {
          list = k.list;
          ascending = k.ascending;
          exact = λ a. (λ m. ⊎_elim here (λ h. there ((r.exact a).0 h)) (k.from a m), λ m. k.into a (⊎_elim inl (λ h. inr ((r.exact a).1 h)) (cases m)));
        }
