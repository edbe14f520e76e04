-- An array read as a stack: its top, what a push does to it; and a list turned round has the same elements.
use mathlib.Core.Path.{◌≡◌, refl, sym, ap, ap₂, ◌∙◌}
use mathlib.Core.Logic.{◌≢◌, ◌↔◌, ⊎_elim}
use mathlib.Core.List.Memᴰ.{append_cases as split}
use mathlib.Core.List.Memᴰ.{append_left as in_left}
use mathlib.Core.List.Memᴰ.{append_right as in_right}
use mathlib.Core.List.Memᴰ.{cases_cons as cases}
use mathlib.Core.List.Memᴰ.{eq_of_singleton as single}
use mathlib.Core.List.Memᴰ.{head as here}
use mathlib.Core.List.Memᴰ.{tail as there}
use mathlib.Core.List.{List, [], ◌∷◌, ◌++◌, reverse}
use Prim.Native.Nat.{ℕ, zero, suc, ◌+◌, ◌-◌, ◌≤◌, ◌<◌}
use native.Mathlib.Numerals.{add-one}
use native.Mathlib.Omega.{arith}
use lib.ListN.{length, get_or, set}
use lib.Seq.{get_or-set_same, get_or-set_other}
use Rattle.std.proofs.lemmas.Grind.{reverse_onto}
use Rattle.lists.specs.Lists.{◌∈◌, stack, last_first}

pub stack_length : (l : List ℕ) (n : ℕ) → length (stack l n) ≡ n
stack_length l zero = refl
stack_length l (suc n) = ap suc (stack_length l n)

pub stack_top : (l : List ℕ) (n : ℕ) → 0 < n → stack l n ≡ get_or l (n - 1) 0 ∷ stack l (n - 1)
stack_top l zero h = absurd (omega arith)
stack_top l (suc n) h = let e : suc n - 1 ≡ n = omega arith in rw e

-- what stands above the top does not matter
stack_above : (l : List ℕ) (n i v : ℕ) → n ≤ i → stack (set l i v) n ≡ stack l n
stack_above l zero i v h = refl
stack_above l (suc n) i v h =
    let d : n ≢ i = omega arith in
    ap₂ (λ (x : ℕ) (xs : List ℕ). x ∷ xs) (get_or-set_other l i n v 0 d) (stack_above l n i v (omega arith))

pub stack_push : (l : List ℕ) (n v : ℕ) → n < length l → stack (set l n v) (n + 1) ≡ v ∷ stack l n
stack_push l n v h = rw add-one (ap₂ (λ (x : ℕ) (xs : List ℕ). x ∷ xs) (get_or-set_same l n v 0 h) (stack_above l n n v (omega arith)))

-- ── the last first ──
stack_cons : (x : ℕ) (l : List ℕ) (n : ℕ) → stack (x ∷ l) (suc n) ≡ stack l n ++ (x ∷ [])
stack_cons x l zero = refl
stack_cons x l (suc n) = ap (λ (k : List ℕ). get_or l n 0 ∷ k) (stack_cons x l n)

pub last_first_reverse : (l : List ℕ) → last_first l ≡ reverse l
last_first_reverse [] = refl
last_first_reverse (x ∷ l) =
    stack_cons x l (length l) ∙ ap (λ (k : List ℕ). k ++ (x ∷ [])) (last_first_reverse l) ∙ sym (reverse_onto l x [])

pub last_first_mem : (l : List ℕ) (a : ℕ) → a ∈ last_first l ↔ a ∈ l
last_first_mem [] a = (λ k. k, λ k. k)
last_first_mem (x ∷ l) a = turned (last_first_mem l a)
  where
    turned : a ∈ last_first l ↔ a ∈ l → a ∈ last_first (x ∷ l) ↔ a ∈ (x ∷ l)
    turned r = (
      λ k. ⊎_elim (λ m. there (r.0 m)) (λ m. here (single m)) (split (last_first l) (rw (stack_cons x l (length l)) at k)),
      λ k. rw (stack_cons x l (length l)) (⊎_elim (λ e. in_right (last_first l) (here e)) (λ m. in_left (x ∷ []) (r.1 m)) (cases k)),
    )
