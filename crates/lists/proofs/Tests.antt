-- A test and the fact that it stands for.
use mathlib.Core.Path.{◌≡◌, refl}
use mathlib.Core.Bool.{Bool, true, false, not, ◌&&◌, ◌||◌}
use mathlib.Core.Logic.{◌⊎◌, inl, inr}
use Prim.Native.Nat.{ℕ}
use lib.Dec.{T, eqb, eqb_refl}

pub pass : (b : Bool) → T b → b ≡ true
pass true t = refl
pass false t = absurd t

pub fail : (b : Bool) → ¬ T b → b ≡ false
fail true t = absurd (t tt)
fail false t = refl

pub passed : {b : Bool} → b ≡ true → T b
passed e = rw e tt

-- it cannot both pass and fail
pub clash : {b : Bool} → b ≡ true → b ≡ false → ⊥
clash p q = rw q at (passed p)

-- two tests at once
pub and_left : (a b : Bool) → T (a && b) → T a
and_left true b t = tt
and_left false b t = absurd t

pub and_right : (a b : Bool) → T (a && b) → T b
and_right true b t = t
and_right false b t = absurd t

pub and_both : (a b : Bool) → T a → T b → T (a && b)
and_both true b s t = t
and_both false b s t = absurd s

-- one test or the other
pub or_cases : (a b : Bool) → T (a || b) → T a ⊎ T b
or_cases true b t = inl tt
or_cases false b t = inr t

pub or_left : (a b : Bool) → T a → T (a || b)
or_left true b t = tt
or_left false b t = absurd t

pub or_right : (a b : Bool) → T b → T (a || b)
or_right true b t = tt
or_right false b t = t

-- the opposite test
pub not_passed : (b : Bool) → T (not b) → b ≡ false
not_passed true t = absurd t
not_passed false t = refl

pub not_pass : {b : Bool} → b ≡ false → T (not b)
not_pass e = rw e tt

pub eq→eqb : (a b : ℕ) → a ≡ b → T (eqb a b)
eq→eqb a b e = rw e (eqb_refl b)

pub either : (b : Bool) → (b ≡ true) ⊎ (b ≡ false)
either true = inl refl
either false = inr refl
