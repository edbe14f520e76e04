-- A run of words: how many there are, and the word that comes next.
use mathlib.Core.Path.{◌≡◌, refl, ap, ◌∙◌}
use mathlib.Core.List.{List, [], ◌∷◌, ◌++◌}
use Prim.Native.Nat.{ℕ, zero, suc, ◌+◌, ◌*◌}
use native.Mathlib.Omega.{arith}
use lib.ListN.{length}
use Rattle.job.specs.Job.{word16, words_at}

pub words_length : (bytes : List ℕ) (i n : ℕ) → length (words_at bytes i n) ≡ n
unfolding words_at
words_length bytes i zero = refl
words_length bytes i (suc n) = ap suc (words_length bytes (i + 2) n)

pub words_more : (bytes : List ℕ) (i n : ℕ) → words_at bytes i (suc n) ≡ words_at bytes i n ++ (word16 bytes (i + 2 * n) ∷ [])
unfolding words_at
words_more bytes i zero = let e : i ≡ i + 2 * 0 = omega arith in ap (λ (j : ℕ). word16 bytes j ∷ []) e
words_more bytes i (suc n) =
    let e : i + 2 + 2 * n ≡ i + 2 * suc n = omega arith in
    ap (λ (l : List ℕ). word16 bytes i ∷ l) (words_more bytes (i + 2) n ∙ ap (λ (j : ℕ). words_at bytes (i + 2) n ++ (word16 bytes j ∷ [])) e)
