-- A buffer that is filled part by part: a part that is put right behind another makes one part with it. How long the parts are.
use mathlib.Core.Path.{◌≡◌, refl, sym, ◌∙◌}
use mathlib.Core.List.{List, [], ◌∷◌, ◌++◌, append-nil, append_assoc}
use Prim.Native.Nat.{ℕ, ◌+◌, ◌*◌, ◌≤◌, ◌<◌}
use native.Mathlib.Numerals.{add-one}
use native.Mathlib.Omega.{arith}
use lib.ListN.{length, get_or, take, drop, length-append, length-drop}
use lib.Seq.{length-take-le, take-suc, take_at, drop-append-add, drop-drop}
use Rattle.job.specs.declared.Job.{Job}
use Rattle.job.specs.Written.{bytes16, bytes32, header_of, words_of, placed}

-- ── parts ──
module _ (out : List ℕ) (n : ℕ) (part : List ℕ) (room : n + length part ≤ length out) where
  front : length (take n out ++ part) ≡ n + length part
  front = length-append (take n out) part ∙ rw (length-take-le n out (omega arith))

  pub placed_length : length (placed out n part) ≡ length out
  placed_length = length-append (take n out ++ part) _ ∙ omega (arith, front, length-drop (n + length part) out)

  pub placed_next : (m : ℕ) (more : List ℕ) {now now' : List ℕ} → m ≡ n + length part → now ≡ placed out n part → now' ≡ placed now m more
      → now' ≡ placed out n (part ++ more)
  placed_next m more e first second =
      let at : length (take n out ++ part) ≡ m = front ∙ sym e in
      let sum : n + length part + length more ≡ n + length (part ++ more) = omega (arith, length-append part more) in
      let behind : drop (m + length more) (placed out n part) ≡ drop (n + length (part ++ more)) out = rw (← at, drop-append-add, drop-drop, sum) in
      second ∙ rw (first, take_at (take n out ++ part) _ m at, behind, append_assoc (take n out) part more)

-- ── how long they are ──
pub bytes16_length : (n : ℕ) → length (bytes16 n) ≡ 2
unfolding bytes16
bytes16_length n = refl

pub header_length : (job : Job) → length (header_of job) ≡ 16
unfolding header_of bytes32 bytes16
header_length job = refl

pub words_of_length : (entries : List ℕ) → length (words_of entries) ≡ 2 * length entries
unfolding words_of
words_of_length [] = refl
words_of_length (e ∷ es) = length-append (bytes16 e) (words_of es) ∙ omega (arith, bytes16_length e, words_of_length es)

-- one entry more
words_of_append : (entries : List ℕ) (e : ℕ) → words_of (entries ++ (e ∷ [])) ≡ words_of entries ++ bytes16 e
unfolding words_of
words_of_append [] e = append-nil (bytes16 e)
words_of_append (x ∷ xs) e = rw (words_of_append xs e, append_assoc)

pub words_of_more : (entries : List ℕ) (i : ℕ) → i < length entries
    → words_of (take (i + 1) entries) ≡ words_of (take i entries) ++ bytes16 (get_or entries i 0)
words_of_more entries i h = rw (add-one, take-suc entries i 0 h, words_of_append)
