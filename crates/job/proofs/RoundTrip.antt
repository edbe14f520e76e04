-- What is written is read back: a number's bytes make the number again, and each part is read where it was put.
use mathlib.Core.Path.{◌≡◌, refl, sym, ap₂, ◌∙◌}
use mathlib.Core.Bool.{true, false}
use mathlib.Core.List.Memᴰ.{head as here}
use mathlib.Core.List.Memᴰ.{tail as there}
use mathlib.Core.List.{List, [], ◌∷◌, ◌++◌, append_assoc}
use Prim.Native.Nat.{ℕ, zero, suc, ◌+◌, ◌*◌, ◌/◌, ◌%◌, ◌≤◌, ◌<◌}
use native.Mathlib.Omega.{arith}
use lib.ListN.{length, length-append}
use lib.Seq.{take-length, drop_at, get_or-append-add}
use borrow.Author.Tests.{le-ltb, eq-eqb}
use Rattle.lists.specs.Lists.{◌∈◌}
use Rattle.job.specs.declared.Job.{Job}
use Rattle.std.specs.Prelude.{Ok}
use Rattle.job.specs.Job.{word16, word32, headed, is_large, is_right, words_at, job_of, entries_of, image_of}
use Rattle.job.specs.Written.{bytes16, bytes32, header_of, words_of, job_for, job_bytes}
use Rattle.job.proofs.Parts.{answer_0}
use Rattle.job.proofs.Placing.{header_length, words_of_length}

-- the bytes of a job are read as that job, with the entries and the image that were written
pub record ReadBack (load : ℕ) (entries image : List ℕ) : Type 0 where
  pub job_read : job_of (job_bytes load entries image) ≡ Ok (job_for load entries image)
  pub entries_read : entries_of (job_bytes load entries image) (job_for load entries image) ≡ entries
  pub image_read : image_of (job_bytes load entries image) (job_for load entries image) ≡ image

-- ── words behind other bytes ──
module _ (front back : List ℕ) where
  word_behind : (i : ℕ) → word16 (front ++ back) (length front + i) ≡ word16 back i
  unfolding word16
  word_behind i =
      let e : length front + i + 1 ≡ length front + (i + 1) = omega arith in
      rw (e, get_or-append-add front back i 0, get_or-append-add front back (i + 1) 0)

  words_behind : (i n : ℕ) → words_at (front ++ back) (length front + i) n ≡ words_at back i n
  unfolding words_at
  words_behind i zero = refl
  words_behind i (suc n) =
      let e : length front + i + 2 ≡ length front + (i + 2) = omega arith in
      rw (e, word_behind i, words_behind (i + 2) n)

entries_back : (entries rest : List ℕ) → ((e : ℕ) → e ∈ entries → e < 65536) → words_at (words_of entries ++ rest) 0 (length entries) ≡ entries
unfolding words_at words_of bytes16 word16
entries_back [] rest small = refl
entries_back (e ∷ es) rest small =
    let first : e % 256 + 256 * (e / 256 % 256) ≡ e = omega (arith, small e (here refl)) in
    ap₂ (λ (x : ℕ) (xs : List ℕ). x ∷ xs) first (words_behind (bytes16 e) (words_of es ++ rest) 0 (length es) ∙ entries_back es rest (λ x m. small x (there m)))

-- ── the header ──
module _ (load : ℕ) (entries image : List ℕ) (load_fits : load < 65536) (few : length entries ≤ 1024) (short : length image ≤ 49152) where
  abbrev bytes : List ℕ
  bytes = job_bytes load entries image

  abbrev job : Job
  job = job_for load entries image

  load_back : word16 bytes 0 ≡ load
  unfolding job_bytes header_of bytes32 bytes16 word16
  load_back = omega arith

  count_back : word16 bytes 2 ≡ length entries
  unfolding job_bytes header_of bytes32 bytes16 word16
  count_back = omega arith

  size_back : word32 bytes 4 ≡ length image
  unfolding job_bytes header_of bytes32 bytes16 word16 word32
  size_back = omega arith

  offset_back : word32 bytes 8 ≡ 16
  unfolding job_bytes header_of bytes32 bytes16 word16 word32
  offset_back = refl

  image_back : word32 bytes 12 ≡ job.image
  unfolding job_bytes header_of bytes32 bytes16 word16 word32
  image_back = omega arith

  head_back : job ≡ headed bytes
  head_back = rw (load_back, count_back, size_back)

  -- ── the parts ──
  ahead : length (header_of job ++ words_of entries) ≡ job.image
  ahead = length-append (header_of job) (words_of entries) ∙ omega (arith, header_length job, words_of_length entries)

  total : length bytes ≡ job.image + job.size
  unfolding job_bytes
  total = length-append (header_of job ++ words_of entries) image ∙ omega (arith, ahead)

  not_large : is_large job ≡ false
  not_large = rw (le-ltb 1024 (length entries) few, le-ltb 49152 (length image) short)

  right : is_right bytes job ≡ true
  right = rw (offset_back, image_back, total, eq-eqb job.image job.image refl, eq-eqb (job.image + job.size) (job.image + job.size) refl)

  pub read_back : ((e : ℕ) → e ∈ entries → e < 65536) → ReadBack load entries image
  unfolding job_bytes
  read_back fits = record {
    job_read = sym (answer_0 bytes (omega (arith, total)) head_back not_large right);
    entries_read = rw append_assoc (rw (header_length job) at (words_behind (header_of job) (words_of entries ++ image) 0 (length entries) ∙ entries_back entries image fits));
    image_read = rw (drop_at (header_of job ++ words_of entries) image job.image ahead) (take-length image);
  }
