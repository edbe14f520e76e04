-- Where the parts of a job lie: 9 and 10 are tested before a job is read, so its parts keep their limits and fill the bytes.
use mathlib.Core.Path.{◌≡◌, refl}
use mathlib.Core.Bool.{Bool, true, false, cond, ◌||◌}
use mathlib.Core.List.{List}
use Prim.Native.Nat.{ℕ, ◌+◌, ◌*◌, ◌≤◌}
use native.Mathlib.Omega.{arith}
use lib.Dec.{eqb, eqb→eq, ltb}
use lib.ListN.{length, length-take, length-drop}
use borrow.Author.Tests.{le-ltb, ltb-false}
use Rattle.lists.proofs.Tests.{passed, and_right, clash}
use Rattle.job.specs.declared.Job.{Job}
use Rattle.std.specs.Prelude.{Ok, Err}
use Rattle.job.specs.declared.JobError.TheVariants.{Short, TooLarge, Wrong}
use Rattle.job.specs.Job.{word32, headed, is_large, is_right, job_of, entries_of, image_of}
use Rattle.job.proofs.Words.{words_length}

-- ── what the tests say ──
neither : (a b : Bool) → (a || b) ≡ false → (a ≡ false) × (b ≡ false)
neither true b e = absurd (clash refl e)
neither false b e = (refl, e)

pub small : (job : Job) → is_large job ≡ false → (job.count ≤ 1024) × (job.size ≤ 49152)
small job e =
    let each = neither (ltb 1024 job.count) (ltb 49152 job.size) e in
    (ltb-false _ _ each.0, ltb-false _ _ each.1)

pub whole : (bytes : List ℕ) (job : Job) → is_right bytes job ≡ true → length bytes ≡ job.image + job.size
whole bytes job e =
    let end = eqb (length bytes) (job.image + job.size) in
    eqb→eq _ _ (and_right (eqb (word32 bytes 12) job.image) end (and_right (eqb (word32 bytes 8) 16) _ (passed e)))

pub image_follows : (bytes : List ℕ) {job : Job} → job ≡ headed bytes → job.image ≡ 16 + 2 * job.count
image_follows bytes e = rw e

-- ── which answer, where there is a header ──
module _ (bytes : List ℕ) {job : Job} (header : 16 ≤ length bytes) (head : job ≡ headed bytes) where
  pub answer_9 : is_large job ≡ true → Err TooLarge ≡ job_of bytes
  answer_9 large = rw (le-ltb _ _ header, rw head at large)

  pub answer_10 : is_large job ≡ false → is_right bytes job ≡ false → Err Wrong ≡ job_of bytes
  answer_10 large right = rw (le-ltb _ _ header, rw head at large, rw head at right)

  pub answer_0 : is_large job ≡ false → is_right bytes job ≡ true → Ok job ≡ job_of bytes
  answer_0 large right = rw (le-ltb _ _ header, rw head at large, rw head at right, head)

-- ── the parts of a job that is read ──
pub record Parts (bytes : List ℕ) (job : Job) : Type 0 where
  pub image_from : job.image ≡ 16 + 2 * job.count
  pub image_to : job.image + job.size ≡ length bytes
  pub few : job.count ≤ 1024
  pub short : job.size ≤ 49152
  pub entries : length (entries_of bytes job) ≡ job.count
  pub image : length (image_of bytes job) ≡ job.size

record Passed (bytes : List ℕ) (job : Job) : Type 0 where
  head : job ≡ headed bytes
  large : is_large job ≡ false
  right : is_right bytes job ≡ true

pub parts : (bytes : List ℕ) {job : Job} → job_of bytes ≡ Ok job → Parts bytes job
parts bytes {job} e = laid (passed_all (ltb (length bytes) 16) (is_large (headed bytes)) refl (is_right bytes (headed bytes)) refl e)
  where
    passed_all : (a b : Bool) → is_large (headed bytes) ≡ b → (d : Bool) → is_right bytes (headed bytes) ≡ d
        → cond a (Err Short) (cond b (Err TooLarge) (cond d (Ok (headed bytes)) (Err Wrong))) ≡ Ok job → Passed bytes job
    passed_all true b p d q e = cc
    passed_all false true p d q e = cc
    passed_all false false p false q e = cc
    passed_all false false p true q e =
        let same : job ≡ headed bytes = cc in
        record { head = same; large = rw same p; right = rw same q }

    laid : Passed bytes job → Parts bytes job
    laid t =
        let room = whole bytes job t.right in
        record {
          image_from = image_follows bytes t.head;
          image_to = omega arith;
          few = (small job t.large).0;
          short = (small job t.large).1;
          entries = words_length bytes 16 job.count;
          image = simp (length-take, length-drop) (omega arith);
        }
