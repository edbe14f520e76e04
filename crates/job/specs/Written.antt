-- A job, written (01, "Job file and `reachreport`"): what its parts make of it, in the layout that `Job` reads. Assumes nothing.
use Rattle.std.specs.Prelude.{cond, List, [], ◌∷◌, ◌++◌, ℕ, ◌+◌, ◌*◌, ◌/◌, ◌%◌, ltb, length, take, drop, Result, Ok, Err}
use Rattle.job.specs.declared.Job.{Job}
use Rattle.job.specs.declared.WriteError.{WriteError}
use Rattle.job.specs.declared.WriteError.TheVariants.{TooLarge, Short}
use Rattle.job.specs.Job.{is_large}

-- ── the bytes ──
-- the two and the four bytes of a number, the least significant first
unfoldable pub bytes16 : ℕ → List ℕ
bytes16 n = n % 256 ∷ n / 256 % 256 ∷ []

unfoldable pub bytes32 : ℕ → List ℕ
bytes32 n = bytes16 (n % 65536) ++ bytes16 (n / 65536)

-- load, E, N, the offset of entries and the offset of image
unfoldable pub header_of : Job → List ℕ
header_of job = bytes16 job.load ++ bytes16 job.count ++ bytes32 job.size ++ bytes32 16 ++ bytes32 job.image

-- the entries, two bytes each
unfoldable pub words_of : (entries : List ℕ) → List ℕ
words_of [] = []
words_of (e ∷ es) = bytes16 e ++ words_of es

-- where the parts stand in their job
abbrev pub job_for : (load : ℕ) (entries image : List ℕ) → Job
job_for load entries image = record { load = load; count = length entries; image = 16 + 2 * length entries; size = length image }

-- header, then entries, then image
unfoldable pub job_bytes : (load : ℕ) (entries image : List ℕ) → List ℕ
job_bytes load entries image = header_of (job_for load entries image) ++ words_of entries ++ image

-- ── the answer, and the lent buffer ──
-- too large, too short a buffer with the number needed, or written with the number of bytes
abbrev pub written_of : Job → (room : ℕ) → Result ℕ WriteError
written_of job room =
    cond (is_large job) (Err TooLarge) (cond (ltb room (job.image + job.size)) (Err (Short (job.image + job.size))) (Ok (job.image + job.size)))

-- a buffer, with `part` from n on
abbrev pub placed : (out : List ℕ) (n : ℕ) (part : List ℕ) → List ℕ
placed out n part = take n out ++ part ++ drop (n + length part) out

-- the job goes to the front of the buffer, and a refusal writes nothing
abbrev pub job_in : (bytes out : List ℕ) → Result ℕ WriteError → List ℕ
job_in bytes out (Ok n) = placed out 0 bytes
job_in bytes out (Err e) = out
