-- The job file (01, "Job file and `reachreport`"). Header, little-endian: load (2 bytes), entry count E (2), image length N (4), offset of entries (4, always 16), offset
-- of image (4, always 16 + 2E). Then entries, then image; total 16 + 2E + N. Assumes nothing.
use Rattle.std.specs.Prelude.{Bool, cond, ◌&&◌, ◌||◌, List, [], ◌∷◌, ◌++◌, ℕ, zero, suc, ◌+◌, ◌*◌, eqb, ltb, length, get_or, take, drop, Result, Ok, Err}
use Rattle.job.specs.declared.Job.{Job}
use Rattle.job.specs.declared.JobError.{JobError}
use Rattle.job.specs.declared.JobError.TheVariants.{Short, TooLarge, Wrong}

-- ── 01's numbers of a refused job ──
abbrev pub number : JobError → ℕ
number Short = 8
number TooLarge = 9
number Wrong = 10

-- ── the header ──
-- two and four bytes from i on, the least significant first
unfoldable pub word16 : (bytes : List ℕ) (i : ℕ) → ℕ
word16 bytes i = get_or bytes i 0 + 256 * get_or bytes (i + 1) 0

unfoldable pub word32 : (bytes : List ℕ) (i : ℕ) → ℕ
word32 bytes i = word16 bytes i + 65536 * word16 bytes (i + 2)

-- load, E and N, as a job whose image follows its entries
abbrev pub headed : (bytes : List ℕ) → Job
headed bytes = record { load = word16 bytes 0; count = word16 bytes 2; image = 16 + 2 * word16 bytes 2; size = word32 bytes 4 }

-- ── which answer ──
-- more entries than 1,024, or an image longer than 49,152
abbrev pub is_large : Job → Bool
is_large job = ltb 1024 job.count || ltb 49152 job.size

-- both offsets and the total length are right
abbrev pub is_right : (bytes : List ℕ) → Job → Bool
is_right bytes job = eqb (word32 bytes 8) 16 && (eqb (word32 bytes 12) job.image && eqb (length bytes) (job.image + job.size))

-- 8, 9 and 10 in this order
abbrev pub job_of : (bytes : List ℕ) → Result Job JobError
job_of bytes =
    cond (ltb (length bytes) 16) (Err Short)
    (cond (is_large (headed bytes)) (Err TooLarge) (cond (is_right bytes (headed bytes)) (Ok (headed bytes)) (Err Wrong)))

-- ── what is read ──
-- n words from i on
unfoldable pub words_at : (bytes : List ℕ) (i n : ℕ) → List ℕ
words_at bytes i zero = []
words_at bytes i (suc n) = word16 bytes i ∷ words_at bytes (i + 2) n

abbrev pub entries_of : (bytes : List ℕ) → Job → List ℕ
entries_of bytes job = words_at bytes 16 job.count

abbrev pub image_of : (bytes : List ℕ) → Job → List ℕ
image_of bytes job = take job.size (drop job.image bytes)

-- the entries go to the first slots of the lent list, and a refusal writes none
abbrev pub entries_in : (bytes slots : List ℕ) → Result Job JobError → List ℕ
entries_in bytes slots (Ok job) = entries_of bytes job ++ drop job.count slots
entries_in bytes slots (Err e) = slots
