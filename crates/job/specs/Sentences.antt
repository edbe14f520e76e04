-- What the refusals of a job print as. Assumes nothing.
use Rattle.std.specs.Prelude.{List, ◌++◌, ℕ, codes, decimal}
use Rattle.job.specs.declared.JobError.{JobError}
use Rattle.job.specs.declared.JobError.TheVariants as read
use Rattle.job.specs.declared.WriteError.{WriteError}
use Rattle.job.specs.declared.WriteError.TheVariants as write

-- why bytes are no job, in one sentence
abbrev pub read_sentence : JobError → List ℕ
read_sentence read.Short = codes "the job is shorter than its header"
read_sentence read.TooLarge = codes "the job has too many entries or too long an image"
read_sentence read.Wrong = codes "an offset or the length of the job is wrong"

-- why a job is not written, and how many bytes it needs
abbrev pub write_sentence : WriteError → List ℕ
write_sentence write.TooLarge = codes "the job has too many entries or too long an image"
write_sentence (write.Short n) = codes "the job needs " ++ decimal n ++ codes " bytes"
