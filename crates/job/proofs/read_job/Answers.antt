-- `job::read_job` meets its contract: 8, 9 and 10 are tested in this order, and the limits that 9 tested keep the sums of 10 in range.
use mathlib.Core.Path.{◌≡◌, refl, sym, ◌∙◌}
use mathlib.Core.Bool.{true, false}
use mathlib.Core.List.{List}
use Prim.Native.Nat.{ℕ, ◌+◌, ◌*◌}
use native.Mathlib.Omega.{arith}
use borrow.Author.Tests.{lt-ltb}
use Rattle.job.specs.Job.{is_large, is_right}
use Rattle.job.proofs.Parts.{small, whole, image_follows, answer_9, answer_10, answer_0}
use Rattle.job.proofs.read_job.Goals as goal
use Rattle.job.proofs.read_job.Goals.{After-header-job, Else-is_large, Else-not-is_right}

-- there is a header
module _ (c : After-header-job) where
  abbrev bytes : List ℕ
  bytes = c.args.bytes.now

  follows : c.header-job.result.image ≡ 16 + 2 * c.header-job.result.count
  follows = image_follows bytes c.header-job.ensures

-- it is not 9
module _ (c : Else-is_large) where
  not_large : is_large c.header-job.result ≡ false
  not_large = sym c.is_large.ensures ∙ c.if-is_large.false

-- nor 10
module _ (c : Else-not-is_right) where
  right : is_right (bytes (goal.at.Else-not-is_right c).After-header-job) c.header-job.result ≡ true
  right = sym c.is_right.ensures ∙ c.if-not-is_right.false

pub returns-then-bytes-lt-HEADER : goal.returns-then-bytes-lt-HEADER
returns-then-bytes-lt-HEADER c = (rw (lt-ltb _ _ c.if-bytes-lt-HEADER.true), refl)

pub returns-then-is_large : goal.returns-then-is_large
returns-then-is_large c = (answer_9 (bytes (goal.at.returns-then-is_large c).After-header-job) (omega arith) c.header-job.ensures (sym c.is_large.ensures ∙ c.if-is_large.true), refl)

pub is_right-requires : goal.is_right-requires
is_right-requires c =
    let limits = small c.header-job.result (not_large c) in
    (omega arith, omega (arith, follows (goal.at.is_right-requires c).After-header-job))

pub returns-then-not-is_right : goal.returns-then-not-is_right
returns-then-not-is_right c =
    let wrong = sym c.is_right.ensures ∙ c.if-not-is_right.true in
    (answer_10 (bytes (goal.at.returns-then-not-is_right c).After-header-job) (omega arith) c.header-job.ensures (not_large (goal.at.returns-then-not-is_right c).Else-is_large) wrong, refl)

pub read_entries-requires : goal.read_entries-requires
read_entries-requires c =
    let limits = small c.header-job.result (not_large (goal.at.read_entries-requires c).Else-is_large) in
    (omega (arith, follows (goal.at.read_entries-requires c).After-header-job, whole (bytes (goal.at.read_entries-requires c).After-header-job) c.header-job.result (right (goal.at.read_entries-requires c).Else-not-is_right)), omega arith)

pub returns : goal.returns
returns c = (answer_0 (bytes (goal.at.returns c).After-header-job) (omega arith) c.header-job.ensures (not_large (goal.at.returns c).Else-is_large) (right (goal.at.returns c).Else-not-is_right), c.read_entries.ensures)
