-- `job::read_entries` meets its contract. The loop's invariant: the first i slots hold the first i entries, and the others are as they were.
use mathlib.Core.Path.{◌≡◌, refl}
use mathlib.Core.List.{List, [], ◌++◌, append-nil, append_assoc}
use Prim.Native.Nat.{ℕ, ◌+◌, ◌*◌, ◌<◌}
use native.Mathlib.Numerals.{add-one}
use native.Mathlib.Omega.{arith}
use lib.ListN.{length, set, take, drop}
use lib.Seq.{drop-cons, set_at, length-take-le}
use Rattle.std.proofs.lemmas.List.{drop_all}
use Rattle.job.specs.Job.{word16, words_at}
use Rattle.job.proofs.Words.{words_length, words_more}
use Rattle.job.proofs.read_entries.Goals as goal

module _ (bytes slots : List ℕ) (i : ℕ) where
  one_more : i < length slots
      → set (words_at bytes 16 i ++ drop i slots) i (word16 bytes (16 + 2 * i)) ≡ words_at bytes 16 (i + 1) ++ drop (i + 1) slots
  one_more h = rw (drop-cons slots i 0 h, set_at _ _ _ _ i (words_length bytes 16 i), add-one, words_more, append_assoc)

pub loop-slot-init : goal.loop-slot-init
unfolding words_at
loop-slot-init c = (omega arith, refl)

pub loop-slot-preserved : goal.loop-slot-preserved
loop-slot-preserved c = (
  omega arith,
  rw (c.loop-slot.invariant.1, c.word16.ensures, c.loop-slot.invariant.0) (one_more _ _ c.loop-slot.slot-index (omega arith)),
)

pub returns : goal.returns
returns c =
    let slots = take c.args.count c.args.entries.now in
    let long : length slots ≡ c.args.count = length-take-le c.args.count c.args.entries.now (omega arith) in
    let all : c.loop-slot.slot-index ≡ c.args.count = omega (arith, long) in
    let end : drop c.args.count slots ≡ [] = drop_all c.args.count slots (omega (arith, long)) in
    rw (rw (all, end, append-nil) at c.loop-slot.invariant.1)
