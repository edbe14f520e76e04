-- `job::put_entries` meets its contract. The loop's invariant: the first i entries stand behind the header, and the other bytes are as they were.
use mathlib.Core.Path.{◌≡◌, ap, ◌∙◌}
use mathlib.Core.List.{List, []}
use Prim.Native.Nat.{ℕ, ◌+◌, ◌*◌, ◌≤◌, ◌<◌}
use native.Mathlib.Omega.{arith}
use lib.ListN.{length, get_or, take}
use lib.Seq.{length-take-le, take-length, paste-zero}
use Rattle.job.specs.Written.{bytes16, words_of, placed}
use Rattle.job.proofs.Placing.{placed_length, placed_next, words_of_length, words_of_more}
use Rattle.job.proofs.put_entries.Goals as goal

-- the first i entries are put
module _ (out entries : List ℕ) (i : ℕ) (room : 16 + 2 * length entries ≤ length out) (h : i ≤ length entries) where
  put : length (words_of (take i entries)) ≡ 2 * i
  put = words_of_length (take i entries) ∙ rw (length-take-le i entries h)

  kept : length (placed out 16 (words_of (take i entries))) ≡ length out
  kept = placed_length out 16 (words_of (take i entries)) (omega (arith, put))

  one_more : {now now' : List ℕ} (n : ℕ) → n ≡ 16 + 2 * i → i < length entries → now ≡ placed out 16 (words_of (take i entries))
      → now' ≡ placed now n (bytes16 (get_or entries i 0)) → now' ≡ placed out 16 (words_of (take (i + 1) entries))
  one_more n at k first second =
      rw (words_of_more entries i k)
      (placed_next out 16 (words_of (take i entries)) (omega (arith, put)) n _ (omega (arith, put)) first second)

pub loop-e-init : goal.loop-e-init
unfolding words_of
loop-e-init c = (omega arith, paste-zero c.args.out.now 16 [])

pub put16-requires : goal.put16-requires
put16-requires c =
    let args = c.args in
    omega (arith, ap length c.loop-e.invariant.1 ∙ kept args.out.now args.entries.now c.loop-e.e-index (omega arith) (omega arith))

pub loop-e-preserved : goal.loop-e-preserved
loop-e-preserved c = let args = c.args in (
  omega arith,
  one_more
      args.out.now
      args.entries.now
      c.loop-e.e-index
      (omega arith)
      (omega arith)
      c.loop-e.n
      (omega arith)
      (omega arith)
      c.loop-e.invariant.1
      c.put16.ensures,
)

pub shape_of-out : goal.shape_of-out
shape_of-out c =
    let args = c.args in
    ap length c.loop-e.invariant.1 ∙ kept args.out.now args.entries.now c.loop-e.e-index (omega arith) (omega arith)

pub returns : goal.returns
returns c =
    let args = c.args in
    let all : c.loop-e.e-index ≡ length args.entries.now = omega arith in
    rw (all, take-length) at c.loop-e.invariant.1
