-- `job::put_header` meets its contract: each of its five numbers goes right behind the one before it.
use mathlib.Core.List.{◌++◌}
use native.Mathlib.Omega.{arith}
use Rattle.job.specs.Written.{bytes16, bytes32, header_of}
use Rattle.job.proofs.Placing.{placed_next}
use Rattle.job.proofs.put_header.Goals as goal

pub returns : goal.returns
unfolding header_of bytes32 bytes16
returns c =
    let out = c.args.out.now in
    let job = c.args.job in
    let load = bytes16 job.load in
    let count = load ++ bytes16 job.count in
    let size = count ++ bytes32 job.size in
    let two = placed_next out 0 load (omega arith) 2 _ (omega arith) c.put16.ensures c.put16-2.ensures in
    let three = placed_next out 0 count (omega arith) 4 _ (omega arith) two c.put32.ensures in
    let four = placed_next out 0 size (omega arith) 8 _ (omega arith) three c.put32-2.ensures in
    placed_next out 0 (size ++ bytes32 16) (omega arith) 12 _ (omega arith) four c.put32-3.ensures
