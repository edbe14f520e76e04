-- The number so far and the digits still to be read spell what the whole word does.
use Rattle.std.proofs.Common.{◌≡◌, ◌+◌, ◌<◌, drop}
use Rattle.makejob.specs.Words.{address_from, address_of}
use Rattle.makejob.proofs.address.Given as goal

abbrev pub invariant-loop-c : goal.invariant-loop-c
invariant-loop-c l = record {
  fits : l.value < 65536;
  so_far : address_from l.value (drop (l.from + l.c-index) l.word) ≡ address_of l.word;
}
