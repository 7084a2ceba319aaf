use Rattle.std.proofs.Common.{◌≡◌, ◌+◌, ◌^◌, ◌<◌, length}
use Rattle.qc_tokens.specs.Tokens.{bad_byte_from}
use Rattle.qc_tokens.proofs.scan.find_bad_byte.Given as goal

abbrev pub invariant-loop-first : goal.invariant-loop-first
invariant-loop-first l = record {
  place : l.at + length l.left < 2 ^ 32;
  search : bad_byte_from l.start l.part ≡ bad_byte_from l.at l.left;
}

abbrev pub decreases-loop-first : goal.decreases-loop-first
decreases-loop-first l = length l.left
