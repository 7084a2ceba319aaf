use Rattle.std.proofs.Common.{◌≤◌, ◌-◌, length}
use Rattle.qc_check.specs.Keeping.{WasGiven}
use Rattle.test_certificates.proofs.checking.read_by.Given as goal

abbrev pub invariant-loop-at : goal.invariant-loop-at
invariant-loop-at l = record {
  given : WasGiven l.checker;
  read : l.checker.read ≤ l.at;
  within : l.at ≤ length l.text;
}

abbrev pub decreases-loop-at : goal.decreases-loop-at
decreases-loop-at l = length l.text - l.at
