use Rattle.std.proofs.Common.{◌≡◌, ◌++◌, drop}
use Rattle.qc_model.specs.Canonical.{text_from, canonical_text}
use Rattle.qc_print.proofs.problem.write_problem.Given as goal

abbrev pub invariant-loop-i : goal.invariant-loop-i
invariant-loop-i l = l.out.items ++ text_from l.problem (drop l.i l.problem.scopes) l.i ≡ canonical_text l.problem
