use Rattle.std.proofs.Common.{◌≡◌, drop}
use Rattle.qc_model.specs.Block.{no_condition_to as no_condition_up_to}
use Rattle.dense_box.proofs.wishes.no_condition_to.Given as goal

abbrev pub invariant-loop-at : goal.invariant-loop-at
invariant-loop-at l = no_condition_up_to l.fn.last (drop l.at l.fn.problem.scopes) l.at ≡ no_condition_up_to l.fn.last (drop l.fn.i l.fn.problem.scopes) l.fn.i
