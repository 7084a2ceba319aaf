use Rattle.qc_model.specs.Refuted.{left_to}
use Rattle.dense_quiet.proofs.Spread.{IsSeen}
use Rattle.dense_quiet.proofs.guessing.of_element.Given as goal

abbrev pub invariant-loop-k : goal.invariant-loop-k
invariant-loop-k l = IsSeen l.is_place (left_to l.store.box l.b) l.numbers (left_to l.store.box l.c) l.initial.k l.k l.found.low l.found.high
