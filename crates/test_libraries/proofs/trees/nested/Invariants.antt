use Rattle.std.proofs.Common.{◌≡◌}
use Rattle.proof_tree.specs.Shape.{body_of}
use Rattle.proof_tree.specs.Counts.{body_count, body_depth}
use Rattle.std.specs.Prelude.{true}
use Rattle.test_libraries.proofs.trees.nested.Given as goal

abbrev pub invariant-loop : goal.invariant-loop
invariant-loop l = record {
  deep : body_depth (body_of l.body) ≡ l.counter;
  none : body_count (λ c. true) (body_of l.body) ≡ 0;
}
