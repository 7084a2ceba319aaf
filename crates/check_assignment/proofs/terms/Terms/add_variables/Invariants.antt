use Rattle.std.proofs.Common.{◌≡◌, ℕ, ◌++◌, length, drop}
use Rattle.model_arguments.specs.Written.{variable_numbers}
use Rattle.check_assignment.specs.Terms.{terms_at, zero_terms}
use Rattle.check_assignment.proofs.terms.Terms.add_variables.Given as goal

abbrev pub invariant-loop-x : goal.invariant-loop-x
invariant-loop-x l = record {
  count : length l.self ≡ length l.initial.self;
  added : (y : ℕ) → terms_at l.self y ++ zero_terms l.rule y (variable_numbers (drop l.x-index l.own)) ≡ terms_at l.initial.self y ++ zero_terms l.rule y (variable_numbers l.own);
}
