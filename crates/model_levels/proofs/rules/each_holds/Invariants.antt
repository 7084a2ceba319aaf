use Rattle.std.proofs.Common.{◌≡◌, drop}
use Rattle.std.specs.List.{list_all}
use Rattle.qc_model.specs.Holds.{holds_on}
use Rattle.model_levels.proofs.rules.each_holds.Given as goal

abbrev pub invariant-loop-rule : goal.invariant-loop-rule
invariant-loop-rule l = list_all (λ c. holds_on c l.values) (drop l.rule-index l.rules) ≡ list_all (λ c. holds_on c l.values) l.rules
