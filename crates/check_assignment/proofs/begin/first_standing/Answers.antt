use Rattle.std.proofs.Common.{rules, ◌∙◌, [], ap}
use Rattle.std.proofs.lemmas.Int.{to_z-of_z}
use mir.Val.{SFits}
use mir.Syntax.{w128}
use Rattle.check_assignment.specs.Balance.{test_of, total_of}
use Rattle.check_assignment.proofs.Zeros.{total_zeros}
use Rattle.check_assignment.proofs.begin.first_standing.Goals as goal

pub returns : goal.returns
returns c = λ n.
    let fits : SFits w128 c.first_total.result = search rules in
    record {
      test = c.test_of-test.ensures;
      total = simp to_z-of_z (c.first_total.ensures ∙ ap (λ t. total_of t [] c.args.rule.now) c.test_of-test.ensures ∙ total_zeros (test_of c.args.rule.now) n c.args.rule.now);
      holds = λ e. cc;
    }
