use Rattle.std.proofs.Common.{◌∙◌, ap, rules}
use Rattle.std.proofs.lemmas.Int.{to_z-of_z}
use mir.Val.{SFits}
use mir.Syntax.{w64}
use Rattle.qc_model.specs.Domains.{greatest_value}
use Rattle.zero_sum.proofs.Ends.{is_declared, has_domain, values_of}
use Rattle.zero_sum.proofs.range.greatest_declared.Goals as goal

pub variable-requires : goal.variable-requires
variable-requires c = is_declared c.args.problem.now c.args.stake c.known.ensures c.requires

pub greatest-requires : goal.greatest-requires
greatest-requires c = has_domain c.args.problem.now c.args.stake.variable.0 c.variable.result.now c.known.ensures c.variable.ensures

pub returns : goal.returns
returns c =
    let fits : SFits w64 c.greatest.result = search rules in
    to_z-of_z w64 c.greatest.result fits ∙ c.greatest.ensures ∙ ap greatest_value (values_of c.args.problem.now c.args.stake.variable.0 c.variable.result.now c.variable.ensures)
