use Rattle.std.proofs.Common.{◌∙◌, ap, rules}
use Rattle.std.proofs.lemmas.Int.{to_z-of_z}
use mir.Val.{SFits}
use mir.Syntax.{w64}
use Rattle.qc_model.specs.Domains.{least_value}
use Rattle.zero_sum.proofs.Ends.{is_declared, has_domain, values_of}
use Rattle.zero_sum.proofs.range.least_declared.Goals as goal

pub variable-requires : goal.variable-requires
variable-requires c = is_declared c.args.problem.now c.args.stake c.known.ensures c.requires

pub least-requires : goal.least-requires
least-requires c = has_domain c.args.problem.now c.args.stake.variable.0 c.variable.result.now c.known.ensures c.variable.ensures

pub returns : goal.returns
returns c =
    let fits : SFits w64 c.least.result = search rules in
    to_z-of_z w64 c.least.result fits ∙ c.least.ensures ∙ ap least_value (values_of c.args.problem.now c.args.stake.variable.0 c.variable.result.now c.variable.ensures)
