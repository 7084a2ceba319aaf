use Rattle.std.proofs.Common.{ap, ◌∙◌, map}
use Rattle.std.specs.List.{list_all}
use Rattle.qc_model.specs.Domains.{domain_values}
use Rattle.qc_model.specs.Valid.{is_domain}
use Rattle.qc_play.proofs.Ranges.{own_domains, own_values}
use Rattle.qc_play.proofs.tuple.variables_of.Goals as goal

pub returns-clause-domains : goal.returns-clause-domains
returns-clause-domains c = ap (list_all (λ x. is_domain x.domain)) c.variables_of.ensures ∙ own_domains c.args.problem.now c.args.i c.known.ensures

pub returns-clause-values : goal.returns-clause-values
returns-clause-values c = ap (map (λ x. domain_values x.domain)) c.variables_of.ensures ∙ own_values c.args.problem.now c.args.i c.known.ensures
