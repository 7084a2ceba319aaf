use Rattle.std.proofs.Common.{◌==◌, ◌∙◌, sym, rules, tests}
use Rattle.std.proofs.lemmas.Iterator.{YieldsList-from_slice}
use Rattle.std.proofs.lemmas.Iterator.Search.{any_from_yields_List}
use Rattle.qc_model.specs.declared.problem.VarId.{VarId}
use Rattle.qc_model.proofs.AllOfTwo.{list_any-map}
use Rattle.model_arguments.proofs.variables.stands_in.Goals as goal

pub returns : goal.returns
returns c =
    any_from_yields_List (λ (y : VarId). c.args.x.0 == y.0) _ _ _ c.any.ensures.ran (YieldsList-from_slice c.args.variables.now cc) (λ y b q k. search (rules, tests))
    ∙ sym (list_any-map (λ y. c.args.x.0 == y) (λ (y : VarId). y.0) c.args.variables.now)
