use Rattle.std.proofs.Common.{◌≡◌, true, subst}
use Rattle.qc_model.specs.Valid.{arg_sees}
use Rattle.model_arguments.proofs.Boxes.{seen_place}
use Rattle.prop_base.proofs.ends.arg_cut.Goals as goal

pub end_cut-requires-clause-x : goal.end_cut-requires-clause-x
end_cut-requires-clause-x g c =
    let p = c.args.problem.now in
    let r = c.args.rule.now in
    seen_place p c.args.store.now.box r.owner.0 c.in-Var.x.0 c.requires.asked.declared (subst (λ a. arg_sees p.variables r.owner.0 a ≡ true) c.in-Var.is c.requires.sees)
