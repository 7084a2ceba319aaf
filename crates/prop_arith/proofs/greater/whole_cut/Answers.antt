use Rattle.std.proofs.Common.{◌≡◌, subst, true}
use Rattle.qc_refuter.specs.Met.{is_open}
use Rattle.prop_compare.proofs.Sides.{open_place}
use Rattle.prop_base.proofs.Whole.{whole_cut}
use Rattle.prop_arith.proofs.greater.whole_cut.Goals as goal

pub returns-in-Var-clause-some : goal.returns-in-Var-clause-some
returns-in-Var-clause-some c =
    let box = c.args.store.now.box in
    let l = open_place box c.in-Var.x (subst (λ a. is_open box a ≡ true) c.in-Var.is c.requires.open) in
    whole_cut c.args.problem.now c.args.rule.now box c.in-Var.x c.known.ensures.domains c.requires.asked l c.requires.refuted
