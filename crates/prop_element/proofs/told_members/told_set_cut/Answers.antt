use Rattle.std.proofs.Common.{◌≡◌, subst, true, false}
use Rattle.std.specs.List.{list_all}
use Rattle.qc_model.specs.Domains.{is_single, values_left}
use Rattle.qc_model.specs.Refuted.{left_to}
use Rattle.qc_model.specs.Valid.{is_truth}
use Rattle.qc_refuter.specs.Met.{is_open}
use Rattle.prop_compare.proofs.Decided.{both_truths}
use Rattle.prop_element.proofs.told_members.told_set_cut.Goals as goal

pub answer_cut-requires-clause-both : goal.answer_cut-requires-clause-both
answer_cut-requires-clause-both c =
    let box = c.args.store.now.box in
    let q = c.in-Var.is in
    both_truths (values_left box c.in-Var.x.0)
    (subst (λ z. is_open box z ≡ true) q c.requires.last)
    (subst (λ z. list_all is_truth (left_to box z) ≡ true) q c.requires.truths)
    (subst (λ z. is_single (left_to box z) ≡ false) q c.in-None.ensures.none)
