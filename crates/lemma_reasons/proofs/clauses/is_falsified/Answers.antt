use Rattle.std.proofs.Common.{◌∙◌, sym, ap}
use Rattle.std.specs.Prelude.{pos}
use Rattle.std.specs.List.{list_all}
use Rattle.model_arguments.specs.Written.{args_at}
use Rattle.qc_refuter.proofs.Ready.{rule_met}
use Rattle.lemma_list.specs.Reasons.{comes_to}
use Rattle.lemma_reasons.specs.Answering.{answered_by}
use Rattle.lemma_reasons.proofs.Left.{both_asked, not_asked}
use Rattle.lemma_reasons.proofs.Shapes.{falsified_by}
use Rattle.lemma_reasons.proofs.clauses.is_falsified.Goals as goal

pub items_met-xs-requires : goal.items_met-xs-requires
items_met-xs-requires c =
    rw c.arguments-args.ensures (rule_met c.args.problem.now c.args.store.now.box c.known.ensures.domains c.requires.declared c.requires.full c.args.rule.now c.requires.rule)

pub items_met-ys-requires : goal.items_met-ys-requires
items_met-ys-requires c =
    rw c.arguments-args.ensures (rule_met c.args.problem.now c.args.store.now.box c.known.ensures.domains c.requires.declared c.requires.full c.args.rule.now c.requires.rule)

pub returns-then-all_come_to : goal.returns-then-all_come_to
returns-then-all_come_to c =
    let answers = answered_by c.args.problem.now c.args.answers in
    let box = c.args.store.now.box in
    let us = c.items_met-xs.result.now in
    let vs = c.items_met-ys.result.now in
    let p = c.items_met-xs.ensures.is ∙ ap (λ a. args_at a 0) c.arguments-args.ensures in
    let q = c.items_met-ys.ensures.is ∙ ap (λ a. args_at a 1) c.arguments-args.ensures in
    both_asked c.all_come_to.result c.all_come_to-then-all_come_to.result (list_all (comes_to answers box vs (pos 0)) us) (list_all (comes_to answers box us (pos 1)) vs) c.all_come_to.ensures c.if-all_come_to.true c.all_come_to-then-all_come_to.ensures
    ∙ falsified_by c.args.problem.now.variables c.args.rule.now answers box us vs (sym c.in-BoolClause.ensures) c.requires.rule p q

pub returns-else-all_come_to : goal.returns-else-all_come_to
returns-else-all_come_to c =
    let answers = answered_by c.args.problem.now c.args.answers in
    let box = c.args.store.now.box in
    let us = c.items_met-xs.result.now in
    let vs = c.items_met-ys.result.now in
    let p = c.items_met-xs.ensures.is ∙ ap (λ a. args_at a 0) c.arguments-args.ensures in
    let q = c.items_met-ys.ensures.is ∙ ap (λ a. args_at a 1) c.arguments-args.ensures in
    c.if-all_come_to.false
    ∙ (not_asked c.all_come_to.result (list_all (comes_to answers box vs (pos 0)) us) (list_all (comes_to answers box us (pos 1)) vs) c.all_come_to.ensures c.if-all_come_to.false
    ∙ falsified_by c.args.problem.now.variables c.args.rule.now answers box us vs (sym c.in-BoolClause.ensures) c.requires.rule p q)
