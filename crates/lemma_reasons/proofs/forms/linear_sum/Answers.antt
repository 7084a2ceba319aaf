use Rattle.std.proofs.Common.{sym, subst, Option}
use Rattle.lemma_list.specs.Sums.{Linear}
use Rattle.lemma_reasons.specs.Known.{IsKnown}
use Rattle.lemma_reasons.proofs.Shapes.{of_lin_eq, of_lin_le, of_int_le, of_int_lt, of_bool_le, of_bool_lt, of_plus}
use Rattle.qc_refuter.proofs.Ready.{rule_met}
use Rattle.lemma_reasons.proofs.forms.linear_sum.Goals as goal

pub returns-in-IntLinEq-clause-some : goal.returns-in-IntLinEq-clause-some
returns-in-IntLinEq-clause-some c =
    subst (λ (l : Option Linear). IsKnown c.args.problem.now c.args.given c.args.before c.args.store.now.box l c.weighted.result)
    (sym (of_lin_eq c.args.problem.now.variables c.args.rule.now (sym c.in-IntLinEq.ensures) c.requires.asked.rule)) c.weighted.ensures.is

pub returns-in-IntLinLe-clause-some : goal.returns-in-IntLinLe-clause-some
returns-in-IntLinLe-clause-some c =
    subst (λ (l : Option Linear). IsKnown c.args.problem.now c.args.given c.args.before c.args.store.now.box l c.weighted-in-IntLinLe.result)
    (sym (of_lin_le c.args.problem.now.variables c.args.rule.now (sym c.in-IntLinLe.ensures) c.requires.asked.rule)) c.weighted-in-IntLinLe.ensures.is

pub returns-in-IntLe-clause-some : goal.returns-in-IntLe-clause-some
returns-in-IntLe-clause-some c =
    subst (λ (l : Option Linear). IsKnown c.args.problem.now c.args.given c.args.before c.args.store.now.box l c.difference.result)
    (sym (of_int_le c.args.problem.now.variables c.args.rule.now (sym c.in-IntLe.ensures) c.requires.asked.rule)) c.difference.ensures.is

pub returns-in-BoolLe-clause-some : goal.returns-in-BoolLe-clause-some
returns-in-BoolLe-clause-some c =
    subst (λ (l : Option Linear). IsKnown c.args.problem.now c.args.given c.args.before c.args.store.now.box l c.difference-in-BoolLe.result)
    (sym (of_bool_le c.args.problem.now.variables c.args.rule.now (sym c.in-BoolLe.ensures) c.requires.asked.rule)) c.difference-in-BoolLe.ensures.is

pub returns-in-IntLt-clause-some : goal.returns-in-IntLt-clause-some
returns-in-IntLt-clause-some c =
    subst (λ (l : Option Linear). IsKnown c.args.problem.now c.args.given c.args.before c.args.store.now.box l c.difference-in-IntLt.result)
    (sym (of_int_lt c.args.problem.now.variables c.args.rule.now (sym c.in-IntLt.ensures) c.requires.asked.rule)) c.difference-in-IntLt.ensures.is

pub returns-in-BoolLt-clause-some : goal.returns-in-BoolLt-clause-some
returns-in-BoolLt-clause-some c =
    subst (λ (l : Option Linear). IsKnown c.args.problem.now c.args.given c.args.before c.args.store.now.box l c.difference-in-BoolLt.result)
    (sym (of_bool_lt c.args.problem.now.variables c.args.rule.now (sym c.in-BoolLt.ensures) c.requires.asked.rule)) c.difference-in-BoolLt.ensures.is

pub returns-in-IntPlus-clause-some : goal.returns-in-IntPlus-clause-some
returns-in-IntPlus-clause-some c =
    subst (λ (l : Option Linear). IsKnown c.args.problem.now c.args.given c.args.before c.args.store.now.box l c.balance.result)
    (sym (of_plus c.args.problem.now.variables c.args.rule.now (sym c.in-IntPlus.ensures) c.requires.asked.rule)) c.balance.ensures.is

pub weighted-requires-clause-met : goal.weighted-requires-clause-met
weighted-requires-clause-met c = rule_met c.args.problem.now c.args.store.now.box c.known.ensures.domains c.requires.asked.declared c.requires.asked.full c.args.rule.now c.requires.asked.rule

pub weighted-requires-in-IntLinLe-clause-met : goal.weighted-requires-in-IntLinLe-clause-met
weighted-requires-in-IntLinLe-clause-met c = rule_met c.args.problem.now c.args.store.now.box c.known.ensures.domains c.requires.asked.declared c.requires.asked.full c.args.rule.now c.requires.asked.rule

pub difference-requires-clause-met : goal.difference-requires-clause-met
difference-requires-clause-met c = rule_met c.args.problem.now c.args.store.now.box c.known.ensures.domains c.requires.asked.declared c.requires.asked.full c.args.rule.now c.requires.asked.rule

pub difference-requires-in-BoolLe-clause-met : goal.difference-requires-in-BoolLe-clause-met
difference-requires-in-BoolLe-clause-met c = rule_met c.args.problem.now c.args.store.now.box c.known.ensures.domains c.requires.asked.declared c.requires.asked.full c.args.rule.now c.requires.asked.rule

pub difference-requires-in-IntLt-clause-met : goal.difference-requires-in-IntLt-clause-met
difference-requires-in-IntLt-clause-met c = rule_met c.args.problem.now c.args.store.now.box c.known.ensures.domains c.requires.asked.declared c.requires.asked.full c.args.rule.now c.requires.asked.rule

pub difference-requires-in-BoolLt-clause-met : goal.difference-requires-in-BoolLt-clause-met
difference-requires-in-BoolLt-clause-met c = rule_met c.args.problem.now c.args.store.now.box c.known.ensures.domains c.requires.asked.declared c.requires.asked.full c.args.rule.now c.requires.asked.rule

pub balance-requires-clause-met : goal.balance-requires-clause-met
balance-requires-clause-met c = rule_met c.args.problem.now c.args.store.now.box c.known.ensures.domains c.requires.asked.declared c.requires.asked.full c.args.rule.now c.requires.asked.rule
