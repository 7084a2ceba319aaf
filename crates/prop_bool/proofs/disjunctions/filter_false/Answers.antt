use Rattle.std.proofs.Common.{◌≡◌, ◌∙◌, List, length, not, sym, ap, subst}
use Rattle.std.specs.Prelude.{◌==◌}
use Rattle.proof_tree.specs.declared.tree.Step.{Step}
use Rattle.prop_base.specs.Pruning.{IsFiltered, is_just}
use Rattle.prop_base.proofs.Prunings.{prunes_more}
use Rattle.prop_bool.proofs.Removing.{answered_after}
use Rattle.prop_bool.proofs.disjunctions.filter_false.Goals as goal

pub returns-in_err-filtered-clause-pruning : goal.returns-in_err-filtered-clause-pruning
returns-in_err-filtered-clause-pruning c = prunes_more c.args.asked c.fail_each.ensures.pruning c.act.ensures.pruning

pub returns-clause-pruning : goal.returns-clause-pruning
returns-clause-pruning c = prunes_more c.args.asked c.fail_each.ensures.pruning c.act.ensures.pruning

pub returns-clause-answer : goal.returns-clause-answer
returns-clause-answer c =
    let old = c.args.steps.now in
    let new = c.act.new.steps in
    let moved = not (length c.items-before.result.now == length c.items.result.now) in
    let e : moved ≡ not (length old == length new) =
    ap (λ (l : List Step). not (length l == length c.items.result.now)) c.items-before.ensures ∙ ap (λ (l : List Step). not (length old == length l)) c.items.ensures in
    subst (λ f. IsFiltered f c.args.asked.rule.now c.act.new.store.box old new) (sym c.answered.ensures)
    (answered_after (is_just c.args.asked.c.0) c.args.asked.problem.now c.args.asked.rule.now _ _ c.act.new.store old _ new moved c.in_ok-filtered.filtered c.fail_each.ensures.pruning c.act.ensures.pruning e c.in_ok-filtered.ensures.answer)
