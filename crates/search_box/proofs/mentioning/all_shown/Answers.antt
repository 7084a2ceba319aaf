use Rattle.std.proofs.Common.{◌∙◌, ◌&&◌, suc, sym, ap, drop, add-one}
use Rattle.qc_model.specs.Valid.{is_constraint}
use Rattle.search_box.specs.Complete.{each_shown}
use Rattle.search_box.proofs.Complete.{rule_of, shown_from}
use Rattle.search_box.proofs.mentioning.all_shown.Goals as goal

pub returns-then-not-shown : goal.returns-then-not-shown
returns-then-not-shown c =
    let rules = c.args.problem.now.constraints in
    let k = c.loop-at.at in
    sym (ap (λ b. b && each_shown (drop (suc k) rules)) c.if-not-shown.true) ∙ (sym (shown_from rules k c.constraint.result.now c.in_ok-shown.shown c.constraint.ensures c.in_ok-shown.ensures) ∙ c.loop-at.invariant)

pub loop-at-preserved : goal.loop-at-preserved
loop-at-preserved c =
    let rules = c.args.problem.now.constraints in
    let k = c.loop-at.at in
    ap (λ n. each_shown (drop n rules)) (add-one k)
    ∙ (sym (ap (λ b. b && each_shown (drop (suc k) rules)) c.if-not-shown.false) ∙ (sym (shown_from rules k c.constraint.result.now c.in_ok-shown.shown c.constraint.ensures c.in_ok-shown.ensures) ∙ c.loop-at.invariant))

pub mentions_or_holds-requires : goal.mentions_or_holds-requires
mentions_or_holds-requires c = rule_of (is_constraint c.args.problem.now.variables) c.args.problem.now.constraints c.loop-at.at c.constraint.result.now c.known.ensures.constraints c.constraint.ensures
