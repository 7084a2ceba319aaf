use Rattle.std.proofs.Common.{◌≡◌, ◌∙◌, sym, ap, subst, true, not, take, ◌+◌}
use Rattle.std.specs.List.{list_all}
use Rattle.qc_model.specs.Domains.{Box}
use Rattle.model_arguments.specs.Asked.{IsAsked}
use Rattle.prop_bool.specs.Literals.{truth_number, is_truth_at, literals, same_literal, surely_fails, surely_holds}
use Rattle.prop_bool.specs.Findings.{given}
use Rattle.qc_model.proofs.Readable.{second}
use Rattle.prop_bool.proofs.Adding.{literal_there, any_there, same_self, fails_next, fails_stays, all_weaker}
use Rattle.prop_bool.proofs.Results.{must_fail, unfixed_values, given_asked, given_fails, has_both}
use Rattle.prop_bool.proofs.disjunctions.fail_one.Goals as goal

pub standing_of-requires : goal.standing_of-requires
standing_of-requires c =
    let box = c.args.store.now.box in
    let ls = literals c.args.plain.now c.args.negated.now in
    literal_there (is_truth_at box) ls c.args.k c.literal_at-literal.result (second (is_truth_at box c.args.head) (list_all (is_truth_at box) ls) (c.requires.says.truths box c.requires.fits)) c.literal_at-literal.ensures

pub lose-requires-clause-refuted : goal.lose-requires-clause-refuted
lose-requires-clause-refuted c =
    let box = c.args.store.now.box in
    let ls = literals c.args.plain.now c.args.negated.now in
    let l = c.literal_at-literal.result in
    let u = c.in-Unfixed.ensures in
    must_fail c.args.asked.problem.now c.args.asked.rule.now ls c.args.head c.requires.says box c.in-Var.x c.requires.fits (unfixed_values box l c.in-Var.x c.in-Var.is u) l c.requires.fails c.in-Var.is
    (any_there (same_literal l) ls c.args.k l (same_self box l u) c.literal_at-literal.ensures)

pub returns-in-Holds-clause-holds : goal.returns-in-Holds-clause-holds
returns-in-Holds-clause-holds c =
    let box = c.args.store.now.box in
    let ls = literals c.args.plain.now c.args.negated.now in
    λ e. any_there (surely_holds box) ls c.args.k c.literal_at-literal.result c.in-Holds.ensures c.literal_at-literal.ensures

pub returns-in-Fails-clause-failed : goal.returns-in-Fails-clause-failed
returns-in-Fails-clause-failed c =
    let box = c.args.store.now.box in
    let ls = literals c.args.plain.now c.args.negated.now in
    λ e h. fails_next box ls c.args.k c.literal_at-literal.result c.literal_at-literal.ensures c.in-Fails.ensures h

pub returns-in_ok-lose-in-Var-clause-fits : goal.returns-in_ok-lose-in-Var-clause-fits
returns-in_ok-lose-in-Var-clause-fits c =
    let g = c.args.asked.problem.now in
    let r = c.args.asked.rule.now in
    let box = c.args.store.now.box in
    let ls = literals c.args.plain.now c.args.negated.now in
    let l = c.literal_at-literal.result in
    let both = unfixed_values box l c.in-Var.x c.in-Var.is c.in-Unfixed.ensures in
    subst (λ b. IsAsked g r b) (sym c.in_ok-lose-in-Var.ensures.content) (given_asked g r ls c.args.head c.requires.says box c.in-Var.x c.requires.fits both (not l.positive))

pub returns-in_ok-lose-in-Var-clause-fails : goal.returns-in_ok-lose-in-Var-clause-fails
returns-in_ok-lose-in-Var-clause-fails c =
    let g = c.args.asked.problem.now in
    let r = c.args.asked.rule.now in
    let box = c.args.store.now.box in
    let ls = literals c.args.plain.now c.args.negated.now in
    let l = c.literal_at-literal.result in
    let both = unfixed_values box l c.in-Var.x c.in-Var.is c.in-Unfixed.ensures in
    ap (λ b. surely_fails b c.args.head) c.in_ok-lose-in-Var.ensures.content
    ∙ fails_stays box c.in-Var.x.0 (truth_number (not l.positive)) c.args.head (has_both g r ls c.args.head c.requires.says box c.in-Var.x c.requires.fits both (not l.positive)) c.requires.fails

pub returns-in_ok-lose-in-Var-clause-failed : goal.returns-in_ok-lose-in-Var-clause-failed
returns-in_ok-lose-in-Var-clause-failed c =
    let g = c.args.asked.problem.now in
    let r = c.args.asked.rule.now in
    let box = c.args.store.now.box in
    let ls = literals c.args.plain.now c.args.negated.now in
    let l = c.literal_at-literal.result in
    let both = unfixed_values box l c.in-Var.x c.in-Var.is c.in-Unfixed.ensures in
    let new = given box c.in-Var.x (not l.positive) in
    let F : Box → Type 0 = λ b. list_all (surely_fails b) (take (c.args.k + 1) ls) ≡ true in
    λ e h. subst F (sym c.in_ok-lose-in-Var.ensures.content)
    (fails_next new ls c.args.k l c.literal_at-literal.ensures (given_fails g r ls c.args.head c.requires.says box c.in-Var.x c.requires.fits both l c.in-Var.is)
    (all_weaker (surely_fails box) (surely_fails new) (λ m i. fails_stays box c.in-Var.x.0 (truth_number (not l.positive)) m (has_both g r ls c.args.head c.requires.says box c.in-Var.x c.requires.fits both (not l.positive)) i) (take c.args.k ls) h))
