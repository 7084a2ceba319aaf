use Rattle.std.proofs.Common.{◌∙◌, ap}
use Rattle.lemma_list.specs.Sums.{linear_of}
use Rattle.lemma_reasons.proofs.Told.{AreGiven, told_entailed}
use Rattle.lemma_reasons.proofs.kept.entailed_by_sums.Goals as goal

pub returns-in-Some : goal.returns-in-Some
returns-in-Some c =
    let a = c.args.aim.now in
    let q = c.given_for.result in
    let told : AreGiven a.problem.now a.lemma.now c.args.c.0 q = record { sums = c.given_for.ensures.sums; scope = c.given_for.ensures.scope; number = ap (λ n. n.0) c.given_for.ensures.c } in
    c.sum_entailed.ensures ∙ told_entailed a.problem.now a.lemma.now c.args.c.0 q told c.args.store.now.box (linear_of c.args.rule.now) c.in-Some.sum c.in-Some.ensures.some
