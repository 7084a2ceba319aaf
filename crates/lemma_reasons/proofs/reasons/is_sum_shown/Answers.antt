use Rattle.std.proofs.Common.{◌∙◌, sym, ap, refl, rules}
use Rattle.std.proofs.lemmas.Int.{to_z-of_z}
use mir.Val.{SFits}
use mir.Syntax.{w64}
use Rattle.lemma_list.specs.Sums.{linear_of, linear_at, sum_shown}
use Rattle.lemma_reasons.proofs.Asking.{asked}
use Rattle.lemma_reasons.proofs.Told.{AreGiven, told_shown}
use Rattle.lemma_reasons.proofs.reasons.is_sum_shown.Goals as goal

pub linear_sum-requires : goal.linear_sum-requires
linear_sum-requires c = record {
  asked = asked c.args.aim.now.problem.now c.args.store.now.box c.args.sum.c.0 c.constraint-rule.result.now c.known.ensures.constraints c.requires c.constraint-rule.ensures;
}

pub returns-in-Some : goal.returns-in-Some
returns-in-Some c =
    let a = c.args.aim.now in
    let g = a.problem.now in
    let m = a.lemma.now in
    let q = c.given_for.result in
    let box = c.args.store.now.box in
    let z = c.args.sum in
    let told : AreGiven g m z.c.0 q = record { sums = c.given_for.ensures.sums; scope = c.given_for.ensures.scope; number = ap (λ n. n.0) c.given_for.ensures.c } in
    let lo_fits : SFits w64 c.args.sum.lo = search rules in
    let hi_fits : SFits w64 c.args.sum.hi = search rules in
    let e = simp to_z-of_z at c.lies_within.ensures in
    e
    ∙ (told_shown g m z.c.0 q told box c.args.before z refl (linear_of c.constraint-rule.result.now) c.in-Some.known c.in-Some.ensures.some
    ∙ ap (λ o. sum_shown g m c.args.before box z (linear_at o)) (sym c.constraint-rule.ensures))
