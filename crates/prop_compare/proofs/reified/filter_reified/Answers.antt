use Rattle.std.proofs.Common.{◌∙◌, sym, ap}
use Rattle.model_arguments.specs.Written.{arg_at}
use Rattle.prop_compare.proofs.Three.{telling_at}
use Rattle.prop_compare.proofs.reified.filter_reified.Goals as goal

pub filter_told-requires-clause-telling : goal.filter_told-requires-clause-telling
filter_told-requires-clause-telling c =
    let args = c.arguments-args.ensures in
    let a = c.one_at-a.ensures ∙ ap (λ l. arg_at l 0) args in
    let b = c.one_at-b.ensures ∙ ap (λ l. arg_at l 1) args in
    let r = c.one_at-r.ensures ∙ ap (λ l. arg_at l 2) args in
    telling_at c.args.asked.problem.now c.args.asked.rule.now c.args.store.now.box c.one_at-a.result c.one_at-b.result c.one_at-r.result c.args.comparison a b r c.known.ensures.domains c.requires.fits c.requires.meaning
    (sym c.is_tangled.ensures ∙ c.if-is_tangled.false)
