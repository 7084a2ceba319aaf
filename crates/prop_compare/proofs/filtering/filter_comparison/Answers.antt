use Rattle.std.proofs.Common.{◌∙◌, sym, ap}
use Rattle.model_arguments.specs.Written.{arg_at}
use Rattle.prop_compare.proofs.Rows.{pair_at, tested_by}
use Rattle.prop_compare.proofs.filtering.filter_comparison.Goals as goal

pub compare-requires-clause-pair : goal.compare-requires-clause-pair
compare-requires-clause-pair c =
    let args = c.arguments-args.ensures in
    let a = c.one_at-a.ensures ∙ ap (λ l. arg_at l 0) args in
    let b = c.one_at-b.ensures ∙ ap (λ l. arg_at l 1) args in
    pair_at c.args.asked.problem.now c.args.asked.rule.now c.args.store.now.box c.one_at-a.result c.one_at-b.result c.args.comparison a b c.known.ensures.domains c.requires.fits c.requires.meaning (sym c.is_same.ensures ∙ c.if-is_same.false)

pub compare-requires-clause-tested : goal.compare-requires-clause-tested
compare-requires-clause-tested c =
    let args = c.arguments-args.ensures in
    let a = c.one_at-a.ensures ∙ ap (λ l. arg_at l 0) args in
    let b = c.one_at-b.ensures ∙ ap (λ l. arg_at l 1) args in
    tested_by c.args.asked.rule.now c.args.store.now.box c.one_at-a.result c.one_at-b.result c.args.comparison a b c.requires.meaning
