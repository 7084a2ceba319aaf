use Rattle.std.proofs.Common.{sym, ◌∙◌, subst}
use Rattle.model_arguments.specs.Written.{arg_at}
use Rattle.dense_quiet.specs.Quiet.{range_in, SparesThree, by_spans, refuted_in}
use Rattle.dense_quiet.specs.Taking.{takes_of}
use Rattle.dense_quiet.proofs.Related.{three_ranges}
use Rattle.dense_quiet.proofs.relating.is_quiet_by_ends.Goals as goal

pub returns : goal.returns
returns c = λ h.
    let r = c.args.relation in
    let ok = takes_of c.args.taking c.args.problem.now c.args.rule.now in
    let args = c.args.args.now in
    let box = c.args.store.now.box in
    let spares =
    three_ranges (refuted_in r) ok c.arg_met-x.result c.arg_met-y.result c.arg_met-z.result box (range_in c.ends_of-a.result) (range_in c.ends_of-b.result) (range_in c.ends_of-c.result) c.ends_of-a.ensures c.ends_of-b.ensures c.ends_of-c.ensures
    (sym c.is_refuted.ensures ∙ c.if-is_refuted.false)
    (λ w. c.first_fits.ensures (c.is_spared.ensures c.if-not-is_spared.false w))
    (λ w. c.second_fits.ensures (c.is_spared-2.ensures c.if-not-is_spared-2.false w))
    (λ w. c.third_fits.ensures (c.is_spared-3.ensures h w)) in
    subst (λ x. SparesThree (by_spans (refuted_in r)) ok x (arg_at args 1) (arg_at args 2) box) c.arg_met-x.ensures.is
    (subst (λ y. SparesThree (by_spans (refuted_in r)) ok c.arg_met-x.result y (arg_at args 2) box) c.arg_met-y.ensures.is
    (subst (λ z. SparesThree (by_spans (refuted_in r)) ok c.arg_met-x.result c.arg_met-y.result z box) c.arg_met-z.ensures.is spares))
