use Rattle.std.proofs.Common.{◌∙◌, ◌<◌, subst, get_or, w64, rules, arith}
use mir.Val.{SFits}
use Rattle.std.specs.Prelude.{pos}
use Rattle.qc_model.specs.declared.problem.Arg.TheVariants.{Var}
use Rattle.qc_model.specs.Holds.{arg_value}
use Rattle.model_evaluation.proofs.Steps.{row_same, row_other, row_end}
use Rattle.model_evaluation.proofs.rows.is_row.Goals as goal

pub loop-k-preserved : goal.loop-k-preserved
loop-k-preserved c =
    let v_fits : SFits w64 c.value_of.result = search rules in
    let n_fits : SFits w64 (get_or c.args.row.now c.loop-k.k (pos 0)) = search rules in
    row_same (arg_value c.args.values.now) c.args.items.now c.args.row.now c.loop-k.k (Var (record { 0 = 0 })) c.value_of.result c.loop-k-test.true (subst (λ n. c.loop-k.k < n) c.requires c.loop-k-test.true) c.value_of.ensures v_fits n_fits c.if-value_of-row.false ∙ c.loop-k.invariant

pub returns-then-value_of-row : goal.returns-then-value_of-row
returns-then-value_of-row c =
    let v_fits : SFits w64 c.value_of.result = search rules in
    let n_fits : SFits w64 (get_or c.args.row.now c.loop-k.k (pos 0)) = search rules in
    row_other (arg_value c.args.values.now) c.args.items.now c.args.row.now c.loop-k.k (Var (record { 0 = 0 })) c.value_of.result c.loop-k-test.true (subst (λ n. c.loop-k.k < n) c.requires c.loop-k-test.true) c.value_of.ensures v_fits n_fits c.if-value_of-row.true ∙ c.loop-k.invariant

pub returns : goal.returns
returns c = row_end (arg_value c.args.values.now) c.args.items.now c.args.row.now c.loop-k.k (omega (arith, c.loop-k-test.false)) (omega (arith, c.requires, c.loop-k-test.false)) ∙ c.loop-k.invariant
