use Rattle.std.proofs.Common.{◌∙◌, sym, arith}
use Rattle.qc_model.specs.Content.{Rule}
use Rattle.lemma_list.specs.Entailment.{entailed_by}
use Rattle.dense_box.proofs.Rows.{item_there, all_fails, all_goes, all_done}
use Rattle.dense_box.proofs.constraints.span_entailed.Goals as goal

pub returns-then-not-is_entailed : goal.returns-then-not-is_entailed
returns-then-not-is_entailed c =
    let cs = c.args.problem.now.constraints in
    let k = c.loop-k.k in
    let at = item_there cs k (omega arith) in
    sym (all_fails (λ (r : Rule). entailed_by r c.args.store.now.box) cs k c.args.span.end at.0 at.1 c.loop-k-test.true (sym (c.is_entailed.ensures at.0 at.1) ∙ c.if-not-is_entailed.true)) ∙ c.loop-k.invariant

pub loop-k-preserved : goal.loop-k-preserved
loop-k-preserved c =
    let cs = c.args.problem.now.constraints in
    let k = c.loop-k.k in
    let at = item_there cs k (omega arith) in
    all_goes (λ (r : Rule). entailed_by r c.args.store.now.box) cs k c.args.span.end at.0 at.1 c.loop-k-test.true (sym (c.is_entailed.ensures at.0 at.1) ∙ c.if-not-is_entailed.false) ∙ c.loop-k.invariant

pub returns : goal.returns
returns c =
    sym (all_done (λ (r : Rule). entailed_by r c.args.store.now.box) c.args.problem.now.constraints c.loop-k.k c.args.span.end (omega arith)) ∙ c.loop-k.invariant
