use Rattle.std.proofs.Common.{◌∙◌, sym, arith}
use Rattle.qc_model.specs.Content.{Rule}
use Rattle.qc_model.specs.Refuted.{refuted_by}
use Rattle.lemma_reasons.proofs.Asking.{asked}
use Rattle.dense_box.proofs.Rows.{item_there, any_found, any_goes, any_done}
use Rattle.dense_box.proofs.constraints.span_refuted.Goals as goal

pub refutes-requires-clause-asked : goal.refutes-requires-clause-asked
refutes-requires-clause-asked c rule e = asked c.args.problem.now c.args.store.now.box c.loop-k.k rule c.known.ensures.constraints c.requires.left e

pub returns-then-refutes : goal.returns-then-refutes
returns-then-refutes c =
    let cs = c.args.problem.now.constraints in
    let k = c.loop-k.k in
    let at = item_there cs k (omega arith) in
    sym (any_found (λ (r : Rule). refuted_by r c.args.store.now.box) cs k c.args.span.end at.0 at.1 c.loop-k-test.true (sym (c.refutes.ensures at.0 at.1) ∙ c.if-refutes.true)) ∙ c.loop-k.invariant

pub loop-k-preserved : goal.loop-k-preserved
loop-k-preserved c =
    let cs = c.args.problem.now.constraints in
    let k = c.loop-k.k in
    let at = item_there cs k (omega arith) in
    any_goes (λ (r : Rule). refuted_by r c.args.store.now.box) cs k c.args.span.end at.0 at.1 c.loop-k-test.true (sym (c.refutes.ensures at.0 at.1) ∙ c.if-refutes.false) ∙ c.loop-k.invariant

pub returns : goal.returns
returns c =
    sym (any_done (λ (r : Rule). refuted_by r c.args.store.now.box) c.args.problem.now.constraints c.loop-k.k c.args.span.end (omega arith)) ∙ c.loop-k.invariant
