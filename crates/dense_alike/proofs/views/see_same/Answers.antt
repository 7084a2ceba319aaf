use Rattle.std.proofs.Common.{◌∙◌, sym}
use Rattle.qc_model.specs.Valid.{is_constraint}
use Rattle.model_evaluation.proofs.Readable.{constraint_readable, passes_at}
use Rattle.dense_alike.proofs.Seeing.{first_holds, first_fails}
use Rattle.dense_alike.proofs.Viewing.{seen_same, seen_other, seen_alike_in, all_step, all_from}
use Rattle.dense_alike.proofs.views.see_same.Goals as goal

pub is_seen_alike-requires-clause-here : goal.is_seen_alike-requires-clause-here
is_seen_alike-requires-clause-here c =
    let g = c.args.problem.now in
    let r = c.constraint.result.now in
    constraint_readable g.variables r c.args.here.now (passes_at (is_constraint g.variables) g.constraints c.loop-k.k r c.known.ensures.constraints c.constraint.ensures) c.requires.here.numbers

pub is_seen_alike-requires-clause-there : goal.is_seen_alike-requires-clause-there
is_seen_alike-requires-clause-there c =
    let g = c.args.problem.now in
    let r = c.constraint.result.now in
    constraint_readable g.variables r c.args.there.now (passes_at (is_constraint g.variables) g.constraints c.loop-k.k r c.known.ensures.constraints c.constraint.ensures) c.requires.there.numbers

pub returns-then-not-is_seen_alike : goal.returns-then-not-is_seen_alike
returns-then-not-is_seen_alike c =
    let g = c.args.problem.now in
    let i = c.args.i.0 in
    let here = c.args.here.now in
    let there = c.args.there.now in
    let r = c.constraint.result.now in
    let step = all_step (seen_same g i here there) g.constraints c.loop-k.k r c.constraint.ensures in
    first_fails _ _ _ step (sym (seen_alike_in g c.args.reads.now i here there r c.is_seen_alike.result c.requires.game c.is_seen_alike.ensures) ∙ c.if-not-is_seen_alike.true) ∙ c.loop-k.invariant

pub loop-k-preserved : goal.loop-k-preserved
loop-k-preserved c =
    let g = c.args.problem.now in
    let i = c.args.i.0 in
    let here = c.args.here.now in
    let there = c.args.there.now in
    let r = c.constraint.result.now in
    let step = all_step (seen_same g i here there) g.constraints c.loop-k.k r c.constraint.ensures in
    sym (first_holds _ _ _ step (sym (seen_alike_in g c.args.reads.now i here there r c.is_seen_alike.result c.requires.game c.is_seen_alike.ensures) ∙ c.if-not-is_seen_alike.false)) ∙ c.loop-k.invariant

pub loop-k-init : goal.loop-k-init
loop-k-init c =
    let g = c.args.problem.now in
    let i = c.args.i.0 in
    let here = c.args.here.now in
    let there = c.args.there.now in
    all_from g i c.args.start (seen_same g i here there) (seen_other g i here there) c.requires.start
