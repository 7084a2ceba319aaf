use Rattle.std.proofs.Common.{◌∙◌, sym, false}
use Rattle.std.specs.Prelude.{get_or}
use Rattle.qc_model.specs.Valid.{is_constraint}
use Rattle.model_evaluation.proofs.Readable.{constraint_readable, passes_at}
use Rattle.dense_alike.proofs.Seeing.{first_holds, first_fails}
use Rattle.dense_alike.proofs.Viewing.{same_view, all_step, held_at, seen_in, view_told, all_from, view_other}
use Rattle.dense_alike.proofs.views.are_views_same.Goals as goal

pub is_rule_same-requires-clause-here : goal.is_rule_same-requires-clause-here
is_rule_same-requires-clause-here c =
    let g = c.args.problem.now in
    let r = c.constraint-rule.result.now in
    constraint_readable g.variables r c.args.here.now (passes_at (is_constraint g.variables) g.constraints c.loop-k.k r c.known.ensures.constraints c.constraint-rule.ensures) c.requires.here.numbers

pub is_rule_same-requires-clause-there : goal.is_rule_same-requires-clause-there
is_rule_same-requires-clause-there c =
    let g = c.args.problem.now in
    let r = c.constraint-rule.result.now in
    constraint_readable g.variables r c.args.there.now (passes_at (is_constraint g.variables) g.constraints c.loop-k.k r c.known.ensures.constraints c.constraint-rule.ensures) c.requires.there.numbers

pub returns-then-not-is_rule_same : goal.returns-then-not-is_rule_same
returns-then-not-is_rule_same c =
    let g = c.args.problem.now in
    let i = c.args.i.0 in
    let here = c.args.here.now in
    let there = c.args.there.now in
    let r = c.constraint-rule.result.now in
    let k = c.loop-k.k in
    let step = all_step (same_view g i here there) g.constraints k r c.constraint-rule.ensures in
    let told =
    view_told g i here there r (get_or c.args.holds_here.now k false) (get_or c.args.holds_there.now k false)
    (held_at g i c.args.start here c.args.holds_here.now k r c.requires.holds_here c.loop-k.auto.k c.constraint-rule.ensures)
    (held_at g i c.args.start there c.args.holds_there.now k r c.requires.holds_there c.loop-k.auto.k c.constraint-rule.ensures) in
    first_fails _ _ _ step (sym (seen_in g c.args.reads.now i here there r (get_or c.args.holds_here.now k false) (get_or c.args.holds_there.now k false) c.is_rule_same.result c.requires.game c.is_rule_same.ensures ∙ told) ∙ c.if-not-is_rule_same.true) ∙ c.loop-k.invariant

pub loop-k-preserved : goal.loop-k-preserved
loop-k-preserved c =
    let g = c.args.problem.now in
    let i = c.args.i.0 in
    let here = c.args.here.now in
    let there = c.args.there.now in
    let r = c.constraint-rule.result.now in
    let k = c.loop-k.k in
    let step = all_step (same_view g i here there) g.constraints k r c.constraint-rule.ensures in
    let told =
    view_told g i here there r (get_or c.args.holds_here.now k false) (get_or c.args.holds_there.now k false)
    (held_at g i c.args.start here c.args.holds_here.now k r c.requires.holds_here c.loop-k.auto.k c.constraint-rule.ensures)
    (held_at g i c.args.start there c.args.holds_there.now k r c.requires.holds_there c.loop-k.auto.k c.constraint-rule.ensures) in
    sym (first_holds _ _ _ step (sym (seen_in g c.args.reads.now i here there r (get_or c.args.holds_here.now k false) (get_or c.args.holds_there.now k false) c.is_rule_same.result c.requires.game c.is_rule_same.ensures ∙ told) ∙ c.if-not-is_rule_same.false)) ∙ c.loop-k.invariant

pub loop-k-init : goal.loop-k-init
loop-k-init c =
    let g = c.args.problem.now in
    let i = c.args.i.0 in
    let here = c.args.here.now in
    let there = c.args.there.now in
    all_from g i c.args.start (same_view g i here there) (view_other g i here there) c.requires.start
