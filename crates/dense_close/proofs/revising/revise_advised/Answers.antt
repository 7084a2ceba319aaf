use Rattle.std.proofs.Common.{◌∙◌, sym}
use Rattle.qc_model.specs.Domains.{declared_box}
use Rattle.dense_close.proofs.Found.{lost_empty}
use Rattle.dense_close.proofs.Narrowed.{narrowed_more}
use Rattle.dense_close.proofs.Trimmed.{changed_by, unchanged_by}
use Rattle.dense_close.proofs.revising.revise_advised.Goals as goal

pub returns-then-is_empty-clause-answer : goal.returns-then-is_empty-clause-answer
returns-then-is_empty-clause-answer c =
    let t = c.args.task.now in
    lost_empty t.taking t.problem.now t.from t.stop c.trim-look.new.remains.box (sym c.is_empty.ensures ∙ c.if-is_empty.true)

pub returns-then-look-clause-answer : goal.returns-then-look-clause-answer
returns-then-look-clause-answer c =
    let t = c.args.task.now in
    changed_by c.trim-look.result t.taking t.problem.now t.from t.stop t.span.first t.span.end c.args.c.0 c.args.list.now c.trim-look.new.list c.args.remains.now.box c.trim-look.new.remains.box c.if-look.true (sym c.is_empty.ensures ∙ c.if-is_empty.false)
    c.trim-look.ensures.others c.trim-look.ensures.looked

pub revise_each-requires-clause-declared : goal.revise_each-requires-clause-declared
revise_each-requires-clause-declared c = c.trim-look.ensures.narrowed.fewer (declared_box c.args.task.now.problem.now) c.requires.declared

pub revise_each-requires-clause-full : goal.revise_each-requires-clause-full
revise_each-requires-clause-full c = sym c.is_empty.ensures ∙ c.if-is_empty.false

pub returns-clause-narrowed : goal.returns-clause-narrowed
returns-clause-narrowed c =
    let t = c.args.task.now in
    narrowed_more t.taking t.problem.now t.from t.stop c.args.remains.now.box c.trim-look.new.remains.box c.revise_each.new.remains.box c.trim-look.ensures.narrowed c.revise_each.ensures.narrowed

pub returns-clause-answer : goal.returns-clause-answer
returns-clause-answer c =
    let t = c.args.task.now in
    unchanged_by c.trim-look.result c.revise_each.result t.taking t.problem.now t.from t.stop t.span.first t.span.end c.args.c.0 c.args.list.now c.trim-look.new.list c.revise_each.new.list c.args.remains.now.box c.trim-look.new.remains.box c.revise_each.new.remains.box
    c.if-look.false c.trim-look.ensures.looked c.revise_each.ensures.answer
