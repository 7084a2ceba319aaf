use Rattle.std.proofs.Common.{◌≤◌, sym, subst}
use Rattle.dense_close.specs.Narrowing.{IsRevised}
use Rattle.dense_close.proofs.Found.{inside_exist, found_none, found_some, lost_earlier, closed_now, of_none}
use Rattle.dense_close.proofs.Narrowed.{narrowed_more}
use Rattle.dense_close.proofs.closer.settle.Goals as goal

pub pop-requires-clause-exist : goal.pop-requires-clause-exist
pop-requires-clause-exist c =
    let t = c.args.task.now in
    let i = c.loop-c.invariant in
    inside_exist t.span.first t.span.end _ c.loop-c.list.queue (subst (λ n. t.span.end ≤ n) (sym i.listed.count) t.span_is.within) i.listed.inside

pub returns-in-Lost-clause-answer : goal.returns-in-Lost-clause-answer
returns-in-Lost-clause-answer c =
    let t = c.args.task.now in
    let i = c.loop-c.invariant in
    let a = subst (λ z. IsRevised z t.taking t.problem.now t.from t.stop t.span.first t.span.end c.pop.new.self c.revise.new.list c.loop-c.remains.box c.revise.new.remains.box) c.in-Lost.is c.revise.ensures.answer in
    let n = narrowed_more t.taking t.problem.now t.from t.stop c.args.remains.now.box c.loop-c.remains.box c.revise.new.remains.box i.narrowed c.revise.ensures.narrowed in
    found_none t.taking t.problem.now c.known.ensures t.from t.stop c.args.remains.now.box c.requires.declared (lost_earlier t.taking t.problem.now t.from t.stop c.args.remains.now.box c.revise.new.remains.box n a)

pub returns-clause-answer : goal.returns-clause-answer
returns-clause-answer c =
    let t = c.args.task.now in
    let i = c.loop-c.invariant in
    let none = of_none c.pop.result _ c.pop.ensures.none c.in_default.not-Some in
    found_some t.taking t.problem.now c.known.ensures t.from t.stop c.args.remains.now.box c.loop-c.remains.box c.requires.declared i.narrowed
    (closed_now t.taking t.problem.now t.from t.stop t.span.first t.span.end c.loop-c.list c.loop-c.remains.box t.span_is i.full i.listed.waiting none.0 i.settled)
