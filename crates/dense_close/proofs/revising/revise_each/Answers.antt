use Rattle.std.proofs.Common.{rules, ◌≡◌, ◌∙◌, sym, ap, subst, false}
use Rattle.qc_model.specs.Domains.{declared_box, has_empty}
use Rattle.qc_model.specs.Lists.{Among}
use Rattle.fd_store.specs.Held.{Held}
use Rattle.model_arguments.specs.Written.{variable_numbers}
use Rattle.qc_model.specs.Arguments.{variables_of}
use Rattle.dense_close.specs.Narrowing.{HasLooked, IsRevised}
use Rattle.dense_close.proofs.Found.{own_at, gone_through, lost_empty}
use Rattle.dense_close.proofs.Looked.{looked_more}
use Rattle.dense_close.proofs.Narrowed.{narrowed_more}
use Rattle.dense_close.proofs.revising.revise_each.Goals as goal

pub look_at-requires-clause-own : goal.look_at-requires-clause-own
look_at-requires-clause-own c = λ r e.
    let t = c.args.task.now in
    let own_is = ap variable_numbers c.own-own.ensures ∙ t.index_is.own_are c.args.c.0 r e in
    subst (Among _) own_is (own_at c.own-own.result.now c.loop-x.x-index _ c.loop-x-test.true)

pub returns-then-is_empty-clause-answer : goal.returns-then-is_empty-clause-answer
returns-then-is_empty-clause-answer c =
    let t = c.args.task.now in
    lost_empty t.taking t.problem.now t.from t.stop c.look_at.new.remains.box (sym c.is_empty.ensures ∙ c.if-is_empty.true)

pub loop-x-preserved : goal.loop-x-preserved
loop-x-preserved c =
    let t = c.args.task.now in
    let i = c.loop-x.invariant in
    let e = c.look_at.ensures in
    let full : has_empty c.look_at.new.remains.box ≡ false = sym c.is_empty.ensures ∙ c.if-is_empty.false in
    let narrowed = narrowed_more t.taking t.problem.now t.from t.stop c.args.remains.now.box c.loop-x.remains.box c.look_at.new.remains.box i.narrowed e.narrowed in
    record {
      narrowed = narrowed;
      past = search rules;
      declared = narrowed.fewer (declared_box t.problem.now) c.requires.declared;
      full = full;
      listed = e.list;
      others = e.others;
      looked = looked_more t.taking t.problem.now c.args.c.0 c.own-own.result.now c.loop-x.x-index _ c.loop-x.look c.look_at.result c.both-look.result c.args.list.now c.loop-x.list c.look_at.new.list c.args.remains.now.box c.loop-x.remains.box c.look_at.new.remains.box
          c.loop-x-test.true c.both-look.ensures.changed c.both-look.ensures.seen i.looked (e.looked full);
    }

pub returns-clause-answer : goal.returns-clause-answer
returns-clause-answer c =
    let t = c.args.task.now in
    let r = c.constraint.result.now in
    let own_is = ap variable_numbers c.own-own.ensures ∙ t.index_is.own_are c.args.c.0 r c.constraint.ensures in
    let looked : HasLooked c.loop-x.look t.taking t.problem.now c.args.c.0 (variables_of r.args) c.args.list.now c.loop-x.list c.args.remains.now.box c.loop-x.remains.box =
    subst (λ xs. HasLooked c.loop-x.look t.taking t.problem.now c.args.c.0 xs c.args.list.now c.loop-x.list c.args.remains.now.box c.loop-x.remains.box)
    (gone_through c.own-own.result.now c.loop-x.x-index (variables_of r.args) c.loop-x-test.false own_is) c.loop-x.invariant.looked in
    subst (λ (h : Held). IsRevised c.outcome.result t.taking t.problem.now t.from t.stop t.span.first t.span.end c.args.list.now c.loop-x.list c.args.remains.now.box h.box) c.store.ensures
    (c.outcome.ensures r c.args.list.now c.args.remains.now.box c.constraint.ensures
    (subst (λ (h : Held). HasLooked c.loop-x.look t.taking t.problem.now c.args.c.0 (variables_of r.args) c.args.list.now c.loop-x.list c.args.remains.now.box h.box) (sym c.store.ensures) looked))
