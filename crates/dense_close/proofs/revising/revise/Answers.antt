use Rattle.std.proofs.Common.{◌∙◌, ap, refl, subst}
use Rattle.model_arguments.specs.Written.{variable_numbers}
use Rattle.qc_model.specs.Arguments.{variables_of}
use Rattle.qc_model.specs.Lists.{Distinct}
use Rattle.dense_close.proofs.Found.{between_below, settled_bare, bare_of, clad_of}
use Rattle.dense_close.proofs.Looked.{settled_all}
use Rattle.dense_close.proofs.revising.revise.Goals as goal

pub constraint-requires : goal.constraint-requires
constraint-requires c = between_below c.args.task.now.span.first c.args.task.now.span.end _ c.args.c.0 c.args.task.now.span_is.within c.requires.inside

pub returns-then-is_empty-clause-answer : goal.returns-then-is_empty-clause-answer
returns-then-is_empty-clause-answer c =
    let t = c.args.task.now in
    let r = c.constraint.result.now in
    let own_is = ap variable_numbers c.own-own.ensures ∙ t.index_is.own_are c.args.c.0 r c.constraint.ensures in (
      refl,
      refl,
      settled_all t.taking t.problem.now t.span.first t.span.end c.args.c.0 c.args.list.now c.args.remains.now.box c.requires.others
          (settled_bare t.taking t.problem.now c.args.c.0 r c.args.list.now c.args.remains.now.box c.constraint.ensures (bare_of c.own-own.result.now (variables_of r.args) c.is_empty.result own_is c.is_empty.ensures c.if-is_empty.true)),
    )

pub revise_apart-requires-clause-some : goal.revise_apart-requires-clause-some
revise_apart-requires-clause-some c = λ r e.
    let t = c.args.task.now in
    let own_is = ap variable_numbers c.own-own.ensures ∙ t.index_is.own_are c.args.c.0 r e in
    clad_of c.own-own.result.now (variables_of r.args) c.is_empty.result own_is c.is_empty.ensures c.if-is_empty.false

pub revise_apart-requires-clause-apart : goal.revise_apart-requires-clause-apart
revise_apart-requires-clause-apart c = λ r e. subst Distinct (c.args.task.now.index_is.own_are c.args.c.0 r e) (c.is_apart.ensures c.if-is_apart.true)

pub revise_each-requires-clause-some : goal.revise_each-requires-clause-some
revise_each-requires-clause-some c = λ r e.
    let t = c.args.task.now in
    let own_is = ap variable_numbers c.own-own.ensures ∙ t.index_is.own_are c.args.c.0 r e in
    clad_of c.own-own.result.now (variables_of r.args) c.is_empty.result own_is c.is_empty.ensures c.if-is_empty.false
