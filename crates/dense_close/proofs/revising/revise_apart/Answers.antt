use Rattle.std.proofs.Common.{rules, ◌≡◌, refl, subst, sym, true}
use Rattle.std.specs.Prelude.{slice_get, Some}
use Rattle.std.proofs.lemmas.Int.{to_z-of_z}
use mir.Val.{SFits}
use mir.Syntax.{w64}
use Rattle.qc_model.specs.Content.{Rule}
use Rattle.qc_model.specs.Refuted.{refuted_by}
use Rattle.fd_store.specs.Held.{Held}
use Rattle.model_arguments.specs.Asked.{IsAsked}
use Rattle.dense_quiet.specs.Advice.{AdviceTells}
use Rattle.dense_quiet.specs.Slack.{IsBounded, SparesTaken}
use Rattle.dense_quiet.specs.Taking.{takes_of}
use Rattle.dense_close.proofs.Cuts.{asked}
use Rattle.dense_close.proofs.Looked.{lost_by, one_rule, settled_all, settled_roomy}
use Rattle.dense_close.proofs.revising.revise_apart.Goals as goal

pub see-requires-clause-asked : goal.see-requires-clause-asked
see-requires-clause-asked c =
    let t = c.args.task.now in
    subst (λ (h : Held). IsAsked t.problem.now c.constraint-rule.result.now h.box) (sym c.store.ensures) (asked t.problem.now c.known.ensures c.args.remains.now.box c.requires.declared c.requires.full c.args.c.0 c.constraint-rule.result.now c.constraint-rule.ensures)

pub see-requires-clause-apart : goal.see-requires-clause-apart
see-requires-clause-apart c = c.requires.apart c.constraint-rule.result.now c.constraint-rule.ensures

pub returns-in-Quiet-clause-answer : goal.returns-in-Quiet-clause-answer
returns-in-Quiet-clause-answer c =
    let t = c.args.task.now in
    let r = c.constraint-rule.result.now in
    let spares = subst (λ (h : Held). SparesTaken (takes_of t.taking t.problem.now) r h.box) c.store.ensures c.in-Quiet.ensures in (
      refl,
      refl,
      settled_all t.taking t.problem.now t.span.first t.span.end c.args.c.0 c.args.list.now c.args.remains.now.box c.requires.others
          (settled_roomy t.taking t.problem.now c.args.c.0 r c.args.list.now c.args.remains.now.box c.constraint-rule.ensures spares),
    )

pub returns-in-Refuted-clause-answer : goal.returns-in-Refuted-clause-answer
returns-in-Refuted-clause-answer c =
    let t = c.args.task.now in
    let r = c.constraint-rule.result.now in
    let broken = subst (λ (h : Held). refuted_by r h.box ≡ true) c.store.ensures c.in-Refuted.ensures in
    lost_by t.taking t.problem.now c.known.ensures t.from t.stop t.span.first t.span.end c.args.c.0 r c.args.remains.now.box t.span_is c.requires.inside c.constraint-rule.ensures c.requires.declared (c.requires.some r c.constraint-rule.ensures) broken

pub revise_advised-requires-clause-tells : goal.revise_advised-requires-clause-tells
revise_advised-requires-clause-tells c =
    let t = c.args.task.now in
    let r = c.constraint-rule.result.now in
    let box = c.args.remains.now.box in
    let tells : AdviceTells c.in-Advised.advice r box = subst (λ (h : Held). AdviceTells c.in-Advised.advice r h.box) c.store.ensures c.in-Advised.ensures in
    one_rule t.problem.now c.args.c.0 r c.constraint-rule.ensures (λ z. AdviceTells c.in-Advised.advice z box) tells

pub revise_bounded-requires-clause-bounded : goal.revise_bounded-requires-clause-bounded
revise_bounded-requires-clause-bounded c =
    let t = c.args.task.now in
    let r = c.constraint-rule.result.now in
    let box = c.args.remains.now.box in
    let bounded : IsBounded r c.in-Bounded.room box = subst (λ (h : Held). IsBounded r c.in-Bounded.room h.box) c.store.ensures c.in-Bounded.ensures in
    let s_fits : SFits w64 c.in-Bounded.room = search rules in
    let all : (z : Rule) → slice_get t.problem.now.constraints c.args.c.0 ≡ Some z → IsBounded z c.in-Bounded.room box = one_rule t.problem.now c.args.c.0 r c.constraint-rule.ensures (λ z. IsBounded z c.in-Bounded.room box) bounded in
    simp to_z-of_z all
