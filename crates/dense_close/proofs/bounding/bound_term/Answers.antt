use Rattle.std.proofs.Common.{rules, ◌≡◌, true, sym, subst}
use Rattle.std.specs.Prelude.{pos, ◌≤ℤ◌}
use Rattle.std.proofs.lemmas.Int.{to_z-of_z}
use mir.Val.{SFits}
use mir.Syntax.{w64}
use Rattle.fd_store.specs.Held.{Held}
use Rattle.qc_model.specs.Refuted.{left_to}
use Rattle.qc_model.specs.Valid.{is_number}
use Rattle.qc_refuter.specs.Met.{is_open}
use Rattle.dense_quiet.specs.Slack.{IsNear, IsTermOf, is_taken}
use Rattle.dense_quiet.specs.Taking.{takes_of}
use Rattle.dense_close.proofs.AtMost.{item_number, item_open, some_room, term_of}
use Rattle.dense_close.proofs.Looked.{one_rule}
use Rattle.dense_close.proofs.bounding.bound_term.Goals as goal

pub is_quiet_term-requires-clause-factor : goal.is_quiet_term-requires-clause-factor
is_quiet_term-requires-clause-factor c =
    let t = c.args.task.now in
    let r = c.constraint-rule.result.now in
    let n_fits : SFits w64 c.args.factor = search rules in
    let small : is_number c.args.factor ≡ true = item_number t.problem.now c.known.ensures c.args.c.0 c.args.remains.now.box r c.args.factor c.args.item c.constraint-rule.ensures c.requires.declared c.requires.full (c.requires.place r c.constraint-rule.ensures) in
    simp to_z-of_z small

pub is_quiet_term-requires-clause-open : goal.is_quiet_term-requires-clause-open
is_quiet_term-requires-clause-open c =
    let t = c.args.task.now in
    let r = c.constraint-rule.result.now in
    subst (λ (h : Held). is_open h.box c.args.item ≡ true) (sym c.store.ensures)
    (item_open t.problem.now c.known.ensures c.args.c.0 c.args.remains.now.box r c.args.factor c.args.item c.constraint-rule.ensures c.requires.declared c.requires.full (c.requires.place r c.constraint-rule.ensures))

pub is_quiet_term-requires-clause-room : goal.is_quiet_term-requires-clause-room
is_quiet_term-requires-clause-room c =
    let s_fits : SFits w64 c.args.room = search rules in
    let long : pos 0 ≤ℤ c.args.room = some_room c.args.task.now.problem.now c.args.c.0 c.args.room c.args.remains.now.box c.requires.c c.requires.bounded in
    simp to_z-of_z long

pub returns-then-is_quiet_term-clause-near : goal.returns-then-is_quiet_term-clause-near
returns-then-is_quiet_term-clause-near c = λ r e taken.
    let t = c.args.task.now in
    let own = c.constraint-rule.result.now in
    let box = c.args.remains.now.box in
    let s_fits : SFits w64 c.args.room = search rules in
    let n_fits : SFits w64 c.args.factor = search rules in
    let seen : is_taken (takes_of t.taking t.problem.now own) c.args.item ≡ true → IsNear c.args.room c.args.factor (left_to c.store.result.now.box c.args.item) = simp to_z-of_z at (c.is_quiet_term.ensures.near c.if-is_quiet_term.true) in
    let here : is_taken (takes_of t.taking t.problem.now own) c.args.item ≡ true → IsNear c.args.room c.args.factor (left_to box c.args.item) = λ w. subst (λ (h : Held). IsNear c.args.room c.args.factor (left_to h.box c.args.item)) c.store.ensures (seen w) in
    let near : IsNear c.args.room c.args.factor (left_to box c.args.item) = one_rule t.problem.now c.args.c.0 own c.constraint-rule.ensures (λ z. is_taken (takes_of t.taking t.problem.now z) c.args.item ≡ true → IsNear c.args.room c.args.factor (left_to box c.args.item)) here r e taken in
    near

pub bound_variable-requires-clause-place : goal.bound_variable-requires-clause-place
bound_variable-requires-clause-place c = λ r e.
    let n_fits : SFits w64 c.args.factor = search rules in
    let term : IsTermOf r c.args.factor c.in-Var.x = term_of r c.args.factor c.args.item c.in-Var.x c.in-Var.is (c.requires.place r e) in
    simp to_z-of_z term
