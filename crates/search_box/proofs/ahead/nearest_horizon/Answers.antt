use Rattle.std.proofs.Common.{subst}
use Rattle.qc_cascade.specs.Ahead.{IsEntered}
use Rattle.search_box.specs.Looking.{scope_number, first_unseen}
use Rattle.search_box.proofs.Looks.{nothing_ahead, horizon_ahead, trimmed_ahead}
use Rattle.search_trim.specs.Trims.{Trims}
use Rattle.search_box.proofs.ahead.nearest_horizon.Goals as goal

pub returns-in-None-clause-answer : goal.returns-in-None-clause-answer
returns-in-None-clause-answer g c =
    let game = c.args.levels.now.problem.now in
    let h = scope_number c.args.in_force in
    let found = subst (λ z. IsEntered game c.args.i.0 (first_unseen game h) c.args.store.now.box z c.in_ok-found.found.steps) c.in-None.is c.in_ok-found.ensures.answer in
    nothing_ahead game c.args.i.0 c.args.store.now.box h c.in_ok-found.found.steps c.requires.scope found

pub returns-clause-answer : goal.returns-clause-answer
returns-clause-answer g c =
    let game = c.args.levels.now.problem.now in
    let h = scope_number c.args.in_force in
    let found = subst (λ z. IsEntered game c.args.i.0 (first_unseen game h) c.args.store.now.box z c.in_ok-found.found.steps) c.in-Some.is c.in_ok-found.ensures.answer in
    let whole = horizon_ahead game c.args.i.0 c.args.store.now.box h (record { scope = c.in-Some.scope; steps = c.in_ok-found.found.steps }) c.known.ensures c.requires.declared c.requires.scope found.0 found.1 in
    trimmed_ahead game c.args.i.0 c.args.store.now.box h (record { scope = c.in-Some.scope; steps = c.in_ok-found.found.steps }) c.in_ok-steps-in-Some.steps c.requires.full whole
    (subst (λ steps. Trims game steps c.in_ok-steps-in-Some.steps) c.items.ensures c.in_ok-steps-in-Some.ensures.right)

pub returns-clause-to : goal.returns-clause-to
returns-clause-to g c =
    let game = c.args.levels.now.problem.now in
    let h = scope_number c.args.in_force in
    let found = subst (λ z. IsEntered game c.args.i.0 (first_unseen game h) c.args.store.now.box z c.in_ok-found.found.steps) c.in-Some.is c.in_ok-found.ensures.answer in
    found.1.to
