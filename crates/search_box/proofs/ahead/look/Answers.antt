use Rattle.std.proofs.Common.{[], subst}
use Rattle.qc_cascade.specs.Ahead.{IsOpen}
use Rattle.search_box.specs.Looking.{scope_number}
use Rattle.search_box.proofs.Looks.{nothing_ahead}
use Rattle.search_box.proofs.ahead.look.Goals as goal

pub returns-then-branch-clause-answer : goal.returns-then-branch-clause-answer
returns-then-branch-clause-answer g c =
    let game = c.args.levels.now.problem.now in
    let box = c.args.store.now.box in
    nothing_ahead game c.args.i.0 box (scope_number c.args.in_force) [] c.requires.scope
    (subst (λ n. IsOpen game c.args.i.0 n box []) c.stop_of-stop.ensures (c.in_ok-sees.ensures.seen c.if-branch.true))
