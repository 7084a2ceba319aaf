use Rattle.std.proofs.Common.{◌≡◌, suc, length, sym, arith}
use Rattle.qc_model.specs.declared.problem.Kind.TheVariants.{Exists, Forall}
use Rattle.search_box.proofs.Complete.{last_kind}
use Rattle.search_box.proofs.tuple.takes_goal.Goals as goal
use Rattle.search_box.proofs.tuple.takes_goal.Goals.{After-level}

last_number : (c : After-level) → suc c.level.result.now.number ≡ length c.args.levels.now.problem.now.scopes
last_number c = let number = c.level.ensures.number in let count = c.scopes-scopes.ensures in let some = c.if-scopes-eq0.false in omega (arith, number, count, some)

pub returns-in-Exists : goal.returns-in-Exists
returns-in-Exists c =
    let l = c.level.result.now in
    sym (last_kind c.args.levels.now.problem.now l.problem.now l.number l.kind Exists c.level.ensures.problem (last_number (goal.at.returns-in-Exists c).After-level) l.has_kind c.in-Exists.is)

pub returns-in-Forall : goal.returns-in-Forall
returns-in-Forall c =
    let l = c.level.result.now in
    sym (last_kind c.args.levels.now.problem.now l.problem.now l.number l.kind Forall c.level.ensures.problem (last_number (goal.at.returns-in-Forall c).After-level) l.has_kind c.in-Forall.is)
