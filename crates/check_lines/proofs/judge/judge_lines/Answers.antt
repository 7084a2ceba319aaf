use Rattle.std.proofs.Common.{◌+◌, ◌≤◌, subst, arith, length, Some}
use Rattle.check_lines.specs.LedgerHeld.{first_ledger, goes_through}
use Rattle.check_lines.specs.Found.{Answers}
use Rattle.check_lines.proofs.judge.judge_lines.Goals as goal
use Rattle.check_lines.proofs.judge.judge_lines.Goals.{After-finish}

answered : (c : After-finish) → Answers c.finish.result (goes_through c.args.problem.now (Some (first_ledger c.args.problem.now)) c.args.lines.now)
answered c =
    let g = c.args.problem.now in
    let few : 0 + length c.args.lines.now ≤ 4294967296 = omega (arith, c.requires.few) in
    subst (λ u. Answers c.finish.result (goes_through u (Some (first_ledger g)) c.args.lines.now)) c.in_ok-machine.ensures.same (c.finish.ensures.answers _ (c.lines.ensures.tells 0 (Some (first_ledger g)) few c.in_ok-machine.ensures.tells).tells)

pub returns-clause-right : goal.returns-clause-right
returns-clause-right c = λ f e.
    let g = c.args.problem.now in
    c.answers_are_right.ensures.others g c.args.lines.now f (subst (λ o. Answers o (goes_through g (Some (first_ledger g)) c.args.lines.now)) e (answered (goal.at.returns-clause-right c).After-finish))

pub returns-clause-all : goal.returns-clause-all
returns-clause-all c = λ t e deep placed.
    let g = c.args.problem.now in
    c.answers_are_right.ensures.trees g t c.finish.result (subst (λ ls. Answers c.finish.result (goes_through g (Some (first_ledger g)) ls)) e (answered (goal.at.returns-clause-all c).After-finish)) deep placed
