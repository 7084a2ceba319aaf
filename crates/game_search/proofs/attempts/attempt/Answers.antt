use Rattle.std.proofs.Common.{subst, IfOk}
use Rattle.game_search.specs.Attempted.{Attempted}
use Rattle.game_search.proofs.attempts.attempt.Goals as goal

pub returns-in-Ok-clause-attempted : goal.returns-in-Ok-clause-attempted
returns-in-Ok-clause-attempted c = subst (λ n. IfOk c.go_through-root.result (λ root. Attempted c.args.cuts c.args.levels.now.problem.now n root.found root.own root.arena)) c.in-Ok.ensures.left c.go_through-root.ensures.attempted
