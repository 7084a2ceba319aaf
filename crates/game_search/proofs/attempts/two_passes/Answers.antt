use Rattle.std.proofs.Common.{◌∙◌, refl, subst, sym, true, false, List, ℤ, Option, IfSome}
use Rattle.std.specs.Prelude.{IsFalse}
use Rattle.joins.specs.Seen.{verdict_of}
use Rattle.search_parts.specs.Settled.{beats_none, is_vague_verdict}
use Rattle.game_search.specs.Attempted.{Attempted}
use Rattle.game_search.specs.declared.attempts.Root.{Root}
use Rattle.game_search.proofs.Solved.{solution_of}
use Rattle.game_search.proofs.attempts.two_passes.Goals as goal

pub returns-in-Some : goal.returns-in-Some
returns-in-Some c =
    let g = c.args.levels.now.problem.now in
    let r = c.answer.result in
    let s = c.in-Some.first in
    let attempted = subst (λ (o : Option Root). IfSome o (λ root. Attempted true g c.args.turns root.found root.own root.arena)) c.in-Some.is c.in_ok-first.ensures.attempted in
    let decided = subst (λ (o : Option Root). IfSome o (λ root. (v : List ℤ) → IsFalse (is_vague_verdict beats_none (verdict_of root.found v)))) c.in-Some.is c.in_ok-first.ensures.decided in
    record {
      solution = solution_of true g c.args.turns c.requires.some c.requires.turns (c.cases_are_few.ensures g) (λ o n t. c.outcomes_are_true.ensures g o n t c.known.ensures) c.lines_fit.ensures s.found s.own r.outcome r.optimum s.arena r.arena (λ v e. sym e ∙ decided v) attempted c.answer.ensures.outcome
          c.answer.ensures.optimum c.answer.ensures.lines;
    }

pub returns : goal.returns
returns c =
    let g = c.args.levels.now.problem.now in
    let r = c.answer-2.result in
    let s = c.in_ok-second.second in
    record {
      solution = solution_of false g c.args.turns c.requires.some c.requires.turns (c.cases_are_few.ensures g) (λ o n t. c.outcomes_are_true.ensures g o n t c.known.ensures) c.lines_fit.ensures s.found s.own r.outcome r.optimum s.arena r.arena (λ v e. refl) c.in_ok-second.ensures c.answer-2.ensures.outcome
          c.answer-2.ensures.optimum c.answer-2.ensures.lines;
    }
