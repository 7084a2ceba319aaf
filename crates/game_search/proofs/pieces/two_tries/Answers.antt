use Rattle.std.proofs.Common.{◌∙◌, refl, subst, sym, true, false, List, ℤ, Option, IfSome}
use Rattle.std.specs.Prelude.{IsFalse}
use Rattle.joins.specs.Seen.{verdict_of}
use Rattle.search_parts.specs.Settled.{beats_none, is_vague_verdict}
use Rattle.game_search.specs.Beside.{PieceTried}
use Rattle.game_search.specs.Pieces.{kept_box}
use Rattle.game_search.specs.declared.attempts.Root.{Root}
use Rattle.game_search.proofs.Answered.{piece_lines}
use Rattle.game_search.proofs.pieces.two_tries.Goals as goal

pub returns-in-Some-clause-solved : goal.returns-in-Some-clause-solved
returns-in-Some-clause-solved c =
    let g = c.args.levels.now.problem.now in
    let box = kept_box g c.args.keeps.now in
    let r = c.answer_beside.result in
    let s = c.in-Some.first in
    let tried = subst (λ (o : Option Root). IfSome o (λ root. PieceTried true g box c.args.reached c.args.turns root.found root.own root.arena)) c.in-Some.is c.in_ok-first.ensures.tried in
    let decided = subst (λ (o : Option Root). IfSome o (λ root. (v : List ℤ) → IsFalse (is_vague_verdict beats_none (verdict_of root.found v)))) c.in-Some.is c.in_ok-first.ensures.decided in
    piece_lines true g box c.args.reached c.args.turns c.requires.some c.requires.turns c.lines_fit.ensures s.found s.own r.outcome r.optimum s.arena r.arena (λ v e. sym e ∙ decided v) tried c.answer_beside.ensures.outcome c.answer_beside.ensures.optimum c.answer_beside.ensures.lines

pub returns-in-Some-2-clause-solved : goal.returns-in-Some-2-clause-solved
returns-in-Some-2-clause-solved c =
    let g = c.args.levels.now.problem.now in
    let box = kept_box g c.args.keeps.now in
    let r = c.answer_beside-in-Some-2.result in
    let s = c.in-Some-2.second in
    let tried = subst (λ (o : Option Root). IfSome o (λ root. PieceTried false g box c.args.reached c.args.turns root.found root.own root.arena)) c.in-Some-2.is c.in_ok-second_try.ensures.tried in
    piece_lines false g box c.args.reached c.args.turns c.requires.some c.requires.turns c.lines_fit.ensures s.found s.own r.outcome r.optimum s.arena r.arena (λ v e. refl) tried c.answer_beside-in-Some-2.ensures.outcome c.answer_beside-in-Some-2.ensures.optimum c.answer_beside-in-Some-2.ensures.lines
