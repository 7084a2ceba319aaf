use Rattle.std.proofs.Common.{◌≡◌, ◌∙◌, ◌≤◌, length, IfSome, inl, inr, subst, sym}
use Rattle.best_judge.specs.Proof.{IsBestProof}
use Rattle.best_solver.specs.Best.{IsBest}
use Rattle.qecode_commands.proofs.Written.{Wrote-weaker}
use Rattle.dense_commands.proofs.solve.write_best_or_search.Goals as goal

pub returns-in-Some-clause-wrote : goal.returns-in-Some-clause-wrote
returns-in-Some-clause-wrote g c =
    let game = c.args.problem.now in
    let best = c.in-Some.best in
    let is_best : IsBest game best = subst (λ o. IfSome o (λ it. IsBest game it)) c.in-Some.is c.requires.best in
    Wrote-weaker _ _ _ _ c.finish.result _ _
    (λ s t is.
    let text : best.text.items ≡ t = sym (is.1 ∙ c.as_slice.ensures.value) in
    inl (record {
      done = is.0;
      value = best.value;
      proof = subst (λ q. IsBestProof game q best.value) text is_best.proof;
      within = subst (λ q. length q ≤ 1073741824) text is_best.within;
    }))
    c.finish.ensures.wrote

pub returns-in-None-clause-wrote : goal.returns-in-None-clause-wrote
returns-in-None-clause-wrote g c = Wrote-weaker _ _ _ _ c.solve_game.result _ _ (λ s t h. inr h) c.solve_game.ensures.wrote
