use Rattle.std.proofs.Common.{◌≡◌, ◌∙◌, ◌≤◌, length, IfSome, inl, inr, subst, sym}
use Rattle.lemma_judge.specs.Checking.{IsProof}
use Rattle.lemma_solver.specs.Believed.{IsBelieved}
use Rattle.qecode_commands.proofs.Written.{Wrote-weaker}
use Rattle.dense_commands.proofs.solve.write_or_search.Goals as goal

pub returns-in-Some-clause-wrote : goal.returns-in-Some-clause-wrote
returns-in-Some-clause-wrote g c =
    let game = c.args.problem.now in
    let list = c.in-Some.list in
    let believed : IsBelieved game list = subst (λ o. IfSome o (λ it. IsBelieved game it)) c.in-Some.is c.requires.believed in
    Wrote-weaker _ _ _ _ c.finish.result _ _
    (λ s t is.
    let text : list.text.items ≡ t = sym (is.1 ∙ c.as_slice.ensures.value) in
    inl (record {
      done = is.0;
      loser = list.loser;
      proof = subst (λ q. IsProof game q list.loser) text believed.proof;
      within = subst (λ q. length q ≤ 1073741824) text believed.within;
    }))
    c.finish.ensures.wrote

pub returns-in-None-clause-wrote : goal.returns-in-None-clause-wrote
returns-in-None-clause-wrote g c = Wrote-weaker _ _ _ _ c.solve_problem.result _ _ (λ s t h. inr h) c.solve_problem.ensures.wrote
