use Rattle.std.proofs.Common.{◌≡◌, ◌∙◌, ◌≤◌, length, IfSome, inl, inr, subst, sym}
use Rattle.dense_judge.specs.Checking.{IsProof}
use Rattle.dense_solver.specs.Shown.{IsShown}
use Rattle.qecode_commands.proofs.Written.{Wrote-weaker}
use Rattle.dense_commands.proofs.solve.write_shown_or_search.Goals as goal

pub returns-in-Some-clause-wrote : goal.returns-in-Some-clause-wrote
returns-in-Some-clause-wrote g c =
    let game = c.args.problem.now in
    let shown = c.in-Some.shown in
    let is_shown : IsShown game shown = subst (λ o. IfSome o (λ it. IsShown game it)) c.in-Some.is c.requires.shown in
    Wrote-weaker _ _ _ _ c.finish.result _ _
    (λ s t is.
    let text : shown.text.items ≡ t = sym (is.1 ∙ c.as_slice.ensures.value) in
    inl (record {
      done = is.0;
      outcome = shown.outcome;
      optimum = shown.optimum;
      settled = is_shown.settled;
      proof = subst (λ q. IsProof game q shown.outcome shown.optimum) text is_shown.proof;
      within = subst (λ q. length q ≤ 1073741824) text is_shown.within;
    }))
    c.finish.ensures.wrote

pub returns-in-None-clause-wrote : goal.returns-in-None-clause-wrote
returns-in-None-clause-wrote g c = Wrote-weaker _ _ _ _ c.solve_by_lists.result _ _ (λ s t h. inr h) c.solve_by_lists.ensures.wrote
