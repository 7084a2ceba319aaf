use Rattle.std.proofs.Common.{◌≡◌, ◌≤◌, ◌+◌, length, refl, sym, subst, arith}
use Rattle.qc_model.specs.Content.{Game}
use Rattle.proof_tree.specs.declared.line.Line.TheVariants.{Horizon}
use Rattle.check_lines.specs.Machine.{game_of}
use Rattle.check_lines.specs.Ledger.{goes}
use Rattle.qc_check.proofs.Given.{takes_like, far_horizon}
use Rattle.qc_check.proofs.giving.give_scope.Goals as goal

pub returns-then-scope-eq255-clause-takes : goal.returns-then-scope-eq255-clause-takes
returns-then-scope-eq255-clause-takes c =
    let s = c.args.space.now in
    let g = game_of s.machine in
    let few : length g.scopes ≤ 64 = subst (λ (u : Game). length u.scopes ≤ 64) (sym s.of_problem) c.known.ensures.few_scopes in
    let last : c.args.scope.0 ≡ 255 = omega (arith, c.if-scope-eq255.true) in
    takes_like s _ (Horizon 0) (Horizon (c.args.scope.0 + 1)) (λ n. refl)
    (λ p. subst (λ k. goes g p (Horizon 0) ≡ goes g p (Horizon (k + 1))) (sym last) (far_horizon g few 255 (omega arith) p)) c.give.ensures.takes
