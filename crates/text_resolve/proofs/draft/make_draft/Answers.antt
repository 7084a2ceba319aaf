use Rattle.std.proofs.Common.{◌≤◌, sym, subst, length, List}
use Rattle.qc_model.specs.declared.problem.Scope.{Scope}
use Rattle.text_resolve.proofs.Counted.{made_few}
use Rattle.text_resolve.proofs.draft.make_draft.Goals as goal

pub returns-clause-few : goal.returns-clause-few
returns-clause-few c = subst (λ (ss : List Scope). length ss ≤ 64) (sym c.in_ok-scopes_of.ensures) (made_few c.args.names.now.text.now c.args.names.now.items.now c.requires)
