use Rattle.std.proofs.Common.{subst, sym, ◌∙◌}
use Rattle.qc_model.specs.declared.problem.Kind.TheVariants.{Exists}
use Rattle.lemma_judge.specs.Checking.{IsProof}
use Rattle.best_judge.proofs.Lists.{other_side, sides_differ}
use Rattle.best_judge.proofs.part.of_player.Goals as goal

pub returns-in-Exists : goal.returns-in-Exists
returns-in-Exists c = λ g bytes h. subst (IsProof g bytes) (sym c.in-Exists.is) h

pub returns-in-Forall : goal.returns-in-Forall
returns-in-Forall c = λ g bytes h. other_side g bytes Exists c.args.loser c.each_text_is_of_one_list.ensures (λ e. sides_differ (e ∙ c.in-Forall.is)) h
