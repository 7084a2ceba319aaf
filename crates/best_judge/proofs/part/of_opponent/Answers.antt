use Rattle.std.proofs.Common.{subst, sym, ◌∙◌}
use Rattle.qc_model.specs.declared.problem.Kind.TheVariants.{Forall}
use Rattle.lemma_judge.specs.Checking.{IsProof}
use Rattle.best_judge.proofs.Lists.{other_side, sides_differ}
use Rattle.best_judge.proofs.part.of_opponent.Goals as goal

pub returns-in-Exists : goal.returns-in-Exists
returns-in-Exists c = λ g bytes h. other_side g bytes Forall c.args.loser c.each_text_is_of_one_list.ensures (λ e. sides_differ (sym (e ∙ c.in-Exists.is))) h

pub returns-in-Forall : goal.returns-in-Forall
returns-in-Forall c = λ g bytes h. subst (IsProof g bytes) (sym c.in-Forall.is) h
