use Rattle.std.proofs.Common.{subst}
use Rattle.lemma_judge.specs.Checking.{IsProof}
use Rattle.best_judge.proofs.part.stated_by.Goals as goal

pub returns-in-Exists : goal.returns-in-Exists
returns-in-Exists c = λ g bytes h. c.of_player.ensures g bytes (subst (IsProof g bytes) c.in-Exists.is h)

pub returns-in-Forall : goal.returns-in-Forall
returns-in-Forall c = λ g bytes h. c.of_opponent.ensures g bytes (subst (IsProof g bytes) c.in-Forall.is h)
