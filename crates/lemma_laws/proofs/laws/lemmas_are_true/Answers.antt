use Rattle.lemma_laws.proofs.InPlace.{lemmas_true}
use Rattle.lemma_laws.proofs.laws.lemmas_are_true.Goals as goal

pub returns : goal.returns
returns c = lemmas_true
